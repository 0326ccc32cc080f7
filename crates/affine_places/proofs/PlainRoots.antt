-- The roots of a procedure that has extents have extents over variables alone.
use Rattle.std.proofs.Common.{◌≡◌, ℕ, ◌==◌, Bool, true, false, cond, List, [], ◌∷◌, length, Option, Some, None, refl, subst}
use Rattle.exo_tree.specs.Tree.{Coord, Statement, Assign, Reduce, Config, Pass, If, For, Alloc, View, Call, Block, end, next, Param, ParamKind, ControlParam, TensorParam, WindowParam, Procedure}
use Rattle.affine_forms.proofs.Values.{and_parts, some_injective, none_some}
use Rattle.affine_places.specs.Roots.{Layout, Dense, Strided, Rooted, Roots, no_roots, own_root, with_root, with_kind, with_params, seen_through, with_view, with_block, with_statement, roots_of, are_extents, kind_has_extents, params_have_extents, block_has_extents, statement_has_extents, has_extents}

abbrev pub HasExtents : Layout → Type 0
HasExtents (Dense extents) = are_extents extents ≡ true
HasExtents Strided = Unit {0}

abbrev pub HaveExtents : Roots → Type 0
HaveExtents roots = (x : ℕ) (r : Rooted) → roots x ≡ Some r → HasExtents r.layout

put : (k : ℕ) (s : Rooted) (roots : Roots) → HasExtents s.layout → HaveExtents roots → HaveExtents (with_root k s roots)
put k s roots h all x r e = go (x == k) e
  where
    go : (t : Bool) → cond t (Some s) (roots x) ≡ Some r → HasExtents r.layout
    go true e = subst (λ q. HasExtents q.layout) (some_injective s r e) h
    go false e = all x r e

put_view : (w : ℕ) (cs : List Coord) (x : ℕ) (roots : Roots) → HaveExtents roots → (o : Option Rooted) → roots x ≡ o → HaveExtents (with_view w cs o roots)
put_view w cs x roots all None e = all
put_view w cs x roots all (Some r) e = put w (seen_through cs r) roots (all x r e) all

put_kind : (x : ℕ) (kind : ParamKind) (roots : Roots) → kind_has_extents kind ≡ true → HaveExtents roots → HaveExtents (with_kind x kind roots)
put_kind x (ControlParam kind) roots h all = all
put_kind x (TensorParam cell es memory) roots h all = put x (own_root x (Dense es) (length es)) roots h all
put_kind x (WindowParam cell es memory) roots h all = put x (own_root x Strided (length es)) roots tt all

put_params : (ps : List Param) (roots : Roots) → params_have_extents ps ≡ true → HaveExtents roots → HaveExtents (with_params ps roots)
put_params [] roots h all = all
put_params (p ∷ ps) roots h all =
    let k = and_parts (kind_has_extents p.kind) (params_have_extents ps) h in
    put_params ps (with_kind p.binder.id p.kind roots) k.1 (put_kind p.binder.id p.kind roots k.0 all)

mutual
  put_block : (b : Block) (roots : Roots) → block_has_extents b ≡ true → HaveExtents roots → HaveExtents (with_block b roots)
  put_block end roots h all = all
  put_block (next a b) roots h all =
      let k = and_parts (statement_has_extents a) (block_has_extents b) h in
      put_block b (with_statement a roots) k.1 (put_statement a roots k.0 all)

  put_statement : (a : Statement) (roots : Roots) → statement_has_extents a ≡ true → HaveExtents roots → HaveExtents (with_statement a roots)
  put_statement (Assign x is e) roots h all = all
  put_statement (Reduce x is e) roots h all = all
  put_statement (Config f a) roots h all = all
  put_statement Pass roots h all = all
  put_statement (If c a b) roots h all =
      let k = and_parts (block_has_extents a) (block_has_extents b) h in
      put_block b (with_block a roots) k.1 (put_block a roots k.0 all)
  put_statement (For i lo hi b) roots h all = put_block b roots h all
  put_statement (Alloc x cell es memory) roots h all = put x.id (own_root x.id (Dense es) (length es)) roots h all
  put_statement (View w x cs) roots h all = put_view w.id cs x roots all (roots x) refl
  put_statement (Call k args) roots h all = all

pub roots_have_extents : (p : Procedure) → has_extents p ≡ true → HaveExtents (roots_of p)
roots_have_extents p h =
    let k = and_parts (params_have_extents p.params) (block_has_extents p.body) h in
    put_block p.body (with_params p.params no_roots) k.1 (put_params p.params no_roots k.0 (λ x r e. absurd (none_some e)))
