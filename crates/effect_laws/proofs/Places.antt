-- What names stand for at a place of a procedure, as their parts tell.
use Rattle.std.proofs.Common.{◌≡◌, ℕ, ℤ, pos, ◌-ℤ◌, ◌==◌, Bool, true, false, true≢false, cond, not, ◌&&◌, List, [], ◌∷◌, map, length, Option, Some, None, option_map, refl, sym, ap, ap₂, ◌∙◌, subst, eqb-true, arith}
use Rattle.std.specs.Prelude.{IsSome}
use Rattle.std.specs.List.{list_all}
use Rattle.std.proofs.lemmas.Int.{ints}
use Rattle.exo_tree.specs.Tree.{Binder, Kind, Index, Control, Coord, At, Span, Statement, Assign, Reduce, Config, Pass, If, For, Alloc, View, Call, Block, joined as joined_blocks, Param, ParamKind, ControlParam, TensorParam, WindowParam}
use Rattle.exo_tree.specs.Context.{Context, Here, After, InLoop, InThen, InElse, fill}
use Rattle.exo_meaning.specs.Scene.{Seen, Scene, Range, numbers, number, narrowed, window, whole}
use Rattle.exo_meaning.specs.Calls.{Callee}
use Rattle.exo_meaning.specs.Run.{roots_after}
use Rattle.exo_meaning.specs.Inputs.{IsArgument, AreArguments, is_buffer_of}
use Rattle.exo_meaning.specs.Units.{Sort, ControlName, BufferName, Scope, sort_in, with_name, is_new, has_rank, spans, view_sort, plainly, with_fields, is_control, are_controls, is_condition, is_coord, is_window, is_empty, is_short, is_block, is_statement, is_param_kind, are_params, param_sort, scope_of, scope_after}
use Rattle.meaning_laws.specs.Sound.{binds, on_way}
use Rattle.meaning_laws.specs.Sorted.{scope_at}
use Rattle.meaning_laws.specs.Made as made
use Rattle.affine_forms.specs.Forms.{is_affine}
use Rattle.check_laws.proofs.OfFacts.Truths.{parts, joined, both_false, on_left, on_right, self, none_some, some_injective}
use Rattle.check_laws.proofs.OfFacts.Affine.{same_number}
use Rattle.check_laws.proofs.OfFacts.Sides.{map_gives}
use Rattle.exo_effects.specs.Parts.{Part, Parts, all_of, whole_of, window_of, with_kind, with_params, passed, parts_at}
use Rattle.effect_laws.specs.Covers.{names_in, is_affine_coord, sides_of, SeesPart}
use Rattle.effect_laws.proofs.Forms.{bound_is_affine}
use Rattle.effect_laws.proofs.Cells.{narrowed_sides, joined_affine}
use Rattle.effect_laws.proofs.Known.{IsPart, Further, sees_further, more_coords, name_further}
use Rattle.effect_laws.proofs.Covers.{then_gives}

has_name : (n : ℕ) (o : Option Sort) → has_rank n o ≡ true → IsSome o
has_name n None h = absurd (true≢false (sym h))
has_name n (Some s) h = refl

module _ (fields : ℕ → Option Kind) (memories : ℕ) (callees : ℕ → Option Callee) (now : Scene) where
  abbrev IsToldBy : Scope → ℕ → Option Part → Type 0
  IsToldBy scope x o = (seen : Seen) → now.views x ≡ Some seen → IsPart scope now o seen

  abbrev pub AllTold : Scope → Parts → Type 0
  AllTold scope table = (x : ℕ) → IsSome (sort_in scope x) → IsToldBy scope x (table x)

  told_more : (scope more : Scope) → Further scope more now now → (x : ℕ) (o : Option Part) → IsToldBy scope x o → IsToldBy more x o
  told_more scope more f x o h seen e = let p = h seen e in (p.0, p.1, sees_further scope more now now f p.0 seen p.2)

  further : (scope : Scope) (x : Binder) (sort : Sort) → is_new scope x ≡ true → Further scope (with_name scope x sort) now now
  further scope x sort new = name_further scope x sort now now new (λ y h. refl)

  -- one name more, and what it stands for
  with_one : (scope : Scope) (table : Parts) (x : Binder) (sort : Sort) (o : Option Part) → is_new scope x ≡ true → IsToldBy (with_name scope x sort) x.id o → AllTold scope table → AllTold (with_name scope x sort) (λ y. cond (y == x.id) o (table y))
  with_one scope table x sort o new own all y = go (y == x.id) refl
    where
      go : (t : Bool) → (y == x.id) ≡ t → IsSome (cond t (Some sort) (sort_in scope y)) → IsToldBy (with_name scope x sort) y (cond t o (table y))
      go true e h = subst (λ z. IsToldBy (with_name scope x sort) z o) (sym (eqb-true y x.id e)) own
      go false e h = told_more scope (with_name scope x sort) (further scope x sort new) y (table y) (all y h)

  -- a name of no buffer
  with_number : (scope : Scope) (table : Parts) (x : Binder) (sort : Sort) → is_new scope x ≡ true → now.views x.id ≡ None → AllTold scope table → AllTold (with_name scope x sort) table
  with_number scope table x sort new none all y = go (y == x.id) refl
    where
      go : (t : Bool) → (y == x.id) ≡ t → IsSome (cond t (Some sort) (sort_in scope y)) → IsToldBy (with_name scope x sort) y (table y)
      go true e h = λ seen v. absurd (none_some (sym none ∙ ap now.views (sym (eqb-true y x.id e)) ∙ v))
      go false e h = told_more scope (with_name scope x sort) (further scope x sort new) y (table y) (all y h)

  -- ---- whole buffers

  whole_sides : (dims : List Control) → whole (numbers now dims) ≡ sides_of now (map all_of dims)
  whole_sides [] = refl
  whole_sides (d ∷ dims) = ap₂ (λ n rest. Range (pos 0) n ∷ rest) (less_none (number now d)) (whole_sides dims)
    where
      less_none : (n : ℤ) → n ≡ n -ℤ pos 0
      less_none n = omega (arith, ints)

  whole_affine : (scope more : Scope) → Further scope more now now → (dims : List Control) → are_controls fields plainly scope dims ≡ true → list_all (is_affine_coord (names_in more)) (map all_of dims) ≡ true
  whole_affine scope more f [] h = refl
  whole_affine scope more f (d ∷ dims) h =
      let p = parts (is_control fields plainly scope d) (are_controls fields plainly scope dims) h in
      let one = more_coords scope more now now f (all_of d ∷ []) (joined (is_affine (names_in scope) d) true (bound_is_affine fields scope d p.0) refl) in
      joined (is_affine_coord (names_in more) (all_of d)) (list_all (is_affine_coord (names_in more)) (map all_of dims)) (parts (is_affine_coord (names_in more) (all_of d)) true one).0 (whole_affine scope more f dims p.1)

  whole_told : (scope : Scope) (x : Binder) (sort : Sort) (dims : List Control) → is_new scope x ≡ true → are_controls fields plainly scope dims ≡ true → now.views x.id ≡ Some (record { buffer = x.id; sides = whole (numbers now dims) }) → IsToldBy (with_name scope x sort) x.id (Some (whole_of x.id dims))
  whole_told scope x sort dims new plain v seen e =
      let same = some_injective (record { buffer = x.id; sides = whole (numbers now dims) }) seen (sym v ∙ e) in (
        whole_of x.id dims,
        refl,
        record {
          root = ap (λ (z : Seen). z.buffer) (sym same);
          affine = whole_affine scope (with_name scope x sort) (further scope x sort new) dims plain;
          sides = ap (λ (z : Seen). z.sides) (sym same) ∙ whole_sides dims;
        },
      )

  -- ---- windows

  coords_affine : (scope : Scope) (cs : List Coord) → list_all (is_coord fields scope) cs ≡ true → list_all (is_affine_coord (names_in scope)) cs ≡ true
  coords_affine scope [] h = refl
  coords_affine scope (At e ∷ cs) h =
      let q = parts (is_control fields plainly scope e) (list_all (is_coord fields scope) cs) h in
      joined (is_affine (names_in scope) e) (list_all (is_affine_coord (names_in scope)) cs) (bound_is_affine fields scope e q.0) (coords_affine scope cs q.1)
  coords_affine scope (Span a b ∷ cs) h =
      let q = parts (is_control fields plainly scope a && is_control fields plainly scope b) (list_all (is_coord fields scope) cs) h in
      let r = parts (is_control fields plainly scope a) (is_control fields plainly scope b) q.0 in
      joined (is_affine (names_in scope) a && is_affine (names_in scope) b) (list_all (is_affine_coord (names_in scope)) cs)
      (joined (is_affine (names_in scope) a) (is_affine (names_in scope) b) (bound_is_affine fields scope a r.0) (bound_is_affine fields scope b r.1)) (coords_affine scope cs q.1)

  pub window_part : (scope : Scope) (table : Parts) (x : ℕ) (cs : List Coord) (z : Seen) → IsToldBy scope x (table x) → list_all (is_coord fields scope) cs ≡ true → window now x cs ≡ Some z → IsPart scope now (option_map (window_of cs) (table x)) z
  window_part scope table x cs z h keeps e =
      let t = then_gives (now.views x) (λ seen. option_map (λ sides. record { buffer = seen.buffer; sides = sides }) (narrowed now seen.sides cs)) z e in
      let m = map_gives (narrowed now t.0.sides cs) (λ sides. record { buffer = t.0.buffer; sides = sides }) z t.2 in
      let p = h t.0 t.1 in (
        window_of cs p.0,
        ap (option_map (window_of cs)) p.1,
        record {
          root = ap (λ (q : Seen). q.buffer) (sym m.2) ∙ p.2.root;
          affine = joined_affine (names_in scope) p.0.coords cs p.2.affine (coords_affine scope cs keeps);
          sides = ap (λ (q : Seen). q.sides) (sym m.2) ∙ narrowed_sides now p.0.coords cs m.0 (ap (λ ss. narrowed now ss cs) (sym p.2.sides) ∙ m.1);
        },
      )

  -- ---- on the way

  step_told : (a : Statement) (scope : Scope) (root : ℕ → ℕ) (table : Parts) → is_statement fields memories callees scope root a ≡ true → made.IsMade now a → AllTold scope table → AllTold (scope_after a scope) (passed a table)
  step_told (Assign x is e) scope root table keeps there all = all
  step_told (Reduce x is e) scope root table keeps there all = all
  step_told (Config f g) scope root table keeps there all = all
  step_told Pass scope root table keeps there all = all
  step_told (If c a b) scope root table keeps there all = all
  step_told (For i lo hi b) scope root table keeps there all = all
  step_told (Alloc x cell dims memory) scope root table keeps there all =
      let p = parts (is_new scope x) _ keeps in
      let q = parts (are_controls fields plainly scope dims) _ p.1 in
      with_one scope table x (BufferName cell (length dims) true) (Some (whole_of x.id dims)) p.0 (whole_told scope x (BufferName cell (length dims) true) dims p.0 q.0 there.1) all
  step_told (View v x cs) scope root table keeps there all =
      let p = parts (is_new scope v) _ keeps in
      let q = parts (is_window fields scope x cs) _ p.1 in
      let r = parts (has_rank (length cs) (sort_in scope x)) (list_all (is_coord fields scope) cs) q.0 in
      let sort = view_sort (sort_in scope x) (spans cs) in
      with_one scope table v sort (option_map (window_of cs) (table x)) p.0 (λ seen e.
      let w = window_part scope table x cs there.0 (all x (has_name (length cs) (sort_in scope x) r.0)) r.1 there.1 in
      (w.0, w.1, sees_further scope (with_name scope v sort) now now (further scope v sort p.0) w.0 seen (subst (SeesPart scope now w.0) (some_injective there.0 seen (sym there.2 ∙ e)) w.2))) all
  step_told (Call k args) scope root table keeps there all = all

  -- a block is well formed there, whatever it is that stands behind it
  abbrev pub IsFormedAt : Scope → Block → Type 0
  IsFormedAt scope old = (rest : Block) × (root : ℕ → ℕ) × (is_block fields memories callees scope root (joined_blocks old rest) ≡ true)

  pub way_told : (c : Context) (old : Block) (scope : Scope) (root : ℕ → ℕ) (table : Parts) → is_block fields memories callees scope root (fill c old) ≡ true → made.AreMade now c → AllTold scope table → AllTold (scope_at c scope) (parts_at c table) × IsFormedAt (scope_at c scope) old
  way_told (Here rest) old scope root table keeps there all = (all, (rest, root, keeps))
  way_told (After a c) old scope root table keeps there all =
      let q = parts (is_statement fields memories callees scope root a) (is_block fields memories callees (scope_after a scope) (roots_after a root) (fill c old)) keeps in
      way_told c old (scope_after a scope) (roots_after a root) (passed a table) q.1 there.1 (step_told a scope root table q.0 there.0 all)
  way_told (InLoop i lo hi c rest) old scope root table keeps there all =
      let b = fill c old in
      let o = parts (is_statement fields memories callees scope root (For i lo hi b)) (is_block fields memories callees scope root rest) keeps in
      let p = parts (is_new scope i) _ o.0 in
      let q = parts (is_control fields plainly scope lo && is_control fields plainly scope hi) _ p.1 in
      let w = parts (not (is_empty b) && is_short b) (is_block fields memories callees (with_name scope i (ControlName Index)) root b) q.1 in
      way_told c old (with_name scope i (ControlName Index)) root table w.1 there.1 (with_number scope table i (ControlName Index) p.0 there.0 all)
  way_told (InThen test c other rest) old scope root table keeps there all =
      let b = fill c old in
      let o = parts (is_statement fields memories callees scope root (If test b other)) (is_block fields memories callees scope root rest) keeps in
      let q = parts (not (is_empty b) && (is_short b && is_short other)) _ (parts (is_condition fields with_fields scope test) _ o.0).1 in
      way_told c old scope root table (parts (is_block fields memories callees scope root b) (is_block fields memories callees scope root other) q.1).0 there all
  way_told (InElse test other c rest) old scope root table keeps there all =
      let b = fill c old in
      let o = parts (is_statement fields memories callees scope root (If test other b)) (is_block fields memories callees scope root rest) keeps in
      let q = parts (not (is_empty other) && (is_short other && is_short b)) _ (parts (is_condition fields with_fields scope test) _ o.0).1 in
      way_told c old scope root table (parts (is_block fields memories callees scope root other) (is_block fields memories callees scope root b) q.1).1 there all

  -- ---- parameters

  module _ (first : Scene) (of_params : List Param) (same : (x : ℕ) → is_buffer_of x of_params ≡ true → (first.control x ≡ now.control x) × (first.views x ≡ now.views x)) where
    same_dims : (scope : Scope) → ((y : ℕ) → IsSome (sort_in scope y) → is_buffer_of y of_params ≡ true) → (dims : List Control) → are_controls fields plainly scope dims ≡ true → numbers first dims ≡ numbers now dims
    same_dims scope named [] h = refl
    same_dims scope named (d ∷ dims) h =
        let p = parts (is_control fields plainly scope d) (are_controls fields plainly scope dims) h in
        ap₂ (λ n ns. n ∷ ns) (same_number (names_in scope) first now (record { control = λ y k. (same y (named y k)).0; fields = λ f k. absurd (true≢false (sym k)); strides = λ y j k. absurd (true≢false (sym k)) }) d (bound_is_affine fields scope d p.0)) (same_dims scope named dims p.1)

    kind_told : (scope : Scope) (table : Parts) (x : Binder) (kind : ParamKind) → ((y : ℕ) → IsSome (sort_in scope y) → is_buffer_of y of_params ≡ true) → is_buffer_of x.id of_params ≡ true → is_new scope x ≡ true → is_param_kind fields memories scope kind ≡ true → IsArgument first x.id kind → AllTold scope table → AllTold (with_name scope x (param_sort kind)) (with_kind x.id kind table)
    kind_told scope table x (ControlParam kind) named own new keeps argument all = with_number scope table x (ControlName kind) new (sym (same x.id own).1 ∙ argument.2) all
    kind_told scope table x (TensorParam cell dims memory) named own new keeps argument all =
        let plain = (parts (are_controls fields plainly scope dims) _ keeps).0 in
        with_one scope table x (BufferName cell (length dims) true) (Some (whole_of x.id dims)) new (whole_told scope x (BufferName cell (length dims) true) dims new plain (sym (same x.id own).1 ∙ argument.1 ∙ ap (λ ns. Some (record { buffer = x.id; sides = whole ns })) (same_dims scope named dims plain))) all
    kind_told scope table x (WindowParam cell dims memory) named own new keeps argument all =
        let plain = (parts (are_controls fields plainly scope dims) _ keeps).0 in
        with_one scope table x (BufferName cell (length dims) false) (Some (whole_of x.id dims)) new (whole_told scope x (BufferName cell (length dims) false) dims new plain (sym (same x.id own).1 ∙ argument.1.1 ∙ ap (λ ns. Some (record { buffer = x.id; sides = whole ns })) (same_dims scope named dims plain))) all

    pub params_told : (ps : List Param) (scope : Scope) (table : Parts) → ((y : ℕ) → IsSome (sort_in scope y) → is_buffer_of y of_params ≡ true) → ((y : ℕ) → is_buffer_of y ps ≡ true → is_buffer_of y of_params ≡ true) → are_params fields memories scope ps ≡ true → AreArguments first ps → AllTold scope table → AllTold (scope_of scope ps) (with_params ps table)
    params_told [] scope table named members keeps arguments all = all
    params_told (p ∷ ps) scope table named members keeps arguments all =
        let q = parts (is_new scope p.binder) _ keeps in
        let r = parts (is_param_kind fields memories scope p.kind) (are_params fields memories (with_name scope p.binder (param_sort p.kind)) ps) q.1 in
        let own = members p.binder.id (on_left (p.binder.id == p.binder.id) (is_buffer_of p.binder.id ps) (self p.binder.id)) in
        params_told ps (with_name scope p.binder (param_sort p.kind)) (with_kind p.binder.id p.kind table) (more own) (λ y h. members y (on_right (y == p.binder.id) (is_buffer_of y ps) h)) r.1 arguments.1 (kind_told scope table p.binder p.kind named own q.0 r.0 arguments.0 all)
      where
        more : is_buffer_of p.binder.id of_params ≡ true → (y : ℕ) → IsSome (sort_in (with_name scope p.binder (param_sort p.kind)) y) → is_buffer_of y of_params ≡ true
        more own y = go (y == p.binder.id) refl
          where
            go : (t : Bool) → (y == p.binder.id) ≡ t → IsSome (cond t (Some (param_sort p.kind)) (sort_in scope y)) → is_buffer_of y of_params ≡ true
            go true e h = ap (λ z. is_buffer_of z of_params) (eqb-true y p.binder.id e) ∙ own
            go false e h = named y h

-- ---- names out of scope

name_out : (scope : Scope) (y : Binder) (sort : Sort) (x : ℕ) → sort_in (with_name scope y sort) x ≡ None → ((x == y.id) ≡ false) × (sort_in scope x ≡ None)
name_out scope y sort x h = go (x == y.id) h
  where
    go : (t : Bool) → cond t (Some sort) (sort_in scope x) ≡ None → (t ≡ false) × (sort_in scope x ≡ None)
    go true h = absurd (none_some (sym h))
    go false h = (refl, h)

step_out : (a : Statement) (scope : Scope) (x : ℕ) → sort_in (scope_after a scope) x ≡ None → (binds a x ≡ false) × (sort_in scope x ≡ None)
step_out (Assign y is e) scope x h = (refl, h)
step_out (Reduce y is e) scope x h = (refl, h)
step_out (Config f g) scope x h = (refl, h)
step_out Pass scope x h = (refl, h)
step_out (If c a b) scope x h = (refl, h)
step_out (For i lo hi b) scope x h = (refl, h)
step_out (Alloc y cell dims memory) scope x h = name_out scope y (BufferName cell (length dims) true) x h
step_out (View v y cs) scope x h = name_out scope v (view_sort (sort_in scope y) (spans cs)) x h
step_out (Call k args) scope x h = (refl, h)

pub out_of_scope : (c : Context) (scope : Scope) (x : ℕ) → sort_in (scope_at c scope) x ≡ None → (on_way c x ≡ false) × (sort_in scope x ≡ None)
out_of_scope (Here rest) scope x h = (refl, h)
out_of_scope (After a c) scope x h =
    let p = out_of_scope c (scope_after a scope) x h in
    let q = step_out a scope x p.1 in
    (both_false (binds a x) (on_way c x) q.0 p.0, q.1)
out_of_scope (InLoop i lo hi c rest) scope x h =
    let p = out_of_scope c (with_name scope i (ControlName Index)) x h in
    let q = name_out scope i (ControlName Index) x p.1 in
    (both_false (x == i.id) (on_way c x) q.0 p.0, q.1)
out_of_scope (InThen t c other rest) scope x h = out_of_scope c scope x h
out_of_scope (InElse t other c rest) scope x h = out_of_scope c scope x h

pub no_param : (ps : List Param) (scope : Scope) (x : ℕ) → sort_in (scope_of scope ps) x ≡ None → (is_buffer_of x ps ≡ false) × (sort_in scope x ≡ None)
no_param [] scope x h = (refl, h)
no_param (p ∷ ps) scope x h =
    let q = no_param ps (with_name scope p.binder (param_sort p.kind)) x h in
    let r = name_out scope p.binder (param_sort p.kind) x q.1 in
    (both_false (x == p.binder.id) (is_buffer_of x ps) r.0 q.0, r.1)
