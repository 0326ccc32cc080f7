-- The names in scope on a walk: those from before it stay where they are.
use Rattle.std.proofs.Common.{◌≡◌, ℕ, List, [], ◌++◌, length, take, refl, ap, sym, ◌∙◌}
use Rattle.std.proofs.lemmas.List.{append_assoc, append-nil}
use Rattle.std.proofs.Math.Seq.{take-append_seam}
use Rattle.exo_tree.specs.Tree.{Binder, Statement, Assign, Reduce, Config, Pass, If, For, Alloc, View, Call, Block, end, next}
use Rattle.tree_edits.specs.Made.Names.{Name, Naming, Tops, with_binder, name_statements}
use Rattle.tree_edits.specs.Made.Names.{name_statement}

record Longer (xs ys : List Name) : Type 0 where
  pub rest : List Name
  pub is : ys ≡ xs ++ rest

same : (xs : List Name) → Longer xs xs
same xs = record { rest = []; is = sym (append-nil xs) }

further : (xs ys zs : List Name) → Longer xs ys → Longer ys zs → Longer xs zs
further xs ys zs a b = record {
  rest = a.rest ++ b.rest;
  is = b.is ∙ ap (λ l. l ++ b.rest) a.is ∙ append_assoc xs a.rest b.rest;
}

module _ (copies : ℕ) where
  bound : (top : List Name) (n : Naming) (x : Binder) → Longer n.scope (with_binder copies top n x).scope
  bound top n x = record { rest = _; is = refl }

  one : (top : Tops) (n : Naming) (a : Statement) → Longer n.scope (name_statement copies top n a).scope
  one top n (Assign x is e) = same n.scope
  one top n (Reduce x is e) = same n.scope
  one top n (Config f a) = same n.scope
  one top n Pass = same n.scope
  one top n (If c a b) = same n.scope
  one top n (For i lo hi b) = same n.scope
  one top n (Alloc x cell dims memory) = bound top.own n x
  one top n (View w x coords) = bound top.own n w
  one top n (Call k args) = same n.scope

  all : (top : Tops) (n : Naming) (b : Block) → Longer n.scope (name_statements copies top n b).scope
  all top n end = same n.scope
  all top n (next a b) =
      further n.scope (name_statement copies top n a).scope (name_statements copies top n (next a b)).scope
      (one top n a) (all top (name_statement copies top n a) b)

  -- so a walk comes back to them
  pub back : (top : Tops) (n : Naming) (b : Block) → take (length n.scope) (name_statements copies top n b).scope ≡ n.scope
  back top n b =
      let l = all top n b in
      ap (take (length n.scope)) l.is ∙ take-append_seam n.scope l.rest

  pub back_from_loop : (top : List Name) (inner : Tops) (n : Naming) (i : Binder) (b : Block)
      → take (length n.scope) (name_statements copies inner (with_binder copies top n i) b).scope ≡ n.scope
  back_from_loop top inner n i b =
      let within = with_binder copies top n i in
      let l = further n.scope within.scope (name_statements copies inner within b).scope (bound top n i) (all inner within b) in
      ap (take (length n.scope)) l.is ∙ take-append_seam n.scope l.rest
