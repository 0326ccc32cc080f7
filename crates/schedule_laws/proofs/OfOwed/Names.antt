-- The binders of a procedure have ids below those of copies, and no two have the same.
use Rattle.std.proofs.Common.{◌≡◌, ◌≤◌, ℕ, true, not, List, [], ◌∷◌, ◌++◌, arith}
use Rattle.std.specs.List.{list_any}
use Rattle.std.specs.Prelude.{◌==◌}
use Rattle.std.proofs.lemmas.Bool.{and_parts}
use Rattle.exo_tree.specs.Renaming.{binders}
use Rattle.exo_meaning.specs.Units.{are_distinct}
use Rattle.tree_edits.specs.Made.Ids.{above_all, next_id, param_ids}
use Rattle.tree_edits.proofs.OfMade.Above.{above_joined}
use Rattle.tree_edits.proofs.OfMade.Kept.{keeps_its_names}
use Rattle.tree_laws.specs.Findings.Versions.{ProcedureLaw}
use Rattle.schedule_laws.specs.Owed.Names.{OwnNamesStay}

above_last : (xs ys : List ℕ) → above_all ys ≤ above_all (xs ++ ys)
above_last xs ys = omega (arith, above_joined xs ys)

last_distinct : (xs ys : List ℕ) → are_distinct (xs ++ ys) ≡ true → are_distinct ys ≡ true
last_distinct [] ys h = h
last_distinct (x ∷ xs) ys h =
    last_distinct xs ys
    (and_parts (not (list_any (λ y. x == y) (xs ++ ys))) (are_distinct (xs ++ ys)) h).1

module _ (keeps : ProcedureLaw) where
  pub own_names_stay : OwnNamesStay
  own_names_stay u k p is there =
      keeps_its_names p (next_id p) p.body (above_last (param_ids p.params) (binders p.body))
      (last_distinct (param_ids p.params) (binders p.body) (keeps u k p is there).distinct)
