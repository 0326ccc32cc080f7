-- Cells as windows of points.
use Rattle.std.proofs.lemmas.Bool.Decides.{nat_tests}
use Rattle.std.proofs.Common.{◌≡◌, ◌==◌, ℕ, suc, true, false, arith, ◌+◌, Bool, List, [], ◌∷◌, ◌++◌, length, map, Option, refl, ap, ◌∙◌}
use Rattle.std.proofs.lemmas.List.{length-map}
use Rattle.exo_tree.specs.Tree.{ConfigField}
use Rattle.exo_meaning.specs.Units.{Sort, Scope, Reads, plainly}
use Rattle.text_expressions.specs.Expression.{Tree}
use Rattle.exo_reader.specs.Source.{point}
use Rattle.rules_names.specs.Names.{named_in, sort_of}
use Rattle.rules_names.specs.ExpressionRules.{width, closed_width, name_faults, rank_faults, control_faults, controls_faults}
use Rattle.rules_names.specs.WindowRules.{coordinates_faults, window_faults}
use Rattle.exo_types.specs.ArgumentRules.{points, dims_width}

module _ (fields : List ConfigField) where
  pub points_faults : (scope : Scope) (n : ℕ) (es : List Tree) → coordinates_faults fields scope n (points es) ≡ controls_faults fields plainly scope n es
  points_faults scope n [] = refl
  points_faults scope n (e ∷ es) = ap (λ r. control_faults fields plainly scope n e ++ r) (points_faults scope (n + width e + 1) es)

  -- a cell breaks what a window of points breaks
  pub cell_faults : (test : Option Sort → Bool) (scope : Scope) (n : ℕ) (x : List ℕ) (es : List Tree) → window_faults fields test scope n x (points es) ≡ name_faults test (sort_of (named_in scope x)) n ++ (rank_faults (sort_of (named_in scope x)) (length es) n ++ controls_faults fields plainly scope (n + 2) es)
  cell_faults test scope n x es =
      ap (λ k. name_faults test (sort_of (named_in scope x)) n ++ (rank_faults (sort_of (named_in scope x)) k n ++ coordinates_faults fields scope (n + 2) (points es))) (length-map es point)
      ∙ ap (λ r. name_faults test (sort_of (named_in scope x)) n ++ (rank_faults (sort_of (named_in scope x)) (length es) n ++ r)) (points_faults scope (n + 2) es)

-- where there is an item the bracket stands behind the last one
pub some_width : {X : Type 0} (f : X → Tree) (xs : List X) → (length xs == 0) ≡ false → dims_width (map f xs) ≡ suc (closed_width (map f xs))
some_width f [] h = cc
some_width f (x ∷ xs) h = refl

pub no_width : {X : Type 0} (f : X → Tree) (xs : List X) → (length xs == 0) ≡ true → dims_width (map f xs) ≡ 0
no_width f [] h = refl
no_width f (x ∷ xs) h = grind (arith, nat_tests)

pub no_controls : {X : Type 0} (f : X → Tree) (fields : List ConfigField) (may : Reads) (scope : Scope) (n : ℕ) (xs : List X) → (length xs == 0) ≡ true → [] ≡ controls_faults fields may scope n (map f xs)
no_controls f fields may scope n [] h = refl
no_controls f fields may scope n (x ∷ xs) h = grind (arith, nat_tests)
