-- Two paths are the same where their steps are equal one by one.
use Rattle.std.proofs.Common.{◌≡◌, ◌&&◌, List, [], ◌∷◌, map, refl, ap₂}
use Rattle.std.specs.Cmp.Lexicographic.{pointwise}
use Rattle.exo_tree.specs.declared.place.Branch.{Branch}
use Rattle.exo_tree.specs.declared.place.Branch.TheVariants.{Main, Else}
use Rattle.exo_tree.specs.declared.place.Step.{Step}
use Rattle.exo_tree.specs.contracts.place.BranchPartialEq.TheImpl as branch_eq
use Rattle.exo_tree.specs.contracts.place.StepPartialEq.TheImpl as step_eq
use Rattle.exo_tree.specs.PlainPlace.{branch_taken, step_taken}
use Rattle.exo_tree.specs.Places.{same_branch, same_step, same_path}

same_branches : (a b : Branch) → branch_eq.eq-value.it a b ≡ same_branch (branch_taken a) (branch_taken b)
same_branches Main Main = refl
same_branches Main Else = refl
same_branches Else Main = refl
same_branches Else Else = refl

same_steps : (s t : Step) → step_eq.eq-value.it s t ≡ same_step (step_taken s) (step_taken t)
same_steps s t = ap₂ (λ a b. a && b) (same_branches s.branch t.branch) refl

pub same_paths : (p q : List Step) → pointwise step_eq.eq-value.it p q ≡ same_path (map step_taken p) (map step_taken q)
same_paths [] [] = refl
same_paths [] (t ∷ q) = refl
same_paths (s ∷ p) [] = refl
same_paths (s ∷ p) (t ∷ q) = ap₂ (λ a b. a && b) (same_steps s t) (same_paths p q)
