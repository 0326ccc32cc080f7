-- Searches for the place of a variable.
use Rattle.std.proofs.Common.{◌≡◌, ◌+◌, ◌<◌, ◌≤◌, zero, suc, ℕ, Bool, true, List, [], ◌∷◌, map, length, get_or, Option, option_map, refl, ap, ◌∙◌, arith}
use Rattle.std.specs.List.{list_all}
use Rattle.exo_effects.specs.Conflicts.{variables_of}
use Rattle.exo_effects.specs.PlainUses.{all_variables}
use Rattle.exo_effects.specs.declared.guards.Guard.{Guard}
use Rattle.exo_effects.specs.declared.guards.Guard.TheVariants as guard
use Rattle.effect_conflicts.specs.PlainCopies.{plain_turn}
use Rattle.effect_conflicts.specs.declared.twin.Turn.{Turn}
use Rattle.effect_conflicts.proofs.PastForms.{both_true}

-- the place in what is left, counted from the head of all
abbrev pub further : ℕ → Option ℕ → Option ℕ
further k o = option_map (λ j. k + j) o

pub few_variables : (gs : List Guard) → length (all_variables gs) ≤ length gs
few_variables [] = omega arith
few_variables (guard.Loop i lo hi ∷ gs) = omega (arith, few_variables gs)
few_variables (guard.Holds c ∷ gs) = omega (arith, few_variables gs)
few_variables (guard.Fails c ∷ gs) = omega (arith, few_variables gs)

pub few_turns : (ts : List Turn) → length (variables_of (map plain_turn ts)) ≡ length ts
few_turns [] = refl
few_turns (t ∷ ts) = omega (arith, few_turns ts)

-- what each has, the item of that index has
pub each_at : {A B : Type 0} (p : B → Bool) (f : A → B) (xs : List A) (k : ℕ) (x : A) → x ≡ get_or xs k x → k < length xs → list_all p (map f xs) ≡ true → p (f x) ≡ true
each_at p f [] k x is l h = absurd (omega (arith, l))
each_at p f (y ∷ ys) zero x is l h = ap (λ z. p (f z)) is ∙ (both_true (p (f y)) (list_all p (map f ys)) h).0
each_at p f (y ∷ ys) (suc k) x is l h = each_at p f ys k x is (omega (arith, l)) (both_true (p (f y)) (list_all p (map f ys)) h).1
