-- The widest procedure hangs on which procedures of the unit are printed and counted, and on no other numbers.
use Rattle.std.proofs.Common.{◌≡◌, ◌<◌, ◌≤◌, ◌+◌, ℕ, suc, Bool, not, ◌&&◌, if◌then◌else◌, List, [], ◌∷◌, length, drop, refl, ap, ◌∙◌, subst, arith, length-drop}
use Rattle.exo_tree.specs.Tree.{Procedure, Program}
use Rattle.c_widths.specs.Raises.{Raises, raised, most_from, given_from, is_narrow_by, memories_for, is_wide_at, or_own, widest_from, WidestIsOfTheUnit}

-- they agree on so many numbers from o on
abbrev Agree : {A : Type 0} → (ℕ → A) → (ℕ → A) → ℕ → ℕ → Type 0
Agree f g o n = (k : ℕ) → k < n → f (o + k) ≡ g (o + k)

first_agrees : {A : Type 0} (f g : ℕ → A) (o n : ℕ) → 0 < n → Agree f g o n → f o ≡ g o
first_agrees f g o n h e = let here : o + 0 ≡ o = omega arith in subst (λ i. f i ≡ g i) here (e 0 h)

rest_agrees : {A : Type 0} (f g : ℕ → A) (o n : ℕ) → Agree f g o (suc n) → Agree f g (suc o) n
rest_agrees f g o n e k h = let there : o + suc k ≡ suc o + k = omega arith in subst (λ i. f i ≡ g i) there (e (suc k) (omega arith))

later_agrees : {A : Type 0} (f g : ℕ → A) (n o m : ℕ) → o + m ≤ n → ((k : ℕ) → k < n → f k ≡ g k) → Agree f g o m
later_agrees f g n o m l e k h = e (o + k) (omega arith)

given_same : (c d : ℕ → Bool) (o : ℕ) (ps : List Procedure) → Agree c d o (length ps) → given_from c o ps ≡ given_from d o ps
given_same c d o [] e = refl
given_same c d o (p ∷ ps) e =
    let here : c o ≡ d o = first_agrees c d o (suc (length ps)) (omega arith) e in
    ap (λ (g : Raises). if c o then raised (most_from p.params (g o)) p.body g else g) (given_same c d (suc o) ps (rest_agrees c d o (length ps) e))
    ∙ ap (λ t. if t then raised (most_from p.params (given_from d (suc o) ps o)) p.body (given_from d (suc o) ps) else given_from d (suc o) ps) here

module _ (program : Program) (p q c d : ℕ → Bool) (printed : (k : ℕ) → k < length program.procedures → p k ≡ q k) (counted : (k : ℕ) → k < length program.procedures → c k ≡ d k) where
  wide_same : (k : ℕ) (x : Procedure) → k < length program.procedures → is_wide_at program p c k x ≡ is_wide_at program q d k x
  wide_same k x h =
      let behind = drop (suc k) program.procedures in
      let inside : suc k + length behind ≤ length program.procedures = omega (arith, length-drop (suc k) program.procedures) in
      let given = given_same c d (suc k) behind (later_agrees c d (length program.procedures) (suc k) (length behind) inside counted) in
      ap (λ (g : Raises). c k && not (is_narrow_by (memories_for (p k) program.memories) (most_from x.params (g k)) x)) given
      ∙ ap (λ t. t && not (is_narrow_by (memories_for (p k) program.memories) (most_from x.params (given_from d (suc k) behind k)) x)) (counted k h)
      ∙ ap (λ t. d k && not (is_narrow_by (memories_for t program.memories) (most_from x.params (given_from d (suc k) behind k)) x)) (printed k h)

  from_same : (o : ℕ) (xs : List Procedure) → o + length xs ≤ length program.procedures → widest_from program p c o xs ≡ widest_from program q d o xs
  from_same o [] h = refl
  from_same o (x ∷ xs) h =
      ap (λ w. or_own w (is_wide_at program p c o x) o) (from_same (suc o) xs (omega arith))
      ∙ ap (λ t. or_own (widest_from program q d (suc o) xs) t o) (wide_same o x (omega arith))

pub widest_same : WidestIsOfTheUnit
widest_same program p q c d printed counted = from_same program p q c d printed counted 0 program.procedures (omega arith)
