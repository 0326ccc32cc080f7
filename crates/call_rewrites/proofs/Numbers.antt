-- Ids that are met one after the other.
use Rattle.std.proofs.Common.{◌≡◌, ℕ, ◌+◌, Bool, true, false, cond, List, [], ◌∷◌, ◌++◌, Option, Some, None, refl, sym, ap, ◌∙◌, eqb}
use Rattle.std.proofs.lemmas.Bool.{eqb-true}
use Rattle.std.specs.Prelude.{is_some}
use Rattle.exo_tree.specs.Renaming.{fresh_id}
use Rattle.exo_meaning.specs.Scene.{updated}
use Rattle.call_rewrites.specs.Numbered.{Numbered, numbered_from, with_id, with_ids, number_of}

-- some and then others
pub met_both : (is js : List ℕ) (t : Numbered)
    → with_ids (is ++ js) t ≡ with_ids js (with_ids is t)
met_both [] js t = refl
met_both (i ∷ is) js t = met_both is js (with_id i t)

-- one and then others
pub met_first : (i : ℕ) (is : List ℕ) (t u v : Numbered) → u ≡ with_id i t → v ≡ with_ids is u
    → v ≡ with_ids (i ∷ is) t
met_first i is t u v h k = k ∙ ap (with_ids is) h

pub met_one : (i : ℕ) (t u : Numbered) → u ≡ with_id i t → u ≡ with_ids (i ∷ []) t
met_one i t u h = h

-- ---- their numbers

abbrev or_else : Option ℕ → ℕ → ℕ
or_else o d = elim o [ None ↦ d | Some n ↦ n ]

-- one more
one_more : (i x : ℕ) (t : Numbered) (d : ℕ)
    → or_else ((with_id i t).given x) d ≡ or_else (t.given x) (cond (eqb x i) t.next d)
unfolding with_id
one_more i x t d = known (t.given i) refl
  where
    kept : (b : Bool) → eqb x i ≡ b → (k : ℕ) → t.given i ≡ Some k
        → or_else (t.given x) d ≡ or_else (t.given x) (cond b t.next d)
    kept false e k h = refl
    kept true e k h =
        let same : t.given x ≡ Some k = ap t.given (eqb-true x i e) ∙ h in
        ap (λ o. or_else o d) same ∙ sym (ap (λ o. or_else o t.next) same)

    new : (b : Bool) → eqb x i ≡ b → t.given i ≡ None
        → or_else (cond b (Some t.next) (t.given x)) d ≡ or_else (t.given x) (cond b t.next d)
    new false e h = refl
    new true e h =
        sym (ap (λ o. or_else o t.next) (ap t.given (eqb-true x i e) ∙ h))

    known : (o : Option ℕ) → t.given i ≡ o
        → or_else ((with_id i t).given x) d ≡ or_else (t.given x) (cond (eqb x i) t.next d)
    known None h =
        ap (λ o. or_else ((cond (is_some o) t.given (updated t.given i (Some t.next))) x) d) h
        ∙ new (eqb x i) refl h
    known (Some k) h =
        ap (λ o. or_else ((cond (is_some o) t.given (updated t.given i (Some t.next))) x) d) h
        ∙ kept (eqb x i) refl k h

all_met : (is : List ℕ) (t : Numbered) (x : ℕ)
    → number_of (with_ids is t) x ≡ or_else (t.given x) (fresh_id is t.next x)
unfolding with_id
all_met [] t x = refl
all_met (i ∷ is) t x =
    all_met is (with_id i t) x ∙ one_more i x t (fresh_id is (t.next + 1) x)

pub numbers : (is : List ℕ) (n : ℕ) → number_of (with_ids is (numbered_from n)) ≡ fresh_id is n
numbers is n = λ j x. all_met is (numbered_from n) x j
