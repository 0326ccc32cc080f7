-- Refusals by what is live.
use Rattle.std.proofs.Common.{◌≡◌, ◌+◌, ◌<◌, ◌≤◌, ℕ, zero, suc, Bool, true, false, ◌&&◌, ◌||◌, List, [], ◌∷◌, Option, Some, None, refl}
use Rattle.std.proofs.Common.{sym, ap, ◌∙◌, if◌then◌else◌, map, length, drop, arith}
use Rattle.std.specs.Prelude.{option_map, nat_lt, get_or}
use Rattle.std.specs.List.{list_all, list_any}
use Rattle.exo_tree.specs.Tree.{Procedure}
use Rattle.exo_tree.specs.declared.number.FieldId.{FieldId}
use Rattle.config_live.specs.Origins.{number}
use Rattle.exo_tree.specs.Places.{Opened}
use Rattle.config_laws.specs.FieldRule as config
use Rattle.config_laws.specs.FieldRule.{is_live, any_live, refused_if}
use Rattle.cursor_forward.specs.Causes.{Cause, ConfigLive}
use Rattle.call_laws.specs.Fields.FieldRules.{of_cause}

abbrev cause_by : Bool → Bool → Option Cause
cause_by known live =
    if known then option_map of_cause (refused_if live config.ConfigLive) else None

pub one_refuses : (t live : Bool) → true ≡ (t && live) → cause_by (t && true) live ≡ Some ConfigLive
one_refuses true true h = refl
one_refuses true false h = cc
one_refuses false live h = cc

pub none_refuses : (t live : Bool) → false ≡ (t && live) → cause_by (t && true) live ≡ None
none_refuses true true h = cc
none_refuses true false h = refl
none_refuses false live h = refl

pub all_refuse : (t live : Bool) → t ≡ true → true ≡ live → cause_by t live ≡ Some ConfigLive
all_refuse true true h e = refl
all_refuse true false h e = cc
all_refuse false live h e = cc

pub nothing_refuses : (t live : Bool) → t ≡ true → false ≡ live → cause_by t live ≡ None
nothing_refuses true true h e = cc
nothing_refuses true false h e = refl
nothing_refuses false live h e = refl

-- of fields that are the unit's it is all the same
pub any_known : (ps : List Procedure) (o : Opened) (n : ℕ) (fs : List ℕ)
    → list_all (λ f. nat_lt f n) fs ≡ true
    → list_any (λ f. nat_lt f n && is_live ps f o) fs ≡ any_live ps o fs
any_known ps o n [] h = refl
any_known ps o n (f ∷ fs) h = go (nat_lt f n) (any_known ps o n fs) h
  where
    go : (t : Bool)
        → (list_all (λ f. nat_lt f n) fs ≡ true
        → list_any (λ f. nat_lt f n && is_live ps f o) fs ≡ any_live ps o fs)
        → (t && list_all (λ f. nat_lt f n) fs) ≡ true
        → ((t && is_live ps f o) || list_any (λ f. nat_lt f n && is_live ps f o) fs)
        ≡ (is_live ps f o || any_live ps o fs)
    go true rest h = ap (λ b. is_live ps f o || b) (rest h)
    go false rest h = cc

-- ---- fields gone over

module _ (test : ℕ → Bool) where
  abbrev any_from : ℕ → List FieldId → Bool
  any_from k fs = list_any test (map number (drop k fs))

  pub any_here : (fs : List FieldId) (k : ℕ) (d : FieldId) → k < length fs
      → true ≡ test (number (get_or fs k d)) → any_from k fs ≡ true
  any_here [] k d h e = absurd (none k h)
    where
      none : (k : ℕ) → k < 0 → ⊥
      none k h = omega arith
  any_here (f ∷ fs) zero d h e = ap (λ (b : Bool). b || list_any test (map number fs)) (sym e)
  any_here (f ∷ fs) (suc k) d h e = any_here fs k d (omega (arith, h)) e

  any_suc : (fs : List FieldId) (k : ℕ) (d : FieldId) → k < length fs
      → false ≡ test (number (get_or fs k d)) → any_from k fs ≡ any_from (suc k) fs
  any_suc [] k d h e = absurd (none k h)
    where
      none : (k : ℕ) → k < 0 → ⊥
      none k h = omega arith
  any_suc (f ∷ fs) zero d h e = ap (λ (b : Bool). b || list_any test (map number fs)) (sym e)
  any_suc (f ∷ fs) (suc k) d h e = any_suc fs k d (omega (arith, h)) e

  pub any_next : (fs : List FieldId) (k : ℕ) (d : FieldId) → k < length fs
      → false ≡ test (number (get_or fs k d)) → any_from k fs ≡ any_from (k + 1) fs
  any_next fs k d h e =
      let one : suc k ≡ k + 1 = omega arith in
      any_suc fs k d h e ∙ ap (λ (n : ℕ). any_from n fs) one

  pub any_end : (fs : List FieldId) (k : ℕ) → length fs ≤ k → any_from k fs ≡ false
  any_end [] zero h = refl
  any_end [] (suc k) h = refl
  any_end (f ∷ fs) zero h = absurd (none h)
    where
      none : suc (length fs) ≤ 0 → ⊥
      none h = omega arith
  any_end (f ∷ fs) (suc k) h = any_end fs k (omega (arith, h))
