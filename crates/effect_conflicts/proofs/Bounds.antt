-- What a loop of a piece says of its variable, from the bounds of the loop in a copy.
use Rattle.std.proofs.Common.{◌≡◌, ◌^◌, ◌&&◌, nat_lt, Bool, true, false, List, [], ◌∷◌, ◌++◌, map, refl, ap₂, ◌∙◌, subst}
use Rattle.std.specs.Prelude.{Result, Ok, Err}
use Rattle.std.specs.List.{list_all}
use Rattle.exo_tree.specs.Tree.{Var, Le, Lt}
use Rattle.exo_tree.specs.PlainControl.{control}
use Rattle.meaning_laws.specs.Facts.{Holds}
use Rattle.affine_forms.specs.Formulas.{Formula}
use Rattle.affine_forms.specs.Outcomes.{IsWide}
use Rattle.affine_forms.specs.declared.error.FormError.{FormError}
use Rattle.exo_effects.specs.Accesses.{plain_fits}
use Rattle.exo_effects.specs.Conflicts.{bounds, re_turn, variables_of}
use Rattle.exo_effects.specs.Low.{is_low, fact_is_low}
use Rattle.exo_effects.specs.PlainGuards.{facts_of_loop}
use Rattle.exo_effects.specs.PlainUses.{all_variables}
use Rattle.effect_conflicts.specs.Outcomes.{Exactly}
use Rattle.effect_conflicts.specs.PlainCopies.{plain_turn, renamed, Said, turn_fits, turn_is_low}
use Rattle.effect_conflicts.specs.declared.twin.Turn.{Turn}
use Rattle.effect_conflicts.specs.declared.twin.Twin.{Twin}
use Rattle.effect_conflicts.proofs.CopyForms.{copy_le, copy_lt}
use Rattle.effect_conflicts.proofs.PastForms.{both_true}

turned : (a b c : Bool) → ((a && b) && ((b && c) && true)) ≡ true → (b && (a && c)) ≡ true
turned a b c h =
    let p = both_true (a && b) ((b && c) && true) h in
    let q = both_true a b p.0 in
    let s = both_true b c (both_true (b && c) true p.1).0 in
    ap₂ (λ x y. x && y) q.1 (ap₂ (λ x y. x && y) q.0 s.1)

same_fits : (a b : Bool) → (a && b) ≡ ((a && true) && (b && true))
same_fits true true = refl
same_fits true false = refl
same_fits false b = refl

module _ (u : Turn)
    (low : list_all fact_is_low (facts_of_loop u.variable.0 (control u.lower.now) (control u.upper.now)) ≡ true) where
  pub low_turn : turn_is_low u ≡ true
  low_turn = turned (is_low (control u.lower.now)) (nat_lt u.variable.0 (2 ^ 31)) (is_low (control u.upper.now)) low

  pub loop_said : {A : Type 0} (t : Twin) (old new : List Formula) (result : Result A FormError)
      → Exactly result (turn_fits u) (new ≡ old ++ bounds (re_turn (renamed t) (plain_turn u)))
      → Said result (renamed t) (facts_of_loop u.variable.0 (control u.lower.now) (control u.upper.now)) old new
  loop_said t old new (Ok x) h =
      let x = u.variable.0 in
      let lo = control u.lower.now in
      let hi = control u.upper.now in
      let fits = both_true (plain_fits lo) (plain_fits hi) h.0 in
      let facts = both_true (fact_is_low (Holds (Le lo (Var x)))) (fact_is_low (Holds (Lt (Var x) hi)) && true) low in
      let more = both_true (fact_is_low (Holds (Lt (Var x) hi))) true facts.1 in
      let turns = variables_of (map plain_turn t.turns.now) in
      let own = all_variables t.guards.now in (
        ap₂ (λ a b. (a && true) && (b && true)) fits.0 fits.1,
        h.1 ∙ ap₂ (λ f g. old ++ (f ∷ g ∷ [])) (copy_le (2 ^ 31) t.side turns own t.sides lo x facts.0)
            (copy_lt (2 ^ 31) t.side turns own t.sides x hi more.0),
      )
  loop_said t old new (Err e) h =
      subst (IsWide e) (same_fits (plain_fits (control u.lower.now)) (plain_fits (control u.upper.now))) h
