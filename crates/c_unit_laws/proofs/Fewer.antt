-- What few allocations of a procedure of a unit mean for its body.
use Rattle.std.proofs.Common.{◌≡◌, ◌<◌, ◌+◌, ◌==◌, ℕ, zero, suc, Bool, true, false, List, [], ◌∷◌, ◌++◌, length, take, Some, refl, sym, ◌∙◌, subst, arith, eqb-true, eq-eqb, slice_get}
use Rattle.exo_tree.specs.Tree.{Kind, Procedure}
use Rattle.exo_meaning.specs.State.{State}
use Rattle.exo_meaning.specs.Calls.{Callee}
use Rattle.exo_meaning.specs.Run.{world_of, callee_in, callees, unit_world}
use Rattle.c_widths.specs.Few.{Fewness, AllocatesFew, one_of, no_fewness, fewness_from}
use Rattle.c_unit_laws.proofs.Standing.{none_some, some_same, one_longer, get_taken, take_shorter}

module _ (kinds : ℕ → Kind) where
  -- with the procedure that comes behind those of the list
  abbrev pub Next : List Callee → Fewness → Procedure → Fewness
  Next above few p k s = one_of (k == length above) (AllocatesFew (world_of kinds above) few p.body s) (few k s)

  -- later procedures change nothing
  earlier : (ps : List Procedure) (above : List Callee) (few : Fewness) (j : ℕ) (s : State) → j < length above → fewness_from kinds above few ps j s → few j s
  earlier [] above few j s b h = h
  earlier (p ∷ ps) above few j s b h =
      let c = callee_in (world_of kinds above) p in
      let more = one_longer above c in
      subst (λ t. one_of t (AllocatesFew (world_of kinds above) few p.body s) (few j s)) (other (j == length above) refl)
      (earlier ps (above ++ c ∷ []) (Next above few p) j s (omega (arith, b, more)) h)
    where
      other : (t : Bool) → (j == length above) ≡ t → t ≡ false
      other false e = refl
      other true e = let d = eqb-true j (length above) e in absurd (omega (arith, b, d))

  here : (ps : List Procedure) (above : List Callee) (few : Fewness) (i : ℕ) (q : Procedure) (s : State) → slice_get ps i ≡ Some q → fewness_from kinds above few ps (length above + i) s → AllocatesFew (world_of kinds (callees kinds above (take i ps))) (fewness_from kinds above few (take i ps)) q.body s
  here [] above few zero q s e h = absurd (none_some e)
  here [] above few (suc i) q s e h = absurd (none_some e)
  here (p ∷ ps) above few zero q s e h =
      let c = callee_in (world_of kinds above) p in
      let more = one_longer above c in
      let own : length above + zero ≡ length above = omega arith in
      subst (λ z. AllocatesFew (world_of kinds above) few z.body s) (some_same e)
      (subst (λ t. one_of t (AllocatesFew (world_of kinds above) few p.body s) (few (length above + zero) s)) (eq-eqb (length above + zero) (length above) own)
      (earlier ps (above ++ c ∷ []) (Next above few p) (length above + zero) s (omega (arith, more)) h))
  here (p ∷ ps) above few (suc i) q s e h =
      let c = callee_in (world_of kinds above) p in
      let more = one_longer above c in
      let there : length above + suc i ≡ length (above ++ c ∷ []) + i = omega (arith, more) in
      here ps (above ++ c ∷ []) (Next above few p) i q s e (subst (λ n. fewness_from kinds (above ++ c ∷ []) (Next above few p) ps n s) there h)

  -- what it means that the procedures before that one allocate few
  abbrev pub few_before : List Procedure → ℕ → Fewness
  few_before ps k = fewness_from kinds [] no_fewness (take k ps)

  pub few_at : (ps : List Procedure) (j : ℕ) (q : Procedure) (s : State) → slice_get ps j ≡ Some q → fewness_from kinds [] no_fewness ps j s → AllocatesFew (unit_world kinds (take j ps)) (few_before ps j) q.body s
  few_at ps j q s e h =
      let own : j ≡ zero + j = omega arith in
      here ps [] no_fewness j q s e (subst (λ n. fewness_from kinds [] no_fewness ps n s) own h)

  -- also among those before a later one
  pub few_above : (ps : List Procedure) (k j : ℕ) (q : Procedure) (s : State) → j < k → slice_get ps j ≡ Some q → few_before ps k j s → AllocatesFew (unit_world kinds (take j ps)) (few_before ps j) q.body s
  few_above ps k j q s b e h =
      subst (λ l. AllocatesFew (unit_world kinds l) (fewness_from kinds [] no_fewness l) q.body s) (take_shorter ps k j b) (few_at (take k ps) j q s (get_taken ps k j b ∙ e) h)

  -- ---- and the other way round

  -- later procedures change nothing
  later : (ps : List Procedure) (above : List Callee) (few : Fewness) (j : ℕ) (s : State) → j < length above → few j s → fewness_from kinds above few ps j s
  later [] above few j s b h = h
  later (p ∷ ps) above few j s b h =
      let c = callee_in (world_of kinds above) p in
      let more = one_longer above c in
      later ps (above ++ c ∷ []) (Next above few p) j s (omega (arith, b, more))
      (subst (λ t. one_of t (AllocatesFew (world_of kinds above) few p.body s) (few j s)) (sym (other (j == length above) refl)) h)
    where
      other : (t : Bool) → (j == length above) ≡ t → t ≡ false
      other false e = refl
      other true e = let d = eqb-true j (length above) e in absurd (omega (arith, b, d))

  -- what a body allocates makes up what its procedure does
  there : (ps : List Procedure) (above : List Callee) (few : Fewness) (i : ℕ) (q : Procedure) (s : State) → slice_get ps i ≡ Some q → AllocatesFew (world_of kinds (callees kinds above (take i ps))) (fewness_from kinds above few (take i ps)) q.body s → fewness_from kinds above few ps (length above + i) s
  there [] above few zero q s e h = absurd (none_some e)
  there [] above few (suc i) q s e h = absurd (none_some e)
  there (p ∷ ps) above few zero q s e h =
      let c = callee_in (world_of kinds above) p in
      let more = one_longer above c in
      let own : length above + zero ≡ length above = omega arith in
      later ps (above ++ c ∷ []) (Next above few p) (length above + zero) s (omega (arith, more))
      (subst (λ t. one_of t (AllocatesFew (world_of kinds above) few p.body s) (few (length above + zero) s)) (sym (eq-eqb (length above + zero) (length above) own))
      (subst (λ z. AllocatesFew (world_of kinds above) few z.body s) (sym (some_same e)) h))
  there (p ∷ ps) above few (suc i) q s e h =
      let c = callee_in (world_of kinds above) p in
      let more = one_longer above c in
      let next_one : length above + suc i ≡ length (above ++ c ∷ []) + i = omega (arith, more) in
      subst (λ n. fewness_from kinds (above ++ c ∷ []) (Next above few p) ps n s) (sym next_one) (there ps (above ++ c ∷ []) (Next above few p) i q s e h)

  pub made_few : (ps : List Procedure) (j : ℕ) (q : Procedure) (s : State) → slice_get ps j ≡ Some q → AllocatesFew (unit_world kinds (take j ps)) (few_before ps j) q.body s → fewness_from kinds [] no_fewness ps j s
  made_few ps j q s e h =
      let own : zero + j ≡ j = omega arith in
      subst (λ n. fewness_from kinds [] no_fewness ps n s) own (there ps [] no_fewness j q s e h)

  pub made_above : (ps : List Procedure) (k j : ℕ) (q : Procedure) (s : State) → j < k → slice_get ps j ≡ Some q → AllocatesFew (unit_world kinds (take j ps)) (few_before ps j) q.body s → few_before ps k j s
  made_above ps k j q s b e h =
      made_few (take k ps) j q s (get_taken ps k j b ∙ e)
      (subst (λ l. AllocatesFew (unit_world kinds l) (fewness_from kinds [] no_fewness l) q.body s) (sym (take_shorter ps k j b)) h)
