-- A step keeps what holds of all versions.
use Rattle.std.proofs.Common.{◌≡◌, ◌≤◌, ◌<◌, ◌+◌, ◌^◌, ℕ, zero, suc, Bool, true, false}
use Rattle.std.proofs.Common.{List, [], ◌∷◌, ◌++◌, length, Option, Some, None, refl, sym, ap}
use Rattle.std.proofs.Common.{◌∙◌, subst, arith, All, ◌⊎◌, inl, inr, eqb-true}
use Rattle.std.specs.Prelude.{slice_get, nat_lt, nat_le, Contains, ◌==◌}
use Rattle.std.specs.Prelude.{if◌then◌else◌}
use Rattle.meaning_laws.proofs.Parts.{none_some}
use Rattle.exo_tree.specs.Tree.{Procedure, Program}
use Rattle.exo_tree.specs.Places.{Path}
use Rattle.exo_meaning.specs.Run.{program_world, kinds_of}
use Rattle.exo_meaning.specs.Inputs.{Refines}
use Rattle.exo_meaning.specs.Orders.{Each}
use Rattle.exo_meaning.specs.Units.{IsUnit}
use Rattle.meaning_laws.specs.Chain.{HasHead}
use Rattle.meaning_laws.specs.Grown.{calls_below, GrownRefinesLaw}
use Rattle.affine_prover.specs.Laws.{ShownSystemsHaveNoPoint}
use Rattle.bounds_check.specs.Obligations.{obligations_of}
use Rattle.unit_check.specs.Checked.{first_open}
use Rattle.unit_check.specs.Faults.{NothingFaults}
use Rattle.tree_edits.specs.Made.Ids.{next_id}
use Rattle.config_laws.specs.Differing.{Origin, step_fields, DescendantsRefine}
use Rattle.config_laws.specs.FieldRule.{fields_at_end, not_again, surely_from}
use Rattle.config_laws.proofs.Grown.{step_fields_grown}
use Rattle.cursor_forward.specs.Proposals.{Plan}
use Rattle.step_rules.specs.Rule.{Target, Got, Rule}
use Rattle.step_rules.specs.Answer.{proposed}
use Rattle.step_rules.specs.Owing.{AreShown}
use Rattle.step_rules.specs.Lawful.{IsTarget, IsLawful, config_side, differ_at_end}
use Rattle.step_rules.specs.Laws.{KeptLaw, MeaningLaw}
use Rattle.step_rules.proofs.Proposals.{proposal_of}
use Rattle.tree_laws.specs.Findings.Versions.{has_room, with_version}
use Rattle.schedule_laws.specs.Versions.Versions.{made_of, Versions, version_at}
use Rattle.schedule_laws.specs.Versions.Versions.{with_step}
use Rattle.schedule_laws.specs.Versions.Places.{parent_at}
use Rattle.schedule_laws.specs.Versions.Lines.{target, owed_for}
use Rattle.schedule_laws.specs.Versions.Laws.{fields_of_step, NamesFields, IsMade, AreDerived}
use Rattle.unit_check.proofs.Made.{IsMade as IsSystem, IsClosed, none_open_is_closed}
use Rattle.unit_check.proofs.Made.{obligations_are_made}
use Rattle.schedule_laws.proofs.OfVersions.Open.{first_none, second_none, needs_are_made}
use Rattle.schedule_laws.proofs.OfVersions.Quiet.{Laws, Which, old, last, which, get_last, get_old}
use Rattle.schedule_laws.proofs.OfVersions.Quiet.{one_longer, calls_before, calls_unit, nothing_faults}
use Rattle.schedule_laws.proofs.OfVersions.Growing.{end_grown, by_own_origin, of_last}
use Rattle.schedule_laws.proofs.OfVersions.Chain.{are_versions}

-- the laws on which it stands
pub record StepLaws : Type 0 where
  pub quiet : Laws
  pub points : ShownSystemsHaveNoPoint
  pub kept : KeptLaw
  pub meaning : MeaningLaw
  pub refines : GrownRefinesLaw
  pub descend : DescendantsRefine

-- the parent that an origin tells
abbrev parent_of : Option Origin → Option ℕ
parent_of o = elim o as (λ o. Option ℕ) [ None ↦ None | Some o ↦ o.parent ]

is_less : (k n : ℕ) → nat_lt k n ≡ true → k < n
is_less k n h = grind arith

less_is : (k n : ℕ) → k < n → nat_lt k n ≡ true
less_is k n h = grind arith

-- what is there has a number below the length
within : {A : Type 0} (xs : List A) (k : ℕ) (x : A) → slice_get xs k ≡ Some x
    → nat_lt k (length xs) ≡ true
within [] zero x h = absurd (none h)
  where
    none : None ≡ Some x → ⊥
    none h = cc
within [] (suc k) x h = absurd (none h)
  where
    none : None ≡ Some x → ⊥
    none h = cc
within (y ∷ xs) zero x h = first (length xs)
  where
    first : (n : ℕ) → nat_lt 0 (suc n) ≡ true
    first n = grind arith
within (y ∷ xs) (suc k) x h = up (within xs k x h)
  where
    up : nat_lt k (length xs) ≡ true → nat_lt (suc k) (suc (length xs)) ≡ true
    up h = grind arith

same_some : {A : Type 0} {x y : A} → Some x ≡ Some y → x ≡ y
same_some h = cc

side_of : (k n : ℕ) → (nat_lt k n ≡ true) ⊎ (n ≤ k)
side_of k n = by (nat_lt k n) refl
  where
    by : (b : Bool) → nat_lt k n ≡ b → (nat_lt k n ≡ true) ⊎ (n ≤ k)
    by true e = inl e
    by false e = inr (grind arith)

not_there : {A : Type 0} (xs : List A) (k : ℕ) → nat_lt k (length xs) ≡ true
    → slice_get xs k ≡ None → ⊥
not_there [] k h e = none k h
  where
    none : (k : ℕ) → nat_lt k 0 ≡ true → ⊥
    none k h = grind arith
not_there (x ∷ xs) zero h e = absurd (none_some (sym e))
not_there (x ∷ xs) (suc k) h e = not_there xs k (less k (length xs) h) e
  where
    less : (k n : ℕ) → nat_lt (suc k) (suc n) ≡ true → nat_lt k n ≡ true
    less k n h = grind arith

past_end : {A : Type 0} (xs : List A) (k : ℕ) → length xs ≤ k → slice_get xs k ≡ None
past_end [] zero h = refl
past_end [] (suc k) h = refl
past_end (x ∷ xs) zero h = absurd (none h)
  where
    none : suc (length xs) ≤ 0 → ⊥
    none h = omega arith
past_end (x ∷ xs) (suc k) h = past_end xs k (less h)
  where
    less : suc (length xs) ≤ suc k → length xs ≤ k
    less h = omega arith

past_all : (k n m : ℕ) → n ≤ k → (k == n) ≡ false → m ≡ suc n → m ≤ k
past_all k n m h e i = grind arith

none_contained : (f : ℕ) → Contains [] f → ⊥
none_contained f c = none c.0 c.1
  where
    none : (i : ℕ) → i < 0 → ⊥
    none i h = omega arith

-- no version, no fields
beyond_versions : (w : Versions) (k : ℕ) → length w.unit.procedures ≤ k
    → fields_of_step w k ≡ []
beyond_versions w k h = by (slice_get w.origins k)
  where
    by : (o : Option Origin) → elim o as (λ o. List ℕ) [
      | None ↦ []
      | Some o ↦ elim (slice_get w.unit.procedures k) as (λ r. List ℕ) [
        | None ↦ []
        | Some q ↦ fields_at_end w.unit.procedures q.body o.place o.side o.fields
      ]
    ] ≡ []
    by None = refl
    by (Some o) =
        ap (λ (r : Option Procedure). elim r as (λ r. List ℕ) [
          | None ↦ []
          | Some q ↦ fields_at_end w.unit.procedures q.body o.place o.side o.fields
        ]) (past_end w.unit.procedures k h)

-- those of a list that are left are among those of the list
among_fields : (n f : ℕ) (written : ℕ → Bool) (fs : List ℕ) → Each (λ g. g < n) fs
    → Contains (not_again written fs) f → f < n
among_fields n f written [] h c = absurd (none_contained f c)
among_fields n f written (g ∷ gs) h c =
    by (written g) (among_fields n f written gs h.1) c
  where
    first_or : Contains (g ∷ not_again written gs) f
        → (Contains (not_again written gs) f → f < n) → f < n
    first_or (zero, less, e) on = subst (λ z. z < n) e h.0
    first_or (suc i, less, e) on = on (i, (let k : suc i < suc (length (not_again written gs)) = less in omega (arith, k)), e)

    by : (b : Bool) → (Contains (not_again written gs) f → f < n)
        → Contains (if b then not_again written gs else g ∷ not_again written gs) f → f < n
    by true on c = on c
    by false on c = first_or c on

-- ---- one step

module _ (laws : StepLaws) (v : Versions) (derived : AreDerived v) (k : ℕ) (p : Procedure)
    (there : version_at v k ≡ Some p) (r : Rule) (lawful : IsLawful r) (names_fields : NamesFields r)
    (at : Path) (m : Plan)
    (ids : nat_le (next_id p + 65536) (2 ^ 31) ≡ true) (room : has_room v.unit ≡ true)
    (got : proposed r (target v k p) at ≡ Got m) (shown : first_open (owed_for v m) ≡ None)
    (name : List ℕ) where
  abbrev ps : List Procedure
  ps = v.unit.procedures

  abbrev t : Target
  t = target v k p

  abbrev longer : Program
  longer = with_version v.unit m.proc

  abbrev w : Versions
  w = with_step name k m (length (owed_for v m)) v

  is_target : IsTarget t
  is_target = record { unit = derived.formed; there = there; ids = ids }

  pub formed : IsUnit longer
  formed = laws.kept r t at m is_target room got

  owed : AreShown m.must
  owed =
      let a = (proposal_of r t at m got).answer in
      let made = needs_are_made t (r.needs _) a.must a.owes in
      none_open_is_closed laws.points m.must
      (subst (λ (n : Plan). Each IsSystem n.must) a.is made)
      (first_none m.must (obligations_of longer m.proc) shown)

  closed : All IsClosed (obligations_of longer m.proc)
  closed =
      none_open_is_closed laws.points (obligations_of longer m.proc)
      (obligations_are_made longer m.proc)
      (second_none m.must (obligations_of longer m.proc) shown)

  pub quiet : NothingFaults longer
  quiet = nothing_faults laws.quiet v.unit m.proc derived.formed formed derived.quiet closed

  count : length w.origins ≡ length w.unit.procedures
  count =
      one_longer v.origins (made_of k m) ∙ ap suc derived.count ∙ sym (one_longer ps m.proc)

  -- ---- older versions

  old_origin : (i : ℕ) → nat_lt i (length ps) ≡ true
      → slice_get w.origins i ≡ slice_get v.origins i
  old_origin i h =
      get_old v.origins (made_of k m) i (subst (λ n. nat_lt i n ≡ true) (sym derived.count) h)

  old_parent : (i : ℕ) → nat_lt i (length ps) ≡ true → parent_at w i ≡ parent_at v i
  old_parent i h = ap parent_of (old_origin i h)

  old_fields : (i : ℕ) (q : Procedure) → nat_lt i (length ps) ≡ true → slice_get ps i ≡ Some q
      → fields_of_step w i ≡ fields_of_step v i
  old_fields i q h e =
      step_fields_grown ps (m.proc ∷ []) w.origins i q e
      (calls_unit laws.quiet v.unit derived.formed i q e)
      ∙ by_own_origin ps w.origins v.origins i (old_origin i h)

  below : (i : ℕ) (q : Procedure) → slice_get ps i ≡ Some q
      → calls_below (length ps) q.body ≡ true
  below i q e = calls_unit laws.quiet v.unit derived.formed i q e

  pub new_below : calls_below (length ps) m.proc.body ≡ true
  new_below = calls_before laws.quiet v.unit m.proc formed

  grown : (a b : Procedure) (but : List ℕ) → calls_below (length ps) a.body ≡ true
      → calls_below (length ps) b.body ≡ true → Refines (program_world v.unit) a b but
      → Refines (program_world longer) a b but
  grown a b but h i = laws.refines (kinds_of v.unit.fields) ps (m.proc ∷ []) a b but h i

  kept_made : (j i : ℕ) (q : Procedure) → nat_lt i (length ps) ≡ true → slice_get ps i ≡ Some q
      → parent_at v i ≡ Some j
      → (a : Procedure) × (slice_get w.unit.procedures j ≡ Some a) × IsMade w j i a q
  kept_made j i q h e above =
      let one = derived.made j i q above e in
      let a = one.0 in
      let made = one.2 in (
        a,
        get_old ps m.proc j (within ps j a one.1) ∙ one.1,
        record {
          before = made.before;
          head = made.head;
          refines =
              subst (Refines (program_world longer) a q) (sym (old_fields i q h e))
              (grown a q (fields_of_step v i) (below j a one.1) (below i q e) made.refines);
        },
      )

  -- ---- the new one

  new_head : HasHead p m.proc
  new_head =
      let a = (proposal_of r t at m got).answer in
      subst (λ (n : Plan). HasHead p n.proc) a.is (refl, refl)

  new_fields : fields_of_step w (length ps)
      ≡ differ_at_end t m.proc.body m.place m.side m.fields
  new_fields =
      of_last (ps ++ m.proc ∷ []) v.origins (made_of k m) m.proc (length ps) (sym derived.count)
      (get_last ps m.proc)
      ∙ end_grown ps (m.proc ∷ []) m.proc.body m.place (config_side m.side) m.fields new_below

  new_made : IsMade w k (length ps) p m.proc
  new_made = record {
    before = is_less k (length ps) (within ps k p there);
    head = new_head;
    refines =
        let but = differ_at_end t m.proc.body m.place m.side m.fields in
        subst (Refines (program_world longer) p m.proc) (sym new_fields)
        (grown p m.proc but (below k p there) new_below
        (laws.meaning r t at m lawful is_target
        (laws.descend v.unit v.origins (are_versions v derived)) got owed));
  }

  new_parent : parent_at w (length ps) ≡ Some k
  new_parent =
      ap parent_of
      (ap (slice_get w.origins) (sym derived.count) ∙ get_last v.origins (made_of k m))

  all_made : (j i : ℕ) (q : Procedure) → Which ps m.proc q i → parent_at w i ≡ Some j
      → (a : Procedure) × (slice_get w.unit.procedures j ≡ Some a) × IsMade w j i a q
  all_made j i q (old h e) above = kept_made j i q h e (sym (old_parent i h) ∙ above)
  all_made j i q (last h e) above =
      let same : k ≡ j = same_some (sym new_parent ∙ ap (parent_at w) (sym h) ∙ above) in
      let here = get_old ps m.proc k (within ps k p there) ∙ there in
      subst (λ n. (a : Procedure) × (slice_get w.unit.procedures n ≡ Some a) × IsMade w n i a q)
      same (
        p,
        here,
        subst (λ n. IsMade w k n p q) (sym h) (subst (IsMade w k (length ps) p) (sym e)
            new_made),
      )

  -- ---- fields

  plan_fields : Each (λ f. f < length v.unit.fields) m.fields
  plan_fields =
      let a = (proposal_of r t at m got).answer in
      subst (λ (n : Plan). Each (λ f. f < length v.unit.fields) n.fields) a.is (names_fields _)

  either_field : (i f : ℕ) → (nat_lt i (length ps) ≡ true) ⊎ (length ps ≤ i)
      → Contains (fields_of_step w i) f → f < length v.unit.fields
  either_field i f (inl h) c =
      by_version (slice_get ps i) refl
    where
      by_version : (o : Option Procedure) → slice_get ps i ≡ o → f < length v.unit.fields
      by_version None e = absurd (not_there ps i h e)
      by_version (Some q) e =
          derived.fields i f (subst (λ l. Contains l f) (old_fields i q h e) c)
  either_field i f (inr h) c = by_number (i == length ps) refl
    where
      by_number : (b : Bool) → (i == length ps) ≡ b → f < length v.unit.fields
      by_number true e =
          let written = surely_from ps m.proc.body m.place (config_side m.side) in
          among_fields (length v.unit.fields) f written m.fields plan_fields
          (subst (λ l. Contains l f)
          (ap (fields_of_step w) (eqb-true i (length ps) e) ∙ new_fields) c)
      by_number false e =
          let beyond = past_all i (length ps) (length w.unit.procedures) h e
          (one_longer ps m.proc) in
          absurd (none_contained f (subst (λ l. Contains l f) (beyond_versions w i beyond) c))

  pub step_is_derived : AreDerived w
  step_is_derived = record {
    formed = formed;
    quiet = quiet;
    count = count;
    made = λ j i q above e. all_made j i q (which ps m.proc q i e) above;
    fields = λ i f c. either_field i f (side_of i (length ps)) c;
  }
