-- What a version owes that differs from the latest one before it by one store.
use Rattle.std.proofs.Common.{◌≡◌, ℕ, zero, suc, List, [], ◌∷◌, ◌++◌, map, Option, Some, None, refl}
use Rattle.std.proofs.Common.{sym, ap, ◌∙◌}
use Rattle.std.proofs.Common.{subst}
use Rattle.std.specs.Prelude.{Bool, true, false, if◌then◌else◌, slice_get, IfSome, IfOk, Result, Ok}
use Rattle.std.specs.Prelude.{Err}
use Rattle.std.specs.List.{list_any}
use Rattle.exo_tree.specs.Tree.{Procedure, Program}
use Rattle.exo_tree.specs.Places.{Path}
use Rattle.exo_meaning.specs.Units.{IsUnit}
use Rattle.affine_systems.specs.Limits.{are_within}
use Rattle.affine_systems.specs.Outcomes.{Owed, plain_obligation}
use Rattle.affine_systems.specs.declared.obligation.Obligation.{Obligation}
use Rattle.bounds_check.specs.Obligations.{obligations_of, owed_for_all, first_fault}
use Rattle.tree_laws.specs.Findings.Versions.{with_version, HasHeadOf}
use Rattle.step_rules.specs.Rule.{Tried}
use Rattle.step_rules.specs.Rule as rule
use Rattle.step_rules.specs.Answer.{proposed}
use Rattle.step_rules.proofs.Proposals.{IsProposal, proposal_of}
use Rattle.cursor_forward.specs.Cursors.{Cursor}
use Rattle.cursor_forward.specs.PlainProposal.{plain_proposal}
use Rattle.cursor_forward.specs.Proposals.{Plan}
use Rattle.cursor_forward.specs.declared.proposal.Proposal.{Proposal}
use Rattle.exo_tree.specs.PlainProcedure.{procedure}
use Rattle.schedule_laws.specs.Versions.Versions.{Versions}
use Rattle.schedule_laws.specs.Versions.Places.{Sought, Got, Lost}
use Rattle.schedule_laws.specs.Versions.Lines.{UnknownName, target, Ruled, Call, all_sought}
use Rattle.schedule_run.specs.Outcomes.{Makes}
use Rattle.schedule_run.specs.Planned as plans
use Rattle.schedule_run.specs.Planned.{Made, Not, then_make, as_found, as_tried, planned_by}
use Rattle.schedule_run.specs.Planned.{planned}
use Rattle.schedule_run.specs.declared.why.Why as memory
use Rattle.schedule_run.proofs.Plans.{got_same, got_not}
use Rattle.schedule_laws.specs.Owed.Stores.{StoreChanged, StoreVersion, stands_at}
use Rattle.schedule_laws.specs.Owed.Stores.{with_others_there}
use Rattle.schedule_laws.specs.Owed.Stores.{claims_there, owed_there, owed_with_store}
use Rattle.schedule_laws.specs.Owed.Stores.{ChangedStoresOweTheirOwn}
use Rattle.schedule_run.specs.Follows.{ComesOf, Follows}
use Rattle.schedule_run.specs.Running.{AreKept}
use Rattle.schedule_run.specs.Spliced.{IsSpliced}
use Rattle.schedule_run.specs.declared.running.Latest.{Latest}

-- ---- a procedure of a unit is there behind more of them

pub still_there : (ps more : List Procedure) (k : ℕ) (p : Procedure) → slice_get ps k ≡ Some p
    → slice_get (ps ++ more) k ≡ Some p
still_there [] more k p h = absurd (none k h)
  where
    none : (k : ℕ) → slice_get [] k ≡ Some p → ⊥
    none zero h = cc
    none (suc k) h = cc
still_there (q ∷ ps) more zero p h = h
still_there (q ∷ ps) more (suc k) p h = still_there ps more k p h

some_is : (p q : Procedure) → Some p ≡ Some q → p ≡ q
some_is p q h = cc

-- ---- the list with its own store's

module _ (law : ChangedStoresOweTheirOwn) (owed own made : List Obligation) (k : ℕ) (v : Program)
    (q : Procedure) (path : Path) (f : Follows owed k v q) where
  abbrev plain : List Obligation → List Owed
  plain os = map plain_obligation os

  pub owes_its_store : ((p : Procedure) → slice_get v.procedures k ≡ Some p
      → StoreChanged path p.body q.body)
      → (first_fault v q [] (claims_there v q path) ≡ None)
      × (plain own ≡ owed_for_all v q (claims_there v q path))
      → IsSpliced path (plain own) (plain owed) (plain made) → AreKept made v q
  owes_its_store changed listed s =
      let u = f.unit in
      let p = f.comes.parent in
      let w = with_version u q in
      let earlier : slice_get v.procedures k ≡ Some p =
      ap (λ (x : Program). slice_get x.procedures k) f.is
      ∙ still_there u.procedures (q ∷ []) k p f.comes.place in
      let none : first_fault w q [] (claims_there w q path) ≡ None =
      subst (λ (x : Program). first_fault x q [] (claims_there x q path) ≡ None) f.is listed.0 in
      let owns : plain own ≡ owed_there w q path =
      subst (λ (x : Program). plain own ≡ owed_for_all x q (claims_there x q path)) f.is listed.1 in
      let kept : plain owed ≡ obligations_of u p = f.kept.1 in
      let whole : plain made ≡ owed_with_store u p q path =
      s.is ∙ (λ i. with_others_there path (owns i) (kept i)) in
      let version : StoreVersion u k p q path = record {
        unit = f.formed;
        place = f.comes.place;
        head = f.comes.head;
        changed = changed p earlier;
      } in
      let done =
      law u k p q path version f.kept.0 (ap (list_any (stands_at path)) (sym kept) ∙ s.some) none
      (ap are_within (sym whole) ∙ s.within) in
      subst (λ (x : Program). AreKept made x q) (sym f.is) (done.fault, whole ∙ sym done.owed)

-- ---- the latest version, where the step was made on it

pub all_follow : (before : Option Latest) (u v : Program) (made : Procedure) (k n : ℕ) → IsUnit u
    → v ≡ with_version u made → ComesOf u k made → slice_get v.procedures n ≡ Some made
    → IfSome before (λ l. (p : Procedure) → slice_get u.procedures l.version.0 ≡ Some p
    → AreKept l.owed.items u p)
    → IfSome before (λ l. l.version.0 ≡ k → (q : Procedure) → slice_get v.procedures n ≡ Some q
    → Follows l.owed.items k v q)
all_follow None u v made k n is longer comes there kept = tt
all_follow (Some l) u v made k n is longer comes there kept = λ same q at.
    subst (λ (x : Procedure). Follows l.owed.items k v x) (some_is made q (sym there ∙ at))
    (record {
      unit = u;
      formed = is;
      is = longer;
      comes = comes;
      kept = kept comes.parent (ap (slice_get u.procedures) same ∙ comes.place);
    })

-- ---- what is planned has the head of what it is made of

module _ (v : Versions) (k : ℕ) (p : Procedure) (there : slice_get v.unit.procedures k ≡ Some p)
    (call : Call)
    (m : Plan) where
  abbrev Comes : Type 0
  Comes = ComesOf v.unit k m.proc

  by_proposal : (r : Ruled) → IsProposal r.rule (target v k p) r.at m → Comes
  by_proposal r a =
      subst (λ (n : Plan). ComesOf v.unit k n.proc) a.answer.is
      (record {
        parent = p;
        place = there;
        head = record { params = refl; asserts = refl; template = refl };
      })

  by_plan : (r : Ruled) (t : Tried Plan) → proposed r.rule (target v k p) r.at ≡ t
      → as_tried t ≡ plans.Got m → Comes
  by_plan r (rule.Got n) e h =
      by_proposal r (proposal_of r.rule (target v k p) r.at m (e ∙ ap rule.Got (got_same h)))
  by_plan r (rule.Not cause) e h = absurd (got_not h)

  by_rule : (t : Tried Ruled)
      → then_make (as_tried t) (λ r. as_tried (proposed r.rule (target v k p) r.at)) ≡ plans.Got m
      → Comes
  by_rule (rule.Got r) h = by_plan r (proposed r.rule (target v k p) r.at) refl h
  by_rule (rule.Not cause) h = absurd (got_not h)

  by_cursors : (s : Sought (List Cursor))
      → then_make (as_found s) (planned_by v k p call) ≡ plans.Got m → Comes
  by_cursors (Got cs) h = by_rule (call.rule v (target v k p) cs) h
  by_cursors (Lost why) h = absurd (got_not h)

  by_names : (b : Bool) (made : Made Plan) → (made ≡ plans.Got m → Comes)
      → (if b then made else Not UnknownName) ≡ plans.Got m → Comes
  by_names true made on h = on h
  by_names false made on h = absurd (got_not h)

  pub planned_comes : planned v k p call ≡ plans.Got m → Comes
  planned_comes =
      by_names (call.named v)
      (then_make (as_found (all_sought v k call.cursors)) (planned_by v k p call))
      (by_cursors (all_sought v k call.cursors))

pub all_come : (v : Versions) (k : ℕ) (p : Procedure) (call : Call) (r : Result Proposal memory.Why)
    → slice_get v.unit.procedures k ≡ Some p → Makes plain_proposal (planned v k p call) r
    → IfOk r (λ m. ComesOf v.unit k (procedure m.proc))
all_come v k p call (Ok m) there h = planned_comes v k p there call (plain_proposal m) h
all_come v k p call (Err e) there h = tt
