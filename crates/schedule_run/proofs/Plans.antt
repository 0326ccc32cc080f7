-- What operators make, by what calls below answer.
use Rattle.std.proofs.Common.{◌≡◌, ℕ, List, Option, Some, None, refl, subst}
use Rattle.std.specs.Prelude.{MatchOption, Result, Ok, Err, IfOk, Bool, true, false, if◌then◌else◌}
use Rattle.exo_tree.specs.PlainProcedure.{procedure}
use Rattle.exo_meaning.specs.Units.{IsUnit}
use Rattle.tree_laws.specs.Findings.Versions.{has_room, with_version}
use Rattle.step_rules.specs.Laws.{KeptLaw}
use Rattle.step_rules.specs.Lawful.{IsTarget}
use Rattle.cursor_forward.specs.PlainProposal.{plain_proposal}
use Rattle.cursor_forward.specs.declared.proposal.Proposal.{Proposal}
use Rattle.schedule_run.specs.Outcomes.{Makes}
use Rattle.exo_tree.specs.Tree.{Procedure}
use Rattle.cursor_forward.specs.Cursors.{Cursor}
use Rattle.cursor_forward.specs.Proposals.{Plan}
use Rattle.cursor_forward.specs.PlainProposal.{cause_of}
use Rattle.step_rules.specs.Rule.{Tried}
use Rattle.step_rules.specs.Rule as rule
use Rattle.step_rules.specs.Answer.{proposed}
use Rattle.schedule_laws.specs.Versions.Versions.{Versions}
use Rattle.schedule_laws.specs.Versions.Places.{Sought, Got, Lost}
use Rattle.schedule_laws.specs.Versions.Lines.{Why, UnknownName, target, Ruled, Call, all_sought}
use Rattle.schedule_run.specs.Planned as plans
use Rattle.schedule_run.specs.Planned.{Made, Not, then_make, as_found, as_tried, planned_by, planned}
use Rattle.schedule_run.specs.PlainWhy.{Says, fault_of}
use Rattle.schedule_run.specs.declared.why.Why as memory
use Rattle.schedule_run.specs.declared.why.Why.TheVariants as why

-- ---- refusals

matched : {A : Type 0} (P Q : A → Type 0) → ((x : A) → P x → Q x) → (o : Option A)
    → MatchOption o ⊥ P → MatchOption o ⊥ Q
matched P Q f None h = h
matched P Q f (Some x) h = f x h

-- what is meant may be said in another way
pub says : (P Q : Why → Type 0) → ((w : Why) → P w → Q w) → (e : memory.Why) → Says P e → Says Q e
says P Q f why.UnknownOperator h = f _ h
says P Q f why.BadArguments h = f _ h
says P Q f why.UnknownProc h = f _ h
says P Q f why.UnknownName h = f _ h
says P Q f (why.NoPlace m) h = f _ h
says P Q f (why.Step e) h = matched _ _ (λ c. f _) (cause_of e) h
says P Q f (why.Check e) h = matched _ _ (λ c. f _) (fault_of e) h
says P Q f (why.NotShown what place verdict) h = f _ h
says P Q f why.Memory h = tt

pub not_got : {T : Type 0} {x : T} {w : Why} → plans.Got x ≡ Not w → ⊥
not_got h = cc

pub got_same : {T : Type 0} {x y : T} → plans.Got x ≡ plans.Got y → x ≡ y
got_same h = cc

pub got_not : {T : Type 0} {x : T} {w : Why} → Not w ≡ plans.Got x → ⊥
got_not h = cc

pub not_same : {T : Type 0} (a b : Why) → ◌≡◌ {A = Made T} (Not a) (Not b) → a ≡ b
not_same a b h = cc

-- ---- what is planned may stand behind the procedures

module _ (v : Versions) (k : ℕ) (p : Procedure) (call : Call) (m : Plan) (law : KeptLaw)
    (is : IsTarget (target v k p)) (room : has_room v.unit ≡ true) where
  abbrev Stands : Type 0
  Stands = IsUnit (with_version v.unit m.proc)

  by_plan : (r : Ruled) (t : Tried Plan) → proposed r.rule (target v k p) r.at ≡ t
      → as_tried t ≡ plans.Got m → Stands
  by_plan r (rule.Got n) e h =
      subst (λ (m : Plan). IsUnit (with_version v.unit m.proc)) (got_same h)
      (law r.rule (target v k p) r.at n is room e)
  by_plan r (rule.Not cause) e h = absurd (got_not h)

  by_rule : (t : Tried Ruled)
      → then_make (as_tried t) (λ r. as_tried (proposed r.rule (target v k p) r.at)) ≡ plans.Got m
      → Stands
  by_rule (rule.Got r) h = by_plan r (proposed r.rule (target v k p) r.at) refl h
  by_rule (rule.Not cause) h = absurd (got_not h)

  by_cursors : (s : Sought (List Cursor)) → then_make (as_found s) (planned_by v k p call) ≡ plans.Got m
      → Stands
  by_cursors (Got cs) h = by_rule (call.rule v (target v k p) cs) h
  by_cursors (Lost why) h = absurd (got_not h)

  by_names : (b : Bool) (made : Made Plan) → (made ≡ plans.Got m → Stands)
      → (if b then made else Not UnknownName) ≡ plans.Got m → Stands
  by_names true made on h = on h
  by_names false made on h = absurd (got_not h)

  pub planned_stands : planned v k p call ≡ plans.Got m → Stands
  planned_stands =
      by_names (call.named v) (then_make (as_found (all_sought v k call.cursors)) (planned_by v k p call))
      (by_cursors (all_sought v k call.cursors))

pub all_stand : (v : Versions) (k : ℕ) (p : Procedure) (call : Call) (r : Result Proposal memory.Why)
    → KeptLaw → IsTarget (target v k p) → has_room v.unit ≡ true
    → Makes plain_proposal (planned v k p call) r
    → IfOk r (λ m. IsUnit (with_version v.unit (procedure m.proc)))
all_stand v k p call (Ok m) law is room h =
    planned_stands v k p call (plain_proposal m) law is room h
all_stand v k p call (Err e) law is room h = tt
