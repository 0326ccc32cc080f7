-- What an operator makes and what is owed for it, one after the other, are what a line does.
use Rattle.std.proofs.Common.{◌≡◌, ℕ, Bool, true, false, List, Option, Some, None, refl, sym, ap, ◌∙◌}
use Rattle.std.specs.Prelude.{if◌then◌else◌}
use Rattle.exo_tree.specs.Tree.{Procedure, Program}
use Rattle.affine_systems.specs.Outcomes.{Owed}
use Rattle.bounds_check.specs.Obligations.{Fault, list_fault}
use Rattle.unit_check.specs.Checked as unit_check
use Rattle.unit_check.specs.Checked.{first_open}
use Rattle.cursor_forward.specs.Cursors.{Cursor}
use Rattle.cursor_forward.specs.Proposals.{Plan}
use Rattle.step_rules.specs.Rule.{Tried}
use Rattle.step_rules.specs.Rule as rule
use Rattle.step_rules.specs.Answer.{proposed}
use Rattle.tree_laws.specs.Findings.Versions.{with_version}
use Rattle.schedule_laws.specs.Versions.Versions.{Versions, version_at, version_of, with_step}
use Rattle.schedule_laws.specs.Versions.Places.{Sought, Got, Lost}
use Rattle.schedule_laws.specs.Versions.Lines.{Progress, Went, Refused, UnknownName, target, owed_for}
use Rattle.schedule_laws.specs.Versions.Lines.{shown_step, checked_step, proposed_step, Ruled, Call}
use Rattle.schedule_laws.specs.Versions.Lines.{all_sought, ruled_step, found_step, called_on, called}
use Rattle.schedule_laws.specs.Versions.Lines.{BadArguments, Apply, performed}
use Rattle.schedule_run.specs.Planned as plans
use Rattle.schedule_run.specs.Planned.{Made, then_make, as_found, as_tried, planned_by, planned_on}
use Rattle.schedule_run.specs.Planned.{planned_of, stepped, counted, listed, owed_with}
use Rattle.schedule_run.specs.PlainWhy.{Says}
use Rattle.schedule_run.specs.declared.why.Why as memory
use Rattle.schedule_run.proofs.Plans.{says}

-- arguments of the right forms
pub formed_is : (v : Versions) (name of : List ℕ) (call : Call) → call.formed v ≡ true
    → performed v (Apply name of call) ≡ called v name call (version_of v of)
formed_is v name of call h =
    ap (λ (b : Bool). if b then called v name call (version_of v of) else Refused BadArguments) h

module _ (v : Versions) (name : List ℕ) (k : ℕ) where
  -- ---- what is owed

  abbrev pub finished : Plan → Made ℕ → Progress
  finished m (plans.Got n) = Went (with_step name k m n v)
  finished m (plans.Not why) = Refused why

  shown_is : (m : Plan) (o : Option unit_check.Cause)
      → shown_step v name k m o ≡ finished m (counted (owed_for v m) o)
  shown_is m None = refl
  shown_is m (Some (unit_check.NotListed fault)) = refl
  shown_is m (Some (unit_check.NotShown what place verdict)) = refl

  pub checked_is : (m : Plan) (f : Option Fault)
      → checked_step v name k m f ≡ finished m (listed (owed_for v m) f)
  checked_is m None = shown_is m (first_open (owed_for v m))
  checked_is m (Some fault) = refl

  -- ---- what an operator makes

  module _ (p : Procedure) (call : Call) where
    proposed_is : (t : Tried Plan) → proposed_step v name k t ≡ stepped v name k (as_tried t)
    proposed_is (rule.Got m) = refl
    proposed_is (rule.Not cause) = refl

    ruled_is : (t : Tried Ruled) → ruled_step v name k p t ≡ stepped v name k
        (then_make (as_tried t) (λ r. as_tried (proposed r.rule (target v k p) r.at)))
    ruled_is (rule.Got r) = proposed_is (proposed r.rule (target v k p) r.at)
    ruled_is (rule.Not cause) = refl

    found_is : (s : Sought (List Cursor)) → found_step v name k p call s ≡ stepped v name k
        (then_make (as_found s) (planned_by v k p call))
    found_is (Got cs) = ruled_is (call.rule v (target v k p) cs)
    found_is (Lost why) = refl

    tested_is : (b : Bool) (one : Progress) (made : Made Plan) → one ≡ stepped v name k made
        → (if b then one else Refused UnknownName)
        ≡ stepped v name k (if b then made else plans.Not UnknownName)
    tested_is true one made h = h
    tested_is false one made h = refl

  pub called_is : (call : Call) (o : Option Procedure)
      → called_on v name call k o ≡ stepped v name k (planned_on v k call o)
  called_is call None = refl
  called_is call (Some p) =
      tested_is p call (call.named v) _ _ (found_is p call (all_sought v k call.cursors))

  pub applied_is : (of : List ℕ) (call : Call) → call.formed v ≡ true → version_of v of ≡ Some k
      → performed v (Apply name of call) ≡ stepped v name k (planned_of v call k)
  applied_is of call formed there =
      formed_is v name of call formed ∙ ap (called v name call) there
      ∙ called_is call (version_at v k)

-- ---- a step, by what is owed for it

module _ (v : Versions) (name : List ℕ) (k : ℕ) (m : Plan) (u : Program) (must : List Owed)
    (longer : u ≡ with_version v.unit m.proc) (same : must ≡ m.must) where
  owed_is : owed_with (with_version v.unit m.proc) m.must m.proc ≡ owed_with u must m.proc
  owed_is =
      ap (λ (u : Program). owed_with u m.must m.proc) (sym longer)
      ∙ ap (λ os. owed_with u os m.proc) (sym same)

  step_is : (made : Made ℕ) → owed_with u must m.proc ≡ made
      → checked_step v name k m (list_fault (with_version v.unit m.proc) m.proc)
      ≡ finished v name k m made
  step_is made h =
      checked_is v name k m (list_fault (with_version v.unit m.proc) m.proc)
      ∙ ap (finished v name k m) (owed_is ∙ h)

  pub step_refused_by : (e : memory.Why) → Says (λ y. owed_with u must m.proc ≡ plans.Not y) e
      → Says (λ y. checked_step v name k m (list_fault (with_version v.unit m.proc) m.proc)
      ≡ Refused y) e
  step_refused_by e h =
      says (λ y. owed_with u must m.proc ≡ plans.Not y) _ (λ y h. step_is (plans.Not y) h) e h

  pub step_done_by : (n : ℕ) → owed_with u must m.proc ≡ plans.Got n
      → checked_step v name k m (list_fault (with_version v.unit m.proc) m.proc)
      ≡ Went (with_step name k m n v)
  step_done_by n h = step_is (plans.Got n) h
