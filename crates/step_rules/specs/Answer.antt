-- What a rule answers: the first refusal in their order, or what it proposes.
use Rattle.std.specs.Prelude.{◌+◌, ℕ, List, length, Option, Some, None}
use Rattle.exo_tree.specs.Tree.{Block, statements, Procedure}
use Rattle.exo_tree.specs.Context.{fill}
use Rattle.exo_tree.specs.Places.{Path, Opened, opened}
use Rattle.affine_systems.specs.Outcomes.{Owed}
use Rattle.tree_findings.specs.declared.findings.Findings.{Findings}
use Rattle.tree_findings.specs.Classes.{both, first_broken}
use Rattle.tree_findings.specs.Findings.{findings_of_body, findings_of_version}
use Rattle.tree_edits.specs.Made.Ids.{next_id}
use Rattle.tree_edits.specs.Made.Names.{named_copies}
use Rattle.tree_edits.specs.Made.Passes.{or_pass}
use Rattle.cursor_forward.specs.Causes.{Cause, WrongShape, OutOfScope, NameTaken, LimitPassed}
use Rattle.cursor_forward.specs.Shifts.{edits_of}
use Rattle.cursor_forward.specs.Proposals.{Plan}
use Rattle.step_rules.specs.Rule.{Tried, Got, Not, Target, Piece, Spot, AsMade, Simplified, Rule}
use Rattle.step_rules.specs.Owing.{shape_alone, owed_needs, findings_of_needs}

-- ---- one after the other

abbrev pub then_try : {T U : Type 0} → Tried T → (T → Tried U) → Tried U
then_try (Got x) next = next x
then_try (Not cause) next = Not cause

abbrev pub unless : {T : Type 0} → Option Cause → Tried T → Tried T
unless None rest = rest
unless (Some cause) rest = Not cause

abbrev pub opened_or_wrong : Option Opened → Tried Opened
opened_or_wrong None = Not WrongShape
opened_or_wrong (Some o) = Got o

-- the class that is broken first
abbrev pub broken : Findings → Option Cause
broken f = first_broken WrongShape OutOfScope NameTaken LimitPassed f

-- ---- the result

-- the old body with this in the place of the piece; a block that would be empty has a `pass`
abbrev pub body_with : Spot → Block → Block
body_with s made = fill s.opened.around (or_pass s.opened.around made)

-- under the names of the result
abbrev pub result : Rule → Spot → ℕ → Block → Procedure
result r s base made = record s.target.proc {
  name = r.name s.target.proc;
  body = named_copies s.target.proc (base + r.named) (body_with s made);
}

abbrev pub plan : Rule → Spot → ℕ → Block → List Owed → Plan
plan r s base made must = record {
  proc = result r s base made;
  must = must;
  edits =
      edits_of s.piece.path s.piece.count
      (length (statements (or_pass s.opened.around made))) (r.shifts s);
  fields = r.fields s;
  place = (r.point s).0;
  side = (r.point s).1;
}

-- ---- the order of refusals

-- rules and scope of the result as it is made and of what is needed, the rule's own refusals, the
-- forms, and then names and limits of the result alone
abbrev pub answered : Rule → Spot → Tried Plan
answered r s =
    let t = s.target in
    let base = next_id t.proc in
    let needed = findings_of_needs t (r.needs s) in
    then_try (r.draft s AsMade base) (λ plain.
    unless
    (broken (shape_alone (both (findings_of_body t.unit t.proc.params (body_with s plain)) needed))) (
    unless (r.refusal s) (
    then_try (r.draft s Simplified base) (λ made.
    then_try (owed_needs t (r.needs s)) (λ must.
    unless (broken (findings_of_version t.unit base (result r s base made))) (
    Got (plan r s base made must)))))))

abbrev pub spot : Target → Piece → Opened → Spot
spot t piece o = record { target = t; piece = piece; opened = o }

-- first the shape of the place
abbrev pub proposed : Rule → Target → Path → Tried Plan
proposed r t at =
    then_try (r.piece t at) (λ piece.
    then_try (opened_or_wrong (opened piece.count piece.path t.proc.body)) (λ o.
    answered r (spot t piece o)))
