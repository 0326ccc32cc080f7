-- The last parts of an answer.
use Rattle.std.specs.Prelude.{◌+◌, ℕ, List, length}
use Rattle.exo_tree.specs.Tree.{Block, statements, Procedure}
use Rattle.exo_tree.specs.Context.{fill}
use Rattle.affine_systems.specs.Outcomes.{Owed}
use Rattle.tree_findings.specs.declared.findings.Findings.{Findings}
use Rattle.tree_findings.specs.Classes.{both}
use Rattle.tree_findings.specs.Findings.{findings_of_body, findings_of_version}
use Rattle.tree_edits.specs.Made.Ids.{next_id}
use Rattle.tree_edits.specs.Made.Names.{named_copies}
use Rattle.cursor_forward.specs.Shifts.{Edits, edits_of}
use Rattle.cursor_forward.specs.Proposals.{Plan}
use Rattle.step_rules.specs.Rule.{Tried, Got, Spot, Simplified, Rule}
use Rattle.step_rules.specs.Owing.{shape_alone, owed_needs}
use Rattle.tree_edits.specs.Made.Passes.{or_pass}
use Rattle.step_rules.specs.Answer.{then_try, unless, broken, body_with}

-- what is found of the result as it is made, and of what is needed
abbrev pub shape_of : Spot → Block → Findings → Findings
shape_of s plain needed =
    let body = body_with s plain in
    shape_alone (both (findings_of_body s.target.unit s.target.proc.params body) needed)

-- the procedure, and all that is told, by the block that stands in the place of the piece
abbrev pub version_by : Rule → Spot → ℕ → Block → Procedure
version_by r s base whole = record s.target.proc {
  name = r.name s.target.proc;
  body = named_copies s.target.proc (base + r.named) (fill s.opened.around whole);
}

abbrev pub edits_by : Rule → Spot → Block → Edits
edits_by r s whole =
    edits_of s.piece.path s.piece.count (length (statements whole)) (r.shifts s)

abbrev pub plan_by : Rule → Spot → Procedure → Block → List Owed → Plan
plan_by r s q whole must = record {
  proc = q;
  must = must;
  edits = edits_by r s whole;
  fields = r.fields s;
  place = (r.point s).0;
  side = (r.point s).1;
}

-- by what stands in the place of the piece and what is owed
abbrev pub settled : Rule → Spot → Block → List Owed → Tried Plan
settled r s whole must =
    let base = next_id s.target.proc in
    let q = version_by r s base whole in
    unless (broken (findings_of_version s.target.unit base q)) (Got (plan_by r s q whole must))

-- by what is drafted and what is owed
abbrev pub concluded : Rule → Spot → Block → List Owed → Tried Plan
concluded r s made must = settled r s (or_pass s.opened.around made) must

-- behind the rule's own refusals
abbrev pub finished : Rule → Spot → Tried Plan
finished r s =
    then_try (r.draft s Simplified (next_id s.target.proc)) (λ made.
    then_try (owed_needs s.target (r.needs s)) (λ must.
    concluded r s made must))
