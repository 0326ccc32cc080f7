use Rattle.std.proofs.Common.{◌<◌, ℕ, List, length, ap, ◌∙◌, arith}
use Rattle.std.specs.Prelude.{slice_index_or}
use Rattle.std.proofs.lemmas.List.{length-map}
use Rattle.exo_tree.specs.Nodes.{capped}
use Rattle.exo_tree.specs.Places.{Path}
use Rattle.exo_tree.specs.PlainPlace.{step_taken}
use Rattle.exo_tree.specs.PlainProcedure.{procedure}
use Rattle.unit_check.specs.Preorder.{number_of}
use Rattle.unit_check.proofs.Placed.{line_where}
use Rattle.unit_check.proofs.line.line_in_procedure.Goals as goal

pub returns : goal.returns
returns c =
    let same = c.as_slice-steps.ensures.value in
    let some : 0 < length c.as_slice-steps.result.now = grind (arith, c.is_empty.ensures, c.if-is_empty.false) in
    line_where (procedure c.args.proc.now) c.args.lines.now c.args.path.now c.numbered.result
    (omega (arith, length-map c.as_slice-steps.result.now step_taken, ap length same))
    (c.numbered.ensures (number_of (procedure c.args.proc.now) c.args.path.now) (c.number_of.ensures ∙ ap (λ (q : Path). capped (number_of (procedure c.args.proc.now) q)) same)
    ∙ ap (λ (ls : List ℕ). slice_index_or ls (number_of (procedure c.args.proc.now) c.args.path.now) 0) c.as_slice.ensures)
