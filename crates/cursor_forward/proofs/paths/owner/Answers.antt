use Rattle.std.proofs.Common.{◌<◌, ◌∙◌, ◌++◌, length, map, ap, sym, arith, Some}
use Rattle.exo_tree.specs.Places.{Path}
use Rattle.exo_tree.specs.PlainPlace.{step_taken}
use Rattle.cursor_forward.proofs.Parts.{owner_parts}
use Rattle.cursor_forward.proofs.paths.owner.Goals as goal

pub returns : goal.returns
returns c =
    let some : 0 < length c.in_ok-_last.up.now = grind (arith, c.is_empty.ensures, c.if-is_empty.false, c.if-is_empty.ensures) in
    ap Some (c.add_steps.ensures ∙ ap (λ (p : Path). p ++ map step_taken c.in_ok-_last.up.now) c.new-made.ensures)
    ∙ sym (owner_parts c.args.path.now c.as_slice.result.now c.in_ok-_last.up.now c.in_ok-_last._last.now c.as_slice.ensures.value c.in_ok-_last.ensures.cases.0 some)
