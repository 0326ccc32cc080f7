use Rattle.std.proofs.Common.{◌≤◌, ◌∙◌, [], length, ap, arith}
use Rattle.std.proofs.lemmas.List.{length-map}
use Rattle.std.specs.Prelude.{option_and_then}
use Rattle.exo_tree.specs.Places.{Path}
use Rattle.exo_tree.specs.PlainPlace.{step_taken}
use Rattle.cursor_forward.specs.Shifts.{beyond, held}
use Rattle.cursor_forward.proofs.Parts.{later_held}
use Rattle.cursor_forward.proofs.paths.later.Goals as goal

pub returns : goal.returns
returns c =
    let short : length c.args.path.now ≤ 32 = omega (arith, ap (λ (p : Path). length p) c.as_slice.ensures.value, length-map c.as_slice.result.now step_taken, c.as_slice.ensures.bound) in
    c.beyond.ensures
    ∙ ap (λ (p : Path). option_and_then held (beyond p c.args.k [])) c.as_slice.ensures.value
    ∙ later_held c.args.path.now c.args.k short
