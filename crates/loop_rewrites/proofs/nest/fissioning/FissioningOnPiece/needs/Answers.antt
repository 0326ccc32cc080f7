use Rattle.std.proofs.Common.{map, sym, ap, ◌∙◌}
use Rattle.std.specs.Prelude.{option_map}
use Rattle.step_driver.specs.Needs.PlainNeed.{plain_need}
use Rattle.loop_laws.specs.Nest.Fission.{of_parting, fission_needs}
use Rattle.loop_rewrites.specs.Nest.PlainParting.{plain_parting}
use Rattle.loop_rewrites.proofs.nest.fissioning.FissioningOnPiece.needs.Goals as goal

pub returns-in-None : goal.returns-in-None
returns-in-None c =
    ap (map plain_need) c.new.ensures.items
    ∙ ap (of_parting (fission_needs c.args.piece.now.path))
    (sym (ap (option_map plain_parting) c.in-None.is) ∙ c.in_ok-parting_at.ensures)
