use Rattle.std.proofs.Common.{ap, sym, ◌∙◌}
use Rattle.std.specs.Prelude.{option_map}
use Rattle.exo_tree.specs.PlainArgument.{argument}
use Rattle.block_matches.specs.PlainGiven.{plain_given}
use Rattle.block_matches.proofs.Choices.{not_known, some_known}
use Rattle.block_matches.proofs.chosen.Choosing.control_argument.Goals as goal

pub returns-in-None : goal.returns-in-None
returns-in-None g c =
    not_known _ _ _ _ _ _ _ _ c.requires c.args.x.0 c.new.result c.new.ensures
    (sym (ap (option_map plain_given) c.in-None.is) ∙ c.get-known.ensures)

pub returns-in_ok-a-in-Some : goal.returns-in_ok-a-in-Some
returns-in_ok-a-in-Some g c =
    some_known _ _ _ _ _ _ _ _ c.requires c.args.x.0 (plain_given c.in-Some.given)
    (argument c.in_ok-a-in-Some.a) c.in_ok-a-in-Some.ensures
    (sym (ap (option_map plain_given) c.in-Some.is) ∙ c.get-known.ensures)
