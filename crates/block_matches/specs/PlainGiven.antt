-- The plain form of what is given for a parameter.
use Rattle.exo_tree.specs.Tree as tree
use Rattle.exo_tree.specs.PlainControl.{control, condition}
use Rattle.match_laws.specs.Matched as plain
use Rattle.block_matches.specs.declared.given.Given.{Given}
use Rattle.block_matches.specs.declared.given.Given.TheVariants as given
use Rattle.block_matches.specs.declared.given.KnownParameter.{KnownParameter}

abbrev pub plain_given : Given → tree.Argument
plain_given (given.Number e) = tree.ControlArg (control e.now)
plain_given (given.Truth c) = tree.ConditionArg (condition c.now)
plain_given (given.Whole x) = tree.Whole x.0
plain_given (given.Window x cs) = tree.Window x.0 cs.now

abbrev pub plain_known : KnownParameter → plain.Known
plain_known k = record { param = k.param.0; argument = plain_given k.argument }
