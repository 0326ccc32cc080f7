-- The plain form of a way of writing.
use Rattle.step_rules.specs.Rule as rule
use Rattle.step_driver.specs.declared.operator.Writing.{Writing}
use Rattle.step_driver.specs.declared.operator.Writing.TheVariants.{AsMade, Simplified}

abbrev pub writing : Writing → rule.Writing
writing AsMade = rule.AsMade
writing Simplified = rule.Simplified
