-- What a write is made of.
use Rattle.exo_tree.specs.Tree.{Argument}
use Rattle.exo_tree.specs.PlainArgument.{argument}
use Rattle.config_laws.specs.FieldRule.{Side}
use Rattle.cursor_forward.specs.PlainCursor.{plain_side}
use Rattle.step_rules.specs.Lawful.{config_side}
use Rattle.field_rewrites.specs.declared.writing.WritingField.{WritingField}

abbrev pub side_of : WritingField → Side
side_of o = config_side (plain_side o.side)

abbrev pub value_of : WritingField → Argument
value_of o = argument o.value.now
