-- The plain form of what may differ at the end.
use Rattle.std.specs.Prelude.{map}
use Rattle.cursor_forward.specs.PlainCursor.{plain_side}
use Rattle.step_driver.specs.Spots as plain
use Rattle.step_driver.specs.declared.operator.Exit.{Exit}

abbrev pub plain_exit : Exit → plain.Exit
plain_exit x = record {
  fields = map (λ f. f.0) x.fields.items;
  place = x.place;
  side = plain_side x.side;
}
