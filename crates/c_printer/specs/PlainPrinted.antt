-- The plain form of what is to be printed.
use Rattle.std.specs.Prelude.{map}
use Rattle.c_lowering.specs.Made.LoweredUnit.{Printing}
use Rattle.c_printer.specs.declared.report.Printed.{Printed}

abbrev pub printing : Printed → Printing
printing w = record { proc = w.proc.0; origin = w.origin; fields = map (λ f. f.0) w.fields.items }
