-- What the code keeps of the tokens behind the first name of a pattern.
use Rattle.std.specs.Prelude.{Option, Some, None, Bool, true, false}
use Rattle.cursor_forward.specs.Search.Patterns as p
use Rattle.schedule_text.specs.Patterns.Grammar.{NameOrAny, Behind, inner, allocated, called, field}
use Rattle.schedule_text.specs.Patterns.Grammar.{changed, cell}
use Rattle.schedule_text.specs.declared.patterns.statement.Told.{Told}
use Rattle.schedule_text.specs.declared.patterns.statement.Told.TheVariants.{Inner, Allocated}
use Rattle.schedule_text.specs.declared.patterns.statement.Told.TheVariants.{Called, Field}
use Rattle.schedule_text.specs.declared.patterns.statement.Told.TheVariants.{Assigned, Reduced}

-- by whether it is `+=`
abbrev pub told_change : Bool → Told
told_change false = Assigned
told_change true = Reduced

abbrev pub told : Behind → Told
told (inner j) = Inner j
told allocated = Allocated
told called = Called
told (field f) = Field f
told (changed reduces) = told_change reduces
told (cell reduces) = told_change reduces

abbrev pub maybe_told : Option Behind → Option Told
maybe_told None = None
maybe_told (Some b) = Some (told b)

-- the pattern of a name of which this is told
abbrev pub meant_by : NameOrAny → Option Told → p.Pattern
meant_by x None = p.Loop x
meant_by x (Some (Inner j)) = p.Nest x j
meant_by x (Some Allocated) = p.Alloc x
meant_by x (Some Called) = p.Call x
meant_by x (Some (Field f)) = p.Config x f
meant_by x (Some Assigned) = p.Assign x
meant_by x (Some Reduced) = p.Reduce x
