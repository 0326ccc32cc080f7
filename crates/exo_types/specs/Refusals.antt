-- What a refusal says.
use Rattle.std.specs.Prelude.{◌≡◌, Option, Some}
use Rattle.rules_names.specs.declared.fault.Fault.{Fault}
use Rattle.exo_types.specs.declared.refusal.Refusal.{Refusal}
use Rattle.exo_types.specs.declared.refusal.Refusal.TheVariants.{Memory, Broken}

-- this is the first rule that is broken, or there was no memory
abbrev pub Refuses : Refusal → Option Fault → Type 0
Refuses Memory first = Unit {0}
Refuses (Broken fault) first = first ≡ Some fault
