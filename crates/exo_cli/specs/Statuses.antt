-- The exit status of the program, by how its work ended.
use Rattle.std.specs.Prelude.{ℕ}
use Rattle.exo_cli.specs.declared.status.Status.{Status}
use Rattle.exo_cli.specs.declared.status.Status.TheVariants.{Ok, Refused, Usage, ReadFault}
use Rattle.exo_cli.specs.declared.status.Status.TheVariants.{WriteFault, Memory}

-- the number that the operating system is told
abbrev pub number_of : Status → ℕ
number_of Ok = 0
number_of Refused = 1
number_of Usage = 2
number_of ReadFault = 3
number_of WriteFault = 4
number_of Memory = 5
