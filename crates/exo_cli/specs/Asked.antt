-- The program's commands as plain ones.
use Rattle.exo_cli.specs.declared.words.Command.{Command}
use Rattle.exo_cli.specs.declared.words.Command.TheVariants.{Compile, Check, Show, Gen}
use Rattle.exo_cli.specs.Words as plainly

abbrev pub plain : Command → plainly.Command
plain (Compile procs schedule) = plainly.Compile procs.now schedule.now
plain (Check procs) = plainly.Check procs.now
plain (Show procs schedule name) = plainly.Show procs.now schedule.now name.now
plain (Gen n) = plainly.Gen n
