-- The closed texts compute.
use Rattle.std.proofs.Common.{refl}
use Rattle.std.specs.Fmt.{digits}
use Rattle.c_tree.specs.Names.Words.{is_word}
use Rattle.c_lowering.specs.Made.Examples.{WindowsArePrinted, InstructionsArePrinted}

pub windows_are_printed : WindowsArePrinted
unfolding digits is_word
windows_are_printed = record { as_argument = refl; as_view = refl; by_type = refl }

pub instructions_are_printed : InstructionsArePrinted
unfolding digits is_word
instructions_are_printed = record { includes = refl; lines = refl }
