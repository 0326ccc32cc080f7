-- The plain form of a way to touch a buffer.
use Rattle.exo_meaning.specs.Modes as meaning
use Rattle.piece_modes.specs.declared.touches.Mode.{Mode}
use Rattle.piece_modes.specs.declared.touches.Mode.TheVariants.{Reading, Writing, Reducing}

abbrev pub plain_mode : Mode → meaning.Mode
plain_mode Reading = meaning.Reading
plain_mode Writing = meaning.Writing
plain_mode Reducing = meaning.Reducing
