use Rattle.meaning_laws.proofs.Copies.{sound_law}
use Rattle.meaning_laws.proofs.laws.places_are_sound.Goals as goal

pub returns : goal.returns
returns c = sound_law
