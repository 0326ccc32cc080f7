-- Fields that a block does not read are not live before it, if they are not live behind it.
use Rattle.std.specs.Prelude.{◌≡◌, ℕ, false, List}
use Rattle.exo_tree.specs.Tree.{Block, Procedure}
use Rattle.meaning_laws.specs.Live.{live}
use Rattle.meaning_laws.specs.UnitFields.{unit_live}
use Rattle.config_state.specs.Reads.{reads_field, unit_reads}

abbrev pub UnreadLaw : Type 0
UnreadLaw =
    (ps : List Procedure) (f : ℕ) (b : Block)
    → reads_field (unit_reads ps) f b ≡ false
    → live (unit_live ps) f b false ≡ false
