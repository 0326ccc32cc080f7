-- What expressions may read.
use Rattle.exo_meaning.specs.Units as units
use Rattle.exo_modes.specs.declared.reads.Reads.{Reads}

-- what may be read at a place
abbrev pub reads : Reads → units.Reads
reads may = record { fields = may.fields; strides = may.strides }
