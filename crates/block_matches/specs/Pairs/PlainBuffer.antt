-- The plain form of what is known of a name.
use Rattle.exo_tree.specs.PlainBinder.{cell_type}
use Rattle.match_laws.specs.Names as plain
use Rattle.block_matches.specs.declared.pairs.buffer.Buffer.{Buffer}

abbrev pub plain_buffer : Buffer → plain.Buffer
plain_buffer b = record { cell = cell_type b.cell; extents = b.extents; tensor = b.tensor }
