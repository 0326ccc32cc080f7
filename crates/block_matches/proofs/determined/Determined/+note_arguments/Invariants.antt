use Rattle.std.proofs.Common.{length}
use Rattle.block_matches.proofs.determined.Determined.+note_arguments.Given as goal

abbrev pub decreases-note_arguments : goal.decreases-note_arguments
decreases-note_arguments l = length l.params.now
