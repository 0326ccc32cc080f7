use Rattle.std.proofs.Common.{length, map}
use Rattle.text_phrases.proofs.Sequences.{Items}
use Rattle.schedule_text.specs.Grammar.{NoMove, move}
use Rattle.schedule_text.specs.Views.{plain_move}
use Rattle.schedule_text.proofs.moves.read_moves.Given as goal

abbrev pub invariant-more : goal.invariant-more
invariant-more l = Items move NoMove l.fn.tokens (map plain_move l.items.items) l.rest

abbrev pub decreases-more : goal.decreases-more
decreases-more l = length l.rest
