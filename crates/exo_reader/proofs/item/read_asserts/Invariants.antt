use Rattle.std.proofs.Common.{length, map}
use Rattle.text_phrases.proofs.Sequences.{Items}
use Rattle.text_expressions.specs.Views.{tree_of}
use Rattle.text_lexer.specs.declared.token.Token.TheVariants.{Word}
use Rattle.text_lexer.specs.declared.token.Word.TheVariants.{Assert}
use Rattle.exo_reader.specs.Parts.{IsNot}
use Rattle.exo_reader.specs.Items.{assertion}
use Rattle.exo_reader.proofs.item.read_asserts.Given as goal

abbrev pub invariant-more : goal.invariant-more
invariant-more l = Items assertion (IsNot (Word Assert)) l.fn.tokens (map tree_of l.asserts.items) l.rest

abbrev pub decreases-more : goal.decreases-more
decreases-more l = length l.rest
