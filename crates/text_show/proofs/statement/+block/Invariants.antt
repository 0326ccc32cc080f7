-- What is left of a block's text.
use Rattle.std.proofs.Common.{◌≡◌, ◌++◌, drop, string_bytes}
use Rattle.exo_tree.specs.Tree.{block}
use Rattle.text_show.specs.Seen.{words_in}
use Rattle.text_show.specs.StatementText.{block_text}
use Rattle.text_show.proofs.statement.+block.Given as goal

abbrev pub invariant-put_block-loop-k : goal.invariant-put_block-loop-k
invariant-put_block-loop-k l = string_bytes l.out ++ block_text (words_in l.words) l.indent (block (drop l.k l.b)) ≡ string_bytes l.initial.out ++ block_text (words_in l.words) l.indent (block l.b)
