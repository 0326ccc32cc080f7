-- What is left decides.
use Rattle.std.proofs.Common.{◌≡◌, drop, map}
use Rattle.c_tree.specs.Names.Words.{is_in}
use Rattle.c_tree.proofs.names.words.is_one_of.Given as goal

abbrev pub invariant-loop-word : goal.invariant-loop-word
invariant-loop-word l = is_in (map (λ word. word.now) (drop l.word-index l.words)) l.x ≡ is_in (map (λ word. word.now) l.words) l.x
