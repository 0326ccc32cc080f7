use Rattle.std.proofs.Common.{◌∙◌, sym}
use Rattle.c_tree.proofs.OfNames.Reserved.{word_is}
use Rattle.c_tree.proofs.names.words.is_word.Goals as goal

pub returns : goal.returns
returns c = c.is_listed.ensures ∙ sym (word_is c.args.x.now)
