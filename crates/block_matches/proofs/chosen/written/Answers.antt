use Rattle.std.proofs.Common.{ap, sym, ◌∙◌}
use Rattle.exo_tree.specs.Tree as tree
use Rattle.block_matches.specs.PlainGiven.{plain_given}
use Rattle.block_matches.proofs.chosen.written.Goals as goal

pub returns-in_ok-duplicate-in-Window : goal.returns-in_ok-duplicate-in-Window
returns-in_ok-duplicate-in-Window c =
    ap (tree.Window c.in-Window.x.0) c.in_ok-duplicate-in-Window.ensures ∙ sym (ap plain_given c.in-Window.is)

pub returns-in-Whole : goal.returns-in-Whole
returns-in-Whole c = sym (ap plain_given c.in-Whole.is)

pub returns-in_ok-duplicate-in-Number : goal.returns-in_ok-duplicate-in-Number
returns-in_ok-duplicate-in-Number c =
    ap tree.ControlArg c.in_ok-duplicate-in-Number.ensures ∙ sym (ap plain_given c.in-Number.is)

pub returns-in_ok-duplicate-in-Truth : goal.returns-in_ok-duplicate-in-Truth
returns-in_ok-duplicate-in-Truth c =
    ap tree.ConditionArg c.in_ok-duplicate-in-Truth.ensures ∙ sym (ap plain_given c.in-Truth.is)
