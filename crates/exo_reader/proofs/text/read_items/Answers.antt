use Rattle.std.proofs.Common.{refl}
use Rattle.exo_reader.proofs.Units.{none_left, some_left}
use Rattle.exo_reader.proofs.Lists.{many_next, many_err}
use Rattle.exo_reader.proofs.Items.{items_apart, item_shorter}
use Rattle.text_phrases.proofs.Sequences.{items_none, items_done}
use Rattle.text_phrases.proofs.Texts.{text_ok, text_err, text_exit}
use Rattle.exo_reader.proofs.text.read_items.Goals as goal

pub returns-in_err-item : goal.returns-in_err-item
returns-in_err-item c = text_exit _ _ _ _ _ c.from_residual.ensures.1 (text_err _ _ _ refl (many_err _ _ _ _ _ _ items_apart c.more.invariant (λ ends. some_left _ _ _ c.in-Some.ensures ends) c.in_err-item.ensures))

pub more-init : goal.more-init
more-init c = rw c.new-items.ensures.items (items_none _ _ _)

pub more-preserved : goal.more-preserved
more-preserved c = rw c.in_ok-push.ensures.items (many_next _ _ _ _ _ _ _ _ items_apart c.more.invariant c.in_ok-item.ensures)

pub more-smaller : goal.more-smaller
more-smaller c = item_shorter _ _ _ c.in_ok-item.ensures

pub returns : goal.returns
returns c = text_ok _ _ _ _ refl (items_done _ _ _ _ _ c.more.invariant (none_left _ c.in_default.ensures)) c.in_default.ensures
