use Rattle.std.proofs.Common.{refl, inl}
use Rattle.text_phrases.proofs.Exits.{exit}
use Rattle.exo_reader.proofs.Items.{fields_apart, field_shorter}
use Rattle.exo_reader.proofs.Lists.{lines_more, lines_done, lines_err}
use Rattle.exo_reader.proofs.item.read_fields.Goals as goal

pub returns-in_err-next : goal.returns-in_err-next
returns-in_err-next c =
    exit _ _ _ _ _ _ c.from_residual.ensures.1 (lines_err _ _ _ _ _ _ fields_apart c.more.invariant
    c.in_err-next.ensures)

pub returns-in-Some : goal.returns-in-Some
returns-in-Some c =
    rw c.in_ok-push.ensures.items (lines_done _ _ _ _ _ _ _ _ fields_apart c.more.invariant c.in_ok-next.ensures
    c.in-Some.ensures)

pub more-init : goal.more-init
more-init c = inl (c.new-list.ensures.items, refl)

pub more-preserved : goal.more-preserved
more-preserved c =
    rw c.in_ok-push.ensures.items (lines_more _ _ _ _ _ _ _ fields_apart c.more.invariant c.in_ok-next.ensures
    c.in_default.ensures)

pub more-smaller : goal.more-smaller
more-smaller c = field_shorter _ _ _ c.in_ok-next.ensures
