use Rattle.std.proofs.Common.{ap, length, arith}
use Rattle.exo_reader.proofs.Neighbours.{pieces_taken, pieces_full, pieces_none, joined_snoc, pieces_next, some_by}
use Rattle.text_phrases.proofs.Sequences.{items_none}
use Rattle.exo_reader.proofs.lines.read_strings.Goals as goal

pub returns-then-length-room : goal.returns-then-length-room
returns-then-length-room c = pieces_full _ _ _ _ _ c.more.invariant.items (omega (arith, c.more.invariant.room)) c.in-Some.ensures (omega (arith, c.more.invariant.room, ap length c.as_slice-length.ensures))

pub more-init : goal.more-init
more-init c = record { items = rw c.in_ok-pieces.ensures.items (items_none _ _ _); room = rw c.in_ok-pieces.ensures.items (omega arith) }

pub more-preserved : goal.more-preserved
more-preserved c = record {
  items = rw (c.in_ok-push.ensures.items, c.in_ok-copy.ensures) (pieces_next _ _ _ _ _ c.more.invariant.items c.in-Some.ensures);
  room = rw c.in_ok-push.ensures.items (omega (arith, c.more.invariant.room, joined_snoc c.more.pieces.items c.in_ok-copy.copy, ap length c.in_ok-copy.ensures, ap length c.as_slice-length.ensures));
}

pub more-smaller : goal.more-smaller
more-smaller c = omega (arith, ap length c.in-Some.ensures)

pub returns-then-len-eq0 : goal.returns-then-len-eq0
returns-then-len-eq0 c = pieces_none _ _ _ c.more.invariant.items (omega arith) c.in_default.ensures

pub returns : goal.returns
returns c = pieces_taken _ _ _ c.more.invariant.items (omega (arith, c.more.invariant.room)) (some_by _ (omega arith)) c.in_default.ensures
