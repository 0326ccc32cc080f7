use Rattle.std.proofs.Common.{refl, inl, sym, arith}
use Rattle.text_phrases.proofs.Exits.{exit}
use Rattle.exo_reader.proofs.Lists.{comma_shorter}
use Rattle.exo_reader.proofs.Coordinates.{coords_err, coords_last, coords_more, coords_over}
use Rattle.exo_reader.proofs.Coordinates.{none_noted, deeper, spans_more}
use Rattle.exo_reader.proofs.argument.read_coordinates.Goals as goal

pub returns-in_err-next-clause-reads : goal.returns-in_err-next-clause-reads
returns-in_err-next-clause-reads c =
    exit _ _ _ _ _ _ c.from_residual.ensures.1 (coords_err _ _ _ _ c.more.invariant.read c.in_err-next.ensures.reads)

pub returns-in_default-clause-noted : goal.returns-in_default-clause-noted
returns-in_default-clause-noted c =
    record {
      depth = rw (c.in_ok-push.ensures.items, c.max.ensures)
          (deeper c.more.coords.items.items c.in_ok-next.next.coord _ _ c.more.invariant.noted.depth
          c.in_ok-next.ensures.noted.0);
      spans = rw c.in_ok-push.ensures.items
          (spans_more c.more.coords.items.items c.in_ok-next.next.coord _ _ c.more.invariant.noted.spans
          c.in_ok-next.ensures.noted.1);
    }

pub returns-in_default-clause-reads : goal.returns-in_default-clause-reads
returns-in_default-clause-reads c =
    rw c.in_ok-push.ensures.items (coords_last _ _ _ _ _ c.more.invariant.read c.in_ok-next.ensures.reads
    c.in_default.ensures)

pub returns-then-len-ge-DIMENSIONS-clause-reads : goal.returns-then-len-ge-DIMENSIONS-clause-reads
returns-then-len-ge-DIMENSIONS-clause-reads c =
    coords_over _ _ _ _ _ _ c.more.invariant.read c.in_ok-next.ensures.reads c.in-Some.ensures
    (rw (sym c.in_ok-push.ensures.items) (omega arith))

pub more-init : goal.more-init
more-init c = record { noted = none_noted _ c.new.ensures.items refl refl; read = inl (c.new.ensures.items, refl) }

pub more-preserved : goal.more-preserved
more-preserved c = record {
  noted =
      record {
        depth = rw (c.in_ok-push.ensures.items, c.max.ensures)
            (deeper c.more.coords.items.items c.in_ok-next.next.coord _ _ c.more.invariant.noted.depth
            c.in_ok-next.ensures.noted.0);
        spans = rw c.in_ok-push.ensures.items
            (spans_more c.more.coords.items.items c.in_ok-next.next.coord _ _ c.more.invariant.noted.spans
            c.in_ok-next.ensures.noted.1);
      };
  read =
      rw c.in_ok-push.ensures.items (coords_more _ _ _ _ _ _ c.more.invariant.read c.in_ok-next.ensures.reads
      c.in-Some.ensures (rw (sym c.in_ok-push.ensures.items) (omega arith)));
}

pub more-smaller : goal.more-smaller
more-smaller c = comma_shorter _ _ _ _ _ c.in_ok-next.ensures.reads c.in-Some.ensures
