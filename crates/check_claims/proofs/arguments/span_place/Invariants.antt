-- The coordinates so far, and the place behind them.
use Rattle.std.proofs.Common.{◌≡◌, ◌+◌, drop, map}
use Rattle.exo_tree.specs.PlainControl.{coordinate}
use Rattle.check_claims.specs.Arguments.{span_place}
use Rattle.check_claims.proofs.arguments.span_place.Given as goal

abbrev pub invariant-loop-c : goal.invariant-loop-c
invariant-loop-c l =
    record {
      counted : l.place ≡ l.c-index;
      found : l.place + span_place l.left (map coordinate (drop l.c-index l.coords)) ≡ span_place l.k (map coordinate l.coords);
    }
