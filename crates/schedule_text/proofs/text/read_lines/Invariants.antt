use Rattle.std.proofs.Common.{◌≤◌, ◌-◌, length, drop, map}
use Rattle.text_phrases.proofs.Sequences.{Items}
use Rattle.schedule_text.specs.Grammar.{line}
use Rattle.schedule_text.specs.Views.{plain_line}
use Rattle.schedule_text.proofs.Schedules.{AtEnd, AreNumbered}
use Rattle.schedule_text.proofs.text.read_lines.Given as goal

abbrev pub invariant-more : goal.invariant-more
invariant-more l = record {
  items : Items line AtEnd l.fn.tokens (map plain_line l.lines.items) l.rest;
  few : length l.lines.items ≤ 4096;
  numbered : AreNumbered l.fn.places (drop (length l.fn.tokens - length l.rest) l.fn.places) l.lines.items;
}

abbrev pub decreases-more : goal.decreases-more
decreases-more l = length l.rest
