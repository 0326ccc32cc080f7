-- what is left of the run begins at the count
use Rattle.std.proofs.Common.{◌≡◌, ◌≤◌, ◌+◌, ◌-◌, drop, length}
use Rattle.std.specs.List.{prefix_len}
use Rattle.schedule_text.specs.Patterns.Numbers.{is_no_hash}
use Rattle.schedule_text.proofs.patterns.number.form_in.Given as goal

abbrev pub invariant-loop-count : goal.invariant-loop-count
invariant-loop-count l = record {
  within : l.count ≤ length l.text;
  run : prefix_len is_no_hash l.text ≡ l.count + prefix_len is_no_hash (drop l.count l.text);
}

abbrev pub decreases-loop-count : goal.decreases-loop-count
decreases-loop-count l = length l.text - l.count
