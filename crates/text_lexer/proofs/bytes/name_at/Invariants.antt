-- what is left of the run begins at the count
use Rattle.std.proofs.Common.{◌≡◌, ◌≤◌, ◌<◌, ℕ, get_or, ◌+◌, ◌-◌, drop, length}
use Rattle.std.specs.List.{prefix_len}
use Rattle.text_lexer.specs.Bytes.{goes_on_name}
use Rattle.text_lexer.proofs.bytes.name_at.Given as goal

abbrev pub invariant-loop-count : goal.invariant-loop-count
invariant-loop-count l = record {
  ascii : (k : ℕ) → k < l.count → get_or l.bytes k 0 < 0x80;
  within : l.count ≤ length l.bytes;
  run : prefix_len goes_on_name l.bytes ≡ l.count + prefix_len goes_on_name (drop l.count l.bytes);
}

abbrev pub decreases-loop-count : goal.decreases-loop-count
decreases-loop-count l = length l.bytes - l.count
