use Rattle.std.proofs.Common.{◌≡◌, ◌≤◌, take}
use Rattle.compile_stages.specs.Stages.{line_count}
use Rattle.compile_stages.proofs.generate.line_count.Given as goal

abbrev pub invariant-loop-byte : goal.invariant-loop-byte
invariant-loop-byte l = record {
  counted : l.count ≡ line_count (take l.byte-index l.bytes);
  inside : l.count ≤ l.byte-index;
}
