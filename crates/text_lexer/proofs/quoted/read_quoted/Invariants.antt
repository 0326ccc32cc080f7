-- the whole string is what was read and the string that is left
use Rattle.std.proofs.Common.{◌≡◌, ◌≤◌, ◌-◌, drop, length}
use Rattle.text_lexer.specs.Quoted.{quoted, behind}
use Rattle.text_lexer.proofs.quoted.read_quoted.Given as goal

abbrev pub invariant-parts : goal.invariant-parts
invariant-parts l = record {
  within : l.width ≤ length l.bytes;
  whole : quoted l.quote l.bytes ≡ behind l.text l.width (quoted l.quote (drop l.width l.bytes));
}

abbrev pub decreases-parts : goal.decreases-parts
decreases-parts l = length l.bytes - l.width
