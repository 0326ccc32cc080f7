use Rattle.std.proofs.Common.{◌≡◌, ◌<◌, ◌≤◌, ◌^◌, drop, length}
use Rattle.std.specs.Str.{all_ascii_digits}
use Rattle.compile_stages.specs.Samples.Numbers.{written}
use Rattle.compile_stages.proofs.samples.number.number_of.Given as goal

abbrev pub invariant-loop-digit : goal.invariant-loop-digit
invariant-loop-digit l = record {
  so_far : written 0 l.digits ≡ written l.number (drop l.digit-index l.digits);
  digits : all_ascii_digits l.digits ≡ all_ascii_digits (drop l.digit-index l.digits);
  small : l.number < 10 ^ l.digit-index;
  some : 0 < length l.digits;
  few : length l.digits ≤ 6;
}
