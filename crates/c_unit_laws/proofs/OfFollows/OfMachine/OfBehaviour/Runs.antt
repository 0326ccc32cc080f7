-- The closed runs compute.
use Rattle.std.proofs.Common.{refl}
use Rattle.std.specs.Int.{int_wrap}
use Rattle.c_unit_laws.specs.Follows.Machine.Behaviour.Runs.{NumbersHave64Bits, CellsHave32Bits}
use Rattle.c_unit_laws.specs.Follows.Machine.Behaviour.Runs.{CellsOfTheCaller, ScopesEnd}

pub numbers_have_64_bits : NumbersHave64Bits
numbers_have_64_bits = record {
  greatest = refl;
  past_greatest = refl;
  doubled = refl;
  least_is = refl;
  past_least = refl;
  opposite = refl;
  halved = refl;
}

pub cells_have_32_bits : CellsHave32Bits
unfolding int_wrap
cells_have_32_bits = record {
  sum = refl;
  product = refl;
  opposite = refl;
  relu = refl;
  select = refl;
  undefined = refl;
  added = refl;
}

pub cells_of_the_caller : CellsOfTheCaller
unfolding int_wrap
cells_of_the_caller = record { three = refl; none = refl; behind = refl }

pub scopes_end : ScopesEnd
unfolding int_wrap
scopes_end = record { hidden = refl; gone = refl; heap_gone = refl }
