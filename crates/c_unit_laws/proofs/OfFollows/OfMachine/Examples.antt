-- The closed runs compute.
use Rattle.std.proofs.Common.{refl}
use Rattle.std.specs.Int.{int_wrap}
use Rattle.c_unit_laws.specs.Follows.Machine.Examples.{NumbersAreChecked, CellsAreChecked}
use Rattle.c_unit_laws.specs.Follows.Machine.Examples.{StoresWrap, CallsAreInPlace, VectorsAreCells}
use Rattle.c_unit_laws.specs.Follows.Machine.Examples.{NamesAreOneForm}

pub numbers_are_checked : NumbersAreChecked
numbers_are_checked = record { too_large = refl; no_divisor = refl; rounds_down = refl; remainder = refl }

pub cells_are_checked : CellsAreChecked
unfolding int_wrap
cells_are_checked = record {
  inside = refl;
  behind = refl;
  before = refl;
  freed = refl;
  not_freed = refl;
  no_cells = refl;
  no_store = refl;
  stored = refl;
}

pub stores_wrap : StoresWrap
unfolding int_wrap
stores_wrap = record { signed_8 = refl; signed_16 = refl; unsigned_8 = refl; below_zero = refl; one_more = refl }

pub calls_are_in_place : CallsAreInPlace
unfolding int_wrap
calls_are_in_place = record {
  through_a_window = refl;
  through_a_view = refl;
  no_window = refl;
  other_rank = refl;
  other_type = refl;
  no_such_stride = refl;
  hidden_function = refl;
  not_above = refl;
  not_yet = refl;
}

pub vectors_are_cells : VectorsAreCells
unfolding int_wrap
vectors_are_cells = record {
  through = refl;
  no_cell = refl;
  no_argument = refl;
  too_short = refl;
  counted_in_cells = refl;
}

pub names_are_one_form : NamesAreOneForm
unfolding int_wrap
names_are_one_form = record { by_name = refl; by_number = refl; no_window = refl }
