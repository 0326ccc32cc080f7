use Rattle.std.proofs.Common.{refl}
use Rattle.c_widths.proofs.laws.calls_widen.Goals as goal

pub returns : goal.returns
returns c = record {
  fits_alone = refl;
  is_given = refl;
  wide_by_its_caller = refl;
  through_instructions = refl;
  not_followed = refl;
  not_printed = refl;
  printed = refl;
  none_of_many = refl;
}
