use Rattle.std.proofs.Common.{◌≡◌, false, map}
use Rattle.std.specs.List.{list_all}
use Rattle.exo_reader.specs.Views.{plain_coordinate, plain_window}
use Rattle.rules_names.specs.Arguments.{is_coordinate_form}
use Rattle.schedule_calls.proofs.Answered.{some_of}
use Rattle.schedule_calls.proofs.Strings.{no_window}
use Rattle.schedule_calls.proofs.string.window_of.Goals as goal

pub returns-else-are_coordinate_forms : goal.returns-else-are_coordinate_forms
returns-else-are_coordinate_forms c =
    let bad :
    list_all is_coordinate_form (map plain_coordinate c.in-Some.w.value.coords.items) ≡ false =
    cc (
      c.deref.ensures,
      c.as_slice.ensures.value,
      c.are_coordinate_forms.ensures,
      c.if-are_coordinate_forms.false,
    ) in
    no_window c.windows_are_one.ensures c.args.string.now.pieces.items
    (plain_window c.in-Some.w.value) (some_of _ _ _ _ c.in-Some.is c.in_ok-found.ensures) bad
