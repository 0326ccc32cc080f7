use Rattle.std.proofs.Common.{◌≡◌, ◌<◌, ◌+◌, ℕ, List, Bool, true, false, map, drop, length, get_or}
use Rattle.std.proofs.Common.{ap, sym, ◌∙◌}
use Rattle.std.specs.Prelude.{◌&&◌}
use Rattle.std.specs.List.{list_all}
use Rattle.exo_reader.specs.Views.{plain_coordinate}
use Rattle.exo_reader.specs.declared.source.SourceCoord.{SourceCoord}
use Rattle.rules_names.specs.Arguments.{is_coordinate_form}
use Rattle.rules_names.proofs.Rests.{rest_of, empty_rest}
use Rattle.schedule_calls.proofs.string.are_coordinate_forms.Goals as goal

-- those from the one of that number on
abbrev from : List SourceCoord → ℕ → Bool
from cs i = list_all is_coordinate_form (map plain_coordinate (drop i cs))

-- the first of them, and the others
first_of : (cs : List SourceCoord) (i : ℕ) (c : SourceCoord) (t : Bool) → i < length cs
    → c ≡ get_or cs i c → is_coordinate_form (plain_coordinate c) ≡ t
    → from cs i ≡ (t && from cs (i + 1))
first_of cs i c t in_list is form =
    ap (λ l. list_all is_coordinate_form (map plain_coordinate l)) (rest_of cs i c in_list is)
    ∙ ap (λ b. b && from cs (i + 1)) form

pub loop-c-preserved : goal.loop-c-preserved
loop-c-preserved c =
    let form : is_coordinate_form (plain_coordinate c.c-item.result) ≡ true =
    cc (c.is_coordinate_form.ensures, c.if-not-is_coordinate_form.false) in
    sym (first_of _ _ _ true c.loop-c-test.true c.c-item.is form) ∙ c.loop-c.invariant

pub returns : goal.returns
returns c =
    sym (ap (λ l. list_all is_coordinate_form (map plain_coordinate l))
    (empty_rest _ _ c.loop-c-test.false))
    ∙ c.loop-c.invariant

pub returns-then-not-is_coordinate_form : goal.returns-then-not-is_coordinate_form
returns-then-not-is_coordinate_form c =
    let form : is_coordinate_form (plain_coordinate c.c-item.result) ≡ false =
    cc (c.is_coordinate_form.ensures, c.if-not-is_coordinate_form.true) in
    sym (first_of _ _ _ false c.loop-c-test.true c.c-item.is form) ∙ c.loop-c.invariant
