use Rattle.std.proofs.Common.{List, map, sym, subst}
use Rattle.exo_reader.specs.Views.{plain_item}
use Rattle.exo_reader.specs.declared.source.SourceItem.{SourceItem}
use Rattle.exo_types.specs.Refusals.{Refuses}
use Rattle.exo_types.specs.UnitRules.{unit_fault, items_width}
use Rattle.exo_types.specs.Standing.{HasPlaces, IsUnitOf}
use Rattle.exo_types.proofs.Checked.{has_places, in_place, typed, refused}
use Rattle.exo_types.proofs.unit.check_types.Goals as goal

pub unit_of-requires : goal.unit_of-requires
unit_of-requires c =
    subst (λ (l : List SourceItem). HasPlaces c.as_slice-places.result.now (items_width (map plain_item l))) (sym c.as_slice.ensures.value)
    (has_places c.args.source.now c.as_slice-places.result.now c.as_slice-places.ensures.value c.requires)

pub error_of-requires : goal.error_of-requires
error_of-requires c =
    in_place c.args.source.now c.as_slice-places.result.now c.in-Err.refusal c.as_slice-places.ensures.value c.requires
    (subst (λ (l : List SourceItem). Refuses c.in-Err.refusal (unit_fault (map plain_item l))) c.as_slice.ensures.value (c.in-Err.ensures {u = tt}))

pub returns-in-Ok : goal.returns-in-Ok
returns-in-Ok c =
    typed c.args.source.now c.as_slice-places.result.now c.in-Ok.unit c.as_slice-places.ensures.value
    (subst (λ (l : List SourceItem). IsUnitOf c.as_slice-places.result.now (map plain_item l) c.in-Ok.unit) c.as_slice.ensures.value (c.in-Ok.ensures {u = tt}))

pub returns-in-Err : goal.returns-in-Err
returns-in-Err c =
    refused c.args.source.now c.as_slice-places.result.now c.in-Err.refusal c.error_of.result c.as_slice-places.ensures.value
    (subst (λ (l : List SourceItem). Refuses c.in-Err.refusal (unit_fault (map plain_item l))) c.as_slice.ensures.value (c.in-Err.ensures {u = tt})) c.error_of.ensures
