use Rattle.std.proofs.Common.{◌∙◌}
use Rattle.exo_reader.specs.Items.{unit}
use Rattle.exo_reader.proofs.Units.{refusal_in, one_place_more}
use Rattle.exo_reader.proofs.Widths.{few_places}
use Rattle.exo_reader.proofs.text.read_unit.Goals as goal

pub invariant_of-result : goal.invariant_of-result
invariant_of-result c = record { few = few_places _ _ _ _ _ c.in-Ok-read_items.ensures c.as_slice.ensures.value c.in-Ok.ensures.tokens c.in-Ok.ensures.places c.in-Ok.ensures.widths c.requires }

pub returns : goal.returns
returns c =
    refusal_in unit _ _ _ _ _ _ _ (c.as_slice.ensures.value ∙ c.in-Ok.ensures.tokens) (c.as_slice-in-Err.ensures.value ∙ c.in-Ok.ensures.tokens) (c.as_slice-in-Err-2.ensures.value ∙ c.in-Ok.ensures.places)
    c.in-Err.ensures c.error_of.ensures

pub error_of-requires-clause-places : goal.error_of-requires-clause-places
error_of-requires-clause-places c =
    one_place_more _ _ _ _ _ _ c.as_slice-in-Err.ensures.value c.as_slice-in-Err-2.ensures.value
    c.in-Ok.ensures.tokens c.in-Ok.ensures.places
