use Rattle.std.proofs.Common.{◌∙◌}
use Rattle.exo_reader.specs.Strings.{window}
use Rattle.exo_reader.proofs.Units.{refusal_in, one_place_more}
use Rattle.exo_reader.proofs.string.read_window.Goals as goal

pub returns : goal.returns
returns c =
    refusal_in window _ _ _ _ _ _ _ (c.as_slice.ensures.value ∙ c.in-Ok.ensures.tokens) (c.as_slice-in-Err.ensures.value ∙ c.in-Ok.ensures.tokens) (c.as_slice-in-Err-2.ensures.value ∙ c.in-Ok.ensures.places)
    c.in-Err.ensures c.error_of.ensures

pub error_of-requires-clause-places : goal.error_of-requires-clause-places
error_of-requires-clause-places c =
    one_place_more _ _ _ _ _ _ c.as_slice-in-Err.ensures.value c.as_slice-in-Err-2.ensures.value
    c.in-Ok.ensures.tokens c.in-Ok.ensures.places
