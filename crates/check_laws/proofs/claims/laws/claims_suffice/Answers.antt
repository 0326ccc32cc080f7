use Rattle.check_laws.proofs.OfClaims.Induction.{claims_suffice}
use Rattle.check_laws.proofs.claims.laws.claims_suffice.Goals as goal

pub returns : goal.returns
returns c =
    claims_suffice
    (record {
      opened = c.opened_blocks_are_there.ensures;
      sound = c.places_are_sound.ensures;
      fits = c.places_fit.ensures;
      first = c.first_states_are_admissible.ensures;
      grown = c.grown_units_do_the_same.ensures;
      below = c.well_formed_calls_are_below.ensures;
    })
