-- Loops round a piece, as conflicts are asked about them.
use Rattle.std.proofs.Common.{◌≡◌, ◌&&◌, ◌^◌, Bool, nat_le, List, map, length, sym, ap, ap₂, ◌∙◌}
use Rattle.std.proofs.lemmas.List.{length-map}
use Rattle.std.proofs.lemmas.List.Folds.{list_all-map}
use Rattle.std.proofs.lemmas.Simd.{map-map}
use Rattle.std.specs.List.{list_all}
use Rattle.std.specs.Prelude.{nat_lt}
use Rattle.exo_effects.specs.Accesses.{plain_form, plain_fits}
use Rattle.exo_effects.specs.Low.{is_low}
use Rattle.exo_effects.specs.Orders as orders
use Rattle.exo_effects.specs.Orders.{Header, turn_of, header_fits}
use Rattle.effect_conflicts.specs.PlainCopies.{plain_turn, turn_fits, turn_is_low}
use Rattle.effect_conflicts.specs.declared.twin.Turn.{Turn}
use Rattle.step_rules.specs.Owing.{header_is_low}
use Rattle.step_driver.specs.Needs.Conflicts.{Loop, loop_of, turn_loop}
use Rattle.step_driver.specs.Needs.PlainNeed.{plain_header}
use Rattle.step_driver.specs.declared.needs.conflict.Header as declared

abbrev turn_from : Loop → orders.Turn
turn_from l =
    record { variable = l.variable; lower = plain_form l.lower; upper = plain_form l.upper }

abbrev loop_fits : Loop → Bool
loop_fits l = plain_fits l.lower && plain_fits l.upper

abbrev loop_is_low : Loop → Bool
loop_is_low l = nat_lt l.variable (2 ^ 31) && (is_low l.lower && is_low l.upper)

-- the turns are made of the loops, and each list is reached by way of a slice
pub told : {ts us : List Turn} {hs gs : List declared.Header} → ts ≡ us
    → map turn_loop us ≡ map loop_of (map plain_header hs) → hs ≡ gs
    → map turn_loop ts ≡ map loop_of (map plain_header gs)
told e h f = ap (map turn_loop) e ∙ h ∙ ap (λ ls. map loop_of (map plain_header ls)) f

module _ (ts : List Turn) (hs : List Header) (e : map turn_loop ts ≡ map loop_of hs) where
  pub same_turns : map plain_turn ts ≡ map turn_of hs
  same_turns =
      sym (map-map turn_from turn_loop ts) ∙ ap (map turn_from) e ∙ map-map turn_from loop_of hs

  pub same_fits : list_all turn_fits ts ≡ list_all header_fits hs
  same_fits =
      sym (list_all-map loop_fits turn_loop ts) ∙ ap (list_all loop_fits) e
      ∙ list_all-map loop_fits loop_of hs

  pub same_low : (list_all turn_is_low ts && nat_le (length ts) (2 ^ 20))
      ≡ (list_all header_is_low hs && nat_le (length hs) (2 ^ 20))
  same_low = ap₂ (λ (b : Bool) n. b && nat_le n (2 ^ 20)) lows lengths
    where
      lows : list_all turn_is_low ts ≡ list_all header_is_low hs
      lows =
          sym (list_all-map loop_is_low turn_loop ts) ∙ ap (list_all loop_is_low) e
          ∙ list_all-map loop_is_low loop_of hs

      lengths : length ts ≡ length hs
      lengths = sym (length-map ts turn_loop) ∙ ap length e ∙ length-map hs loop_of
