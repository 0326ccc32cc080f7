use Rattle.std.proofs.Common.{◌∙◌, ◌++◌, ◌∷◌, ◌^◌, [], ap, map, refl}
use Rattle.std.specs.List.{list_all}
use Rattle.affine_forms.specs.Outcomes.{IsWide}
use Rattle.exo_effects.specs.Conflicts.{re_turn, turns_apart, variables_of, copied_turns}
use Rattle.effect_conflicts.specs.PlainCopies.{plain_turn, plain_copied, turn_fits, turn_is_low}
use Rattle.effect_conflicts.proofs.Turns.{fits_left, made_left, item_has, unfit_on, fits_end, made_end}
use Rattle.effect_conflicts.proofs.Turns.{wide_whole, no_turns}
use Rattle.effect_conflicts.proofs.copies.copied_turns.Goals as goal

pub loop-t-preserved : goal.loop-t-preserved
loop-t-preserved c =
    let ts = c.args.turns.now in
    let r = re_turn (turns_apart (2 ^ 31) c.args.side (variables_of (map plain_turn ts))) in
    let pushed = c.in_ok-push_turn.ensures ∙ ap (λ t. map plain_copied c.loop-t.made.items ++ t ∷ []) c.in_ok-copied.ensures.1 in
    record {
      fits = fits_left turn_fits ts c.loop-t.t-index c.t-item.result (list_all turn_fits ts) c.loop-t-test.true c.t-item.is c.in_ok-copied.ensures.0 c.loop-t.invariant.fits;
      made = made_left plain_copied r plain_turn ts c.loop-t.t-index c.t-item.result c.loop-t.made.items c.push_turn.new.made.items (map r (map plain_turn ts)) c.loop-t-test.true c.t-item.is pushed c.loop-t.invariant.made;
    }

pub copied_turn-requires : goal.copied_turn-requires
copied_turn-requires c = item_has turn_is_low c.args.turns.now c.loop-t.t-index c.t-item.result c.loop-t-test.true
    c.t-item.is c.requires.low

pub returns-in_err-copied : goal.returns-in_err-copied
returns-in_err-copied c =
    let ts = c.args.turns.now in
    let all = list_all turn_fits ts in
    let e = c.in_err-copied.field-0.0 in
    let wide : IsWide e all = wide_whole e (turn_fits c.t-item.result) all c.in_err-copied.ensures
    (unfit_on (list_all turn_fits) turn_fits (λ x xs. refl) ts c.loop-t.t-index all c.loop-t.invariant.fits
    c.t-item.result c.loop-t-test.true c.t-item.is) in
    no_turns e all wide c.from_residual.result (copied_turns (2 ^ 31) c.args.side (map plain_turn ts))
    c.from_residual.ensures.1

pub loop-t-init : goal.loop-t-init
loop-t-init c =
    let ts = map plain_turn c.args.turns.now in
    let us = map (re_turn (turns_apart (2 ^ 31) c.args.side (variables_of ts))) ts in
    record {
      fits = refl;
      made = ap (λ vs. map plain_copied vs ++ us) c.new-made.ensures.items;
    }

pub returns : goal.returns
returns c =
    let ts = c.args.turns.now in
    let r = re_turn (turns_apart (2 ^ 31) c.args.side (variables_of (map plain_turn ts))) in (
      fits_end (list_all turn_fits) turn_fits (λ x xs. refl) ts c.loop-t.t-index (list_all turn_fits ts)
          c.loop-t.invariant.fits c.loop-t-test.false refl,
      made_end (λ us. map r (map plain_turn us)) ts c.loop-t.t-index (map plain_copied c.loop-t.made.items)
          (map r (map plain_turn ts)) c.loop-t.invariant.made c.loop-t-test.false refl,
    )
