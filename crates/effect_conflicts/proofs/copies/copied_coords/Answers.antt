use Rattle.std.proofs.Common.{◌∙◌, ◌++◌, ◌∷◌, [], ap, map, refl}
use Rattle.std.specs.List.{list_all}
use Rattle.affine_forms.specs.Outcomes.{IsWide}
use Rattle.exo_tree.specs.PlainControl.{coordinate}
use Rattle.exo_effects.specs.Accesses.{coord_form, coord_fits}
use Rattle.exo_effects.specs.Conflicts.{re_coord}
use Rattle.exo_effects.specs.Low.{coord_is_low}
use Rattle.exo_effects.specs.PlainAccess.{plain_coord}
use Rattle.effect_conflicts.specs.PlainCopies.{renamed}
use Rattle.effect_conflicts.proofs.Places.{each_at}
use Rattle.effect_conflicts.proofs.Turns.{fits_on, unfit_on, fits_end, made_on, made_end, wide_whole, no_coords}
use Rattle.effect_conflicts.proofs.copies.copied_coords.Goals as goal

pub copied_coord-requires : goal.copied_coord-requires
copied_coord-requires c = each_at coord_is_low coordinate c.args.coords.now c.loop-c.c-index c.c-item.result c.c-item.is c.loop-c-test.true c.requires

pub returns-in_err-copied : goal.returns-in_err-copied
returns-in_err-copied c =
    let cs = c.args.coords.now in
    let all = list_all coord_fits (map coordinate cs) in
    let e = c.in_err-copied.field-0.0 in
    let wide : IsWide e all = wide_whole e (coord_fits (coordinate c.c-item.result)) all c.in_err-copied.ensures
    (unfit_on (λ ds. list_all coord_fits (map coordinate ds)) (λ d. coord_fits (coordinate d)) (λ x xs. refl) cs
    c.loop-c.c-index all c.loop-c.invariant.fits c.c-item.result c.loop-c-test.true c.c-item.is) in
    no_coords e all wide c.from_residual.result
    (map (re_coord (renamed c.args.twin.now)) (map coord_form (map coordinate cs))) c.from_residual.ensures.1

pub loop-c-init : goal.loop-c-init
loop-c-init c =
    let us = map (re_coord (renamed c.args.twin.now)) (map coord_form (map coordinate c.args.coords.now)) in
    record {
      fits = refl;
      made = ap (λ vs. map plain_coord vs ++ us) c.new-made.ensures.items;
    }

pub loop-c-preserved : goal.loop-c-preserved
loop-c-preserved c =
    let cs = c.args.coords.now in
    let r = re_coord (renamed c.args.twin.now) in
    let old = map plain_coord c.loop-c.made.items in
    let pushed = c.in_ok-push_coord.ensures ∙ ap (λ d. old ++ d ∷ []) c.in_ok-copied.ensures.1 in
    record {
      fits = fits_on (λ ds. list_all coord_fits (map coordinate ds)) (λ d. coord_fits (coordinate d)) (λ x xs. refl)
          cs c.loop-c.c-index (list_all coord_fits (map coordinate cs)) c.loop-c.invariant.fits c.c-item.result
          c.loop-c-test.true c.c-item.is c.in_ok-copied.ensures.0;
      made = made_on (λ ds. map r (map coord_form (map coordinate ds))) cs c.loop-c.c-index old
          (map r (map coord_form (map coordinate cs))) c.loop-c.invariant.made (λ d. r (coord_form (coordinate d)))
          (λ x xs. refl) c.c-item.result c.loop-c-test.true c.c-item.is (map plain_coord c.push_coord.new.made.items)
          pushed;
    }

pub returns : goal.returns
returns c =
    let cs = c.args.coords.now in
    let r = re_coord (renamed c.args.twin.now) in (
      fits_end (λ ds. list_all coord_fits (map coordinate ds)) (λ d. coord_fits (coordinate d)) (λ x xs. refl) cs
          c.loop-c.c-index (list_all coord_fits (map coordinate cs)) c.loop-c.invariant.fits c.loop-c-test.false refl,
      made_end (λ ds. map r (map coord_form (map coordinate ds))) cs c.loop-c.c-index
          (map plain_coord c.loop-c.made.items) (map r (map coord_form (map coordinate cs))) c.loop-c.invariant.made
          c.loop-c-test.false refl,
    )
