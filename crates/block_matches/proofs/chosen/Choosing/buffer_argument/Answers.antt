use Rattle.std.proofs.Common.{ap, sym, subst, ◌∙◌}
use Rattle.std.specs.Prelude.{map, option_map}
use Rattle.exo_tree.specs.PlainArgument.{argument}
use Rattle.affine_forms.specs.Outcomes.{IsWide}
use Rattle.match_laws.specs.Matched.{first_path}
use Rattle.block_matches.specs.PlainUse.{plain_use}
use Rattle.block_matches.proofs.Choices.{no_window, one_window, fits_is, left_over}
use Rattle.block_matches.proofs.chosen.Choosing.buffer_argument.Goals as goal

pub returns-in_err-found-clause-fits : goal.returns-in_err-found-clause-fits
returns-in_err-found-clause-fits g c =
    let uses = ap (map plain_use) c.deref.ensures.value ∙ c.in_ok-uses.ensures in
    left_over _ _ _ _ c.from_residual-in_err-found.ensures.1 c.in_err-found.ensures.fits
    (subst (IsWide c.in_err-found.field-0.0)
    (fits_is _ _ _ _ _ _ _ _ c.requires c.args.x.0 c.args.dims.now c.args.tensor
    c.is_whole-whole.result (map plain_use c.deref.result.now) uses c.is_whole-whole.ensures))

pub returns-in-None : goal.returns-in-None
returns-in-None g c =
    let us = map plain_use c.deref.result.now in
    let uses = ap (map plain_use) c.deref.ensures.value ∙ c.in_ok-uses.ensures in
    let none = sym (ap (option_map argument) c.in-None.is) ∙ c.in_ok-found.ensures.value in
    let path =
    c.first_path.ensures
    ∙ ap (λ l. first_path (map plain_use l))
    (c.deref-in-None.ensures.value ∙ sym c.deref.ensures.value) in
    record {
      value =
          no_window _ _ _ _ _ _ _ _ c.requires c.args.x.0 c.args.dims.now c.args.tensor
          c.is_whole-whole.result us uses c.is_whole-whole.ensures c.first_path.result path none;
      fits =
          sym (fits_is _ _ _ _ _ _ _ _ c.requires c.args.x.0 c.args.dims.now c.args.tensor
          c.is_whole-whole.result us uses c.is_whole-whole.ensures)
          ∙ c.in_ok-found.ensures.fits;
    }

pub returns : goal.returns
returns g c =
    let us = map plain_use c.deref.result.now in
    let uses = ap (map plain_use) c.deref.ensures.value ∙ c.in_ok-uses.ensures in
    let some = sym (ap (option_map argument) c.in-Some.is) ∙ c.in_ok-found.ensures.value in
    record {
      value =
          one_window _ _ _ _ _ _ _ _ c.requires c.args.x.0 c.args.dims.now c.args.tensor
          c.is_whole-whole.result us uses c.is_whole-whole.ensures (argument c.in-Some.a) some;
      fits =
          sym (fits_is _ _ _ _ _ _ _ _ c.requires c.args.x.0 c.args.dims.now c.args.tensor
          c.is_whole-whole.result us uses c.is_whole-whole.ensures)
          ∙ c.in_ok-found.ensures.fits;
    }
