use Rattle.std.proofs.Common.{ap, sym, ◌∙◌}
use Rattle.exo_tree.specs.Tree.{block}
use Rattle.exo_tree.specs.PlainProcedure.{procedure}
use Rattle.std.specs.Prelude.{Ok, Err}
use Rattle.match_laws.specs.Matched.{with_strides}
use Rattle.block_matches.specs.Pairs.Held.{names_in}
use Rattle.block_matches.specs.PlainMatched.{plain_matched}
use Rattle.block_matches.proofs.Choices.{same_value, same_fits, left_over, wide_both}
use Rattle.block_matches.proofs.MatchedBy.{none_given, short_given}
use Rattle.block_matches.proofs.chosen.Choosing.with_arguments.Goals as goal

pub returns-in-Ok : goal.returns-in-Ok
returns-in-Ok g c =
    let s = c.args.self.now in
    let at = g.R.Reader.reading s.reader.now in
    let theirs = names_in s.theirs.now in
    let b = block s.against.now in
    let q = procedure s.by.callee.now in
    let e = sym c.in-Ok.is ∙ c.in_ok-found.ensures.value in
    record {
      value =
          same_value plain_matched _ _ c.with_strides.result
          (ap (λ r. with_strides at theirs b q r) e) c.with_strides.ensures.value;
      fits =
          same_fits c.with_strides.result _ _
          (short_given at theirs b q (Ok c.in-Ok.args) e c.in_ok-found.ensures.fits)
          c.with_strides.ensures.fits;
    }

pub returns-in-Err : goal.returns-in-Err
returns-in-Err g c =
    let s = c.args.self.now in
    let at = g.R.Reader.reading s.reader.now in
    let theirs = names_in s.theirs.now in
    let b = block s.against.now in
    let q = procedure s.by.callee.now in
    let e = sym c.in-Err.is ∙ c.in_ok-found.ensures.value in
    record {
      value = none_given at theirs b q c.in-Err.path e;
      fits = sym (short_given at theirs b q (Err c.in-Err.path) e c.in_ok-found.ensures.fits);
    }

pub returns-in_err-found-clause-fits : goal.returns-in_err-found-clause-fits
returns-in_err-found-clause-fits g c =
    left_over _ _ _ _ c.from_residual.ensures.1 c.in_err-found.ensures.fits
    (wide_both c.in_err-found.field-0.0 _ _)
