use Rattle.std.proofs.Common.{sym, subst, ◌∙◌}
use Rattle.exo_tree.specs.Tree.{block}
use Rattle.exo_tree.specs.PlainProcedure.{procedure}
use Rattle.affine_forms.specs.Outcomes.{IsWide}
use Rattle.match_laws.specs.Matched.{first_difference}
use Rattle.match_laws.specs.Widths.{walk_is_short}
use Rattle.block_matches.specs.Pairs.Held.{names_in}
use Rattle.block_matches.specs.PlainMatched.{plain_matched}
use Rattle.block_matches.proofs.Choices.{same_value, same_fits, left_over}
use Rattle.block_matches.proofs.MatchedBy.{at_walk, differs, short_differs, goes_on, short_on}
use Rattle.block_matches.proofs.MatchedBy.{too_wide}
use Rattle.block_matches.proofs.chosen.Choosing.matched.Goals as goal

pub returns-in-None : goal.returns-in-None
returns-in-None g c =
    let s = c.args.self.now in
    let at = g.R.Reader.reading s.reader.now in
    let theirs = names_in s.theirs.now in
    let b = block s.against.now in
    let q = procedure s.by.callee.now in
    let none = c.requires.determined in
    let e =
    sym c.in-None.is ∙ c.in_ok-difference.ensures.value
    ∙ at_walk at theirs b q (λ m w. first_difference at m w) _ _ _ _ c.requires.walk in
    let short =
    sym (at_walk at theirs b q (λ m w. walk_is_short at m w) _ _ _ _ c.requires.walk)
    ∙ c.in_ok-difference.ensures.fits in
    record {
      value =
          same_value plain_matched _ _ c.with_arguments.result (goes_on at theirs b q none e)
          c.with_arguments.ensures.value;
      fits =
          same_fits c.with_arguments.result _ _ (short_on at theirs b q none e short)
          c.with_arguments.ensures.fits;
    }

pub returns-in-Some : goal.returns-in-Some
returns-in-Some g c =
    let s = c.args.self.now in
    let at = g.R.Reader.reading s.reader.now in
    let theirs = names_in s.theirs.now in
    let b = block s.against.now in
    let q = procedure s.by.callee.now in
    let none = c.requires.determined in
    let e =
    sym c.in-Some.is ∙ c.in_ok-difference.ensures.value
    ∙ at_walk at theirs b q (λ m w. first_difference at m w) _ _ _ _ c.requires.walk in
    let short =
    sym (at_walk at theirs b q (λ m w. walk_is_short at m w) _ _ _ _ c.requires.walk)
    ∙ c.in_ok-difference.ensures.fits in
    record {
      value = differs at theirs b q none c.in-Some.path e;
      fits = short_differs at theirs b q none c.in-Some.path e short;
    }

pub returns-in_err-difference-clause-fits : goal.returns-in_err-difference-clause-fits
returns-in_err-difference-clause-fits g c =
    let s = c.args.self.now in
    let at = g.R.Reader.reading s.reader.now in
    let e = c.in_err-difference.field-0.0 in
    left_over _ _ _ _ c.from_residual.ensures.1 c.in_err-difference.ensures.fits
    (λ wide. too_wide at (names_in s.theirs.now) (block s.against.now)
    (procedure s.by.callee.now) c.requires.determined e
    (subst (IsWide e) (at_walk at _ _ _ (λ m w. walk_is_short at m w) _ _ _ _ c.requires.walk)
    wide))
