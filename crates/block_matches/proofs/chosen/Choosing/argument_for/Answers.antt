use Rattle.std.proofs.Common.{ap, sym, subst, ◌∙◌}
use Rattle.std.specs.Prelude.{◌≡◌, IfOk}
use Rattle.std.specs.Result.{result_map_both}
use Rattle.exo_tree.specs.Tree.{block}
use Rattle.exo_tree.specs.PlainArgument.{argument}
use Rattle.exo_tree.specs.PlainParam.{parameter_kind}
use Rattle.exo_tree.specs.PlainProcedure.{procedure}
use Rattle.match_laws.specs.Matched as plain
use Rattle.match_laws.specs.Widths.{argument_is_short}
use Rattle.block_matches.specs.Pairs.Held.{names_in}
use Rattle.tree_uses.specs.Outcomes.{ComesIf}
use Rattle.block_matches.proofs.chosen.Choosing.argument_for.Goals as goal

pub returns-in-Tensor : goal.returns-in-Tensor
returns-in-Tensor g c =
    let s = c.args.self.now in
    let at = g.R.Reader.reading s.reader.now in
    let theirs = names_in s.theirs.now in
    let b = block s.against.now in
    let q = procedure s.by.callee.now in
    let x = c.args.p.now.binder.id.0 in
    record {
      value =
          subst
          (λ k. IfOk c.buffer_argument.result (λ r. result_map_both argument (λ p. p) r
          ≡ plain.argument_for at theirs b q x (parameter_kind k)))
          (sym c.in-Tensor.is) c.buffer_argument.ensures.value;
      fits =
          subst
          (λ k. ComesIf c.buffer_argument.result
          (argument_is_short at theirs b q x (parameter_kind k)))
          (sym c.in-Tensor.is) c.buffer_argument.ensures.fits;
    }

pub returns-in_ok-control_argument-in-Ctrl-clause-value : goal.returns-in_ok-control_argument-in-Ctrl-clause-value
returns-in_ok-control_argument-in-Ctrl-clause-value g c =
    let s = c.args.self.now in
    let at = g.R.Reader.reading s.reader.now in
    let theirs = names_in s.theirs.now in
    let b = block s.against.now in
    let q = procedure s.by.callee.now in
    let x = c.args.p.now.binder.id.0 in
    c.in_ok-control_argument-in-Ctrl.ensures
    ∙ ap (λ k. plain.argument_for at theirs b q x (parameter_kind k)) (sym c.in-Ctrl.is)
