use Rattle.std.proofs.Common.{◌+◌, ◌++◌, sym, ap, ◌∙◌, arith}
use Rattle.text_lexer.specs.declared.token.Literal.TheVariants.{Value}
use Rattle.rules_names.specs.declared.error.TypeKind.TheVariants.{StridePlace}
use Rattle.rules_names.specs.Faults.{charged, unless, parts_then_whole}
use Rattle.rules_names.specs.Names.{named_in, sort_of}
use Rattle.rules_names.specs.ExpressionRules.{is_buffer, name_faults, dimension_faults}
use Rattle.rules_names.proofs.Widths.{width_stride}
use Rattle.rules_names.proofs.control.test_stride.Goals as goal

pub returns-clause-tells : goal.returns-clause-tells
returns-clause-tells c =
    let same = c.sort-sort.ensures ∙ ap (λ y. sort_of (named_in c.args.names.now.scope.now y)) c.as_str.ensures in
    let name = c.name_charge-name.ensures is_buffer (sym c.is_buffer.ensures) in
    let whole = c.and-whole.ensures _ _ c.dimension_charge.ensures c.unless-place.ensures in
    record {
      charge =
          c.fitting.ensures.charge ∙ c.then_whole.ensures _ _ name whole
          ∙ ap (λ s. charged (parts_then_whole (name_faults is_buffer s (c.args.n + 2)) (dimension_faults s (Value c.args.k) (c.args.n + 4) ++ unless c.args.may.strides StridePlace c.args.n))) same;
      end = let e = c.fitting.ensures.end in let w = width_stride c.args.x.now (Value c.args.k) in omega arith;
      form = c.fitting.ensures.form;
    }
