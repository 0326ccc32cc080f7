use Rattle.std.proofs.Common.{◌∙◌, map, take, ap, sym}
use Rattle.std.proofs.lemmas.List.{take-map}
use Rattle.exo_tree.specs.Tree.{StrideOf}
use Rattle.exo_tree.specs.PlainControl.{coordinate}
use Rattle.check_claims.specs.Arguments.{span_place}
use Rattle.check_claims.proofs.Passing.{at_most}
use Rattle.check_claims.proofs.arguments.window_stride.Goals as goal

pub returns : goal.returns
returns c = ap (λ n. StrideOf c.args.y.0 n) (c.span_place.ensures ∙ ap (span_place c.args.k) (ap (λ n. map coordinate (take n c.args.coords.now)) c.min-rank.ensures ∙ ap (map coordinate) (at_most c.args.coords.now 8) ∙ sym (take-map coordinate 8 c.args.coords.now)))
