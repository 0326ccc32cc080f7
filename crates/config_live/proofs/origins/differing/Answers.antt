use Rattle.std.proofs.Common.{◌∙◌, ap, length, map, subst, false, arith}
use Rattle.std.specs.Prelude.{replicate}
use Rattle.config_state.specs.FieldSets.{Marked}
use Rattle.config_state.proofs.Sets.{if_ok}
use Rattle.config_laws.specs.FieldRule.{is_listed}
use Rattle.config_laws.specs.Differing.{fields_since}
use Rattle.config_live.specs.Origins.{origin}
use Rattle.config_live.proofs.Since.{in_order}
use Rattle.config_live.proofs.Ways.{length_none}
use Rattle.config_live.proofs.origins.differing.Goals as goal

pub returns : goal.returns
returns c =
    let n = length c.args.unit.now.fields in
    let os = map origin c.args.origins.now in
    if_ok c.to_vec.result _ _
    (λ v h. h ∙ in_order n
    (λ f. is_listed f (fields_since c.args.unit.now.procs os c.args.from.0 c.args.p.0 c.args.p.0))
    c.add_since.new.set
    (subst (λ z. Marked (λ f. is_listed f (fields_since c.args.unit.now.procs os c.args.from.0 c.args.p.0 c.args.p.0)) z c.add_since.new.set)
    (c.in_ok-set.ensures ∙ ap (λ m. replicate m false) c.len-count.ensures) c.in_ok-add_since.ensures))
    c.to_vec.ensures

pub add_since-requires-clause-wide : goal.add_since-requires-clause-wide
add_since-requires-clause-wide c =
    ap length c.in_ok-set.ensures ∙ length_none c.len-count.result ∙ c.len-count.ensures

pub to_vec-requires : goal.to_vec-requires
to_vec-requires c =
    let n = c.len-count.result in
    let long = ap length c.in_ok-set.ensures ∙ length_none n in
    omega (arith, c.in_ok-add_since.ensures.same_length, long, c.if-count-gt4294967295.false)
