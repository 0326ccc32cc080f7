use Rattle.std.proofs.Common.{◌≡◌, ◌==◌, ◌-◌, suc, true, false, map, sym, subst, ◌∙◌, arith}
use Rattle.config_state.specs.FieldSets.{Marked}
use Rattle.config_laws.specs.FieldRule.{is_listed}
use Rattle.config_laws.specs.Differing.{fields_since}
use Rattle.config_live.specs.Origins.{origin}
use Rattle.config_live.proofs.Since.{since_on, at_from, at_root}
use Rattle.config_live.proofs.origins.add_since.Goals as goal

pub returns-in_default : goal.returns-in_default
returns-in_default c =
    c.loop-left.invariant.1 c.loop-left.set
    (at_root c.args.unit.now.procs (map origin c.args.origins.now) c.args.from c.loop-left.left
    c.loop-left.k c.loop-left.set (sym c.in_default.ensures))

pub loop-left-preserved : goal.loop-left-preserved
loop-left-preserved c =
    let ps = c.args.unit.now.procs in
    let os = map origin c.args.origins.now in
    let n = c.loop-left.left - 1 in
    let one : suc n ≡ c.loop-left.left = let h = c.loop-left-test.true in omega arith in
    let away : (c.loop-left.k == c.args.from) ≡ false = let h = c.if-k-from.true in grind arith in (
      c.in_ok-add_step.ensures.same_length ∙ c.loop-left.invariant.0,
      λ new h.
          c.loop-left.invariant.1 new
          (subst (λ m. Marked (λ f. is_listed f (fields_since ps os c.args.from m c.loop-left.k)) c.loop-left.set new) one
          (since_on ps os c.args.from n c.loop-left.k c.in-Some.j c.loop-left.set c.add_step.new.set new
          away (sym c.in-Some.ensures) c.in_ok-add_step.ensures h)),
    )

pub returns-else-k-from : goal.returns-else-k-from
returns-else-k-from c =
    let met : (c.loop-left.k == c.args.from) ≡ true = let h = c.if-k-from.false in grind arith in
    c.loop-left.invariant.1 c.loop-left.set
    (at_from c.args.unit.now.procs (map origin c.args.origins.now) c.args.from c.loop-left.left
    c.loop-left.k c.loop-left.set met)
