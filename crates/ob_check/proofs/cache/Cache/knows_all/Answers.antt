use Rattle.std.proofs.Common.{◌≡◌, ◌+◌, true, false, not, ◌&&◌, drop, arith, sym, ap, ◌∙◌}
use Rattle.affine_forms.specs.System.{plain_system}
use Rattle.ob_check.specs.Entries.{is_missing}
use Rattle.ob_check.specs.Held.{held}
use Rattle.ob_check.specs.Settled.{knows_all}
use Rattle.ob_check.specs.Systems.{systems_of}
use Rattle.ob_check.proofs.Lists.{item_at}
use Rattle.ob_check.proofs.cache.Cache.knows_all.Goals as goal

pub returns-then-not-knows : goal.returns-then-not-knows
returns-then-not-knows c =
    let obs = c.args.obs.now in
    let i = c.loop-o.o-index in
    let o = c.o-item.result in
    let es = held c.args.self.now in
    let off : c.knows.result ≡ false = grind (arith, c.if-not-knows.true) in
    let unknown : not (is_missing es (plain_system o.system)) ≡ false = sym c.knows.ensures ∙ off in
    sym
    (sym c.loop-o.invariant
    ∙ ap (λ os. knows_all es (systems_of os)) (item_at obs i o c.loop-o-test.true c.o-item.is)
    ∙ ap (λ b. b && knows_all es (systems_of (drop (i + 1) obs))) unknown)

pub loop-o-preserved : goal.loop-o-preserved
loop-o-preserved c =
    let obs = c.args.obs.now in
    let i = c.loop-o.o-index in
    let o = c.o-item.result in
    let es = held c.args.self.now in
    let on : c.knows.result ≡ true = grind (arith, c.if-not-knows.false) in
    let known : not (is_missing es (plain_system o.system)) ≡ true = sym c.knows.ensures ∙ on in
    sym (ap (λ b. b && knows_all es (systems_of (drop (i + 1) obs))) known)
    ∙ sym (ap (λ os. knows_all es (systems_of os)) (item_at obs i o c.loop-o-test.true c.o-item.is))
    ∙ c.loop-o.invariant
