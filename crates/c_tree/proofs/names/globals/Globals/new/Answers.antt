use Rattle.std.proofs.Common.{◌≡◌, ◌∙◌, ◌-◌, ◌≤◌, ◌||◌, ◌∷◌, drop, length, ap, sym, arith}
use Rattle.c_tree.specs.Names.Held.{names_in}
use Rattle.c_tree.specs.Names.Words.{same_name, is_in}
use Rattle.c_tree.proofs.OfNames.Tails.{none_behind, one_more}
use Rattle.c_tree.proofs.names.globals.Globals.new.Goals as goal

pub loop-k-init : goal.loop-k-init
loop-k-init c =
    let names = c.args.names.now in
    let at_end : length names ≤ length names = omega arith in
    (c.new-held.ensures ∙ ap is_in (sym (none_behind names)), at_end)

pub loop-k-preserved : goal.loop-k-preserved
loop-k-preserved c =
    let names = c.args.names.now in
    let k = c.loop-k.k in
    let x = c.index-names-k.result in
    let step : drop (k - 1) names ≡ x ∷ drop k names =
    one_more names k x c.loop-k-test.true c.loop-k.invariant.1 c.index-names-k.is in
    let held : names_in c.insert.new.self ≡ is_in (drop (k - 1) names) =
    c.in_ok-insert.ensures
    ∙ (λ i y. same_name (c.as_str.ensures i) y || c.loop-k.invariant.0 i y)
    ∙ ap is_in (sym step) in
    let below : k - 1 ≤ length names = omega (arith, c.loop-k.invariant.1) in
    (held, below)
