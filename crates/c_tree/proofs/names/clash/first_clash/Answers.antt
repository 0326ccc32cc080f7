use Rattle.std.proofs.Common.{◌≡◌, ◌∙◌, ◌-◌, ◌≤◌, ◌||◌, ◌∷◌, drop, length, ap, sym, arith}
use Rattle.std.specs.Option.{option_copied}
use Rattle.c_tree.specs.Names.Clash.{clashing, first_clash}
use Rattle.c_tree.specs.Names.Held.{names_in}
use Rattle.c_tree.specs.Names.Words.{same_name, is_in, is_word}
use Rattle.c_tree.proofs.OfNames.Tails.{none_behind, one_more}
use Rattle.c_tree.proofs.names.clash.first_clash.Goals as goal

pub loop-k-init : goal.loop-k-init
loop-k-init c =
    let names = c.args.globals.now in
    let none = none_behind names in
    let at_end : length names ≤ length names = omega arith in
    (ap first_clash (sym none), c.new-later.ensures ∙ ap is_in (sym none), at_end)

pub loop-k-preserved : goal.loop-k-preserved
loop-k-preserved c =
    let names = c.args.globals.now in
    let k = c.loop-k.k in
    let x = c.index-globals-k.result in
    let step : drop (k - 1) names ≡ x ∷ drop k names =
    one_more names k x c.loop-k-test.true c.loop-k.invariant.2 c.index-globals-k.is in
    let clashes : c.is_clash.result ≡ (is_word x || is_in (drop k names) x) =
    c.is_clash.ensures ∙ ap (λ f. is_word x || f x) c.loop-k.invariant.1 in
    let found : option_copied c.clashing-found.result ≡ first_clash (drop (k - 1) names) =
    c.clashing-found.ensures ∙ (λ i. clashing (clashes i) x (c.loop-k.invariant.0 i)) ∙ ap first_clash (sym step) in
    let later : names_in c.insert.new.self ≡ is_in (drop (k - 1) names) =
    c.in_ok-insert.ensures
    ∙ (λ i y. same_name (c.as_str.ensures i) y || c.loop-k.invariant.1 i y)
    ∙ ap is_in (sym step) in
    let below : k - 1 ≤ length names = omega (arith, c.loop-k.invariant.2) in
    (found, later, below)
