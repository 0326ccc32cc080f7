use Rattle.std.proofs.Common.{◌≡◌, ◌∙◌, ◌+◌, ◌-◌, suc, length, true, false, sym, ap, subst, IfOk, arith}
use Rattle.c_tree.specs.Names.Names as names
use Rattle.c_tree.proofs.OfNames.Search.{passed_by, found, none_left}
use Rattle.c_tree.proofs.names.names.renamed.Goals as goal

pub returns-then-not-is_taken : goal.returns-then-not-is_taken
returns-then-not-is_taken c =
    let taken = names.is_taken c.args.globals.now c.args.binders.now in
    let x = c.args.x.now in
    let k = c.loop-k.k in
    let next : k + 1 ≡ suc k = omega arith in
    let name = c.in_ok-name.ensures ∙ ap (names.numbered x) next in
    let free : taken (names.numbered x (suc k)) ≡ false = ap taken (sym (c.as_str.ensures ∙ name)) ∙ sym c.is_taken.ensures ∙ c.if-not-is_taken.true in
    name ∙ ap (names.numbered x) (sym (found taken x _ k c.loop-k-test.true free) ∙ c.loop-k.invariant)

pub loop-k-preserved : goal.loop-k-preserved
loop-k-preserved c =
    let taken = names.is_taken c.args.globals.now c.args.binders.now in
    let x = c.args.x.now in
    let k = c.loop-k.k in
    let next : k + 1 ≡ suc k = omega arith in
    let name = c.in_ok-name.ensures ∙ ap (names.numbered x) next in
    let full : taken (names.numbered x (suc k)) ≡ true = ap taken (sym (c.as_str.ensures ∙ name)) ∙ sym c.is_taken.ensures ∙ c.if-not-is_taken.false in
    let all = length c.names.result.now + length c.args.binders.now + 1 in
    ap (λ j. names.first_free taken x (all - j) (suc j)) next ∙ sym (passed_by taken x _ k c.loop-k-test.true full) ∙ c.loop-k.invariant

pub returns : goal.returns
returns c =
    let taken = names.is_taken c.args.globals.now c.args.binders.now in
    let x = c.args.x.now in
    let k = c.loop-k.k in
    let all = length c.names.result.now + length c.args.binders.now + 1 in
    let last : all ≡ k = omega (arith, c.loop-k-test.false, c.loop-k.auto) in
    let number : all + 1 ≡ names.first_free taken x (suc (length c.args.globals.now + length c.args.binders.now)) 1 = omega (arith, last) ∙ sym (none_left taken x all k last) ∙ c.loop-k.invariant in
    subst (λ j. IfOk c.numbered-2.result (λ n. n ≡ names.numbered x j)) number c.numbered-2.ensures
