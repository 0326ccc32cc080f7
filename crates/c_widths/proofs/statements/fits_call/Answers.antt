use Rattle.std.proofs.Common.{◌≡◌, ◌∙◌, ◌+◌, ◌∷◌, suc, map, drop, sym, ap, subst, true, arith}
use Rattle.exo_tree.specs.PlainArgument.{argument}
use Rattle.c_widths.specs.Bounds.{most_in}
use Rattle.c_widths.specs.Widths.{is_narrow_argument}
use Rattle.c_widths.specs.Raises.{argument_magnitude, raised_by}
use Rattle.c_widths.specs.Given.{IsChanged}
use Rattle.c_widths.proofs.Growing.{drop_here, nothing_left}
use Rattle.c_widths.proofs.Changes.{given_more, not_changed, arguments_changed, arguments_left}
use Rattle.c_widths.proofs.statements.fits_call.Goals as goal

pub loop-i-preserved : goal.loop-i-preserved
loop-i-preserved c =
    let most = most_in c.args.bounds.now in
    let all = c.as_slice-a-items.result.now in
    let i = c.loop-i.i in
    let a = argument c.a-item.result in
    let rest = map argument (drop (i + 1) all) in
    let old = c.loop-i.given in
    let mid = c.raise.new.self in
    let next : i + 1 ≡ suc i = omega arith in
    let e : map argument (drop i all) ≡ a ∷ rest = ap (map argument) (drop_here all i c.a-item.result c.loop-i-test.true c.a-item.is) in
    let fits : is_narrow_argument most a ≡ true = sym c.in-Some.ensures.there in
    let change : IsChanged (given_more c.args.p.0 i (argument_magnitude most a)) old mid = subst (λ m. IsChanged (given_more c.args.p.0 i m) old mid) c.in-Some.ensures.value c.raise.ensures in
    record {
      narrow = sym (arguments_left most (map argument (drop i all)) rest a true e fits) ∙ c.loop-i.invariant.narrow;
      given = λ new h. c.loop-i.invariant.given new (arguments_changed most c.args.p.0 i (map argument (drop i all)) rest a old mid new e change (subst (λ n. IsChanged (raised_by most c.args.p.0 n rest) mid new) next h));
    }

pub returns-clause-given : goal.returns-clause-given
returns-clause-given c =
    λ e. c.loop-i.invariant.given c.loop-i.given
    (subst (λ l. IsChanged (raised_by (most_in c.args.bounds.now) c.args.p.0 c.loop-i.i (map argument l)) c.loop-i.given c.loop-i.given)
    (sym (nothing_left c.loop-i.i c.as_slice-a-items.result.now (omega arith))) (not_changed c.loop-i.given))
