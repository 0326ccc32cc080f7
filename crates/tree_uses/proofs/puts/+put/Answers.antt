use Rattle.std.proofs.Common.{refl, sym, ap, ◌∙◌, ◌+◌, ◌*◌, ◌<◌, arith}
use Rattle.std.proofs.lemmas.Result.{IfOk-weaker}
use Rattle.exo_tree.specs.PlainControl.{control}
use Rattle.exo_tree.specs.Tree as tree
use Rattle.exo_tree.proofs.control.Ctrl.TheLaws.{the_size}
use Rattle.match_laws.specs.Inline.AtOnce.{put_control}
use Rattle.tree_uses.proofs.Nodes.{of_one, of_two, on_same}
use Rattle.tree_uses.proofs.puts.+put.Goals as goal

pub put_control-returns-in_ok-boxed-in-Neg : goal.put_control-returns-in_ok-boxed-in-Neg
put_control-returns-in_ok-boxed-in-Neg g t c =
    let put = g.P.Puts.put c.args.puts.now in
    of_one (λ x. put_control put (control x)) (λ x. put_control put (control x)) tree.Neg c.in-Neg.is c.deref.ensures
    refl c.in_ok-boxed-in-Neg.ensures

pub put_control-returns-in_ok-left-in-Add : goal.put_control-returns-in_ok-left-in-Add
put_control-returns-in_ok-left-in-Add g t c =
    let put = g.P.Puts.put c.args.puts.now in
    of_two (λ x. put_control put (control x)) (λ x. put_control put (control x)) tree.Add c.in-Add.is
    c.deref-in-Add.ensures c.deref-in-Add-2.ensures refl c.in_ok-left-in-Add.ensures.first
    c.in_ok-left-in-Add.ensures.second

pub put_control-returns-in_ok-left-in-Sub : goal.put_control-returns-in_ok-left-in-Sub
put_control-returns-in_ok-left-in-Sub g t c =
    let put = g.P.Puts.put c.args.puts.now in
    of_two (λ x. put_control put (control x)) (λ x. put_control put (control x)) tree.Sub c.in-Sub.is
    c.deref-in-Sub.ensures c.deref-in-Sub-2.ensures refl c.in_ok-left-in-Sub.ensures.first
    c.in_ok-left-in-Sub.ensures.second

pub put_control-returns-in_ok-left-in-Mul : goal.put_control-returns-in_ok-left-in-Mul
put_control-returns-in_ok-left-in-Mul g t c =
    let put = g.P.Puts.put c.args.puts.now in
    of_two (λ x. put_control put (control x)) (λ x. put_control put (control x)) tree.Mul c.in-Mul.is
    c.deref-in-Mul.ensures c.deref-in-Mul-2.ensures refl c.in_ok-left-in-Mul.ensures.first
    c.in_ok-left-in-Mul.ensures.second

pub put_control-returns-in-Var : goal.put_control-returns-in-Var
put_control-returns-in-Var g t c =
    let put = g.P.Puts.put c.args.puts.now in
    on_same c.variable.result control (put.variable c.in-Var.x.0) (put_control put (control c.args.e.now))
    c.variable.ensures (sym (ap (λ x. put_control put (control x)) c.in-Var.is))

pub boxed-returns : goal.boxed-returns
boxed-returns g t c =
    let put = g.P.Puts.put c.args.puts.now in
    IfOk-weaker c.in_box.result _ _ (λ b h. ap control h ∙ c.in_ok-put_control.ensures) c.in_box.ensures

pub boxed-put_control-requires : goal.boxed-put_control-requires
boxed-put_control-requires g t c =
    let less : 3 * the_size c.args.e.now < t = omega (arith, c.decreases) in
    λ κs h. (less, h)

pub boxed_with-boxed-requires : goal.boxed_with-boxed-requires
boxed_with-boxed-requires g t c =
    let less : 3 * the_size c.args.a.now + 1 < t = omega (arith, c.decreases) in
    λ κs h. (less, h)

pub boxed_with-boxed-requires-2 : goal.boxed_with-boxed-requires-2
boxed_with-boxed-requires-2 g t c =
    let less : 3 * the_size c.args.b.now + 1 < t = omega (arith, c.decreases) in
    λ κs h. (less, h)

pub boxed_with-returns-clause-first : goal.boxed_with-returns-clause-first
boxed_with-returns-clause-first g t c =
    c.in_ok-first.ensures

pub boxed_with-returns-clause-second : goal.boxed_with-returns-clause-second
boxed_with-returns-clause-second g t c =
    c.in_ok-boxed.ensures
