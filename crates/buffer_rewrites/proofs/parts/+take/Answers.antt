use Rattle.std.proofs.Common.{◌≡◌, refl, ap, sym, subst, ◌∙◌}
use Rattle.exo_tree.specs.PlainDatum.{datum}
use Rattle.exo_tree.specs.Tree.{Negated, Relu, Plus, Minus, Times, Select}
use Rattle.alloc_laws.specs.Bind.Binding.{Left}
use Rattle.buffer_rewrites.specs.PlainForm.{plain_form}
use Rattle.buffer_rewrites.proofs.Taken.{below, is_below, took_all, found_none, in_negated, in_relu}
use Rattle.buffer_rewrites.proofs.Taken.{left_of_sum}
use Rattle.buffer_rewrites.proofs.Taken.{right_of_sum, left_of_difference, right_of_difference}
use Rattle.buffer_rewrites.proofs.Taken.{left_of_product}
use Rattle.buffer_rewrites.proofs.Taken.{right_of_product, in_first, in_second, in_third, in_fourth}
use Rattle.buffer_rewrites.proofs.parts.+take.Goals as goal

pub returns-then-is_here : goal.returns-then-is_here
returns-then-is_here t c =
    took_all (plain_form c.args.form) c.args.left.now c.is_here.new.left c.is_one.ensures
    c.is_here.ensures c.if-is_here.true
    (ap datum c.swap.ensures.x_after) (ap datum c.swap.ensures.y_after)

pub returns-in-Lit : goal.returns-in-Lit
returns-in-Lit t c =
    let f = plain_form c.args.form in
    let k = c.args.left.now in
    let l = c.is_here.new.left in
    found_none f (datum c.args.e.now) (datum c.args.held.now) k l
    (subst (λ d. below f (datum d) l ≡ Left l) (sym c.in-Lit.is) refl)
    (is_below f (datum c.args.e.now) k l c.is_one.ensures c.is_here.ensures c.if-is_here.false)

pub returns-in-Read : goal.returns-in-Read
returns-in-Read t c =
    let f = plain_form c.args.form in
    let k = c.args.left.now in
    let l = c.is_here.new.left in
    found_none f (datum c.args.e.now) (datum c.args.held.now) k l
    (subst (λ d. below f (datum d) l ≡ Left l) (sym c.in-Read.is) refl)
    (is_below f (datum c.args.e.now) k l c.is_one.ensures c.is_here.ensures c.if-is_here.false)

pub returns-in-Neg : goal.returns-in-Neg
returns-in-Neg t c =
    let f = plain_form c.args.form in
    let k = c.args.left.now in
    let l = c.is_here.new.left in
    let is = ap datum c.in-Neg.is ∙ (λ i. Negated (datum (sym c.deref_mut.ensures.value i))) in
    in_negated f k l is
    (is_below f (datum c.args.e.now) k l c.is_one.ensures c.is_here.ensures c.if-is_here.false)
    c.take.ensures

pub returns-in-Relu : goal.returns-in-Relu
returns-in-Relu t c =
    let f = plain_form c.args.form in
    let k = c.args.left.now in
    let l = c.is_here.new.left in
    let is = ap datum c.in-Relu.is
    ∙ (λ i. Relu (datum (sym c.deref_mut-in-Relu.ensures.value i))) in
    in_relu f k l is
    (is_below f (datum c.args.e.now) k l c.is_one.ensures c.is_here.ensures c.if-is_here.false)
    c.take-in-Relu.ensures

pub returns-then-take : goal.returns-then-take
returns-then-take t c =
    let f = plain_form c.args.form in
    let k = c.args.left.now in
    let l = c.is_here.new.left in
    let is = ap datum c.in-Add.is
    ∙ (λ i. Plus (datum (sym c.deref_mut-in-Add.ensures.value i)) (datum c.in-Add.b.value)) in
    left_of_sum f k l is
    (is_below f (datum c.args.e.now) k l c.is_one.ensures c.is_here.ensures c.if-is_here.false)
    c.if-take.true c.take-in-Add.ensures

pub returns-else-take : goal.returns-else-take
returns-else-take t c =
    let f = plain_form c.args.form in
    let k = c.args.left.now in
    let l = c.is_here.new.left in
    let is = ap datum c.in-Add.is
    ∙ (λ i. Plus (datum (sym c.deref_mut-in-Add.ensures.value i))
    (datum (sym c.deref_mut-in-Add-2.ensures.value i))) in
    right_of_sum f k l is
    (is_below f (datum c.args.e.now) k l c.is_one.ensures c.is_here.ensures c.if-is_here.false)
    c.if-take.false c.take-in-Add.ensures c.take-in-Add-2.ensures

pub returns-then-take-2 : goal.returns-then-take-2
returns-then-take-2 t c =
    let f = plain_form c.args.form in
    let k = c.args.left.now in
    let l = c.is_here.new.left in
    let is = ap datum c.in-Sub.is
    ∙ (λ i. Minus (datum (sym c.deref_mut-in-Sub.ensures.value i)) (datum c.in-Sub.b.value)) in
    left_of_difference f k l is
    (is_below f (datum c.args.e.now) k l c.is_one.ensures c.is_here.ensures c.if-is_here.false)
    c.if-take-2.true c.take-in-Sub.ensures

pub returns-else-take-2 : goal.returns-else-take-2
returns-else-take-2 t c =
    let f = plain_form c.args.form in
    let k = c.args.left.now in
    let l = c.is_here.new.left in
    let is = ap datum c.in-Sub.is
    ∙ (λ i. Minus (datum (sym c.deref_mut-in-Sub.ensures.value i))
    (datum (sym c.deref_mut-in-Sub-2.ensures.value i))) in
    right_of_difference f k l is
    (is_below f (datum c.args.e.now) k l c.is_one.ensures c.is_here.ensures c.if-is_here.false)
    c.if-take-2.false c.take-in-Sub.ensures c.take-in-Sub-2.ensures

pub returns-then-take-3 : goal.returns-then-take-3
returns-then-take-3 t c =
    let f = plain_form c.args.form in
    let k = c.args.left.now in
    let l = c.is_here.new.left in
    let is = ap datum c.in-Mul.is
    ∙ (λ i. Times (datum (sym c.deref_mut-in-Mul.ensures.value i)) (datum c.in-Mul.b.value)) in
    left_of_product f k l is
    (is_below f (datum c.args.e.now) k l c.is_one.ensures c.is_here.ensures c.if-is_here.false)
    c.if-take-3.true c.take-in-Mul.ensures

pub returns-else-take-3 : goal.returns-else-take-3
returns-else-take-3 t c =
    let f = plain_form c.args.form in
    let k = c.args.left.now in
    let l = c.is_here.new.left in
    let is = ap datum c.in-Mul.is
    ∙ (λ i. Times (datum (sym c.deref_mut-in-Mul.ensures.value i))
    (datum (sym c.deref_mut-in-Mul-2.ensures.value i))) in
    right_of_product f k l is
    (is_below f (datum c.args.e.now) k l c.is_one.ensures c.is_here.ensures c.if-is_here.false)
    c.if-take-3.false c.take-in-Mul.ensures c.take-in-Mul-2.ensures

pub returns-then-take-4 : goal.returns-then-take-4
returns-then-take-4 t c =
    let f = plain_form c.args.form in
    let k = c.args.left.now in
    let l = c.is_here.new.left in
    let is = ap datum c.in-Select.is
    ∙ (λ i. Select (datum (sym c.deref_mut-in-Select.ensures.value i)) (datum c.in-Select.v.value)
    (datum c.in-Select.y.value) (datum c.in-Select.z.value)) in
    in_first f (datum c.args.e.now) (datum c.deref_mut-in-Select.result.now)
    (datum c.in-Select.v.value) (datum c.in-Select.y.value) (datum c.in-Select.z.value)
    (datum c.args.held.now) k l is
    (is_below f (datum c.args.e.now) k l c.is_one.ensures c.is_here.ensures c.if-is_here.false)
    c.if-take-4.true c.take-in-Select.ensures

pub returns-then-take-5 : goal.returns-then-take-5
returns-then-take-5 t c =
    let f = plain_form c.args.form in
    let k = c.args.left.now in
    let l = c.is_here.new.left in
    let is = ap datum c.in-Select.is
    ∙ (λ i. Select (datum (sym c.deref_mut-in-Select.ensures.value i))
    (datum (sym c.deref_mut-in-Select-2.ensures.value i)) (datum c.in-Select.y.value)
    (datum c.in-Select.z.value)) in
    in_second f (datum c.args.e.now) (datum c.deref_mut-in-Select.result.now)
    (datum c.deref_mut-in-Select-2.result.now) (datum c.in-Select.y.value)
    (datum c.in-Select.z.value)
    (datum c.args.held.now) k l is
    (is_below f (datum c.args.e.now) k l c.is_one.ensures c.is_here.ensures c.if-is_here.false)
    c.if-take-4.false c.take-in-Select.ensures c.if-take-5.true c.take-in-Select-2.ensures

pub returns-then-take-6 : goal.returns-then-take-6
returns-then-take-6 t c =
    let f = plain_form c.args.form in
    let k = c.args.left.now in
    let l = c.is_here.new.left in
    let is = ap datum c.in-Select.is
    ∙ (λ i. Select (datum (sym c.deref_mut-in-Select.ensures.value i))
    (datum (sym c.deref_mut-in-Select-2.ensures.value i))
    (datum (sym c.deref_mut-in-Select-3.ensures.value i)) (datum c.in-Select.z.value)) in
    in_third f (datum c.args.e.now) (datum c.deref_mut-in-Select.result.now)
    (datum c.deref_mut-in-Select-2.result.now) (datum c.deref_mut-in-Select-3.result.now)
    (datum c.in-Select.z.value)
    (datum c.args.held.now) k l is
    (is_below f (datum c.args.e.now) k l c.is_one.ensures c.is_here.ensures c.if-is_here.false)
    c.if-take-4.false c.take-in-Select.ensures c.if-take-5.false c.take-in-Select-2.ensures
    c.if-take-6.true c.take-in-Select-3.ensures

pub returns-else-take-6 : goal.returns-else-take-6
returns-else-take-6 t c =
    let f = plain_form c.args.form in
    let k = c.args.left.now in
    let l = c.is_here.new.left in
    let is = ap datum c.in-Select.is
    ∙ (λ i. Select (datum (sym c.deref_mut-in-Select.ensures.value i))
    (datum (sym c.deref_mut-in-Select-2.ensures.value i))
    (datum (sym c.deref_mut-in-Select-3.ensures.value i))
    (datum (sym c.deref_mut-in-Select-4.ensures.value i))) in
    in_fourth f (datum c.args.e.now) (datum c.deref_mut-in-Select.result.now)
    (datum c.deref_mut-in-Select-2.result.now) (datum c.deref_mut-in-Select-3.result.now)
    (datum c.deref_mut-in-Select-4.result.now)
    (datum c.args.held.now) k l is
    (is_below f (datum c.args.e.now) k l c.is_one.ensures c.is_here.ensures c.if-is_here.false)
    c.if-take-4.false c.take-in-Select.ensures c.if-take-5.false c.take-in-Select-2.ensures
    c.if-take-6.false c.take-in-Select-3.ensures c.take-in-Select-4.ensures
