use Rattle.std.proofs.Common.{◌≡◌, ◌∙◌, ◌+◌, ◌-◌, ◌*◌, ◌≤◌, ℕ, unsigned_abs, refl, sym, ap, rules}
use Rattle.std.proofs.Common.{arith}
use Rattle.exo_tree.specs.declared.control.Ctrl.TheViews.{size-Ctrl, sized-Neg, sized-Mul}
use Rattle.exo_tree.specs.declared.control.Ctrl.TheViews.{sized-Div, sized-Mod}
use Rattle.exo_tree.specs.Tree.{Div, Mod}
use Rattle.exo_tree.specs.PlainControl.{control}
use Rattle.c_widths.specs.Magnitude.{magnitude, rounded_up, fits, is_narrow}
use Rattle.c_widths.specs.Bounds.{most_in}
use Rattle.c_widths.proofs.Parts.{some_same, of_none, OfOne, one_off, one_there, one_value, OfTwo}
use Rattle.c_widths.proofs.Parts.{of_product, of_sum, first_off, second_off, two_there, two_value}
use Rattle.c_widths.proofs.magnitudes.+magnitude.Goals as goal

pub returns-in-Lit : goal.returns-in-Lit
returns-in-Lit t c =
    let most = most_in c.args.bounds.now in
    let same : c.unsigned_abs.result ≡ unsigned_abs c.in-Lit.n = search rules in
    record {
      there = c.within.ensures.there ∙ ap fits same
          ∙ sym (ap (λ e. is_narrow most (control e)) c.in-Lit.is);
      value = some_same c.within.result (same ∙ sym (ap (λ e. magnitude most (control e))
          c.in-Lit.is)) c.within.ensures.value;
      small = c.within.ensures.small;
    }

pub returns-in-Var : goal.returns-in-Var
returns-in-Var t c =
    let most = most_in c.args.bounds.now in
    record {
      there = c.within-in-Var.ensures.there ∙ ap fits c.bound_of.ensures
          ∙ sym (ap (λ e. is_narrow most (control e)) c.in-Var.is);
      value = some_same c.within-in-Var.result (c.bound_of.ensures
          ∙ sym (ap (λ e. magnitude most (control e)) c.in-Var.is)) c.within-in-Var.ensures.value;
      small = c.within-in-Var.ensures.small;
    }

pub returns-in-Neg : goal.returns-in-Neg
returns-in-Neg t c =
    let most = most_in c.args.bounds.now in
    let part = ap control c.deref.ensures in
    record {
      there = c.magnitude.ensures.there ∙ ap (is_narrow most) part
          ∙ sym (ap (λ e. is_narrow most (control e)) c.in-Neg.is);
      value = some_same c.magnitude.result (ap (magnitude most) part
          ∙ sym (ap (λ e. magnitude most (control e)) c.in-Neg.is)) c.magnitude.ensures.value;
      small = c.magnitude.ensures.small;
    }

pub returns-in_err-left-in-Mul : goal.returns-in_err-left-in-Mul
returns-in_err-left-in-Mul t c =
    let most = most_in c.args.bounds.now in
    let node : OfTwo most ◌*◌ (control c.args.e.now) (control c.deref-in-Mul.result.now)
    (control c.in-Mul.b.value) = of_product most (ap control c.in-Mul.is)
    (ap control c.deref-in-Mul.ensures) refl in
    let none = c.from_residual.ensures in
    record {
      there = first_off most ◌*◌ node none c.in_err-left-in-Mul.ensures.there;
      value = of_none _ (λ n. n ≡ magnitude most (control c.args.e.now)) none;
      small = of_none _ (λ n. n ≤ 4611686018427387904) none;
    }

pub returns-in_err-right-in-Mul : goal.returns-in_err-right-in-Mul
returns-in_err-right-in-Mul t c =
    let most = most_in c.args.bounds.now in
    let node : OfTwo most ◌*◌ (control c.args.e.now) (control c.deref-in-Mul.result.now)
    (control c.deref-in-Mul-2.result.now) = of_product most (ap control c.in-Mul.is)
    (ap control c.deref-in-Mul.ensures) (ap control c.deref-in-Mul-2.ensures) in
    let none = c.from_residual-in_err-right-in-Mul.ensures in
    record {
      there = second_off most ◌*◌ node none c.in_ok-left-in-Mul.ensures.there
          c.in_err-right-in-Mul.ensures.there;
      value = of_none _ (λ n. n ≡ magnitude most (control c.args.e.now)) none;
      small = of_none _ (λ n. n ≤ 4611686018427387904) none;
    }

pub returns-in_ok-right-in-Mul : goal.returns-in_ok-right-in-Mul
returns-in_ok-right-in-Mul t c =
    let most = most_in c.args.bounds.now in
    let node : OfTwo most ◌*◌ (control c.args.e.now) (control c.deref-in-Mul.result.now)
    (control c.deref-in-Mul-2.result.now) = of_product most (ap control c.in-Mul.is)
    (ap control c.deref-in-Mul.ensures) (ap control c.deref-in-Mul-2.ensures) in
    let left = c.in_ok-left-in-Mul.ensures in
    let right = c.in_ok-right-in-Mul.ensures in
    record {
      there = two_there most ◌*◌ node left.there right.there left.value right.value
          c.product.ensures.there;
      value = some_same c.product.result (two_value most ◌*◌ node left.value right.value)
          c.product.ensures.value;
      small = c.product.ensures.small;
    }

pub returns-in_err-left-in-Add : goal.returns-in_err-left-in-Add
returns-in_err-left-in-Add t c =
    let most = most_in c.args.bounds.now in
    let node : OfTwo most ◌+◌ (control c.args.e.now) (control c.deref-in-Add.result.now)
    (control c.in-Add.b.value) = of_sum most control c.in-Add.is refl refl
    (ap control c.deref-in-Add.ensures) refl in
    let none = c.from_residual-in_err-left-in-Add.ensures in
    record {
      there = first_off most ◌+◌ node none c.in_err-left-in-Add.ensures.there;
      value = of_none _ (λ n. n ≡ magnitude most (control c.args.e.now)) none;
      small = of_none _ (λ n. n ≤ 4611686018427387904) none;
    }

pub returns-in_err-right-in-Add : goal.returns-in_err-right-in-Add
returns-in_err-right-in-Add t c =
    let most = most_in c.args.bounds.now in
    let node : OfTwo most ◌+◌ (control c.args.e.now) (control c.deref-in-Add.result.now)
    (control c.deref-in-Add-2.result.now) = of_sum most control c.in-Add.is refl refl
    (ap control c.deref-in-Add.ensures) (ap control c.deref-in-Add-2.ensures) in
    let none = c.from_residual-in_err-right-in-Add.ensures in
    record {
      there = second_off most ◌+◌ node none c.in_ok-left-in-Add.ensures.there
          c.in_err-right-in-Add.ensures.there;
      value = of_none _ (λ n. n ≡ magnitude most (control c.args.e.now)) none;
      small = of_none _ (λ n. n ≤ 4611686018427387904) none;
    }

pub returns-in_ok-right-in-Add : goal.returns-in_ok-right-in-Add
returns-in_ok-right-in-Add t c =
    let most = most_in c.args.bounds.now in
    let node : OfTwo most ◌+◌ (control c.args.e.now) (control c.deref-in-Add.result.now)
    (control c.deref-in-Add-2.result.now) = of_sum most control c.in-Add.is refl refl
    (ap control c.deref-in-Add.ensures) (ap control c.deref-in-Add-2.ensures) in
    let left = c.in_ok-left-in-Add.ensures in
    let right = c.in_ok-right-in-Add.ensures in
    record {
      there = two_there most ◌+◌ node left.there right.there left.value right.value
          c.sum.ensures.there;
      value = some_same c.sum.result (two_value most ◌+◌ node left.value right.value)
          c.sum.ensures.value;
      small = c.sum.ensures.small;
    }

pub returns-in_err-left-in-Div : goal.returns-in_err-left-in-Div
returns-in_err-left-in-Div t c =
    let most = most_in c.args.bounds.now in
    let f : ℕ → ℕ = (λ n. rounded_up n (unsigned_abs c.in-Div.c)) in
    let e = ap control c.in-Div.is ∙ ap (λ a. Div a c.in-Div.c)
    (sym (ap control c.deref-in-Div.ensures)) in
    let node : OfOne most f (control c.args.e.now) (control c.deref-in-Div.result.now) =
    record { narrow = ap (is_narrow most) e; large = ap (magnitude most) e } in
    let none = c.from_residual-in_err-left-in-Div.ensures in
    record {
      there = one_off most f node none c.in_err-left-in-Div.ensures.there;
      value = of_none _ (λ n. n ≡ magnitude most (control c.args.e.now)) none;
      small = of_none _ (λ n. n ≤ 4611686018427387904) none;
    }

pub returns-in_ok-left-in-Div : goal.returns-in_ok-left-in-Div
returns-in_ok-left-in-Div t c =
    let same : c.unsigned_abs-in-Div.result ≡ unsigned_abs c.in-Div.c = search rules in
    let most = most_in c.args.bounds.now in
    let f : ℕ → ℕ = (λ n. rounded_up n (unsigned_abs c.in-Div.c)) in
    let e = ap control c.in-Div.is ∙ ap (λ a. Div a c.in-Div.c)
    (sym (ap control c.deref-in-Div.ensures)) in
    let node : OfOne most f (control c.args.e.now) (control c.deref-in-Div.result.now) =
    record { narrow = ap (is_narrow most) e; large = ap (magnitude most) e } in
    let left = c.in_ok-left-in-Div.ensures in
    record {
      there = one_there most f node left.there left.value
          (c.quotient.ensures.there ∙ ap (λ n. fits (rounded_up c.in_ok-left-in-Div.left n)) same);
      value = some_same c.quotient.result (ap (λ n. rounded_up c.in_ok-left-in-Div.left n) same
          ∙ one_value most f node left.value) c.quotient.ensures.value;
      small = c.quotient.ensures.small;
    }

pub returns-in_err-magnitude-in-Mod : goal.returns-in_err-magnitude-in-Mod
returns-in_err-magnitude-in-Mod t c =
    let most = most_in c.args.bounds.now in
    let f : ℕ → ℕ = (λ n. unsigned_abs c.in-Mod.c - 1) in
    let e = ap control c.in-Mod.is ∙ ap (λ a. Mod a c.in-Mod.c)
    (sym (ap control c.deref-in-Mod.ensures)) in
    let node : OfOne most f (control c.args.e.now) (control c.deref-in-Mod.result.now) =
    record { narrow = ap (is_narrow most) e; large = ap (magnitude most) e } in
    let none = c.from_residual-in_err-magnitude-in-Mod.ensures in
    record {
      there = one_off most f node none c.in_err-magnitude-in-Mod.ensures.there;
      value = of_none _ (λ n. n ≡ magnitude most (control c.args.e.now)) none;
      small = of_none _ (λ n. n ≤ 4611686018427387904) none;
    }

pub returns-in_ok-magnitude-in-Mod : goal.returns-in_ok-magnitude-in-Mod
returns-in_ok-magnitude-in-Mod t c =
    let same : c.unsigned_abs-in-Mod.result ≡ unsigned_abs c.in-Mod.c = search rules in
    let most = most_in c.args.bounds.now in
    let f : ℕ → ℕ = (λ n. unsigned_abs c.in-Mod.c - 1) in
    let e = ap control c.in-Mod.is ∙ ap (λ a. Mod a c.in-Mod.c)
    (sym (ap control c.deref-in-Mod.ensures)) in
    let node : OfOne most f (control c.args.e.now) (control c.deref-in-Mod.result.now) =
    record { narrow = ap (is_narrow most) e; large = ap (magnitude most) e } in
    let left = c.in_ok-magnitude-in-Mod.ensures in
    record {
      there = one_there most f node left.there left.value
          (c.remainder.ensures.there ∙ ap (λ n. fits (n - 1)) same);
      value = some_same c.remainder.result (ap (λ n. n - 1) same ∙ one_value most f node left.value)
          c.remainder.ensures.value;
      small = c.remainder.ensures.small;
    }

pub sum-requires-clause-left : goal.sum-requires-clause-left
sum-requires-clause-left t c = c.in_ok-left-in-Add.ensures.small

pub sum-requires-clause-right : goal.sum-requires-clause-right
sum-requires-clause-right t c = c.in_ok-right-in-Add.ensures.small

pub quotient-requires-clause-dividend : goal.quotient-requires-clause-dividend
quotient-requires-clause-dividend t c = c.in_ok-left-in-Div.ensures.small

pub quotient-requires-clause-divisor : goal.quotient-requires-clause-divisor
quotient-requires-clause-divisor t c = c.unsigned_abs-in-Div.ensures.bound

pub magnitude-requires : goal.magnitude-requires
magnitude-requires t c =
    let v = c.in-Neg in
    let part = ap size-Ctrl c.deref.ensures in
    (omega (arith, part, ap size-Ctrl v.is, sized-Neg v.a), tt)

pub magnitude-requires-in-Mul : goal.magnitude-requires-in-Mul
magnitude-requires-in-Mul t c =
    let v = c.in-Mul in
    let part = ap size-Ctrl c.deref-in-Mul.ensures in
    (omega (arith, part, ap size-Ctrl v.is, sized-Mul v.a v.b), tt)

pub magnitude-requires-in-Mul-2 : goal.magnitude-requires-in-Mul-2
magnitude-requires-in-Mul-2 t c =
    let v = c.in-Mul in
    let part = ap size-Ctrl c.deref-in-Mul-2.ensures in
    (omega (arith, part, ap size-Ctrl v.is, sized-Mul v.a v.b), tt)

pub magnitude-requires-in-Div : goal.magnitude-requires-in-Div
magnitude-requires-in-Div t c =
    let v = c.in-Div in
    let part = ap size-Ctrl c.deref-in-Div.ensures in
    (omega (arith, part, ap size-Ctrl v.is, sized-Div v.a v.c), tt)

pub magnitude-requires-in-Mod : goal.magnitude-requires-in-Mod
magnitude-requires-in-Mod t c =
    let v = c.in-Mod in
    let part = ap size-Ctrl c.deref-in-Mod.ensures in
    (omega (arith, part, ap size-Ctrl v.is, sized-Mod v.a v.c), tt)
