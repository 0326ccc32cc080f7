-- What the test of an expression tells, from the tests of its parts.
use Rattle.std.proofs.Common.{◌≡◌, ℕ, ◌+◌, Bool, true, false, ◌&&◌, ◌||◌, List, [], ◌++◌, refl, sym, ap, subst, ◌∙◌, arith, if◌then◌else◌, true≢false}
use Rattle.text_expressions.specs.Expression.{Tree, access, relu, select, negative, parens, binary, trees}
use Rattle.text_expressions.specs.Views.{tree_of}
use Rattle.text_expressions.specs.declared.source.Infix.{Infix}
use Rattle.text_expressions.specs.declared.source.SourceExpr.{SourceExpr}
use Rattle.rules_names.specs.declared.error.TypeKind.TheVariants.{KindMismatch}
use Rattle.rules_names.specs.declared.fault.Fault.{Fault}
use Rattle.rules_names.specs.declared.fault.Charge.{Charge}
use Rattle.rules_names.specs.declared.tested.Tested.{Tested}
use Rattle.rules_names.specs.Faults.{fault, charged, any_hides, parts_then_whole}
use Rattle.rules_names.specs.Tests.{Tells, Varies}
use Rattle.rules_names.specs.ExpressionRules.{width, closed_width, list_of, has_variables, is_divisor, affine_faults}
use Rattle.rules_names.proofs.Charges.{any_hides_append, hides_of}
use Rattle.rules_names.proofs.Seen.{listed}
use Rattle.rules_names.proofs.Widths.{width_negative, width_parens, width_relu, width_binary, width_access, width_select}

-- an expression by its tree
pub tells_as : (faults : Tree → List Fault) (fits : Tree → Bool) (r : Tested) (n : ℕ) (e : SourceExpr) (t : Tree) → tree_of e ≡ t → Tells r (faults t) (fits t) n t → Tells r (faults (tree_of e)) (fits (tree_of e)) n (tree_of e)
tells_as faults fits r n e t same told = subst (λ (u : Tree). Tells r (faults u) (fits u) n u) (sym same) told

pub varies_as : (r : Tested) (e : SourceExpr) (t : Tree) → tree_of e ≡ t → Varies r t → Varies r (tree_of e)
varies_as r e t same told = subst (λ (u : Tree). Varies r u) (sym same) told

pub told_negative : (r inner : Tested) (faults : List Fault) (fits : Bool) (n : ℕ) (e : Tree) → r.charge ≡ inner.charge → r.end ≡ inner.end → r.fits ≡ true → Tells inner faults fits (n + 1) e → Tells r faults true n (negative e)
told_negative r inner faults fits n e p q f told = record {
  charge = p ∙ told.charge;
  end = let w = width_negative e in let v = told.end in omega arith;
  form = f;
}

pub told_relu : (r inner : Tested) (faults : List Fault) (fits : Bool) (n : ℕ) (e : Tree) → r.charge ≡ inner.charge → r.end ≡ inner.end + 1 → r.fits ≡ true → Tells inner faults fits (n + 2) e → Tells r faults true n (relu e)
told_relu r inner faults fits n e p q f told = record {
  charge = p ∙ told.charge;
  end = let w = width_relu e in let v = told.end in omega arith;
  form = f;
}

-- parentheses: their form is that of what stands inside
enclosed_charge : (b : Bool) (c : Charge) (faults wrong : List Fault) → c ≡ charged faults → (if b then c else charged wrong) ≡ charged (if b then faults else wrong)
enclosed_charge true c faults wrong p = p
enclosed_charge false c faults wrong p = refl

pub told_parens : (r inner : Tested) (faults wrong : List Fault) (fits : Bool) (n : ℕ) (e : Tree) → r.charge ≡ (if inner.fits then inner.charge else charged wrong) → r.end ≡ inner.end + 1 → r.fits ≡ inner.fits
    → Tells inner faults fits (n + 1) e → Tells r (if fits then faults else wrong) fits n (parens e)
told_parens r inner faults wrong fits n e p q f told = record {
  charge = p ∙ ap (λ b. if b then inner.charge else charged wrong) told.form ∙ enclosed_charge fits inner.charge faults wrong told.charge;
  end = let w = width_parens e in let v = told.end in omega arith;
  form = f ∙ told.form;
}

-- two sides
pub told_end : (r left right : Tested) (f g : List Fault) (s t : Bool) (n : ℕ) (o : Infix) (a b : Tree) → r.end ≡ right.end → Tells left f s n a → Tells right g t (left.end + 1) b → r.end ≡ n + width (binary o a b)
told_end r left right f g s t n o a b q x y = let w = width_binary o a b in let u = x.end in let v = y.end in omega arith

-- the right side begins behind the operator
pub behind : (left : Tested) (f : List Fault) (s : Bool) (n : ℕ) (a : Tree) → Tells left f s n a → left.end + 1 ≡ n + width a + 1
behind left f s n a x = ap (λ k. k + 1) x.end

-- where a part hides the whole it does not matter what the whole breaks
hidden : (b : Bool) (parts x y : List Fault) → any_hides parts ≡ b → (b ≡ false → x ≡ y) → parts_then_whole parts x ≡ parts_then_whole parts y
hidden true parts x y h f = ap (λ b. parts ++ (if b then [] else x)) h ∙ sym (ap (λ b. parts ++ (if b then [] else y)) h)
hidden false parts x y h f = ap (parts_then_whole parts) (f refl)

left_shows : (a b : Bool) → (a || b) ≡ false → a ≡ false
left_shows true b h = h
left_shows false b h = refl

right_shows : (a b : Bool) → (a || b) ≡ false → b ≡ false
right_shows true b h = cc
right_shows false b h = h

pub hides_left : (a b : List Fault) → any_hides (a ++ b) ≡ false → any_hides a ≡ false
hides_left a b h = left_shows (any_hides a) (any_hides b) (sym (any_hides_append a b) ∙ h)

pub hides_right : (a b : List Fault) → any_hides (a ++ b) ≡ false → any_hides b ≡ false
hides_right a b h = right_shows (any_hides a) (any_hides b) (sym (any_hides_append a b) ∙ h)

-- what two tested sides say of their variables
pub joined_varies : (left right : Tested) (a b : List Fault) (l r : Tree) → left.charge ≡ charged a → right.charge ≡ charged b → Varies left l → Varies right r → any_hides (a ++ b) ≡ false
    → (left.variables ≡ has_variables l) × (right.variables ≡ has_variables r)
joined_varies left right a b l r p q x y h = (
  x.told (hides_of left.charge a p ∙ hides_left a b h),
  y.told (hides_of right.charge b q ∙ hides_right a b h),
)

pub joined_charge : (left right : Tested) (a b : List Fault) (l r : Tree) (o : Infix) (n m : ℕ) (d : Bool) → left.charge ≡ charged a → right.charge ≡ charged b → Varies left l → Varies right r → d ≡ is_divisor r
    → parts_then_whole (a ++ b) (affine_faults o n m (left.variables && right.variables) d) ≡ parts_then_whole (a ++ b) (affine_faults o n m (has_variables l && has_variables r) (is_divisor r))
joined_charge left right a b l r o n m d p q x y e =
    hidden (any_hides (a ++ b)) (a ++ b) _ _ refl (λ h.
    let v = joined_varies left right a b l r p q x y h in
    ap (λ t. affine_faults o n m (t && right.variables) d) v.0 ∙ ap (λ t. affine_faults o n m (has_variables l && t) d) v.1 ∙ ap (affine_faults o n m (has_variables l && has_variables r)) e)

-- what is told of the whole shows that no part hides it
pub shows_parts : (c : Charge) (a w : List Fault) → c ≡ charged (parts_then_whole a w) → c.hides ≡ false → any_hides a ≡ false
shows_parts c a w p h = hides_left a _ (sym (hides_of c _ p) ∙ h)

-- what hides tells nothing of variables
true_hides : (b : Bool) → (b || true) ≡ true
true_hides true = refl
true_hides false = refl

pub varies_wrong : (r : Tested) (faults : List Fault) (n : ℕ) (e : Tree) → r.charge ≡ charged (faults ++ fault KindMismatch n) → Varies r e
varies_wrong r faults n e p = record {
  told = λ h. absurd (true≢false (sym (hides_of r.charge _ p ∙ any_hides_append faults (fault KindMismatch n) ∙ true_hides (any_hides faults)) ∙ h));
}

inner_hides : (b : Bool) (c d : Charge) (n : ℕ) → d ≡ (if b then c else charged (fault KindMismatch n)) → d.hides ≡ false → c.hides ≡ false
inner_hides true c d n p h = ap (λ k. k.hides) (sym p) ∙ h
inner_hides false c d n p h = absurd (true≢false (sym (hides_of d (fault KindMismatch n) p) ∙ h))

pub varies_parens : (r inner : Tested) (n : ℕ) (e : Tree) → r.charge ≡ (if inner.fits then inner.charge else charged (fault KindMismatch n)) → r.variables ≡ inner.variables → Varies inner e → Varies r (parens e)
varies_parens r inner n e p v told = record {
  told = λ h. v ∙ told.told (inner_hides inner.fits inner.charge r.charge n p h);
}

-- a cell
pub told_access : (r : Tested) (faults : List Tree → List Fault) (n : ℕ) (x : List ℕ) (es : List Tree) → r.charge ≡ charged (faults es) → r.end ≡ n + 2 + closed_width es → r.fits ≡ true → Tells r (faults (list_of (trees es))) true n (access x (trees es))
told_access r faults n x es p q s = record {
  charge = p ∙ ap (λ l. charged (faults l)) (sym (listed es));
  end = let w = width_access x es in omega arith;
  form = s;
}

-- a choice
pub told_select : (r p q s t : Tested) (f : ℕ → Tree → List Fault) (e g h i : Bool) (n : ℕ) (a b c d : Tree)
    → r.charge ≡ charged (f (n + 2) a ++ (f (p.end + 1) b ++ (f (q.end + 1) c ++ f (s.end + 1) d))) → r.end ≡ t.end + 1 → r.fits ≡ true
    → Tells p (f (n + 2) a) e (n + 2) a → Tells q (f (p.end + 1) b) g (p.end + 1) b → Tells s (f (q.end + 1) c) h (q.end + 1) c → Tells t (f (s.end + 1) d) i (s.end + 1) d
    → Tells r (f (n + 2) a ++ (f (n + 2 + width a + 1) b ++ (f (n + 2 + width a + 1 + width b + 1) c ++ f (n + 2 + width a + 1 + width b + 1 + width c + 1) d))) true n (select a b c d)
told_select r p q s t f e g h i n a b c d charge last form x y z w =
    let second : p.end + 1 ≡ n + 2 + width a + 1 = ap (λ k. k + 1) x.end in
    let third : q.end + 1 ≡ n + 2 + width a + 1 + width b + 1 = ap (λ k. k + 1) (y.end ∙ ap (λ k. k + width b) second) in
    let fourth : s.end + 1 ≡ n + 2 + width a + 1 + width b + 1 + width c + 1 = ap (λ k. k + 1) (z.end ∙ ap (λ k. k + width c) third) in
    record {
      charge =
          charge ∙ ap (λ k. charged (f (n + 2) a ++ (f k b ++ (f (q.end + 1) c ++ f (s.end + 1) d)))) second
          ∙ ap (λ k. charged (f (n + 2) a ++ (f (n + 2 + width a + 1) b ++ (f k c ++ f (s.end + 1) d)))) third
          ∙ ap (λ k. charged (f (n + 2) a ++ (f (n + 2 + width a + 1) b ++ (f (n + 2 + width a + 1 + width b + 1) c ++ f k d)))) fourth;
      end = let v = width_select a b c d in let u = w.end in omega arith;
      form = form;
    }
