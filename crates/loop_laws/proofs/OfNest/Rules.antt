-- What is known of a loop that keeps the rules.
use Rattle.std.proofs.Common.{◌≡◌, ℕ, Bool, true, false, true≢false, ◌==◌, ◌&&◌, ◌||◌, not, Option}
use Rattle.std.proofs.Common.{None, refl, sym, ap, ap₂, ◌∙◌, eqb-true}
use Rattle.exo_tree.specs.Tree.{Kind, Index, Control, Lit, Var, Field, StrideOf, Neg, Add, Sub}
use Rattle.exo_tree.specs.Tree.{Mul, Div, Mod, For}
use Rattle.exo_meaning.specs.Calls.{Callee}
use Rattle.exo_meaning.specs.Units.{Scope, ControlName, sort_in, with_name}
use Rattle.exo_meaning.specs.Units.{plainly, is_new, is_number, is_control, is_of_literals, is_empty}
use Rattle.exo_meaning.specs.Units.{is_short, is_block, is_statement}
use Rattle.meaning_laws.specs.Substitute.{has_variable}
use Rattle.meaning_laws.proofs.Substitute.{and_parts}
use Rattle.place_laws.specs.Order.TurnsOfTwo.{Loop}

-- ---- its parts

module _ (fields : ℕ → Option Kind) (memories : ℕ) (callees : ℕ → Option Callee) where
  pub record LoopKeeps (scope : Scope) (root : ℕ → ℕ) (l : Loop) : Type 0 where
    pub new : is_new scope l.binder ≡ true
    pub lo : is_control fields plainly scope l.lo ≡ true
    pub hi : is_control fields plainly scope l.hi ≡ true
    pub body :
        is_block fields memories callees (with_name scope l.binder (ControlName Index)) root l.body
        ≡ true

  pub loop_rules : (scope : Scope) (root : ℕ → ℕ) (l : Loop)
      → is_statement fields memories callees scope root (For l.binder l.lo l.hi l.body) ≡ true
      → LoopKeeps scope root l
  loop_rules scope root l h =
      let p = and_parts (is_new scope l.binder) _ h in
      let q =
      and_parts (is_control fields plainly scope l.lo && is_control fields plainly scope l.hi) _ p.1
      in
      let bounds =
      and_parts (is_control fields plainly scope l.lo) (is_control fields plainly scope l.hi) q.0 in
      record {
        new = p.0;
        lo = bounds.0;
        hi = bounds.1;
        body = (and_parts (not (is_empty l.body) && is_short l.body) _ q.1).1;
      }

-- ---- variables

-- what keeps the rules has no variable that is not in scope
module _ (fields : ℕ → Option Kind) (scope : Scope) (x : ℕ) (none : sort_in scope x ≡ None) where
  abbrev Is : Control → Type 0
  Is e = is_control fields plainly scope e ≡ true

  both_lack : (a b : Control) → (Is a → has_variable a x ≡ false)
      → (Is b → has_variable b x ≡ false)
      → (is_control fields plainly scope a && is_control fields plainly scope b) ≡ true
      → (has_variable a x || has_variable b x) ≡ false
  both_lack a b f g h =
      let p = and_parts (is_control fields plainly scope a) (is_control fields plainly scope b) h in
      ap₂ ◌||◌ (f p.0) (g p.1)

  other : (y : ℕ) → is_number (sort_in scope y) ≡ true → (t : Bool) → (t ≡ true → x ≡ y)
      → t ≡ false
  other y h false same = refl
  other y h true same =
      absurd (true≢false (sym h
      ∙ ap (λ z. is_number (sort_in scope z)) (sym (same refl)) ∙ ap is_number none))

  pub lacks_variable : (e : Control) → Is e → has_variable e x ≡ false
  lacks_variable (Lit n) h = refl
  lacks_variable (Var y) h = other y h (x == y) (eqb-true x y)
  lacks_variable (Field f) h = refl
  lacks_variable (StrideOf y k) h = refl
  lacks_variable (Neg a) h = lacks_variable a h
  lacks_variable (Add a b) h = both_lack a b (lacks_variable a) (lacks_variable b) h
  lacks_variable (Sub a b) h = both_lack a b (lacks_variable a) (lacks_variable b) h
  lacks_variable (Mul a b) h =
      both_lack a b (lacks_variable a) (lacks_variable b)
      (and_parts (is_control fields plainly scope a && is_control fields plainly scope b)
      (is_of_literals a || is_of_literals b) h).0
  lacks_variable (Div a c) h =
      lacks_variable a (and_parts (is_control fields plainly scope a) _ h).0
  lacks_variable (Mod a c) h =
      lacks_variable a (and_parts (is_control fields plainly scope a) _ h).0
