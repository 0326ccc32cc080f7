-- Two loops that are all of a block.
use Rattle.std.proofs.Common.{◌≡◌, ◌≢◌, Bool, true, false, List, [], ◌∷◌, length, drop}
use Rattle.std.proofs.Common.{Option, Some, None, refl, ap, ap₂, sym, ◌∙◌, arith}
use Rattle.std.specs.Prelude.{if◌then◌else◌, option_and_then}
use Rattle.exo_tree.specs.Tree.{Statement, Block, block}
use Rattle.cursor_forward.specs.Causes.{Cause, WrongShape}
use Rattle.step_rules.specs.Rule.{Tried, Got, Not}
use Rattle.step_rules.specs.Answer.{then_try, unless}
use Rattle.step_rules.specs.Shapes.{tried}
use Rattle.step_driver.specs.Needs.Outcomes.{RefusedBy, IsCause}
use Rattle.loop_laws.specs.Shapes.{loop_in}
use Rattle.loop_laws.specs.Bounds.{bounds_differ}
use Rattle.loop_laws.specs.Nest.Fuse.{Two, with_second, two_of, both_are_affine, in_variables}
use Rattle.loop_laws.specs.Nest.Fuse.{where_they_agree, fusing}

-- ---- two statements

pub two_there : (ss : List Statement) (a b : Statement) → length ss ≡ 2 → drop 0 ss ≡ a ∷ drop 1 ss
    → drop 1 ss ≡ b ∷ drop 2 ss → option_and_then (with_second b) (loop_in a) ≡ two_of (block ss)
two_there [] a b h k l = absurd (omega (arith, h))
two_there (c ∷ []) a b h k l = absurd (omega (arith, h))
two_there (c ∷ d ∷ []) a b h k l =
    let first : c ≡ a = cc in
    let second : d ≡ b = cc in
    ap₂ (λ x y. option_and_then (with_second y) (loop_in x)) (sym first) (sym second)
two_there (c ∷ d ∷ e ∷ ss) a b h k l = absurd (omega (arith, h))

pub no_two : (ss : List Statement) → length ss ≢ 2 → None ≡ two_of (block ss)
no_two [] h = refl
no_two (a ∷ []) h = refl
no_two (a ∷ b ∷ []) h = absurd (h refl)
no_two (a ∷ b ∷ c ∷ ss) h = refl

-- ---- bounds

module _ (p : Two) where
  abbrev upper : Tried Two
  upper = unless (bounds_differ p.first.hi p.second.hi) (Got p)

  pub lower_differ : (why : Option Cause) → IsCause (bounds_differ p.first.lo p.second.lo) why
      → RefusedBy (where_they_agree p) why
  lower_differ None h = tt
  lower_differ (Some cause) h = ap (λ (w : Option Cause). unless w upper) h

  pub upper_differ : (why : Option Cause) → bounds_differ p.first.lo p.second.lo ≡ None
      → IsCause (bounds_differ p.first.hi p.second.hi) why → RefusedBy (where_they_agree p) why
  upper_differ None h k = tt
  upper_differ (Some cause) h k =
      ap (λ (w : Option Cause). unless w upper) h
      ∙ ap (λ (w : Option Cause). unless w (Got p)) k

  pub both_agree : bounds_differ p.first.lo p.second.lo ≡ None
      → bounds_differ p.first.hi p.second.hi ≡ None
      → where_they_agree p ≡ Got p
  both_agree h k =
      ap (λ (w : Option Cause). unless w upper) h
      ∙ ap (λ (w : Option Cause). unless w (Got p)) k

-- ---- the shape

module _ (b : Block) where
  abbrev from : Option Two → Tried Two
  from x = then_try (tried (option_and_then in_variables x) (λ p. p)) where_they_agree

  abbrev tested : Two → Bool → Tried Two
  tested p t = then_try (tried (if t then Some p else None) (λ q. q)) where_they_agree

  pub no_loops : None ≡ two_of b → fusing b ≡ Not WrongShape
  no_loops h = ap from (sym h)

  pub not_affine_two : (p : Two) → Some p ≡ two_of b → both_are_affine p ≡ false
      → fusing b ≡ Not WrongShape
  not_affine_two p h k = ap from (sym h) ∙ ap (tested p) k

  pub fusing_of : (p : Two) → Some p ≡ two_of b → both_are_affine p ≡ true
      → fusing b ≡ where_they_agree p
  fusing_of p h k = ap from (sym h) ∙ ap (tested p) k
