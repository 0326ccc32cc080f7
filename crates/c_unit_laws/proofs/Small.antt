-- The control parameters of a valid input are within their bounds.
use Rattle.std.proofs.Common.{◌≡◌, ◌≤◌, ◌==◌, ℕ, suc, ℤ, pos, negsuc, max, Bool, true, false, ◌||◌, cond, List, [], ◌∷◌, refl, sym, ap, subst, arith, unsigned_abs, eq-eqb}
use Rattle.std.proofs.lemmas.Int.{ints}
use Rattle.exo_tree.specs.Tree.{Kind, Size, Index, Truth, Stride, Param, ParamKind, ControlParam, TensorParam, WindowParam}
use Rattle.exo_meaning.specs.State.{State}
use Rattle.exo_meaning.specs.Inputs.{is_buffer_of, IsBounded, HasBounds, AreBounded}
use Rattle.inplace_laws.specs.CallInPlace.{AreDistinct}
use Rattle.c_widths.specs.Widths.{most_of_kind, most_of_param}
use Rattle.c_widths.specs.Raises.{most_from}
use Rattle.c_unit_laws.specs.Follows.Functions.{IsSmall, AreSmall}
use Rattle.c_unit_laws.proofs.Given.{later_bound}

-- as in c_widths/proofs/Starts
kind_small : (kind : Kind) (z : ℤ) → IsBounded kind z → unsigned_abs z ≤ most_of_kind kind
kind_small Size (pos n) b = omega (arith, ints, b.1)
kind_small Size (negsuc n) b = absurd (omega (arith, ints, b.0))
kind_small Index (pos n) b = omega (arith, ints, b.1)
kind_small Index (negsuc n) b = omega (arith, ints, b.0)
kind_small Truth (pos n) b = omega (arith, ints, b.1)
kind_small Truth (negsuc n) b = absurd (omega (arith, ints, b.0))
kind_small Stride (pos n) b = omega (arith, ints, b.1)
kind_small Stride (negsuc n) b = absurd (omega (arith, ints, b.0))

below : (l m n : ℕ) → l ≤ m → m ≤ n → l ≤ n
below l m n e f = omega (arith, e, f)

module _ (s : State) where
  one_wider : (b c : ℕ → ℕ) (x : ℕ) (kind : ParamKind) → b x ≤ c x → IsSmall s b x kind → IsSmall s c x kind
  one_wider b c x (ControlParam kind) h k = below (unsigned_abs (s.scene.control x)) (b x) (c x) k h
  one_wider b c x (TensorParam cell dims memory) h k = tt
  one_wider b c x (WindowParam cell dims memory) h k = tt

  all_wider : (b c : ℕ → ℕ) (ps : List Param) → ((x : ℕ) → is_buffer_of x ps ≡ true → b x ≤ c x) → AreSmall s b ps → AreSmall s c ps
  all_wider b c [] h k = tt
  all_wider b c (p ∷ ps) h k = (
    one_wider b c p.binder.id p.kind (h p.binder.id (ap (λ t. t || is_buffer_of p.binder.id ps) (eq-eqb p.binder.id p.binder.id refl))) k.0,
    all_wider b c ps (λ x e. h x (late (x == p.binder.id) (is_buffer_of x ps) e)) k.1,
  )
    where
      late : (u v : Bool) → v ≡ true → (u || v) ≡ true
      late true v e = refl
      late false v e = e

  first_small : (p : Param) (ps : List Param) (given : ℕ → ℕ) → HasBounds s.scene p.binder.id p.kind → IsSmall s (most_from (p ∷ ps) given) p.binder.id p.kind
  first_small p ps given h = one_wider (λ x. most_of_param p.kind) (most_from (p ∷ ps) given) p.binder.id p.kind
      (subst (λ t. most_of_param p.kind ≤ cond t (max (most_of_param p.kind) (given 0)) (most_from ps (λ i. given (suc i)) p.binder.id)) (sym (eq-eqb p.binder.id p.binder.id refl)) (greater (most_of_param p.kind) (given 0)))
      (go p.kind h)
    where
      greater : (m n : ℕ) → m ≤ max m n
      greater m n = omega arith

      go : (kind : ParamKind) → HasBounds s.scene p.binder.id kind → IsSmall s (λ x. most_of_param kind) p.binder.id kind
      go (ControlParam kind) b = kind_small kind (s.scene.control p.binder.id) b
      go (TensorParam cell dims memory) b = tt
      go (WindowParam cell dims memory) b = tt

  pub small_params : (ps : List Param) (given : ℕ → ℕ) → AreDistinct ps → AreBounded s.scene ps → AreSmall s (most_from ps given) ps
  small_params [] given d h = tt
  small_params (p ∷ ps) given d h = (
    first_small p ps given h.0,
    all_wider (most_from ps (λ i. given (suc i))) (most_from (p ∷ ps) given) ps (later_bound p ps given d.0) (small_params ps (λ i. given (suc i)) d.1 h.1),
  )
