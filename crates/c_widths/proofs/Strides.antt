-- The strides that a name sees.
use Rattle.std.proofs.Common.{◌≡◌, ◌≤◌, ◌^◌, ℕ, zero, suc, ℤ, pos, negsuc, List, [], ◌∷◌, get_or, Option, Some, None, refl, arith, unsigned_abs}
use Rattle.std.proofs.lemmas.Int.{ints}
use Rattle.exo_meaning.specs.Scene.{Scene, Shape, Side, Point, Range, Seen, strides_of, stride_at}
use Rattle.exo_meaning.specs.Orders.{Each}
use Rattle.exo_meaning.specs.Inputs.{IsBetween}

stride_within : (z : ℤ) → IsBetween (pos 0) (pos (2 ^ 48)) z → unsigned_abs z ≤ 2 ^ 48
stride_within (pos n) b = let u = b.1 in omega (arith, ints)
stride_within (negsuc n) b = let l = b.0 in absurd (omega (arith, ints))

all_within : (ts : List ℤ) → Each (IsBetween (pos 0) (pos (2 ^ 48))) ts → (sides : List Side) (k : ℕ) → unsigned_abs (get_or (strides_of sides ts) k (pos 0)) ≤ 2 ^ 48
all_within ts h [] zero = omega arith
all_within ts h [] (suc k) = omega arith
all_within [] h (side ∷ sides) zero = omega arith
all_within [] h (side ∷ sides) (suc k) = omega arith
all_within (t ∷ ts) h (Point p ∷ sides) k = all_within ts h.1 sides k
all_within (t ∷ ts) h (Range lo n ∷ sides) zero = stride_within t h.0
all_within (t ∷ ts) h (Range lo n ∷ sides) (suc k) = all_within ts h.1 sides k

module _ (scene : Scene) (bounds : (b : ℕ) (shape : Shape) → scene.buffers b ≡ Some shape → Each (IsBetween (pos 0) (pos (2 ^ 48))) shape.strides) where
  of_shape : (seen : Seen) (o : Option Shape) → scene.buffers seen.buffer ≡ o → (k : ℕ) → unsigned_abs (get_or (elim o [ None ↦ [] | Some shape ↦ strides_of seen.sides shape.strides ]) k (pos 0)) ≤ 2 ^ 48
  of_shape seen None e zero = omega arith
  of_shape seen None e (suc k) = omega arith
  of_shape seen (Some shape) e k = all_within shape.strides (bounds seen.buffer shape e) seen.sides k

  pub seen_stride : (o : Option Seen) (k : ℕ) → unsigned_abs (stride_at scene o k) ≤ 2 ^ 48
  seen_stride None k = omega arith
  seen_stride (Some seen) k = of_shape seen (scene.buffers seen.buffer) refl k
