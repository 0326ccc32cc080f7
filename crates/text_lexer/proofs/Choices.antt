-- Which branch gives a value.
use Rattle.std.proofs.Common.{◌≡◌, Bool, true, false, cond, refl}

-- the first branch
pub this : {A : Type 0} {test : Bool} {one : A} (other : A) → true ≡ test →
    one ≡ cond test one other
this {test = true} other is = refl
this {test = false} other is = cc (is)

-- not the first one
pub skip : {A : Type 0} {test : Bool} (one : A) {other value : A} → false ≡ test →
    value ≡ other → value ≡ cond test one other
skip {test = true} one is gives = cc (is)
skip {test = false} one is gives = gives
