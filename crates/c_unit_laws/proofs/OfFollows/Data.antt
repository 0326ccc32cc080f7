-- 32-bit arithmetic of the C against the source's.
use Rattle.std.proofs.Math.Nat.{mod-eq_of_lt}
use Rattle.std.proofs.Common.{◌≡◌, ◌<◌, ◌-◌, ◌%◌, ℤ, pos, negsuc, neg_ℤ, ◌+ℤ◌, ◌-ℤ◌, ◌*ℤ◌, Bool, true, false, cond, refl, sym, ap, ap₂, ◌∙◌, subst, arith, unsigned_abs, int_lt, mod-lt}
use Rattle.std.specs.Int.{w32, int_wrap, cast_signed}
use Rattle.std.proofs.lemmas.Int.{ints, int_wrap-add_right, int_wrap-add_left, int_wrap-sub_right, int_wrap-mul_right, int_wrap-mul_left, int_wrap_fits, SFits-int_wrap}
use Rattle.exo_tree.specs.Tree.{Cell, I32}
use Rattle.exo_meaning.specs.Value.{Value, Undefined, Number, wrap, stored_as, on_one, on_two, on_four, relu, selected}
use Rattle.exo_meaning.proofs.Wrap.{wrap_laws}
use Rattle.c_unit_laws.specs.Follows.Machine.Machine.{unsigned, with_one, with_two, with_four}
use Rattle.c_unit_laws.specs.Follows.Machine.Machine.{as_unsigned, relu32, select32}
use Rattle.c_unit_laws.specs.Follows.Simulation.{IsHeld, IsRead}

again : (z : ℤ) → unsigned (unsigned z) ≡ unsigned z
again (pos a) = ap pos (let p : 0 < 4294967296 = omega arith in mod-eq_of_lt (mod-lt a p))
again (negsuc a) = ap pos (let p : 4294967295 - a % 4294967296 < 4294967296 = omega arith in mod-eq_of_lt p)

-- nothing is lost of 32 bits
pub unsigned_kept : (z : ℤ) → wrap I32 (unsigned z) ≡ wrap I32 z
unfolding int_wrap
unsigned_kept z = ap (λ x. cast_signed w32 (unsigned_abs x)) (again z)

-- ---- operations

sum_kept : (c d : ℤ) → wrap I32 (unsigned (c +ℤ d)) ≡ wrap I32 (wrap I32 c +ℤ wrap I32 d)
sum_kept c d = unsigned_kept (c +ℤ d) ∙ sym (int_wrap-add_left w32 c d) ∙ sym (int_wrap-add_right w32 (wrap I32 c) d)

product_kept : (c d : ℤ) → wrap I32 (unsigned (c *ℤ d)) ≡ wrap I32 (wrap I32 c *ℤ wrap I32 d)
product_kept c d = unsigned_kept (c *ℤ d) ∙ sym (int_wrap-mul_left w32 c d) ∙ sym (int_wrap-mul_right w32 (wrap I32 c) d)

difference_kept : (c d : ℤ) → wrap I32 (unsigned (c -ℤ d)) ≡ wrap I32 (wrap I32 c -ℤ wrap I32 d)
difference_kept c d =
    let e = int_wrap-add_left w32 c (neg_ℤ d) in
    unsigned_kept (c -ℤ d) ∙ ap (wrap I32) (omega (arith, ints)) ∙ sym e ∙ ap (wrap I32) (omega (arith, ints)) ∙ sym (int_wrap-sub_right w32 (wrap I32 c) d)

relu_kept : (c : ℤ) → wrap I32 (unsigned (relu32 c)) ≡ wrap I32 (relu (wrap I32 c))
relu_kept c = unsigned_kept (relu32 c) ∙ go (int_lt (pos 0) (wrap I32 c))
  where
    go : (t : Bool) → wrap I32 (cond t c (pos 0)) ≡ wrap I32 (cond t (wrap I32 c) (pos 0))
    go true = sym (int_wrap_fits w32 (wrap I32 c) (SFits-int_wrap w32 c))
    go false = refl

select_kept : (x v y z : ℤ) → wrap I32 (unsigned (select32 x v y z)) ≡ wrap I32 (selected (wrap I32 x) (wrap I32 v) (wrap I32 y) (wrap I32 z))
select_kept x v y z = unsigned_kept (select32 x v y z) ∙ go (int_lt (wrap I32 x) (wrap I32 v))
  where
    go : (t : Bool) → wrap I32 (cond t y z) ≡ wrap I32 (cond t (wrap I32 y) (wrap I32 z))
    go true = sym (int_wrap_fits w32 (wrap I32 y) (SFits-int_wrap w32 y))
    go false = sym (int_wrap_fits w32 (wrap I32 z) (SFits-int_wrap w32 z))

-- an operation of the source and one of the C that does the same to signed numbers
one_read : (f g : ℤ → ℤ) → ((c : ℤ) → wrap I32 (unsigned (g c)) ≡ wrap I32 (f (wrap I32 c))) → (u v : Value) → IsRead u v → IsRead (on_one f u) (with_one g v)
one_read f g k Undefined v h = tt
one_read f g k (Number m) Undefined h = h
one_read f g k (Number m) (Number c) h = k c ∙ ap (λ x. wrap I32 (f x)) h

two_read : (f g : ℤ → ℤ → ℤ) → ((c d : ℤ) → wrap I32 (unsigned (g c d)) ≡ wrap I32 (f (wrap I32 c) (wrap I32 d))) → (u v : Value) → IsRead u v → (w x : Value) → IsRead w x → IsRead (on_two f u w) (with_two g v x)
two_read f g k Undefined v h w x i = tt
two_read f g k (Number m) Undefined h w x i = absurd h
two_read f g k (Number m) (Number c) h Undefined x i = tt
two_read f g k (Number m) (Number c) h (Number n) Undefined i = i
two_read f g k (Number m) (Number c) h (Number n) (Number d) i = k c d ∙ ap₂ (λ x y. wrap I32 (f x y)) h i

pub sum_read : (u v : Value) → IsRead u v → (w x : Value) → IsRead w x → IsRead (on_two ◌+ℤ◌ u w) (with_two ◌+ℤ◌ v x)
sum_read = two_read ◌+ℤ◌ ◌+ℤ◌ sum_kept

pub difference_read : (u v : Value) → IsRead u v → (w x : Value) → IsRead w x → IsRead (on_two ◌-ℤ◌ u w) (with_two ◌-ℤ◌ v x)
difference_read = two_read ◌-ℤ◌ ◌-ℤ◌ difference_kept

pub product_read : (u v : Value) → IsRead u v → (w x : Value) → IsRead w x → IsRead (on_two ◌*ℤ◌ u w) (with_two ◌*ℤ◌ v x)
product_read = two_read ◌*ℤ◌ ◌*ℤ◌ product_kept

pub negation_read : (u v : Value) → IsRead u v → IsRead (on_one (λ m. pos 0 -ℤ m) u) (with_one (λ m. pos 0 -ℤ m) v)
negation_read = one_read (λ m. pos 0 -ℤ m) (λ m. pos 0 -ℤ m) (λ c. unsigned_kept (pos 0 -ℤ c) ∙ sym (int_wrap-sub_right w32 (pos 0) c))

pub relu_read : (u v : Value) → IsRead u v → IsRead (on_one relu u) (with_one relu32 v)
relu_read = one_read relu relu32 relu_kept

pub select_read : (a b c d a' b' c' d' : Value) → IsRead a a' → IsRead b b' → IsRead c c' → IsRead d d' → IsRead (on_four selected a b c d) (with_four select32 a' b' c' d')
select_read Undefined b c d a' b' c' d' h i j k = tt
select_read (Number x) b c d Undefined b' c' d' h i j k = absurd h
select_read (Number x) Undefined c d (Number x') b' c' d' h i j k = tt
select_read (Number x) (Number v) c d (Number x') Undefined c' d' h i j k = absurd i
select_read (Number x) (Number v) Undefined d (Number x') (Number v') c' d' h i j k = tt
select_read (Number x) (Number v) (Number y) d (Number x') (Number v') Undefined d' h i j k = absurd j
select_read (Number x) (Number v) (Number y) Undefined (Number x') (Number v') (Number y') d' h i j k = tt
select_read (Number x) (Number v) (Number y) (Number z) (Number x') (Number v') (Number y') Undefined h i j k = k
select_read (Number x) (Number v) (Number y) (Number z) (Number x') (Number v') (Number y') (Number z') h i j k =
    select_kept x' v' y' z' ∙ ap₂ (λ p q. wrap I32 (selected p q (wrap I32 y') (wrap I32 z'))) h i ∙ ap₂ (λ p q. wrap I32 (selected x v p q)) j k

-- ---- literals, reads and stores

pub literal_read : (n : ℤ) → wrap I32 n ≡ n → IsRead (Number n) (Number (unsigned n))
literal_read n h = unsigned_kept n ∙ h

pub cell_read : (u v : Value) → IsHeld u v → IsRead u (as_unsigned v)
cell_read Undefined v h = tt
cell_read (Number n) v h = subst (λ x. IsRead (Number n) (as_unsigned x)) (sym h.0) (unsigned_kept n ∙ h.1)

pub stored_held : (cell : Cell) (u v : Value) → IsRead u v → IsHeld (stored_as cell u) (stored_as cell (stored_as cell v))
stored_held cell Undefined v h = tt
stored_held cell (Number n) Undefined h = absurd h
stored_held cell (Number n) (Number c) h =
    (ap Number (wrap_laws.twice cell c ∙ sym (wrap_laws.wrapped cell c) ∙ ap (wrap cell) h), wrap_laws.narrow cell n)
