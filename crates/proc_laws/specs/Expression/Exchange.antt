-- The sides of one sum or product of an expression, exchanged.
use Rattle.std.specs.Prelude.{◌+◌, ◌-◌, ℕ, zero, suc, nat_lt, Bool, true, false, if◌then◌else◌}
use Rattle.exo_tree.specs.Tree.{Datum, Const, Read, Negated, Relu, Plus, Minus, Times, Select}

pub data Operation : Type 0 where
  Sum Product : Operation

abbrev pub is_sum : Operation → Bool
is_sum Sum = true
is_sum Product = false

abbrev pub is_product : Operation → Bool
is_product Sum = false
is_product Product = true

-- ---- how many there are

abbrev pub matches : Operation → Datum → ℕ
matches o (Const n) = 0
matches o (Read x is) = 0
matches o (Negated a) = matches o a
matches o (Relu a) = matches o a
matches o (Plus a b) = (if is_sum o then 1 else 0) + (matches o a + matches o b)
matches o (Minus a b) = matches o a + matches o b
matches o (Times a b) = (if is_product o then 1 else 0) + (matches o a + matches o b)
matches o (Select x v y z) = matches o x + (matches o v + (matches o y + matches o z))

-- ---- the one of a number, counted in preorder from 0

-- in the first of two parts where it has so many, else in the second, counted from there
abbrev pub in_either : ℕ → (ℕ → Datum) → (ℕ → Datum) → ℕ → Datum
in_either n first second k = if nat_lt k n then first k else second (k - n)

-- a match at the root comes first
abbrev pub at_root : Bool → Datum → (ℕ → Datum) → ℕ → Datum
at_root false here below k = below k
at_root true here below zero = here
at_root true here below (suc k) = below k

-- in one of two sides; n: the matches of the first
abbrev pub in_sides : (Datum → Datum → Datum) → ℕ → (ℕ → Datum) → (ℕ → Datum) → Datum → Datum
    → ℕ → Datum
in_sides make n in_a in_b a b = in_either n (λ k. make (in_a k) b) (λ k. make a (in_b k))

abbrev pub exchanged : Operation → Datum → ℕ → Datum
exchanged o (Const n) k = Const n
exchanged o (Read x is) k = Read x is
exchanged o (Negated a) k = Negated (exchanged o a k)
exchanged o (Relu a) k = Relu (exchanged o a k)
exchanged o (Plus a b) k =
    at_root (is_sum o) (Plus b a)
    (in_sides Plus (matches o a) (exchanged o a) (exchanged o b) a b) k
exchanged o (Minus a b) k =
    in_sides Minus (matches o a) (exchanged o a) (exchanged o b) a b k
exchanged o (Times a b) k =
    at_root (is_product o) (Times b a)
    (in_sides Times (matches o a) (exchanged o a) (exchanged o b) a b) k
exchanged o (Select x v y z) k =
    in_either (matches o x) (λ i. Select (exchanged o x i) v y z)
    (in_either (matches o v) (λ i. Select x (exchanged o v i) y z)
    (in_either (matches o y) (λ i. Select x v (exchanged o y i) z)
    (λ i. Select x v y (exchanged o z i)))) k
