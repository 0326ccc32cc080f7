-- An exchange keeps the value.
use Rattle.std.proofs.Common.{◌≡◌, ℕ, zero, suc, pos, ◌-◌, ◌+ℤ◌, ◌-ℤ◌, ◌*ℤ◌, Bool, true, false}
use Rattle.std.proofs.Common.{Option, Some, None, option_map, if◌then◌else◌, refl, ap, ◌∙◌, arith}
use Rattle.std.specs.Prelude.{nat_lt}
use Rattle.std.proofs.lemmas.Int.{ints}
use Rattle.std.proofs.Math.IntN.{*ℤ_comm}
use Rattle.exo_tree.specs.Tree.{I32, Datum, Const, Read, Negated, Relu, Plus, Minus, Times, Select}
use Rattle.exo_meaning.specs.Value.{Value, Undefined, Number, on_one, on_two, on_four, relu}
use Rattle.exo_meaning.specs.Value.{selected, wrap}
use Rattle.exo_meaning.specs.Scene.{then_do}
use Rattle.exo_meaning.specs.State.{State, value}
use Rattle.proc_laws.specs.Expression.Exchange.{Operation, is_sum, is_product, matches, in_either}
use Rattle.proc_laws.specs.Expression.Exchange.{at_root, in_sides, exchanged}

sum_swaps : (u v : Value) → on_two ◌+ℤ◌ u v ≡ on_two ◌+ℤ◌ v u
sum_swaps Undefined Undefined = refl
sum_swaps Undefined (Number n) = refl
sum_swaps (Number m) Undefined = refl
sum_swaps (Number m) (Number n) =
    let e : m +ℤ n ≡ n +ℤ m = omega (arith, ints) in ap (λ z. Number (wrap I32 z)) e

product_swaps : (u v : Value) → on_two ◌*ℤ◌ u v ≡ on_two ◌*ℤ◌ v u
product_swaps Undefined Undefined = refl
product_swaps Undefined (Number n) = refl
product_swaps (Number m) Undefined = refl
product_swaps (Number m) (Number n) = ap (λ z. Number (wrap I32 z)) (*ℤ_comm m n)

abbrev both : (Value → Value → Value) → Option Value → Option Value → Option Value
both f o r = then_do o (λ u. option_map (f u) r)

-- each side faults, or neither does
sides_swap : (f : Value → Value → Value) → ((u v : Value) → f u v ≡ f v u) → (o r : Option Value)
    → both f o r ≡ both f r o
sides_swap f swaps None None = refl
sides_swap f swaps None (Some v) = refl
sides_swap f swaps (Some u) None = refl
sides_swap f swaps (Some u) (Some v) = ap Some (swaps u v)

-- ---- parts that keep a value

module _ (s : State) (whole : Option Value) where
  either_kept : (n : ℕ) (first second : ℕ → Datum) → ((k : ℕ) → value s (first k) ≡ whole)
      → ((k : ℕ) → value s (second k) ≡ whole) → (k : ℕ)
      → value s (in_either n first second k) ≡ whole
  either_kept n first second f g k = by (nat_lt k n)
    where
      by : (t : Bool) → value s (if t then first k else second (k - n)) ≡ whole
      by true = f k
      by false = g (k - n)

  root_kept : (t : Bool) (here : Datum) (below : ℕ → Datum) → value s here ≡ whole
      → ((k : ℕ) → value s (below k) ≡ whole) → (k : ℕ)
      → value s (at_root t here below k) ≡ whole
  root_kept false here below h f k = f k
  root_kept true here below h f zero = h
  root_kept true here below h f (suc k) = f k

-- a sum, difference or product of two sides
sides_kept : (s : State) (make : Datum → Datum → Datum) (f : Value → Value → Value)
    → ((c d : Datum) → value s (make c d) ≡ both f (value s c) (value s d))
    → (n : ℕ) (in_a in_b : ℕ → Datum) (a b : Datum) → ((k : ℕ) → value s (in_a k) ≡ value s a)
    → ((k : ℕ) → value s (in_b k) ≡ value s b) → (k : ℕ)
    → value s (in_sides make n in_a in_b a b k) ≡ both f (value s a) (value s b)
sides_kept s make f is n in_a in_b a b p q =
    either_kept s (both f (value s a) (value s b)) n (λ k. make (in_a k) b) (λ k. make a (in_b k))
    (λ k. is (in_a k) b ∙ ap (λ o. both f o (value s b)) (p k))
    (λ k. is a (in_b k) ∙ ap (λ r. both f (value s a) r) (q k))

abbrev all_four : Option Value → Option Value → Option Value → Option Value → Option Value
all_four o p q r = then_do o (λ x. then_do p (λ v. then_do q (λ y. option_map (on_four selected x v y) r)))

-- an exchange keeps the value, in each state
pub values_kept : (o : Operation) (s : State) (e : Datum) (k : ℕ)
    → value s (exchanged o e k) ≡ value s e
values_kept o s (Const n) k = refl
values_kept o s (Read x is) k = refl
values_kept o s (Negated a) k = ap (option_map (on_one (λ m. pos 0 -ℤ m))) (values_kept o s a k)
values_kept o s (Relu a) k = ap (option_map (on_one relu)) (values_kept o s a k)
values_kept o s (Plus a b) k =
    root_kept s (value s (Plus a b)) (is_sum o) (Plus b a)
    (in_sides Plus (matches o a) (exchanged o a) (exchanged o b) a b)
    (sides_swap (on_two ◌+ℤ◌) sum_swaps (value s b) (value s a))
    (sides_kept s Plus (on_two ◌+ℤ◌) (λ c d. refl) (matches o a) (exchanged o a) (exchanged o b) a b
    (values_kept o s a) (values_kept o s b)) k
values_kept o s (Minus a b) k =
    sides_kept s Minus (on_two ◌-ℤ◌) (λ c d. refl) (matches o a) (exchanged o a) (exchanged o b) a b
    (values_kept o s a) (values_kept o s b) k
values_kept o s (Times a b) k =
    root_kept s (value s (Times a b)) (is_product o) (Times b a)
    (in_sides Times (matches o a) (exchanged o a) (exchanged o b) a b)
    (sides_swap (on_two ◌*ℤ◌) product_swaps (value s b) (value s a))
    (sides_kept s Times (on_two ◌*ℤ◌) (λ c d. refl) (matches o a) (exchanged o a) (exchanged o b) a b
    (values_kept o s a) (values_kept o s b)) k
values_kept o s (Select x v y z) k =
    let w = value s (Select x v y z) in
    let in_x : ℕ → Datum = λ i. Select (exchanged o x i) v y z in
    let in_v : ℕ → Datum = λ i. Select x (exchanged o v i) y z in
    let in_y : ℕ → Datum = λ i. Select x v (exchanged o y i) z in
    let in_z : ℕ → Datum = λ i. Select x v y (exchanged o z i) in
    either_kept s w (matches o x) in_x
    (in_either (matches o v) in_v (in_either (matches o y) in_y in_z))
    (λ i. ap (λ u. all_four u (value s v) (value s y) (value s z)) (values_kept o s x i))
    (either_kept s w (matches o v) in_v (in_either (matches o y) in_y in_z)
    (λ i. ap (λ u. all_four (value s x) u (value s y) (value s z)) (values_kept o s v i))
    (either_kept s w (matches o y) in_y in_z
    (λ i. ap (λ u. all_four (value s x) (value s v) u (value s z)) (values_kept o s y i))
    (λ i. ap (λ u. all_four (value s x) (value s v) (value s y) u) (values_kept o s z i)))) k
