-- Turns of loops by their numbers.
use Rattle.std.proofs.Common.{◌≡◌, ◌≤◌, ◌≤ℤ◌, ◌<ℤ◌, ℕ, zero, suc, ◌+◌, ◌*◌, ℤ, pos, negsuc, ◌+ℤ◌, ◌-ℤ◌}
use Rattle.std.proofs.Common.{◌*ℤ◌, true, false, if◌then◌else◌, List, [], ◌∷◌, ◌++◌, Option, Some}
use Rattle.std.proofs.Common.{IfSome, refl, sym, ap, ap₂, ◌∙◌, arith}
use Rattle.std.specs.Prelude.{int_le, int_lt}
use Rattle.std.specs.Ordering.{int_eq}
use Rattle.std.proofs.Math.Nat.{suc-mul}
use Rattle.std.proofs.Math.IntN.{suc_ℤ-*ℤ, *ℤ_comm, +ℤ_one, zero-*ℤ}
use Rattle.std.proofs.lemmas.Int.{ints}
use Rattle.exo_meaning.specs.Scene.{then_do}
use Rattle.exo_meaning.specs.State.{State}
use Rattle.exo_meaning.specs.Run.{turns, range, count}
use Rattle.exo_meaning.proofs.Compose.{then_cong}
use Rattle.exo_meaning.proofs.Frame.{if_then}
use Rattle.exo_meaning.proofs.Nested.{turns_append, then_cong_if}
use Rattle.loop_laws.specs.Turns.{Turn, between, CutTurns, group, GroupedTurns, MovedTurns, up_to}
use Rattle.loop_laws.specs.Turns.{GuardedTurns}

-- ---- numbers

pub less_zero : (z : ℤ) → z -ℤ pos 0 ≡ z
less_zero z = omega (arith, ints)

pub le_of : (a b : ℤ) → int_le a b ≡ true → a ≤ℤ b
le_of a b h = omega (arith, ints)

pub is_none : (z : ℤ) → int_eq z (pos 0) ≡ true → z ≡ pos 0
is_none z h = grind (arith, ints)

-- ---- lists of numbers

pub range_append : (lo : ℤ) (m n k : ℕ) → k ≡ m + n → range lo k ≡ range lo m ++ range (lo +ℤ pos m) n
range_append lo zero n k e =
    let same : lo ≡ lo +ℤ pos zero = omega (arith, ints) in
    let less : k ≡ n = omega arith in
    ap₂ range same less
range_append lo (suc m) n zero e = absurd (omega arith)
range_append lo (suc m) n (suc k) e =
    let less : k ≡ m + n = omega arith in
    let moved : (lo +ℤ pos 1) +ℤ pos m ≡ lo +ℤ pos (suc m) = omega (arith, ints) in
    ap (λ l. lo ∷ l)
    (range_append (lo +ℤ pos 1) m n k less
    ∙ ap (λ z. range (lo +ℤ pos 1) m ++ range z n) moved)

pub count_is : (z : ℤ) → pos 0 ≤ℤ z → pos (count z) ≡ z
count_is (pos n) h = refl
count_is (negsuc n) h = absurd (omega (arith, ints))

range_cut : (lo e hi : ℤ) → lo ≤ℤ e → e ≤ℤ hi → between lo hi ≡ between lo e ++ between e hi
range_cut lo e hi h k =
    let a = count_is (hi -ℤ lo) (let j : pos 0 ≤ℤ (hi -ℤ lo) = omega (arith, ints) in j) in
    let b = count_is (e -ℤ lo) (let j : pos 0 ≤ℤ (e -ℤ lo) = omega (arith, ints) in j) in
    let c = count_is (hi -ℤ e) (let j : pos 0 ≤ℤ (hi -ℤ e) = omega (arith, ints) in j) in
    let sum : count (hi -ℤ lo) ≡ count (e -ℤ lo) + count (hi -ℤ e) = omega (arith, ints) in
    let there : lo +ℤ pos (count (e -ℤ lo)) ≡ e = omega (arith, ints) in
    range_append lo (count (e -ℤ lo)) (count (hi -ℤ e)) (count (hi -ℤ lo)) sum
    ∙ ap (λ z. between lo e ++ range z (count (hi -ℤ e))) there

pub cut_turns : CutTurns
cut_turns go lo e hi s h k =
    ap (λ l. turns go l s) (range_cut lo e hi h k) ∙ turns_append go (between lo e) (between e hi) s

-- ---- turns that do the same

-- in states of a kind, which turns keep
pub turns_alike : {T : Type 0} (Good : State → Type 0) (f g : T → State → Option State)
    → ((x : T) (t : State) → Good t → f x t ≡ g x t)
    → ((x : T) (t : State) → Good t → IfSome (f x t) Good)
    → (xs : List T) (s : State) → Good s → turns f xs s ≡ turns g xs s
turns_alike Good f g same keep [] s h = refl
turns_alike Good f g same keep (x ∷ xs) s h =
    then_cong_if Good (f x s) (turns f xs) (turns g xs) (keep x s h)
    (λ t k. turns_alike Good f g same keep xs t k)
    ∙ ap (λ o. then_do o (turns g xs)) (same x s h)

pub turns_keep : {T : Type 0} (Good : State → Type 0) (f : T → State → Option State)
    → ((x : T) (t : State) → Good t → IfSome (f x t) Good)
    → (xs : List T) (s : State) → Good s → IfSome (turns f xs s) Good
turns_keep Good f keep [] s h = h
turns_keep Good f keep (x ∷ xs) s h =
    if_then Good Good (f x s) (turns f xs) (keep x s h) (λ t k. turns_keep Good f keep xs t k)

-- ---- moved, grouped

pub moved_turns : MovedTurns
moved_turns go d lo zero s = refl
moved_turns go d lo (suc n) s =
    let on : d +ℤ (lo +ℤ pos 1) ≡ (d +ℤ lo) +ℤ pos 1 = omega (arith, ints) in
    then_cong (go (d +ℤ lo) s) (turns (λ k. go (d +ℤ k)) (range (lo +ℤ pos 1) n))
    (turns go (range ((d +ℤ lo) +ℤ pos 1) n))
    (λ t. moved_turns go d (lo +ℤ pos 1) n t ∙ ap (λ z. turns go (range z n) t) on)

-- from group x on
grouped_from : (go : Turn) (c : ℕ) (x : ℤ) (q k : ℕ) → k ≡ q * c → (s : State)
    → turns (group go c) (range x q) s ≡ turns go (range (pos c *ℤ x) k) s
grouped_from go c x zero k h s =
    let none : k ≡ 0 = omega (arith, h) in
    sym (ap (λ z. turns go (range (pos c *ℤ x) z) s) none)
grouped_from go c x (suc q) k h s =
    let more : k ≡ c + q * c = h ∙ suc-mul q c ∙ swap (q * c) c in
    let start : (pos c *ℤ x) +ℤ pos 0 ≡ pos c *ℤ x = omega (arith, ints) in
    let next : pos c *ℤ (x +ℤ pos 1) ≡ (pos c *ℤ x) +ℤ pos c =
    *ℤ_comm (pos c) (x +ℤ pos 1) ∙ ap (λ z. z *ℤ pos c) (+ℤ_one x) ∙ suc_ℤ-*ℤ x (pos c)
    ∙ ap (λ z. z +ℤ pos c) (*ℤ_comm x (pos c)) in
    ap (λ o. then_do o (turns (group go c) (range (x +ℤ pos 1) q)))
    (moved_turns go (pos c *ℤ x) (pos 0) c s ∙ ap (λ z. turns go (range z c) s) start)
    ∙ then_cong (turns go (range (pos c *ℤ x) c) s) (turns (group go c) (range (x +ℤ pos 1) q))
    (turns go (range ((pos c *ℤ x) +ℤ pos c) (q * c)))
    (λ t. grouped_from go c (x +ℤ pos 1) q (q * c) refl t
    ∙ ap (λ z. turns go (range z (q * c)) t) next)
    ∙ sym (turns_append go (range (pos c *ℤ x) c) (range ((pos c *ℤ x) +ℤ pos c) (q * c)) s)
    ∙ ap (λ l. turns go l s) (sym (range_append (pos c *ℤ x) c (q * c) k more))
  where
    swap : (m n : ℕ) → m + n ≡ n + m
    swap m n = omega arith

pub grouped_turns : GroupedTurns
grouped_turns go c q s =
    let start : pos c *ℤ pos 0 ≡ pos 0 = *ℤ_comm (pos c) (pos 0) ∙ zero-*ℤ (pos c) in
    grouped_from go c (pos 0) q (q * c) refl s ∙ ap (λ z. turns go (range z (q * c)) s) start

-- ---- guarded

less : (k hi : ℤ) → k <ℤ hi → int_lt k hi ≡ true
less k hi h = grind (arith, ints)

not_less : (k hi : ℤ) → hi ≤ℤ k → int_lt k hi ≡ false
not_less k hi h = grind (arith, ints)

-- turns that are all behind hi
none_guarded : (go : Turn) (hi lo : ℤ) (n : ℕ) (s : State) → hi ≤ℤ lo
    → turns (up_to hi go) (range lo n) s ≡ Some s
none_guarded go hi lo zero s h = refl
none_guarded go hi lo (suc n) s h =
    let k : hi ≤ℤ (lo +ℤ pos 1) = omega (arith, ints) in
    ap (λ t. then_do (if t then go lo s else Some s) (turns (up_to hi go) (range (lo +ℤ pos 1) n)))
    (not_less lo hi h)
    ∙ none_guarded go hi (lo +ℤ pos 1) n s k

-- turns of which the first m are before hi
guarded_from : (go : Turn) (hi lo : ℤ) (m n : ℕ) (s : State) → m ≤ n → (lo +ℤ pos m) ≡ hi
    → turns (up_to hi go) (range lo n) s ≡ turns go (range lo m) s
guarded_from go hi lo zero n s h e =
    let k : hi ≤ℤ lo = omega (arith, ints) in
    none_guarded go hi lo n s k
guarded_from go hi lo (suc m) zero s h e = absurd (omega arith)
guarded_from go hi lo (suc m) (suc n) s h e =
    let before : lo <ℤ hi = omega (arith, ints) in
    let k : m ≤ n = omega arith in
    let on : ((lo +ℤ pos 1) +ℤ pos m) ≡ hi = omega (arith, ints) in
    ap (λ t. then_do (if t then go lo s else Some s) (turns (up_to hi go) (range (lo +ℤ pos 1) n)))
    (less lo hi before)
    ∙ then_cong (go lo s) (turns (up_to hi go) (range (lo +ℤ pos 1) n))
    (turns go (range (lo +ℤ pos 1) m)) (λ t. guarded_from go hi (lo +ℤ pos 1) m n t k on)

pub guarded_turns : GuardedTurns
guarded_turns go (pos m) n s h =
    let e : (pos 0 +ℤ pos m) ≡ pos m = omega (arith, ints) in
    guarded_from go (pos m) (pos 0) m n s h e
guarded_turns go (negsuc m) n s h =
    let k : negsuc m ≤ℤ pos 0 = omega (arith, ints) in
    none_guarded go (negsuc m) (pos 0) n s k
