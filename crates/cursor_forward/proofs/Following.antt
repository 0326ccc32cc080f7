-- Where shifts and edits take a path, by what the code has found.
use Rattle.std.proofs.Common.{◌≡◌, ℕ, suc, ◌+◌, ◌-◌, ◌<◌, ◌≤◌, Bool, true, false, List, [], ◌∷◌, length, drop, map, get_or, drop-cons, Option, Some, None, refl, ap, sym, ◌∙◌, arith}
use Rattle.std.specs.Prelude.{◌^◌, nat_le, nat_lt, if◌then◌else◌, option_map, option_and_then}
use Rattle.exo_tree.specs.Places.{Main, Step, Path}
use Rattle.cursor_forward.specs.Shifts.{Shift, Below, below, beyond, word, held, covered, follow, lifted, moved_below, Edits, move_of}
use Rattle.cursor_forward.specs.PlainShift.{plain_shift}
use Rattle.cursor_forward.specs.declared.shift.Shift as declared
use Rattle.cursor_forward.proofs.Parts.{not_held}
use Rattle.cursor_forward.proofs.Holes.{mapped_some}
use Rattle.cursor_forward.proofs.Lands.{none_some}
use Rattle.cursor_forward.proofs.Ranges.{below_one, below_more}

drop_read : {X : Type 0} (xs : List X) (k : ℕ) (x : X) → x ≡ get_or xs k x → k < length xs → drop k xs ≡ x ∷ drop (k + 1) xs
drop_read xs k x r h =
    let e : suc k ≡ k + 1 = omega arith in
    drop-cons xs k x h ∙ ap (λ y. y ∷ drop (suc k) xs) (sym r) ∙ ap (λ (n : ℕ). x ∷ drop n xs) e

-- by the next shift, or by those behind it
abbrev pub by_next : List Shift → Option Path → Path → Option Below → Option Path
by_next shifts to path o = elim o [ None ↦ follow shifts path | Some w ↦ option_and_then (λ q. beyond q w.offset w.rest) to ]

pub follow_next : (items : List declared.Shift) (k : ℕ) (item : declared.Shift) (path : Path) (o : Option Below) → k < length items → item ≡ get_or items k item → covered (plain_shift item) path ≡ o → follow (map plain_shift (drop k items)) path ≡ by_next (map plain_shift (drop (k + 1) items)) item.to path o
follow_next items k item path o h r e =
    ap (λ (l : List declared.Shift). follow (map plain_shift l) path) (drop_read items k item r h)
    ∙ ap (by_next (map plain_shift (drop (k + 1) items)) item.to path) e

pub follow_at : (items inside : List declared.Shift) (self : List Shift) (k : ℕ) (item : declared.Shift) (path : Path) (o : Option Below) → items ≡ inside → map plain_shift inside ≡ self → k < length items → item ≡ get_or items k item → follow (map plain_shift items) path ≡ follow (map plain_shift (drop k items)) path → covered (plain_shift item) path ≡ o → follow self path ≡ by_next (map plain_shift (drop (k + 1) items)) item.to path o
follow_at items inside self k item path o d v h r i e =
    ap (λ (l : List Shift). follow l path) (sym v)
    ∙ ap (λ (l : List declared.Shift). follow (map plain_shift l) path) (sym d)
    ∙ i
    ∙ follow_next items k item path o h r e

-- ---- lengths

length_word : (t : Step) (rest : Path) (o : Option ℕ) (q : Path) → option_map (λ n. record t { index = n } ∷ rest) o ≡ Some q → length rest < length q
length_word t rest None q e = absurd (none_some refl e)
length_word t rest (Some n) q e =
    let f : record t { index = n } ∷ rest ≡ q = cc in
    omega (arith, ap (λ (p : Path). length p) f)

longer_beyond : (to : Path) (k : ℕ) (rest q : Path) → beyond to k rest ≡ Some q → length rest < length q
longer_beyond [] k rest q e = absurd (none_some refl e)
longer_beyond (t ∷ []) k rest q e = length_word t rest (word (t.index + k)) q e
longer_beyond (t ∷ u ∷ to) k rest q e =
    let m = mapped_some (λ p. t ∷ p) (beyond (u ∷ to) k rest) q e in
    omega (arith, longer_beyond (u ∷ to) k rest m.0 m.1, ap (λ (p : Path). length p) m.2)

held_beyond : (o : Option Path) (n : ℕ) → ((q : Path) → o ≡ Some q → n ≤ length q) → 32 < n → option_and_then held o ≡ None
held_beyond None n h l = refl
held_beyond (Some q) n h l = not_held q (omega (arith, h q refl, l))

lifted_long : (place r : Path) → 32 < length r → option_and_then held (lifted place r) ≡ None
lifted_long place [] h = refl
lifted_long place (s ∷ r) h = held_beyond (beyond place s.index r) (length (s ∷ r)) (λ q e. omega (arith, longer_beyond place s.index r q e)) h

-- what the program cannot hold in the piece it cannot hold in the procedure
pub lifted_none : (place : Path) (o : Option Path) → option_and_then held o ≡ None → option_and_then held (option_and_then (lifted place) o) ≡ None
lifted_none place None h = refl
lifted_none place (Some r) h = by_test (nat_le (length r) 32) refl h
  where
    by_test : (b : Bool) → nat_le (length r) 32 ≡ b → (if b then Some r else None) ≡ None → option_and_then held (lifted place r) ≡ None
    by_test true e f = absurd (none_some f refl)
    by_test false e f =
        let l : 32 < length r = grind (arith, e) in
        lifted_long place r l

pub held_is : (path q : Path) → Some q ≡ held path → q ≡ path
held_is path q h = by_test (nat_le (length path) 32) h
  where
    by_test : (b : Bool) → Some q ≡ (if b then Some path else None) → q ≡ path
    by_test true e = cc
    by_test false e = absurd (none_some refl (sym e))

pub below_shorter : (from path : Path) (w : Below) → below from path ≡ Some w → length w.rest < length path
below_shorter [] path w h = absurd (none_some refl h)
below_shorter (f ∷ from) [] w h = absurd (none_some refl h)
below_shorter (f ∷ []) (s ∷ path) w h = omega (arith, ap (λ (p : Path). length p) (below_one f s path w h).1)
below_shorter (f ∷ g ∷ from) (s ∷ path) w h = omega (arith, below_shorter (g ∷ from) path w (below_more f g s from path w h).1)

-- ---- numbers that 32 bits do not hold

beyond_huge : (to : Path) (k : ℕ) (rest : Path) → 2 ^ 32 ≤ k → beyond to k rest ≡ None
beyond_huge [] k rest h = refl
beyond_huge (t ∷ []) k rest h =
    let e : nat_lt (t.index + k) (2 ^ 32) ≡ false = grind (arith, h) in
    ap (λ (b : Bool). option_map (λ n. record t { index = n } ∷ rest) (if b then Some (t.index + k) else None)) e
beyond_huge (t ∷ u ∷ to) k rest h = ap (option_map (λ q. t ∷ q)) (beyond_huge (u ∷ to) k rest h)

pub moved_far : (e : Edits) (path : Path) (w : Below) → below e.place path ≡ Some w → e.old ≤ w.offset → 2 ^ 32 ≤ w.offset - e.old + e.new → move_of e path ≡ None
moved_far e path w h l k =
    let lt : nat_lt w.offset e.old ≡ false = grind (arith, l) in
    ap (λ (o : Option Below). elim o as (λ (_ : Option Below). Option Path) [ None ↦ Some path | Some v ↦ moved_below e.place e.old e.new (follow e.shifts) v ]) h
    ∙ ap (λ (b : Bool). if b then option_and_then (lifted e.place) (follow e.shifts (record { branch = Main; index = w.offset } ∷ w.rest)) else beyond e.place (w.offset - e.old + e.new) w.rest) lt
    ∙ beyond_huge e.place (w.offset - e.old + e.new) w.rest k
