-- From the needs of the rule to what holds where a run comes to the block.
use Rattle.std.proofs.Common.{◌≡◌, ℕ, suc, ℤ, pos, int_le, int_lt, ◌+ℤ◌, ◌-ℤ◌, Bool, true, false}
use Rattle.std.proofs.Common.{true≢false, ◌&&◌, List, [], ◌∷◌, length, Option, Some, None, IsSome}
use Rattle.std.proofs.Common.{option_map, refl, sym, ap₂, subst, arith}
use Rattle.std.specs.Prelude.{◌++◌, map}
use Rattle.std.proofs.lemmas.Int.{ints}
use Rattle.exo_tree.specs.Tree.{Control, Condition, Coord, At, Span}
use Rattle.exo_tree.specs.Places.{Path, Opened, opened}
use Rattle.exo_meaning.specs.Scene.{Scene, Seen, Side, Point, Range, number, numbers, extents, narrowed}
use Rattle.exo_meaning.specs.Scene.{window, is_below, where_true, then_do, holds}
use Rattle.exo_meaning.specs.Calls.{all_positive}
use Rattle.exo_meaning.specs.State.{State}
use Rattle.exo_meaning.specs.Inputs.{IsAdmissible}
use Rattle.exo_meaning.specs.Orders.{Each}
use Rattle.exo_meaning.specs.Run.{program_world}
use Rattle.meaning_laws.specs.Context.{ComesTo}
use Rattle.meaning_laws.specs.Facts.{Holds}
use Rattle.meaning_laws.proofs.Substitute.{and_parts}
use Rattle.buffer_laws.specs.Staging.Stores.{spans}
use Rattle.buffer_laws.specs.StageMem.{Asked}
use Rattle.buffer_laws.specs.Stride.OnView.{AllHold}
use Rattle.alloc_laws.specs.Goes.Asked.{IsMetAt}
use Rattle.alloc_laws.specs.Goes.Sizes.{HasSizes}
use Rattle.check_laws.specs.Facts.Laws.{ComesToPlace}
use Rattle.step_rules.specs.Rule.{Target, Need, Says}
use Rattle.step_rules.specs.Lawful.{IsMet}
use Rattle.alloc_laws.specs.Stage.Staging.{asked_of_window}

-- ---- lists

pub first_met : (t : Target) (ms ns : List Need) → Each (IsMet t) (ms ++ ns) → Each (IsMet t) ms
first_met t [] ns h = tt
first_met t (m ∷ ms) ns h = (h.0, first_met t ms ns h.1)

pub second_met : (t : Target) (ms ns : List Need) → Each (IsMet t) (ms ++ ns) → Each (IsMet t) ns
second_met t [] ns h = h
second_met t (m ∷ ms) ns h = second_met t ms ns h.1

-- ---- accesses

pub met_at : (t : Target) (qs : List Asked)
    → Each (IsMet t) (map (λ (q : Asked). Says q.path (Holds q.condition)) qs)
    → Each (IsMetAt (program_world t.unit) t.proc) qs
met_at t [] h = tt
met_at t (q ∷ qs) h = (
  λ o s u e good come.
      h.0 s u good (subst (λ z. ComesToPlace (program_world t.unit) z s u) (sym e) come),
  met_at t qs h.1,
)

-- ---- the window

-- all that is said of one place holds where a run comes to it
pub hold_there : (t : Target) (path : Path) (o : Opened) (cs : List Condition) (s u : State)
    → opened 1 path t.proc.body ≡ Some o
    → Each (IsMet t) (map (λ c. Says path (Holds c)) cs)
    → IsAdmissible (program_world t.unit) t.proc s
    → ComesTo (program_world t.unit) o.piece o.around s u
    → AllHold u.scene cs
hold_there t path o [] s u e h good come = tt
hold_there t path o (c ∷ cs) s u e h good come = (
  h.0 s u good (subst (λ z. ComesToPlace (program_world t.unit) z s u) (sym e) come),
  hold_there t path o cs s u e h.1 good come,
)

no_items : {A : Type 0} {n : ℤ} {ns : List ℤ} → [] ≡ n ∷ ns → A
no_items k = cc

no_items_left : {A : Type 0} {n : ℤ} {ns : List ℤ} → n ∷ ns ≡ [] → A
no_items_left k = cc

too_long : {A : Type 0} (n : ℕ) → suc n ≡ 0 → A
too_long n h = cc

too_short : {A : Type 0} (n : ℕ) → 0 ≡ suc n → A
too_short n h = cc

shorter : (m n : ℕ) → suc m ≡ suc n → m ≡ n
shorter m n h = omega (arith, h)

first_item : (m n : ℤ) (ms ns : List ℤ) → m ∷ ms ≡ n ∷ ns → m ≡ n
first_item m n ms ns h = cc

later_items : (m n : ℤ) (ms ns : List ℤ) → m ∷ ms ≡ n ∷ ns → ms ≡ ns
later_items m n ms ns h = cc

both : (a b : Bool) → a ≡ true → b ≡ true → (a && b) ≡ true
both a b h k = ap₂ ◌&&◌ h k

all_three : (a b c : Bool) → a ≡ true → b ≡ true → c ≡ true → (a && b && c) ≡ true
all_three true true true h k l = refl
all_three false b c h k l = absurd (true≢false (sym h))
all_three true false c h k l = absurd (true≢false (sym k))
all_three true true false h k l = absurd (true≢false (sym l))

within : (i j d n : ℤ) → int_le (pos 0) i ≡ true → int_le j d ≡ true → int_le (pos 1) (j -ℤ i) ≡ true
    → d ≡ n
    → (int_le (pos 0) i && int_lt i j && int_le j n) ≡ true
within i j d n h k l e =
    all_three (int_le (pos 0) i) (int_lt i j) (int_le j n) h (less i j l)
    (subst (λ m. int_le j m ≡ true) e k)
  where
    less : (i j : ℤ) → int_le (pos 1) (j -ℤ i) ≡ true → int_lt i j ≡ true
    less i j l = grind (arith, ints)

some_mapped : {A B : Type 0} (f : A → B) (o : Option A) → IsSome o → IsSome (option_map f o)
some_mapped f None h = absurd (true≢false (sym h))
some_mapped f (Some x) h = refl

module _ (scene : Scene) where
  narrowed_there : (sides : List Side) (cs : List Coord) (dims : List Control)
      → numbers scene dims ≡ extents sides
      → length cs ≡ length dims
      → AllHold scene (asked_of_window cs dims)
      → all_positive (numbers scene (spans cs)) ≡ true
      → IsSome (narrowed scene sides cs)
  narrowed_there [] [] dims sizes long all full = refl
  narrowed_there [] (c ∷ cs) [] sizes long all full = too_long (length cs) long
  narrowed_there [] (c ∷ cs) (d ∷ dims) sizes long all full = no_items_left sizes
  narrowed_there (Point p ∷ sides) cs dims sizes long all full =
      some_mapped (λ rest. Point p ∷ rest) (narrowed scene sides cs)
      (narrowed_there sides cs dims sizes long all full)
  narrowed_there (Range lo n ∷ sides) [] [] sizes long all full = no_items sizes
  narrowed_there (Range lo n ∷ sides) [] (d ∷ dims) sizes long all full =
      too_short (length dims) long
  narrowed_there (Range lo n ∷ sides) (c ∷ cs) [] sizes long all full = no_items sizes
  narrowed_there (Range lo n ∷ sides) (At a ∷ cs) (d ∷ dims) sizes long all full =
      let i = number scene a in
      let e = first_item (number scene d) n (numbers scene dims) (extents sides) sizes in
      let inside : is_below i n ≡ true =
      both (int_le (pos 0) i) (int_lt i n) all.0 (subst (λ m. int_lt i m ≡ true) e all.1.0) in
      subst (λ t. IsSome (where_true t (option_map (λ rest. Point (lo +ℤ i) ∷ rest) (narrowed scene sides cs))))
      (sym inside)
      (some_mapped (λ rest. Point (lo +ℤ i) ∷ rest) (narrowed scene sides cs)
      (narrowed_there sides cs dims
      (later_items (number scene d) n (numbers scene dims) (extents sides) sizes)
      (shorter (length cs) (length dims) long) all.1.1 full))
  narrowed_there (Range lo n ∷ sides) (Span a b ∷ cs) (d ∷ dims) sizes long all full =
      let i = number scene a in
      let j = number scene b in
      let e = first_item (number scene d) n (numbers scene dims) (extents sides) sizes in
      let f = and_parts (int_le (pos 1) (j -ℤ i)) (all_positive (numbers scene (spans cs))) full in
      let inside = within i j (number scene d) n all.0 all.1.0 f.0 e in
      subst (λ t. IsSome (where_true t (option_map (λ rest. Range (lo +ℤ i) (j -ℤ i) ∷ rest) (narrowed scene sides cs))))
      (sym inside)
      (some_mapped (λ rest. Range (lo +ℤ i) (j -ℤ i) ∷ rest) (narrowed scene sides cs)
      (narrowed_there sides cs dims
      (later_items (number scene d) n (numbers scene dims) (extents sides) sizes)
      (shorter (length cs) (length dims) long) all.1.1 f.1))

abbrev with_sides : Seen → List Side → Seen
with_sides z sides = record { buffer = z.buffer; sides = sides }

abbrev part : Scene → List Coord → Option Seen → Option Seen
part scene cs o = then_do o (λ z. option_map (with_sides z) (narrowed scene z.sides cs))

-- a window that lies within its name's dimensions, with no empty span, is there
pub window_there : (x : ℕ) (dims : List Control) (cs : List Coord) (scene : Scene)
    → HasSizes x dims (length cs) scene
    → AllHold scene (asked_of_window cs dims)
    → all_positive (numbers scene (spans cs)) ≡ true
    → IsSome (window scene x cs)
window_there x dims cs scene has all full =
    subst (λ (o : Option Seen). IsSome {T = Seen} (part scene cs o)) (sym has.there)
    (some_mapped (with_sides has.seen) (narrowed scene has.seen.sides cs)
    (narrowed_there scene has.seen.sides cs dims has.sizes (sym has.long) all full))
