-- The test on two windows of one call finds exactly those that have no common cell.
use Rattle.std.proofs.Common.{◌≡◌, ◌≤ℤ◌, ◌<ℤ◌, ℤ, ◌+ℤ◌, ◌-ℤ◌, ◌==◌, int_lt, ◌&&◌, not, Bool, true, false, List, [], ◌∷◌, Some, None, option_map, refl, sym, ap, ◌∙◌, subst, true≢false, eqb-true, eq-eqb, arith}
use Rattle.std.proofs.lemmas.Int.{ints}
use Rattle.std.proofs.lemmas.Bool.{and_parts, and_from}
use Rattle.exo_meaning.specs.Scene.{Side, Point, Range, Seen, is_below, where_true, cell_at, begins, ends, sides_meet, all_meet, are_apart, AreApart}
use Rattle.exo_meaning.proofs.Windows.{where_parts, map_parts}
use Rattle.exo_meaning.specs.Laws.{WindowsAreTested}

none_some : {A : Type 0} {a : A} → None ≡ Some a → ⊥
none_some e = cc

some_injective : {A : Type 0} (x y : A) → Some x ≡ Some y → x ≡ y
some_injective x y e = cc

-- a cell of the sides, by its first index and the others
record Split (s : Side) (ss : List Side) (at : List ℤ) : Type 0 where
  first : ℤ
  rest : List ℤ
  is : List ℤ
  whole : at ≡ (first ∷ rest)
  low : begins s ≤ℤ first
  high : first <ℤ ends s
  others : cell_at ss is ≡ Some rest

split : (s : Side) (ss : List Side) (is at : List ℤ) → cell_at (s ∷ ss) is ≡ Some at → Split s ss at
split (Point p) ss is at e =
    let m = map_parts (λ l. p ∷ l) (cell_at ss is) at e in
    record { first = p; rest = m.0; is = is; whole = sym m.2; low = omega (arith, ints); high = omega (arith, ints); others = m.1 }
split (Range lo n) ss [] at e = absurd (none_some e)
split (Range lo n) ss (i ∷ is) at e =
    let w = where_parts (is_below i n) (option_map (λ l. (lo +ℤ i) ∷ l) (cell_at ss is)) at e in
    let m = map_parts (λ l. (lo +ℤ i) ∷ l) (cell_at ss is) at w.1 in
    record { first = lo +ℤ i; rest = m.0; is = is; whole = sym m.2; low = least (w.0); high = most (w.0); others = m.1 }
  where
    least : is_below i n ≡ true → lo ≤ℤ (lo +ℤ i)
    least h = grind (arith, ints)

    most : is_below i n ≡ true → (lo +ℤ i) <ℤ (lo +ℤ n)
    most h = grind (arith, ints)

first_is : {A : Type 0} {x y : A} {l m : List A} → (x ∷ l) ≡ (y ∷ m) → x ≡ y
first_is e = cc

rest_is : {A : Type 0} {x y : A} {l m : List A} → (x ∷ l) ≡ (y ∷ m) → l ≡ m
rest_is e = cc

one_meets : (s t : Side) (x : ℤ) → begins s ≤ℤ x → x <ℤ ends s → begins t ≤ℤ x → x <ℤ ends t → sides_meet s t ≡ true
one_meets s t x a b c d = numbers (begins s) (ends s) (begins t) (ends t) a b c d
  where
    numbers : (fs ts ft tt : ℤ) → fs ≤ℤ x → x <ℤ ts → ft ≤ℤ x → x <ℤ tt → ((int_lt fs ts && int_lt ft tt) && (int_lt fs tt && int_lt ft ts)) ≡ true
    numbers fs ts ft tt a b c d = grind (arith, ints)

meets : (ss ts : List Side) (is js at : List ℤ) → cell_at ss is ≡ Some at → cell_at ts js ≡ Some at → all_meet ss ts ≡ true
meets [] [] is js at e f = refl
meets [] (t ∷ ts) [] js at e f = absurd (not_empty ((split t ts js at f).whole) (some_injective _ _ e))
  where
    not_empty : {x : ℤ} {l : List ℤ} → at ≡ (x ∷ l) → [] ≡ at → ⊥
    not_empty g h = cc
meets [] (t ∷ ts) (i ∷ is) js at e f = absurd (none_some e)
meets (s ∷ ss) [] is [] at e f = absurd (not_empty ((split s ss is at e).whole) (some_injective _ _ f))
  where
    not_empty : {x : ℤ} {l : List ℤ} → at ≡ (x ∷ l) → [] ≡ at → ⊥
    not_empty g h = cc
meets (s ∷ ss) [] is (j ∷ js) at e f = absurd (none_some f)
meets (s ∷ ss) (t ∷ ts) is js at e f =
    let a = split s ss is at e in
    let b = split t ts js at f in
    let same : (a.first ∷ a.rest) ≡ (b.first ∷ b.rest) = sym a.whole ∙ b.whole in
    and_from (sides_meet s t) (all_meet ss ts)
    (one_meets s t a.first a.low a.high (subst (λ x. begins t ≤ℤ x) (sym (first_is same)) b.low) (subst (λ x. x <ℤ ends t) (sym (first_is same)) b.high))
    (meets ss ts a.is b.is a.rest a.others (b.others ∙ ap Some (sym (rest_is same))))

-- ---- a common cell where all meet

joined : (s : Side) (ss : List Side) (x : ℤ) (rest is : List ℤ) → begins s ≤ℤ x → x <ℤ ends s → cell_at ss is ≡ Some rest → (js : List ℤ) × (cell_at (s ∷ ss) js ≡ Some (x ∷ rest))
joined (Point p) ss x rest is a b e = (is, ap (option_map (λ l. p ∷ l)) e ∙ ap (λ y. Some (y ∷ rest)) same)
  where
    same : p ≡ x
    same = omega (arith, ints)
joined (Range lo n) ss x rest is a b e =
    ((x -ℤ lo) ∷ is, ap (λ t. where_true t (option_map (λ l. (lo +ℤ (x -ℤ lo)) ∷ l) (cell_at ss is))) inside ∙ ap (option_map (λ l. (lo +ℤ (x -ℤ lo)) ∷ l)) e ∙ ap (λ y. Some (y ∷ rest)) same)
  where
    inside : is_below (x -ℤ lo) n ≡ true
    inside = grind (arith, ints)

    same : lo +ℤ (x -ℤ lo) ≡ x
    same = omega (arith, ints)

record Common (ss ts : List Side) : Type 0 where
  cell : List ℤ
  one : List ℤ
  two : List ℤ
  is_one : cell_at ss one ≡ Some cell
  is_two : cell_at ts two ≡ Some cell

-- the greater of the two lower ends
record Middle (s t : Side) : Type 0 where
  at : ℤ
  a : begins s ≤ℤ at
  b : at <ℤ ends s
  c : begins t ≤ℤ at
  d : at <ℤ ends t

middle : (s t : Side) → sides_meet s t ≡ true → Middle s t
middle s t h = go (begins s) (ends s) (begins t) (ends t) refl refl refl refl (int_lt (begins s) (begins t)) refl
  where
    go : (fs ts ft tt : ℤ) → begins s ≡ fs → ends s ≡ ts → begins t ≡ ft → ends t ≡ tt → (u : Bool) → int_lt (begins s) (begins t) ≡ u → Middle s t
    go fs ts ft tt i j k l true e = record { at = begins t; a = grind (arith, ints); b = grind (arith, ints); c = omega (arith, ints); d = grind (arith, ints) }
    go fs ts ft tt i j k l false e = record { at = begins s; a = omega (arith, ints); b = grind (arith, ints); c = grind (arith, ints); d = grind (arith, ints) }

no_false : false ≡ true → ⊥
no_false e = true≢false (sym e)

common : (ss ts : List Side) → all_meet ss ts ≡ true → Common ss ts
common [] [] h = record { cell = []; one = []; two = []; is_one = refl; is_two = refl }
common [] (t ∷ ts) h = absurd (no_false h)
common (s ∷ ss) [] h = absurd (no_false h)
common (s ∷ ss) (t ∷ ts) h =
    let p = and_parts (sides_meet s t) (all_meet ss ts) h in
    let m = middle s t p.0 in
    let c = common ss ts p.1 in
    let one = joined s ss m.at c.cell c.one m.a m.b c.is_one in
    let two = joined t ts m.at c.cell c.two m.c m.d c.is_two in
    record { cell = m.at ∷ c.cell; one = one.0; two = two.0; is_one = one.1; is_two = two.1 }

pub test_law : WindowsAreTested
test_law a b = (λ h is js at e f g. no_both (a.buffer == b.buffer) (all_meet a.sides b.sides) h (eq-eqb a.buffer b.buffer e) (meets a.sides b.sides is js at f g), λ apart. told apart (a.buffer == b.buffer) refl (all_meet a.sides b.sides) refl)
  where
    no_both : (s t : Bool) → not (s && t) ≡ true → s ≡ true → t ≡ true → ⊥
    no_both true true h i j = no_false h
    no_both true false h i j = no_false j
    no_both false t h i j = no_false i

    told : AreApart a b → (s : Bool) → (a.buffer == b.buffer) ≡ s → (t : Bool) → all_meet a.sides b.sides ≡ t → not (s && t) ≡ true
    told apart false e t f = refl
    told apart true e false f = refl
    told apart true e true f = let c = common a.sides b.sides f in absurd (apart c.one c.two c.cell (eqb-true a.buffer b.buffer e) c.is_one c.is_two)
