-- All of a state but the values of the cells: what control expressions, places and faults depend
-- on.
use Rattle.std.specs.Prelude.{◌≡◌, ◌≤ℤ◌, ℕ, ℤ, pos, neg_ℤ, ◌+ℤ◌, ◌-ℤ◌, ◌*ℤ◌, ◌==◌, int_lt, int_le}
use Rattle.std.specs.Prelude.{Bool, true, false, not, ◌&&◌, ◌||◌, if◌then◌else◌, List, [], ◌∷◌}
use Rattle.std.specs.Prelude.{get_or, Option, Some, None, option_map}
use Rattle.std.specs.Int.{int_div_euclid, int_rem_euclid}
use Rattle.std.specs.Ordering.{int_eq}
use Rattle.exo_tree.specs.Tree.{Cell, Control, Lit, Var, Field, StrideOf, Neg, Add, Sub, Mul, Div}
use Rattle.exo_tree.specs.Tree.{Mod, Condition, True, False, Flag, FieldFlag, Lt, Le, Gt, Ge, Eq}
use Rattle.exo_tree.specs.Tree.{And, Or, Coord, At, Span}

pub record Shape : Type 0 where
  pub cell : Cell
  pub dims : List ℤ
  pub strides : List ℤ

-- what a name sees of one dimension of a buffer: one index, or a lower end and an extent
pub data Side : Type 0 where
  Point : ℤ → Side
  Range : ℤ → ℤ → Side

-- what a name stands for: the whole of a buffer or a part of it
pub record Seen : Type 0 where
  pub buffer : ℕ
  pub sides : List Side

pub record Scene : Type 0 where
  pub control : ℕ → ℤ
  pub buffers : ℕ → Option Shape
  pub views : ℕ → Option Seen
  pub fields : ℕ → ℤ

-- a map with one entry changed
abbrev pub updated : {A : Type 0} → (ℕ → A) → ℕ → A → ℕ → A
updated f k v j = if j == k then v else f j

-- ---- strides

-- the strides of the dimensions over which the coordinates run
abbrev pub strides_of : List Side → List ℤ → List ℤ
strides_of [] strides = []
strides_of (side ∷ sides) [] = []
strides_of (Point p ∷ sides) (t ∷ strides) = strides_of sides strides
strides_of (Range lo n ∷ sides) (t ∷ strides) = t ∷ strides_of sides strides

abbrev pub strides_seen : Scene → Seen → List ℤ
strides_seen scene seen =
    elim (scene.buffers seen.buffer) [
      | None ↦ []
      | Some shape ↦ strides_of seen.sides shape.strides
    ]

abbrev pub stride_at : Scene → Option Seen → ℕ → ℤ
stride_at scene None k = pos 0
stride_at scene (Some seen) k = get_or (strides_seen scene seen) k (pos 0)

-- ---- control values

abbrev pub number : Scene → Control → ℤ
number scene (Lit n) = n
number scene (Var x) = scene.control x
number scene (Field f) = scene.fields f
number scene (StrideOf x k) = stride_at scene (scene.views x) k
number scene (Neg a) = neg_ℤ (number scene a)
number scene (Add a b) = number scene a +ℤ number scene b
number scene (Sub a b) = number scene a -ℤ number scene b
number scene (Mul a b) = number scene a *ℤ number scene b
number scene (Div a c) = int_div_euclid (number scene a) c
number scene (Mod a c) = int_rem_euclid (number scene a) c

abbrev pub numbers : Scene → List Control → List ℤ
numbers scene [] = []
numbers scene (a ∷ as') = number scene a ∷ numbers scene as'

-- a flag holds where its number is not 0
abbrev pub is_set : ℤ → Bool
is_set n = if int_eq n (pos 0) then false else true

abbrev pub holds : Scene → Condition → Bool
holds scene True = true
holds scene False = false
holds scene (Flag x) = is_set (scene.control x)
holds scene (FieldFlag f) = is_set (scene.fields f)
holds scene (Lt a b) = int_lt (number scene a) (number scene b)
holds scene (Le a b) = int_le (number scene a) (number scene b)
holds scene (Gt a b) = int_lt (number scene b) (number scene a)
holds scene (Ge a b) = int_le (number scene b) (number scene a)
holds scene (Eq a b) = int_eq (number scene a) (number scene b)
holds scene (And c d) = holds scene c && holds scene d
holds scene (Or c d) = holds scene c || holds scene d

-- ---- places

abbrev pub is_below : ℤ → ℤ → Bool
is_below i n = int_le (pos 0) i && int_lt i n

-- goes on from where a step is done; None is a fault
abbrev pub then_do : {A B : Type 0} → Option A → (A → Option B) → Option B
then_do None f = None
then_do (Some a) f = f a

-- goes on where a test holds; None is a fault
abbrev pub where_true : {A : Type 0} → Bool → Option A → Option A
where_true false o = None
where_true true o = o

-- the cell of the buffer at these indices of the name; None where an index is outside
abbrev pub cell_at : List Side → List ℤ → Option (List ℤ)
cell_at [] [] = Some []
cell_at [] (i ∷ is) = None
cell_at (Point p ∷ sides) is = option_map (λ at. p ∷ at) (cell_at sides is)
cell_at (Range lo n ∷ sides) [] = None
cell_at (Range lo n ∷ sides) (i ∷ is) =
    where_true (is_below i n) (option_map (λ at. (lo +ℤ i) ∷ at) (cell_at sides is))

-- the indices of the name at a cell of the buffer; None where the name does not see it
abbrev pub index_of : List Side → List ℤ → Option (List ℤ)
index_of [] [] = Some []
index_of [] (a ∷ at) = None
index_of (side ∷ sides) [] = None
index_of (Point p ∷ sides) (a ∷ at) = where_true (int_eq p a) (index_of sides at)
index_of (Range lo n ∷ sides) (a ∷ at) =
    where_true (is_below (a -ℤ lo) n) (option_map (λ is. (a -ℤ lo) ∷ is) (index_of sides at))

-- the extents of a name
abbrev pub extents : List Side → List ℤ
extents [] = []
extents (Point p ∷ sides) = extents sides
extents (Range lo n ∷ sides) = n ∷ extents sides

abbrev pub whole : List ℤ → List Side
whole [] = []
whole (d ∷ ds) = Range (pos 0) d ∷ whole ds

-- a window of a name, on the buffer; None where it is outside or empty
abbrev pub narrowed : Scene → List Side → List Coord → Option (List Side)
narrowed scene [] [] = Some []
narrowed scene [] (c ∷ cs) = None
narrowed scene (Point p ∷ sides) cs = option_map (λ rest. Point p ∷ rest) (narrowed scene sides cs)
narrowed scene (Range lo n ∷ sides) [] = None
narrowed scene (Range lo n ∷ sides) (At a ∷ cs) =
    let i = number scene a in
    where_true (is_below i n)
    (option_map (λ rest. Point (lo +ℤ i) ∷ rest) (narrowed scene sides cs))
narrowed scene (Range lo n ∷ sides) (Span a b ∷ cs) =
    let i = number scene a in
    let j = number scene b in
    where_true (int_le (pos 0) i && int_lt i j && int_le j n)
    (option_map (λ rest. Range (lo +ℤ i) (j -ℤ i) ∷ rest) (narrowed scene sides cs))

abbrev pub window : Scene → ℕ → List Coord → Option Seen
window scene x coords =
    then_do (scene.views x) (λ seen.
    option_map (λ sides. record { buffer = seen.buffer; sides = sides })
    (narrowed scene seen.sides coords))

-- ---- a part of a part

-- sides on the extents of others, as sides on the buffer itself
abbrev pub composed : List Side → List Side → List Side
composed [] ts = []
composed (Point p ∷ ss) ts = Point p ∷ composed ss ts
composed (Range lo n ∷ ss) [] = []
composed (Range lo n ∷ ss) (Point q ∷ ts) = Point (lo +ℤ q) ∷ composed ss ts
composed (Range lo n ∷ ss) (Range mo m ∷ ts) = Range (lo +ℤ mo) m ∷ composed ss ts

-- the second sides lie on the extents of the first
abbrev pub LieWithin : List Side → List Side → Type 0
LieWithin [] [] = Unit {0}
LieWithin [] (t ∷ ts) = ⊥
LieWithin (Point p ∷ ss) ts = LieWithin ss ts
LieWithin (Range lo n ∷ ss) [] = ⊥
LieWithin (Range lo n ∷ ss) (Point q ∷ ts) = (is_below q n ≡ true) × LieWithin ss ts
LieWithin (Range lo n ∷ ss) (Range mo m ∷ ts) = (pos 0 ≤ℤ mo) × ((mo +ℤ m) ≤ℤ n) × LieWithin ss ts

-- ---- windows without a common cell

abbrev pub begins : Side → ℤ
begins (Point p) = p
begins (Range lo n) = lo

abbrev pub ends : Side → ℤ
ends (Point p) = p +ℤ pos 1
ends (Range lo n) = lo +ℤ n

-- a side has an index in common with another one
abbrev pub sides_meet : Side → Side → Bool
sides_meet s t =
    (int_lt (begins s) (ends s) && int_lt (begins t) (ends t))
    && (int_lt (begins s) (ends t) && int_lt (begins t) (ends s))

-- in each dimension
abbrev pub all_meet : List Side → List Side → Bool
all_meet [] [] = true
all_meet [] (t ∷ ts) = false
all_meet (s ∷ ss) [] = false
all_meet (s ∷ ss) (t ∷ ts) = sides_meet s t && all_meet ss ts

abbrev pub are_apart : Seen → Seen → Bool
are_apart a b = not ((a.buffer == b.buffer) && all_meet a.sides b.sides)

-- no cell is seen by both
abbrev pub AreApart : Seen → Seen → Type 0
AreApart a b =
    (is js at : List ℤ)
    → a.buffer ≡ b.buffer
    → cell_at a.sides is ≡ Some at
    → cell_at b.sides js ≡ Some at
    → ⊥
