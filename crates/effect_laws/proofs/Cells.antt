-- Cells of parts of buffers lie at their coordinates.
use Rattle.std.proofs.Common.{◌≡◌, ◌≤ℤ◌, ◌<ℤ◌, ℕ, zero, suc, ℤ, pos, negsuc, ◌+ℤ◌, ◌-ℤ◌, int_le, int_lt, Bool, true, false, ◌&&◌, List, [], ◌∷◌, ◌++◌, map, Option, Some, option_map, refl, sym, ap, ap₂, ◌∙◌, subst, arith}
use Rattle.std.proofs.lemmas.Int.{ints}
use Rattle.std.specs.List.{list_all}
use Rattle.exo_tree.specs.Tree.{Control, Add, Coord, At, Span}
use Rattle.exo_meaning.specs.Scene.{Side, Point, Range, Scene, number, numbers, where_true, is_below, cell_at, narrowed}
use Rattle.exo_meaning.specs.Run.{range, count}
use Rattle.exo_meaning.specs.Orders.{Each}
use Rattle.exo_meaning.specs.Units.{Scope}
use Rattle.exo_meaning.proofs.Windows.{where_parts}
use Rattle.meaning_laws.specs.Touched.{crossed, cells_of}
use Rattle.affine_forms.specs.Atoms.{Valuation}
use Rattle.affine_forms.specs.Forms.{Allowed, is_affine}
use Rattle.affine_forms.specs.Strides.{all_affine}
use Rattle.affine_forms.specs.Laws.{NormalLaw}
use Rattle.inplace_laws.specs.Windows.{shifted, joined_coords}
use Rattle.check_laws.proofs.OfFacts.Truths.{parts, joined, none_some, some_injective}
use Rattle.check_laws.proofs.OfFacts.Sides.{map_gives}
use Rattle.exo_effects.specs.Accesses.{AccessCoord, coord_form}
use Rattle.effect_laws.specs.Covers.{LiesAt, names_in, is_affine_coord, sides_of}
use Rattle.effect_laws.proofs.Forms.{value_is}

pub where_gives : {A : Type 0} (t : Bool) (o : Option A) (a : A) → where_true t o ≡ Some a → o ≡ Some a
where_gives false o a e = absurd (none_some e)
where_gives true o a e = e

-- ---- lists

pub each_map_each : {T U : Type 0} (P : T → Type 0) (Q : U → Type 0) (f : T → U) (xs : List T) → ((x : T) → P x → Q (f x)) → Each P xs → Each Q (map f xs)
each_map_each P Q f [] k h = tt
each_map_each P Q f (x ∷ xs) k h = (k x h.0, each_map_each P Q f xs k h.1)

pub each_weaken : {T : Type 0} (P Q : T → Type 0) (xs : List T) → ((x : T) → P x → Q x) → Each P xs → Each Q xs
each_weaken P Q [] k h = tt
each_weaken P Q (x ∷ xs) k h = (k x h.0, each_weaken P Q xs k h.1)

pub each_join : {T : Type 0} (P : T → Type 0) (xs ys : List T) → Each P xs → Each P ys → Each P (xs ++ ys)
each_join P [] ys h k = k
each_join P (x ∷ xs) ys h k = (h.0, each_join P xs ys h.1 k)

crossed_each : (P : ℤ → Type 0) (Q R : List ℤ → Type 0) (is : List ℤ) (ats : List (List ℤ)) → ((i : ℤ) (at : List ℤ) → P i → Q at → R (i ∷ at)) → Each P is → Each Q ats → Each R (crossed is ats)
crossed_each P Q R [] ats k h l = tt
crossed_each P Q R (i ∷ is) ats k h l = each_join R (map (λ at. i ∷ at) ats) (crossed is ats) (each_map_each Q R (λ at. i ∷ at) ats (λ at m. k i at h.0 m) l) (crossed_each P Q R is ats k h.1 l)

-- ---- numbers from one to another

abbrev pub IsFrom : ℤ → ℤ → ℤ → Type 0
IsFrom a b i = (a ≤ℤ i) × (i <ℤ b)

range_each : (a : ℤ) (n : ℕ) → Each (IsFrom a (a +ℤ pos n)) (range a n)
range_each a zero = tt
range_each a (suc n) = ((omega (arith, ints), omega (arith, ints)), each_weaken (IsFrom (a +ℤ pos 1) ((a +ℤ pos 1) +ℤ pos n)) (IsFrom a (a +ℤ pos (suc n))) (range (a +ℤ pos 1) n) (λ i h. (omega (arith, ints, h.0), omega (arith, ints, h.1))) (range_each (a +ℤ pos 1) n))

pub range_within : (a b : ℤ) → Each (IsFrom a b) (range a (count (b -ℤ a)))
range_within a b = go (b -ℤ a) refl
  where
    go : (d : ℤ) → b -ℤ a ≡ d → Each (IsFrom a b) (range a (count d))
    go (pos n) e = each_weaken (IsFrom a (a +ℤ pos n)) (IsFrom a b) (range a n) (λ i h. (h.0, omega (arith, ints, h.1, e))) (range_each a n)
    go (negsuc n) e = tt

-- ---- windows of windows

opens : (a c d : ℤ) → d -ℤ c ≡ (a +ℤ d) -ℤ (a +ℤ c)
opens a c d = omega (arith, ints)

pub narrowed_sides : (scene : Scene) (cs ds : List Coord) (sides : List Side) → narrowed scene (sides_of scene cs) ds ≡ Some sides → sides ≡ sides_of scene (joined_coords cs ds)
narrowed_sides scene [] [] sides e = sym (some_injective [] sides e)
narrowed_sides scene [] (d ∷ ds) sides e = absurd (none_some e)
narrowed_sides scene (At a ∷ cs) ds sides e =
    let m = map_gives (narrowed scene (sides_of scene cs) ds) (λ rest. Point (number scene a) ∷ rest) sides e in
    sym m.2 ∙ ap (λ rest. Point (number scene a) ∷ rest) (narrowed_sides scene cs ds m.0 m.1)
narrowed_sides scene (Span a b ∷ cs) [] sides e = absurd (none_some e)
narrowed_sides scene (Span a b ∷ cs) (At c ∷ ds) sides e =
    let i = number scene c in
    let n = number scene b -ℤ number scene a in
    let m = map_gives (narrowed scene (sides_of scene cs) ds) (λ rest. Point (number scene a +ℤ i) ∷ rest) sides (where_gives (is_below i n) (option_map (λ rest. Point (number scene a +ℤ i) ∷ rest) (narrowed scene (sides_of scene cs) ds)) sides e) in
    sym m.2 ∙ ap (λ rest. Point (number scene a +ℤ i) ∷ rest) (narrowed_sides scene cs ds m.0 m.1)
narrowed_sides scene (Span a b ∷ cs) (Span c d ∷ ds) sides e =
    let i = number scene c in
    let j = number scene d in
    let n = number scene b -ℤ number scene a in
    let m = map_gives (narrowed scene (sides_of scene cs) ds) (λ rest. Range (number scene a +ℤ i) (j -ℤ i) ∷ rest) sides (where_gives (int_le (pos 0) i && int_lt i j && int_le j n) (option_map (λ rest. Range (number scene a +ℤ i) (j -ℤ i) ∷ rest) (narrowed scene (sides_of scene cs) ds)) sides e) in
    sym m.2 ∙ ap₂ (λ k rest. Range (number scene a +ℤ i) k ∷ rest) (opens (number scene a) i j) (narrowed_sides scene cs ds m.0 m.1)

pub joined_affine : (may : Allowed) (cs ds : List Coord) → list_all (is_affine_coord may) cs ≡ true → list_all (is_affine_coord may) ds ≡ true → list_all (is_affine_coord may) (joined_coords cs ds) ≡ true
joined_affine may [] ds h k = k
joined_affine may (At a ∷ cs) ds h k =
    let p = parts (is_affine may a) (list_all (is_affine_coord may) cs) h in
    joined (is_affine may a) (list_all (is_affine_coord may) (joined_coords cs ds)) p.0 (joined_affine may cs ds p.1 k)
joined_affine may (Span a b ∷ cs) [] h k = refl
joined_affine may (Span a b ∷ cs) (At c ∷ ds) h k =
    let p = parts (is_affine may a && is_affine may b) (list_all (is_affine_coord may) cs) h in
    let q = parts (is_affine may a) (is_affine may b) p.0 in
    let r = parts (is_affine may c) (list_all (is_affine_coord may) ds) k in
    joined (is_affine may a && is_affine may c) (list_all (is_affine_coord may) (joined_coords cs ds)) (joined (is_affine may a) (is_affine may c) q.0 r.0) (joined_affine may cs ds p.1 r.1)
joined_affine may (Span a b ∷ cs) (Span c d ∷ ds) h k =
    let p = parts (is_affine may a && is_affine may b) (list_all (is_affine_coord may) cs) h in
    let q = parts (is_affine may a) (is_affine may b) p.0 in
    let r = parts (is_affine may c && is_affine may d) (list_all (is_affine_coord may) ds) k in
    let s = parts (is_affine may c) (is_affine may d) r.0 in
    joined ((is_affine may a && is_affine may c) && (is_affine may a && is_affine may d)) (list_all (is_affine_coord may) (joined_coords cs ds))
    (joined (is_affine may a && is_affine may c) (is_affine may a && is_affine may d) (joined (is_affine may a) (is_affine may c) q.0 s.0) (joined (is_affine may a) (is_affine may d) q.0 s.1)) (joined_affine may cs ds p.1 r.1)

-- ---- cells

module _ (normal : NormalLaw) (scope : Scope) (v : Valuation) (scene : Scene) (same : (x : ℕ) → v.variable x ≡ scene.control x) where
  -- the cell at indices of a name
  pub cell_lies : (cs : List Coord) (is : List Control) (at : List ℤ) → list_all (is_affine_coord (names_in scope)) cs ≡ true → all_affine (names_in scope) is ≡ true → cell_at (sides_of scene cs) (numbers scene is) ≡ Some at → LiesAt v (map coord_form (map At (shifted cs is))) at
  cell_lies [] [] at h k e = subst (λ z. LiesAt v [] z) (some_injective [] at e) tt
  cell_lies [] (i ∷ is) at h k e = absurd (none_some e)
  cell_lies (At a ∷ cs) is at h k e =
      let p = parts (is_affine (names_in scope) a) (list_all (is_affine_coord (names_in scope)) cs) h in
      let m = map_gives (cell_at (sides_of scene cs) (numbers scene is)) (λ rest. number scene a ∷ rest) at e in
      subst (λ z. LiesAt v (map coord_form (map At (a ∷ shifted cs is))) z) m.2 (value_is normal scope v scene same a p.0, cell_lies cs is m.0 p.1 k m.1)
  cell_lies (Span a b ∷ cs) [] at h k e = absurd (none_some e)
  cell_lies (Span a b ∷ cs) (i ∷ is) at h k e =
      let may = names_in scope in
      let p = parts (is_affine may a && is_affine may b) (list_all (is_affine_coord may) cs) h in
      let q = parts (is_affine may a) (is_affine may b) p.0 in
      let r = parts (is_affine may i) (all_affine may is) k in
      let n = number scene i in
      let m = map_gives (cell_at (sides_of scene cs) (numbers scene is)) (λ rest. (number scene a +ℤ n) ∷ rest) at (where_gives (is_below n (number scene b -ℤ number scene a)) (option_map (λ rest. (number scene a +ℤ n) ∷ rest) (cell_at (sides_of scene cs) (numbers scene is))) at e) in
      subst (λ z. LiesAt v (map coord_form (map At (Add a i ∷ shifted cs is))) z) m.2 (value_is normal scope v scene same (Add a i) (joined (is_affine may a) (is_affine may i) q.0 r.0), cell_lies cs is m.0 p.1 r.1 m.1)

-- the cell lies at the coordinates for all values that give variables their numbers in the scene
abbrev pub Lies : Scene → List AccessCoord → List ℤ → Type 0
Lies scene cs at = (v : Valuation) → ((x : ℕ) → v.variable x ≡ scene.control x) → LiesAt v cs at

-- all cells of a part
module _ (normal : NormalLaw) (scope : Scope) (scene : Scene) where
  pub cells_lie : (cs : List Coord) → list_all (is_affine_coord (names_in scope)) cs ≡ true → Each (Lies scene (map coord_form cs)) (cells_of (sides_of scene cs))
  cells_lie [] h = ((λ v same. tt), tt)
  cells_lie (At a ∷ cs) h =
      let p = parts (is_affine (names_in scope) a) (list_all (is_affine_coord (names_in scope)) cs) h in
      crossed_each (λ i. number scene a ≡ i) (Lies scene (map coord_form cs)) (Lies scene (map coord_form (At a ∷ cs))) (number scene a ∷ []) (cells_of (sides_of scene cs)) (λ i at e l v same. (value_is normal scope v scene same a p.0 ∙ e, l v same)) (refl, tt) (cells_lie cs p.1)
  cells_lie (Span a b ∷ cs) h =
      let may = names_in scope in
      let p = parts (is_affine may a && is_affine may b) (list_all (is_affine_coord may) cs) h in
      let q = parts (is_affine may a) (is_affine may b) p.0 in
      crossed_each (IsFrom (number scene a) (number scene b)) (Lies scene (map coord_form cs)) (Lies scene (map coord_form (Span a b ∷ cs))) (range (number scene a) (count (number scene b -ℤ number scene a))) (cells_of (sides_of scene cs)) (λ i at e l v same.
      (subst (λ n. n ≤ℤ i) (sym (value_is normal scope v scene same a q.0)) e.0, (subst (λ n. i <ℤ n) (sym (value_is normal scope v scene same b q.1)) e.1, l v same))) (range_within (number scene a) (number scene b)) (cells_lie cs p.1)

  -- a cell that is seen at some indices
  pub cell_lies_there : (cs : List Coord) (is at : List ℤ) → list_all (is_affine_coord (names_in scope)) cs ≡ true → cell_at (sides_of scene cs) is ≡ Some at → Lies scene (map coord_form cs) at
  cell_lies_there [] [] at h e = subst (Lies scene []) (some_injective [] at e) (λ v same. tt)
  cell_lies_there [] (i ∷ is) at h e = absurd (none_some e)
  cell_lies_there (At a ∷ cs) is at h e =
      let p = parts (is_affine (names_in scope) a) (list_all (is_affine_coord (names_in scope)) cs) h in
      let m = map_gives (cell_at (sides_of scene cs) is) (λ rest. number scene a ∷ rest) at e in
      subst (Lies scene (map coord_form (At a ∷ cs))) m.2 (λ v same. (value_is normal scope v scene same a p.0, cell_lies_there cs is m.0 p.1 m.1 v same))
  cell_lies_there (Span a b ∷ cs) [] at h e = absurd (none_some e)
  cell_lies_there (Span a b ∷ cs) (i ∷ is) at h e =
      let may = names_in scope in
      let p = parts (is_affine may a && is_affine may b) (list_all (is_affine_coord may) cs) h in
      let q = parts (is_affine may a) (is_affine may b) p.0 in
      let low = number scene a in
      let n = number scene b -ℤ low in
      let w = where_parts (is_below i n) (option_map (λ rest. (low +ℤ i) ∷ rest) (cell_at (sides_of scene cs) is)) at e in
      let m = map_gives (cell_at (sides_of scene cs) is) (λ rest. (low +ℤ i) ∷ rest) at w.1 in
      subst (Lies scene (map coord_form (Span a b ∷ cs))) m.2 (λ v same.
      (subst (λ k. k ≤ℤ (low +ℤ i)) (sym (value_is normal scope v scene same a q.0)) (above low i n w.0), (subst (λ k. (low +ℤ i) <ℤ k) (sym (value_is normal scope v scene same b q.1)) (below low (number scene b) i w.0), cell_lies_there cs is m.0 p.1 m.1 v same)))
    where
      above : (low i n : ℤ) → is_below i n ≡ true → low ≤ℤ (low +ℤ i)
      above low i n h = grind (arith, ints, h)

      below : (low high i : ℤ) → is_below i (high -ℤ low) ≡ true → (low +ℤ i) <ℤ high
      below low high i h = grind (arith, ints, h)
