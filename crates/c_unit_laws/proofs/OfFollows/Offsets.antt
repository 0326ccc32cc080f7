-- Row-major offsets.
use Rattle.std.proofs.Common.{◌≡◌, ◌<◌, ◌+◌, ◌*◌, ◌/◌, ◌%◌, ℕ, ℤ, pos, negsuc, ◌+ℤ◌, ◌*ℤ◌, true, List, [], ◌∷◌, refl, sym, ap, ap₂, ◌∙◌, subst, arith, true≢false}
use Rattle.std.proofs.lemmas.Nat.{mul-add-lt, div-mul-add, mod-mul-add}
use Rattle.std.proofs.lemmas.Int.{ints}
use Rattle.std.proofs.lemmas.Bool.{and_parts}
use Rattle.exo_meaning.specs.Scene.{is_below}
use Rattle.exo_meaning.specs.Run.{product, row_major}
use Rattle.c_unit_laws.specs.Follows.Simulation.{dot, in_range}

-- an index in range is a natural number below its dimension
pub record Index (i d : ℤ) : Type 0 where
  pub at : ℕ
  pub of : ℕ
  pub at_is : i ≡ pos at
  pub of_is : d ≡ pos of
  pub below : at < of

pub index_of : (i d : ℤ) → is_below i d ≡ true → Index i d
index_of (pos i) (pos d) h = record { at = i; of = d; at_is = refl; of_is = refl; below = grind (arith, ints) }
index_of (pos i) (negsuc d) h = absurd (true≢false (sym (and_parts _ _ h).1))
index_of (negsuc i) d h = absurd (true≢false (sym h))

-- the offset is a natural number below the product
pub record Flat (is ds : List ℤ) : Type 0 where
  pub offset : ℕ
  pub size : ℕ
  pub offset_is : dot is (row_major ds) ≡ pos offset
  pub size_is : product ds ≡ pos size
  pub below : offset < size

pub flat : (is ds : List ℤ) → in_range is ds ≡ true → Flat is ds
flat [] [] h = record { offset = 0; size = 1; offset_is = refl; size_is = refl; below = omega arith }
flat [] (d ∷ ds) h = absurd (true≢false (sym h))
flat (i ∷ is) [] h = absurd (true≢false (sym h))
flat (i ∷ is) (d ∷ ds) h =
    let parts = and_parts (is_below i d) (in_range is ds) h in
    let first = index_of i d parts.0 in
    let rest = flat is ds parts.1 in
    record {
      offset = first.at * rest.size + rest.offset;
      size = first.of * rest.size;
      offset_is = ap₂ (λ a b. a +ℤ b) (ap₂ (λ a b. a *ℤ b) first.at_is rest.size_is) rest.offset_is;
      size_is = ap₂ (λ a b. a *ℤ b) first.of_is rest.size_is;
      below = omega (arith, mul-add-lt first.at rest.size rest.offset first.of first.below rest.below);
    }

-- different indices have different offsets
pub pos_of : (a b : ℕ) → pos a ≡ pos b → a ≡ b
pos_of a b h = grind arith

pub injective : (is js ds : List ℤ) → in_range is ds ≡ true → in_range js ds ≡ true → dot is (row_major ds) ≡ dot js (row_major ds) → is ≡ js
injective [] [] [] h k e = refl
injective [] (j ∷ js) [] h k e = absurd (true≢false (sym k))
injective (i ∷ is) js [] h k e = absurd (true≢false (sym h))
injective [] js (d ∷ ds) h k e = absurd (true≢false (sym h))
injective (i ∷ is) [] (d ∷ ds) h k e = absurd (true≢false (sym k))
injective (i ∷ is) (j ∷ js) (d ∷ ds) h k e =
    let p = and_parts (is_below i d) (in_range is ds) h in
    let q = and_parts (is_below j d) (in_range js ds) k in
    let a = index_of i d p.0 in
    let b = index_of j d q.0 in
    let f = flat is ds p.1 in
    let g = flat js ds q.1 in
    let same_size : g.size ≡ f.size = pos_of _ _ (sym g.size_is ∙ f.size_is) in
    let g_below : g.offset < f.size = subst (λ n. g.offset < n) same_size g.below in
    let left : dot (i ∷ is) (row_major (d ∷ ds)) ≡ pos (a.at * f.size + f.offset) = ap₂ (λ x y. x +ℤ y) (ap₂ (λ x y. x *ℤ y) a.at_is f.size_is) f.offset_is in
    let right : dot (j ∷ js) (row_major (d ∷ ds)) ≡ pos (b.at * f.size + g.offset) = ap₂ (λ x y. x +ℤ y) (ap₂ (λ x y. x *ℤ y) b.at_is f.size_is) g.offset_is in
    let both : a.at * f.size + f.offset ≡ b.at * f.size + g.offset = pos_of _ _ (sym left ∙ e ∙ right) in
    let heads : a.at ≡ b.at = sym (div-mul-add a.at f.size f.offset f.below) ∙ ap (λ n. n / f.size) both ∙ div-mul-add b.at f.size g.offset g_below in
    let tails : f.offset ≡ g.offset = sym (mod-mul-add a.at f.size f.offset f.below) ∙ ap (λ n. n % f.size) both ∙ mod-mul-add b.at f.size g.offset g_below in
    ap₂ (λ x xs. x ∷ xs) (a.at_is ∙ ap pos heads ∙ sym b.at_is) (injective is js ds p.1 q.1 (f.offset_is ∙ ap pos tails ∙ sym g.offset_is))
