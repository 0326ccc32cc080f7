-- Expressions that keep the rules and fit are such as the C follows.
use Rattle.std.proofs.Common.{◌≡◌, ◌≤◌, ◌^◌, ◌==◌, ℕ, ℤ, pos, ◌≤ℤ◌, int_le, int_lt, Bool, true, false, ◌&&◌, ◌||◌, List, [], ◌∷◌, length, Option, refl, sym, ap, subst, arith, true≢false}
use Rattle.std.specs.Prelude.{⊤}
use Rattle.std.specs.List.{list_all}
use Rattle.std.proofs.lemmas.Int.{ints, int_wrap_fits, fits_signed_from_abs}
use Rattle.std.specs.Int.{w32}
use Rattle.std.proofs.lemmas.Bool.{and_parts}
use Rattle.exo_tree.specs.Tree.{I32, Kind, Control, Lit, Var, Field, StrideOf, Neg, Add, Sub, Mul, Div, Mod, Condition, True, False, Flag, FieldFlag, Lt, Le, Gt, Ge, Eq, And, Or, Datum, Const, Read, Negated, Relu, Plus, Minus, Times, Select, Coord, At, Span}
use Rattle.exo_meaning.specs.Value.{wrap}
use Rattle.exo_meaning.specs.Units.{Scope, sort_in, has_rank, has_dimension, Reads, plainly, is_literal_number, is_of_literals, is_control, are_controls, is_condition, is_access, is_datum, is_coord}
use Rattle.c_widths.specs.Magnitude.{magnitude, fits, is_narrow}
use Rattle.c_widths.specs.Widths.{are_narrow, is_narrow_test, is_narrow_datum, is_narrow_coord, are_narrow_coords}
use Rattle.c_lowering.specs.Made.Lowered.{Forms}
use Rattle.c_lowering.specs.Made.LoweredUnit.{in_control, in_condition}
use Rattle.c_unit_laws.specs.Follows.Magnitude.{IsNarrow, AreNarrow}
use Rattle.c_unit_laws.specs.Follows.Simulation.{Declared, IsPlain, ArePlain}
use Rattle.c_unit_laws.specs.Follows.Good.{IsBuffer, IsOpen, IsGood, AreGood, IsGoodOpen}
use Rattle.c_unit_laws.specs.Follows.Good.{IsGoodDatum, IsGoodTest, IsGoodCoord, AreGoodCoords}
use Rattle.c_unit_laws.proofs.Forms.{Fits, IsForm, number_form, flag_form, buffer_form, stride_form}

-- ---- widths

fit : (n : ℕ) → fits n ≡ true → n ≤ 2 ^ 62
fit n h = grind arith

pub narrow : (most : ℕ → ℕ) (e : Control) → is_narrow most e ≡ true → IsNarrow most e
narrow most (Lit n) h = fit (magnitude most (Lit n)) h
narrow most (Var x) h = fit (magnitude most (Var x)) h
narrow most (Field f) h = fit (magnitude most (Field f)) h
narrow most (StrideOf x k) h = fit (magnitude most (StrideOf x k)) h
narrow most (Neg a) h = narrow most a h
narrow most (Add a b) h = let p = and_parts (is_narrow most a && is_narrow most b) (fits (magnitude most (Add a b))) h in let q = and_parts (is_narrow most a) (is_narrow most b) p.0 in (narrow most a q.0, narrow most b q.1, fit (magnitude most (Add a b)) p.1)
narrow most (Sub a b) h = let p = and_parts (is_narrow most a && is_narrow most b) (fits (magnitude most (Sub a b))) h in let q = and_parts (is_narrow most a) (is_narrow most b) p.0 in (narrow most a q.0, narrow most b q.1, fit (magnitude most (Sub a b)) p.1)
narrow most (Mul a b) h = let p = and_parts (is_narrow most a && is_narrow most b) (fits (magnitude most (Mul a b))) h in let q = and_parts (is_narrow most a) (is_narrow most b) p.0 in (narrow most a q.0, narrow most b q.1, fit (magnitude most (Mul a b)) p.1)
narrow most (Div a c) h = let p = and_parts (is_narrow most a) (fits (magnitude most (Div a c))) h in (narrow most a p.0, fit (magnitude most (Div a c)) p.1)
narrow most (Mod a c) h = let p = and_parts (is_narrow most a) (fits (magnitude most (Mod a c))) h in (narrow most a p.0, fit (magnitude most (Mod a c)) p.1)

pub all_narrow : (most : ℕ → ℕ) (es : List Control) → are_narrow most es ≡ true → AreNarrow most es
all_narrow most [] h = tt
all_narrow most (e ∷ es) h = let p = and_parts (is_narrow most e) (are_narrow most es) h in (narrow most e p.0, all_narrow most es p.1)

divisor : (c : ℤ) → (is_literal_number c && int_lt (pos 0) c) ≡ true → pos 1 ≤ℤ c
divisor c h = let p = (and_parts (is_literal_number c) (int_lt (pos 0) c) h).1 in above c p
  where
    above : (z : ℤ) → int_lt (pos 0) z ≡ true → pos 1 ≤ℤ z
    above z e = grind (arith, ints)

-- ---- reads

-- each buffer that is read has no lanes
abbrev pub ReadsCells : (ℕ → ℕ) → Datum → Type 0
ReadsCells lanes (Const n) = ⊤
ReadsCells lanes (Read x is) = lanes x ≡ 0
ReadsCells lanes (Negated a) = ReadsCells lanes a
ReadsCells lanes (Relu a) = ReadsCells lanes a
ReadsCells lanes (Plus a b) = ReadsCells lanes a × ReadsCells lanes b
ReadsCells lanes (Minus a b) = ReadsCells lanes a × ReadsCells lanes b
ReadsCells lanes (Times a b) = ReadsCells lanes a × ReadsCells lanes b
ReadsCells lanes (Select a b c d) = ReadsCells lanes a × ReadsCells lanes b × ReadsCells lanes c × ReadsCells lanes d

module _ (fields : ℕ → Option Kind) (lanes : ℕ → ℕ) (scope : Scope) (forms : Forms) (stand : Fits lanes scope forms) where
  -- ---- without fields and strides

  pub plain : (e : Control) → is_control fields plainly scope e ≡ true → IsPlain forms e
  plain (Lit n) h = tt
  plain (Var x) h = number_form (lanes x) (sort_in scope x) (forms x) (stand x) h
  plain (Field f) h = absurd (true≢false (sym h))
  plain (StrideOf x k) h = absurd (true≢false (sym h))
  plain (Neg a) h = plain a h
  plain (Add a b) h = let p = and_parts (is_control fields plainly scope a) (is_control fields plainly scope b) h in (plain a p.0, plain b p.1)
  plain (Sub a b) h = let p = and_parts (is_control fields plainly scope a) (is_control fields plainly scope b) h in (plain a p.0, plain b p.1)
  plain (Mul a b) h =
      let p = (and_parts (is_control fields plainly scope a && is_control fields plainly scope b) (is_of_literals a || is_of_literals b) h).0 in
      let q = and_parts (is_control fields plainly scope a) (is_control fields plainly scope b) p in (plain a q.0, plain b q.1)
  plain (Div a c) h = let p = and_parts (is_control fields plainly scope a) (is_literal_number c && int_lt (pos 0) c) h in (plain a p.0, divisor c p.1)
  plain (Mod a c) h = let p = and_parts (is_control fields plainly scope a) (is_literal_number c && int_lt (pos 0) c) h in (plain a p.0, divisor c p.1)

  pub all_plain : (es : List Control) → are_controls fields plainly scope es ≡ true → ArePlain forms es
  all_plain [] h = tt
  all_plain (e ∷ es) h = let p = and_parts (is_control fields plainly scope e) (are_controls fields plainly scope es) h in (plain e p.0, all_plain es p.1)

  pub good : (most : ℕ → ℕ) (e : Control) → is_control fields plainly scope e ≡ true → is_narrow most e ≡ true → IsGood forms most e
  good most e h k = (plain e h, narrow most e k)

  pub all_good : (most : ℕ → ℕ) (es : List Control) → are_controls fields plainly scope es ≡ true → are_narrow most es ≡ true → AreGood forms most es
  all_good most es h k = (all_plain es h, all_narrow most es k)

  -- a buffer without lanes
  pub of_cells : (x n : ℕ) → has_rank n (sort_in scope x) ≡ true → lanes x ≡ 0 → IsBuffer forms x n
  of_cells x n h e = let b = buffer_form (lanes x) (sort_in scope x) (forms x) n (stand x) h in (b.0, subst (IsForm (forms x) b.0 n) e b.1)

  pub access : (x : ℕ) (is : List Control) → is_access fields scope x is ≡ true → lanes x ≡ 0 → IsBuffer forms x (length is) × (are_controls fields plainly scope is ≡ true)
  access x is h e = let p = and_parts (has_rank (length is) (sort_in scope x)) (are_controls fields plainly scope is) h in (of_cells x (length is) p.0 e, p.1)

  -- ---- data

  pub good_datum : (most : ℕ → ℕ) (e : Datum) → is_datum fields scope e ≡ true → ReadsCells lanes e → is_narrow_datum most e ≡ true → IsGoodDatum forms most e
  good_datum most (Const n) h c k = small n h
    where
      small : (z : ℤ) → is_literal_number z ≡ true → wrap I32 z ≡ z
      small z e = let p = and_parts (int_le (pos 0) z) (int_lt z (pos (2 ^ 31))) e in int_wrap_fits w32 z (fits_signed_from_abs w32 z (grind (arith, ints)))
  good_datum most (Read x is) h c k = let a = access x is h c in (a.0, all_good most is a.1 k)
  good_datum most (Negated a) h c k = good_datum most a h c k
  good_datum most (Relu a) h c k = good_datum most a h c k
  good_datum most (Plus a b) h c k = let p = and_parts (is_datum fields scope a) (is_datum fields scope b) h in let q = and_parts (is_narrow_datum most a) (is_narrow_datum most b) k in (good_datum most a p.0 c.0 q.0, good_datum most b p.1 c.1 q.1)
  good_datum most (Minus a b) h c k = let p = and_parts (is_datum fields scope a) (is_datum fields scope b) h in let q = and_parts (is_narrow_datum most a) (is_narrow_datum most b) k in (good_datum most a p.0 c.0 q.0, good_datum most b p.1 c.1 q.1)
  good_datum most (Times a b) h c k = let p = and_parts (is_datum fields scope a) (is_datum fields scope b) h in let q = and_parts (is_narrow_datum most a) (is_narrow_datum most b) k in (good_datum most a p.0 c.0 q.0, good_datum most b p.1 c.1 q.1)
  good_datum most (Select a b c d) h r k =
      let p = and_parts (is_datum fields scope a && is_datum fields scope b) (is_datum fields scope c && is_datum fields scope d) h in
      let left = and_parts (is_datum fields scope a) (is_datum fields scope b) p.0 in
      let right = and_parts (is_datum fields scope c) (is_datum fields scope d) p.1 in
      let q = and_parts (is_narrow_datum most a && is_narrow_datum most b && is_narrow_datum most c) (is_narrow_datum most d) k in
      let t = and_parts (is_narrow_datum most a && is_narrow_datum most b) (is_narrow_datum most c) q.0 in
      let s = and_parts (is_narrow_datum most a) (is_narrow_datum most b) t.0 in
      (good_datum most a left.0 r.0 s.0, good_datum most b left.1 r.1 s.1, good_datum most c right.0 r.2 t.1, good_datum most d right.1 r.3 q.1)

  -- ---- windows

  good_coord : (most : ℕ → ℕ) (c : Coord) → is_coord fields scope c ≡ true → is_narrow_coord most c ≡ true → IsGoodCoord forms most c
  good_coord most (At a) h k = good most a h k
  good_coord most (Span a b) h k = let p = and_parts (is_control fields plainly scope a) (is_control fields plainly scope b) h in let q = and_parts (is_narrow most a) (is_narrow most b) k in (good most a p.0 q.0, good most b p.1 q.1)

  pub good_coords : (most : ℕ → ℕ) (cs : List Coord) → list_all (is_coord fields scope) cs ≡ true → are_narrow_coords most cs ≡ true → AreGoodCoords forms most cs
  good_coords most [] h k = tt
  good_coords most (c ∷ cs) h k = let p = and_parts (is_coord fields scope c) (list_all (is_coord fields scope) cs) h in let q = and_parts (is_narrow_coord most c) (are_narrow_coords most cs) k in (good_coord most c p.0 q.0, good_coords most cs p.1 q.1)

  -- ---- with fields and strides

  module _ (declared : Declared) (may : Reads) where
    -- each field that is read is declared
    abbrev pub Covers : (ℕ → Bool) → Type 0
    Covers reads = (f : ℕ) → reads f ≡ true → declared f ≡ true

    pub cover_left : (p q : ℕ → Bool) → Covers (λ f. p f || q f) → Covers p
    cover_left p q h f e = h f (ap (λ b. b || q f) e)

    pub cover_right : (p q : ℕ → Bool) → Covers (λ f. p f || q f) → Covers q
    cover_right p q h f e = h f (either (p f) (q f) e)
      where
        either : (a b : Bool) → b ≡ true → (a || b) ≡ true
        either true b i = refl
        either false b i = i

    pub open_control : (e : Control) → is_control fields may scope e ≡ true → Covers (λ f. in_control f e) → IsOpen declared forms e
    open_control (Lit n) h c = tt
    open_control (Var x) h c = number_form (lanes x) (sort_in scope x) (forms x) (stand x) h
    open_control (Field f) h c = c f (own f)
      where
        own : (n : ℕ) → (n == n) ≡ true
        own n = grind arith
    open_control (StrideOf x k) h c = stride_form forms x (lanes x) k (sort_in scope x) (stand x) (and_parts may.strides (has_dimension k (sort_in scope x)) h).1
    open_control (Neg a) h c = open_control a h c
    open_control (Add a b) h c = let p = and_parts (is_control fields may scope a) (is_control fields may scope b) h in (open_control a p.0 (cover_left (λ f. in_control f a) (λ f. in_control f b) c), open_control b p.1 (cover_right (λ f. in_control f a) (λ f. in_control f b) c))
    open_control (Sub a b) h c = let p = and_parts (is_control fields may scope a) (is_control fields may scope b) h in (open_control a p.0 (cover_left (λ f. in_control f a) (λ f. in_control f b) c), open_control b p.1 (cover_right (λ f. in_control f a) (λ f. in_control f b) c))
    open_control (Mul a b) h c =
        let q = (and_parts (is_control fields may scope a && is_control fields may scope b) (is_of_literals a || is_of_literals b) h).0 in
        let p = and_parts (is_control fields may scope a) (is_control fields may scope b) q in (open_control a p.0 (cover_left (λ f. in_control f a) (λ f. in_control f b) c), open_control b p.1 (cover_right (λ f. in_control f a) (λ f. in_control f b) c))
    open_control (Div a d) h c = let p = and_parts (is_control fields may scope a) (is_literal_number d && int_lt (pos 0) d) h in (open_control a p.0 c, divisor d p.1)
    open_control (Mod a d) h c = let p = and_parts (is_control fields may scope a) (is_literal_number d && int_lt (pos 0) d) h in (open_control a p.0 c, divisor d p.1)

    module _ (most : ℕ → ℕ) where
      pub good_open : (e : Control) → is_control fields may scope e ≡ true → Covers (λ f. in_control f e) → is_narrow most e ≡ true → IsGoodOpen declared forms most e
      good_open e h c k = (open_control e h c, narrow most e k)

      both_open : (a b : Control) → (is_control fields may scope a && is_control fields may scope b) ≡ true → Covers (λ f. in_control f a || in_control f b) → (is_narrow most a && is_narrow most b) ≡ true → IsGoodOpen declared forms most a × IsGoodOpen declared forms most b
      both_open a b h c k =
          let p = and_parts (is_control fields may scope a) (is_control fields may scope b) h in
          let q = and_parts (is_narrow most a) (is_narrow most b) k in
          (good_open a p.0 (cover_left (λ f. in_control f a) (λ f. in_control f b) c) q.0, good_open b p.1 (cover_right (λ f. in_control f a) (λ f. in_control f b) c) q.1)

      pub good_test : (c : Condition) → is_condition fields may scope c ≡ true → Covers (λ f. in_condition f c) → is_narrow_test most c ≡ true → IsGoodTest declared forms most c
      good_test True h c k = tt
      good_test False h c k = tt
      good_test (Flag x) h c k = flag_form (lanes x) (sort_in scope x) (forms x) (stand x) h
      good_test (FieldFlag f) h c k = c f (own f)
        where
          own : (n : ℕ) → (n == n) ≡ true
          own n = grind arith
      good_test (Lt a b) h c k = both_open a b h c k
      good_test (Le a b) h c k = both_open a b h c k
      good_test (Gt a b) h c k = both_open a b h c k
      good_test (Ge a b) h c k = both_open a b h c k
      good_test (Eq a b) h c k = both_open a b h c k
      good_test (And a b) h c k =
          let p = and_parts (is_condition fields may scope a) (is_condition fields may scope b) h in
          let q = and_parts (is_narrow_test most a) (is_narrow_test most b) k in
          (good_test a p.0 (cover_left (λ f. in_condition f a) (λ f. in_condition f b) c) q.0, good_test b p.1 (cover_right (λ f. in_condition f a) (λ f. in_condition f b) c) q.1)
      good_test (Or a b) h c k =
          let p = and_parts (is_condition fields may scope a) (is_condition fields may scope b) h in
          let q = and_parts (is_narrow_test most a) (is_narrow_test most b) k in
          (good_test a p.0 (cover_left (λ f. in_condition f a) (λ f. in_condition f b) c) q.0, good_test b p.1 (cover_right (λ f. in_condition f a) (λ f. in_condition f b) c) q.1)
