-- What buffer names see, and that claims bring places, values and windows about.
use Rattle.std.proofs.Common.{◌≡◌, ℕ, ℤ, pos, ◌+ℤ◌, ◌-ℤ◌, ◌*ℤ◌, neg_ℤ, int_le, int_lt, Bool, true, ◌&&◌, List, [], ◌∷◌, ◌++◌, map, length, Option, Some, None, option_map, arith, refl, sym, ap, ap₂, ◌∙◌, subst, eqb-true}
use Rattle.std.specs.Prelude.{IsSome}
use Rattle.std.specs.List.{list_all}
use Rattle.std.specs.Int.{int_div_euclid, int_rem_euclid}
use Rattle.std.proofs.lemmas.Int.{ints}
use Rattle.exo_tree.specs.Tree.{Cell, Kind, Control, Lit, Var, Field, StrideOf, Neg, Add, Sub, Mul, Div, Mod, Datum, Const, Read, Negated, Relu, Plus, Minus, Times, Select, Coord, At, Span, Argument}
use Rattle.exo_meaning.specs.Value.{Value, stored_as, on_four, selected}
use Rattle.exo_meaning.specs.Scene.{Shape, Side, Point, Range, Seen, Scene, then_do, number, numbers, holds, cell_at, is_below, extents, narrowed, window}
use Rattle.exo_meaning.specs.State as state
use Rattle.exo_meaning.specs.State.{State, Place, place, put, changed, held}
use Rattle.exo_meaning.specs.Calls.{all_positive, are_apart_at}
use Rattle.exo_meaning.specs.Orders.{Each}
use Rattle.exo_meaning.specs.Units.{Sort, ControlName, BufferName, Scope, sort_in, has_rank, is_number, is_rank, plainly, is_control, are_controls, is_access, is_datum, is_coord, is_window}
use Rattle.text_show.specs.Words.{Words}
use Rattle.meaning_laws.specs.Sound.{IsSound}
use Rattle.check_claims.specs.Claim.{Claim, Is, Apart}
use Rattle.check_claims.specs.Extents.{Extents, span_extents}
use Rattle.check_claims.specs.Claims.{at_least_one, index_claims, window_claims, read_claims, store_claims}
use Rattle.check_laws.proofs.OfClaims.Basics.{and_parts, and_true, no_test, Succeeds, succeeds_then, succeeds_map, succeeds_where, succeeds_as, head_same, tail_same, nil_cons, suc_same, each_left, each_right}

-- ---- what names see

-- the numbers of the expressions hang on the names in scope alone
abbrev pub DependOn : Scope → List Control → Type 0
DependOn scope es = (a b : Scene) → ((y : ℕ) → IsSome (sort_in scope y) → a.control y ≡ b.control y) → numbers a es ≡ numbers b es

-- a buffer name sees a part with these extents, each at least 1
pub record IsSeen (scope : Scope) (scene : Scene) (es : List Control) (rank : ℕ) (view : Option Seen) : Type 0 where
  pub seen : Seen
  pub view_is : view ≡ Some seen
  pub extents_are : extents seen.sides ≡ numbers scene es
  pub positive : all_positive (extents seen.sides) ≡ true
  pub rank_is : length es ≡ rank
  pub small : is_rank rank ≡ true
  pub steady : DependOn scope es

-- each buffer name in scope sees its extents
abbrev pub IsDescribed : Extents → Scope → Scene → Type 0
IsDescribed table scope scene = (x : ℕ) (cell : Cell) (rank : ℕ) (dense : Bool) → sort_in scope x ≡ Some (BufferName cell rank dense) → IsSeen scope scene (table x) rank (scene.views x)

-- the conditions of claims
abbrev pub IsHeld : Scene → Claim → Type 0
IsHeld scene (Is c text) = holds scene c ≡ true
IsHeld scene (Apart j k) = Unit {0}

-- the arguments that are to have no cell in common
abbrev pub IsKeptApart : Scene → List Argument → Claim → Type 0
IsKeptApart scene args (Is c text) = Unit {0}
IsKeptApart scene args (Apart j k) = are_apart_at scene args j k ≡ true

abbrev pub Hold : Scene → List Claim → Type 0
Hold scene cs = Each (IsHeld scene) cs

pub ranked : (n : ℕ) (o : Option Sort) → has_rank n o ≡ true → (cell : Cell) × (dense : Bool) × (o ≡ Some (BufferName cell n dense))
ranked n None h = no_test h
ranked n (Some (ControlName kind)) h = no_test h
ranked n (Some (BufferName cell rank dense)) h = (cell, dense, ap (λ r. Some (BufferName cell r dense)) (sym (eqb-true n rank h)))

-- ---- expressions that hang on names in scope

number_in_scope : (o : Option Sort) → is_number o ≡ true → IsSome o
number_in_scope None h = no_test h
number_in_scope (Some sort) h = refl

module _ (fields : ℕ → Option Kind) (scope : Scope) (a b : Scene) (same : (y : ℕ) → IsSome (sort_in scope y) → a.control y ≡ b.control y) where
  number_steady : (e : Control) → is_control fields plainly scope e ≡ true → number a e ≡ number b e
  number_steady (Lit n) h = refl
  number_steady (Var x) h = same x (number_in_scope (sort_in scope x) h)
  number_steady (Field f) h = no_test h
  number_steady (StrideOf x k) h = no_test h
  number_steady (Neg e) h = ap neg_ℤ (number_steady e h)
  number_steady (Add d e) h = let p = and_parts (is_control fields plainly scope d) (is_control fields plainly scope e) h in ap₂ ◌+ℤ◌ (number_steady d p.0) (number_steady e p.1)
  number_steady (Sub d e) h = let p = and_parts (is_control fields plainly scope d) (is_control fields plainly scope e) h in ap₂ ◌-ℤ◌ (number_steady d p.0) (number_steady e p.1)
  number_steady (Mul d e) h =
      let q = and_parts (is_control fields plainly scope d && is_control fields plainly scope e) _ h in
      let p = and_parts (is_control fields plainly scope d) (is_control fields plainly scope e) q.0 in
      ap₂ ◌*ℤ◌ (number_steady d p.0) (number_steady e p.1)
  number_steady (Div e c) h = let p = and_parts (is_control fields plainly scope e) _ h in ap (λ n. int_div_euclid n c) (number_steady e p.0)
  number_steady (Mod e c) h = let p = and_parts (is_control fields plainly scope e) _ h in ap (λ n. int_rem_euclid n c) (number_steady e p.0)

  numbers_steady : (es : List Control) → are_controls fields plainly scope es ≡ true → numbers a es ≡ numbers b es
  numbers_steady [] h = refl
  numbers_steady (e ∷ es) h = let p = and_parts (is_control fields plainly scope e) (are_controls fields plainly scope es) h in ap₂ (λ n ns. n ∷ ns) (number_steady e p.0) (numbers_steady es p.1)

  spans_steady : (cs : List Coord) → list_all (is_coord fields scope) cs ≡ true → numbers a (span_extents cs) ≡ numbers b (span_extents cs)
  spans_steady [] h = refl
  spans_steady (At e ∷ cs) h = spans_steady cs (and_parts (is_control fields plainly scope e) (list_all (is_coord fields scope) cs) h).1
  spans_steady (Span d e ∷ cs) h =
      let p = and_parts (is_control fields plainly scope d && is_control fields plainly scope e) (list_all (is_coord fields scope) cs) h in
      let q = and_parts (is_control fields plainly scope d) (is_control fields plainly scope e) p.0 in
      ap₂ (λ n ns. n ∷ ns) (ap₂ ◌-ℤ◌ (number_steady e q.1) (number_steady d q.0)) (spans_steady cs p.1)

module _ (fields : ℕ → Option Kind) (scope : Scope) where
  pub controls_depend : (es : List Control) → are_controls fields plainly scope es ≡ true → DependOn scope es
  controls_depend es h a b same = numbers_steady fields scope a b same es h

  pub spans_depend : (cs : List Coord) → list_all (is_coord fields scope) cs ≡ true → DependOn scope (span_extents cs)
  spans_depend cs h a b same = spans_steady fields scope a b same cs h

-- the extents are those of the spans, each at least 1
abbrev pub AreSpans : Scene → List Coord → List Side → Type 0
AreSpans scene cs out = (extents out ≡ numbers scene (span_extents cs)) × (all_positive (extents out) ≡ true)

pub longer : (x y : ℤ) → int_lt x y ≡ true → int_le (pos 1) (y -ℤ x) ≡ true
longer x y h = grind (arith, ints)

-- ---- in one scene

module _ (w : Words) (scene : Scene) where
  indices_there : (sides : List Side) (is ds : List Control) → extents sides ≡ numbers scene ds → length ds ≡ length is → Hold scene (index_claims w is ds) → Succeeds (cell_at sides (numbers scene is)) (λ at. Unit {0})
  indices_there [] [] ds e r h = tt
  indices_there [] (i ∷ is) [] e r h = absurd (omega arith)
  indices_there [] (i ∷ is) (d ∷ ds) e r h = absurd (nil_cons e)
  indices_there (Point p ∷ sides) is ds e r h = succeeds_map (λ at. Unit {0}) (λ at. Unit {0}) (cell_at sides (numbers scene is)) (λ at. p ∷ at) (indices_there sides is ds e r h) (λ at u. tt)
  indices_there (Range lo n ∷ sides) is [] e r h = absurd (nil_cons (sym e))
  indices_there (Range lo n ∷ sides) [] (d ∷ ds) e r h = absurd (omega arith)
  indices_there (Range lo n ∷ sides) (i ∷ is) (d ∷ ds) e r h =
      let is_d = head_same n (number scene d) (extents sides) (numbers scene ds) e in
      let rest = indices_there sides is ds (tail_same n (number scene d) (extents sides) (numbers scene ds) e) (suc_same (length ds) (length is) r) h.1.1 in
      succeeds_where (λ at. Unit {0}) (is_below (number scene i) n) (option_map (λ at. (lo +ℤ number scene i) ∷ at) (cell_at sides (numbers scene is)))
      (and_true (int_le (pos 0) (number scene i)) (int_lt (number scene i) n) h.0 (ap (int_lt (number scene i)) is_d ∙ h.1.0))
      (succeeds_map (λ at. Unit {0}) (λ at. Unit {0}) (cell_at sides (numbers scene is)) (λ at. (lo +ℤ number scene i) ∷ at) rest (λ at u. tt))

  pub dims_positive : (ds : List Control) → Hold scene (map (at_least_one w) ds) → all_positive (numbers scene ds) ≡ true
  dims_positive [] h = refl
  dims_positive (d ∷ ds) h = and_true (int_le (pos 1) (number scene d)) (all_positive (numbers scene ds)) h.0 (dims_positive ds h.1)

  windows_there : (sides : List Side) (cs : List Coord) (ds : List Control) → extents sides ≡ numbers scene ds → length ds ≡ length cs → Hold scene (window_claims w cs ds) → Succeeds (narrowed scene sides cs) (AreSpans scene cs)
  windows_there [] [] ds e r h = (refl, refl)
  windows_there [] (c ∷ cs) [] e r h = absurd (omega arith)
  windows_there [] (c ∷ cs) (d ∷ ds) e r h = absurd (nil_cons e)
  windows_there (Point p ∷ sides) cs ds e r h = succeeds_map (AreSpans scene cs) (AreSpans scene cs) (narrowed scene sides cs) (λ rest. Point p ∷ rest) (windows_there sides cs ds e r h) (λ out k. k)
  windows_there (Range lo n ∷ sides) cs [] e r h = absurd (nil_cons (sym e))
  windows_there (Range lo n ∷ sides) [] (d ∷ ds) e r h = absurd (omega arith)
  windows_there (Range lo n ∷ sides) (At a ∷ cs) (d ∷ ds) e r h =
      let is_d = head_same n (number scene d) (extents sides) (numbers scene ds) e in
      let rest = windows_there sides cs ds (tail_same n (number scene d) (extents sides) (numbers scene ds) e) (suc_same (length ds) (length cs) r) h.1.1 in
      succeeds_where (AreSpans scene cs) (is_below (number scene a) n) (option_map (λ r. Point (lo +ℤ number scene a) ∷ r) (narrowed scene sides cs))
      (and_true (int_le (pos 0) (number scene a)) (int_lt (number scene a) n) h.0 (ap (int_lt (number scene a)) is_d ∙ h.1.0))
      (succeeds_map (AreSpans scene cs) (AreSpans scene cs) (narrowed scene sides cs) (λ r. Point (lo +ℤ number scene a) ∷ r) rest (λ out k. k))
  windows_there (Range lo n ∷ sides) (Span a b ∷ cs) (d ∷ ds) e r h =
      let i = number scene a in
      let j = number scene b in
      let is_d = head_same n (number scene d) (extents sides) (numbers scene ds) e in
      let rest = windows_there sides cs ds (tail_same n (number scene d) (extents sides) (numbers scene ds) e) (suc_same (length ds) (length cs) r) h.1.1.1 in
      let out : List Side → List Side = λ r. Range (lo +ℤ i) (j -ℤ i) ∷ r in
      succeeds_where (AreSpans scene (Span a b ∷ cs)) (int_le (pos 0) i && int_lt i j && int_le j n) (option_map out (narrowed scene sides cs))
      (and_true (int_le (pos 0) i && int_lt i j) (int_le j n) (and_true (int_le (pos 0) i) (int_lt i j) h.0 h.1.0) (ap (int_le j) is_d ∙ h.1.1.0))
      (succeeds_map (AreSpans scene cs) (AreSpans scene (Span a b ∷ cs)) (narrowed scene sides cs) out rest (λ r k. (ap (λ z. (j -ℤ i) ∷ z) k.0, and_true (int_le (pos 1) (j -ℤ i)) (all_positive (extents r)) (longer i j h.1.0) k.1)))

-- ---- in one state, whose names are described

module _ (w : Words) (fields : ℕ → Option Kind) (table : Extents) (scope : Scope) (s : State) (described : IsDescribed table scope s.scene) (sound : IsSound s) where
  pub seen_of_rank : (n x : ℕ) → has_rank n (sort_in scope x) ≡ true → IsSeen scope s.scene (table x) n (s.scene.views x)
  seen_of_rank n x h = let r = ranked n (sort_in scope x) h in described x r.0 n r.1 r.2

  place_there : (x : ℕ) (is : List Control) → is_access fields scope x is ≡ true → Hold s.scene (index_claims w is (table x)) → Succeeds (place s.scene x is) (λ p. IsSome (s.scene.buffers p.buffer))
  place_there x is h m =
      let k = and_parts (has_rank (length is) (sort_in scope x)) (are_controls fields plainly scope is) h in
      let v = seen_of_rank (length is) x k.0 in
      subst (λ o. Succeeds (then_do o (λ seen. option_map (at_cell seen) (cell_at seen.sides (numbers s.scene is)))) (λ p. IsSome (s.scene.buffers p.buffer))) (sym v.view_is)
      (succeeds_map (λ at. Unit {0}) (λ p. IsSome (s.scene.buffers p.buffer)) (cell_at v.seen.sides (numbers s.scene is)) (at_cell v.seen) (indices_there w s.scene v.seen.sides is (table x) v.extents_are v.rank_is m) (λ at u. sound.seen x v.seen v.view_is))
    where
      at_cell : Seen → List ℤ → Place
      at_cell seen at = record { buffer = seen.buffer; at = at }

  abbrev There : Datum → Type 0
  There e = Succeeds (state.value s e) (λ z. Unit {0})

  both_there : (a b : Datum) (f : Value → Value → Value) → There a → There b → Succeeds (then_do (state.value s a) (λ x. option_map (f x) (state.value s b))) (λ z. Unit {0})
  both_there a b f h k = succeeds_then (λ z. Unit {0}) (λ z. Unit {0}) (state.value s a) (λ x. option_map (f x) (state.value s b)) h (λ x u. succeeds_map (λ z. Unit {0}) (λ z. Unit {0}) (state.value s b) (f x) k (λ y v. tt))

  all_there : (a b c d : Datum) → There a → There b → There c → There d → There (Select a b c d)
  all_there a b c d h k m n =
      succeeds_then (λ z. Unit {0}) (λ z. Unit {0}) (state.value s a) (λ x. then_do (state.value s b) (λ v. then_do (state.value s c) (λ y. option_map (on_four selected x v y) (state.value s d)))) h (λ x u.
      succeeds_then (λ z. Unit {0}) (λ z. Unit {0}) (state.value s b) (λ v. then_do (state.value s c) (λ y. option_map (on_four selected x v y) (state.value s d))) k (λ v t. both_there c d (on_four selected x v) m n))

  value_there : (e : Datum) → is_datum fields scope e ≡ true → Hold s.scene (read_claims w table e) → There e
  value_there (Const n) h m = tt
  value_there (Read x is) h m = succeeds_map (λ p. IsSome (s.scene.buffers p.buffer)) (λ z. Unit {0}) (place s.scene x is) (held s.cells) (place_there x is h m) (λ p u. tt)
  value_there (Negated a) h m = succeeds_map (λ z. Unit {0}) (λ z. Unit {0}) (state.value s a) _ (value_there a h m) (λ z u. tt)
  value_there (Relu a) h m = succeeds_map (λ z. Unit {0}) (λ z. Unit {0}) (state.value s a) _ (value_there a h m) (λ z u. tt)
  value_there (Plus a b) h m =
      let k = and_parts (is_datum fields scope a) (is_datum fields scope b) h in
      both_there a b _ (value_there a k.0 (each_left (IsHeld s.scene) (read_claims w table a) (read_claims w table b) m)) (value_there b k.1 (each_right (IsHeld s.scene) (read_claims w table a) (read_claims w table b) m))
  value_there (Minus a b) h m =
      let k = and_parts (is_datum fields scope a) (is_datum fields scope b) h in
      both_there a b _ (value_there a k.0 (each_left (IsHeld s.scene) (read_claims w table a) (read_claims w table b) m)) (value_there b k.1 (each_right (IsHeld s.scene) (read_claims w table a) (read_claims w table b) m))
  value_there (Times a b) h m =
      let k = and_parts (is_datum fields scope a) (is_datum fields scope b) h in
      both_there a b _ (value_there a k.0 (each_left (IsHeld s.scene) (read_claims w table a) (read_claims w table b) m)) (value_there b k.1 (each_right (IsHeld s.scene) (read_claims w table a) (read_claims w table b) m))
  value_there (Select a b c d) h m =
      let k = and_parts (is_datum fields scope a && is_datum fields scope b) (is_datum fields scope c && is_datum fields scope d) h in
      let j = and_parts (is_datum fields scope a) (is_datum fields scope b) k.0 in
      let i = and_parts (is_datum fields scope c) (is_datum fields scope d) k.1 in
      let ra = read_claims w table a in
      let rb = read_claims w table b in
      let rc = read_claims w table c in
      let rd = read_claims w table d in
      let p = each_left (IsHeld s.scene) (ra ++ rb ++ rc) rd m in
      let q = each_left (IsHeld s.scene) (ra ++ rb) rc p in
      all_there a b c d (value_there a j.0 (each_left (IsHeld s.scene) ra rb q)) (value_there b j.1 (each_right (IsHeld s.scene) ra rb q)) (value_there c i.0 (each_right (IsHeld s.scene) (ra ++ rb) rc p)) (value_there d i.1 (each_right (IsHeld s.scene) (ra ++ rb ++ rc) rd m))

  put_there : (f : Value → Value) (p : Place) → IsSome (s.scene.buffers p.buffer) → Succeeds (put s f p) (λ t. Unit {0})
  put_there f p h = go (s.scene.buffers p.buffer) h
    where
      go : (o : Option Shape) → IsSome o → Succeeds (option_map (λ shape. record s { cells = changed s.cells p (λ old. stored_as shape.cell (f old)) }) o) (λ t. Unit {0})
      go None k = no_test k
      go (Some shape) k = tt

  pub store_there : (x : ℕ) (is : List Control) (e : Datum) (f : Value → Value → Value) → (is_access fields scope x is && is_datum fields scope e) ≡ true → Hold s.scene (store_claims w table x is e) → Succeeds (then_do (place s.scene x is) (λ p. then_do (state.value s e) (λ z. put s (f z) p))) (λ t. Unit {0})
  store_there x is e f h m =
      let k = and_parts (is_access fields scope x is) (is_datum fields scope e) h in
      succeeds_then (λ p. IsSome (s.scene.buffers p.buffer)) (λ t. Unit {0}) (place s.scene x is) _ (place_there x is k.0 (each_left (IsHeld s.scene) (index_claims w is (table x)) (read_claims w table e) m)) (λ p there.
      succeeds_then (λ z. Unit {0}) (λ t. Unit {0}) (state.value s e) _ (value_there e k.1 (each_right (IsHeld s.scene) (index_claims w is (table x)) (read_claims w table e) m)) (λ z u. put_there (f z) p there))

  -- the window is there, a part of what the name sees, with the extents of its spans, each at least 1
  pub record IsPart (x : ℕ) (cs : List Coord) (part : Seen) : Type 0 where
    pub of : Seen
    pub view_is : s.scene.views x ≡ Some of
    pub narrowed_is : narrowed s.scene of.sides cs ≡ Some part.sides
    pub buffer_is : part.buffer ≡ of.buffer
    pub extents_are : extents part.sides ≡ numbers s.scene (span_extents cs)
    pub positive : all_positive (extents part.sides) ≡ true

  pub window_there : (x : ℕ) (cs : List Coord) → is_window fields scope x cs ≡ true → Hold s.scene (window_claims w cs (table x)) → Succeeds (window s.scene x cs) (IsPart x cs)
  window_there x cs h m =
      let k = and_parts (has_rank (length cs) (sort_in scope x)) (list_all (is_coord fields scope) cs) h in
      let v = seen_of_rank (length cs) x k.0 in
      subst (λ o. Succeeds (then_do o (λ seen. option_map (with_sides seen) (narrowed s.scene seen.sides cs))) (IsPart x cs)) (sym v.view_is)
      (succeeds_map (λ out. (narrowed s.scene v.seen.sides cs ≡ Some out) × AreSpans s.scene cs out) (IsPart x cs) (narrowed s.scene v.seen.sides cs) (with_sides v.seen)
      (succeeds_as (AreSpans s.scene cs) (λ out. (narrowed s.scene v.seen.sides cs ≡ Some out) × AreSpans s.scene cs out) (narrowed s.scene v.seen.sides cs) (windows_there w s.scene v.seen.sides cs (table x) v.extents_are v.rank_is m) (λ out e k. (e, k)))
      (λ out e. record { of = v.seen; view_is = v.view_is; narrowed_is = e.0; buffer_is = refl; extents_are = e.1.0; positive = e.1.1 }))
    where
      with_sides : Seen → List Side → Seen
      with_sides seen sides = record { buffer = seen.buffer; sides = sides }
