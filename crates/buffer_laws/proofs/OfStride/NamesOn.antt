-- A block that uses no other name of a window's buffer, with another buffer in its place.
use Rattle.std.proofs.Common.{◌≡◌, ◌==◌, ◌||◌, ◌&&◌, not, cond, ℕ, Bool, true, false, true≢false}
use Rattle.std.proofs.Common.{List, [], ◌∷◌, refl, sym, ap, ap₂, ◌∙◌, eqb-true, eq-eqb}
use Rattle.exo_tree.specs.Tree.{Control, Lit, Var, Field, StrideOf, Neg, Add, Sub, Mul, Div, Mod}
use Rattle.exo_tree.specs.Tree.{Condition, True, False, Flag, FieldFlag, Lt, Le, Gt, Ge, Eq, And}
use Rattle.exo_tree.specs.Tree.{Or}
use Rattle.exo_tree.specs.Tree.{Datum, Const, Read, Negated, Relu, Plus, Minus, Times, Select}
use Rattle.exo_tree.specs.Tree.{Coord, At, Span, Argument, ControlArg, ConditionArg, Whole, Window}
use Rattle.exo_tree.specs.Tree.{Statement, Assign, Reduce, Config, Pass, If, For, Alloc, View, Call}
use Rattle.exo_tree.specs.Tree.{Block, end, next}
use Rattle.exo_meaning.specs.Scene.{updated}
use Rattle.exo_meaning.specs.Unseen as seen
use Rattle.exo_meaning.proofs.Frame.{or_parts, updated_other}
use Rattle.meaning_laws.specs.Scoped.{has_binder}
use Rattle.buffer_laws.specs.Staging.Alone.{has_root}
use Rattle.buffer_laws.specs.Staging.Converted.{indices_on, coords_on, indices_at, coords_at, converted}
use Rattle.buffer_laws.specs.Staging.Converted.{converted_datum, converted_argument, converted_arguments}
use Rattle.buffer_laws.specs.Staging.Converted.{converted_statement, name_on}
use Rattle.buffer_laws.specs.StageMem.{is_alias}
use Rattle.buffer_laws.specs.Stride.Refusals.{NamesOnLaw}

-- three tests that fail at once
abbrev All : Bool → Bool → Bool → Type 0
All t u v = (t ≡ false) × (u ≡ false) × (v ≡ false)

firsts : (t u v w y z : Bool) → All (t || u) (v || w) (y || z) → All t v y
firsts t u v w y z h = ((or_parts t u h.0).0, (or_parts v w h.1).0, (or_parts y z h.2).0)

seconds : (t u v w y z : Bool) → All (t || u) (v || w) (y || z) → All u w z
seconds t u v w y z h = ((or_parts t u h.0).1, (or_parts v w h.1).1, (or_parts y z h.2).1)

-- what holds of the parts of two trees
both : (t u v w y z p q : Bool) → (All t v y → p ≡ false) → (All u w z → q ≡ false)
    → All (t || u) (v || w) (y || z) → (p || q) ≡ false
both t u v w y z p q f g h = ap₂ ◌||◌ (f (firsts t u v w y z h)) (g (seconds t u v w y z h))

module _ (root : ℕ → ℕ) (a x : ℕ) (coords : List Coord) (whole : Block)
    (apart : (root x == a) ≡ false)
    (bound : (y : ℕ) → has_binder whole y ≡ true → (root x == root y) ≡ false)
    (free : seen.in_coords (has_root (updated root a a) (root x)) coords ≡ false) where
  abbrev is_a : ℕ → Bool
  is_a y = y == a

  abbrev is_x : ℕ → Bool
  is_x y = y == x

  abbrev alias : ℕ → Bool
  alias = is_alias root x whole

  abbrev of_root : ℕ → Bool
  of_root = has_root (updated root a a) (root x)

  own : of_root a ≡ false
  own = ap (λ t. root x == cond t a (root a)) (eq-eqb a a refl) ∙ apart

  -- a name that is neither a, x nor another name of the root
  name : (y : ℕ) → All (is_a y) (alias y) (is_x y) → of_root y ≡ false
  name y h = ap (λ n. root x == n) (updated_other root a a y h.0)
      ∙ go (root x == root y) (has_binder whole y) refl refl
    where
      go : (t u : Bool) → (root x == root y) ≡ t → has_binder whole y ≡ u → t ≡ false
      go false u e f = refl
      go true true e f = sym e ∙ bound y f
      go true false e f = absurd (true≢false (sym (
          ap₂ (λ q r. q && (not r && not (has_binder whole y)))
          (eq-eqb (root y) (root x) (sym (eqb-true (root x) (root y) e))) h.2
          ∙ ap not f) ∙ h.1))

  access : (y : ℕ) → is_a y ≡ false → alias y ≡ false → is_x (name_on a x coords y) ≡ false
      → of_root (name_on a x coords y) ≡ false
  access y k l m = go (y == x) refl m
    where
      go : (t : Bool) → (y == x) ≡ t → is_x (cond t a y) ≡ false
          → of_root (cond t a y) ≡ false
      go true e n = own
      go false e n = name y (k, l, e)

  control : (e : Control) → All (seen.in_control is_a e) (seen.in_control alias e)
      (seen.in_control is_x e) → seen.in_control of_root e ≡ false
  control (Lit n) h = refl
  control (Var y) h = name y h
  control (Field f) h = refl
  control (StrideOf y n) h = name y h
  control (Neg e) h = control e h
  control (Add e f) h = both _ _ _ _ _ _ _ _ (control e) (control f) h
  control (Sub e f) h = both _ _ _ _ _ _ _ _ (control e) (control f) h
  control (Mul e f) h = both _ _ _ _ _ _ _ _ (control e) (control f) h
  control (Div e c) h = control e h
  control (Mod e c) h = control e h

  controls : (es : List Control) → All (seen.in_controls is_a es) (seen.in_controls alias es)
      (seen.in_controls is_x es) → seen.in_controls of_root es ≡ false
  controls [] h = refl
  controls (e ∷ es) h = both _ _ _ _ _ _ _ _ (control e) (controls es) h

  condition : (c : Condition) → All (seen.in_condition is_a c) (seen.in_condition alias c)
      (seen.in_condition is_x c) → seen.in_condition of_root c ≡ false
  condition True h = refl
  condition False h = refl
  condition (Flag y) h = name y h
  condition (FieldFlag f) h = refl
  condition (Lt d e) h = both _ _ _ _ _ _ _ _ (control d) (control e) h
  condition (Le d e) h = both _ _ _ _ _ _ _ _ (control d) (control e) h
  condition (Gt d e) h = both _ _ _ _ _ _ _ _ (control d) (control e) h
  condition (Ge d e) h = both _ _ _ _ _ _ _ _ (control d) (control e) h
  condition (Eq d e) h = both _ _ _ _ _ _ _ _ (control d) (control e) h
  condition (And c d) h = both _ _ _ _ _ _ _ _ (condition c) (condition d) h
  condition (Or c d) h = both _ _ _ _ _ _ _ _ (condition c) (condition d) h

  coords_all : (ds : List Coord) → All (seen.in_coords is_a ds) (seen.in_coords alias ds)
      (seen.in_coords is_x ds) → seen.in_coords of_root ds ≡ false
  coords_all [] h = refl
  coords_all (At e ∷ ds) h = both _ _ _ _ _ _ _ _ (control e) (coords_all ds) h
  coords_all (Span e f ∷ ds) h =
      both _ _ _ _ _ _ _ _ (control e) (both _ _ _ _ _ _ _ _ (control f) (coords_all ds)) h

  -- what is made of indices and coordinates; those under a point are left out
  indices_made : (cs : List Coord) (is : List Control) → seen.in_coords of_root cs ≡ false
      → seen.in_controls is_a is ≡ false → seen.in_controls alias is ≡ false
      → seen.in_controls is_x (indices_on cs is) ≡ false
      → seen.in_controls of_root (indices_on cs is) ≡ false
  indices_made [] is h k l m = refl
  indices_made (At u ∷ cs) [] h k l m = refl
  indices_made (Span u v ∷ cs) [] h k l m = refl
  indices_made (At u ∷ cs) (e ∷ is) h k l m =
      indices_made cs is (or_parts (seen.in_control of_root u) _ h).1
      (or_parts (seen.in_control is_a e) _ k).1 (or_parts (seen.in_control alias e) _ l).1 m
  indices_made (Span u v ∷ cs) (e ∷ is) h k l m =
      let p = or_parts (seen.in_control of_root u) _ h in
      let o = or_parts (seen.in_control of_root v) _ p.1 in
      let q = or_parts (seen.in_control is_a e) _ k in
      let r = or_parts (seen.in_control alias e) _ l in
      let n = or_parts (seen.in_control is_x e || seen.in_control is_x u) _ m in
      ap₂ ◌||◌ (ap₂ ◌||◌ (control e (q.0, r.0, (or_parts (seen.in_control is_x e) _ n.0).0)) p.0)
      (indices_made cs is o.1 q.1 r.1 n.1)

  coords_made : (cs ds : List Coord) → seen.in_coords of_root cs ≡ false
      → seen.in_coords is_a ds ≡ false → seen.in_coords alias ds ≡ false
      → seen.in_coords is_x (coords_on cs ds) ≡ false
      → seen.in_coords of_root (coords_on cs ds) ≡ false
  coords_made [] ds h k l m = refl
  coords_made (At u ∷ cs) [] h k l m = refl
  coords_made (Span u v ∷ cs) [] h k l m = refl
  coords_made (At u ∷ cs) (At e ∷ ds) h k l m =
      coords_made cs ds (or_parts (seen.in_control of_root u) _ h).1
      (or_parts (seen.in_control is_a e) _ k).1 (or_parts (seen.in_control alias e) _ l).1 m
  coords_made (At u ∷ cs) (Span e f ∷ ds) h k l m =
      coords_made cs ds (or_parts (seen.in_control of_root u) _ h).1
      (or_parts (seen.in_control is_a f) _ (or_parts (seen.in_control is_a e) _ k).1).1
      (or_parts (seen.in_control alias f) _ (or_parts (seen.in_control alias e) _ l).1).1 m
  coords_made (Span u v ∷ cs) (At e ∷ ds) h k l m =
      let p = or_parts (seen.in_control of_root u) _ h in
      let o = or_parts (seen.in_control of_root v) _ p.1 in
      let q = or_parts (seen.in_control is_a e) _ k in
      let r = or_parts (seen.in_control alias e) _ l in
      let n = or_parts (seen.in_control is_x e || seen.in_control is_x u) _ m in
      ap₂ ◌||◌ (ap₂ ◌||◌ (control e (q.0, r.0, (or_parts (seen.in_control is_x e) _ n.0).0)) p.0)
      (coords_made cs ds o.1 q.1 r.1 n.1)
  coords_made (Span u v ∷ cs) (Span e f ∷ ds) h k l m =
      let p = or_parts (seen.in_control of_root u) _ h in
      let o = or_parts (seen.in_control of_root v) _ p.1 in
      let q = or_parts (seen.in_control is_a e) _ k in
      let qf = or_parts (seen.in_control is_a f) _ q.1 in
      let r = or_parts (seen.in_control alias e) _ l in
      let rf = or_parts (seen.in_control alias f) _ r.1 in
      let n = or_parts (seen.in_control is_x e || seen.in_control is_x u) _ m in
      let nf = or_parts (seen.in_control is_x f || seen.in_control is_x u) _ n.1 in
      ap₂ ◌||◌ (ap₂ ◌||◌ (control e (q.0, r.0, (or_parts (seen.in_control is_x e) _ n.0).0)) p.0)
      (ap₂ ◌||◌ (ap₂ ◌||◌ (control f (qf.0, rf.0, (or_parts (seen.in_control is_x f) _ nf.0).0))
      p.0) (coords_made cs ds o.1 qf.1 rf.1 nf.1))

  indices : (y : ℕ) (is : List Control) → All (seen.in_controls is_a is)
      (seen.in_controls alias is) (seen.in_controls is_x (indices_at a x coords y is))
      → seen.in_controls of_root (indices_at a x coords y is) ≡ false
  indices y is h = go (y == x) h.2
    where
      go : (t : Bool) → seen.in_controls is_x (cond t (indices_on coords is) is) ≡ false
          → seen.in_controls of_root (cond t (indices_on coords is) is) ≡ false
      go true m = indices_made coords is free h.0 h.1 m
      go false m = controls is (h.0, h.1, m)

  window_of : (y : ℕ) (ds : List Coord) → All (seen.in_coords is_a ds)
      (seen.in_coords alias ds) (seen.in_coords is_x (coords_at a x coords y ds))
      → seen.in_coords of_root (coords_at a x coords y ds) ≡ false
  window_of y ds h = go (y == x) h.2
    where
      go : (t : Bool) → seen.in_coords is_x (cond t (coords_on coords ds) ds) ≡ false
          → seen.in_coords of_root (cond t (coords_on coords ds) ds) ≡ false
      go true m = coords_made coords ds free h.0 h.1 m
      go false m = coords_all ds (h.0, h.1, m)

  used : (y : ℕ) → All (is_a y) (alias y) (is_x (name_on a x coords y))
      → of_root (name_on a x coords y) ≡ false
  used y h = access y h.0 h.1 h.2

  datum : (d : Datum) → All (seen.in_datum is_a d) (seen.in_datum alias d)
      (seen.in_datum is_x (converted_datum a x coords d))
      → seen.in_datum of_root (converted_datum a x coords d) ≡ false
  datum (Const n) h = refl
  datum (Read y is) h = both _ _ _ _ _ _ _ _ (used y) (indices y is) h
  datum (Negated d) h = datum d h
  datum (Relu d) h = datum d h
  datum (Plus d e) h = both _ _ _ _ _ _ _ _ (datum d) (datum e) h
  datum (Minus d e) h = both _ _ _ _ _ _ _ _ (datum d) (datum e) h
  datum (Times d e) h = both _ _ _ _ _ _ _ _ (datum d) (datum e) h
  datum (Select d e f g) h = both _ _ _ _ _ _ _ _ (datum d) (both _ _ _ _ _ _ _ _ (datum e)
      (both _ _ _ _ _ _ _ _ (datum f) (datum g))) h

  argument : (g : Argument) → All (seen.in_argument is_a g) (seen.in_argument alias g)
      (seen.in_argument is_x (converted_argument a x coords g))
      → seen.in_argument of_root (converted_argument a x coords g) ≡ false
  argument (ControlArg e) h = control e h
  argument (ConditionArg c) h = condition c h
  argument (Whole y) h = used y h
  argument (Window y ds) h = both _ _ _ _ _ _ _ _ (used y) (window_of y ds) h

  arguments : (gs : List Argument) → All (seen.in_arguments is_a gs) (seen.in_arguments alias gs)
      (seen.in_arguments is_x (converted_arguments a x coords gs))
      → seen.in_arguments of_root (converted_arguments a x coords gs) ≡ false
  arguments [] h = refl
  arguments (g ∷ gs) h = both _ _ _ _ _ _ _ _ (argument g) (arguments gs) h

  mutual
    block : (b : Block) → All (seen.in_block is_a b) (seen.in_block alias b)
        (seen.in_block is_x (converted a x coords b))
        → seen.in_block of_root (converted a x coords b) ≡ false
    block end h = refl
    block (next d b) h = both _ _ _ _ _ _ _ _ (statement d) (block b) h

    statement : (d : Statement) → All (seen.in_statement is_a d) (seen.in_statement alias d)
        (seen.in_statement is_x (converted_statement a x coords d))
        → seen.in_statement of_root (converted_statement a x coords d) ≡ false
    statement (Assign y is d) h = both _ _ _ _ _ _ _ _ (used y)
        (both _ _ _ _ _ _ _ _ (indices y is) (datum d)) h
    statement (Reduce y is d) h = both _ _ _ _ _ _ _ _ (used y)
        (both _ _ _ _ _ _ _ _ (indices y is) (datum d)) h
    statement (Config f g) h = argument g h
    statement Pass h = refl
    statement (If c b d) h = both _ _ _ _ _ _ _ _ (condition c)
        (both _ _ _ _ _ _ _ _ (block b) (block d)) h
    statement (For i lo hi b) h = both _ _ _ _ _ _ _ _ (name i.id)
        (both _ _ _ _ _ _ _ _ (control lo) (both _ _ _ _ _ _ _ _ (control hi) (block b))) h
    statement (Alloc y cell ds memory) h =
        both _ _ _ _ _ _ _ _ (name y.id) (controls ds) h
    statement (View w y ds) h = both _ _ _ _ _ _ _ _ (name w.id)
        (both _ _ _ _ _ _ _ _ (used y) (window_of y ds)) h
    statement (Call n gs) h = arguments gs h

pub names_on_law : NamesOnLaw
names_on_law root a x coords b new apart bound free left aliased =
    block root a x coords b apart bound free b (new, aliased, left)
