-- A block that uses no stride of a window's buffer, with another buffer in its place.
use Rattle.std.proofs.Common.{◌≡◌, ◌==◌, ◌||◌, ◌&&◌, cond, ℕ, Bool, true, false, true≢false, List}
use Rattle.std.proofs.Common.{[], ◌∷◌, Option, Some, None, refl, sym, ap, ap₂, ◌∙◌, eqb-true, eq-eqb}
use Rattle.exo_tree.specs.Tree.{Index, Control, Lit, Var, Field, StrideOf, Neg, Add, Sub, Mul, Div}
use Rattle.exo_tree.specs.Tree.{Mod}
use Rattle.exo_tree.specs.Tree.{Condition, True, False, Flag, FieldFlag, Lt, Le, Gt, Ge, Eq, And}
use Rattle.exo_tree.specs.Tree.{Or}
use Rattle.exo_tree.specs.Tree.{Datum, Const, Read, Negated, Relu, Plus, Minus, Times, Select}
use Rattle.exo_tree.specs.Tree.{Coord, At, Span, Argument, ControlArg, ConditionArg, Whole, Window}
use Rattle.exo_tree.specs.Tree.{Statement, Assign, Reduce, Config, Pass, If, For, Alloc, View, Call}
use Rattle.exo_tree.specs.Tree.{Block, end, next}
use Rattle.exo_meaning.specs.Calls.{Callee}
use Rattle.exo_meaning.specs.Modes.{call_has}
use Rattle.exo_meaning.specs.Run.{World, roots_after}
use Rattle.exo_meaning.specs.Scene.{updated}
use Rattle.exo_meaning.specs.Unseen as seen
use Rattle.exo_meaning.proofs.Frame.{or_parts, updated_other}
use Rattle.meaning_laws.specs.Scoped.{has_binder, step_has_binder}
use Rattle.meaning_laws.specs.Substitute.{is_plain}
use Rattle.meaning_laws.proofs.Substitute.{and_parts}
use Rattle.inplace_laws.specs.Uses as uses
use Rattle.inplace_laws.specs.Windows.{are_plain}
use Rattle.buffer_laws.specs.Staging.Converted.{indices_on, coords_on, indices_at, coords_at, converted}
use Rattle.buffer_laws.specs.Staging.Converted.{converted_datum, converted_argument, converted_arguments}
use Rattle.buffer_laws.specs.Staging.Converted.{converted_statement}
use Rattle.buffer_laws.proofs.OfStaging.ReadsOn.{other, on_a, Keeps, call_on, after}
use Rattle.buffer_laws.specs.Stride.Refusals.{StridesOnLaw}
use Rattle.buffer_laws.specs.Stride.Strides.{argument_uses, arguments_use, uses_strides}
use Rattle.buffer_laws.specs.Stride.Strides.{step_uses_strides}
use Rattle.buffer_laws.specs.Staging.Alone.{has_root}
use Rattle.inplace_laws.specs.CallInPlace.{no_name}

none : (t u v w : Bool) → (t ≡ false → v ≡ false) → (u ≡ false → w ≡ false)
    → (t || u) ≡ false → (v || w) ≡ false
none t u v w f g h = let p = or_parts t u h in ap₂ ◌||◌ (f p.0) (g p.1)

-- plain expressions use no strides
module _ (of_a : ℕ → Bool) where
  plain_control : (e : Control) → is_plain e ≡ true → uses.in_control no_name of_a e ≡ false
  plain_control (Lit n) h = refl
  plain_control (Var y) h = refl
  plain_control (Field f) h = refl
  plain_control (StrideOf y k) h = absurd (true≢false (sym h))
  plain_control (Neg e) h = plain_control e h
  plain_control (Add e f) h = let p = and_parts (is_plain e) (is_plain f) h in
      ap₂ ◌||◌ (plain_control e p.0) (plain_control f p.1)
  plain_control (Sub e f) h = let p = and_parts (is_plain e) (is_plain f) h in
      ap₂ ◌||◌ (plain_control e p.0) (plain_control f p.1)
  plain_control (Mul e f) h = let p = and_parts (is_plain e) (is_plain f) h in
      ap₂ ◌||◌ (plain_control e p.0) (plain_control f p.1)
  plain_control (Div e c) h = plain_control e h
  plain_control (Mod e c) h = plain_control e h

  indices_unused : (cs : List Coord) (is : List Control) → are_plain cs ≡ true
      → uses.in_controls no_name of_a is ≡ false
      → uses.in_controls no_name of_a (indices_on cs is) ≡ false
  indices_unused [] is p h = refl
  indices_unused (At u ∷ cs) [] p h = refl
  indices_unused (Span u v ∷ cs) [] p h = refl
  indices_unused (At u ∷ cs) (e ∷ is) p h =
      indices_unused cs is (and_parts (is_plain u) (are_plain cs) p).1
      (or_parts (uses.in_control no_name of_a e) _ h).1
  indices_unused (Span u v ∷ cs) (e ∷ is) p h =
      let q = and_parts (is_plain u) (is_plain v && are_plain cs) p in
      let r = and_parts (is_plain v) (are_plain cs) q.1 in
      let k = or_parts (uses.in_control no_name of_a e) _ h in
      ap₂ ◌||◌ (ap₂ ◌||◌ k.0 (plain_control u q.0)) (indices_unused cs is r.1 k.1)

  coords_unused : (cs ds : List Coord) → are_plain cs ≡ true
      → uses.in_coords no_name of_a ds ≡ false
      → uses.in_coords no_name of_a (coords_on cs ds) ≡ false
  coords_unused [] ds p h = refl
  coords_unused (At u ∷ cs) [] p h = refl
  coords_unused (Span u v ∷ cs) [] p h = refl
  coords_unused (At u ∷ cs) (At e ∷ ds) p h =
      coords_unused cs ds (and_parts (is_plain u) (are_plain cs) p).1
      (or_parts (uses.in_control no_name of_a e) _ h).1
  coords_unused (At u ∷ cs) (Span e f ∷ ds) p h =
      let k = or_parts (uses.in_control no_name of_a e) _ h in
      coords_unused cs ds (and_parts (is_plain u) (are_plain cs) p).1
      (or_parts (uses.in_control no_name of_a f) _ k.1).1
  coords_unused (Span u v ∷ cs) (At e ∷ ds) p h =
      let q = and_parts (is_plain u) (is_plain v && are_plain cs) p in
      let r = and_parts (is_plain v) (are_plain cs) q.1 in
      let k = or_parts (uses.in_control no_name of_a e) _ h in
      ap₂ ◌||◌ (ap₂ ◌||◌ k.0 (plain_control u q.0)) (coords_unused cs ds r.1 k.1)
  coords_unused (Span u v ∷ cs) (Span e f ∷ ds) p h =
      let q = and_parts (is_plain u) (is_plain v && are_plain cs) p in
      let r = and_parts (is_plain v) (are_plain cs) q.1 in
      let k = or_parts (uses.in_control no_name of_a e) _ h in
      let l = or_parts (uses.in_control no_name of_a f) _ k.1 in
      ap₂ ◌||◌ (ap₂ ◌||◌ k.0 (plain_control u q.0))
      (ap₂ ◌||◌ (ap₂ ◌||◌ l.0 (plain_control u q.0)) (coords_unused cs ds r.1 l.1))

module _ (called : ℕ → Option Callee) (sees : ℕ → ℕ → Bool) (a x : ℕ) (coords : List Coord)
    (rx : ℕ) (plain : are_plain coords ≡ true) where
  abbrev world : World
  world = record { kinds = λ f. Index; callees = called }

  abbrev is_a : ℕ → Bool
  is_a y = y == a

  -- what is no part of x's buffer is none of a, as it stands too
  abbrev Holds : (ℕ → ℕ) → (ℕ → ℕ) → Type 0
  Holds root new = (y : ℕ) → (y == a) ≡ false → (rx == root y) ≡ false → (a == new y) ≡ false

  module _ (root new : ℕ → ℕ) (keeps : Keeps world a x coords rx root new)
      (holds : Holds root new) where
    abbrev of_x : ℕ → Bool
    of_x = has_root root rx

    abbrev of_a : ℕ → Bool
    of_a = has_root new a

    control : (e : Control) → seen.in_control is_a e ≡ false
        → uses.in_control no_name of_x e ≡ false → uses.in_control no_name of_a e ≡ false
    control (Lit n) k h = refl
    control (Var y) k h = refl
    control (Field f) k h = refl
    control (StrideOf y n) k h = holds y k h
    control (Neg e) k h = control e k h
    control (Add e f) k h = let p = or_parts (seen.in_control is_a e) (seen.in_control is_a f) k in
        none _ _ _ _ (control e p.0) (control f p.1) h
    control (Sub e f) k h = let p = or_parts (seen.in_control is_a e) (seen.in_control is_a f) k in
        none _ _ _ _ (control e p.0) (control f p.1) h
    control (Mul e f) k h = let p = or_parts (seen.in_control is_a e) (seen.in_control is_a f) k in
        none _ _ _ _ (control e p.0) (control f p.1) h
    control (Div e c) k h = control e k h
    control (Mod e c) k h = control e k h

    controls : (es : List Control) → seen.in_controls is_a es ≡ false
        → uses.in_controls no_name of_x es ≡ false → uses.in_controls no_name of_a es ≡ false
    controls [] k h = refl
    controls (e ∷ es) k h =
        let p = or_parts (seen.in_control is_a e) (seen.in_controls is_a es) k in
        none _ _ _ _ (control e p.0) (controls es p.1) h

    two : (d e : Control) → (seen.in_control is_a d || seen.in_control is_a e) ≡ false
        → (uses.in_control no_name of_x d || uses.in_control no_name of_x e) ≡ false
        → (uses.in_control no_name of_a d || uses.in_control no_name of_a e) ≡ false
    two d e k h = let p = or_parts (seen.in_control is_a d) (seen.in_control is_a e) k in
        none _ _ _ _ (control d p.0) (control e p.1) h

    condition : (c : Condition) → seen.in_condition is_a c ≡ false
        → uses.in_condition no_name of_x c ≡ false → uses.in_condition no_name of_a c ≡ false
    condition True k h = refl
    condition False k h = refl
    condition (Flag y) k h = refl
    condition (FieldFlag f) k h = refl
    condition (Lt d e) k h = two d e k h
    condition (Le d e) k h = two d e k h
    condition (Gt d e) k h = two d e k h
    condition (Ge d e) k h = two d e k h
    condition (Eq d e) k h = two d e k h
    condition (And c d) k h =
        let p = or_parts (seen.in_condition is_a c) (seen.in_condition is_a d) k in
        none _ _ _ _ (condition c p.0) (condition d p.1) h
    condition (Or c d) k h =
        let p = or_parts (seen.in_condition is_a c) (seen.in_condition is_a d) k in
        none _ _ _ _ (condition c p.0) (condition d p.1) h

    coords_free : (ds : List Coord) → seen.in_coords is_a ds ≡ false
        → uses.in_coords no_name of_x ds ≡ false → uses.in_coords no_name of_a ds ≡ false
    coords_free [] k h = refl
    coords_free (At e ∷ ds) k h =
        let p = or_parts (seen.in_control is_a e) (seen.in_coords is_a ds) k in
        none _ _ _ _ (control e p.0) (coords_free ds p.1) h
    coords_free (Span e f ∷ ds) k h =
        let p = or_parts (seen.in_control is_a e) _ k in
        let q = or_parts (seen.in_control is_a f) (seen.in_coords is_a ds) p.1 in
        none _ _ _ _ (control e p.0) (none _ _ _ _ (control f q.0) (coords_free ds q.1)) h

    indices : (y : ℕ) (is : List Control) → seen.in_controls is_a is ≡ false
        → uses.in_controls no_name of_x is ≡ false
        → uses.in_controls no_name of_a (indices_at a x coords y is) ≡ false
    indices y is k h = go (y == x)
      where
        go : (t : Bool)
            → uses.in_controls no_name of_a (cond t (indices_on coords is) is) ≡ false
        go true = indices_unused of_a coords is plain (controls is k h)
        go false = controls is k h

    window_of : (y : ℕ) (ds : List Coord) → seen.in_coords is_a ds ≡ false
        → uses.in_coords no_name of_x ds ≡ false
        → uses.in_coords no_name of_a (coords_at a x coords y ds) ≡ false
    window_of y ds k h = go (y == x)
      where
        go : (t : Bool) → uses.in_coords no_name of_a (cond t (coords_on coords ds) ds) ≡ false
        go true = coords_unused of_a coords ds plain (coords_free ds k h)
        go false = coords_free ds k h

    datum : (d : Datum) → seen.in_datum is_a d ≡ false → uses.in_datum no_name of_x d ≡ false
        → uses.in_datum no_name of_a (converted_datum a x coords d) ≡ false
    datum (Const n) k h = refl
    datum (Read y is) k h = indices y is (or_parts (is_a y) (seen.in_controls is_a is) k).1 h
    datum (Negated d) k h = datum d k h
    datum (Relu d) k h = datum d k h
    datum (Plus d e) k h = let p = or_parts (seen.in_datum is_a d) (seen.in_datum is_a e) k in
        none _ _ _ _ (datum d p.0) (datum e p.1) h
    datum (Minus d e) k h = let p = or_parts (seen.in_datum is_a d) (seen.in_datum is_a e) k in
        none _ _ _ _ (datum d p.0) (datum e p.1) h
    datum (Times d e) k h = let p = or_parts (seen.in_datum is_a d) (seen.in_datum is_a e) k in
        none _ _ _ _ (datum d p.0) (datum e p.1) h
    datum (Select d e f g) k h =
        let p = or_parts (seen.in_datum is_a d) _ k in
        let q = or_parts (seen.in_datum is_a e) _ p.1 in
        let r = or_parts (seen.in_datum is_a f) (seen.in_datum is_a g) q.1 in
        none _ _ _ _ (datum d p.0) (none _ _ _ _ (datum e q.0)
        (none _ _ _ _ (datum f r.0) (datum g r.1))) h

    argument : (g : Argument) → seen.in_argument is_a g ≡ false
        → argument_uses root rx g ≡ false
        → argument_uses new a (converted_argument a x coords g) ≡ false
    argument (ControlArg e) k h = control e k h
    argument (ConditionArg c) k h = condition c k h
    argument (Whole y) k h = refl
    argument (Window y ds) k h = window_of y ds (or_parts (is_a y) (seen.in_coords is_a ds) k).1 h

    arguments : (gs : List Argument) → seen.in_arguments is_a gs ≡ false
        → arguments_use root rx gs ≡ false
        → arguments_use new a (converted_arguments a x coords gs) ≡ false
    arguments [] k h = refl
    arguments (g ∷ gs) k h =
        let p = or_parts (seen.in_argument is_a g) (seen.in_arguments is_a gs) k in
        none _ _ _ _ (argument g p.0) (arguments gs p.1) h

    call : (o : Option Callee) (w : ℕ → Bool) (gs : List Argument)
        → seen.in_arguments is_a gs ≡ false → call_has o w root rx gs ≡ false
        → call_has o w new a (converted_arguments a x coords gs) ≡ false
    call None w gs k h = refl
    call (Some c) w gs k h =
        call_on world a x coords rx root new keeps w c.procedure.params gs k h

    holds_after : (s : Statement) → seen.in_statement is_a s ≡ false
        → Holds (roots_after s root) (roots_after (converted_statement a x coords s) new)
    holds_after (Assign y is d) k = holds
    holds_after (Reduce y is d) k = holds
    holds_after (Config f g) k = holds
    holds_after Pass k = holds
    holds_after (If c b d) k = holds
    holds_after (For i lo hi b) k = holds
    holds_after (Call n gs) k = holds
    holds_after (Alloc z cell dims memory) k = λ y l m.
        go y l (y == z.id) (other z.id a (or_parts (is_a z.id) (seen.in_controls is_a dims) k).0) m
      where
        go : (y : ℕ) → (y == a) ≡ false → (t : Bool) → (a == z.id) ≡ false
            → (rx == cond t z.id (root y)) ≡ false → (a == cond t z.id (new y)) ≡ false
        go y l true n g = n
        go y l false n g = holds y l g
    holds_after (View w v ds) k = λ y l m.
        let is = or_parts (is_a w.id) (is_a v || seen.in_coords is_a ds) k in
        go y l (y == w.id) (or_parts (is_a v) (seen.in_coords is_a ds) is.1).0 m
      where
        go : (y : ℕ) → (y == a) ≡ false → (t : Bool) → (v == a) ≡ false
            → (rx == cond t (root v) (root y)) ≡ false
            → (a == cond t (new (on_a world a x coords rx v)) (new y)) ≡ false
        go y l true n g = keeps v n g
        go y l false n g = holds y l g

  mutual
    block_on : (b : Block) (root new : ℕ → ℕ) → Keeps world a x coords rx root new
        → Holds root new → seen.in_block is_a b ≡ false → has_binder b x ≡ false
        → uses_strides called sees root b rx ≡ false
        → uses_strides called sees new (converted a x coords b) a ≡ false
    block_on end root new keeps holds k h w = refl
    block_on (next s b) root new keeps holds k h w =
        let m = or_parts (seen.in_statement is_a s) (seen.in_block is_a b) k in
        let n = or_parts (step_has_binder s x) (has_binder b x) h in
        let v = or_parts (step_uses_strides called sees root s rx)
        (uses_strides called sees (roots_after s root) b rx) w in
        ap₂ ◌||◌ (step_on s root new keeps holds m.0 n.0 v.0)
        (block_on b (roots_after s root) (roots_after (converted_statement a x coords s) new)
        (after world a x coords rx root new keeps s m.0 n.0)
        (holds_after root new keeps holds s m.0) m.1 n.1 v.1)

    step_on : (s : Statement) (root new : ℕ → ℕ) → Keeps world a x coords rx root new
        → Holds root new → seen.in_statement is_a s ≡ false → step_has_binder s x ≡ false
        → step_uses_strides called sees root s rx ≡ false
        → step_uses_strides called sees new (converted_statement a x coords s) a ≡ false
    step_on (Assign y is d) root new keeps holds k h w =
        let p = or_parts (is_a y) _ k in
        let q = or_parts (seen.in_controls is_a is) (seen.in_datum is_a d) p.1 in
        none _ _ _ _ (indices root new keeps holds y is q.0) (datum root new keeps holds d q.1) w
    step_on (Reduce y is d) root new keeps holds k h w =
        let p = or_parts (is_a y) _ k in
        let q = or_parts (seen.in_controls is_a is) (seen.in_datum is_a d) p.1 in
        none _ _ _ _ (indices root new keeps holds y is q.0) (datum root new keeps holds d q.1) w
    step_on (Config f g) root new keeps holds k h w = argument root new keeps holds g k w
    step_on Pass root new keeps holds k h w = refl
    step_on (If c b d) root new keeps holds k h w =
        let m = or_parts (seen.in_condition is_a c) _ k in
        let p = or_parts (seen.in_block is_a b) (seen.in_block is_a d) m.1 in
        let n = or_parts (has_binder b x) (has_binder d x) h in
        none _ _ _ _ (condition root new keeps holds c m.0)
        (none _ _ _ _ (block_on b root new keeps holds p.0 n.0)
        (block_on d root new keeps holds p.1 n.1)) w
    step_on (For i lo hi b) root new keeps holds k h w =
        let m = or_parts (is_a i.id) _ k in
        let p = or_parts (seen.in_control is_a lo) _ m.1 in
        let q = or_parts (seen.in_control is_a hi) (seen.in_block is_a b) p.1 in
        none _ _ _ _ (control root new keeps holds lo p.0)
        (none _ _ _ _ (control root new keeps holds hi q.0) (block_on b root new keeps holds q.1
        (or_parts (x == i.id) (has_binder b x) h).1)) w
    step_on (Alloc z cell ds memory) root new keeps holds k h w =
        controls root new keeps holds ds (or_parts (is_a z.id) (seen.in_controls is_a ds) k).1 w
    step_on (View v y ds) root new keeps holds k h w =
        let p = or_parts (is_a v.id) _ k in
        window_of root new keeps holds y ds (or_parts (is_a y) (seen.in_coords is_a ds) p.1).1 w
    step_on (Call n gs) root new keeps holds k h w =
        none _ _ _ _ (arguments root new keeps holds gs k)
        (call root new keeps holds (called n) (sees n) gs k) w

pub strides_on_law : StridesOnLaw
strides_on_law called sees root a x coords b new bound roots plain unused =
    block_on called sees a x coords (root x) plain b root (updated root a a) keeps holds new bound
    unused
  where
    keeps : (y : ℕ) → (y == a) ≡ false → (root x == root y) ≡ false
        → (a == updated root a a (cond (y == x) a y)) ≡ false
    keeps y k h = go (y == x) refl
      where
        go : (t : Bool) → (y == x) ≡ t → (a == updated root a a (cond t a y)) ≡ false
        go true e = absurd (true≢false (sym (eq-eqb (root x) (root y)
            (ap root (sym (eqb-true y x e)))) ∙ h))
        go false e = ap (λ n. a == n) (updated_other root a a y k) ∙ roots y k

    holds : (y : ℕ) → (y == a) ≡ false → (root x == root y) ≡ false
        → (a == updated root a a y) ≡ false
    holds y k h = ap (λ n. a == n) (updated_other root a a y k) ∙ roots y k
