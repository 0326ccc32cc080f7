-- A block that uses no hidden name mentions none, whatever names are blind.
use Rattle.std.proofs.Common.{◌≡◌, ℕ, Bool, false, ◌||◌, not, ◌&&◌, List, [], ◌∷◌, refl, ap₂}
use Rattle.exo_tree.specs.Tree.{Control, Lit, Var, Field, StrideOf, Neg, Add, Sub, Mul, Div, Mod}
use Rattle.exo_tree.specs.Tree.{Condition, True, False, Flag, FieldFlag, Lt, Le, Gt, Ge, Eq, And}
use Rattle.exo_tree.specs.Tree.{Or}
use Rattle.exo_tree.specs.Tree.{Datum, Const, Read, Negated, Relu, Plus, Minus, Times, Select}
use Rattle.exo_tree.specs.Tree.{Coord, At, Span, Argument, ControlArg, ConditionArg, Whole, Window}
use Rattle.exo_tree.specs.Tree.{Statement, Assign, Reduce, Config, Pass, If, For, Alloc, View, Call}
use Rattle.exo_tree.specs.Tree.{Block, end, next}
use Rattle.exo_meaning.specs.Unseen as seen
use Rattle.exo_meaning.proofs.Frame.{or_parts}
use Rattle.inplace_laws.specs.Uses as uses

none : (t u v w : Bool) → (t ≡ false → v ≡ false) → (u ≡ false → w ≡ false)
    → (t || u) ≡ false → (v || w) ≡ false
none t u v w f g h = let p = or_parts t u h in ap₂ ◌||◌ (f p.0) (g p.1)

same : (t : Bool) → t ≡ false → t ≡ false
same t h = h

module _ (hidden blind : ℕ → Bool) where
  control : (e : Control) → uses.in_control hidden blind e ≡ false
      → seen.in_control hidden e ≡ false
  control (Lit n) h = refl
  control (Var x) h = h
  control (Field f) h = refl
  control (StrideOf x k) h = (or_parts (hidden x) (blind x) h).0
  control (Neg a) h = control a h
  control (Add a b) h = none _ _ _ _ (control a) (control b) h
  control (Sub a b) h = none _ _ _ _ (control a) (control b) h
  control (Mul a b) h = none _ _ _ _ (control a) (control b) h
  control (Div a c) h = control a h
  control (Mod a c) h = control a h

  controls : (es : List Control) → uses.in_controls hidden blind es ≡ false
      → seen.in_controls hidden es ≡ false
  controls [] h = refl
  controls (e ∷ es) h = none _ _ _ _ (control e) (controls es) h

  condition : (c : Condition) → uses.in_condition hidden blind c ≡ false
      → seen.in_condition hidden c ≡ false
  condition True h = refl
  condition False h = refl
  condition (Flag x) h = h
  condition (FieldFlag f) h = refl
  condition (Lt a b) h = none _ _ _ _ (control a) (control b) h
  condition (Le a b) h = none _ _ _ _ (control a) (control b) h
  condition (Gt a b) h = none _ _ _ _ (control a) (control b) h
  condition (Ge a b) h = none _ _ _ _ (control a) (control b) h
  condition (Eq a b) h = none _ _ _ _ (control a) (control b) h
  condition (And c d) h = none _ _ _ _ (condition c) (condition d) h
  condition (Or c d) h = none _ _ _ _ (condition c) (condition d) h

  datum : (d : Datum) → uses.in_datum hidden blind d ≡ false → seen.in_datum hidden d ≡ false
  datum (Const n) h = refl
  datum (Read x is) h = none _ _ _ _ (same (hidden x)) (controls is) h
  datum (Negated a) h = datum a h
  datum (Relu a) h = datum a h
  datum (Plus a b) h = none _ _ _ _ (datum a) (datum b) h
  datum (Minus a b) h = none _ _ _ _ (datum a) (datum b) h
  datum (Times a b) h = none _ _ _ _ (datum a) (datum b) h
  datum (Select a b c d) h =
      none _ _ _ _ (datum a) (none _ _ _ _ (datum b) (none _ _ _ _ (datum c) (datum d))) h

  coords : (cs : List Coord) → uses.in_coords hidden blind cs ≡ false
      → seen.in_coords hidden cs ≡ false
  coords [] h = refl
  coords (At a ∷ cs) h = none _ _ _ _ (control a) (coords cs) h
  coords (Span a b ∷ cs) h = none _ _ _ _ (control a) (none _ _ _ _ (control b) (coords cs)) h

  argument : (g : Argument) → uses.in_argument hidden blind g ≡ false
      → seen.in_argument hidden g ≡ false
  argument (ControlArg e) h = control e h
  argument (ConditionArg c) h = condition c h
  argument (Whole x) h = (or_parts (hidden x) (blind x) h).0
  argument (Window x cs) h =
      none _ _ _ _ (λ k. (or_parts (hidden x) (blind x) k).0) (coords cs) h

  arguments : (gs : List Argument) → uses.in_arguments hidden blind gs ≡ false
      → seen.in_arguments hidden gs ≡ false
  arguments [] h = refl
  arguments (g ∷ gs) h = none _ _ _ _ (argument g) (arguments gs) h

  mutual
    statement : (a : Statement) → uses.in_statement hidden blind a ≡ false
        → seen.in_statement hidden a ≡ false
    statement (Assign x is d) h =
        none _ _ _ _ (same (hidden x)) (none _ _ _ _ (controls is) (datum d)) h
    statement (Reduce x is d) h =
        none _ _ _ _ (same (hidden x)) (none _ _ _ _ (controls is) (datum d)) h
    statement (Config f g) h = argument g h
    statement Pass h = refl
    statement (If c a b) h = none _ _ _ _ (condition c) (none _ _ _ _ (block a) (block b)) h
    statement (For i lo hi b) h = none _ _ _ _ (same (hidden i.id))
        (none _ _ _ _ (control lo) (none _ _ _ _ (control hi) (block b))) h
    statement (Alloc x cell dims memory) h =
        none _ _ _ _ (same (hidden x.id)) (controls dims) h
    statement (View w x cs) h =
        none _ _ _ _ (same (hidden w.id)) (none _ _ _ _ (same (hidden x)) (coords cs))
        (or_parts (not (blind w.id) && blind x) _ h).1
    statement (Call k gs) h = arguments gs h

    pub block : (b : Block) → uses.in_block hidden blind b ≡ false
        → seen.in_block hidden b ≡ false
    block end h = refl
    block (next a b) h = none _ _ _ _ (statement a) (block b) h
