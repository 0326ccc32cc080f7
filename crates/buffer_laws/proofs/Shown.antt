-- What a block uses where no name is blind, and what it makes.
use Rattle.std.proofs.Common.{◌≡◌, ℕ, Bool, true, false, ◌||◌, ◌==◌}
use Rattle.std.proofs.Common.{List, [], ◌∷◌, refl, ap, ap₂}
use Rattle.exo_tree.specs.Tree.{Control, Lit, Var, Field, StrideOf, Neg, Add, Sub, Mul, Div, Mod}
use Rattle.exo_tree.specs.Tree.{Condition, True, False, Flag, FieldFlag, Lt, Le, Gt, Ge, Eq, And}
use Rattle.exo_tree.specs.Tree.{Or}
use Rattle.exo_tree.specs.Tree.{Datum, Const, Read, Negated, Relu, Plus, Minus, Times, Select}
use Rattle.exo_tree.specs.Tree.{Coord, At, Span, Argument, ControlArg, ConditionArg, Whole, Window}
use Rattle.exo_tree.specs.Tree.{Statement, Assign, Reduce, Config, Pass, If, For, Alloc, View, Call}
use Rattle.exo_tree.specs.Tree.{Block, end, next}
use Rattle.exo_meaning.specs.Unseen as seen
use Rattle.exo_meaning.proofs.Frame.{or_parts}
use Rattle.meaning_laws.specs.Scoped.{has_binder, step_has_binder}
use Rattle.meaning_laws.proofs.Scoped.{both_false}
use Rattle.inplace_laws.specs.CallInPlace.{no_name}
use Rattle.inplace_laws.specs.InPlace.{makes, step_makes}
use Rattle.inplace_laws.specs.Uses as uses

or_none : (t : Bool) → (t || false) ≡ t
or_none true = refl
or_none false = refl

module _ (hidden : ℕ → Bool) where
  control : (e : Control) → uses.in_control hidden no_name e ≡ seen.in_control hidden e
  control (Lit n) = refl
  control (Var x) = refl
  control (Field f) = refl
  control (StrideOf x k) = or_none (hidden x)
  control (Neg a) = control a
  control (Add a b) = ap₂ ◌||◌ (control a) (control b)
  control (Sub a b) = ap₂ ◌||◌ (control a) (control b)
  control (Mul a b) = ap₂ ◌||◌ (control a) (control b)
  control (Div a c) = control a
  control (Mod a c) = control a

  controls : (es : List Control) → uses.in_controls hidden no_name es ≡ seen.in_controls hidden es
  controls [] = refl
  controls (e ∷ es) = ap₂ ◌||◌ (control e) (controls es)

  condition : (c : Condition)
      → uses.in_condition hidden no_name c ≡ seen.in_condition hidden c
  condition True = refl
  condition False = refl
  condition (Flag x) = refl
  condition (FieldFlag f) = refl
  condition (Lt a b) = ap₂ ◌||◌ (control a) (control b)
  condition (Le a b) = ap₂ ◌||◌ (control a) (control b)
  condition (Gt a b) = ap₂ ◌||◌ (control a) (control b)
  condition (Ge a b) = ap₂ ◌||◌ (control a) (control b)
  condition (Eq a b) = ap₂ ◌||◌ (control a) (control b)
  condition (And c d) = ap₂ ◌||◌ (condition c) (condition d)
  condition (Or c d) = ap₂ ◌||◌ (condition c) (condition d)

  datum : (d : Datum) → uses.in_datum hidden no_name d ≡ seen.in_datum hidden d
  datum (Const n) = refl
  datum (Read x is) = ap (λ t. hidden x || t) (controls is)
  datum (Negated a) = datum a
  datum (Relu a) = datum a
  datum (Plus a b) = ap₂ ◌||◌ (datum a) (datum b)
  datum (Minus a b) = ap₂ ◌||◌ (datum a) (datum b)
  datum (Times a b) = ap₂ ◌||◌ (datum a) (datum b)
  datum (Select a b c d) =
      ap₂ ◌||◌ (datum a) (ap₂ ◌||◌ (datum b) (ap₂ ◌||◌ (datum c) (datum d)))

  coords : (cs : List Coord) → uses.in_coords hidden no_name cs ≡ seen.in_coords hidden cs
  coords [] = refl
  coords (At a ∷ cs) = ap₂ ◌||◌ (control a) (coords cs)
  coords (Span a b ∷ cs) = ap₂ ◌||◌ (control a) (ap₂ ◌||◌ (control b) (coords cs))

  argument : (g : Argument) → uses.in_argument hidden no_name g ≡ seen.in_argument hidden g
  argument (ControlArg e) = control e
  argument (ConditionArg c) = condition c
  argument (Whole x) = or_none (hidden x)
  argument (Window x cs) = ap₂ ◌||◌ (or_none (hidden x)) (coords cs)

  arguments : (gs : List Argument)
      → uses.in_arguments hidden no_name gs ≡ seen.in_arguments hidden gs
  arguments [] = refl
  arguments (g ∷ gs) = ap₂ ◌||◌ (argument g) (arguments gs)

  mutual
    statement : (a : Statement)
        → uses.in_statement hidden no_name a ≡ seen.in_statement hidden a
    statement (Assign x is d) = ap (λ t. hidden x || t) (ap₂ ◌||◌ (controls is) (datum d))
    statement (Reduce x is d) = ap (λ t. hidden x || t) (ap₂ ◌||◌ (controls is) (datum d))
    statement (Config f g) = argument g
    statement Pass = refl
    statement (If c a b) = ap₂ ◌||◌ (condition c) (ap₂ ◌||◌ (block a) (block b))
    statement (For i lo hi b) =
        ap (λ t. hidden i.id || t) (ap₂ ◌||◌ (control lo) (ap₂ ◌||◌ (control hi) (block b)))
    statement (Alloc x cell dims memory) = ap (λ t. hidden x.id || t) (controls dims)
    statement (View w x cs) = ap (λ t. hidden w.id || (hidden x || t)) (coords cs)
    statement (Call k gs) = arguments gs

    -- it uses what it mentions
    pub block : (b : Block) → uses.in_block hidden no_name b ≡ seen.in_block hidden b
    block end = refl
    block (next a b) = ap₂ ◌||◌ (statement a) (block b)

-- a buffer that is made is bound
mutual
  pub not_made : (b : Block) (y : ℕ) → has_binder b y ≡ false → makes b y ≡ false
  not_made end y h = refl
  not_made (next a b) y h =
      let p = or_parts (step_has_binder a y) (has_binder b y) h in
      both_false (step_makes a y) (makes b y) (step_not_made a y p.0) (not_made b y p.1)

  step_not_made : (a : Statement) (y : ℕ) → step_has_binder a y ≡ false → step_makes a y ≡ false
  step_not_made (Assign x is d) y h = refl
  step_not_made (Reduce x is d) y h = refl
  step_not_made (Config f g) y h = refl
  step_not_made Pass y h = refl
  step_not_made (If c a b) y h =
      let p = or_parts (has_binder a y) (has_binder b y) h in
      both_false (makes a y) (makes b y) (not_made a y p.0) (not_made b y p.1)
  step_not_made (For i lo hi b) y h = not_made b y (or_parts (y == i.id) (has_binder b y) h).1
  step_not_made (Alloc x cell dims memory) y h = h
  step_not_made (View w x cs) y h = refl
  step_not_made (Call k gs) y h = refl
