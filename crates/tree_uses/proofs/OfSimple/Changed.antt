-- The walk changes each control expression of a block.
use Rattle.std.proofs.Common.{◌≡◌, Bool, List, [], ◌∷◌, map, refl, ap, ap₂}
use Rattle.exo_tree.specs.Tree.{Control, Condition, True, False, Flag, FieldFlag, Lt, Le, Gt, Ge, Eq}
use Rattle.exo_tree.specs.Tree.{And, Or, Datum, Const, Read, Negated, Relu, Plus, Minus, Times, Select}
use Rattle.exo_tree.specs.Tree.{Coord, At, Span, Argument, ControlArg, ConditionArg, Whole, Window}
use Rattle.exo_tree.specs.Tree.{Statement, Assign, Reduce, Config, Pass, If, For, Alloc, View, Call}
use Rattle.exo_tree.specs.Tree.{Block, end, next}
use Rattle.match_laws.specs.Simplify.SameControls.{in_controls, in_condition, in_datum, in_coords}
use Rattle.match_laws.specs.Simplify.SameControls.{in_argument, in_arguments, in_statement, in_block}
use Rattle.tree_uses.specs.Uses.{Uses, used_condition, used_datum, used_argument, used_arguments}
use Rattle.tree_uses.specs.Uses.{used_statement, used}
use Rattle.tree_uses.specs.Simple.Changing.{changed_coord, changing, ChangesControls}

module _ (f : Control → Control) (fits : Control → Bool) where
  abbrev uses : Uses
  uses = changing f fits

  controls : (es : List Control) → map f es ≡ in_controls f es
  controls [] = refl
  controls (e ∷ es) = ap (λ rest. f e ∷ rest) (controls es)

  condition : (c : Condition) → used_condition uses c ≡ in_condition f c
  condition True = refl
  condition False = refl
  condition (Flag x) = refl
  condition (FieldFlag g) = refl
  condition (Lt a b) = refl
  condition (Le a b) = refl
  condition (Gt a b) = refl
  condition (Ge a b) = refl
  condition (Eq a b) = refl
  condition (And c d) = ap₂ And (condition c) (condition d)
  condition (Or c d) = ap₂ Or (condition c) (condition d)

  datum : (e : Datum) → used_datum uses e ≡ in_datum f e
  datum (Const n) = refl
  datum (Read x is) = ap (Read x) (controls is)
  datum (Negated a) = ap Negated (datum a)
  datum (Relu a) = ap Relu (datum a)
  datum (Plus a b) = ap₂ Plus (datum a) (datum b)
  datum (Minus a b) = ap₂ Minus (datum a) (datum b)
  datum (Times a b) = ap₂ Times (datum a) (datum b)
  datum (Select a b c d) =
      let p = datum a in
      let q = datum b in
      let r = datum c in
      let s = datum d in
      λ j. Select (p j) (q j) (r j) (s j)

  coords : (cs : List Coord) → map (changed_coord f) cs ≡ in_coords f cs
  coords [] = refl
  coords (At a ∷ cs) = ap (λ rest. At (f a) ∷ rest) (coords cs)
  coords (Span a b ∷ cs) = ap (λ rest. Span (f a) (f b) ∷ rest) (coords cs)

  argument : (a : Argument) → used_argument uses a ≡ in_argument f a
  argument (ControlArg a) = refl
  argument (ConditionArg c) = ap ConditionArg (condition c)
  argument (Whole x) = refl
  argument (Window x cs) = ap (Window x) (coords cs)

  arguments : (args : List Argument) → used_arguments uses args ≡ in_arguments f args
  arguments [] = refl
  arguments (a ∷ args) = ap₂ ◌∷◌ (argument a) (arguments args)

  mutual
    statement : (a : Statement) → used_statement uses a ≡ in_statement f a
    statement (Assign x is e) = ap₂ (Assign x) (controls is) (datum e)
    statement (Reduce x is e) = ap₂ (Reduce x) (controls is) (datum e)
    statement (Config g a) = ap (Config g) (argument a)
    statement Pass = refl
    statement (If c a b) =
        let p = condition c in
        let q = block a in
        let r = block b in
        λ j. If (p j) (q j) (r j)
    statement (For i lo hi b) = ap (For i (f lo) (f hi)) (block b)
    statement (Alloc x cell dims memory) = ap (λ ds. Alloc x cell ds memory) (controls dims)
    statement (View w x cs) = ap (View w x) (coords cs)
    statement (Call k args) = ap (Call k) (arguments args)

    block : (b : Block) → used uses b ≡ in_block f b
    block end = refl
    block (next a b) = ap₂ next (statement a) (block b)

pub changes_controls : ChangesControls
changes_controls f fits b = block f fits b
