-- Trees in which each name stands for itself.
use Rattle.std.proofs.Common.{◌≡◌, List, [], ◌∷◌, map, refl, ap, ap₂, sym, ◌∙◌}
use Rattle.exo_tree.specs.Tree.{Control, Lit, Var, Field, StrideOf, Neg, Add, Sub, Mul, Div, Mod}
use Rattle.exo_tree.specs.Tree.{Condition, True, False, Flag, FieldFlag, Lt, Le, Gt, Ge, Eq, And, Or}
use Rattle.exo_tree.specs.Tree.{Datum, Const, Read, Negated, Relu, Plus, Minus, Times, Select}
use Rattle.exo_tree.specs.Tree.{Coord, At, Span, Argument, ControlArg, ConditionArg, Whole, Window}
use Rattle.exo_tree.specs.Tree.{Statement, Assign, Reduce, Config, Pass, If, For, Alloc, View, Call}
use Rattle.exo_tree.specs.Tree.{Block, end, next, block, statements}
use Rattle.exo_tree.specs.Mapped.{unchanged, mapped_control, mapped_condition, mapped_datum, mapped_coord}
use Rattle.exo_tree.specs.Mapped.{mapped_argument, mapped_statement, mapped_block}

control : (a : Control) → mapped_control unchanged a ≡ a
control (Lit n) = refl
control (Var x) = refl
control (Field f) = refl
control (StrideOf x k) = refl
control (Neg a) = ap Neg (control a)
control (Add a b) = ap₂ Add (control a) (control b)
control (Sub a b) = ap₂ Sub (control a) (control b)
control (Mul a b) = ap₂ Mul (control a) (control b)
control (Div a c) = ap (λ z. Div z c) (control a)
control (Mod a c) = ap (λ z. Mod z c) (control a)

controls : (is : List Control) → map (mapped_control unchanged) is ≡ is
controls [] = refl
controls (a ∷ is) = ap₂ ◌∷◌ (control a) (controls is)

condition : (c : Condition) → mapped_condition unchanged c ≡ c
condition True = refl
condition False = refl
condition (Flag x) = refl
condition (FieldFlag f) = refl
condition (Lt a b) = ap₂ Lt (control a) (control b)
condition (Le a b) = ap₂ Le (control a) (control b)
condition (Gt a b) = ap₂ Gt (control a) (control b)
condition (Ge a b) = ap₂ Ge (control a) (control b)
condition (Eq a b) = ap₂ Eq (control a) (control b)
condition (And c d) = ap₂ And (condition c) (condition d)
condition (Or c d) = ap₂ Or (condition c) (condition d)

datum : (d : Datum) → mapped_datum unchanged d ≡ d
datum (Const n) = refl
datum (Read x is) = ap (Read x) (controls is)
datum (Negated a) = ap Negated (datum a)
datum (Relu a) = ap Relu (datum a)
datum (Plus a b) = ap₂ Plus (datum a) (datum b)
datum (Minus a b) = ap₂ Minus (datum a) (datum b)
datum (Times a b) = ap₂ Times (datum a) (datum b)
datum (Select a b c d) =
    let p = datum a in
    let q = datum b in
    let r = datum c in
    let s = datum d in
    λ j. Select (p j) (q j) (r j) (s j)

coord : (c : Coord) → mapped_coord unchanged c ≡ c
coord (At a) = ap At (control a)
coord (Span a b) = ap₂ Span (control a) (control b)

coords : (cs : List Coord) → map (mapped_coord unchanged) cs ≡ cs
coords [] = refl
coords (c ∷ cs) = ap₂ ◌∷◌ (coord c) (coords cs)

argument : (a : Argument) → mapped_argument unchanged a ≡ a
argument (ControlArg a) = ap ControlArg (control a)
argument (ConditionArg c) = ap ConditionArg (condition c)
argument (Whole x) = refl
argument (Window x cs) = ap (Window x) (coords cs)

arguments : (args : List Argument) → map (mapped_argument unchanged) args ≡ args
arguments [] = refl
arguments (a ∷ args) = ap₂ ◌∷◌ (argument a) (arguments args)

mutual
  statement : (a : Statement) → mapped_statement unchanged a ≡ a
  statement (Assign x is e) = ap₂ (Assign x) (controls is) (datum e)
  statement (Reduce x is e) = ap₂ (Reduce x) (controls is) (datum e)
  statement (Config f a) = ap (Config f) (argument a)
  statement Pass = refl
  statement (If c a b) =
      let p = condition c in
      let q = whole a in
      let r = whole b in
      λ j. If (p j) (q j) (r j)
  statement (For i lo hi b) =
      let p = control lo in
      let q = control hi in
      let r = whole b in
      λ j. For i (p j) (q j) (r j)
  statement (Alloc b t dims m) = ap (λ is. Alloc b t is m) (controls dims)
  statement (View w x cs) = ap (View w x) (coords cs)
  statement (Call k args) = ap (Call k) (arguments args)

  whole : (b : Block) → mapped_block unchanged b ≡ b
  whole end = refl
  whole (next a b) = ap₂ next (statement a) (whole b)

-- ---- what is made of a tree in this way is the tree

pub same_control : (made a : Control) → made ≡ mapped_control unchanged a → made ≡ a
same_control made a e = e ∙ control a

pub same_controls : (made is : List Control) → made ≡ map (mapped_control unchanged) is → made ≡ is
same_controls made is e = e ∙ controls is

pub same_condition : (made c : Condition) → made ≡ mapped_condition unchanged c → made ≡ c
same_condition made c e = e ∙ condition c

pub same_datum : (made d : Datum) → made ≡ mapped_datum unchanged d → made ≡ d
same_datum made d e = e ∙ datum d

pub same_coord : (made c : Coord) → made ≡ mapped_coord unchanged c → made ≡ c
same_coord made c e = e ∙ coord c

pub same_coords : (made cs : List Coord) → made ≡ map (mapped_coord unchanged) cs → made ≡ cs
same_coords made cs e = e ∙ coords cs

pub same_argument : (made a : Argument) → made ≡ mapped_argument unchanged a → made ≡ a
same_argument made a e = e ∙ argument a

pub same_arguments : (made args : List Argument) → made ≡ map (mapped_argument unchanged) args → made ≡ args
same_arguments made args e = e ∙ arguments args

pub same_statement : (made a : Statement) → made ≡ mapped_statement unchanged a → made ≡ a
same_statement made a e = e ∙ statement a

listed : (ss : List Statement) → statements (block ss) ≡ ss
listed [] = refl
listed (s ∷ ss) = ap (λ rest. s ∷ rest) (listed ss)

pub same_block : (made ss : List Statement) → block made ≡ mapped_block unchanged (block ss) → made ≡ ss
same_block made ss e = sym (listed made) ∙ ap statements (e ∙ whole (block ss)) ∙ listed ss
