-- Blocks with other names of binders.
use Rattle.std.proofs.Common.{◌≡◌, ◌==◌, Bool, true, false, List, [], ◌∷◌, ◌++◌, map, refl, ap, ap₂, sym, ◌∙◌, if◌then◌else◌}
use Rattle.exo_tree.specs.Tree.{Binder, Control, Lit, Var, Field, StrideOf, Neg, Add, Sub, Mul, Div, Mod}
use Rattle.exo_tree.specs.Tree.{Condition, True, False, Flag, FieldFlag, Lt, Le, Gt, Ge, Eq, And, Or}
use Rattle.exo_tree.specs.Tree.{Datum, Const, Read, Negated, Relu, Plus, Minus, Times, Select}
use Rattle.exo_tree.specs.Tree.{Coord, At, Span, Argument, ControlArg, ConditionArg, Whole, Window}
use Rattle.exo_tree.specs.Tree.{Statement, Assign, Reduce, Config, Pass, If, For, Alloc, View, Call}
use Rattle.exo_tree.specs.Tree.{Block, end, next}
use Rattle.exo_tree.specs.Mapped.{mapped_control, mapped_condition, mapped_datum, mapped_coord}
use Rattle.exo_tree.specs.Mapped.{mapped_argument, mapped_statement, mapped_block}
use Rattle.exo_meaning.specs.Binders.{binders, step_binders}
use Rattle.place_laws.specs.Scope.Bare.{bare_binder, bare_statement, bare}
use Rattle.place_laws.proofs.OfScope.Bare.{same_but_for_names}
use Rattle.tree_edits.specs.Made.Names.{named_by, with_names, first_naming, tops, name_statements}
use Rattle.tree_laws.specs.Made.Laws.{NamesAlone, IdsStay, NamedCopiesRunAlike}

-- an expression has no binder
module _ (given : List Binder) where
  control : (a : Control) → mapped_control (with_names given) a ≡ a
  control (Lit n) = refl
  control (Var x) = refl
  control (Field f) = refl
  control (StrideOf x k) = refl
  control (Neg a) = ap Neg (control a)
  control (Add a b) = ap₂ Add (control a) (control b)
  control (Sub a b) = ap₂ Sub (control a) (control b)
  control (Mul a b) = ap₂ Mul (control a) (control b)
  control (Div a c) = ap (λ z. Div z c) (control a)
  control (Mod a c) = ap (λ z. Mod z c) (control a)

  controls : (is : List Control) → map (mapped_control (with_names given)) is ≡ is
  controls [] = refl
  controls (a ∷ is) = ap₂ ◌∷◌ (control a) (controls is)

  condition : (c : Condition) → mapped_condition (with_names given) c ≡ c
  condition True = refl
  condition False = refl
  condition (Flag x) = refl
  condition (FieldFlag f) = refl
  condition (Lt a b) = ap₂ Lt (control a) (control b)
  condition (Le a b) = ap₂ Le (control a) (control b)
  condition (Gt a b) = ap₂ Gt (control a) (control b)
  condition (Ge a b) = ap₂ Ge (control a) (control b)
  condition (Eq a b) = ap₂ Eq (control a) (control b)
  condition (And c d) = ap₂ And (condition c) (condition d)
  condition (Or c d) = ap₂ Or (condition c) (condition d)

  datum : (d : Datum) → mapped_datum (with_names given) d ≡ d
  datum (Const n) = refl
  datum (Read x is) = ap (Read x) (controls is)
  datum (Negated a) = ap Negated (datum a)
  datum (Relu a) = ap Relu (datum a)
  datum (Plus a b) = ap₂ Plus (datum a) (datum b)
  datum (Minus a b) = ap₂ Minus (datum a) (datum b)
  datum (Times a b) = ap₂ Times (datum a) (datum b)
  datum (Select a b c d) =
      let p = datum a in
      let q = datum b in
      let r = datum c in
      let s = datum d in
      λ j. Select (p j) (q j) (r j) (s j)

  coord : (c : Coord) → mapped_coord (with_names given) c ≡ c
  coord (At a) = ap At (control a)
  coord (Span a b) = ap₂ Span (control a) (control b)

  coords : (cs : List Coord) → map (mapped_coord (with_names given)) cs ≡ cs
  coords [] = refl
  coords (c ∷ cs) = ap₂ ◌∷◌ (coord c) (coords cs)

  argument : (a : Argument) → mapped_argument (with_names given) a ≡ a
  argument (ControlArg a) = ap ControlArg (control a)
  argument (ConditionArg c) = ap ConditionArg (condition c)
  argument (Whole x) = refl
  argument (Window x cs) = ap (Window x) (coords cs)

  arguments : (args : List Argument) → map (mapped_argument (with_names given)) args ≡ args
  arguments [] = refl
  arguments (a ∷ args) = ap₂ ◌∷◌ (argument a) (arguments args)

-- a binder is given a name alone
binder : (given : List Binder) (x : Binder) → bare_binder (named_by given x) ≡ bare_binder x
binder [] x = refl
binder (y ∷ given) x = by (x.id == y.id) (binder given x)
  where
    by : (t : Bool) → bare_binder (named_by given x) ≡ bare_binder x
        → bare_binder (if t then (record x { name = y.name }) else named_by given x) ≡ bare_binder x
    by true h = refl
    by false h = h

module _ (given : List Binder) where
  mutual
    statement : (a : Statement) → bare_statement (mapped_statement (with_names given) a) ≡ bare_statement a
    statement (Assign x is e) = ap₂ (Assign x) (controls given is) (datum given e)
    statement (Reduce x is e) = ap₂ (Reduce x) (controls given is) (datum given e)
    statement (Config f a) = ap (Config f) (argument given a)
    statement Pass = refl
    statement (If c a b) =
        let p = condition given c in
        let q = whole a in
        let r = whole b in
        λ j. If (p j) (q j) (r j)
    statement (For i lo hi b) =
        let o = binder given i in
        let p = control given lo in
        let q = control given hi in
        let r = whole b in
        λ j. For (o j) (p j) (q j) (r j)
    statement (Alloc x t dims m) =
        let o = binder given x in
        let p = controls given dims in
        λ j. Alloc (o j) t (p j) m
    statement (View w x cs) =
        let o = binder given w in
        let p = coords given cs in
        λ j. View (o j) x (p j)
    statement (Call k args) = ap (Call k) (arguments given args)

    whole : (b : Block) → bare (mapped_block (with_names given) b) ≡ bare b
    whole end = refl
    whole (next a b) = ap₂ next (statement a) (whole b)

pub names_alone : NamesAlone
names_alone p copies b = whole (name_statements copies (tops copies b) (first_naming p) b).given b

-- ids do not stand in names
mutual
  bare_binders : (b : Block) → binders (bare b) ≡ binders b
  bare_binders end = refl
  bare_binders (next a b) = ap₂ (λ xs ys. xs ++ ys) (bare_below a) (bare_binders b)

  bare_below : (a : Statement) → step_binders (bare_statement a) ≡ step_binders a
  bare_below (Assign x is e) = refl
  bare_below (Reduce x is e) = refl
  bare_below (Config f a) = refl
  bare_below Pass = refl
  bare_below (If c a b) = ap₂ (λ xs ys. xs ++ ys) (bare_binders a) (bare_binders b)
  bare_below (For i lo hi b) = ap (λ xs. i.id ∷ xs) (bare_binders b)
  bare_below (Alloc x t dims m) = refl
  bare_below (View w x cs) = refl
  bare_below (Call k args) = refl

pub ids_stay : IdsStay
ids_stay p copies b =
    let named = mapped_block (with_names (name_statements copies (tops copies b) (first_naming p) b).given) b in
    sym (bare_binders named) ∙ ap binders (names_alone p copies b) ∙ bare_binders b

pub run_alike : NamedCopiesRunAlike
run_alike world p copies b =
    let named = mapped_block (with_names (name_statements copies (tops copies b) (first_naming p) b).given) b in
    same_but_for_names world named b (names_alone p copies b)
