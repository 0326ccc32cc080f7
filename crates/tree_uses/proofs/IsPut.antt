-- What is put in the place of names, as uses of a tree.
use Rattle.std.proofs.Common.{◌≡◌, ℕ, List, [], ◌∷◌, refl, ap, ap₂}
use Rattle.exo_tree.specs.Tree.{Control, Condition, True, False, Flag, FieldFlag, Lt, Le, Gt, Ge, Eq}
use Rattle.exo_tree.specs.Tree.{And, Or, Datum, Const, Read, Negated, Relu, Plus, Minus, Times, Select}
use Rattle.exo_tree.specs.Tree.{Argument, ControlArg, ConditionArg, Whole, Window}
use Rattle.exo_tree.specs.Tree.{Statement, Assign, Reduce, Config, Pass, If, For, Alloc, View, Call}
use Rattle.exo_tree.specs.Tree.{Block, end, next}
use Rattle.match_laws.specs.Inline.AtOnce.{Put, root_for, put_control, put_controls, put_condition}
use Rattle.match_laws.specs.Inline.AtOnce.{put_index, put_datum, put_argument, put_arguments}
use Rattle.match_laws.specs.Inline.AtOnce.{put_statement, put_block}
use Rattle.tree_uses.specs.Uses.{Uses, used_condition, used_datum, used_argument, used_arguments}
use Rattle.tree_uses.specs.Uses.{used_controls, used_statement, used}
use Rattle.tree_uses.specs.Putting.{putting, PuttingFits, PuttingPuts}
use Rattle.tree_uses.proofs.Fits.{all_fits}

pub putting_fits : PuttingFits
putting_fits to put b =
    all_fits (putting to put) (λ e. refl) (λ x is. refl) (λ x cs. refl) b

module _ (to : ℕ → ℕ) (put : Put) where
  abbrev uses : Uses
  uses = putting to put

  pub controls_put : (es : List Control) → used_controls uses es ≡ put_controls put es
  controls_put [] = refl
  controls_put (e ∷ es) = ap (λ rest. put_control put e ∷ rest) (controls_put es)

  pub condition_put : (c : Condition) → used_condition uses c ≡ put_condition put c
  condition_put True = refl
  condition_put False = refl
  condition_put (Flag x) = refl
  condition_put (FieldFlag f) = refl
  condition_put (Lt a b) = refl
  condition_put (Le a b) = refl
  condition_put (Gt a b) = refl
  condition_put (Ge a b) = refl
  condition_put (Eq a b) = refl
  condition_put (And c d) = ap₂ And (condition_put c) (condition_put d)
  condition_put (Or c d) = ap₂ Or (condition_put c) (condition_put d)

  pub datum_put : (e : Datum) → used_datum uses e ≡ put_datum put e
  datum_put (Const n) = refl
  datum_put (Read x is) = refl
  datum_put (Negated a) = ap Negated (datum_put a)
  datum_put (Relu a) = ap Relu (datum_put a)
  datum_put (Plus a b) = ap₂ Plus (datum_put a) (datum_put b)
  datum_put (Minus a b) = ap₂ Minus (datum_put a) (datum_put b)
  datum_put (Times a b) = ap₂ Times (datum_put a) (datum_put b)
  datum_put (Select a b c d) =
      let p = datum_put a in
      let q = datum_put b in
      let r = datum_put c in
      let s = datum_put d in
      λ j. Select (p j) (q j) (r j) (s j)

  pub argument_put : (a : Argument) → used_argument uses a ≡ put_argument put a
  argument_put (ControlArg a) = refl
  argument_put (ConditionArg c) = ap ConditionArg (condition_put c)
  argument_put (Whole x) = refl
  argument_put (Window x cs) = refl

  pub arguments_put : (args : List Argument) → used_arguments uses args ≡ put_arguments put args
  arguments_put [] = refl
  arguments_put (a ∷ args) = ap₂ ◌∷◌ (argument_put a) (arguments_put args)

module _ (put : Put) where
  abbrev same : ℕ → ℕ
  same x = x

  mutual
    statement_put : (a : Statement) → used_statement (putting same put) a ≡ put_statement put a
    statement_put (Assign x is e) =
        ap (Assign (root_for put x) (put_index put x is)) (datum_put same put e)
    statement_put (Reduce x is e) =
        ap (Reduce (root_for put x) (put_index put x is)) (datum_put same put e)
    statement_put (Config f a) = ap (Config f) (argument_put same put a)
    statement_put Pass = refl
    statement_put (If c a b) =
        let p = condition_put same put c in
        let q = block_put a in
        let r = block_put b in
        λ j. If (p j) (q j) (r j)
    statement_put (For i lo hi b) =
        ap (For i (put_control put lo) (put_control put hi)) (block_put b)
    statement_put (Alloc x cell dims memory) =
        ap (λ ds. Alloc x cell ds memory) (controls_put same put dims)
    statement_put (View w x cs) = refl
    statement_put (Call k args) = ap (Call k) (arguments_put same put args)

    block_put : (b : Block) → used (putting same put) b ≡ put_block put b
    block_put end = refl
    block_put (next a b) = ap₂ next (statement_put a) (block_put b)

pub putting_puts : PuttingPuts
putting_puts put b = block_put put b
