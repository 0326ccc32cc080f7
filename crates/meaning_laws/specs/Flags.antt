-- A condition in the place of a flag.
use Rattle.std.specs.Prelude.{◌≡◌, ◌==◌, ℕ, true, false, if◌then◌else◌, List, [], ◌∷◌}
use Rattle.exo_tree.specs.Tree.{Condition, True, False, Flag, FieldFlag, Lt, Le, Gt, Ge, Eq, And}
use Rattle.exo_tree.specs.Tree.{Or, Argument, ControlArg, ConditionArg, Whole, Window, Statement}
use Rattle.exo_tree.specs.Tree.{Assign, Reduce, Config, Pass, If, For, Alloc, View, Call, Block}
use Rattle.exo_tree.specs.Tree.{end, next}
use Rattle.exo_meaning.specs.Scene.{is_set, holds}
use Rattle.exo_meaning.specs.State.{State}
use Rattle.exo_meaning.specs.Run.{World, run}
use Rattle.meaning_laws.specs.Facts.{is_plain_condition, condition_has}
use Rattle.meaning_laws.specs.Scoped.{has_binder}

-- the block with c for the flag x
module _ (x : ℕ) (c : Condition) where
  abbrev pub in_condition : Condition → Condition
  in_condition True = True
  in_condition False = False
  in_condition (Flag y) = if y == x then c else Flag y
  in_condition (FieldFlag f) = FieldFlag f
  in_condition (Lt a b) = Lt a b
  in_condition (Le a b) = Le a b
  in_condition (Gt a b) = Gt a b
  in_condition (Ge a b) = Ge a b
  in_condition (Eq a b) = Eq a b
  in_condition (And d e) = And (in_condition d) (in_condition e)
  in_condition (Or d e) = Or (in_condition d) (in_condition e)

  abbrev pub in_argument : Argument → Argument
  in_argument (ControlArg a) = ControlArg a
  in_argument (ConditionArg d) = ConditionArg (in_condition d)
  in_argument (Whole y) = Whole y
  in_argument (Window y coords) = Window y coords

  abbrev pub in_arguments : List Argument → List Argument
  in_arguments [] = []
  in_arguments (a ∷ rest) = in_argument a ∷ in_arguments rest

  abbrev mutual
    pub in_statement : Statement → Statement
    in_statement (Assign y is e) = Assign y is e
    in_statement (Reduce y is e) = Reduce y is e
    in_statement (Config f a) = Config f (in_argument a)
    in_statement Pass = Pass
    in_statement (If d a b) = If (in_condition d) (in_block a) (in_block b)
    in_statement (For i lo hi b) = For i lo hi (in_block b)
    in_statement (Alloc y cell dims memory) = Alloc y cell dims memory
    in_statement (View w y coords) = View w y coords
    in_statement (Call k args) = Call k (in_arguments args)

    pub in_block : Block → Block
    in_block end = end
    in_block (next a b) = next (in_statement a) (in_block b)

-- where the flag is set exactly where the condition holds, and the block binds neither it nor a
-- variable of the condition, the block runs the same with the condition for the flag
abbrev pub FlagLaw : Type 0
FlagLaw =
    (world : World) (x : ℕ) (c : Condition) (b : Block) (s : State)
    → is_plain_condition c ≡ true
    → has_binder b x ≡ false
    → ((y : ℕ) → condition_has c y ≡ true → has_binder b y ≡ false)
    → is_set (s.scene.control x) ≡ holds s.scene c
    → run world b s ≡ run world (in_block x c b) s
