-- The text of statements and blocks.
use Rattle.std.specs.Prelude.{ℕ, List, [], ◌++◌, ◌==◌, map, if◌then◌else◌, codes}
use Rattle.exo_tree.specs.Tree.{Control, Argument, ControlArg, ConditionArg, Whole, Window}
use Rattle.exo_tree.specs.Tree.{Statement, Assign, Reduce, Config, Pass, If, For, Alloc, View, Call}
use Rattle.exo_tree.specs.Tree.{Block, end, next}
use Rattle.exo_tree.specs.Named.{cell_word}
use Rattle.text_show.specs.Layout.{Text, listed, line, deeper, between, loop_text}
use Rattle.text_show.specs.Words.{Words}
use Rattle.text_show.specs.ControlText.{control_text, condition_text, indices_text, access_text}
use Rattle.text_show.specs.ControlText.{window_text}
use Rattle.text_show.specs.DatumText.{datum_text}

-- what follows the first branch: nothing where there is no second
abbrev pub or_else : Text → Block → Text → Text
or_else indent end t = []
or_else indent (next a b) t = line indent (codes "else:") ++ t

module _ (w : Words) where
  abbrev pub argument_text : Argument → Text
  argument_text (ControlArg e) = control_text w e
  argument_text (ConditionArg c) = condition_text w c
  argument_text (Whole x) = w.name x
  argument_text (Window x coords) = window_text w x coords

  -- the memory behind a type; memory 0 is the default, which is not written
  abbrev pub memory_text : ℕ → Text
  memory_text m = if m == 0 then [] else codes " @ " ++ w.memory m

  -- what stands behind a cell type
  abbrev pub extent_text : List Control → ℕ → Text
  extent_text dims m = indices_text w dims ++ memory_text m

  -- the first line of a statement
  abbrev pub head_text : Statement → Text
  head_text (Assign x is e) = between (access_text w x is) (codes "=") (datum_text w e)
  head_text (Reduce x is e) = between (access_text w x is) (codes "+=") (datum_text w e)
  head_text (Config f a) = between (w.field f) (codes "=") (argument_text a)
  head_text Pass = codes "pass"
  head_text (If c a b) = codes "if " ++ condition_text w c ++ codes ":"
  head_text (For i lo hi b) = loop_text i.name (control_text w lo) (control_text w hi)
  head_text (Alloc x cell dims memory) =
      between x.name (codes ":") (cell_word cell ++ extent_text dims memory)
  head_text (View v x coords) = between v.name (codes "=") (window_text w x coords)
  head_text (Call k args) = w.callee k ++ codes "(" ++ listed (map argument_text args) ++ codes ")"

  abbrev mutual
    -- the lines of a block behind an indentation
    pub block_text : Text → Block → Text
    block_text indent end = []
    block_text indent (next a b) =
        line indent (head_text a) ++ inner_text indent a ++ block_text indent b

    -- the lines of a statement after its first
    pub inner_text : Text → Statement → Text
    inner_text indent (If c a b) =
        block_text (deeper indent) a ++ or_else indent b (block_text (deeper indent) b)
    inner_text indent (For i lo hi b) = block_text (deeper indent) b
    inner_text indent _ = []
