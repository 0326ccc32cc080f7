-- The text of procedures.
use Rattle.std.specs.Prelude.{ℕ, [], ◌++◌, Option, Some, None, map, flat_map, slice_get, codes}
use Rattle.exo_tree.specs.Tree.{Condition, ParamKind, ControlParam, TensorParam, WindowParam, Param, Procedure, Program}
use Rattle.exo_tree.specs.Named.{cell_word}
use Rattle.text_show.specs.Layout.{Text, listed, line, quoted}
use Rattle.text_show.specs.Words.{Words, words_of, kind_word}
use Rattle.text_show.specs.ControlText.{condition_text}
use Rattle.text_show.specs.StatementText.{extent_text, block_text}

abbrev pub marker_text : Option Text → Text
marker_text None = codes "@proc"
marker_text (Some template) = codes "@instr(" ++ quoted template ++ codes ")"

module _ (w : Words) where
  -- the cell type of a window stands in brackets
  abbrev pub type_text : ParamKind → Text
  type_text (ControlParam kind) = kind_word kind
  type_text (TensorParam cell dims memory) = cell_word cell ++ extent_text w dims memory
  type_text (WindowParam cell dims memory) = codes "[" ++ cell_word cell ++ codes "]" ++ extent_text w dims memory

  abbrev pub param_text : Param → Text
  param_text p = p.binder.name ++ codes ": " ++ type_text p.kind

  abbrev pub assert_text : Condition → Text
  assert_text c = line (codes "    ") (codes "assert " ++ condition_text w c)

  abbrev pub header_text : Procedure → Text
  header_text p = codes "def " ++ p.name ++ codes "(" ++ listed (map param_text p.params) ++ codes "):"

  abbrev pub procedure_text : Procedure → Text
  procedure_text p =
      line [] (marker_text p.template) ++ line [] (codes "def " ++ p.name ++ codes "(" ++ listed (map param_text p.params) ++ codes "):")
      ++ flat_map assert_text p.asserts
      ++ block_text w (codes "    ") p.body

-- the source text of the procedure of that number; empty where there is none
abbrev pub shown : Program → ℕ → Text
shown program k = elim (slice_get program.procedures k) [ None ↦ [] | Some p ↦ procedure_text (words_of program p) p ]
