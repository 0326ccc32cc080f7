-- What the numbers in a tree are called.
use Rattle.std.specs.Prelude.{ℕ, List, Option, Some, None, ◌++◌, slice_get, codes}
use Rattle.exo_tree.specs.Tree.{Kind, Size, Index, Truth, Stride}
use Rattle.exo_tree.specs.Tree.{ConfigField, MemoryKind, Procedure, Program}
use Rattle.text_show.specs.Layout.{Text}
use Rattle.text_show.specs.Names.{unknown, names_of}

pub record Words : Type 0 where
  pub name : ℕ → Text
  pub field : ℕ → Text
  pub memory : ℕ → Text
  pub callee : ℕ → Text

abbrev pub or_unknown : ℕ → Option Text → Text
or_unknown n None = unknown n
or_unknown n (Some t) = t

-- a field behind its configuration
abbrev pub field_name : List ConfigField → ℕ → Text
field_name fields f =
    elim (slice_get fields f) [ None ↦ unknown f | Some x ↦ x.config ++ codes "." ++ x.name ]

abbrev pub memory_name : List MemoryKind → ℕ → Text
memory_name memories m = elim (slice_get memories m) [ None ↦ unknown m | Some x ↦ x.name ]

abbrev pub callee_name : List Procedure → ℕ → Text
callee_name procedures k = elim (slice_get procedures k) [ None ↦ unknown k | Some x ↦ x.name ]

-- the names of a program's tables, and those of binders
abbrev pub words_with : Program → (ℕ → Text) → Words
words_with program names = record {
  name = names;
  field = field_name program.fields;
  memory = memory_name program.memories;
  callee = callee_name program.procedures;
}

-- the words of a procedure of a program
abbrev pub words_of : Program → Procedure → Words
words_of program p = words_with program (names_of p)

abbrev pub kind_word : Kind → Text
kind_word Size = codes "size"
kind_word Index = codes "index"
kind_word Truth = codes "bool"
kind_word Stride = codes "stride"
