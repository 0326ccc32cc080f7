-- The rules on types, binders and memories, where parameters and statements name them. n is the
-- number of the first token.
use Rattle.std.specs.Prelude.{ℕ, ◌+◌, Bool, not, if◌then◌else◌, List, [], ◌∷◌, codes, Option, Some}
use Rattle.std.specs.Prelude.{None}
use Rattle.std.specs.Option.{is_some}
use Rattle.exo_tree.specs.Tree.{Kind, Size, Index, Truth, Stride, Cell, I8, I16, I32, Ui8, Binder}
use Rattle.exo_meaning.specs.Units.{Scope, is_text}
use Rattle.exo_reader.specs.Source.{TypeName, stride, named}
use Rattle.rules_names.specs.declared.error.TypeKind.TheVariants.{UnknownName, Redefined}
use Rattle.rules_names.specs.declared.error.TypeKind.TheVariants.{KindMismatch}
use Rattle.rules_names.specs.declared.fault.Fault.{Fault}
use Rattle.rules_names.specs.Faults.{fault, unless}
use Rattle.rules_names.specs.Names.{named_in, name_number}

-- ---- types

-- the types of cells by their words
abbrev pub cell_words : List (List ℕ × Cell)
cell_words =
    (codes "i8", I8) ∷ (codes "i16", I16) ∷ (codes "i32", I32) ∷ (codes "ui8", Ui8) ∷ []

abbrev pub cell_among : List (List ℕ × Cell) → List ℕ → Option Cell
cell_among [] x = None
cell_among (w ∷ words) x = if is_text x w.0 then Some w.1 else cell_among words x

abbrev pub cell_of_text : List ℕ → Option Cell
cell_of_text x = cell_among cell_words x

abbrev pub cell_named : TypeName → Option Cell
cell_named stride = None
cell_named (named x) = cell_of_text x

-- `size`, `index`, `bool` and `stride` are kinds of control values
abbrev pub kind_of_text : List ℕ → Option Kind
kind_of_text x =
    if is_text x (codes "size")
    then Some Size
    else (if is_text x (codes "index")
    then Some Index
    else (if is_text x (codes "bool") then Some Truth else None))

abbrev pub kind_named : TypeName → Option Kind
kind_named stride = Some Stride
kind_named (named x) = kind_of_text x

-- no type of that name, or one of control values where one of cells is asked
abbrev pub no_cell_faults : Option Kind → ℕ → List Fault
no_cell_faults None n = fault UnknownName n
no_cell_faults (Some kind) n = fault KindMismatch n

abbrev pub cell_faults : TypeName → ℕ → List Fault
cell_faults type n =
    elim (cell_named type) [ None ↦ no_cell_faults (kind_named type) n | Some cell ↦ [] ]

-- and the reverse
abbrev pub no_kind_faults : Option Cell → ℕ → List Fault
no_kind_faults None n = fault UnknownName n
no_kind_faults (Some cell) n = fault KindMismatch n

abbrev pub kind_faults : TypeName → ℕ → List Fault
kind_faults type n =
    elim (kind_named type) [ None ↦ no_kind_faults (cell_named type) n | Some kind ↦ [] ]

-- what stands where no rule is broken; else any
abbrev pub cell_of : TypeName → Cell
cell_of type = elim (cell_named type) [ None ↦ I32 | Some cell ↦ cell ]

abbrev pub kind_of : TypeName → Kind
kind_of type = elim (kind_named type) [ None ↦ Index | Some kind ↦ kind ]

-- ---- binders

abbrev pub binder : ℕ → List ℕ → Binder
binder id x = record { id = id; name = x }

-- the name is given already in its procedure
abbrev pub is_taken : Scope → List ℕ → Bool
is_taken scope x = is_some (named_in scope x)

abbrev pub binder_faults : Scope → ℕ → List ℕ → List Fault
binder_faults scope n x = unless (not (is_taken scope x)) Redefined n

-- ---- memories, by the list of their names

abbrev pub named_memory_faults : Option ℕ → ℕ → List Fault
named_memory_faults None n = fault UnknownName n
named_memory_faults (Some m) n = []

-- the memory behind an `@`, which is token n; where none is named, it is the first one, which is
-- always there
abbrev pub memory_faults : List (List ℕ) → ℕ → Option (List ℕ) → List Fault
memory_faults memories n None = []
memory_faults memories n (Some x) = named_memory_faults (name_number memories x) (n + 1)

abbrev pub number_or : ℕ → Option ℕ → ℕ
number_or d None = d
number_or d (Some m) = m

abbrev pub memory_of : List (List ℕ) → Option (List ℕ) → ℕ
memory_of memories None = 0
memory_of memories (Some x) = number_or 0 (name_number memories x)

-- `@` and a name, or nothing
abbrev pub memory_width : Option (List ℕ) → ℕ
memory_width None = 0
memory_width (Some x) = 2
