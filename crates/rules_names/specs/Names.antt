-- What the names of a text stand for. A scope and what a name of it is are those of well formed units.
use Rattle.std.specs.Prelude.{ℕ, ◌+◌, ◌&&◌, if◌then◌else◌, List, [], ◌∷◌, map, Option, Some, None}
use Rattle.exo_tree.specs.Tree.{Kind, ConfigField, MemoryKind, Procedure}
use Rattle.exo_meaning.specs.Units.{Sort, Named, Scope, is_text}

-- what stands for a name that is not in scope
abbrev pub no_id : ℕ
no_id = 4294967295

-- what a name stands for, the innermost first
abbrev pub named_in : Scope → List ℕ → Option Named
named_in [] x = None
named_in (n ∷ scope) x = if is_text n.binder.name x then Some n else named_in scope x

abbrev pub sort_of : Option Named → Option Sort
sort_of None = None
sort_of (Some n) = Some n.sort

abbrev pub id_of : Option Named → ℕ
id_of None = no_id
id_of (Some n) = n.binder.id

-- the id of a name, or what stands for a name that is not in scope
abbrev pub id_in : Scope → List ℕ → ℕ
id_in scope x = id_of (named_in scope x)

-- the number and the kind of a field of a configuration, where there is one of these names
abbrev pub field_from : ℕ → List ConfigField → List ℕ → List ℕ → Option (ℕ × Kind)
field_from n [] config x = None
field_from n (f ∷ fs) config x = if is_text f.config config && is_text f.name x then Some (n, f.kind) else field_from (n + 1) fs config x

abbrev pub field_in : List ConfigField → List ℕ → List ℕ → Option (ℕ × Kind)
field_in fields config x = field_from 0 fields config x

-- the number of a name in a list, where it stands in it
abbrev pub number_from : ℕ → List (List ℕ) → List ℕ → Option ℕ
number_from n [] x = None
number_from n (y ∷ names) x = if is_text y x then Some n else number_from (n + 1) names x

abbrev pub name_number : List (List ℕ) → List ℕ → Option ℕ
name_number names x = number_from 0 names x

-- the number of a memory, and of a procedure, where there is one of this name
abbrev pub memory_in : List MemoryKind → List ℕ → Option ℕ
memory_in memories x = name_number (map (λ m. m.name) memories) x

abbrev pub procedure_in : List Procedure → List ℕ → Option ℕ
procedure_in procedures x = name_number (map (λ p. p.name) procedures) x
