-- The binders of a procedure, and the table of their C names.
use Rattle.std.specs.Prelude.{ℕ, ◌==◌, if◌then◌else◌, List, [], ◌∷◌, ◌++◌}
use Rattle.exo_tree.specs.Tree.{Binder, Param, Procedure, Statement, If, For, Alloc, View, Block, end, next}
use Rattle.c_tree.specs.Names.Words.{Name}
use Rattle.c_tree.specs.Names.Names.{c_name}

abbrev mutual
  pub binders_in : Block → List Binder
  binders_in end = []
  binders_in (next a b) = binders_of a ++ binders_in b

  pub binders_of : Statement → List Binder
  binders_of (If c a b) = binders_in a ++ binders_in b
  binders_of (For i lo hi b) = i ∷ binders_in b
  binders_of (Alloc x cell dims memory) = x ∷ []
  binders_of (View w x coords) = w ∷ []
  binders_of a = []

abbrev pub param_binders : List Param → List Binder
param_binders [] = []
param_binders (p ∷ ps) = p.binder ∷ param_binders ps

-- the parameters, and then those of the body in the order of the text
abbrev pub all_binders : Procedure → List Binder
all_binders p = param_binders p.params ++ binders_in p.body

abbrev pub names_of : List Binder → List Name
names_of [] = []
names_of (b ∷ bs) = b.name ∷ names_of bs

-- ---- the table of a procedure's names

-- the binders with their C names
abbrev pub called : List Name → List Name → List Binder → List Binder
called globals names [] = []
called globals names (b ∷ bs) = record { id = b.id; name = c_name globals names b.name } ∷ called globals names bs

abbrev pub c_names : List Name → Procedure → List Binder
c_names globals p = called globals (names_of (all_binders p)) (all_binders p)

-- the name of that number; the empty one where the table has none
abbrev pub name_in : List Binder → ℕ → Name
name_in [] x = []
name_in (b ∷ bs) x = if x == b.id then b.name else name_in bs x
