-- Why ids may not come twice.
use Rattle.std.proofs.Common.{◌≡◌, [], ◌∷◌, None, refl}
use Rattle.exo_tree.specs.Tree.{I8, Binder, Alloc, Block, end, next, Procedure}
use Rattle.tree_edits.specs.Made.Names.{named_copies}

abbrev called : Binder
called = record { id = 0; name = 97 ∷ [] }

abbrev other_name : Binder
other_name = record { id = 0; name = 98 ∷ [] }

abbrev two : Binder → Binder → Block
two x y = next (Alloc x I8 [] 0) (next (Alloc y I8 [] 0) end)

abbrev old : Procedure
old = record { name = []; params = []; asserts = []; body = end; template = None }

-- the second binder of an id gets the name of the first, though no binder is one of a copy
renamed : named_copies old 1 (two called other_name) ≡ two called called
renamed = refl
