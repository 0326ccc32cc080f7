-- Names that copies are given in `def p(): for i in seq(0, 1): t: i32` and in other bodies of it;
-- its binders have the ids 0 and 1, those of copies have ids from 2 on.
use Rattle.std.proofs.Common.{◌≡◌, ℕ, pos, List, [], None, refl, codes}
use Rattle.exo_tree.specs.Tree.{I32, Lit, For, Alloc, Block, end, next, Procedure}
use Rattle.tree_edits.specs.Made.Names.{numbered, named_copies}

abbrev loop : ℕ → List ℕ → Block → Block
loop id name b = next (For (record { id = id; name = name }) (Lit (pos 0)) (Lit (pos 1)) b) end

-- an allocation before others
abbrev cell : ℕ → List ℕ → Block → Block
cell id name b = next (Alloc (record { id = id; name = name }) I32 [] 0) b

abbrev old : Procedure
old = record { name = codes "p"; params = []; asserts = []; body = loop 0 (codes "i") (cell 1 (codes "t") end); template = None }

abbrev two : Block → Block → Block
two end b = b
two (next a rest) b = next a (two rest b)

-- behind a loop its variable is not in scope, so a copy of the loop keeps the name
beside : named_copies old 2 (two (loop 0 (codes "i") end) (loop 2 (codes "i") end)) ≡ two (loop 0 (codes "i") end) (loop 2 (codes "i") end)
beside = refl

inside : named_copies old 2 (loop 0 (codes "i") (loop 2 (codes "i") end)) ≡ loop 0 (codes "i") (loop 2 (numbered (codes "i") 1) end)
inside = refl

-- a name of the old procedure that is not in scope is no reason for another
elsewhere : named_copies old 2 (loop 0 (codes "i") (loop 2 (codes "i") (cell 3 (codes "t") end))) ≡ loop 0 (codes "i") (loop 2 (numbered (codes "i") 1) (cell 3 (codes "t") end))
elsewhere = refl

-- an original further down in the block of a copy keeps its name
before_the_original : named_copies old 2 (cell 2 (codes "t") (cell 1 (codes "t") end)) ≡ cell 2 (numbered (codes "t") 1) (cell 1 (codes "t") end)
before_the_original = refl
