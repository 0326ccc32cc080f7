-- What is found of a path in the block of its first step, as it is found of the rest there.
use Rattle.std.proofs.Common.{◌≡◌, List, [], ◌∷◌, Option, Some, None, ap, ◌∙◌}
use Rattle.std.specs.Prelude.{slice_get, option_and_then}
use Rattle.exo_tree.specs.Tree.{Statement, Block, block}
use Rattle.exo_tree.specs.Places.{Step, Path}
use Rattle.exo_tree.specs.Branches.{branch_of}

by_inner : {A : Type 0} (f : Block → Option A) (g : Statement → Option Block) (x : Option Statement)
    (y : Option Block) → option_and_then g x ≡ y
    → option_and_then (λ a. option_and_then f (g a)) x ≡ option_and_then f y
by_inner f g None y h = ap (option_and_then f) h
by_inner f g (Some a) y h = ap (option_and_then f) h

pub inside : {A : Type 0} (found : Path → Block → Option A)
    → ((s t : Step) (path : Path) (ss : List Statement) → found (s ∷ t ∷ path) (block ss)
    ≡ option_and_then (λ a. option_and_then (found (t ∷ path)) (branch_of t.branch a))
    (slice_get ss s.index))
    → (s t : Step) (path rest : Path) (ss : List Statement) (x : Option Block)
    → path ≡ s ∷ rest → slice_get rest 0 ≡ Some t
    → option_and_then (branch_of t.branch) (slice_get ss s.index) ≡ x
    → found path (block ss) ≡ option_and_then (found rest) x
inside found more s t path [] ss x e f h = cc
inside found more s t path (u ∷ rest) ss x e f h =
    let same : u ≡ t = cc in
    ap (λ (p : Path). found p (block ss)) e
    ∙ more s u rest ss
    ∙ by_inner (found (u ∷ rest)) (branch_of u.branch) (slice_get ss s.index) x
    (ap (λ (v : Step). option_and_then (branch_of v.branch) (slice_get ss s.index)) same ∙ h)
