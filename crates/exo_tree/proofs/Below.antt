-- The statement at a path, by what the code has found of its first step.
use Rattle.std.proofs.Common.{◌≡◌, List, [], ◌∷◌, Option, Some, None, ap, ◌∙◌}
use Rattle.std.specs.Prelude.{slice_get, option_and_then}
use Rattle.exo_tree.specs.Tree.{Statement, Block, block}
use Rattle.exo_tree.specs.Places.{Step, Path}
use Rattle.exo_tree.specs.Branches.{branch_of}
use Rattle.exo_tree.proofs.Openings.{statement_in, at_last, at_more}

pub below_stops : (s : Step) (path : Path) (ss : List Statement) → slice_get ss s.index ≡ None → statement_in (s ∷ path) (block ss) ≡ None
below_stops s [] ss e = at_last s ss ∙ e
below_stops s (t ∷ path) ss e = at_more s t path ss ∙ ap (option_and_then (λ a. option_and_then (statement_in (t ∷ path)) (branch_of t.branch a))) e

pub below_last : (s : Step) (path : Path) (ss : List Statement) (a : Statement) → slice_get path 0 ≡ None → slice_get ss s.index ≡ Some a → statement_in (s ∷ path) (block ss) ≡ Some a
below_last s [] ss a h e = at_last s ss ∙ e
below_last s (t ∷ path) ss a h e = cc

pub below_next : (s t : Step) (path : Path) (ss : List Statement) (a : Statement) (x : Option Block) → slice_get path 0 ≡ Some t → slice_get ss s.index ≡ Some a → branch_of t.branch a ≡ x → statement_in (s ∷ path) (block ss) ≡ option_and_then (statement_in path) x
below_next s t [] ss a x h e f = cc
below_next s t (u ∷ path) ss a x h e f =
    let g : u ≡ t = cc in
    at_more s u path ss
    ∙ ap (option_and_then (λ a. option_and_then (statement_in (u ∷ path)) (branch_of u.branch a))) e
    ∙ ap (option_and_then (statement_in (u ∷ path))) (ap (λ (v : Step). branch_of v.branch a) g ∙ f)
