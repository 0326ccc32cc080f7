-- A window's parts on closed blocks.
use Rattle.std.proofs.Common.{◌≡◌, pos, [], ◌∷◌, refl}
use Rattle.exo_tree.specs.Tree.{Lit, Var, Add, Read, At, Span, Whole, Assign, Call, end, next}
use Rattle.step_rules.specs.Rule.{Simplified}
use Rattle.tree_uses.specs.Uses.{used}
use Rattle.stage_rewrites.specs.OnWindow.{on_window}
use Rattle.stage_rewrites.specs.Places.{spots_from}

-- x[i + 4] = x[4]; h(x), on buffer 5 for x[4:12]
simple_on_it :
    used (on_window Simplified 5 0 (Span (Lit (pos 4)) (Lit (pos 12)) ∷ []))
    (next (Assign 0 (Add (Var 2) (Lit (pos 4)) ∷ []) (Read 0 (Lit (pos 4) ∷ [])))
    (next (Call 1 (Whole 0 ∷ [])) end))
    ≡ next (Assign 5 (Var 2 ∷ []) (Read 5 (Lit (pos 0) ∷ []))) (next (Call 1 (Whole 5 ∷ [])) end)
simple_on_it = refl

-- the cell of x[j, 4:12] at variable 7
cell_of_it :
    spots_from 7 (At (Var 1) ∷ Span (Lit (pos 4)) (Lit (pos 12)) ∷ [])
    ≡ Var 1 ∷ Add (Lit (pos 4)) (Var 7) ∷ []
cell_of_it = refl
