-- A window in the place of a name, on a closed block.
use Rattle.std.proofs.Common.{◌≡◌, pos, [], ◌∷◌, refl}
use Rattle.exo_tree.specs.Tree.{Lit, Var, Add, StrideOf, Read, At, Span, Whole, Window}
use Rattle.exo_tree.specs.Tree.{ControlArg, Assign, Call, Block, end, next}
use Rattle.tree_uses.specs.Uses.{used}
use Rattle.tree_uses.specs.Putting.{putting, one_window}

-- x[i] = y[3]; h(y, stride(y, 0)), where y is x[2, 0:8]
abbrev before : Block
before =
    next (Assign 0 (Var 2 ∷ []) (Read 1 (Lit (pos 3) ∷ [])))
    (next (Call 5 (Whole 1 ∷ ControlArg (StrideOf 1 0) ∷ [])) end)

abbrev after : Block
after =
    next (Assign 0 (Var 2 ∷ []) (Read 0 (Lit (pos 2) ∷ Add (Lit (pos 0)) (Lit (pos 3)) ∷ [])))
    (next (Call 5 (Window 0 (At (Lit (pos 2)) ∷ Span (Lit (pos 0)) (Lit (pos 8)) ∷ [])
    ∷ ControlArg (StrideOf 0 1) ∷ [])) end)

window_put :
    used (putting (λ x. x) (one_window 1
    (Window 0 (At (Lit (pos 2)) ∷ Span (Lit (pos 0)) (Lit (pos 8)) ∷ [])))) before
    ≡ after
window_put = refl
