-- Control expressions of a closed block changed.
use Rattle.std.proofs.Common.{◌≡◌, pos, true, [], ◌∷◌, refl}
use Rattle.exo_tree.specs.Tree.{Control, Lit, Var, Add, Const, At, Window, Assign, Call, Block, end, next}
use Rattle.tree_uses.specs.Uses.{used}
use Rattle.tree_uses.specs.Simple.Changing.{changing}

-- x[0 + i] = 3; h(x[0 + i])
abbrev block : Control → Block
block e =
    next (Assign 0 (e ∷ []) (Const (pos 3))) (next (Call 1 (Window 0 (At e ∷ []) ∷ [])) end)

simpler_here : used (changing (λ e. Var 1) (λ e. true)) (block (Add (Lit (pos 0)) (Var 1))) ≡ block (Var 1)
simpler_here = refl
