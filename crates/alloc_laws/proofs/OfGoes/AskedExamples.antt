-- Instances: what is asked of a block in a loop, and where a run comes to it.
use Rattle.std.proofs.Common.{◌≡◌, ℕ, pos, List, [], ◌∷◌, Some, refl}
use Rattle.exo_tree.specs.Tree.{Binder, Control, Lit, Var, Condition, Le, Lt, Coord, Span, Const}
use Rattle.exo_tree.specs.Tree.{Assign, If, For, Block, end, next, Procedure}
use Rattle.exo_tree.specs.Context.{Here, InLoop}
use Rattle.exo_tree.specs.Places.{Main, Else, Path, Opened, opened}
use Rattle.exo_meaning.specs.State.{State}
use Rattle.exo_meaning.specs.Run.{World}
use Rattle.exo_meaning.specs.Inputs.{IsAdmissible}
use Rattle.meaning_laws.specs.Context.{ComesTo}
use Rattle.buffer_laws.specs.StageMem.{Asked}
use Rattle.buffer_laws.specs.Stride.OnView.{LiesWithin}
use Rattle.alloc_laws.specs.Goes.Asked.{asked_from, AskedLies}

abbrev pub i : Binder
i = record { id = 2; name = 105 ∷ [] }

abbrev pub number : ℕ → Control
number n = Lit (pos n)

abbrev pub test : Condition
test = Lt (Var 2) (number 3)

-- for i: if i < 3: pass; else: x[1] = 5
abbrev pub piece : Block
piece = next (If test end (next (Assign 1 (number 1 ∷ []) (Const (pos 5))) end)) end

abbrev pub body : Block
body = next (For i (number 0) (number 8) piece) end

abbrev pub path : Path
path = record { branch = Main; index = 0 } ∷ record { branch = Main; index = 0 } ∷ []

abbrev pub there : Opened
there = record { around = InLoop i (number 0) (number 8) (Here end) end; piece = piece }

opens : opened 1 path body ≡ Some there
opens = refl

abbrev pub window : List Coord
window = Span (number 0) (number 4) ∷ []

abbrev pub inner : Path
inner = record { branch = Main; index = 0 } ∷ record { branch = Main; index = 0 }
    ∷ record { branch = Else; index = 0 } ∷ []

abbrev pub asked : List Asked
asked = record { path = inner; condition = Le (number 0) (number 1) }
    ∷ record { path = inner; condition = Lt (number 1) (number 4) } ∷ []

asked_is : asked_from 1 [] window [] path piece ≡ asked
asked_is = refl

-- the conditions hold in each state, so the block lies within the window
pub lies : AskedLies → (world : World) (p : Procedure) (s u : State) → opened 1 path p.body ≡ Some there
    → IsAdmissible world p s → ComesTo world piece there.around s u
    → LiesWithin world 1 [] window piece u
lies law world p s u is good come =
    law world p 1 path there 1 [] window s u is
    (λ o s u e good come. refl, (λ o s u e good come. refl, tt)) good come
