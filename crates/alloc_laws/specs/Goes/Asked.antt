-- From what is asked at paths of a procedure to what holds in the runs of a block in it.
use Rattle.std.specs.Prelude.{◌≡◌, ℕ, suc, true, List, [], ◌∷◌, ◌++◌, Some}
use Rattle.exo_tree.specs.Tree.{Control, Coord, Block, end, next, Statement, Procedure}
use Rattle.exo_tree.specs.Context.{Context, Here, After, InLoop, InThen, InElse, fill}
use Rattle.exo_tree.specs.Places.{Branch, Main, Else, Path, Opened, opened}
use Rattle.exo_meaning.specs.Scene.{holds}
use Rattle.exo_meaning.specs.State.{State}
use Rattle.exo_meaning.specs.Run.{World}
use Rattle.exo_meaning.specs.Inputs.{IsAdmissible}
use Rattle.exo_meaning.specs.Orders.{Each}
use Rattle.meaning_laws.specs.Context.{ComesTo}
use Rattle.buffer_laws.specs.StageMem.{Asked, asked_in}
use Rattle.buffer_laws.specs.Stride.OnView.{LiesWithin}

-- ---- where a hole is

-- the number of the hole's first statement, or of the one it stands in, where the first has
-- number k
abbrev pub number_from : ℕ → Context → ℕ
number_from k (Here rest) = k
number_from k (After a c) = number_from (suc k) c
number_from k (InLoop i lo hi c rest) = k
number_from k (InThen t c other rest) = k
number_from k (InElse t other c rest) = k

abbrev pub below : Context → Path
below (Here rest) = []
below (After a c) = below c
below (InLoop i lo hi c rest) = record { branch = Main; index = number_from 0 c } ∷ below c
below (InThen t c other rest) = record { branch = Main; index = number_from 0 c } ∷ below c
below (InElse t other c rest) = record { branch = Else; index = number_from 0 c } ∷ below c

abbrev pub path_from : Branch → ℕ → Context → Path
path_from branch k c = record { branch = branch; index = number_from k c } ∷ below c

-- what is opened at a path has the path
abbrev pub PathLaw : Type 0
PathLaw =
    (count : ℕ) (path : Path) (b : Block) (o : Opened)
    → opened count path b ≡ Some o
    → path ≡ path_from Main 0 o.around

-- the statement in a hole is opened at the hole's path
abbrev pub HoleOpens : Type 0
HoleOpens =
    (c : Context) (a : Statement)
    → opened 1 (path_from Main 0 c) (fill c (next a end))
    ≡ Some (record { around = c; piece = next a end })

-- ---- what is asked there

-- of the statements of a piece, from the path of its first one
abbrev pub asked_from : ℕ → List Control → List Coord → Path → Path → Block → List Asked
asked_from x dims coords outer [] b = []
asked_from x dims coords outer (p ∷ []) b = asked_in x dims coords outer p.branch p.index b
asked_from x dims coords outer (p ∷ q ∷ path) b =
    asked_from x dims coords (outer ++ p ∷ []) (q ∷ path) b

-- wherever a run of the procedure comes to the statement at the path, the condition is true
abbrev pub IsMetAt : World → Procedure → Asked → Type 0
IsMetAt world p q =
    (o : Opened) (s u : State)
    → opened 1 q.path p.body ≡ Some o
    → IsAdmissible world p s
    → ComesTo world o.piece o.around s u
    → holds u.scene q.condition ≡ true

-- so where a run of the procedure comes to the block, its accesses lie within the window
abbrev pub AskedLies : Type 0
AskedLies =
    (world : World) (p : Procedure) (count : ℕ) (path : Path) (o : Opened) (x : ℕ)
    (dims : List Control) (coords : List Coord) (s u : State)
    → opened count path p.body ≡ Some o
    → Each (IsMetAt world p) (asked_from x dims coords [] path o.piece)
    → IsAdmissible world p s
    → ComesTo world o.piece o.around s u
    → LiesWithin world x dims coords o.piece u
