-- The memory that each name in scope stands in.
use Rattle.std.specs.Prelude.{ℕ, Bool, true, false, List, [], ◌∷◌, Option, Some, None}
use Rattle.exo_tree.specs.Tree.{Statement, Alloc, View}
use Rattle.exo_tree.specs.Tree.{ParamKind, ControlParam, TensorParam, WindowParam, Param}
use Rattle.exo_meaning.specs.Scene.{updated}

-- by the name's id; that of no buffer counts as in the first memory, and no rule asks for it
abbrev pub Homes : Type 0
Homes = ℕ → ℕ

abbrev pub memory_of_kind : ParamKind → Option ℕ
memory_of_kind (ControlParam kind) = None
memory_of_kind (TensorParam cell dims memory) = Some memory
memory_of_kind (WindowParam cell dims memory) = Some memory

abbrev pub with_memory : Homes → ℕ → Option ℕ → Homes
with_memory home x None = home
with_memory home x (Some memory) = updated home x memory

abbrev pub with_param : Homes → Param → Homes
with_param home p = with_memory home p.binder.id (memory_of_kind p.kind)

abbrev pub with_params : Homes → List Param → Homes
with_params home [] = home
with_params home (p ∷ ps) = with_params (with_param home p) ps

-- before the body
abbrev pub param_homes : List Param → Homes
param_homes ps = with_params (λ x. 0) ps

-- behind a statement; a view stands in the memory of what it sees
abbrev pub homes_after : Homes → Statement → Homes
homes_after home (Alloc x cell dims memory) = updated home x.id memory
homes_after home (View w x coords) = updated home w.id (home x)
homes_after home _ = home

-- whether a statement gives a name a memory
abbrev pub binds : Statement → Bool
binds (Alloc x cell dims memory) = true
binds (View w x coords) = true
binds _ = false

-- behind the statements of a block so far
abbrev pub homes_past : Homes → List Statement → Homes
homes_past home [] = home
homes_past home (s ∷ ss) = homes_past (homes_after home s) ss
