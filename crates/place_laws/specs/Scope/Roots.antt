-- The buffer of each name, wherever a run comes to.
use Rattle.std.specs.Prelude.{ℕ, List}
use Rattle.exo_tree.specs.Tree.{Block, Procedure, ConfigField}
use Rattle.exo_tree.specs.Context.{Context}
use Rattle.exo_meaning.specs.State.{State}
use Rattle.exo_meaning.specs.Run.{World, unit_world, kinds_of}
use Rattle.exo_meaning.specs.Inputs.{IsAdmissible}
use Rattle.exo_meaning.specs.Laws.{HasRoots}
use Rattle.meaning_laws.specs.Context.{ComesTo}
use Rattle.meaning_laws.specs.Sorted.{MayRun}
use Rattle.place_laws.specs.Scope.Holes.{roots_at}

-- what is said of the names at the start of a run is said of those at the hole
abbrev pub RootsCome : Type 0
RootsCome =
    (world : World) (old : Block) (c : Context) (root : ℕ → ℕ) (s u : State)
    → ComesTo world old c s u
    → HasRoots root s.scene
    → HasRoots (roots_at c root) u.scene

-- in a procedure each parameter is its own buffer
abbrev pub own_roots_at : Context → ℕ → ℕ
own_roots_at c = roots_at c (λ x. x)

-- each name sees a part of its root, wherever a run comes to
abbrev pub RootsLaw : Type 0
RootsLaw =
    (fields : List ConfigField) (memories : ℕ) (ps : List Procedure) (p : Procedure) (c : Context)
    (old : Block) (s u : State)
    → MayRun fields memories ps p
    → let world = unit_world (kinds_of fields) ps in
    IsAdmissible world p s
    → ComesTo world old c s u
    → HasRoots (own_roots_at c) u.scene
