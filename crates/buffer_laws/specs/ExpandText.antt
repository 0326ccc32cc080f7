-- The text of the step: the larger buffer under the small one's id, with the indices as they stand.
use Rattle.std.specs.Prelude.{◌≡◌, ◌==◌, ◌||◌, ℕ, Bool, true, false, List, [], ◌∷◌, IfSome}
use Rattle.exo_tree.specs.Tree.{Control, Block, Kind, Procedure}
use Rattle.exo_tree.specs.Context.{Context, fill}
use Rattle.exo_meaning.specs.Scene.{number, is_below}
use Rattle.exo_meaning.specs.State.{State}
use Rattle.exo_meaning.specs.Run.{World, run, unit_world}
use Rattle.exo_meaning.specs.Inputs.{IsAdmissible, Refines}
use Rattle.exo_meaning.specs.Unseen.{in_controls as controls_mention}
use Rattle.meaning_laws.specs.Context.{ComesTo}
use Rattle.meaning_laws.specs.Copies.{IsFree}
use Rattle.place_laws.specs.Scope.Opened.{MayLeave}
use Rattle.place_laws.specs.Scope.Scopes.{top_binders}
use Rattle.buffer_laws.specs.Buffers.{Buffer}
use Rattle.buffer_laws.specs.Expanded.{expanded, may_expand, small, MayBePart, MayExpand, EndsAlike}

-- a is an id that is used nowhere, under which the larger buffer is thought of
abbrev pub either_name : ℕ → Buffer → ℕ → Bool
either_name a x y = (y == x.binder.id) || (y == a)

-- neither id stands in the sizes and the point, and x is not passed whole if it has dimensions
pub record HasText (a : ℕ) (n e : Control) (x : Buffer) (rest : Block) : Type 0 where
  pub sizes : controls_mention (either_name a x) (n ∷ e ∷ x.dims) ≡ false
  pub shape : may_expand x rest ≡ true

-- where the block runs, so does the expanded one, to the same fields and cells; calls included
abbrev pub ExpandTextLaw : Type 0
ExpandTextLaw =
    (world : World) (a : ℕ) (n e : Control) (x : Buffer) (rest : Block) (s : State)
    → HasText a n e x rest
    → MayExpand a n e x rest s
    → IfSome (run world (small x rest) s)
    (λ t. EndsAlike s t (run world (expanded n e x rest) s))

-- so the one may stand for the other at a place where the point is within the new dimension
abbrev pub ExpandTextRefines : Type 0
ExpandTextRefines =
    (kinds : ℕ → Kind) (ps : List Procedure) (p : Procedure) (c : Context) (hidden : ℕ → Bool)
    (a : ℕ) (n e : Control) (x : Buffer) (rest : Block)
    → let world = unit_world kinds ps in
    let old = small x rest in
    let new = expanded n e x rest in
    p.body ≡ fill c old
    → MayLeave p c hidden
    → ((y : ℕ) → top_binders old y ≡ true → hidden y ≡ true)
    → ((y : ℕ) → top_binders new y ≡ true → hidden y ≡ true)
    → IsFree p c a
    → HasText a n e x rest
    → MayBePart a e x rest
    → ((s u : State)
    → IsAdmissible world p s
    → ComesTo world old c s u
    → is_below (number u.scene e) (number u.scene n) ≡ true)
    → Refines world p (record p { body = fill c new }) []
