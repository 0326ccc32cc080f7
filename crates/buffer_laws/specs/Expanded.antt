-- A new first dimension for a buffer, of which its uses take one point.
use Rattle.std.specs.Prelude.{◌≡◌, ◌==◌, ◌||◌, not, ℕ, Bool, true, false, List, [], ◌∷◌}
use Rattle.std.specs.Prelude.{length, Option, Some, IfSome}
use Rattle.exo_tree.specs.Tree.{Control, At, Coord, Argument, ControlArg, ConditionArg}
use Rattle.exo_tree.specs.Tree.{Whole, Window}
use Rattle.exo_tree.specs.Tree.{Statement, Assign, Reduce, Config, Pass, If, For, Alloc, View, Call}
use Rattle.exo_tree.specs.Tree.{Block, end, next, Kind, Procedure}
use Rattle.exo_tree.specs.Context.{Context, fill}
use Rattle.exo_meaning.specs.Scene.{number, is_below}
use Rattle.exo_meaning.specs.State.{State}
use Rattle.exo_meaning.specs.Run.{World, run, unit_world}
use Rattle.exo_meaning.specs.Inputs.{IsAdmissible, Refines}
use Rattle.exo_meaning.specs.Renaming.{Renaming, re_block}
use Rattle.exo_meaning.specs.Unseen.{in_block as mentions}
use Rattle.meaning_laws.specs.Context.{ComesTo}
use Rattle.meaning_laws.specs.Copies.{Moves, IsFree}
use Rattle.meaning_laws.specs.Scoped.{has_binder}
use Rattle.meaning_laws.specs.Sound.{IsSound, IsUnbound}
use Rattle.meaning_laws.specs.Substitute.{is_plain}
use Rattle.inplace_laws.specs.InlineWindow.{is_name}
use Rattle.inplace_laws.specs.Windows.{coords_have, in_block as with_window}
use Rattle.place_laws.specs.Scope.Opened.{MayLeave}
use Rattle.place_laws.specs.Scope.Scopes.{top_binders}
use Rattle.buffer_laws.specs.Staging.Stage.{AreAlike}
use Rattle.buffer_laws.specs.Buffers.{Buffer, allocation, is_buffer}
use Rattle.buffer_laws.specs.Lifted.{are_plain}
use Rattle.buffer_laws.specs.Simplified.{IsSimplifier, simplified}
use Rattle.match_laws.specs.Names.{whole_of}

abbrev pub expanded_buffer : Control → Buffer → Buffer
expanded_buffer n x = record x { dims = n ∷ x.dims }

-- every use of x is one of x at e: accesses, windows and whole uses have the point e in front, and
-- its stride k is stride k + 1
abbrev pub at_point : ℕ → Control → Block → Block
at_point x e = with_window x (Window x (At e ∷ []))

-- the allocation and what follows it in its block
abbrev pub expanded : Control → Control → Buffer → Block → Block
expanded n e x rest = next (allocation (expanded_buffer n x)) (at_point x.binder.id e rest)

-- ---- its shape: where x has dimensions, it is nowhere passed whole

abbrev pub is_whole : ℕ → Argument → Bool
is_whole x (ControlArg e) = false
is_whole x (ConditionArg c) = false
is_whole x (Whole y) = y == x
is_whole x (Window y coords) = false

abbrev pub any_is_whole : ℕ → List Argument → Bool
any_is_whole x [] = false
any_is_whole x (g ∷ gs) = is_whole x g || any_is_whole x gs

abbrev mutual
  pub passes_whole : ℕ → Block → Bool
  passes_whole x end = false
  passes_whole x (next a b) = step_passes_whole x a || passes_whole x b

  pub step_passes_whole : ℕ → Statement → Bool
  step_passes_whole x (Assign y is d) = false
  step_passes_whole x (Reduce y is d) = false
  step_passes_whole x (Config f g) = false
  step_passes_whole x Pass = false
  step_passes_whole x (If c b d) = passes_whole x b || passes_whole x d
  step_passes_whole x (For i lo hi b) = passes_whole x b
  step_passes_whole x (Alloc y cell dims memory) = false
  step_passes_whole x (View w y coords) = false
  step_passes_whole x (Call k gs) = any_is_whole x gs

abbrev pub may_expand : Buffer → Block → Bool
may_expand x rest = (length x.dims == 0) || not (passes_whole x.binder.id rest)

-- ---- the larger buffer under an id of its own

-- the part of buffer a at e, of x's extents
abbrev pub part_coords : Control → Buffer → List Coord
part_coords e x = At e ∷ whole_of x.dims

abbrev pub part_of : ℕ → Control → Buffer → Argument
part_of a e x = Window a (part_coords e x)

-- x with another id
abbrev pub with_id : ℕ → Buffer → Buffer
with_id a x = record x { binder = record { id = a; name = x.binder.name } }

-- the allocation and what follows it in its block
abbrev pub small : Buffer → Block → Block
small x rest = next (allocation x) rest

-- the larger buffer, and its part in the place of x
abbrev pub enlarged : ℕ → Control → Control → Buffer → Block → Block
enlarged a n e x rest =
    next (allocation (expanded_buffer n (with_id a x)))
    (with_window x.binder.id (part_of a e x) rest)

-- with simpler indices at the uses of the larger buffer
abbrev pub with_larger : (Control → Control) → ℕ → Control → Control → Buffer → Block → Block
with_larger simple a n e x rest = simplified simple (is_name a) (enlarged a n e x rest)

-- the extents and the point stay the same in what follows, and a is new
pub record MayBePart (a : ℕ) (e : Control) (x : Buffer) (rest : Block) : Type 0 where
  pub apart : (x.binder.id == a) ≡ false
  pub plain : is_plain e ≡ true
  pub plain_dims : are_plain x.dims ≡ true
  pub kept : (y : ℕ) → coords_have (part_coords e x) y ≡ true → has_binder rest y ≡ false
  pub once : has_binder rest x.binder.id ≡ false
  pub unused : mentions (is_name a) rest ≡ false
  pub gone : mentions (is_buffer x) (with_window x.binder.id (part_of a e x) rest) ≡ false

-- in a state in which the point is within the new dimension
pub record MayExpand (a : ℕ) (n e : Control) (x : Buffer) (rest : Block) (s : State) : Type 0 where
  pub trees : MayBePart a e x rest
  pub sound : IsSound s
  pub none : IsUnbound s x.binder.id
  pub new : IsUnbound s a
  pub inside : is_below (number s.scene e) (number s.scene n) ≡ true

abbrev pub EndsAlike : State → State → Option State → Type 0
EndsAlike s t o = (u : State) × (o ≡ Some u) × AreAlike s t u

-- where the block runs, so does the one on the part, to the same fields and cells; calls included
abbrev pub ExpandLaw : Type 0
ExpandLaw =
    (world : World) (a : ℕ) (n e : Control) (x : Buffer) (rest : Block) (s : State)
    → MayExpand a n e x rest s
    → IfSome (run world (small x rest) s)
    (λ t. EndsAlike s t (run world (enlarged a n e x rest) s))

-- with simpler indices and under other ids too: exchange of a and x gives the larger buffer the id
-- of the small one
abbrev pub ExpandUnderIds : Type 0
ExpandUnderIds =
    (simple : Control → Control) (r : Renaming) (world : World) (a : ℕ) (n e : Control)
    (x : Buffer) (rest : Block) (s : State)
    → IsSimplifier simple
    → MayExpand a n e x rest s
    → Moves r (IsUnbound s)
    → IfSome (run world (small x rest) s)
    (λ t. EndsAlike s t (run world (re_block r (with_larger simple a n e x rest)) s))

-- so the one may stand for the other at a place where the point is within the new dimension
abbrev pub ExpandRefines : Type 0
ExpandRefines =
    (kinds : ℕ → Kind) (ps : List Procedure) (p : Procedure) (c : Context) (hidden : ℕ → Bool)
    (simple : Control → Control) (r : Renaming) (a : ℕ) (n e : Control) (x : Buffer)
    (rest : Block)
    → let world = unit_world kinds ps in
    let old = small x rest in
    let new = re_block r (with_larger simple a n e x rest) in
    p.body ≡ fill c old
    → IsSimplifier simple
    → MayLeave p c hidden
    → ((y : ℕ) → top_binders old y ≡ true → hidden y ≡ true)
    → ((y : ℕ) → top_binders new y ≡ true → hidden y ≡ true)
    → IsFree p c a
    → Moves r (IsFree p c)
    → MayBePart a e x rest
    → ((s u : State)
    → IsAdmissible world p s
    → ComesTo world old c s u
    → is_below (number u.scene e) (number u.scene n) ≡ true)
    → Refines world p (record p { body = fill c new }) []
