-- The copies that code makes do the same.
use Rattle.std.specs.Prelude.{◌≡◌, ℕ, ℤ, ◌+◌, ◌≤◌, nat_le, nat_lt, Bool, true, false, ◌&&◌, ◌||◌}
use Rattle.std.specs.Prelude.{⊤, List, [], ◌∷◌, length, Option, option_map, IfSome}
use Rattle.std.specs.List.{list_all}
use Rattle.exo_tree.specs.Tree.{Statement, If, Alloc, View}
use Rattle.exo_tree.specs.Tree.{Control, Block, end, next, Procedure}
use Rattle.exo_tree.specs.Context.{Context, fill}
use Rattle.exo_tree.specs.Renaming.{binders, fresh}
use Rattle.meaning_laws.specs.Substitute.{in_block as put_in_block}
use Rattle.exo_meaning.specs.State.{State, scoped, on_scene, with_control}
use Rattle.exo_meaning.specs.Run.{World, run, turns}
use Rattle.exo_meaning.specs.Inputs.{IsAdmissible}
use Rattle.exo_meaning.specs.Renaming.{Renaming, re_block, re_state}
use Rattle.exo_meaning.specs.Unseen.{in_control as uses, in_block as mentions}
use Rattle.exo_meaning.specs.Orders.{Each}
use Rattle.exo_meaning.specs.Units.{bound_ids}
use Rattle.meaning_laws.specs.Context.{ComesTo}
use Rattle.meaning_laws.specs.Sound.{IsSound, IsUnbound}
use Rattle.meaning_laws.specs.Copies.{Moves}
use Rattle.meaning_laws.specs.Fresh.{IsFresh}
use Rattle.meaning_laws.specs.Scoped.{is_scoped, is_param, has_binder}

-- whether x is one of k numbers from n on
abbrev pub is_within : ℕ → ℕ → ℕ → Bool
is_within n k x = nat_le n x && nat_lt x (n + k)

-- whether a copy of b that is numbered from n on gives this number to a binder
abbrev pub is_given : ℕ → Block → ℕ → Bool
is_given n b = is_within n (length (binders b))

-- a copy numbered from n on is a renaming, where the block has none of these numbers
abbrev pub CopyIsRenaming : Type 0
CopyIsRenaming =
    (b : Block) (n : ℕ) (r : Renaming)
    → IsFresh b n r
    → mentions (is_given n b) b ≡ false
    → fresh n b ≡ re_block r b

-- in s neither the binders of b nor the numbers of its copy stand for anything, and b has none of
-- these numbers
pub record MayCopy (n : ℕ) (b : Block) (s : State) : Type 0 where
  pub sound : IsSound s
  pub own : (x : ℕ) → has_binder b x ≡ true → IsUnbound s x
  pub given : (x : ℕ) → is_given n b x ≡ true → IsUnbound s x
  pub unused : mentions (is_given n b) b ≡ false

-- the copy does what the block does, under the new ids, and in a scope of its own exactly the same
pub record RunsAlike (world : World) (n : ℕ) (b : Block) (s : State) : Type 0 where
  pub ids : Renaming
  pub is_fresh : IsFresh b n ids
  pub moves : Moves ids (IsUnbound s)
  pub is_copy : fresh n b ≡ re_block ids b
  pub runs : run world (fresh n b) s ≡ option_map (re_state ids) (run world b s)
  pub in_scope : scoped (run world (fresh n b)) s ≡ scoped (run world b) s

abbrev pub CopiesRunAlike : Type 0
CopiesRunAlike =
    (world : World) (n : ℕ) (b : Block) (s : State)
    → MayCopy n b s
    → RunsAlike world n b s

-- no name is bound behind the block: it has allocations and windows in loops and branches alone
abbrev pub is_closed_statement : Statement → Bool
is_closed_statement (Alloc x cell dims memory) = false
is_closed_statement (View w x coords) = false
is_closed_statement _ = true

abbrev pub is_closed : Block → Bool
is_closed end = true
is_closed (next a b) = is_closed_statement a && is_closed b

-- then the copy does exactly the same: so does that of a loop or of a condition
abbrev pub ClosedCopiesAreSame : Type 0
ClosedCopiesAreSame =
    (world : World) (n : ℕ) (b : Block) (s : State)
    → MayCopy n b s
    → is_closed b ≡ true
    → run world (fresh n b) s ≡ run world b s

-- a copy has the new numbers as binders and no other
abbrev pub CopiesBindNewNumbers : Type 0
CopiesBindNewNumbers =
    (n : ℕ) (b : Block) (x : ℕ)
    → has_binder (fresh n b) x ≡ true
    → is_given n b x ≡ true

-- the block d binds neither a binder of b nor a number of its copy
abbrev pub BindsNoneOf : Block → ℕ → Block → Type 0
BindsNoneOf d n b = (x : ℕ) → has_binder d x ≡ true → (has_binder b x || is_given n b x) ≡ false

-- what may be copied may be copied behind such a block, as behind another copy
abbrev pub MayCopyBehind : Type 0
MayCopyBehind =
    (world : World) (n : ℕ) (b d : Block) (s : State)
    → MayCopy n b s
    → BindsNoneOf d n b
    → IfSome (run world d s) (MayCopy n b)

-- so copies of one block, and of blocks with its binders, may stand one behind the other, each with
-- numbers behind those of the one before
abbrev pub MayCopyNext : Type 0
MayCopyNext =
    (world : World) (n m : ℕ) (b d : Block) (s : State)
    → binders d ≡ binders b
    → n + length (binders b) ≤ m
    → MayCopy n b s
    → MayCopy m b s
    → IfSome (run world (fresh n d) s) (MayCopy m b)

-- copies of these blocks, numbered from n on one behind the other
abbrev pub copies_from : ℕ → List Block → List Block
copies_from n [] = []
copies_from n (d ∷ ds) = fresh n d ∷ copies_from (n + length (binders d)) ds

abbrev pub AllMayBeCopied : ℕ → List Block → State → Type 0
AllMayBeCopied n [] s = ⊤
AllMayBeCopied n (d ∷ ds) s = MayCopy n d s × AllMayBeCopied (n + length (binders d)) ds s

-- one block after the other, each in a scope of its own
abbrev pub each_in_scope : World → List Block → State → Option State
each_in_scope world = turns (λ d. scoped (run world d))

-- then they do the same in scopes of their own
abbrev pub ScopedCopiesAreSame : Type 0
ScopedCopiesAreSame =
    (world : World) (n : ℕ) (ds : List Block) (s : State)
    → AllMayBeCopied n ds s
    → each_in_scope world (copies_from n ds) s ≡ each_in_scope world ds s

-- and a block may be copied in a turn of a loop over another variable
abbrev pub MayCopyInTurn : Type 0
MayCopyInTurn =
    (n : ℕ) (b : Block) (s : State) (i : ℕ) (m : ℤ)
    → MayCopy n b s
    → (has_binder b i || is_given n b i) ≡ false
    → MayCopy n b (on_scene (with_control i m) s)

-- and it may be copied with an expression for a variable
abbrev pub MayCopySubstituted : Type 0
MayCopySubstituted =
    (n : ℕ) (b : Block) (s : State) (i : ℕ) (e : Control)
    → MayCopy n b s
    → uses (is_given n b) e ≡ false
    → MayCopy n (put_in_block i e b) s

-- ---- at a place

-- all names are in scope, and no parameter and no binder has a number from n on
pub record IsBelow (n : ℕ) (p : Procedure) : Type 0 where
  pub scoped : is_scoped (is_param p) p.body ≡ true
  pub below : list_all (λ x. nat_lt x n) (bound_ids p) ≡ true

-- a run on an admissible input of p comes to its hole in state u, with old in the hole
pub record StandsAt (world : World) (p : Procedure) (c : Context) (old : Block) (u : State)
    : Type 0 where
  pub body : p.body ≡ fill c old
  pub first : State
  pub good : IsAdmissible world p first
  pub comes : ComesTo world old c first u

-- then a block with binders of old alone may be copied from any such number on, if it has none of
-- the new numbers
abbrev pub PlacesMayCopy : Type 0
PlacesMayCopy =
    (world : World) (p : Procedure) (c : Context) (old b : Block) (n : ℕ) (u : State)
    → IsBelow n p
    → StandsAt world p c old u
    → ((x : ℕ) → has_binder b x ≡ true → has_binder old x ≡ true)
    → mentions (is_given n b) b ≡ false
    → MayCopy n b u

-- as what stands in the hole has none of them
abbrev pub OldMayBeCopied : Type 0
OldMayBeCopied =
    (world : World) (p : Procedure) (c : Context) (old : Block) (n : ℕ) (u : State)
    → IsBelow n p
    → StandsAt world p c old u
    → MayCopy n old u

-- ---- several copies at a place

-- the block d binds no name that old does not bind, and has no number from n on
pub record IsMadeOf (n : ℕ) (old d : Block) : Type 0 where
  pub own : (x : ℕ) → has_binder d x ≡ true → has_binder old x ≡ true
  pub low : mentions (nat_le n) d ≡ false

-- so is what stands in the hole
abbrev pub OldIsMade : Type 0
OldIsMade =
    (p : Procedure) (c : Context) (old : Block) (n : ℕ)
    → IsBelow n p
    → p.body ≡ fill c old
    → IsMadeOf n old old

-- and such a block with an expression for a variable
abbrev pub SubstitutedIsMade : Type 0
SubstitutedIsMade =
    (n : ℕ) (old d : Block) (i : ℕ) (e : Control)
    → IsMadeOf n old d
    → uses (nat_le n) e ≡ false
    → IsMadeOf n old (put_in_block i e d)

-- any number of such blocks may be copied from n on
abbrev pub PlacesMayCopyAll : Type 0
PlacesMayCopyAll =
    (world : World) (p : Procedure) (c : Context) (old : Block) (ds : List Block) (n : ℕ)
    (u : State)
    → IsBelow n p
    → StandsAt world p c old u
    → Each (IsMadeOf n old) ds
    → AllMayBeCopied n ds u
