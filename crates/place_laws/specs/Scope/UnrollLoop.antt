-- A loop written out: a copy of its body for each turn.
use Rattle.std.specs.Prelude.{◌≡◌, ℕ, ℤ, false, List, [], ◌∷◌}
use Rattle.exo_tree.specs.Tree.{Binder, Control, Lit, For, Block, end, next, Procedure, ConfigField}
use Rattle.exo_tree.specs.Context.{Context, fill}
use Rattle.exo_tree.specs.Substitution.{in_block as substituted}
use Rattle.exo_meaning.specs.State.{State}
use Rattle.exo_meaning.specs.Run.{World, turns_of, unit_world, kinds_of}
use Rattle.exo_meaning.specs.Inputs.{IsAdmissible, Refines}
use Rattle.meaning_laws.specs.Context.{ComesTo}
use Rattle.meaning_laws.specs.Sorted.{MayRun}
use Rattle.meaning_laws.specs.Sound.{IsUnbound}
use Rattle.meaning_laws.specs.Substitute.{catches}
use Rattle.meaning_laws.specs.FreshCopies.{AllMayBeCopied, copies_from}
use Rattle.meaning_laws.specs.FreshCopies.{IsBelow}
use Rattle.place_laws.specs.Scope.Scopes.{joined_all}
use Rattle.place_laws.specs.Scope.Unrolled.{AreCopies}

-- the body, with the number of each turn for the variable
abbrev pub bodies_of : ℕ → Block → List ℤ → List Block
bodies_of i b [] = []
bodies_of i b (n ∷ ns) = substituted i (Lit n) b ∷ bodies_of i b ns

-- copies of these are copies for the turns
abbrev pub MadeCopiesAreCopies : Type 0
MadeCopiesAreCopies =
    (i : ℕ) (b : Block) (ns : List ℤ) (first : ℕ) (s : State)
    → AllMayBeCopied first (bodies_of i b ns) s
    → AreCopies (IsUnbound s) i b ns (copies_from first (bodies_of i b ns))

-- the turns one after the other, their binders numbered from `first` on
abbrev pub unrolled : ℕ → ℕ → Block → List ℤ → Block
unrolled first i b ns = joined_all (copies_from first (bodies_of i b ns))

abbrev pub only_loop : Binder → Control → Control → Block → Block
only_loop i lo hi b = next (For i lo hi b) end

-- the loop has these turns wherever a run comes to it
abbrev pub HasTurns :
    World → Procedure → Context → Binder → Control → Control → Block → List ℤ → Type 0
HasTurns world p c i lo hi b ns =
    (s u : State)
    → IsAdmissible world p s
    → ComesTo world (only_loop i lo hi b) c s u
    → turns_of u.scene lo hi ≡ ns

-- then it may be written out, with binders from any number on that the procedure does not reach
abbrev pub UnrollLaw : Type 0
UnrollLaw =
    (fields : List ConfigField) (memories : ℕ) (ps : List Procedure) (p : Procedure) (c : Context)
    (i : Binder) (lo hi : Control) (b : Block) (ns : List ℤ) (first : ℕ)
    → let world = unit_world (kinds_of fields) ps in
    MayRun fields memories ps p
    → p.body ≡ fill c (only_loop i lo hi b)
    → IsBelow first p
    → ((n : ℤ) → catches i.id (Lit n) b ≡ false)
    → HasTurns world p c i lo hi b ns
    → Refines world p (record p { body = fill c (unrolled first i.id b ns) }) []
