-- The turns of a loop, written out.
use Rattle.std.specs.Prelude.{◌≡◌, ℕ, ℤ, false, List, [], ◌∷◌, ⊤}
use Rattle.exo_tree.specs.Tree.{Binder, Control, Lit, For, Block, end, next}
use Rattle.exo_meaning.specs.State.{State, scoped}
use Rattle.exo_meaning.specs.Run.{World, run, turn, turns, turns_of}
use Rattle.exo_meaning.specs.Renaming.{Renaming, re_block}
use Rattle.meaning_laws.specs.Context.{MayReplace}
use Rattle.meaning_laws.specs.Copies.{Moves}
use Rattle.meaning_laws.specs.Sound.{IsSound, IsSameName, IsUnbound}
use Rattle.meaning_laws.specs.Substitute.{in_block as substituted, catches}
use Rattle.place_laws.specs.Scope.Scopes.{HasNone, top_binders, joined_all, scopes, AreApart}

-- a sound state with the names of s
pub record HasNamesOf (s u : State) : Type 0 where
  pub sound : IsSound u
  pub names : (x : ℕ) → IsSameName x s u

-- one block for each turn, which does the same wherever the names are those of s
abbrev pub AreTurns : World → ℕ → Block → State → List ℤ → List Block → Type 0
AreTurns world i b s [] [] = ⊤
AreTurns world i b s [] (c ∷ cs) = ⊥
AreTurns world i b s (n ∷ ns) [] = ⊥
AreTurns world i b s (n ∷ ns) (c ∷ cs) =
    ((u : State) → HasNamesOf s u → turn i (run world b) n u ≡ scoped (run world c) u) ×
    AreTurns world i b s ns cs

-- the turns do what these blocks do, each in a scope of its own
abbrev pub TurnsAreScopes : Type 0
TurnsAreScopes =
    (world : World) (i : ℕ) (b : Block) (ns : List ℤ) (bs : List Block) (s : State)
    → IsSound s
    → AreTurns world i b s ns bs
    → turns (turn i (run world b)) ns s ≡ scopes world bs s

-- the body with the number of the turn for the variable, under other ids
pub record IsCopyFor (Free : ℕ → Type 0) (i : ℕ) (b : Block) (n : ℤ) (c : Block) : Type 0 where
  pub to : Renaming
  pub moves : Moves to Free
  pub is : c ≡ re_block to (substituted i (Lit n) b)

abbrev pub AreCopies : (ℕ → Type 0) → ℕ → Block → List ℤ → List Block → Type 0
AreCopies Free i b [] [] = ⊤
AreCopies Free i b [] (c ∷ cs) = ⊥
AreCopies Free i b (n ∷ ns) [] = ⊥
AreCopies Free i b (n ∷ ns) (c ∷ cs) = IsCopyFor Free i b n c × AreCopies Free i b ns cs

-- copies of the body do the same as the turns
abbrev pub CopiesAreTurns : Type 0
CopiesAreTurns =
    (world : World) (i : ℕ) (b : Block) (ns : List ℤ) (bs : List Block) (s : State)
    → ((n : ℤ) → catches i (Lit n) b ≡ false)
    → AreCopies (IsUnbound s) i b ns bs
    → AreTurns world i b s ns bs

-- so they may stand for the loop, one after the other
abbrev pub CopiesMayStand : Type 0
CopiesMayStand =
    (world : World) (i : Binder) (lo hi : Control) (b : Block) (bs : List Block) (u : State)
    → let hidden = top_binders (joined_all bs) in
    AreApart bs
    → HasNone hidden u
    → ((n : ℤ) → catches i.id (Lit n) b ≡ false)
    → AreCopies (IsUnbound u) i.id b (turns_of u.scene lo hi) bs
    → MayReplace world hidden (next (For i lo hi b) end) (joined_all bs) u
