-- What keeps the rules in a scope keeps them without names that it does not mention.
use Rattle.std.specs.Prelude.{◌≡◌, ℕ, Bool, true, false, Option}
use Rattle.exo_tree.specs.Tree.{Kind, Binder, Block}
use Rattle.exo_meaning.specs.Calls.{Callee}
use Rattle.exo_meaning.specs.Units.{Scope, sort_in, is_new, is_block}
use Rattle.exo_meaning.specs.Unseen.{in_block as mentions}

-- names that are not hidden are of the same sorts in the narrow scope as in the wide one, and what
-- is new in the wide one is new in it
pub record IsNarrower (hidden : ℕ → Bool) (wide narrow : Scope) : Type 0 where
  pub sorts : (x : ℕ) → hidden x ≡ false → sort_in narrow x ≡ sort_in wide x
  pub new : (b : Binder) → is_new wide b ≡ true → is_new narrow b ≡ true

-- names that are not hidden have the same roots
abbrev pub SameRoots : (ℕ → Bool) → (ℕ → ℕ) → (ℕ → ℕ) → Type 0
SameRoots hidden root other = (x : ℕ) → hidden x ≡ false → other x ≡ root x

-- a block that mentions no hidden name keeps the rules in the narrow scope too
abbrev pub NarrowerScopesKeepRules : Type 0
NarrowerScopesKeepRules =
    (fields : ℕ → Option Kind) (memories : ℕ) (callees : ℕ → Option Callee)
    (hidden : ℕ → Bool) (wide narrow : Scope) (root other : ℕ → ℕ) (b : Block)
    → IsNarrower hidden wide narrow
    → SameRoots hidden root other
    → mentions hidden b ≡ false
    → is_block fields memories callees wide root b ≡ true
    → is_block fields memories callees narrow other b ≡ true
