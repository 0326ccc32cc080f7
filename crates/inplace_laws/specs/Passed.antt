-- What a call that is made says of its windows.
use Rattle.std.specs.Prelude.{◌≡◌, ◌==◌, ℕ, Bool, true, false, List, Some}
use Rattle.exo_tree.specs.Tree.{Param}
use Rattle.exo_meaning.specs.Scene.{Seen, AreApart}
use Rattle.exo_meaning.specs.Calls.{Given, all_apart}
use Rattle.inplace_laws.specs.CallInPlace.{base_of}

-- no argument that is written meets another one
abbrev pub PassedLaw : Type 0
PassedLaw =
    (writes : ℕ → Bool) (ps : List Param) (gs : List Given)
    → all_apart writes ps gs ≡ true
    → (b c : ℕ) (z y : Seen)
    → writes b ≡ true
    → (b == c) ≡ false
    → base_of ps gs b ≡ Some z
    → base_of ps gs c ≡ Some y
    → AreApart z y
