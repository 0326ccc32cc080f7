-- Names of a window that are not in scope.
use Rattle.std.proofs.Common.{◌≡◌, ◌||◌, ℕ, Bool, true, false, List, ap, sym, ◌∙◌}
use Rattle.exo_tree.specs.Tree.{Coord}
use Rattle.exo_meaning.specs.Units.{Scope}
use Rattle.exo_meaning.specs.Unseen.{in_coords}
use Rattle.alloc_laws.specs.Expanding.{is_missing}

module _ (before here : Scope) (x : ℕ) (cs : List Coord) (same : before ≡ here) where
  abbrev misses : Bool
  misses = is_missing here x || in_coords (is_missing here) cs

  answered : (r : Bool) → is_missing before x ≡ r → r || in_coords (is_missing here) cs ≡ misses
  answered r h =
      ap (λ b. b || in_coords (is_missing here) cs) (sym h ∙ ap (λ s. is_missing s x) same)

  -- the buffer's name is not there
  pub first_missed : (r : Bool) → r ≡ is_missing before x → r ≡ true → r ≡ misses
  first_missed r h k = k ∙ answered true (sym h ∙ k)

  -- it is there, and the rest decides
  pub rest_missed : (r : Bool) (ds : List Coord) → r ≡ is_missing before x → r ≡ false → ds ≡ cs
      → in_coords (is_missing before) ds ≡ misses
  rest_missed r ds h k l =
      ap (λ s. in_coords (is_missing s) ds) same
      ∙ ap (in_coords (is_missing here)) l
      ∙ answered false (sym h ∙ k)
