-- Places of a procedure.
use Rattle.std.proofs.Common.{◌≡◌, true, [], ◌∷◌, Option, Some, None, refl}
use Rattle.std.specs.Prelude.{option_map, IsSome}
use Rattle.exo_tree.specs.Tree.{Procedure}
use Rattle.exo_tree.specs.Places.{Path, Opened, opened}
use Rattle.check_facts.specs.Contexts.{IsPlaceOf}
use Rattle.effect_conflicts.specs.Standings as tested

module _ {T : Type 0} (f : Opened → T) where
  pub nowhere : (x : Option Opened) → None ≡ option_map f x → None ≡ x
  nowhere None h = refl
  nowhere (Some o) h = cc

  there : (x : Option Opened) (y : T) → Some y ≡ option_map f x → IsSome x
  there None y h = cc
  there (Some o) y h = refl

  pub is_place : (p : Procedure) (path : Path) (y : T) → Some y ≡ option_map f (opened 1 path p.body)
      → IsPlaceOf path p
  is_place p [] y h = tt
  is_place p (s ∷ path) y h = there (opened 1 (s ∷ path) p.body) y h

-- as a test
pub place_tested : (p : Procedure) (path : Path) → IsPlaceOf path p → tested.is_place path p ≡ true
place_tested p [] h = refl
place_tested p (s ∷ path) h = h
