-- Indices as points.
use Rattle.std.proofs.Common.{◌≡◌, ℕ, Bool, false, List, [], ◌∷◌, refl, ap}
use Rattle.exo_tree.specs.Tree.{Control}
use Rattle.exo_tree.specs.Places.{Path}
use Rattle.match_laws.specs.Names.{Names}
use Rattle.match_laws.specs.Pairs.{Numbers, points, controls_paired, coords_paired}

module _ (params bound : ℕ → Bool) (ours theirs : Names) where
  pub points_meet : (p : Path) (es gs : List Control)
      → coords_paired params bound ours theirs p (points es) (points gs)
      ≡ controls_paired params bound ours theirs p es gs
  points_meet p [] [] = refl
  points_meet p [] (g ∷ gs) = refl
  points_meet p (e ∷ es) [] = refl
  points_meet p (e ∷ es) (g ∷ gs) = ap (λ l. Numbers p false e g ∷ l) (points_meet p es gs)
