-- A cell of a name is the window that is its point.
use Rattle.std.proofs.Common.{◌≡◌, List, [], ◌∷◌, map, refl, ap}
use Rattle.exo_tree.specs.Tree.{Control, Add, Coord, At, Span}
use Rattle.inplace_laws.specs.Windows.{shifted, joined_coords}

pub joined_points : (cs : List Coord) (is : List Control)
    → joined_coords cs (map At is) ≡ map At (shifted cs is)
joined_points [] is = refl
joined_points (At a ∷ cs) is = ap (λ l. At a ∷ l) (joined_points cs is)
joined_points (Span a b ∷ cs) [] = refl
joined_points (Span a b ∷ cs) (i ∷ is) = ap (λ l. At (Add a i) ∷ l) (joined_points cs is)
