-- Roots are a set, since each has a code: so what is said of them has one proof at most.
use Rattle.std.specs.Prelude.{◌≡◌, ℕ, List, Option, Some, None}
use Rattle.std.specs.Coded.{Coded, Coded-set, coded_ℕ, coded_list, coded_option, coded×, code_by}
use Rattle.std.proofs.Common.{refl}
use mathlib.Core.HLevel.{→_set}
use Rattle.exo_tree.specs.Tree.{Control}
use Rattle.exo_tree.specs.Codes.{index_code}
use Rattle.affine_places.specs.Roots.{Layout, Dense, Strided, Rooted, Roots}

abbrev extents_of : Layout → Option (List Control)
extents_of (Dense extents) = Some extents
extents_of Strided = None

abbrev laid : Option (List Control) → Layout
laid None = Strided
laid (Some extents) = Dense extents

same_layout : (l : Layout) → laid (extents_of l) ≡ l
same_layout (Dense extents) = refl
same_layout Strided = refl

abbrev layout_code : Coded Layout
layout_code = code_by (Option (List Control)) (coded_option index_code) extents_of laid same_layout

abbrev rooted_code : Coded Rooted
rooted_code =
    code_by (ℕ × (Layout × List ℕ))
    (coded× coded_ℕ (coded× layout_code (coded_list coded_ℕ)))
    (λ r. (r.root, (r.layout, r.dims)))
    (λ p. record { root = p.0; layout = p.1.0; dims = p.1.1 })
    (λ _. refl)

seen-set : IsSet (Option Rooted)
seen-set = Coded-set (coded_option rooted_code)

pub Roots-set : IsSet Roots
Roots-set = →_set seen-set
