-- The claims of a procedure, place by place: first those of its parameters, then those of each
-- statement, in text order.
use Rattle.std.specs.Prelude.{◌≡◌, ℕ, suc, ◌-◌, ◌==◌, nat_lt, Bool, true, false}
use Rattle.std.specs.Prelude.{◌&&◌, if◌then◌else◌}
use Rattle.std.specs.Prelude.{List, [], ◌∷◌, ◌++◌, flat_map, fold, take, drop, length}
use Rattle.std.specs.Prelude.{Some, None, slice_get}
use Rattle.exo_tree.specs.Tree.{Statement, Assign, Reduce, Config, Pass, If, For, Alloc, View, Call}
use Rattle.exo_tree.specs.Tree.{Block, end, next, Procedure, Program}
use Rattle.exo_tree.specs.Places.{Branch, Main, Else, Path, path_below}
use Rattle.affine_places.specs.Roots.{Roots, roots_of}
use Rattle.text_show.specs.Words.{Words, words_of}
use Rattle.check_claims.specs.Claim.{Claim, Placed}
use Rattle.check_claims.specs.Extents.{Extents, extents_of}
use Rattle.check_claims.specs.Claims.{own_claims, param_claims, placed_at, claims_of}
use Rattle.check_claims.specs.declared.parts.Window.{Window}

-- ---- places

-- a path with the claims of what stands there
abbrev pub Place : Type 0
Place = Path × List Claim

module _ (w : Words) where
  abbrev mutual
    -- of the statements of a block, the first of which has that number, and of the blocks inside
    -- them
    pub block_places : Program → Extents → Roots → Path → Branch → ℕ → Block → List Place
    block_places u extents roots outer branch n end = []
    block_places u extents roots outer branch n (next a b) =
        (path_below outer branch n, own_claims w u extents roots a)
        ∷ inner_places u extents roots (path_below outer branch n) a
        ++ block_places u extents roots outer branch (suc n) b

    -- of the blocks of the statement at the path
    pub inner_places : Program → Extents → Roots → Path → Statement → List Place
    inner_places u extents roots path (Assign x is e) = []
    inner_places u extents roots path (Reduce x is e) = []
    inner_places u extents roots path (Config f a) = []
    inner_places u extents roots path Pass = []
    inner_places u extents roots path (If c a b) =
        block_places u extents roots path Main 0 a ++ block_places u extents roots path Else 0 b
    inner_places u extents roots path (For i lo hi b) = block_places u extents roots path Main 0 b
    inner_places u extents roots path (Alloc x cell dims memory) = []
    inner_places u extents roots path (View v x coords) = []
    inner_places u extents roots path (Call k args) = []

abbrev pub places_of : Program → Procedure → List Place
places_of u p =
    ([], param_claims (words_of u p) p.params)
    ∷ block_places (words_of u p) u (extents_of p) (roots_of p) [] Main 0 p.body

-- ---- the claims of some places

-- of places
abbrev pub claims_at : List Place → List Placed
claims_at is = flat_map (λ i. placed_at i.0 i.1) is

-- of so many places, behind so many others
abbrev pub claims_between : Program → Procedure → ℕ → ℕ → List Placed
claims_between u p skip count = claims_at (take count (drop skip (places_of u p)))

-- whether the procedure has a place behind those
abbrev pub has_more : Program → Procedure → ℕ → ℕ → Bool
has_more u p skip count = nat_lt count (length (drop skip (places_of u p)))

-- in the procedure of that number; nothing where there is no such procedure
abbrev pub unit_claims_between : Program → ℕ → ℕ → ℕ → List Placed
unit_claims_between u k skip count =
    elim (slice_get u.procedures k) [ None ↦ [] | Some p ↦ claims_between u p skip count ]

abbrev pub unit_has_more : Program → ℕ → ℕ → ℕ → Bool
unit_has_more u k skip count =
    elim (slice_get u.procedures k) [ None ↦ false | Some p ↦ has_more u p skip count ]

-- the claims of all places
abbrev pub PlacesHaveAllClaims : Type 0
PlacesHaveAllClaims = (u : Program) (p : Procedure) → claims_at (places_of u p) ≡ claims_of u p

-- ---- a window that goes over places

-- whether the place that comes next is taken
abbrev pub takes : Window → Bool
takes w = (w.skip == 0) && nat_lt 0 w.left

-- the window behind it
abbrev pub moved : Window → Window
moved w =
    if nat_lt 0 w.skip then record { skip = w.skip - 1; left = w.left; more = w.more }
    else if nat_lt 0 w.left then record { skip = w.skip; left = w.left - 1; more = w.more }
    else record { skip = w.skip; left = w.left; more = true }

-- the claims so far and the window, behind a place
abbrev pub with_place : List Placed × Window → Place → List Placed × Window
with_place s i = (if takes s.1 then s.0 ++ placed_at i.0 i.1 else s.0, moved s.1)

-- behind places
abbrev pub with_places : List Placed × Window → List Place → List Placed × Window
with_places s is = fold with_place s is
