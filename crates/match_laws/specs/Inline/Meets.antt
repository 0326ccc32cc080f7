-- A callee's body with what stands for its names, against a block, pair by pair of their walk.
use Rattle.std.specs.Prelude.{◌≡◌, ℕ, Bool, true, false, ◌&&◌, List, ◌∷◌}
use Rattle.exo_tree.specs.Tree.{Argument, Whole, Window, Statement, If}
use Rattle.exo_tree.specs.Tree.{For, Call, Block, next}
use Rattle.exo_meaning.specs.Orders.{Each}
use Rattle.exo_meaning.specs.Scene.{Scene}
use Rattle.exo_meaning.specs.State.{State}
use Rattle.exo_meaning.specs.Run.{World}
use Rattle.affine_forms.specs.Forms.{Reading}
use Rattle.inplace_laws.specs.Along.{SameAlong}
use Rattle.inplace_laws.specs.Inline.{is_view}
use Rattle.match_laws.specs.Simplify.SameControls.{OfCoords}
use Rattle.match_laws.specs.Simplify.SimplifiedBlocks.{IsRead}
use Rattle.match_laws.specs.Names.{Names, extents_of, whole_of}
use Rattle.match_laws.specs.Fitting.{SameCoords}
use Rattle.match_laws.specs.Moved.{agree, conditions_agree}
use Rattle.match_laws.specs.Pairs.{Pair, Numbers, Truths, Binders, Own, Access, Unlike, paired}
use Rattle.match_laws.specs.Alike.{nameless}
use Rattle.match_laws.specs.Inline.Known.{AreOfKnown, Sees, ReadsHere, ReadAlong}
use Rattle.match_laws.specs.Inline.AtOnce.{Put, put_control, put_condition, root_for, coords_for}
use Rattle.match_laws.specs.Inline.AtOnce.{put_window, put_block}

abbrev pub is_window : Argument → Bool
is_window (Window x cs) = true
is_window a = false

-- known: names that stand for buffers where the block begins; ours: the names of the callee
module _ (at : Reading) (known : ℕ → Bool) (put : Put) (ours : Names) where
  -- expressions agree, binders are one, and an access is the access that stands against it; the
  -- whole of a parameter has the coordinates of the window that stands for it
  abbrev pub Meets : Pair → Type 0
  Meets (Numbers p whole e g) = agree at (put_control put e) g ≡ true
  Meets (Truths p whole c d) = conditions_agree at (put_condition put c) d ≡ true
  Meets (Binders x y) = x ≡ y
  Meets (Own p x y) = x ≡ y
  Meets (Access p x cs y ds) =
      (root_for put x ≡ y)
      × ((scene : Scene)
      → Sees known scene
      → ReadsHere at scene
      → SameCoords scene (put_window put x cs) ds)
      × ((scene : Scene)
      → Sees known scene
      → ReadsHere at scene
      → cs ≡ whole_of (extents_of (ours x))
      → is_window (put.name x) ≡ true
      → OfCoords (IsRead at scene) (coords_for put x)
      → SameCoords scene (put_window put x cs) (coords_for put x))
  Meets (Unlike p) = ⊥

-- ---- names given whole in calls within the body

module _ (put : Put) where
  -- a window that the block gives stands against no name for which a name stands
  abbrev pub wholes_alike : Argument → Argument → Bool
  wholes_alike (Whole x) (Window y ds) = is_window (put.name x)
  wholes_alike a b = true

  abbrev pub all_wholes_alike : List Argument → List Argument → Bool
  all_wholes_alike (a ∷ as') (b ∷ bs) = wholes_alike a b && all_wholes_alike as' bs
  all_wholes_alike as' bs = true

  abbrev mutual
    pub calls_alike_in : Statement → Statement → Bool
    calls_alike_in (If c a b) (If r d e) = calls_alike a d && calls_alike b e
    calls_alike_in (For i lo hi b) (For j l h d) = calls_alike b d
    calls_alike_in (Call k as') (Call m bs) = all_wholes_alike as' bs
    calls_alike_in a c = true

    pub calls_alike : Block → Block → Bool
    calls_alike (next a b) (next c d) = calls_alike_in a c && calls_alike b d
    calls_alike b d = true

-- buffers stand for names, and for names that are no parameters these themselves
pub record PutsParams (params : ℕ → Bool) (put : Put) : Type 0 where
  pub views : (x : ℕ) → is_view (put.name x) ≡ true
  pub own : (x : ℕ) → params x ≡ false → put.name x ≡ Whole x

-- then the block does what the callee's body does, along any run in which what is read in the block
-- has its numbers
abbrev pub MeetsAlong : Type 0
MeetsAlong =
    (world : World) (at : Reading) (known : ℕ → Bool) (put : Put) (params bound : ℕ → Bool)
    (ours theirs : Names) (b d : Block) (s : State)
    → PutsParams params put
    → Each (Meets at known put ours) (paired params bound ours theirs b d)
    → calls_alike put b d ≡ true
    → AreOfKnown known (put_block put b)
    → Sees known s.scene
    → ReadAlong world at theirs (nameless d) s
    → SameAlong world (nameless d) (nameless (put_block put b)) s
