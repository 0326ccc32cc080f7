-- Blocks that read no strides but those of known names and of names that they bind before.
use Rattle.std.specs.Prelude.{◌≡◌, ℕ, Bool, true, ◌||◌, Some, ⊤}
use Rattle.exo_tree.specs.Tree.{Control, Argument, Whole}
use Rattle.exo_tree.specs.Tree.{Statement, Assign, Reduce, Config, Pass, If, For, Alloc}
use Rattle.exo_tree.specs.Tree.{View, Call, Block, end, next}
use Rattle.exo_tree.specs.Context.{Context, fill}
use Rattle.exo_meaning.specs.Orders.{Each}
use Rattle.exo_meaning.specs.Scene.{Seen, Scene, numbers, extents}
use Rattle.exo_meaning.specs.State.{State}
use Rattle.exo_meaning.specs.Run.{World}
use Rattle.meaning_laws.specs.Context.{ComesTo}
use Rattle.meaning_laws.specs.Sound.{binds}
use Rattle.affine_forms.specs.Forms.{Reading, Allowed, is_affine}
use Rattle.affine_forms.specs.Laws.{ReadsAt}
use Rattle.match_laws.specs.Names.{Names, extents_of}
use Rattle.match_laws.specs.Simplify.Simplified.{values_in}
use Rattle.match_laws.specs.Simplify.SameControls.{OfStatement}
use Rattle.match_laws.specs.Simplify.SimplifiedBlocks.{is_seen, standing, IsRead}

-- all variables and fields, and the strides of these names
abbrev pub strides_of : (ℕ → Bool) → Allowed
strides_of known = record {
  variable = λ x. true;
  field = λ f. true;
  stride = λ x k. known x;
}

abbrev pub IsOfKnown : (ℕ → Bool) → Control → Type 0
IsOfKnown known e = is_affine (strides_of known) e ≡ true

-- a buffer and a view are known behind their statements
abbrev pub known_behind : Statement → (ℕ → Bool) → ℕ → Bool
known_behind a known x = binds a x || known x

abbrev mutual
  pub AreOfKnown : (ℕ → Bool) → Block → Type 0
  AreOfKnown known end = ⊤
  AreOfKnown known (next a b) =
      OfStatement (IsOfKnown known) a
      × AreOfKnownWithin known a
      × AreOfKnown (known_behind a known) b

  pub AreOfKnownWithin : (ℕ → Bool) → Statement → Type 0
  AreOfKnownWithin known (Assign x is e) = ⊤
  AreOfKnownWithin known (Reduce x is e) = ⊤
  AreOfKnownWithin known (Config f a) = ⊤
  AreOfKnownWithin known Pass = ⊤
  AreOfKnownWithin known (If c a b) = AreOfKnown known a × AreOfKnown known b
  AreOfKnownWithin known (For i lo hi b) = AreOfKnown known b
  AreOfKnownWithin known (Alloc x cell dims memory) = ⊤
  AreOfKnownWithin known (View w x cs) = ⊤
  AreOfKnownWithin known (Call k args) = ⊤

-- these names stand for buffers
abbrev pub Sees : (ℕ → Bool) → Scene → Type 0
Sees known scene = (x : ℕ) → known x ≡ true → is_seen (scene.views x) ≡ true

-- what is read has its numbers there, and is read in each expression of the statement itself
abbrev pub ReadsHere : Reading → Scene → Type 0
ReadsHere at scene = ReadsAt (standing scene) (values_in scene) at scene

abbrev pub IsReadIn : Reading → Scene → Statement → Type 0
IsReadIn at scene a = ReadsHere at scene × OfStatement (IsRead at scene) a

-- the extents of a name in the table have the numbers of what it sees
abbrev pub HasExtents : Names → Scene → ℕ → Type 0
HasExtents names scene y =
    (seen : Seen)
    → scene.views y ≡ Some seen
    → numbers scene (extents_of (names y)) ≡ extents seen.sides

abbrev pub ArgumentHas : Names → Scene → Argument → Type 0
ArgumentHas names scene (Whole y) = HasExtents names scene y
ArgumentHas names scene a = ⊤

-- so have names that a call gives whole
abbrev pub CallHas : Names → Scene → Statement → Type 0
CallHas names scene (Call k args) = Each (ArgumentHas names scene) args
CallHas names scene a = ⊤

abbrev pub IsReadWith : Reading → Names → Scene → Statement → Type 0
IsReadWith at names scene a = IsReadIn at scene a × CallHas names scene a

-- wherever a run of the block comes to a statement
abbrev pub ReadAlong : World → Reading → Names → Block → State → Type 0
ReadAlong world at names b s =
    (c : Context) (d : Statement) (u : State)
    → b ≡ fill c (next d end)
    → ComesTo world (next d end) c s u
    → IsReadWith at names u.scene d
