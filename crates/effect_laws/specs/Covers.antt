-- The accesses of a piece cover what a run of it touches.
use Rattle.std.specs.Prelude.{◌≡◌, ◌≤ℤ◌, ◌<ℤ◌, ◌⊎◌, ⊤, ℕ, ℤ, pos, ◌-ℤ◌, ◌==◌, ◌&&◌, Bool, true}
use Rattle.std.specs.Prelude.{false, List}
use Rattle.std.specs.Prelude.{[], ◌∷◌, length, map, Some, None, is_some, IsSome}
use Rattle.std.specs.List.{list_any, list_all}
use Rattle.exo_tree.specs.Tree as tree
use Rattle.exo_tree.specs.Tree.{Cell, Coord, Block, Procedure, Program}
use Rattle.exo_tree.specs.Places.{Opened}
use Rattle.exo_meaning.specs.Scene.{Shape, Side, Point, Range, Seen, Scene, number}
use Rattle.exo_meaning.specs.State.{State, Place}
use Rattle.exo_meaning.specs.Run.{program_world}
use Rattle.exo_meaning.specs.Footprint.{Entry, Reads, Writes, Reduces, Made}
use Rattle.exo_meaning.specs.Orders.{Each}
use Rattle.exo_meaning.specs.Modes.{Mode, Reading, Writing, Reducing}
use Rattle.exo_meaning.specs.Units.{Scope, BufferName, sort_in, is_flag, field_kind, is_block}
use Rattle.meaning_laws.specs.Touched.{touched}
use Rattle.affine_forms.specs.Atoms.{Valuation, value}
use Rattle.affine_forms.specs.Forms.{Allowed, is_affine}
use Rattle.affine_forms.specs.Formulas.{all_met}
use Rattle.exo_effects.specs.Accesses as access
use Rattle.exo_effects.specs.Accesses.{AccessCoord, Access, access_of}
use Rattle.exo_effects.specs.Parts.{Part, Parts}
use Rattle.exo_effects.specs.Uses.{modes_of, at_hole, uses_in}

-- ---- cells of an access

-- a cell lies at the coordinates
abbrev pub LiesAt : Valuation → List AccessCoord → List ℤ → Type 0
LiesAt v [] [] = ⊤
LiesAt v [] (i ∷ at) = ⊥
LiesAt v (c ∷ cs) [] = ⊥
LiesAt v (access.At e ∷ cs) (i ∷ at) = (value v e ≡ i) × LiesAt v cs at
LiesAt v (access.Range a b ∷ cs) (i ∷ at) =
    (value v a ≤ℤ i) × ((i <ℤ value v b) × LiesAt v cs at)

-- with these numbers for the variables, whatever stands for other atoms, the guards are met, and
-- the cell is one of the access
pub record Reaches (x : Access) (numbers : ℕ → ℤ) (at : List ℤ) : Type 0 where
  pub guards : (v : Valuation) → v.variable ≡ numbers → all_met v x.guards ≡ true
  pub cell : (v : Valuation) → v.variable ≡ numbers → LiesAt v x.coords at

abbrev pub is_among : List ℕ → ℕ → Bool
is_among own y = list_any (λ z. y == z) own

-- the access touches the cell so, for some numbers of its own variables
pub record IsCell (control : ℕ → ℤ) (mode : Mode) (p : Place) (x : Access) : Type 0 where
  pub root : x.root ≡ p.buffer
  pub so : x.mode ≡ mode
  pub numbers : ℕ → ℤ
  pub others : (y : ℕ) → is_among x.own y ≡ false → numbers y ≡ control y
  pub reached : Reaches x numbers p.at

abbrev pub IsCellOfSome : (ℕ → ℤ) → Mode → Place → List Access → Type 0
IsCellOfSome control mode p [] = ⊥
IsCellOfSome control mode p (x ∷ xs) =
    IsCell control mode p x ⊎ IsCellOfSome control mode p xs

-- of the buffers of the scene, each entry is a cell of some access with its mode; none of them is
-- made, and what is added to them is of their cell types
abbrev pub IsCovered : Scene → List Access → Entry → Type 0
IsCovered scene xs (Reads p) =
    IsSome (scene.buffers p.buffer) → IsCellOfSome scene.control Reading p xs
IsCovered scene xs (Writes p) =
    IsSome (scene.buffers p.buffer) → IsCellOfSome scene.control Writing p xs
IsCovered scene xs (Reduces cell p) =
    (shape : Shape)
    → scene.buffers p.buffer ≡ Some shape
    → (shape.cell ≡ cell) × IsCellOfSome scene.control Reducing p xs
IsCovered scene xs (Made x) = scene.buffers x ≡ None

abbrev pub Covers : Scene → List Access → List Entry → Type 0
Covers scene xs es = Each (IsCovered scene xs) es

-- ---- what is asked of a scene

-- over the names in scope alone
abbrev pub names_in : Scope → Allowed
names_in scope = record {
  variable = λ y. is_some (sort_in scope y);
  field = λ f. false;
  stride = λ x k. false;
}

abbrev pub is_affine_coord : Allowed → Coord → Bool
is_affine_coord may (tree.At e) = is_affine may e
is_affine_coord may (tree.Span a b) = is_affine may a && is_affine may b

abbrev pub sides_of : Scene → List Coord → List Side
sides_of scene [] = []
sides_of scene (tree.At e ∷ cs) = Point (number scene e) ∷ sides_of scene cs
sides_of scene (tree.Span a b ∷ cs) =
    Range (number scene a) (number scene b -ℤ number scene a) ∷ sides_of scene cs

-- a name sees this part, whose coordinates are told by the names in scope
pub record SeesPart (scope : Scope) (scene : Scene) (part : Part) (seen : Seen) : Type 0 where
  pub root : seen.buffer ≡ part.root
  pub affine : list_all (is_affine_coord (names_in scope)) part.coords ≡ true
  pub sides : seen.sides ≡ sides_of scene part.coords

-- a block that is well formed where these names are in scope, and a scene in which what names stand
-- for is there, of their sorts, and told
pub record MayCover (u : Program) (scope : Scope) (parts : Parts) (b : Block) (scene : Scene) :
    Type 0 where
  pub root : ℕ → ℕ
  pub block :
      is_block (field_kind u.fields) (length u.memories) (program_world u).callees scope root b
      ≡ true
  pub buffers : (x : ℕ) → IsSome (scene.buffers x) → IsSome (sort_in scope x)
  pub sound :
      (x : ℕ) (seen : Seen) → scene.views x ≡ Some seen → IsSome (scene.buffers seen.buffer)
  pub cells :
      (x : ℕ) (cell : Cell) (rank : ℕ) (dense : Bool) (seen : Seen) (shape : Shape)
      → sort_in scope x ≡ Some (BufferName cell rank dense)
      → scene.views x ≡ Some seen
      → scene.buffers seen.buffer ≡ Some shape
      → shape.cell ≡ cell
  pub flags : (x : ℕ) → is_flag (sort_in scope x) ≡ true → pos 0 ≤ℤ scene.control x
  pub seen :
      (x : ℕ) (seen : Seen)
      → scene.views x ≡ Some seen
      → (part : Part) × (parts x ≡ Some part) × SeesPart scope scene part seen

-- the accesses of a piece cover what a run of it touches, calls included
abbrev pub CoversLaw : Type 0
CoversLaw =
    (u : Program) (p : Procedure) (o : Opened) (scope : Scope) (s : State)
    → MayCover u scope (at_hole u p o).parts o.piece s.scene
    → Covers s.scene (map access_of (uses_in u p o))
    (touched (program_world u) (modes_of u) o.piece s)
