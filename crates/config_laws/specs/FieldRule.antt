-- What a rewrite of configuration writes says of itself, on plain trees.
use Rattle.std.specs.Prelude.{◌==◌, ◌||◌, ℕ, Bool, true, false, if◌then◌else◌}
use Rattle.std.specs.Prelude.{List, [], ◌∷◌, Option, Some, None}
use Rattle.exo_tree.specs.Tree.{Pass, Block, end, next, Procedure}
use Rattle.exo_tree.specs.Context.{Context, Here, After, InLoop, InThen, InElse, fill, rest_of}
use Rattle.exo_tree.specs.Places.{Main, Path, Opened, opened}
pub use Rattle.exo_tree.specs.Places.{Piece}
use Rattle.meaning_laws.specs.Live.{live_behind}
use Rattle.meaning_laws.specs.UnitFields.{unit_live}
use Rattle.place_laws.specs.Scope.PlacesCompose.{onward}
use Rattle.config_laws.specs.Surely.{surely_behind, unit_surely}
use Rattle.exo_meaning.specs.Units.{is_empty}

-- why it refuses; that the result keeps the rules of the language is asked of every rewrite alike
pub data Cause : Type 0 where
  WrongShape ConfigLive NotDescendant : Cause

pub data Tried (T : Type 0) : Type 0 where
  Got : T → Tried T
  Not : Cause → Tried T

abbrev pub then_try : {T U : Type 0} → Tried T → (T → Tried U) → Tried U
then_try (Got t) f = f t
then_try (Not cause) f = Not cause

-- before a statement or behind it
pub data Side : Type 0 where
  Before Behind : Side

-- needs nothing to be shown
pub record FieldRule : Type 0 where
  pub piece : Procedure → Path → Tried Piece
  pub draft : Procedure → Opened → Tried Block
  pub refusal : Procedure → Opened → Option Cause
  -- which statement of the draft the first one of the piece goes to; None: it is gone
  pub moved : Opened → Option ℕ
  -- the fields that may differ from the point on
  pub fields : Opened → List ℕ
  pub point : Piece → Opened → Path × Side

-- ---- the result

-- the hole begins its block
abbrev pub is_first : Context → Bool
is_first (Here rest) = true
is_first (After a (Here rest)) = false
is_first (After a c) = is_first c
is_first (InLoop i lo hi c rest) = is_first c
is_first (InThen t c other rest) = is_first c
is_first (InElse t other c rest) = is_first c

-- a block that would be left empty holds a `pass`
abbrev pub or_pass : Context → Block → Block
or_pass c end = if is_first c then (if is_empty (rest_of c) then next Pass end else end) else end
or_pass c (next a b) = next a b

pub record Proposed : Type 0 where
  pub proc : Procedure
  pub fields : List ℕ
  pub place : Path
  pub side : Side

abbrev pub opened_or_wrong : Option Opened → Tried Opened
opened_or_wrong None = Not WrongShape
opened_or_wrong (Some o) = Got o

abbrev pub unless : {T : Type 0} → Option Cause → T → Tried T
unless None t = Got t
unless (Some cause) t = Not cause

abbrev pub with_fields : FieldRule → Procedure → Piece → Opened → Block → Proposed
with_fields r p piece o made = record {
  proc = record p { body = fill o.around (or_pass o.around made) };
  fields = r.fields o;
  place = (r.point piece o).0;
  side = (r.point piece o).1;
}

abbrev pub proposed : FieldRule → Procedure → Path → Tried Proposed
proposed r p at =
    then_try (r.piece p at) (λ piece.
    then_try (opened_or_wrong (opened piece.count piece.path p.body)) (λ o.
    then_try (r.draft p o) (λ made.
    unless (r.refusal p o) (with_fields r p piece o made))))

-- ---- fields at a place, and at the end

-- where no field is live at the end
abbrev pub is_live : List Procedure → ℕ → Opened → Bool
is_live ps f o = live_behind (unit_live ps) f o.piece o.around false

abbrev pub any_live : List Procedure → Opened → List ℕ → Bool
any_live ps o [] = false
any_live ps o (f ∷ fs) = is_live ps f o || any_live ps o fs

abbrev pub refused_if : Bool → Cause → Option Cause
refused_if true cause = Some cause
refused_if false cause = None

-- so many statements further on in the block; from no statement there is no way on
abbrev pub further : ℕ → Path → Path
further k [] = []
further k (s ∷ path) = onward (s ∷ path) (record { branch = Main; index = k }) []

-- the place between two statements, as a path
abbrev pub gap : Path → Side → Path
gap path Before = path
gap path Behind = further 1 path

-- written on every way from that place to the end
abbrev pub surely_from : List Procedure → Block → Path → Side → ℕ → Bool
surely_from ps body at side f = elim (opened 0 (gap at side) body) [
  | None ↦ false
  | Some o ↦ surely_behind (unit_surely ps) f o.around
]

abbrev pub is_listed : ℕ → List ℕ → Bool
is_listed f [] = false
is_listed f (g ∷ gs) = (f == g) || is_listed f gs

-- of these fields, those that are not written again
abbrev pub not_again : (ℕ → Bool) → List ℕ → List ℕ
not_again written [] = []
not_again written (f ∷ fs) = if written f then not_again written fs else f ∷ not_again written fs

-- the fields that may differ at the end, by those that may differ from a place on
abbrev pub fields_at_end : List Procedure → Block → Path → Side → List ℕ → List ℕ
fields_at_end ps body at side fields = not_again (surely_from ps body at side) fields
