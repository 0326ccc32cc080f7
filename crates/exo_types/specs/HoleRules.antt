-- Holes of templates, by the parameters as they are written.
use Rattle.std.specs.Prelude.{◌≡◌, ℕ, ◌≤◌, Bool, false, if◌then◌else◌, List, [], ◌∷◌, ◌++◌}
use Rattle.std.specs.Prelude.{Option, Some, None, is_some, drop, slice_range}
use Rattle.std.specs.List.{list_any}
use Rattle.exo_tree.specs.Tree.{Param}
use Rattle.exo_meaning.specs.Units as units
use Rattle.exo_meaning.specs.Units.{is_text, data_ending, is_hole_of, holes_fit}
use Rattle.exo_reader.specs.Source.{Form, plain, strided, Parameter}
use Rattle.exo_types.specs.declared.template.Reading.{Reading}
use Rattle.exo_types.specs.declared.template.Reading.TheVariants.{Plain, Opened, Closed, InHole}
use Rattle.exo_types.specs.TypeRules.{kind_named}

-- a type of control values, without dimensions
abbrev pub is_control : Form → Bool
is_control (plain type []) = is_some (kind_named type)
is_control (plain type (d ∷ ds)) = false
is_control (strided type ds) = false

-- `{n}` of a control value, `{x_data}` of a buffer
abbrev pub is_written_hole : List ℕ → Parameter → Bool
is_written_hole name p =
    if is_control p.form then is_text name p.name else is_text name (p.name ++ data_ending)

-- the parameters of a procedure have the same holes as those that are written
pub record HaveHoles (ps : List Param) (written : List Parameter) : Type 0 where
  pub same : (name : List ℕ) → list_any (is_hole_of name) ps ≡ list_any (is_written_hole name) written

-- ---- the reading of a template

-- a hole begins before byte k
abbrev pub IsBegun : ℕ → Reading → Type 0
IsBegun k Plain = Unit {0}
IsBegun k Opened = Unit {0}
IsBegun k Closed = Unit {0}
IsBegun k (InHole from) = from ≤ k

-- where the reading stands before byte k
abbrev pub reading_at : List ℕ → ℕ → Reading → units.Reading
reading_at text k Plain = units.Plain
reading_at text k Opened = units.Opened
reading_at text k Closed = units.Closed
reading_at text k (InHole from) = units.InHole (slice_range text from k)

-- whether the text from byte k on fits; none does where no template goes on
abbrev pub fits_from : List Param → List ℕ → ℕ → Option Reading → Bool
fits_from ps text k None = false
fits_from ps text k (Some reading) = holes_fit ps (reading_at text k reading) (drop k text)
