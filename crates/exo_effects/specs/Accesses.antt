-- Accesses: uses of buffers with their coordinates as normal forms and what is around them as
-- formulas. Variables and quotients stand in them alone.
use Rattle.std.specs.Prelude.{ℕ, pos, Bool, true, ◌&&◌, List, map}
use Rattle.std.specs.List.{list_all}
use Rattle.exo_tree.specs.Tree as tree
use Rattle.exo_tree.specs.Tree.{Control, Condition, Coord, Procedure, Program}
use Rattle.exo_tree.specs.Places.{Path}
use Rattle.exo_meaning.specs.Modes.{Mode}
use Rattle.meaning_laws.specs.Facts.{Fact, Holds, Fails}
use Rattle.affine_forms.specs.Atoms.{Linear, constantly}
use Rattle.affine_forms.specs.Forms.{normal, is_writable}
use Rattle.affine_forms.specs.Formulas.{Formula, Flags, own_flag, row, formula, negation}
use Rattle.affine_forms.specs.Formulas.{is_writable_condition}
use Rattle.affine_places.specs.Readings.{extent_reading}
use Rattle.text_show.specs.Layout.{Text}
use Rattle.exo_effects.specs.Uses.{Use, uses_at}

-- a point, or a range from its lower end up to the end that it does not reach
pub data AccessCoord : Type 0 where
  At : Linear → AccessCoord
  Range : Linear → Linear → AccessCoord

-- fits: all its normal forms can be written down
pub record Access : Type 0 where
  pub root : ℕ
  pub mode : Mode
  pub coords : List AccessCoord
  pub own : List ℕ
  pub guards : List Formula
  pub fits : Bool
  pub text : Text

-- ---- forms over variables alone

abbrev pub own_flags : Flags
own_flags = record { variable = own_flag; field = λ f. row (constantly (pos 0)) }

abbrev pub plain_form : Control → Linear
plain_form e = normal extent_reading e

abbrev pub plain_fits : Control → Bool
plain_fits e = is_writable extent_reading e

abbrev pub plain_formula : Condition → Formula
plain_formula c = formula extent_reading own_flags c

abbrev pub plain_formula_fits : Condition → Bool
plain_formula_fits c = is_writable_condition extent_reading (λ f. true) c

-- ---- of a use

abbrev pub coord_form : Coord → AccessCoord
coord_form (tree.At e) = At (plain_form e)
coord_form (tree.Span a b) = Range (plain_form a) (plain_form b)

abbrev pub coord_fits : Coord → Bool
coord_fits (tree.At e) = plain_fits e
coord_fits (tree.Span a b) = plain_fits a && plain_fits b

abbrev pub guard_of : Fact → Formula
guard_of (Holds c) = plain_formula c
guard_of (Fails c) = negation (plain_formula c)

abbrev pub guard_fits : Fact → Bool
guard_fits (Holds c) = plain_formula_fits c
guard_fits (Fails c) = plain_formula_fits c

-- all its normal forms can be written down
abbrev pub use_fits : Use → Bool
use_fits x = list_all guard_fits x.round && list_all coord_fits x.coords

abbrev pub access_of : Use → Access
access_of x = record {
  root = x.root;
  mode = x.mode;
  coords = map coord_form x.coords;
  own = x.own;
  guards = map guard_of x.round;
  fits = use_fits x;
  text = x.text;
}

-- ---- of so many statements of a procedure from a path on

module _ (u : Program) (p : Procedure) (path : Path) (count : ℕ) where
  abbrev pub accesses_of : List Access
  accesses_of = map access_of (uses_at u p path count)
