-- Each control expression of a tree changed, as uses.
use Rattle.std.specs.Prelude.{◌≡◌, Bool, ◌&&◌, map}
use Rattle.std.specs.List.{list_all}
use Rattle.exo_tree.specs.Tree.{Control, Flag, Coord, At, Span, Whole, Block}
use Rattle.affine_forms.specs.Forms.{Reading}
use Rattle.match_laws.specs.Moved.{simpler}
use Rattle.match_laws.specs.Simplify.SameControls.{in_block}
use Rattle.match_laws.specs.Widths.{is_short}
use Rattle.tree_uses.specs.Uses.{Uses, used}

abbrev pub changed_coord : (Control → Control) → Coord → Coord
changed_coord f (At a) = At (f a)
changed_coord f (Span a b) = Span (f a) (f b)

abbrev pub coord_fits : (Control → Bool) → Coord → Bool
coord_fits fits (At a) = fits a
coord_fits fits (Span a b) = fits a && fits b

-- all else stays
abbrev pub changing : (Control → Control) → (Control → Bool) → Uses
changing f fits = record {
  control = f;
  flag = λ x. Flag x;
  name = λ x. x;
  indices = λ x is. map f is;
  coords = λ x cs. map (changed_coord f) cs;
  whole = λ x. Whole x;
  binder = λ b. b;
  control_fits = fits;
  indices_fit = λ x is. list_all fits is;
  coords_fit = λ x cs. list_all (coord_fits fits) cs;
}

abbrev pub ChangesControls : Type 0
ChangesControls =
    (f : Control → Control) (fits : Control → Bool) (b : Block)
    → used (changing f fits) b ≡ in_block f b

-- what has no normal form stays; a form that is too wide cannot be written down
abbrev pub simplifying : Reading → Uses
simplifying at = changing (simpler at) (is_short at)
