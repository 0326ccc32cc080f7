-- A window's accesses as those of a buffer, each expression written so, as uses.
use Rattle.std.specs.Prelude.{ℕ, ◌==◌, true, List}
use Rattle.exo_tree.specs.Tree.{Control, Sub, Flag, Coord, At, Span, Whole}
use Rattle.buffer_laws.specs.Simplified.{indices_of, window_of}
use Rattle.buffer_laws.specs.Staging.Converted.{name_on, indices_at, coords_at}
use Rattle.step_rules.specs.Rule.{Writing}
use Rattle.alloc_laws.specs.Stage.Written.{written_as, indices_fit, coords_fit}
use Rattle.tree_uses.specs.Uses.{Uses}

-- a coordinate counted from that expression on
abbrev pub counted_from : Control → Coord → Coord
counted_from u (At e) = At (Sub e u)
counted_from u (Span e f) = Span (Sub e u) (Sub f u)

-- buffer a in the place of the window of x
abbrev pub on_window : Writing → ℕ → ℕ → List Coord → Uses
on_window how a x window = record {
  control = λ e. e;
  flag = λ y. Flag y;
  name = name_on a x window;
  indices = λ y is.
      indices_of (written_as how) (λ z. z == a) (name_on a x window y) (indices_at a x window y is);
  coords = λ y ds.
      window_of (written_as how) (λ z. z == a) (name_on a x window y) (coords_at a x window y ds);
  whole = λ y. Whole (name_on a x window y);
  binder = λ b. b;
  control_fits = λ e. true;
  indices_fit = indices_fit how a x window;
  coords_fit = coords_fit how a x window;
}
