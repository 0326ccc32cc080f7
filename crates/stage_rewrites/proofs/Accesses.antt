-- One access of a name, or one part of it, on a buffer in the place of a window.
use Rattle.std.proofs.Common.{◌≡◌, ◌==◌, ℕ, Bool, true, false, ◌||◌, not, cond, List}
use Rattle.std.proofs.Common.{sym, ap, ◌∙◌}
use Rattle.exo_tree.specs.Tree.{Control, Coord}
use Rattle.affine_forms.specs.Outcomes.{IsWide}
use Rattle.affine_forms.specs.declared.error.FormError.{FormError}
use Rattle.buffer_laws.specs.Simplified.{all_simpler, coords_simpler, indices_of, window_of}
use Rattle.buffer_laws.specs.Staging.Converted.{name_on, indices_at, coords_at}
use Rattle.step_rules.specs.Rule.{Writing}
use Rattle.alloc_laws.specs.Stage.Written.{written_as, are_written, coords_written, is_on}
use Rattle.alloc_laws.specs.Stage.Written.{indices_fit, coords_fit}
use Rattle.stage_rewrites.proofs.Written.{wide_same}

module _ (how : Writing) (a x : ℕ) (window : List Coord) (y : ℕ) where
  abbrev here : Bool
  here = is_on how a x window y

  module _ (is made : List Control) (there : made ≡ indices_at a x window y is) where
    abbrev wanted : List Control
    wanted = indices_of (written_as how) (λ z. z == a) (name_on a x window y) (indices_at a x window y is)

    pub indices_stay : here ≡ false → made ≡ wanted
    indices_stay h =
        there
        ∙ sym (ap (λ (b : Bool). cond b (all_simpler (written_as how) (indices_at a x window y is))
        (indices_at a x window y is)) h)

    pub indices_made : (out : List Control) → here ≡ true → out ≡ all_simpler (written_as how) made
        → out ≡ wanted
    indices_made out h k =
        k
        ∙ ap (all_simpler (written_as how)) there
        ∙ sym (ap (λ (b : Bool). cond b (all_simpler (written_as how) (indices_at a x window y is))
        (indices_at a x window y is)) h)

    same_indices : here ≡ true → indices_fit how a x window y is ≡ are_written how made
    same_indices h =
        ap (λ (b : Bool). not b || are_written how (indices_at a x window y is)) h
        ∙ ap (are_written how) (sym there)

    pub indices_fit_there : here ≡ true → are_written how made ≡ true
        → indices_fit how a x window y is ≡ true
    indices_fit_there h k = same_indices h ∙ k

    pub indices_wide : (e g : FormError) → here ≡ true → e ≡ g → IsWide g (are_written how made)
        → IsWide e (indices_fit how a x window y is)
    indices_wide e g h same =
        wide_same e g (are_written how made) (indices_fit how a x window y is) same (same_indices h)

  pub all_indices_fit : (is : List Control) → here ≡ false → indices_fit how a x window y is ≡ true
  all_indices_fit is h = ap (λ (b : Bool). not b || are_written how (indices_at a x window y is)) h

  module _ (ds made : List Coord) (there : made ≡ coords_at a x window y ds) where
    abbrev sought : List Coord
    sought = window_of (written_as how) (λ z. z == a) (name_on a x window y) (coords_at a x window y ds)

    pub coords_stay : here ≡ false → made ≡ sought
    coords_stay h =
        there
        ∙ sym (ap (λ (b : Bool). cond b (coords_simpler (written_as how) (coords_at a x window y ds))
        (coords_at a x window y ds)) h)

    pub coords_made : (out : List Coord) → here ≡ true → out ≡ coords_simpler (written_as how) made
        → out ≡ sought
    coords_made out h k =
        k
        ∙ ap (coords_simpler (written_as how)) there
        ∙ sym (ap (λ (b : Bool). cond b (coords_simpler (written_as how) (coords_at a x window y ds))
        (coords_at a x window y ds)) h)

    same_coords : here ≡ true → coords_fit how a x window y ds ≡ coords_written how made
    same_coords h =
        ap (λ (b : Bool). not b || coords_written how (coords_at a x window y ds)) h
        ∙ ap (coords_written how) (sym there)

    pub coords_fit_there : here ≡ true → coords_written how made ≡ true
        → coords_fit how a x window y ds ≡ true
    coords_fit_there h k = same_coords h ∙ k

    pub coords_wide : (e g : FormError) → here ≡ true → e ≡ g → IsWide g (coords_written how made)
        → IsWide e (coords_fit how a x window y ds)
    coords_wide e g h same =
        wide_same e g (coords_written how made) (coords_fit how a x window y ds) same (same_coords h)

  pub all_coords_fit : (ds : List Coord) → here ≡ false → coords_fit how a x window y ds ≡ true
  all_coords_fit ds h = ap (λ (b : Bool). not b || coords_written how (coords_at a x window y ds)) h
