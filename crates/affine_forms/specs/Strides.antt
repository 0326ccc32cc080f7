-- The strides of dense buffers, whose cells lie row by row.
use Rattle.std.specs.Prelude.{ℕ, suc, pos, ℤ, ◌*ℤ◌, Bool, true, ◌&&◌, if◌then◌else◌, List, [], ◌∷◌, drop}
use Rattle.exo_tree.specs.Tree.{Control}
use Rattle.exo_meaning.specs.Scene.{Scene, number}
use Rattle.affine_forms.specs.Atoms.{OpaqueStride, Linear, constantly, only}
use Rattle.affine_forms.specs.Forms.{Reading, Allowed, is_affine, keeps_rules, times, form, is_short_form, is_writable}
use Rattle.exo_meaning.specs.Units.{is_literal}

abbrev pub are_numbers : List Control → Bool
are_numbers [] = true
are_numbers (e ∷ es) = is_literal e && are_numbers es

-- at most one extent is no literal
abbrev pub is_one_open : List Control → Bool
is_one_open [] = true
is_one_open (e ∷ es) = if is_literal e then is_one_open es else are_numbers es

-- the product of extents of which at most one is no literal
abbrev pub product_form : Reading → List Control → Linear
product_form at [] = constantly (pos 1)
product_form at (e ∷ es) = times (is_literal e) (form at e) (product_form at es)

-- its numbers and those of its parts can be written down
abbrev pub product_fits : Reading → List Control → Bool
product_fits at [] = true
product_fits at (e ∷ es) = (is_writable at e && product_fits at es) && is_short_form (product_form at (e ∷ es))

-- the stride of a dimension is the product of the extents after it, or an atom where two of these or more are no literals
abbrev pub dense_stride : Reading → ℕ → ℕ → List Control → Linear
dense_stride at root k extents =
    if is_one_open (drop (suc k) extents) then product_form at (drop (suc k) extents)
    else only (OpaqueStride root k)

abbrev pub dense_stride_fits : Reading → ℕ → List Control → Bool
dense_stride_fits at k extents = if is_one_open (drop (suc k) extents) then product_fits at (drop (suc k) extents) else true

abbrev pub all_keep_rules : List Control → Bool
all_keep_rules [] = true
all_keep_rules (e ∷ es) = keeps_rules e && all_keep_rules es

-- ---- values

abbrev pub all_affine : Allowed → List Control → Bool
all_affine may [] = true
all_affine may (e ∷ es) = is_affine may e && all_affine may es

abbrev pub product_of : Scene → List Control → ℤ
product_of scene [] = pos 1
product_of scene (e ∷ es) = number scene e *ℤ product_of scene es
