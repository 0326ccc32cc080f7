-- What an expression reads at a place of a procedure.
use Rattle.std.specs.Prelude.{ℕ, pos, nat_lt, Bool, true, if◌then◌else◌, List, length, slice_get, Option, Some, None}
use Rattle.exo_tree.specs.Tree.{ControlArg, ConditionArg, Whole, Window, ConfigField, Program}
use Rattle.affine_forms.specs.Atoms.{Atom, Variable, EntryField, UnknownField, OpaqueStride, Linear, constantly, only}
use Rattle.affine_forms.specs.Forms.{Reading, form, is_writable}
use Rattle.affine_forms.specs.Formulas.{Formula, Flags, own_flag, row, moved, formula, is_writable_condition}
use Rattle.affine_forms.specs.Strides.{dense_stride, dense_stride_fits}
use Rattle.affine_places.specs.Roots.{Layout, Dense, Strided, Rooted, Roots, unit_roots}
use Rattle.affine_places.specs.Facts.{Fact, Known, UnknownAt, FieldFact, fact_of, kind_of}

-- ---- strides

-- in an extent: variables alone
abbrev pub extent_reading : Reading
extent_reading = record {
  variable = λ x. only (Variable x);
  field = λ f. constantly (pos 0);
  stride = λ x k. constantly (pos 0);
  field_fits = λ f. true;
  stride_fits = λ x k. true;
}

-- the stride of a root's dimension: of a dense root that of its extents, else an atom; 0 where it has no such dimension
abbrev pub root_stride : ℕ → ℕ → Layout → Linear
root_stride root d (Dense extents) = if nat_lt d (length extents) then dense_stride extent_reading root d extents else constantly (pos 0)
root_stride root d Strided = only (OpaqueStride root d)

abbrev pub root_stride_fits : ℕ → Layout → Bool
root_stride_fits d (Dense extents) = if nat_lt d (length extents) then dense_stride_fits extent_reading d extents else true
root_stride_fits d Strided = true

-- over the dimension of a coordinate; 0 where the name has no such coordinate
abbrev pub stride_over : Rooted → Option ℕ → Linear
stride_over r None = constantly (pos 0)
stride_over r (Some d) = root_stride r.root d r.layout

abbrev pub stride_over_fits : Rooted → Option ℕ → Bool
stride_over_fits r None = true
stride_over_fits r (Some d) = root_stride_fits d r.layout

-- of a coordinate of a name; 0 where it stands for no buffer
abbrev pub stride_of : Option Rooted → ℕ → Linear
stride_of None k = constantly (pos 0)
stride_of (Some r) k = stride_over r (slice_get r.dims k)

abbrev pub stride_of_fits : Option Rooted → ℕ → Bool
stride_of_fits None k = true
stride_of_fits (Some r) k = stride_over_fits r (slice_get r.dims k)

-- ---- where a procedure begins

abbrev pub entry_atom : List ConfigField → ℕ → Atom
entry_atom fields f = EntryField f (kind_of fields f)

abbrev pub entry_reading : List ConfigField → Roots → Reading
entry_reading fields roots = record {
  variable = λ x. only (Variable x);
  field = λ f. only (entry_atom fields f);
  stride = λ x k. stride_of (roots x) k;
  field_fits = λ f. true;
  stride_fits = λ x k. stride_of_fits (roots x) k;
}

-- an atom of kind bool is set
abbrev pub flag_atom : Atom → Formula
flag_atom a = row (moved (pos 1) (only a))

abbrev pub entry_flags : List ConfigField → Flags
entry_flags fields = record { variable = own_flag; field = λ f. flag_atom (entry_atom fields f) }

-- ---- at a place

-- a known value has no field in it: it is read as where the procedure begins
abbrev pub field_form : List ConfigField → Roots → ℕ → Option Fact → Linear
field_form fields roots f None = only (entry_atom fields f)
field_form fields roots f (Some (Known (ControlArg e))) = form (entry_reading fields roots) e
field_form fields roots f (Some (Known (ConditionArg c))) = constantly (pos 0)
field_form fields roots f (Some (Known (Whole x))) = constantly (pos 0)
field_form fields roots f (Some (Known (Window x cs))) = constantly (pos 0)
field_form fields roots f (Some (UnknownAt path)) = only (UnknownField f (kind_of fields f) path)

abbrev pub field_fits : List ConfigField → Roots → Option Fact → Bool
field_fits fields roots (Some (Known (ControlArg e))) = is_writable (entry_reading fields roots) e
field_fits fields roots _ = true

abbrev pub place_reading : List ConfigField → Roots → List FieldFact → Reading
place_reading fields roots facts = record {
  variable = λ x. only (Variable x);
  field = λ f. field_form fields roots f (fact_of facts f);
  stride = λ x k. stride_of (roots x) k;
  field_fits = λ f. field_fits fields roots (fact_of facts f);
  stride_fits = λ x k. stride_of_fits (roots x) k;
}

-- a condition that is a field's known value stands in for that field
abbrev pub field_formula : List ConfigField → Roots → ℕ → Option Fact → Formula
field_formula fields roots f None = flag_atom (entry_atom fields f)
field_formula fields roots f (Some (Known (ControlArg e))) = row (constantly (pos 0))
field_formula fields roots f (Some (Known (ConditionArg c))) = formula (entry_reading fields roots) (entry_flags fields) c
field_formula fields roots f (Some (Known (Whole x))) = row (constantly (pos 0))
field_formula fields roots f (Some (Known (Window x cs))) = row (constantly (pos 0))
field_formula fields roots f (Some (UnknownAt path)) = flag_atom (UnknownField f (kind_of fields f) path)

abbrev pub field_formula_fits : List ConfigField → Roots → Option Fact → Bool
field_formula_fits fields roots (Some (Known (ConditionArg c))) = is_writable_condition (entry_reading fields roots) (λ f. true) c
field_formula_fits fields roots _ = true

abbrev pub place_flags : List ConfigField → Roots → List FieldFact → Flags
place_flags fields roots facts = record {
  variable = own_flag;
  field = λ f. field_formula fields roots f (fact_of facts f);
}

-- ---- in a procedure of a unit

abbrev pub unit_reading : Program → ℕ → List FieldFact → Reading
unit_reading u p facts = place_reading u.fields (unit_roots u p) facts
