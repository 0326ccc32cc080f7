-- The plain forms of rows.
use Rattle.std.specs.Prelude.{List, map}
use Rattle.exo_tree.specs.PlainBinder.{control_kind}
use Rattle.affine_forms.specs.Tables as plain
use Rattle.affine_forms.specs.declared.leaf.Leaf.{Leaf}
use Rattle.affine_forms.specs.declared.leaf.Leaf.TheVariants.{Variable, EntryField}
use Rattle.affine_forms.specs.declared.leaf.Leaf.TheVariants.{UnknownField, OpaqueStride}
use Rattle.affine_forms.specs.declared.row.Part.{Part}
use Rattle.affine_forms.specs.declared.row.Part.TheVariants.{Whole, Earlier}
use Rattle.affine_forms.specs.declared.row.Share.{Share}
use Rattle.affine_forms.specs.declared.row.QuotientRow.{QuotientRow}

abbrev pub plain_leaf : Leaf → plain.Leaf
plain_leaf (Variable x) = plain.OfVariable x.0
plain_leaf (EntryField f kind) = plain.OfEntry f.0 (control_kind kind)
plain_leaf (UnknownField f kind path) = plain.OfUnknown f.0 (control_kind kind) path.value
plain_leaf (OpaqueStride x k) = plain.OfStride x.0 k

abbrev pub plain_part : Part → plain.Part
plain_part (Whole leaf) = plain.Whole (plain_leaf leaf)
plain_part (Earlier j) = plain.Earlier j

abbrev pub plain_share : Share → plain.Share
plain_share s = record { coefficient = s.coefficient; part = plain_part s.part }

abbrev pub plain_shares : List Share → List plain.Share
plain_shares ss = map plain_share ss

abbrev pub plain_row : QuotientRow → plain.QuotientRow
plain_row r = record { constant = r.constant; terms = plain_shares r.terms.items; by = r.by }

abbrev pub plain_rows : List QuotientRow → List plain.QuotientRow
plain_rows rows = map plain_row rows
