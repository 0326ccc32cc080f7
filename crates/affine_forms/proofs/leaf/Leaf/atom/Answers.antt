use Rattle.std.proofs.Common.{◌∙◌, sym, ap}
use Rattle.exo_tree.specs.PlainBinder.{control_kind}
use Rattle.affine_forms.specs.Atoms.{UnknownField}
use Rattle.affine_forms.specs.Tables.{leaf_atom}
use Rattle.affine_forms.specs.PlainTables.{plain_leaf}
use Rattle.affine_forms.proofs.leaf.Leaf.atom.Goals as goal

pub returns-in-EntryField : goal.returns-in-EntryField
returns-in-EntryField c = sym (ap (λ l. leaf_atom (plain_leaf l)) c.in-EntryField.is)

pub returns-in_ok-shared-in-UnknownField : goal.returns-in_ok-shared-in-UnknownField
returns-in_ok-shared-in-UnknownField c =
    ap (λ p. UnknownField c.in-UnknownField.f.0 (control_kind c.in-UnknownField.kind) p)
    c.in_ok-shared-in-UnknownField.ensures.cases
    ∙ sym (ap (λ l. leaf_atom (plain_leaf l)) c.in-UnknownField.is)

pub returns-in-OpaqueStride : goal.returns-in-OpaqueStride
returns-in-OpaqueStride c = sym (ap (λ l. leaf_atom (plain_leaf l)) c.in-OpaqueStride.is)
