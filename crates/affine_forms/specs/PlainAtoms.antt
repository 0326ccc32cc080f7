-- The plain forms of atoms and sums, and what is well formed of them.
use Rattle.std.specs.Prelude.{List, [], ◌∷◌}
use Rattle.exo_tree.specs.PlainBinder.{control_kind}
use Rattle.affine_forms.specs.Atoms as plain
use Rattle.affine_forms.specs.declared.atom.Atom.{Atom}
use Rattle.affine_forms.specs.declared.atom.Atom.TheVariants.{Variable, EntryField, UnknownField, OpaqueStride, Quotient}
use Rattle.affine_forms.specs.declared.atom.Weighed.{Weighed}

abbrev pub plain_atom : Atom → plain.Atom
plain_atom (Variable x) = plain.Variable x.0
plain_atom (EntryField f kind) = plain.EntryField f.0 (control_kind kind)
plain_atom (UnknownField f kind path) = plain.UnknownField f.0 (control_kind kind) path.value
plain_atom (OpaqueStride x k) = plain.OpaqueStride x.0 k
plain_atom (Quotient q) = plain.Quotient q.constant q.terms q.by

abbrev pub plain_terms : List Weighed → plain.Terms
plain_terms [] = plain.none
plain_terms (w ∷ ws) = plain.term w.coefficient (plain_atom w.atom) (plain_terms ws)
