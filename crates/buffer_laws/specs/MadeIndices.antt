-- The simplifier of the indices and dimensions that a step makes.
use Rattle.std.specs.Prelude.{cond, true}
use Rattle.exo_tree.specs.Tree.{Index, Control}
use Rattle.affine_forms.specs.Atoms.{Variable, EntryField, OpaqueStride, only}
use Rattle.affine_forms.specs.Forms.{Reading, is_affine}
use Rattle.match_laws.specs.Simplify.Simplified.{simplified}
use Rattle.buffer_laws.specs.Simplified.{IsSimplifier}
use Rattle.affine_places.specs.Roots.{variables}

-- each variable, field and stride is read as itself
abbrev pub as_themselves : Reading
as_themselves = record {
  variable = λ x. only (Variable x);
  field = λ f. only (EntryField f Index);
  stride = λ x k. only (OpaqueStride x k);
  field_fits = λ f. true;
  stride_fits = λ x k. true;
}

-- an affine expression of variables is simplified, any other one stays
abbrev pub made_simpler : Control → Control
made_simpler e = cond (is_affine variables e) (simplified as_themselves e) e

-- the laws on staged blocks and on parts of larger buffers hold with it
abbrev pub MadeSimplerLaw : Type 0
MadeSimplerLaw = IsSimplifier made_simpler
