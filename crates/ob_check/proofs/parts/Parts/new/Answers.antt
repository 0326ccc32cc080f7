use Rattle.std.proofs.Common.{[], refl}
use Rattle.std.proofs.lemmas.List.Elements.{All-from_recursion}
use Rattle.affine_forms.specs.Affine.{HasNoIntegerPoint}
use Rattle.ob_check.proofs.parts.Parts.new.Goals as goal

pub returns : goal.returns
returns c = λ cache. record {
  looked_up = refl;
  pending = c.new.ensures;
  count = refl;
  exact = refl;
  shown = λ all. All-from_recursion HasNoIntegerPoint [] tt;
}
