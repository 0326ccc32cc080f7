use Rattle.std.proofs.Common.{◌≡◌, drop, map}
use Rattle.exo_tree.specs.PlainParam.{parameter}
use Rattle.exo_effects.specs.Parts.{with_params}
use Rattle.exo_effects.specs.PlainParts.{parts_in}
use Rattle.exo_effects.proofs.parts.Parts.insert_params.Given as goal

abbrev pub invariant-loop-p : goal.invariant-loop-p
invariant-loop-p l = with_params (map parameter (drop l.p-index l.p-items)) (parts_in l.self) ≡ with_params l.params (parts_in l.initial.self)
