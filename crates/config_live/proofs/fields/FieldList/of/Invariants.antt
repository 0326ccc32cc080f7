-- The numbers so far.
use Rattle.std.proofs.Common.{◌≡◌, map, take}
use Rattle.exo_tree.specs.declared.number.FieldId.{FieldId}
use Rattle.config_live.proofs.fields.FieldList.of.Given as goal

abbrev pub invariant-loop-f : goal.invariant-loop-f
invariant-loop-f l = l.items.items ≡ map (λ (f : FieldId). f.0) (take l.f-index l.fields)
