use Rattle.std.proofs.Common.{◌≡◌, ◌++◌, ◌-◌, map, length}
use Rattle.exo_tree.specs.declared.number.FieldId.{FieldId}
use Rattle.config_state.specs.FieldSets.{contains, fields_from, fields_where}
use Rattle.config_state.proofs.set.FieldSet.to_vec.Given as goal

abbrev pub invariant-loop-k : goal.invariant-loop-k
invariant-loop-k l = map (λ (f : FieldId). f.0) l.fields.items ++ fields_from l.k (length l.self - l.k) (contains l.self) ≡ fields_where (length l.self) (contains l.self)
