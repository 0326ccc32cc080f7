-- A code of units, by which a proof tells two of them apart.
use Rattle.std.specs.Prelude.{List}
use Rattle.std.specs.Coded.{Coded, coded_list, coded×, code_by}
use Rattle.std.proofs.Common.{refl}
use Rattle.exo_tree.specs.Tree.{Procedure, ConfigField, MemoryKind, Program}
use Rattle.exo_tree.specs.Codes.{procedure_code, config_field_code, memory_kind_code}

abbrev pub program_code : Coded Program
program_code =
    code_by (List Procedure × (List ConfigField × List MemoryKind))
    (coded× (coded_list procedure_code)
    (coded× (coded_list config_field_code) (coded_list memory_kind_code)))
    (λ u. (u.procedures, (u.fields, u.memories)))
    (λ p. record { procedures = p.0; fields = p.1.0; memories = p.1.1 })
    (λ _. refl)
