-- What has been made, and what is left.
use Rattle.std.proofs.Common.{◌≡◌, ◌+◌, ◌++◌, drop, map}
use Rattle.text_expressions.specs.Views.{tree_of}
use Rattle.rules_names.specs.Resolved.{condition_of}
use Rattle.exo_types.specs.Definitions.{asserts_fault}
use Rattle.exo_types.specs.ItemRules.{asserts_width}
use Rattle.exo_types.proofs.definition.add_asserts.Given as goal

abbrev pub invariant-loop-e : goal.invariant-loop-e
invariant-loop-e l =
    record {
      fault : asserts_fault l.context l.scope l.next (map tree_of (drop l.e-index l.asserts)) ≡ asserts_fault l.context l.scope l.n (map tree_of l.asserts);
      made : l.made ++ map (condition_of l.context.fields.now l.scope) (map tree_of (drop l.e-index l.asserts)) ≡ map (condition_of l.context.fields.now l.scope) (map tree_of l.asserts);
      width : l.next + asserts_width (map tree_of (drop l.e-index l.asserts)) ≡ l.n + asserts_width (map tree_of l.asserts);
    }
