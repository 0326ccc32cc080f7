-- What a block holds: a list of its own, or one that other blocks have too.
use Rattle.std.specs.Prelude.{List, map}
use Rattle.exo_tree.specs.Tree.{Statement}
use Rattle.exo_tree.specs.declared.block.Held.{Held}
use Rattle.exo_tree.specs.declared.block.Held.TheVariants.{Own, Shared}
use Rattle.exo_tree.specs.PlainStatement.{statement}

abbrev pub held_statements : Held → List Statement
held_statements (Own list) = map (λ s. statement s.value) list.items
held_statements (Shared list) = map (λ s. statement s.value) list.value.items
