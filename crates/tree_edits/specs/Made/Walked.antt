-- What a walk knows.
use Rattle.std.specs.Prelude.{List, map}
use Rattle.exo_tree.specs.Tree as tree
use Rattle.exo_tree.specs.declared.binder.Binder.{Binder}
use Rattle.exo_tree.specs.PlainBinder.{binding}
use Rattle.tree_edits.specs.declared.made.naming.NamingWalk.{NamingWalk}
use Rattle.tree_edits.specs.declared.made.name.Tops as made
use Rattle.tree_edits.specs.Made.Names.{Naming, Tops}

abbrev pub bindings : List Binder → List tree.Binder
bindings bs = map binding bs

abbrev pub naming : NamingWalk → Naming
naming w = record { scope = w.scope.items; taken = w.taken.items; given = bindings w.given.items }

abbrev pub top_level : made.Tops → Tops
top_level t = record { own = t.own.items; all = t.all.items }
