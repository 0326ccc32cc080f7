-- The plain form of a procedure.
use Rattle.exo_tree.specs.Tree as tree
use Rattle.exo_tree.specs.Tree.{block}
use Rattle.exo_tree.specs.declared.procedure.Proc.{Proc}

abbrev pub procedure : Proc → tree.Procedure
procedure p = record { name = p.name; params = p.params; asserts = p.asserts; body = block p.body; template = p.template }
