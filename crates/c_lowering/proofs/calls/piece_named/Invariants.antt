-- What is left decides.
use Rattle.std.proofs.Common.{◌≡◌, map, drop}
use Rattle.exo_tree.specs.PlainParam.{parameter}
use Rattle.exo_tree.specs.PlainArgument.{argument}
use Rattle.c_lowering.specs.Made.Lowered.{piece_named}
use Rattle.c_lowering.specs.Scope.{forms_in}
use Rattle.c_lowering.specs.Naming.{naming_of}
use Rattle.c_lowering.proofs.calls.piece_named.Given as goal

abbrev pub invariant-loop-k : goal.invariant-loop-k
invariant-loop-k l = piece_named (naming_of l.names) (forms_in l.scope) (map parameter (drop l.k l.params)) (map argument (drop l.k l.args)) l.name ≡ piece_named (naming_of l.names) (forms_in l.scope) (map parameter l.params) (map argument l.args) l.name
