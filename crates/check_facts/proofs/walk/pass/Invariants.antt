use Rattle.std.proofs.Common.{zero}
use Rattle.exo_tree.specs.Tree.{block}
use Rattle.exo_tree.specs.PlainPlace.{branch_taken}
use Rattle.meaning_laws.specs.KnownFields.{KnownFields}
use Rattle.check_facts.specs.Tables.{known_in}
use Rattle.check_facts.specs.Walks.{telling_of, SameBelow, passed}
use Rattle.check_facts.proofs.walk.pass.Given as goal

-- what is known before the statement that comes next
abbrev pub invariant-loop-k : goal.invariant-loop-k
invariant-loop-k l = (first : KnownFields) → SameBelow l.basis.count (known_in l.initial.known) (passed (telling_of l.basis) l.outer (branch_taken l.branch) zero l.from (block l.b) first) → SameBelow l.basis.count (known_in l.known) (passed (telling_of l.basis) l.outer (branch_taken l.branch) zero l.k (block l.b) first)
