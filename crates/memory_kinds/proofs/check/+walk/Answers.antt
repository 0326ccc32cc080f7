use Rattle.std.proofs.Common.{◌≡◌, ◌+◌, take, drop, ap, sym, ◌∙◌, subst}
use Rattle.exo_tree.specs.PlainStatement.{statement}
use Rattle.memory_kinds.specs.Homes.{homes_past, homes_after}
use Rattle.memory_kinds.specs.Scope.{homes_in}
use Rattle.memory_kinds.specs.Recent.{AreTrue}
use Rattle.memory_kinds.proofs.Lookups.{walked_on, next_bound, past_more}
use Rattle.memory_kinds.proofs.check.+walk.Goals as goal

pub check_block-loop-k-preserved : goal.check_block-loop-k-preserved
check_block-loop-k-preserved t c =
    let home = homes_in c.args.scope.now in
    let ss = c.args.b.now in
    let a = statement c.statement-s.result.now in
    let before = homes_past home (take c.loop-k.bound ss) in
    let ahead = next_bound home ss (drop (c.loop-k.k + 1) ss) c.loop-k.k c.loop-k.bound a c.statement-s.ensures.value c.loop-k.invariant.1.0 ∙ ap (λ n. homes_past home (take n ss)) (sym c.bound_after-bound.ensures) in
    let behind : homes_after before a ≡ homes_past home (take c.bound_after-bound.result ss) = sym (past_more home ss (drop (c.loop-k.k + 1) ss) c.loop-k.k a c.statement-s.ensures.value ∙ ap (λ f. homes_after f a) c.loop-k.invariant.1.0) ∙ ahead in
    (walked_on c.args.tables.now.procs.now c.args.tables.now.memories.now home ss (drop (c.loop-k.k + 1) ss) c.loop-k.k c.loop-k.bound c.bound_after-bound.result a _ c.statement-s.ensures.value c.in_ok-check_statement.ensures.value c.loop-k.invariant.1.0 ahead c.loop-k.invariant.0, (ahead, subst (AreTrue c.remember.new.recent) behind c.remember.ensures))
