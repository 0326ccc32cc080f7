use Rattle.std.proofs.Common.{zero, length, arith, ◌≡◌, refl, subst}
use Rattle.exo_tree.specs.Tree.{block}
use Rattle.exo_tree.specs.PlainPlace.{branch_taken}
use Rattle.exo_tree.specs.PlainStatement.{statement}
use Rattle.meaning_laws.specs.KnownFields.{path_in}
use Rattle.check_facts.specs.Tables.{known_in}
use Rattle.check_facts.specs.Walks.{telling_of, SameBelow, passed}
use Rattle.check_facts.proofs.Rooms.{short_length, rules_at, room_at}
use Rattle.check_facts.proofs.Steps.{passed_next}
use Rattle.check_facts.proofs.walk.pass.Goals as goal

pub all_after_next-requires-clause-rules : goal.all_after_next-requires-clause-rules
all_after_next-requires-clause-rules c = rules_at c.loop-k.k c.args.b.now _ (statement c.statement.result.now) c.statement.ensures.value c.requires.rules

pub all_after_next-requires-clause-number : goal.all_after_next-requires-clause-number
all_after_next-requires-clause-number c =
    let l = c.loop-k-test.true in
    let w = c.requires.within in
    let s = short_length c.args.b.now c.requires.short in
    omega arith

pub all_after_next-requires-clause-room : goal.all_after_next-requires-clause-room
all_after_next-requires-clause-room c =
    room_at (length c.args.outer.now) c.loop-k.k c.args.b.now _ (statement c.statement.result.now) c.statement.ensures.value c.requires.room

pub loop-k-preserved : goal.loop-k-preserved
loop-k-preserved c = λ first h.
    let path = path_in c.args.outer.now (branch_taken c.args.branch) c.loop-k.k in
    passed_next (telling_of c.args.basis.now) c.args.outer.now (branch_taken c.args.branch) c.args.basis.now.count c.loop-k.k c.args.b.now _ (statement c.statement.result.now) path (known_in c.loop-k.known) (known_in c.all_after_next.new.known) first refl c.statement.ensures.value c.in_ok-all_after_next.ensures (c.loop-k.invariant first h)

pub returns : goal.returns
returns c = λ first h.
    let k : c.loop-k.k ≡ c.args.to = omega arith in
    subst (λ n. SameBelow c.args.basis.now.count (known_in c.loop-k.known) (passed (telling_of c.args.basis.now) c.args.outer.now (branch_taken c.args.branch) zero n (block c.args.b.now) first)) k (c.loop-k.invariant first h)
