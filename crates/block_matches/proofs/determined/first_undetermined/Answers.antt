use Rattle.std.proofs.Common.{◌<◌, ◌+◌, map, length, drop, ap, sym, ◌∙◌, arith}
use Rattle.exo_tree.specs.PlainParam.{parameter}
use Rattle.exo_tree.specs.PlainProcedure.{procedure}
use Rattle.inplace_laws.specs.Inline.{is_param}
use Rattle.match_laws.specs.Matched.{first_undetermined}
use Rattle.block_matches.specs.Pairs.PlainPair.{plain_pair}
use Rattle.block_matches.specs.Held.{determined_in}
use Rattle.block_matches.proofs.Tables.{next_item, is_first, is_later}
use Rattle.block_matches.proofs.determined.first_undetermined.Goals as goal

pub returns-then-branch : goal.returns-then-branch
returns-then-branch c =
    let params = is_param (procedure c.args.callee.now) in
    let own = map plain_pair c.args.own.now in
    let items = c.as_slice-p-items.result.now in
    let k = c.loop-p.p-index in
    let within : k < length items = omega arith in
    let parts = next_item items k c.p-item.result within c.p-item.is in
    sym (is_first params own (determined_in c.in_ok-known.known) (parameter c.p-item.result)
    (map parameter (drop (k + 1) items)) (first_undetermined params own c.args.callee.now.params)
    c.in_ok-known.ensures (sym c.if-branch.true ∙ c.in_ok-is_open.ensures)
    (c.loop-p.invariant ∙ ap (λ xs. first_undetermined params own (map parameter xs)) parts))

pub loop-p-preserved : goal.loop-p-preserved
loop-p-preserved c =
    let params = is_param (procedure c.args.callee.now) in
    let own = map plain_pair c.args.own.now in
    let items = c.as_slice-p-items.result.now in
    let k = c.loop-p.p-index in
    let within : k < length items = omega arith in
    let parts = next_item items k c.p-item.result within c.p-item.is in
    is_later params own (determined_in c.in_ok-known.known) (parameter c.p-item.result)
    (map parameter (drop (k + 1) items)) (first_undetermined params own c.args.callee.now.params)
    c.in_ok-known.ensures (sym c.if-branch.false ∙ c.in_ok-is_open.ensures)
    (c.loop-p.invariant ∙ ap (λ xs. first_undetermined params own (map parameter xs)) parts)
