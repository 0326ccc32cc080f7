use Rattle.std.proofs.Common.{◌<◌, ◌≤◌, ◌+◌, ℕ, Option, map, length, drop, ap, sym, ◌∙◌, arith}
use Rattle.std.proofs.lemmas.List.{drop_all}
use Rattle.exo_tree.specs.Tree.{Argument}
use Rattle.exo_tree.specs.PlainProcedure.{procedure}
use Rattle.inplace_laws.specs.Inline.{is_param}
use Rattle.match_laws.specs.Matched.{argument_if, argument_in, known_by}
use Rattle.block_matches.specs.Pairs.PlainPair.{plain_pair}
use Rattle.block_matches.specs.Held.{determined_in}
use Rattle.block_matches.specs.Noted.{earlier}
use Rattle.block_matches.proofs.Tables.{next_item, one_noted, all_noted}
use Rattle.block_matches.proofs.determined.Determined.of_pairs.Goals as goal

pub loop-pair-init : goal.loop-pair-init
loop-pair-init c =
    let all = argument_in (is_param (procedure c.args.callee.now)) (map plain_pair c.args.pairs.now) in
    ap (λ (t : ℕ → Option Argument). earlier t all) c.new-found.ensures

pub loop-pair-preserved : goal.loop-pair-preserved
loop-pair-preserved c =
    let params = is_param (procedure c.args.callee.now) in
    let pairs = c.args.pairs.now in
    let k = c.loop-pair.pair-index in
    let old = determined_in c.loop-pair.found in
    let within : k < length pairs = omega arith in
    let parts = next_item pairs k c.pair-item.result within c.pair-item.is in
    one_noted old (determined_in c.note.new.self)
    (λ x. argument_if x (known_by params (plain_pair c.pair-item.result)))
    (argument_in params (map plain_pair (drop (k + 1) pairs)))
    (argument_in params (map plain_pair pairs)) c.in_ok-note.ensures
    (ap (λ xs. earlier old (argument_in params (map plain_pair xs))) (sym parts)
    ∙ c.loop-pair.invariant)

pub returns : goal.returns
returns c =
    let params = is_param (procedure c.args.callee.now) in
    let pairs = c.args.pairs.now in
    let k = c.loop-pair.pair-index in
    let found = determined_in c.loop-pair.found in
    let ends : length pairs ≤ k = omega arith in
    all_noted found (argument_in params (map plain_pair pairs))
    (ap (λ xs. earlier found (argument_in params (map plain_pair xs))) (sym (drop_all k pairs ends))
    ∙ c.loop-pair.invariant)
