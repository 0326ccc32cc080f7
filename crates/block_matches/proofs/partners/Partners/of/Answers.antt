use Rattle.std.proofs.Common.{◌<◌, ◌≤◌, ◌+◌, ℕ, Option, map, length, drop, ap, sym, ◌∙◌, arith}
use Rattle.std.proofs.lemmas.List.{drop_all}
use Rattle.match_laws.specs.Matched.{partner, partner_if}
use Rattle.block_matches.specs.Pairs.PlainPair.{plain_pair}
use Rattle.block_matches.specs.Held.{partners_in}
use Rattle.block_matches.specs.Noted.{earlier}
use Rattle.block_matches.proofs.Tables.{next_item, one_noted, all_noted}
use Rattle.block_matches.proofs.partners.Partners.of.Goals as goal

pub loop-pair-init : goal.loop-pair-init
loop-pair-init c =
    let all = partner (map plain_pair c.args.pairs.now) in
    ap (λ (t : ℕ → Option ℕ). earlier t all) c.new-found.ensures

pub loop-pair-preserved : goal.loop-pair-preserved
loop-pair-preserved c =
    let pairs = c.args.pairs.now in
    let k = c.loop-pair.pair-index in
    let old = partners_in c.loop-pair.found in
    let within : k < length pairs = omega arith in
    let parts = next_item pairs k c.pair-item.result within c.pair-item.is in
    one_noted old (partners_in c.note.new.self)
    (λ x. partner_if x (plain_pair c.pair-item.result))
    (partner (map plain_pair (drop (k + 1) pairs))) (partner (map plain_pair pairs))
    c.in_ok-note.ensures
    (ap (λ xs. earlier old (partner (map plain_pair xs))) (sym parts) ∙ c.loop-pair.invariant)

pub returns : goal.returns
returns c =
    let pairs = c.args.pairs.now in
    let k = c.loop-pair.pair-index in
    let found = partners_in c.loop-pair.found in
    let ends : length pairs ≤ k = omega arith in
    all_noted found (partner (map plain_pair pairs))
    (ap (λ xs. earlier found (partner (map plain_pair xs))) (sym (drop_all k pairs ends))
    ∙ c.loop-pair.invariant)
