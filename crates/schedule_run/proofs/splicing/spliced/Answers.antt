use Rattle.std.proofs.Common.{◌≡◌, ◌<◌, ◌≤◌, not, map, length, ap, ◌∙◌, subst, arith}
use Rattle.std.specs.List.{position_or_len}
use Rattle.affine_systems.specs.Outcomes.{plain_obligation}
use Rattle.schedule_laws.specs.Owed.Stores.{stands_at}
use Rattle.schedule_run.proofs.Counted.{count_within}
use Rattle.schedule_run.proofs.Spliced.{both_some, is_spliced}
use Rattle.schedule_run.proofs.splicing.spliced.Goals as goal

pub split_off-requires-2 : goal.split_off-requires-2
split_off-requires-2 c =
    let least = count_within plain_obligation (λ o. not (stands_at c.args.path.now o))
    c.deref-2.result.now in
    let is : c.count_there-count.result
    ≡ position_or_len (λ o. not (stands_at c.args.path.now o))
    (map plain_obligation c.deref-2.result.now) =
    c.count_there-count.ensures in
    omega (arith, least, is, c.deref-2.ensures.len)

pub returns : goal.returns
returns c =
    let path = c.args.path.now in
    let kept = c.args.kept.items in
    let front = c.split_off.new.self.items in
    let there = c.in-Ok.there.items in
    let behind = c.in-Ok-split_off.behind.items in
    let first = c.count_before-first.result in
    let count = c.count_there-count.result in
    let read : first < length c.deref.result.now =
    omega (arith, c.if-first-len.false, c.len.ensures, c.deref.ensures.len) in
    both_some c.joined.result c.joined.ensures.within c.joined.ensures.is
    (λ os within is. is_spliced path c.args.own.items kept front there behind os.items first count
    (c.count_before-first.ensures
    ∙ ap (λ l. position_or_len (stands_at path) (map plain_obligation l)) c.deref.ensures.value)
    (subst (λ l. first < length l) c.deref.ensures.value read) c.in-Ok.ensures.items
    c.in-Ok.ensures.tail
    (c.count_there-count.ensures
    ∙ ap (λ l. position_or_len (λ o. not (stands_at path o)) (map plain_obligation l))
    c.deref-2.ensures.value)
    c.in-Ok-split_off.ensures.tail within is)
