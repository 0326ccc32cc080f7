use Rattle.std.proofs.Common.{◌++◌, map, ap, ◌∙◌, refl}
use Rattle.affine_systems.specs.Limits.{are_within}
use Rattle.affine_systems.specs.Outcomes.{plain_obligation}
use Rattle.bounds_check.proofs.Ranges.{both_ranges}
use Rattle.bounds_check.proofs.listing.joined_ranges.Goals as goal

pub returns : goal.returns
returns c u p n k d x y =
    let front = map plain_obligation c.args.first.owed.items in
    let back = map plain_obligation c.args.second.owed.items in
    both_ranges u p n k d c.args.first c.args.second _ x y
    (c.into_items.ensures ∙ c.in_ok-push_all-2.ensures.1
    ∙ ap (λ os. os ++ back)
    (c.in_ok-push_all.ensures.1 ∙ ap (λ os. os ++ front) c.new-all.ensures))
    (ap are_within (c.into_items.ensures ∙ c.in_ok-push_all-2.ensures.1)
    ∙ c.in_ok-push_all-2.ensures.0)
    refl
