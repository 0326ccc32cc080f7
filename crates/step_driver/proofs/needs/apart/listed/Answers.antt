use Rattle.std.proofs.Common.{List, length, map, ap, ap₂, ◌∙◌, subst}
use Rattle.std.specs.List.{list_all}
use Rattle.exo_tree.specs.PlainProcedure.{procedure}
use Rattle.exo_tree.specs.PlainUnit.{program}
use Rattle.exo_meaning.specs.Run.{program_world}
use Rattle.exo_meaning.specs.Units.{field_kind}
use Rattle.check_facts.specs.Contexts.{context_of, context_fits}
use Rattle.exo_effects.specs.Accesses.{access_of}
use Rattle.exo_effects.specs.Conflicts.{conflicts_of}
use Rattle.exo_effects.specs.PlainUses.{plain_uses}
use Rattle.exo_effects.specs.Uses.{Use}
use Rattle.effect_conflicts.specs.Outcomes.{access_is_low, IsListed}
use Rattle.effect_conflicts.specs.PlainCopies.{plain_order}
use Rattle.step_driver.specs.Needs.Conflicts.{listing_at}
use Rattle.step_driver.specs.Needs.Owing.{target_in}
use Rattle.step_driver.specs.Needs.PlainNeed.{plain_conflict}
use Rattle.step_driver.proofs.OfNeeds.OneConflict.{unlisted}
use Rattle.step_driver.proofs.needs.apart.listed.Goals as goal

pub conflicts-requires-clause-context : goal.conflicts-requires-clause-context
conflicts-requires-clause-context c =
    let u = program c.args.at.now.unit.now in
    c.contexts_are_low.ensures (field_kind u.fields) (length u.memories) (program_world u).callees u
    (procedure c.args.at.now.proc.now) c.args.at.now.path.now c.requires.well.well

pub conflicts-requires-clause-first : goal.conflicts-requires-clause-first
conflicts-requires-clause-first c =
    let u = program c.args.at.now.unit.now in
    let piece = c.args.k.now.first in
    ap (list_all access_is_low) c.deref.ensures.value
    ∙ c.accesses_are_low.ensures (field_kind u.fields) (length u.memories) (program_world u).callees u
    (procedure c.args.at.now.proc.now) piece.path piece.count c.in_ok-first.first.items c.requires.well.well
    c.in_ok-first.ensures

pub conflicts-requires-clause-second : goal.conflicts-requires-clause-second
conflicts-requires-clause-second c =
    let u = program c.args.at.now.unit.now in
    let piece = c.args.k.now.second in
    ap (list_all access_is_low) c.deref-2.ensures.value
    ∙ c.accesses_are_low.ensures (field_kind u.fields) (length u.memories) (program_world u).callees u
    (procedure c.args.at.now.proc.now) piece.path piece.count c.in_ok-second.second.items c.requires.well.well
    c.in_ok-second.ensures

pub returns-in_err-first : goal.returns-in_err-first
returns-in_err-first c n =
    let t = target_in (program c.args.at.now.unit.now, procedure c.args.at.now.proc.now) n in
    unlisted c.from_residual.result
    (listing_at t (plain_conflict c.args.k.now) c.args.at.now.path.now (plain_order c.args.order.now) c.args.path.now)
    c.from_residual.ensures.1

pub returns-in_err-second : goal.returns-in_err-second
returns-in_err-second c n =
    let t = target_in (program c.args.at.now.unit.now, procedure c.args.at.now.proc.now) n in
    unlisted c.from_residual-in_err-second.result
    (listing_at t (plain_conflict c.args.k.now) c.args.at.now.path.now (plain_order c.args.order.now) c.args.path.now)
    c.from_residual-in_err-second.ensures.1

pub returns : goal.returns
returns c n =
    let t = target_in (program c.args.at.now.unit.now, procedure c.args.at.now.proc.now) n in
    let place = c.args.at.now.path.now in
    let list : List Use → List Use → _ =
    λ us vs. conflicts_of (context_fits t.unit t.proc place) (context_of t.unit t.proc place)
    (plain_order c.args.order.now) c.args.path.now (map access_of us) (map access_of vs) in
    let first = ap plain_uses c.deref.ensures.value ∙ c.in_ok-first.ensures in
    let second = ap plain_uses c.deref-2.ensures.value ∙ c.in_ok-second.ensures in
    subst (IsListed c.conflicts.result) (ap₂ list first second) c.conflicts.ensures
