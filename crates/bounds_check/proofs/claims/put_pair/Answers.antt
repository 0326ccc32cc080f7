use Rattle.std.proofs.Common.{map, ap, ◌∙◌, Ok, Err}
use Rattle.std.specs.Prelude.{length, slice_get}
use Rattle.std.specs.List.{list_all}
use Rattle.exo_meaning.specs.Units.{field_kind}
use Rattle.affine_systems.specs.Outcomes.{plain_obligation}
use Rattle.check_claims.specs.Claim.{Apart}
use Rattle.effect_conflicts.specs.Outcomes.{access_is_low}
use Rattle.exo_effects.specs.PlainUses.{plain_uses}
use Rattle.bounds_check.specs.Errors.{error_of}
use Rattle.bounds_check.specs.Sites.{unit_at, proc_at}
use Rattle.bounds_check.proofs.Owing.{answered, refused, refused_pair, pair_owes, owes_all, too_many}
use Rattle.bounds_check.proofs.claims.put_pair.Goals as goal

pub conflicts-requires-clause-context : goal.conflicts-requires-clause-context
conflicts-requires-clause-context c =
    let s = c.args.standing.now in
    let u = unit_at s in
    c.contexts_are_low.ensures (field_kind u.fields) (length u.memories) (slice_get c.requires.formed.0) u (proc_at s)
    s.path.now c.requires.formed.1

pub conflicts-requires-clause-first : goal.conflicts-requires-clause-first
conflicts-requires-clause-first c =
    let s = c.args.standing.now in
    let u = unit_at s in
    ap (list_all access_is_low) c.deref.ensures.value
    ∙ c.arguments_are_low.ensures (field_kind u.fields) (length u.memories) (slice_get c.requires.formed.0) u (proc_at s)
    s.path.now c.args.j c.in_ok-first.first.items c.requires.formed.1 c.in_ok-first.ensures

pub conflicts-requires-clause-second : goal.conflicts-requires-clause-second
conflicts-requires-clause-second c =
    let s = c.args.standing.now in
    let u = unit_at s in
    ap (list_all access_is_low) c.deref-2.ensures.value
    ∙ c.arguments_are_low.ensures (field_kind u.fields) (length u.memories) (slice_get c.requires.formed.0) u (proc_at s)
    s.path.now c.args.k c.in_ok-second.second.items c.requires.formed.1 c.in_ok-second.ensures

pub returns-in_err-owed : goal.returns-in_err-owed
returns-in_err-owed c =
    let s = c.args.standing.now in
    let old = c.args.out.now in
    let e = c.in_err-owed.field-0.0 in
    let first = ap plain_uses c.deref.ensures.value ∙ c.in_ok-first.ensures in
    let second = ap plain_uses c.deref-2.ensures.value ∙ c.in_ok-second.ensures in
    refused (unit_at s) (proc_at s) s.path.now (Apart c.args.j c.args.k) old c.from_residual-in_err-owed.result old
    (error_of e) c.from_residual-in_err-owed.ensures.1
    (refused_pair (unit_at s) (proc_at s) s.path.now c.args.j c.args.k c.requires.fits old e
    (answered (unit_at s) (proc_at s) s.path.now c.args.j c.args.k c.requires.fits {A = Unit {0}} (Err e)
    (plain_uses c.deref.result.now) (plain_uses c.deref-2.result.now) first second c.in_err-owed.ensures))

pub returns-in_err-push_all : goal.returns-in_err-push_all
returns-in_err-push_all c =
    let s = c.args.standing.now in
    let old = c.args.out.now in
    let os = c.in_ok-owed.owed in
    let e = c.in_err-push_all.field-0.0 in
    let first = ap plain_uses c.deref.ensures.value ∙ c.in_ok-first.ensures in
    let second = ap plain_uses c.deref-2.ensures.value ∙ c.in_ok-second.ensures in
    refused (unit_at s) (proc_at s) s.path.now (Apart c.args.j c.args.k) old c.from_residual-in_err-push_all.result
    c.push_all.new.self (error_of e) c.from_residual-in_err-push_all.ensures.1
    (too_many (unit_at s) (proc_at s) s.path.now (Apart c.args.j c.args.k) old (map plain_obligation os.items)
    (pair_owes (unit_at s) (proc_at s) s.path.now c.args.j c.args.k c.requires.fits os
    (answered (unit_at s) (proc_at s) s.path.now c.args.j c.args.k c.requires.fits (Ok os)
    (plain_uses c.deref.result.now) (plain_uses c.deref-2.result.now) first second c.in_ok-owed.ensures))
    e c.push_all.new.self c.in_err-push_all.ensures)

pub returns : goal.returns
returns c =
    let s = c.args.standing.now in
    let old = c.args.out.now in
    let os = c.in_ok-owed.owed in
    let first = ap plain_uses c.deref.ensures.value ∙ c.in_ok-first.ensures in
    let second = ap plain_uses c.deref-2.ensures.value ∙ c.in_ok-second.ensures in
    owes_all (unit_at s) (proc_at s) s.path.now (Apart c.args.j c.args.k) old (map plain_obligation os.items)
    (pair_owes (unit_at s) (proc_at s) s.path.now c.args.j c.args.k c.requires.fits os
    (answered (unit_at s) (proc_at s) s.path.now c.args.j c.args.k c.requires.fits (Ok os)
    (plain_uses c.deref.result.now) (plain_uses c.deref-2.result.now) first second c.in_ok-owed.ensures))
    c.push_all.new.self c.in_ok-push_all.ensures
