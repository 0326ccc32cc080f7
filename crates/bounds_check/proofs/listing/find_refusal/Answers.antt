use Rattle.std.proofs.Common.{◌≡◌, ◌++◌, map, sym, ap, ◌∙◌, arith}
use Rattle.std.proofs.lemmas.List.{map-append}
use Rattle.exo_tree.specs.PlainProcedure.{procedure}
use Rattle.exo_tree.specs.PlainUnit.{program}
use Rattle.affine_systems.specs.Outcomes.{plain_obligation}
use Rattle.bounds_check.specs.Errors.{error_of}
use Rattle.check_claims.specs.PlainClaim.{placed}
use Rattle.bounds_check.specs.Laws.{may_be_owed}
use Rattle.bounds_check.specs.Obligations.{first_fault}
use Rattle.bounds_check.proofs.Groups.{same_self, place_of_first, none_left, rules_of}
use Rattle.bounds_check.proofs.Refusing.{fine_begin, some_first, one_front, finds_refusal, both_owable, one_here, fine_end, refused_first, full_first, fine_first}
use Rattle.bounds_check.proofs.listing.find_refusal.Goals as goal

pub loop-first-init : goal.loop-first-init
loop-first-init c = record {
  goes = c.new-walk.ensures;
  owable = c.requires.owable;
  fine = λ os h. fine_begin (program c.args.site.now.unit.now) (procedure c.args.site.now.proc.now)
      os (map placed c.args.claims.now) c.args.before h;
}

pub split_at-requires : goal.split_at-requires
split_at-requires c =
    let h = some_first c.loop-first.rest.now c.in-Some.first.now (sym c.in-Some.ensures.value) in
    omega (arith, h)

pub put_claims-requires-clause-place : goal.put_claims-requires-clause-place
put_claims-requires-clause-place c =
    place_of_first placed (procedure c.args.site.now.proc.now) c.loop-first.rest.now
    c.in-Some.first.now (sym c.in-Some.ensures.value) c.loop-first.invariant.owable

pub put_claims-requires-clause-some : goal.put_claims-requires-clause-some
put_claims-requires-clause-some c = omega (arith, c.split_at.ensures.front_len)

pub put_claims-requires-clause-here : goal.put_claims-requires-clause-here
put_claims-requires-clause-here c =
    let first = c.in-Some.first.now in
    let is = one_front c.loop-first.rest.now c.split_at.result.0.now first
    (sym c.in-Some.ensures.value) c.split_at.ensures.front in
    one_here first.place (map placed c.split_at.result.0.now) (placed first) (ap (map placed) is)
    (same_self first.place)

pub put_claims-requires-clause-rules : goal.put_claims-requires-clause-rules
put_claims-requires-clause-rules c =
    let p = procedure c.args.site.now.proc.now in
    let here = c.split_at.result.0.now in
    let others = c.split_at.result.1.now in
    let split : map placed c.loop-first.rest.now ≡ map placed here ++ map placed others =
    ap (map placed) c.split_at.ensures.by_index.0 ∙ map-append placed here others in
    rules_of p (map placed here)
    (both_owable (may_be_owed p) (map placed c.loop-first.rest.now) (map placed here)
    (map placed others) split c.loop-first.invariant.owable).0

pub put_claims-requires-clause-walk : goal.put_claims-requires-clause-walk
put_claims-requires-clause-walk c = c.loop-first.invariant.goes

pub returns-in_err-put_claims : goal.returns-in_err-put_claims
returns-in_err-put_claims c os h =
    let u = program c.args.site.now.unit.now in
    let p = procedure c.args.site.now.proc.now in
    let whole = map placed c.args.claims.now in
    let first = c.in-Some.first.now in
    let here = c.split_at.result.0.now in
    let others = c.split_at.result.1.now in
    let is = one_front c.loop-first.rest.now here first (sym c.in-Some.ensures.value)
    c.split_at.ensures.front in
    let split : map placed c.loop-first.rest.now ≡ map placed here ++ map placed others =
    ap (map placed) c.split_at.ensures.by_index.0 ∙ map-append placed here others in
    let e = c.in_err-put_claims.field-0.0 in
    finds_refusal c.from_residual.result e (first_fault u p os whole) c.from_residual.ensures.1
    (refused_first u p os whole (placed first) (map placed c.loop-first.rest.now) (map placed here)
    (map placed others) (ap (map placed) is) split c.loop-first.amount
    (c.loop-first.invariant.fine os h) e c.new-own.result c.new-own.ensures
    c.in_err-put_claims.ensures.owes)

pub returns-in_err-amount : goal.returns-in_err-amount
returns-in_err-amount c os h =
    let u = program c.args.site.now.unit.now in
    let p = procedure c.args.site.now.proc.now in
    let whole = map placed c.args.claims.now in
    let first = c.in-Some.first.now in
    let here = c.split_at.result.0.now in
    let others = c.split_at.result.1.now in
    let is = one_front c.loop-first.rest.now here first (sym c.in-Some.ensures.value)
    c.split_at.ensures.front in
    let split : map placed c.loop-first.rest.now ≡ map placed here ++ map placed others =
    ap (map placed) c.split_at.ensures.by_index.0 ∙ map-append placed here others in
    let e = c.in_err-amount.field-0.0 in
    finds_refusal c.from_residual-in_err-amount.result (error_of e) (first_fault u p os whole)
    c.from_residual-in_err-amount.ensures.1
    (full_first u p os whole (placed first) (map placed c.loop-first.rest.now) (map placed here)
    (map placed others) (ap (map placed) is) split c.loop-first.amount
    (c.loop-first.invariant.fine os h) c.new-own.result c.put_claims.new.out
    (map plain_obligation c.deref.result.now) c.new-own.ensures
    (ap (map plain_obligation) c.deref.ensures.value ∙ c.into_items.ensures)
    c.in_ok-put_claims.ensures.owes e c.in_err-amount.ensures)

pub loop-first-preserved : goal.loop-first-preserved
loop-first-preserved c =
    let u = program c.args.site.now.unit.now in
    let p = procedure c.args.site.now.proc.now in
    let whole = map placed c.args.claims.now in
    let first = c.in-Some.first.now in
    let here = c.split_at.result.0.now in
    let others = c.split_at.result.1.now in
    let is = one_front c.loop-first.rest.now here first (sym c.in-Some.ensures.value)
    c.split_at.ensures.front in
    let split : map placed c.loop-first.rest.now ≡ map placed here ++ map placed others =
    ap (map placed) c.split_at.ensures.by_index.0 ∙ map-append placed here others in
    record {
      goes = c.in_ok-put_claims.ensures.same ∙ c.loop-first.invariant.goes;
      owable =
          (both_owable (may_be_owed p) (map placed c.loop-first.rest.now) (map placed here)
          (map placed others) split c.loop-first.invariant.owable).1;
      fine = λ os h.
          fine_first u p os whole (placed first) (map placed c.loop-first.rest.now)
          (map placed here) (map placed others) (ap (map placed) is) split c.loop-first.amount
          (c.loop-first.invariant.fine os h) c.new-own.result c.put_claims.new.out
          (map plain_obligation c.deref.result.now) c.new-own.ensures
          (ap (map plain_obligation) c.deref.ensures.value ∙ c.into_items.ensures)
          c.in_ok-put_claims.ensures.owes c.in_ok-amount.amount c.in_ok-amount.ensures;
    }

pub returns : goal.returns
returns c os h =
    fine_end (program c.args.site.now.unit.now) (procedure c.args.site.now.proc.now) os
    (map placed c.args.claims.now) (map placed c.loop-first.rest.now) c.loop-first.amount
    (ap (map placed) (none_left c.loop-first.rest.now (sym c.in_default.ensures.value)))
    (c.loop-first.invariant.fine os h)
