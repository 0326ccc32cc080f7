use Rattle.std.proofs.Common.{◌≡◌, ◌+◌, ◌<◌, ◌≤◌, nat_lt, true, ◌&&◌, zero, [], ◌∷◌, length, map, Some}
use Rattle.std.proofs.Common.{arith, sym, ap, ◌∙◌, subst}
use Rattle.std.specs.List.{list_all}
use Rattle.std.specs.Prelude.{IfOk, OnOk, is_some}
use borrow.Author.Tests.{ltb-true}
use Rattle.exo_tree.specs.Tree.{Procedure}
use Rattle.exo_tree.specs.Places.{Branch, Main, Path, opened, opened_in}
use Rattle.exo_tree.specs.PlainPlace.{branch_taken, step_taken}
use Rattle.exo_tree.specs.PlainProcedure.{procedure}
use Rattle.exo_tree.specs.PlainUnit.{program}
use Rattle.exo_meaning.specs.Units.{levels, is_short}
use Rattle.meaning_laws.specs.KnownFields.{KnownFields, at_entry, known_at}
use Rattle.meaning_laws.specs.PlaceFacts.{facts_round}
use Rattle.affine_forms.specs.Formulas.{condition_keeps_rules}
use Rattle.affine_places.specs.Roots.{has_extents}
use Rattle.affine_places.specs.Rules.{block_keeps_rules, procedure_keeps_rules}
use Rattle.check_facts.specs.Contexts.{facts_from, known_at_place, may_be_walked}
use Rattle.check_facts.specs.Trails.{levels_of, step_to, body_in, Stand, StandIn}
use Rattle.check_facts.specs.Walks.{telling_of, round_facts, Added}
use Rattle.check_facts.proofs.Arrivals.{opened_first, any_branch}
use Rattle.check_facts.proofs.Openings.{opened_within}
use Rattle.check_facts.proofs.Ways.{Found, found}
use Rattle.check_facts.proofs.Rooms.{parts}
use Rattle.check_facts.proofs.place_walk.descend.Goals.{In_ok-level}
use Rattle.check_facts.proofs.place_walk.descend.Goals as goal

-- what may be walked keeps the rules, is short, and has short paths
body_of : (p : Procedure) → may_be_walked p ≡ true
    → (is_short p.body ≡ true) × (block_keeps_rules p.body ≡ true)
body_of p h =
    let all = (parts (procedure_keeps_rules p) (nat_lt (levels p.body) 33) h).0 in
    let body = is_short p.body && block_keeps_rules p.body in
    parts (is_short p.body) (block_keeps_rules p.body)
    (parts (list_all condition_keeps_rules p.asserts) body
    (parts (has_extents p) (list_all condition_keeps_rules p.asserts && body) all).1).1

room_of : (p : Procedure) (outer : Path) → outer ≡ [] → may_be_walked p ≡ true
    → length outer + levels p.body ≤ 32
room_of p outer e h =
    let few = ltb-true (levels p.body) 33
    (parts (procedure_keeps_rules p) (nat_lt (levels p.body) 33) h).1 in
    let none = ap length e in
    omega arith

-- the way that is walked, from the level of the body
module _ (c : In_ok-level) where
  abbrev whole : Procedure
  whole = procedure c.args.basis.now.proc.now

  abbrev way : Path
  way = map step_taken c.args.steps.now

  place : Found (opened 1 (step_taken c.args.first ∷ way) whole.body)
  place = found (opened 1 (step_taken c.args.first ∷ way) whole.body) c.requires.place

  there : opened_in 1 (step_to c.in_ok-level.level ∷ way) whole.body ≡ Some place.place
  there =
      any_branch (step_to c.in_ok-level.level) (step_taken c.args.first) way whole.body
      c.in_ok-level.ensures.index
      ∙ opened_first (step_taken c.args.first) way whole.body place.place place.is

  main : branch_taken c.in_ok-level.level.branch ≡ Main
  main = ap branch_taken c.in_ok-level.ensures.branch ∙ c.first_level-found.ensures.branch

  stands : StandIn c.args.basis.now c.new-outer.result whole.body at_entry c.in_ok-level.level
      (levels_of c.bring.new.trail)
  stands =
      let g = c.args.basis.now in
      let f = c.first_level-found in
      c.in_ok-level.ensures.stand at_entry
      (subst (λ q. StandIn g q whole.body at_entry f.result (levels_of f.new.trail))
      (sym c.new-outer.ensures) (f.ensures.stand g whole.body c.requires.stand))

  -- what is said of that level is said of the main branch at no path
  said_first : (P : Path → Branch → Type 0)
      → P c.new-outer.result (branch_taken c.in_ok-level.level.branch) → P [] Main
  said_first P h =
      subst (λ t. P [] t) main
      (subst (λ q. P q (branch_taken c.in_ok-level.level.branch)) c.new-outer.ensures h)

pub bring-requires-clause-within : goal.bring-requires-clause-within
bring-requires-clause-within c =
    let body = c.args.basis.now.proc.now.body in
    let s = step_taken c.args.first in
    let rest = map step_taken c.args.steps.now in
    let w = found (opened 1 (s ∷ rest) (procedure c.args.basis.now.proc.now).body) c.requires.place in
    let k : c.args.first.index < length body = opened_within s rest body w.place (opened_first s rest (procedure c.args.basis.now.proc.now).body w.place w.is) in
    omega arith

pub returns-clause-facts : goal.returns-clause-facts
returns-clause-facts c =
    let l = (goal.at.returns-clause-facts c).In_ok-level in
    let g = c.args.basis.now in
    let tell = telling_of g in
    let w = place l in
    let r = c.walk in
    subst (λ o. Added r.result g (round_facts tell o) c.args.context.now r.new.context) (sym w.is)
    (said_first l (λ q t. Added r.result g
    (facts_round tell q t zero w.place.around w.place.piece at_entry) c.args.context.now
    r.new.context) (r.ensures.facts at_entry (stands l) w.place (there l)))

pub returns-clause-known : goal.returns-clause-known
returns-clause-known c =
    let l = (goal.at.returns-clause-known c).In_ok-level in
    let g = c.args.basis.now in
    let w = place l in
    let known : KnownFields → Type 0 = λ k.
    IfOk c.walk.result (λ facts. facts ≡ facts_from zero g.count k) in
    subst (λ o. known (known_at_place (program g.unit.now) (procedure g.proc.now) o)) (sym w.is)
    (said_first l
    (λ q t. known (known_at (telling_of g) q t zero w.place.around w.place.piece at_entry))
    (c.walk.ensures.known at_entry (stands l) w.place (there l)))

pub returns-clause-stand : goal.returns-clause-stand
returns-clause-stand c =
    let l = (goal.at.returns-clause-stand c).In_ok-level in
    let g = c.args.basis.now in
    let body = body_in (procedure g.proc.now).body in
    subst (λ q. OnOk c.walk.result (Stand g q body at_entry (levels_of c.walk.new.trail)))
    c.new-outer.ensures (c.walk.ensures.stand at_entry (stands l) body (ap body (main l)))

pub bring-requires-clause-ordered : goal.bring-requires-clause-ordered
bring-requires-clause-ordered c = c.first_level-found.ensures.index

pub bring-requires-clause-rules : goal.bring-requires-clause-rules
bring-requires-clause-rules c =
    (body_of (procedure c.args.basis.now.proc.now) c.requires.rules).1

pub bring-requires-clause-short : goal.bring-requires-clause-short
bring-requires-clause-short c =
    (body_of (procedure c.args.basis.now.proc.now) c.requires.rules).0

pub bring-requires-clause-room : goal.bring-requires-clause-room
bring-requires-clause-room c =
    room_of (procedure c.args.basis.now.proc.now) c.new-outer.result c.new-outer.ensures
    c.requires.rules

pub walk-requires-clause-rules : goal.walk-requires-clause-rules
walk-requires-clause-rules c =
    (body_of (procedure c.args.basis.now.proc.now) c.requires.rules).1

pub walk-requires-clause-short : goal.walk-requires-clause-short
walk-requires-clause-short c =
    (body_of (procedure c.args.basis.now.proc.now) c.requires.rules).0

pub walk-requires-clause-room : goal.walk-requires-clause-room
walk-requires-clause-room c =
    room_of (procedure c.args.basis.now.proc.now) c.new-outer.result c.new-outer.ensures
    c.requires.rules

pub walk-requires-clause-place : goal.walk-requires-clause-place
walk-requires-clause-place c = ap is_some (there (goal.at.walk-requires-clause-place c).In_ok-level)
