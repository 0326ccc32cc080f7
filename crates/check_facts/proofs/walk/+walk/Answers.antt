use Rattle.std.proofs.Common.{◌≡◌, ℕ, ◌<◌, ◌≤◌, ◌+◌, zero, List, ◌∷◌, drop, length, map, arith}
use Rattle.std.proofs.Common.{refl, sym, ap, ◌∙◌, subst, Result, Ok, Err, IsErr, IfOk, OnOk}
use Rattle.std.proofs.lemmas.Bool.{false≢true}
use Rattle.std.specs.Prelude.{IsSome}
use Rattle.exo_tree.specs.Tree.{Statement, Block, block}
use Rattle.exo_tree.specs.Places.{Path, opened_in}
use Rattle.exo_tree.specs.Branches.{branch_of}
use Rattle.exo_tree.specs.PlainPlace.{branch_taken, step_taken}
use Rattle.exo_tree.specs.PlainStatement.{statement}
use Rattle.exo_tree.specs.declared.place.Step as taken
use Rattle.meaning_laws.specs.KnownFields.{KnownFields, at_entry, path_in}
use Rattle.meaning_laws.specs.PlaceFacts.{facts_round}
use Rattle.affine_forms.specs.declared.error.FormError.TheVariants.{Memory}
use Rattle.check_facts.specs.Contexts.{facts_from}
use Rattle.check_facts.specs.Tables.{known_in}
use Rattle.check_facts.specs.Trails.{levels_of, step_to, Stand, StandIn}
use Rattle.check_facts.specs.Walks.{telling_of, passed, entered, Added}
use Rattle.check_facts.specs.declared.basis.Basis.{Basis}
use Rattle.check_facts.specs.declared.level.Level.{Level}
use Rattle.check_facts.proofs.Adding.{Came, none_added, left_early, refused_first}
use Rattle.check_facts.proofs.Below.{Descent, before, head, opened_by, goes, rules_here, room_here}
use Rattle.check_facts.proofs.Below.{opens_inside, fits_inside, stands_below, stands_behind}
use Rattle.check_facts.proofs.Below.{known_below, came_below, refused_below}
use Rattle.check_facts.proofs.Fields.{facts_same}
use Rattle.check_facts.proofs.Rooms.{room_before, short_length}
use Rattle.check_facts.proofs.Trails.{stand_out, step_same}
use Rattle.check_facts.proofs.Ways.{found, within, no_more, no_block, ended}
use Rattle.check_facts.proofs.walk.+walk.Goals.{After-path_in-path, In_ok-below}
use Rattle.check_facts.proofs.walk.+walk.Goals as goal

at_most : (k n : ℕ) → k < n → k ≤ n
at_most k n h = omega arith

one_less : (k n t : ℕ) → n ≡ t → k + 1 ≡ n → k < t
one_less k n t e h = omega arith

-- an error says nothing of what follows `Ok`
no_value : {A E : Type 0} (P : A → Type 0) (r : Result A E) → IsErr r → IfOk r P
no_value P (Ok x) h = absurd (false≢true h)
no_value P (Err e) h = tt

no_fact : {A E : Type 0} (P : Type 0) (r : Result A E) → IsErr r → OnOk r P
no_fact P (Ok x) h = absurd (false≢true h)
no_fact P (Err e) h = tt

-- ---- the way into a branch of the statement of the level

abbrev descent : (basis : Basis) (outer : Path) (level : Level) (whole : List Statement)
    (steps rest : List taken.Step) (next : taken.Step) (here : Statement) (path : Path)
    → steps ≡ next ∷ rest → drop level.index whole ≡ here ∷ drop (level.index + 1) whole
    → path ≡ path_in outer (branch_taken level.branch) level.index → Descent
descent basis outer level whole steps rest next here path goes_on is_here is_path = record {
  basis = basis;
  outer = outer;
  level = level;
  whole = whole;
  others = drop (level.index + 1) whole;
  here = here;
  is_here = is_here;
  path = path;
  is_path = is_path;
  steps = map step_taken steps;
  next = step_taken next;
  rest = map step_taken rest;
  goes_on = ap (map step_taken) goes_on;
}

abbrev way_on : (t : ℕ) → After-path_in-path t → Descent
way_on t c =
    descent c.args.basis.now c.args.outer.now c.args.level c.args.b.now c.args.steps.now
    c.in-Some.rest.now c.in-Some.next.now (statement c.statement-s.result.now)
    c.path_in-path.result c.in-Some.ensures.cases.0 c.statement-s.ensures.value
    c.path_in-path.ensures

-- where the level of the block inside is found, and brought on to the next step
module _ (t : ℕ) (c : In_ok-below t) where
  abbrev way_down : Descent
  way_down =
      descent c.args.basis.now c.args.outer.now c.args.level c.args.b.now c.args.steps.now
      c.in-Some.rest.now c.in-Some.next.now (statement c.statement-s.result.now)
      c.path_in-path.result c.in-Some.ensures.cases.0 c.statement-s.ensures.value
      c.path_in-path.ensures

  abbrev block_inside : Block
  block_inside = block c.in-Some-block.inner.now

  stands : (first : KnownFields)
      → StandIn way_down.basis way_down.outer (block way_down.whole) first way_down.level
      (levels_of c.args.trail.now)
      → StandIn way_down.basis way_down.path block_inside (head way_down first) c.in_ok-below.below
      (levels_of c.bring.new.trail)
  stands first h =
      stands_below way_down block_inside c.in-Some-block.ensures first c.in_ok-found.found
      c.in_ok-below.below (levels_of c.args.trail.now) (levels_of c.level_inside.new.trail)
      (levels_of c.bring.new.trail) (ap branch_taken c.in_ok-found.ensures.branch) h
      c.in_ok-found.ensures.stand c.in_ok-below.ensures.stand

  same_step : step_to c.in_ok-below.below ≡ way_down.next
  same_step =
      step_same c.in_ok-below.below c.in-Some.next.now
      (c.in_ok-below.ensures.branch ∙ c.in_ok-found.ensures.branch) c.in_ok-below.ensures.index

-- ---- answers

pub returns-in_default-clause-facts : goal.returns-in_default-clause-facts
returns-in_default-clause-facts t c = λ first h o e.
    let g = c.args.basis.now in
    let l = c.args.level in
    let way = sym (ap (λ q. opened_in 1 (step_to l ∷ q) (block c.args.b.now)) (no_more c.args.steps.now c.in_default.ensures.cases)) in
    let w = ended (telling_of g) c.args.outer.now (branch_taken l.branch) (step_to l) c.args.b.now o first (way ∙ e) in
    subst (λ es. Came g es c.args.context.now c.args.context.now) (sym w.0) (none_added g c.args.context.now c.args.context.now refl)

pub returns-in_default-clause-known : goal.returns-in_default-clause-known
returns-in_default-clause-known t c = λ first h o e.
    let g = c.args.basis.now in
    let l = c.args.level in
    let tell = telling_of g in
    let branch = branch_taken l.branch in
    let way = sym (ap (λ q. opened_in 1 (step_to l ∷ q) (block c.args.b.now)) (no_more c.args.steps.now c.in_default.ensures.cases)) in
    let w = ended tell c.args.outer.now branch (step_to l) c.args.b.now o first (way ∙ e) in
    let now = passed tell c.args.outer.now branch zero l.index (block c.args.b.now) first in
    c.in_ok-facts.ensures ∙ facts_same zero g.count g.count (known_in l.known) now (omega arith) h.0 ∙ ap (facts_from zero g.count) (sym w.1)

pub statement-s-requires : goal.statement-s-requires
statement-s-requires t c = within (step_to c.args.level) (map step_taken c.args.steps.now) c.args.b.now c.requires.place

pub path_in-path-requires-clause-number : goal.path_in-path-requires-clause-number
path_in-path-requires-clause-number t c =
    let l : c.args.level.index < length c.args.b.now = within (step_to c.args.level) (map step_taken c.args.steps.now) c.args.b.now c.requires.place in
    let s = short_length c.args.b.now c.requires.short in
    omega arith

pub enter-requires : goal.enter-requires
enter-requires t c =
    rules_here (way_on t (goal.at.enter-requires t c).After-path_in-path) c.requires.rules

pub returns-in_err-enter-clause-facts : goal.returns-in_err-enter-clause-facts
returns-in_err-enter-clause-facts t c = λ first h o e.
    let d = way_on t (goal.at.returns-in_err-enter-clause-facts t c).After-path_in-path in
    let g = d.basis in
    let now = before d first in
    let w = goes d o first e in
    let r = c.from_residual-in_err-enter in
    subst (λ es. Added r.result g es c.args.context.now c.enter.new.context) (sym w.facts)
    (left_early _ _ g _ _ _ r.ensures.1 (refused_first g (entered d.next.branch d.here now)
    (facts_round (telling_of g) d.path d.next.branch zero w.inner.around w.inner.piece
    (head d first)) _ (c.in_err-enter.ensures now h.0)))

pub unreachable-requires : goal.unreachable-requires
unreachable-requires t c =
    let d = way_on t (goal.at.unreachable-requires t c).After-path_in-path in
    let p = found (opened_by d) c.requires.place in
    let w = goes d p.place at_entry p.is in
    no_block w.block_inside (c.in_default-block.ensures ∙ w.is_branch)

pub level_inside-requires-clause-rules : goal.level_inside-requires-clause-rules
level_inside-requires-clause-rules t c =
    let d = way_on t (goal.at.level_inside-requires-clause-rules t c).After-path_in-path in
    rules_here d c.requires.rules

pub level_inside-requires-clause-room : goal.level_inside-requires-clause-room
level_inside-requires-clause-room t c =
    let d = way_on t (goal.at.level_inside-requires-clause-room t c).After-path_in-path in
    room_here d c.requires.room

pub bring-requires-clause-within : goal.bring-requires-clause-within
bring-requires-clause-within t c =
    let d = way_on t (goal.at.bring-requires-clause-within t c).After-path_in-path in
    let i = c.in-Some-block in
    let there = opens_inside d (block i.inner.now) i.ensures c.requires.place in
    at_most c.in-Some.next.now.index (length i.inner.now) (within d.next d.rest i.inner.now there)

pub bring-requires-clause-rules : goal.bring-requires-clause-rules
bring-requires-clause-rules t c =
    let d = way_on t (goal.at.bring-requires-clause-rules t c).After-path_in-path in
    let i = c.in-Some-block in
    (fits_inside d (block i.inner.now) i.ensures c.requires.rules c.requires.room).rules

pub bring-requires-clause-short : goal.bring-requires-clause-short
bring-requires-clause-short t c =
    let d = way_on t (goal.at.bring-requires-clause-short t c).After-path_in-path in
    let i = c.in-Some-block in
    (fits_inside d (block i.inner.now) i.ensures c.requires.rules c.requires.room).short

pub bring-requires-clause-room : goal.bring-requires-clause-room
bring-requires-clause-room t c =
    let d = way_on t (goal.at.bring-requires-clause-room t c).After-path_in-path in
    let i = c.in-Some-block in
    (fits_inside d (block i.inner.now) i.ensures c.requires.rules c.requires.room).room

pub walk-requires : goal.walk-requires
walk-requires t c =
    let b = (goal.at.walk-requires t c).In_ok-below in
    let d = way_down t b in
    let inner = block_inside t b in
    let is = c.in-Some-block.ensures in
    let there = opens_inside d inner is c.requires.place in
    let i = fits_inside d inner is c.requires.rules c.requires.room in (
      one_less (length c.in-Some.rest.now) (length c.args.steps.now) t c.decreases
          c.in-Some.ensures.cases.1,
      (
        subst (λ s. IsSome (opened_in 1 (s ∷ d.rest) inner)) (sym (same_step t b)) there,
        (i.rules, (i.short, i.room)),
      ),
    )

pub returns-in_err-facts-2-clause-facts : goal.returns-in_err-facts-2-clause-facts
returns-in_err-facts-2-clause-facts t c = λ first h o e.
    let b = (goal.at.returns-in_err-facts-2-clause-facts t c).In_ok-below in
    let d = way_down t b in
    left_early _ _ d.basis _ _ _ c.from_residual-in_err-facts-2.ensures.1
    (refused_below d (block_inside t b) c.in-Some-block.ensures first o e c.in_ok-below.below
    (same_step t b) _ c.args.context.now c.enter.new.context
    (c.in_ok-enter.ensures (before d first) h.0)
    (c.in_err-facts-2.ensures.facts (head d first) (stands t b first h)))

pub returns-clause-facts : goal.returns-clause-facts
returns-clause-facts t c = λ first h o e.
    let b = (goal.at.returns-clause-facts t c).In_ok-below in
    let d = way_down t b in
    came_below d (block_inside t b) c.in-Some-block.ensures first o e c.in_ok-below.below
    (same_step t b) c.args.context.now c.enter.new.context c.walk.new.context
    (c.in_ok-enter.ensures (before d first) h.0)
    (c.in_ok-facts-2.ensures.facts (head d first) (stands t b first h))

pub returns-clause-known : goal.returns-clause-known
returns-clause-known t c = λ first h o e.
    let b = (goal.at.returns-clause-known t c).In_ok-below in
    let d = way_down t b in
    known_below d (block_inside t b) c.in-Some-block.ensures first o e c.in_ok-below.below
    (same_step t b) c.in_ok-facts-2.facts
    (c.in_ok-facts-2.ensures.known (head d first) (stands t b first h))

pub returns-clause-stand : goal.returns-clause-stand
returns-clause-stand t c = λ first h blocks e.
    let b = (goal.at.returns-clause-stand t c).In_ok-below in
    let d = way_down t b in
    let same = c.in_ok-below.ensures.branch ∙ c.in_ok-found.ensures.branch in
    let block_below = ap (λ v. branch_of (branch_taken v) d.here) same
    ∙ sym c.in-Some-block.ensures in
    let told = c.in_ok-facts-2.ensures.stand (head d first) (stands t b first h)
    (λ u. branch_of u d.here) block_below in
    stands_behind d first blocks (levels_of c.walk.new.trail) (levels_of c.put-2.new.self)
    c.in_ok-put-2.ensures e h.0 told

pub returns-in_default-clause-stand : goal.returns-in_default-clause-stand
returns-in_default-clause-stand t c = λ first h blocks e.
    let g = c.args.basis.now in
    let outer = c.args.outer.now in
    subst (Stand g outer blocks first) (sym c.in_ok-put.ensures)
    (stand_out g outer blocks (block c.args.b.now) first c.args.level (levels_of c.args.trail.now) e h)

pub path_in-path-requires-clause-room : goal.path_in-path-requires-clause-room
path_in-path-requires-clause-room t c =
    let l = c.args.level in
    let b = c.args.b.now in
    let k = within (step_to l) (map step_taken c.args.steps.now) b c.requires.place in
    room_before (length c.args.outer.now) l.index b k c.requires.room

pub bring-requires-clause-ordered : goal.bring-requires-clause-ordered
bring-requires-clause-ordered t c = c.in_ok-found.ensures.index

pub returns-in_err-facts-clause-facts : goal.returns-in_err-facts-clause-facts
returns-in_err-facts-clause-facts t c = λ first h o e.
    left_early _ Memory c.args.basis.now _ _ _ c.from_residual.ensures.1 tt

pub returns-in_err-put-clause-facts : goal.returns-in_err-put-clause-facts
returns-in_err-put-clause-facts t c = λ first h o e.
    left_early _ Memory c.args.basis.now _ _ _ c.from_residual-in_err-put.ensures.1 tt

pub returns-in_err-found-clause-facts : goal.returns-in_err-found-clause-facts
returns-in_err-found-clause-facts t c = λ first h o e.
    left_early _ Memory c.args.basis.now _ _ _ c.from_residual-in_err-found.ensures.1 tt

pub returns-in_err-below-clause-facts : goal.returns-in_err-below-clause-facts
returns-in_err-below-clause-facts t c = λ first h o e.
    left_early _ Memory c.args.basis.now _ _ _ c.from_residual-in_err-below.ensures.1 tt

pub returns-in_err-put-2-clause-facts : goal.returns-in_err-put-2-clause-facts
returns-in_err-put-2-clause-facts t c = λ first h o e.
    left_early _ Memory c.args.basis.now _ _ _ c.from_residual-in_err-put-2.ensures.1 tt

pub returns-in_err-facts-clause-known : goal.returns-in_err-facts-clause-known
returns-in_err-facts-clause-known t c = λ first h o e.
    no_value _ c.from_residual.result c.from_residual.ensures.0

pub returns-in_err-facts-clause-stand : goal.returns-in_err-facts-clause-stand
returns-in_err-facts-clause-stand t c = λ first h blocks e.
    no_fact _ c.from_residual.result c.from_residual.ensures.0

pub returns-in_err-put-clause-known : goal.returns-in_err-put-clause-known
returns-in_err-put-clause-known t c = λ first h o e.
    no_value _ c.from_residual-in_err-put.result c.from_residual-in_err-put.ensures.0

pub returns-in_err-put-clause-stand : goal.returns-in_err-put-clause-stand
returns-in_err-put-clause-stand t c = λ first h blocks e.
    no_fact _ c.from_residual-in_err-put.result c.from_residual-in_err-put.ensures.0

pub returns-in_err-enter-clause-known : goal.returns-in_err-enter-clause-known
returns-in_err-enter-clause-known t c = λ first h o e.
    no_value _ c.from_residual-in_err-enter.result c.from_residual-in_err-enter.ensures.0

pub returns-in_err-enter-clause-stand : goal.returns-in_err-enter-clause-stand
returns-in_err-enter-clause-stand t c = λ first h blocks e.
    no_fact _ c.from_residual-in_err-enter.result c.from_residual-in_err-enter.ensures.0

pub returns-in_err-found-clause-known : goal.returns-in_err-found-clause-known
returns-in_err-found-clause-known t c = λ first h o e.
    no_value _ c.from_residual-in_err-found.result c.from_residual-in_err-found.ensures.0

pub returns-in_err-found-clause-stand : goal.returns-in_err-found-clause-stand
returns-in_err-found-clause-stand t c = λ first h blocks e.
    no_fact _ c.from_residual-in_err-found.result c.from_residual-in_err-found.ensures.0

pub returns-in_err-below-clause-known : goal.returns-in_err-below-clause-known
returns-in_err-below-clause-known t c = λ first h o e.
    no_value _ c.from_residual-in_err-below.result c.from_residual-in_err-below.ensures.0

pub returns-in_err-below-clause-stand : goal.returns-in_err-below-clause-stand
returns-in_err-below-clause-stand t c = λ first h blocks e.
    no_fact _ c.from_residual-in_err-below.result c.from_residual-in_err-below.ensures.0

pub returns-in_err-facts-2-clause-known : goal.returns-in_err-facts-2-clause-known
returns-in_err-facts-2-clause-known t c = λ first h o e.
    no_value _ c.from_residual-in_err-facts-2.result c.from_residual-in_err-facts-2.ensures.0

pub returns-in_err-facts-2-clause-stand : goal.returns-in_err-facts-2-clause-stand
returns-in_err-facts-2-clause-stand t c = λ first h blocks e.
    no_fact _ c.from_residual-in_err-facts-2.result c.from_residual-in_err-facts-2.ensures.0

pub returns-in_err-put-2-clause-known : goal.returns-in_err-put-2-clause-known
returns-in_err-put-2-clause-known t c = λ first h o e.
    no_value _ c.from_residual-in_err-put-2.result c.from_residual-in_err-put-2.ensures.0

pub returns-in_err-put-2-clause-stand : goal.returns-in_err-put-2-clause-stand
returns-in_err-put-2-clause-stand t c = λ first h blocks e.
    no_fact _ c.from_residual-in_err-put-2.result c.from_residual-in_err-put-2.ensures.0
