use Rattle.std.proofs.Common.{◌≡◌, ℕ, ◌+◌, ◌≤◌, Option, Some, None, length, map, refl, ap, sym}
use Rattle.std.proofs.Common.{subst, ◌∙◌}
use Rattle.std.proofs.lemmas.Option.{slice_get-map}
use Rattle.std.specs.Prelude.{slice_get, option_map, option_and_then, IfOk, IfSome}
use Rattle.exo_tree.specs.Tree.{Statement, block}
use Rattle.exo_tree.specs.Tree as tree
use Rattle.exo_tree.specs.Branches.{branch_of}
use Rattle.exo_tree.specs.PlainPlace.{branch_taken, step_taken}
use Rattle.exo_tree.specs.PlainStatement.{statement}
use Rattle.exo_tree.specs.declared.block.Block.{Block}
use Rattle.exo_tree.proofs.Openings.{replaced_in}
use Rattle.exo_tree.proofs.Edits.{if_ok, IsSpliced, spliced_is, stops, goes_on, inner_within}
use Rattle.tree_edits.specs.Entries.{beside, entries_in}
use Rattle.tree_edits.proofs.Costs.{at_block, last_step, one_there, some_there}
use Rattle.tree_edits.proofs.Joined.{nothing_made, made_further, made_aside, made_here, made_exact}
use Rattle.tree_edits.proofs.edit.+replaced_in.Given.{Over}
use Rattle.tree_edits.proofs.edit.+replaced_in.Goals.{In-None-first, In-Some-first, In-Some-block}
use Rattle.tree_edits.proofs.edit.+replaced_in.Goals as goal

-- nothing is there where the second step finds nothing
nothing_there : (g : Over) (t : ℕ) (c : In-Some-first g t) (found : Option Statement)
    (inner : Option tree.Block)
    → slice_get c.args.b.now c.in-Some.parts.0.now.index ≡ found
    → option_and_then (branch_of (branch_taken c.in-Some-first.next.now.branch)) found ≡ inner
    → option_and_then (λ b. replaced_in c.args.count (map step_taken c.in-Some.parts.1.now) b
    (block c.args.with.now)) inner ≡ None
    → None ≡ replaced_in c.args.count (map step_taken c.args.path.now) (block c.args.b.now)
    (block c.args.with.now)
nothing_there g t c found inner is at none =
    let rest = c.in-Some.parts.1.now in
    let with = block c.args.with.now in
    let u = step_taken c.in-Some-first.next.now in
    let put = option_and_then (λ b. replaced_in c.args.count (map step_taken rest) b with) in
    sym (stops c.args.count (step_taken c.in-Some.parts.0.now) u (map step_taken c.args.path.now)
    (map step_taken rest) c.args.b.now with (ap (map step_taken) c.in-Some.ensures.cases.0)
    (slice_get-map step_taken rest 0
    ∙ ap (option_map step_taken) (sym c.in-Some-first.ensures.value))
    (ap (λ x. put (option_and_then (branch_of u.branch) x)) is ∙ ap put at ∙ none))

-- entries on the way, at its last step
entries_there : (g : Over) (t : ℕ) (c : In-None-first g t)
    → entries_in (map step_taken c.args.path.now) c.args.b.now ≡ length c.args.b.now
entries_there g t c =
    let rest = c.in-Some.parts.1.now in
    last_step (step_taken c.in-Some.parts.0.now) (map step_taken c.args.path.now)
    (map step_taken rest) c.args.b.now (ap (map step_taken) c.in-Some.ensures.cases.0)
    (slice_get-map step_taken rest 0
    ∙ ap (option_map step_taken) (sym c.in-None-first.ensures.value))

-- entries on the way, where it goes into a block
entries_through : (g : Over) (t : ℕ) (c : In-Some-block g t)
    → entries_in (map step_taken c.args.path.now) c.args.b.now
    ≡ length c.args.b.now
    + beside (branch_taken c.in-Some-first.next.now.branch) (statement c.in-Some-get.s.now)
    + entries_in (map step_taken c.in-Some.parts.1.now) c.in-Some-block.inner.now
entries_through g t c =
    let rest = c.in-Some.parts.1.now in
    at_block (step_taken c.in-Some.parts.0.now) (step_taken c.in-Some-first.next.now)
    (map step_taken c.args.path.now) (map step_taken rest) c.args.b.now
    c.in-Some-block.inner.now (statement c.in-Some-get.s.now)
    (ap (map step_taken) c.in-Some.ensures.cases.0)
    (slice_get-map step_taken rest 0
    ∙ ap (option_map step_taken) (sym c.in-Some-first.ensures.value))
    (sym c.in-Some-get.ensures) (sym c.in-Some-block.ensures)

pub returns-in-None-first-clause-with : goal.returns-in-None-first-clause-with
returns-in-None-first-clause-with g t c =
    let s = c.in-Some.parts.0.now in
    let rest = c.in-Some.parts.1.now in
    let path = map step_taken c.args.path.now in
    if_ok (IsSpliced c.args.b.now s.index c.args.count c.args.with.now)
    (λ x. option_map block x
    ≡ replaced_in c.args.count path (block c.args.b.now) (block c.args.with.now))
    (λ x. spliced_is c.args.count (step_taken s) path (map step_taken rest) c.args.b.now
    c.args.with.now x (ap (map step_taken) c.in-Some.ensures.cases.0)
    (slice_get-map step_taken rest 0
    ∙ ap (option_map step_taken) (sym c.in-None-first.ensures.value)))
    c.spliced.result c.spliced.ensures.with

pub returns-in-None-get-clause-with : goal.returns-in-None-get-clause-with
returns-in-None-get-clause-with g t c =
    nothing_there g t (goal.at.returns-in-None-get-clause-with g t c).In-Some-first None None
    (sym c.in-None-get.ensures) refl refl

pub returns-in-None-block-clause-with : goal.returns-in-None-block-clause-with
returns-in-None-block-clause-with g t c =
    nothing_there g t (goal.at.returns-in-None-block-clause-with g t c).In-Some-first
    (Some (statement c.in-Some-get.s.now)) None (sym c.in-Some-get.ensures)
    (sym c.in-None-block.ensures) refl

pub returns-in-None-2-clause-with : goal.returns-in-None-2-clause-with
returns-in-None-2-clause-with g t c =
    nothing_there g t (goal.at.returns-in-None-2-clause-with g t c).In-Some-first
    (Some (statement c.in-Some-get.s.now)) (Some (block c.in-Some-block.inner.now))
    (sym c.in-Some-get.ensures) (sym c.in-Some-block.ensures)
    (sym c.in_ok-replaced_in.ensures.with ∙ ap (option_map block) c.in-None-2.is)

pub returns-clause-with : goal.returns-clause-with
returns-clause-with g t c =
    let s = step_taken c.in-Some.parts.0.now in
    let rest = c.in-Some.parts.1.now in
    let u = step_taken c.in-Some-first.next.now in
    let changed = block c.in-Some-2.changed in
    goes_on c.args.count s u (map step_taken c.args.path.now) (map step_taken rest) c.args.b.now
    c.in_ok-with_one.field-0 (block c.args.with.now) (block c.in-Some-block.inner.now) changed
    (ap (map step_taken) c.in-Some.ensures.cases.0)
    (slice_get-map step_taken rest 0
    ∙ ap (option_map step_taken) (sym c.in-Some-first.ensures.value))
    (ap (option_and_then (branch_of u.branch)) (sym c.in-Some-get.ensures)
    ∙ sym c.in-Some-block.ensures)
    (sym c.in_ok-replaced_in.ensures.with ∙ ap (option_map block) c.in-Some-2.is)
    (λ a k. one_there c.args.b.now c.in_ok-one.one c.in_ok-with_one.field-0 s.index u.branch
    changed (statement c.in-Some-get.s.now) a (statement c.in_ok-with_block.field-0)
    (sym c.in-Some-get.ensures) k c.in_ok-with_block.ensures.with c.in_ok-one.ensures
    c.in_ok-with_one.ensures.with)

pub with_one-requires : goal.with_one-requires
with_one-requires g t c =
    let u = step_taken c.in-Some-first.next.now in
    inner_within (step_taken c.in-Some.parts.0.now) u c.args.b.now
    (block c.in-Some-block.inner.now)
    (ap (option_and_then (branch_of u.branch)) (sym c.in-Some-get.ensures)
    ∙ sym c.in-Some-block.ensures)

pub returns-in_err-replaced_in-clause-cost : goal.returns-in_err-replaced_in-clause-cost
returns-in_err-replaced_in-clause-cost g t c =
    made_further c.args.made.now c.replaced_in.new.made _ _ _ _ _
    (entries_through g t (goal.at.returns-in_err-replaced_in-clause-cost g t c).In-Some-block)
    c.replaced_in.ensures.cost

pub returns-in-None-2-clause-cost : goal.returns-in-None-2-clause-cost
returns-in-None-2-clause-cost g t c =
    made_further c.args.made.now c.replaced_in.new.made _ _ _ _ _
    (entries_through g t (goal.at.returns-in-None-2-clause-cost g t c).In-Some-block)
    c.replaced_in.ensures.cost

pub returns-in_err-with_block-clause-cost : goal.returns-in_err-with_block-clause-cost
returns-in_err-with_block-clause-cost g t c =
    made_aside c.args.made.now c.replaced_in.new.made c.with_block.new.made _ _ _ _ _
    (entries_through g t (goal.at.returns-in_err-with_block-clause-cost g t c).In-Some-block)
    c.replaced_in.ensures.cost c.with_block.ensures.cost

pub returns-in_err-one-clause-cost : goal.returns-in_err-one-clause-cost
returns-in_err-one-clause-cost g t c =
    made_aside c.args.made.now c.replaced_in.new.made c.with_block.new.made _ _ _ _ _
    (entries_through g t (goal.at.returns-in_err-one-clause-cost g t c).In-Some-block)
    c.replaced_in.ensures.cost c.with_block.ensures.cost

pub returns-in_err-with_one-clause-cost : goal.returns-in_err-with_one-clause-cost
returns-in_err-with_one-clause-cost g t c =
    made_here c.args.made.now c.replaced_in.new.made c.with_block.new.made c.with_one.new.made _
    _ _ _ _ (entries_through g t (goal.at.returns-in_err-with_one-clause-cost g t c).In-Some-block)
    c.replaced_in.ensures.cost c.with_block.ensures.cost c.with_one.ensures.cost

pub returns-clause-cost : goal.returns-clause-cost
returns-clause-cost g t c =
    made_here c.args.made.now c.replaced_in.new.made c.with_block.new.made c.with_one.new.made _
    _ _ _ _ (entries_through g t (goal.at.returns-clause-cost g t c).In-Some-block)
    c.replaced_in.ensures.cost c.with_block.ensures.cost c.with_one.ensures.cost

pub returns-clause-exact : goal.returns-clause-exact
returns-clause-exact g t c =
    made_exact c.args.made.now c.replaced_in.new.made c.with_block.new.made c.with_one.new.made
    c.args.count _ _ _ _ _ (entries_through g t (goal.at.returns-clause-exact g t c).In-Some-block)
    (some_there c.in_ok-replaced_in.field-0 c.in-Some-2.changed _ c.in-Some-2.is
    c.in_ok-replaced_in.ensures.exact)
    c.with_block.ensures.cost c.in_ok-with_one.ensures.exact

pub returns-in-None-clause-cost : goal.returns-in-None-clause-cost
returns-in-None-clause-cost g t c =
    nothing_made _ _ _

pub returns-in-None-get-clause-cost : goal.returns-in-None-get-clause-cost
returns-in-None-get-clause-cost g t c =
    nothing_made _ _ _

pub returns-in-None-block-clause-cost : goal.returns-in-None-block-clause-cost
returns-in-None-block-clause-cost g t c =
    nothing_made _ _ _

pub returns-in-None-first-clause-cost : goal.returns-in-None-first-clause-cost
returns-in-None-first-clause-cost g t c =
    subst (λ (n : ℕ). c.spliced.new.made ≤ c.args.made.now + n + length c.args.with.now)
    (sym (entries_there g t (goal.at.returns-in-None-first-clause-cost g t c).In-None-first))
    c.spliced.ensures.cost

pub returns-in-None-first-clause-exact : goal.returns-in-None-first-clause-exact
returns-in-None-first-clause-exact g t c =
    subst (λ (n : ℕ). IfOk c.spliced.result (λ (x : Option Block). IfSome x
    (λ _. c.spliced.new.made + c.args.count ≡ c.args.made.now + n + length c.args.with.now)))
    (sym (entries_there g t (goal.at.returns-in-None-first-clause-exact g t c).In-None-first))
    c.spliced.ensures.exact
