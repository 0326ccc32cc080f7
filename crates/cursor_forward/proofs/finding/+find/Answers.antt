use Rattle.std.proofs.Common.{◌≡◌, ◌≤◌, ◌+◌, refl, ◌-◌, ◌<◌, ◌++◌, ◌∷◌, ◌∙◌, [], Some, None, length, ap, sym}
use Rattle.std.proofs.Common.{subst, true≢false, arith}
use Rattle.std.specs.Prelude.{◌^◌, slice_get}
use Rattle.exo_tree.specs.Places.{Path}
use Rattle.exo_tree.specs.Plain.{program, statement}
use Rattle.exo_tree.specs.PlainPlace.{branch_taken}
use Rattle.exo_tree.specs.Places.{Main, Else}
use Rattle.exo_tree.specs.Tree.{block}
use Rattle.exo_tree.specs.Heights.{height_below}
use Rattle.cursor_forward.specs.Search.PlainPattern.{plain_pattern}
use Rattle.cursor_forward.specs.Patterns.{matching, matching_at, matching_below}
use Rattle.cursor_forward.proofs.Searching.{found_here, walks_on, short_block, behind_first, passed_both}
use Rattle.cursor_forward.proofs.Searching.{found_there, not_none, ends_without, can_be_walked}
use Rattle.cursor_forward.proofs.finding.+find.Goals as goal

pub find_in-overflow_cast-k : goal.find_in-overflow_cast-k
find_in-overflow_cast-k t c =
    let short : length c.args.b.now < 2 ^ 32 = short_block c.args.b.now c.requires.short in
    omega (arith, short, c.loop-k-test.true, c.len-k-end.ensures)

pub find_in-returns-in-Some-clause-found : goal.find_in-returns-in-Some-clause-found
find_in-returns-in-Some-clause-found t c =
    let s = statement c.statement-s.result.now in
    let at : slice_get (matching_at (program c.args.unit.now) (plain_pattern c.args.pattern.now) c.push.new.self c.loop-k.found s) c.loop-k.left ≡ Some c.in-Some.path = sym c.in-Some.ensures.found in
    sym (found_here (program c.args.unit.now) (plain_pattern c.args.pattern.now) c.args.outer.now (branch_taken c.args.branch) c.args.first c.args.b.now c.args.left.now c.loop-k.k c.loop-k.found c.loop-k.left c.loop-k.invariant s c.in-Some.path c.statement-s.ensures.value
    (ap (λ (p : Path). slice_get (matching_at (program c.args.unit.now) (plain_pattern c.args.pattern.now) p c.loop-k.found s) c.loop-k.left) (sym (c.push.ensures ∙ ap (λ (p : Path). p ++ record { branch = branch_taken c.args.branch; index = c.loop-k.k } ∷ []) c.duplicate-path.ensures)) ∙ at))

pub find_in-loop-k-preserved : goal.find_in-loop-k-preserved
find_in-loop-k-preserved t c =
    let u = program c.args.unit.now in
    let w = plain_pattern c.args.pattern.now in
    let s = statement c.statement-s.result.now in
    let r = branch_taken c.args.branch in
    let here : Path = c.args.outer.now ++ record { branch = r; index = c.loop-k.k } ∷ [] in
    let path : c.push.new.self ≡ here = c.push.ensures ∙ ap (λ (p : Path). p ++ record { branch = r; index = c.loop-k.k } ∷ []) c.duplicate-path.ensures in
    let none : slice_get (matching_at u w here c.loop-k.found s) c.loop-k.left ≡ None = ap (λ (p : Path). slice_get (matching_at u w p c.loop-k.found s) c.loop-k.left) (sym path) ∙ sym c.in_default.ensures.found in
    let left : c.find_at.new.left ≡ c.loop-k.left - length (matching_at u w here c.loop-k.found s) = c.in_default.ensures.passed refl ∙ ap (λ (p : Path). c.loop-k.left - length (matching_at u w p c.loop-k.found s)) path in
    rw c.found_after-found.ensures
    (walks_on u w c.args.outer.now r c.args.first c.args.b.now c.args.left.now c.loop-k.k c.loop-k.found c.loop-k.left c.loop-k.invariant s c.find_at.new.left c.statement-s.ensures.value none left)

pub find_below-returns-in-None-clause-found : goal.find_below-returns-in-None-clause-found
find_below-returns-in-None-clause-found t c =
    let u = program c.args.unit.now in
    let w = plain_pattern c.args.pattern.now in
    let own = matching u w c.args.path.now Main 0 c.args.found (block c.in-If.a) in
    let other = matching u w c.args.path.now Else 0 c.args.found (block c.in-If.b) in
    c.find_in-in-None.ensures.found ∙ ap (slice_get other) (c.in-None.ensures.passed refl)
    ∙ sym (behind_first own other c.args.left.now (sym c.in-None.ensures.found))
    ∙ ap (λ s. slice_get (matching_below u w c.args.path.now c.args.found (statement s)) c.args.left.now)
    (sym c.in-If.is)

pub find_below-returns-in-None-clause-passed : goal.find_below-returns-in-None-clause-passed
find_below-returns-in-None-clause-passed t c =
    let u = program c.args.unit.now in
    let w = plain_pattern c.args.pattern.now in
    let own = matching u w c.args.path.now Main 0 c.args.found (block c.in-If.a) in
    let other = matching u w c.args.path.now Else 0 c.args.found (block c.in-If.b) in
    λ h. c.find_in-in-None.ensures.passed h ∙ ap (λ n. n - length other) (c.in-None.ensures.passed refl)
    ∙ passed_both own other c.args.left.now
    ∙ ap (λ s. c.args.left.now - length (matching_below u w c.args.path.now c.args.found (statement s)))
    (sym c.in-If.is)

pub find_below-returns-in-For-clause-passed : goal.find_below-returns-in-For-clause-passed
find_below-returns-in-For-clause-passed t c =
    let u = program c.args.unit.now in
    let w = plain_pattern c.args.pattern.now in
    λ h. c.find_in-in-For.ensures.passed h
    ∙ ap (λ s. c.args.left.now - length (matching_below u w c.args.path.now c.args.found (statement s)))
    (sym c.in-For.is)

pub find_below-returns-in_default-find_in-clause-found : goal.find_below-returns-in_default-find_in-clause-found
find_below-returns-in_default-find_in-clause-found t c =
    let u = program c.args.unit.now in
    let w = plain_pattern c.args.pattern.now in
    let own = matching u w c.args.path.now Main 0 c.args.found (block c.in-If.a) in
    let other = matching u w c.args.path.now Else 0 c.args.found (block c.in-If.b) in
    found_there own other c.args.left.now c.find_in.result c.find_in.ensures.found c.in_default-find_in.not-None
    ∙ ap (λ s. slice_get (matching_below u w c.args.path.now c.args.found (statement s)) c.args.left.now)
    (sym c.in-If.is)

pub find_below-returns-in_default-find_in-clause-passed : goal.find_below-returns-in_default-find_in-clause-passed
find_below-returns-in_default-find_in-clause-passed t c =
    λ h. absurd (not_none c.find_in.result c.in_default-find_in.not-None h)

pub find_in-returns-in-Some-clause-passed : goal.find_in-returns-in-Some-clause-passed
find_in-returns-in-Some-clause-passed t c =
    λ h. absurd (true≢false h)

pub find_in-returns-clause-found : goal.find_in-returns-clause-found
find_in-returns-clause-found t c =
    let u = program c.args.unit.now in
    let w = plain_pattern c.args.pattern.now in
    let here : length c.args.b.now ≤ c.loop-k.k = omega (arith, c.loop-k-test.false, c.len-k-end.ensures) in
    let e = ends_without u w c.args.outer.now (branch_taken c.args.branch) c.args.first c.args.b.now c.args.left.now
    c.loop-k.k c.loop-k.found c.loop-k.left c.loop-k.invariant here in
    sym e.0

pub find_in-returns-clause-passed : goal.find_in-returns-clause-passed
find_in-returns-clause-passed t c =
    let u = program c.args.unit.now in
    let w = plain_pattern c.args.pattern.now in
    let here : length c.args.b.now ≤ c.loop-k.k = omega (arith, c.loop-k-test.false, c.len-k-end.ensures) in
    let e = ends_without u w c.args.outer.now (branch_taken c.args.branch) c.args.first c.args.b.now c.args.left.now
    c.loop-k.k c.loop-k.found c.loop-k.left c.loop-k.invariant here in
    λ h. e.1

pub find_in-find_at-requires : goal.find_in-find_at-requires
find_in-find_at-requires t c =
    let u = program c.args.unit.now in
    let w = plain_pattern c.args.pattern.now in
    let s = statement c.statement-s.result.now in
    let r = branch_taken c.args.branch in
    let here : Path = c.args.outer.now ++ record { branch = r; index = c.loop-k.k } ∷ [] in
    let path : c.push.new.self ≡ here = c.push.ensures ∙ ap (λ (p : Path). p ++ record { branch = r; index = c.loop-k.k } ∷ []) c.duplicate-path.ensures in
    let can = can_be_walked u w c.args.outer.now r c.args.first c.args.b.now c.args.left.now c.loop-k.k c.loop-k.found
    c.loop-k.left c.loop-k.invariant s c.statement-s.ensures.value in (
      omega arith,
      (subst (λ (p : Path). length p + height_below s ≤ 32) (sym path) can.low, can.short),
    )
