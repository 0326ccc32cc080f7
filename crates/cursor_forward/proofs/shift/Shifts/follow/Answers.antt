use Rattle.std.proofs.Common.{◌≡◌, ◌∙◌, map, Option, Some, None, ap, sym}
use Rattle.std.specs.Prelude.{option_map, option_and_then}
use Rattle.exo_tree.specs.Places.{Path}
use Rattle.exo_tree.specs.PlainPlace.{step_taken}
use Rattle.cursor_forward.specs.PlainShift.{plain_shift, plain_below}
use Rattle.cursor_forward.specs.Shifts.{beyond, covered, held}
use Rattle.cursor_forward.proofs.Following.{follow_next, follow_at}
use Rattle.cursor_forward.proofs.shift.Shifts.follow.Goals as goal

pub returns-in-Some-to : goal.returns-in-Some-to
returns-in-Some-to c =
    let w = plain_below c.in-Some.below in
    let takes : covered (plain_shift c.shift-item.result) (map step_taken c.args.path.now) ≡ Some w = sym c.covered.ensures ∙ ap (option_map plain_below) c.in-Some.is in
    c.beyond.ensures
    ∙ ap (λ (q : Path). option_and_then held (beyond q w.offset w.rest)) c.as_slice.ensures.value
    ∙ sym (ap (option_and_then held) (
    follow_at c.deref-shift-items.result.now c.self.inside.items.items c.args.self.now c.loop-shift.shift-index c.shift-item.result (map step_taken c.args.path.now) (Some w)
    c.deref-shift-items.ensures.value c.self.view_is c.loop-shift-test.true c.shift-item.is c.loop-shift.invariant takes
    ∙ ap (λ (t : Option Path). option_and_then (λ to. beyond to w.offset w.rest) t) c.in-Some-to.is))

pub returns-in-None : goal.returns-in-None
returns-in-None c =
    let w = plain_below c.in-Some.below in
    let takes : covered (plain_shift c.shift-item.result) (map step_taken c.args.path.now) ≡ Some w = sym c.covered.ensures ∙ ap (option_map plain_below) c.in-Some.is in
    sym (ap (option_and_then held) (
    follow_at c.deref-shift-items.result.now c.self.inside.items.items c.args.self.now c.loop-shift.shift-index c.shift-item.result (map step_taken c.args.path.now) (Some w)
    c.deref-shift-items.ensures.value c.self.view_is c.loop-shift-test.true c.shift-item.is c.loop-shift.invariant takes
    ∙ ap (λ (t : Option Path). option_and_then (λ to. beyond to w.offset w.rest) t) c.in-None.is))

pub loop-shift-preserved : goal.loop-shift-preserved
loop-shift-preserved c =
    let passes : covered (plain_shift c.shift-item.result) (map step_taken c.args.path.now) ≡ None = sym c.in_default.ensures in
    c.loop-shift.invariant
    ∙ follow_next c.deref-shift-items.result.now c.loop-shift.shift-index c.shift-item.result (map step_taken c.args.path.now) None c.loop-shift-test.true c.shift-item.is passes
