use Rattle.std.proofs.Common.{◌≡◌, ◌+◌, ◌-◌, ◌≤◌, ◌∙◌, map, Some, ap, sym, arith}
use Rattle.std.proofs.lemmas.List.{length-map}
use Rattle.std.specs.Prelude.{◌^◌, option_map, option_and_then}
use Rattle.exo_tree.specs.PlainPlace.{step_taken}
use Rattle.cursor_forward.specs.PlainShift.{plain_below}
use Rattle.cursor_forward.specs.Shifts.{below, held, Edits, edits_of, move_of}
use Rattle.cursor_forward.proofs.Following.{below_shorter, moved_far}
use Rattle.cursor_forward.proofs.edits.Edits.follow.Goals as goal

pub within-requires : goal.within-requires
within-requires c =
    let w = plain_below c.in-Some.below in
    let is : below (map step_taken c.as_slice.result.now) (map step_taken c.as_slice-2.result.now) ≡ Some w = sym c.way_below.ensures ∙ ap (option_map plain_below) c.in-Some.is in
    omega (arith, below_shorter (map step_taken c.as_slice.result.now) (map step_taken c.as_slice-2.result.now) w is, length-map c.as_slice-2.result.now step_taken, length-map c.in-Some.below.rest.now step_taken, c.as_slice-2.ensures.bound)

pub returns-in_err-checked_add : goal.returns-in_err-checked_add
returns-in_err-checked_add c =
    let w = plain_below c.in-Some.below in
    let e = edits_of c.self.inside.place c.self.inside.old c.self.inside.new c.self.inside.shifts in
    let is : below c.self.inside.place c.args.path.now ≡ Some w =
    (λ i. below (sym c.as_slice.ensures.value i) (sym c.as_slice-2.ensures.value i)) ∙ sym c.way_below.ensures ∙ ap (option_map plain_below) c.in-Some.is in
    let behind : c.self.inside.old ≤ c.in-Some.below.offset = omega (arith, c.if-offset-self.false) in
    let huge : 2 ^ 32 ≤ c.in-Some.below.offset - c.self.inside.old + c.self.inside.new = grind (arith, c.in_err-checked_add.ensures) in
    c.from_residual.ensures
    ∙ sym (ap (option_and_then held) (moved_far e c.args.path.now w is behind huge))
    ∙ ap (λ (x : Edits). option_and_then held (move_of x c.args.path.now)) c.self.view_is
