use Rattle.std.proofs.Common.{◌≡◌, ◌∷◌, ◌∙◌, map, None, ap, sym}
use Rattle.std.specs.Prelude.{option_and_then}
use Rattle.exo_tree.specs.Places.{Main, Path}
use Rattle.exo_tree.specs.PlainPlace.{step_taken}
use Rattle.cursor_forward.specs.Shifts.{follow, held, Edits}
use Rattle.cursor_forward.proofs.Following.{lifted_none, held_is}
use Rattle.cursor_forward.proofs.edits.Edits.within.Goals as goal

pub returns-in_err-to : goal.returns-in_err-to
returns-in_err-to c =
    let first : Path = record { branch = Main; index = c.args.offset } ∷ map step_taken c.args.rest.now in
    let inner : map step_taken c.as_slice.result.now ≡ first = c.as_slice.ensures.value ∙ held_is first c.in_ok-inner.inner c.in_ok-inner.ensures in
    let none : option_and_then held (follow c.args.self.now.shifts first) ≡ None =
    ap (λ (p : Path). option_and_then held (follow c.args.self.now.shifts p)) (sym inner)
    ∙ ap (λ (e : Edits). option_and_then held (follow e.shifts (map step_taken c.as_slice.result.now))) (sym c.self.view_is)
    ∙ sym c.in_err-to.ensures in
    c.from_residual-in_err-to.ensures ∙ sym (lifted_none c.args.self.now.place (follow c.args.self.now.shifts first) none)
