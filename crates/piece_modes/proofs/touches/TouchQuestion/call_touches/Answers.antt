use Rattle.std.proofs.Common.{option_map, ap, sym, ◌∙◌}
use Rattle.std.specs.Option.{option_copied}
use Rattle.exo_tree.specs.PlainProcedure.{procedure}
use Rattle.exo_tree.specs.PlainUnit.{program}
use Rattle.exo_meaning.specs.Run.{call_writes}
use Rattle.exo_modes.specs.Aliases.{roots_in}
use Rattle.piece_modes.specs.PlainMode.{plain_mode}
use Rattle.piece_modes.specs.Touching.{callee_modes}
use Rattle.piece_modes.proofs.Calls.{call_there, call_nowhere}
use Rattle.piece_modes.proofs.touches.TouchQuestion.call_touches.Goals as goal

pub returns-in-Some : goal.returns-in-Some
returns-in-Some c =
    let u = program c.args.self.now.unit.now in
    let m = plain_mode c.args.self.now.mode in
    let root = roots_in c.args.aliases.now in
    let y = c.args.self.now.buffer in
    let found = sym c.get.ensures ∙ ap (λ o. option_map procedure (option_copied o)) c.in-Some.is in
    c.are_passed.ensures
    ∙ (λ i. call_writes (callee_modes u c.args.k.0 m) root y (c.as_slice.ensures i) (c.as_slice-in-Some.ensures i))
    ∙ sym (call_there u m root c.args.k.0 c.args.args.now y (procedure c.in-Some.p.now) found)

pub returns-in-None : goal.returns-in-None
returns-in-None c =
    let u = program c.args.self.now.unit.now in
    let m = plain_mode c.args.self.now.mode in
    let none = sym c.get.ensures ∙ ap (λ o. option_map procedure (option_copied o)) c.in-None.is in
    sym (call_nowhere u m (roots_in c.args.aliases.now) c.args.k.0 c.args.args.now c.args.self.now.buffer none)
