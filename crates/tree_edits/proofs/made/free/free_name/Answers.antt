use Rattle.std.proofs.Common.{◌≡◌, ◌∙◌, ◌+◌, length, sym, ap, subst, IfOk}
use Rattle.tree_edits.specs.Made.Names as names
use Rattle.tree_edits.specs.Made.Numbers.{set_before}
use Rattle.tree_edits.proofs.OfMade.Numbers.{least}
use Rattle.tree_edits.proofs.made.free.free_name.Goals as goal

pub returns : goal.returns
returns c =
    let taken = c.args.taken.now in
    let x = c.args.x.now in
    let marks = c.in_ok-marks.marks.items in
    let number : c.set_before-before.result + 1 ≡ names.first_free taken x (length taken) 1 =
    ap (λ n. n + 1) (c.set_before-before.ensures.count ∙ ap set_before c.as_slice.ensures.value)
    ∙ sym (least taken x marks c.in_ok-marks.ensures) in
    subst (λ j. IfOk c.numbered.result (λ n. n ≡ names.numbered x j)) number c.numbered.ensures
