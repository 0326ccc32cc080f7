use Rattle.std.proofs.Common.{◌≡◌}
use Rattle.exo_tree.specs.Tree.{block}
use Rattle.exo_tree.specs.PlainProcedure.{procedure}
use Rattle.exo_tree.proofs.Edits.{if_ok}
use Rattle.tree_edits.specs.Made.Names as names
use Rattle.tree_edits.proofs.OfMade.Kept.{is_shared}
use Rattle.tree_edits.proofs.made.copies.named_copies.Goals as goal

pub returns-then-branch : goal.returns-then-branch
returns-then-branch c =
    let p = procedure c.args.p.now in
    let t = c.if-branch.true in
    if_ok (λ ss. ss ≡ c.args.b.now) (λ ss. block ss ≡ names.named_copies p c.args.copies (block c.args.b.now))
    (λ ss. is_shared p c.args.copies ss c.args.b.now (c.in_ok-are_old.ensures.below t) (c.in_ok-are_old.ensures.distinct t))
    c.duplicate.result c.duplicate.ensures
