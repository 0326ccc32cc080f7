use Rattle.std.proofs.Common.{◌∙◌, ap}
use Rattle.c_tree.specs.Names.Words as words
use Rattle.c_tree.proofs.names.globals.Globals.has.Goals as goal

pub returns : goal.returns
returns c =
    let x = c.args.x.now in
    c.has.ensures ∙ (λ i. c.self.invariant i x) ∙ ap (λ names. words.is_in names x) c.self.view_is
