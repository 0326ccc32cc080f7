use Rattle.std.proofs.Common.{is_some, ap, sym, ◌∙◌}
use Rattle.exo_types.proofs.Added.{given_first, given_last}
use Rattle.exo_types.proofs.typed.UnitBuilder.is_given.Goals as goal

pub returns-then-is_some : goal.returns-then-is_some
returns-then-is_some c = given_first c.args.self.now c.args.name.now c.requires (ap is_some (sym c.get.ensures) ∙ sym c.is_some.ensures ∙ c.if-is_some.true)

pub returns : goal.returns
returns c =
    c.is_some-3.ensures
    ∙ ap is_some c.get-3.ensures
    ∙ given_last c.args.self.now c.args.name.now c.requires
    (ap is_some (sym c.get.ensures) ∙ sym c.is_some.ensures ∙ c.if-is_some.false)
    (ap is_some (sym c.get-2.ensures) ∙ sym c.is_some-2.ensures ∙ c.if-is_some-2.false)
