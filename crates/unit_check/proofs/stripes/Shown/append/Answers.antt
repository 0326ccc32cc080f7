use Rattle.unit_check.proofs.Striped.{both_shown}
use Rattle.unit_check.proofs.stripes.Shown.append.Goals as goal

pub returns : goal.returns
returns c = λ u p n k d h g some.
    both_shown u p n k d c.args.self.now c.args.other
    (record { stripe = c.append.new.self; showing = c.append-2.new.self })
    h g some (c.in_ok-append.ensures.goes u p h.stripe g.stripe) c.append-2.ensures
