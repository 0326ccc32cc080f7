use Rattle.std.proofs.Common.{ℕ, [], ◌∷◌, subst}
use Rattle.exo_tree.specs.Tree.{Control, Var, Le, Lt}
use Rattle.exo_tree.specs.PlainControl.{control}
use Rattle.meaning_laws.specs.Facts.{Holds}
use Rattle.meaning_laws.specs.KnownFields.{KnownFields}
use Rattle.meaning_laws.specs.PlaceFacts.{PlaceFact}
use Rattle.check_facts.specs.Walks.{Added}
use Rattle.check_facts.proofs.Adding.{Came, added_more}
use Rattle.check_facts.proofs.enter.add_bounds.Goals as goal

-- the fact of the lower bound, and that of the upper one
abbrev low_fact : ℕ → KnownFields → Control → PlaceFact
low_fact i first e = record { known = first; fact = Holds (Le e (Var i)) }

abbrev high_fact : ℕ → KnownFields → Control → PlaceFact
high_fact i first e = record { known = first; fact = Holds (Lt (Var i) e) }

pub returns : goal.returns
returns c = λ first h.
    let g = c.args.basis.now in
    let low = low_fact c.args.i.0 first in
    let high = high_fact c.args.i.0 first in
    let middle = c.add_at_most.new.context in
    added_more c.add_made.result g (low (control c.args.lo.now) ∷ []) (high (control c.args.hi.now) ∷ []) c.args.context.now middle c.add_made.new.context
    (subst (λ e. Came g (low e ∷ []) c.args.context.now middle) c.in_ok-low.ensures (c.in_ok-add_at_most.ensures first h))
    (subst (λ e. Added c.add_made.result g (high e ∷ []) middle c.add_made.new.context) c.in_ok-high.ensures (c.add_made.ensures first h))
