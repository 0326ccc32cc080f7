-- What the program's loops and branches round an access say.
use Rattle.std.specs.Prelude.{ℕ, List, [], ◌∷◌, flat_map}
use Rattle.exo_tree.specs.Tree.{Control, Var, Le, Lt}
use Rattle.exo_tree.specs.PlainControl.{control, condition}
use Rattle.meaning_laws.specs.Facts.{Fact, Holds, Fails}
use Rattle.exo_effects.specs.declared.guards.Guard.{Guard}
use Rattle.exo_effects.specs.declared.guards.Guard.TheVariants as guard

abbrev pub facts_of_loop : ℕ → Control → Control → List Fact
facts_of_loop i lo hi = Holds (Le lo (Var i)) ∷ Holds (Lt (Var i) hi) ∷ []

abbrev pub facts_of : Guard → List Fact
facts_of (guard.Loop i lo hi) = facts_of_loop i.0 (control lo.now) (control hi.now)
facts_of (guard.Holds c) = Holds (condition c.now) ∷ []
facts_of (guard.Fails c) = Fails (condition c.now) ∷ []

abbrev pub all_facts : List Guard → List Fact
all_facts guards = flat_map facts_of guards
