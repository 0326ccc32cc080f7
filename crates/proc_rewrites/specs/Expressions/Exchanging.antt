-- What a walk in search of a match does.
use Rattle.std.specs.Prelude.{◌≡◌, ◌+◌, ◌<◌, ℕ, Bool, true, false}
use Rattle.exo_tree.specs.Tree.{Datum}
use Rattle.proc_laws.specs.Expression.Exchange.{Operation, matches, exchanged}

-- where a match is found behind the first k ones its sides are exchanged; else all are passed over
abbrev pub Exchanges : Operation → ℕ → Datum → Bool → ℕ → Datum → Type 0
Exchanges o k e true left new = (k < matches o e) × (new ≡ exchanged o e k)
Exchanges o k e false left new = (k ≡ matches o e + left) × (new ≡ e)
