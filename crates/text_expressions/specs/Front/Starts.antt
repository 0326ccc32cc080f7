-- A name that stands first, and why no item stands there, where there are as many as may be.
use Rattle.std.specs.Prelude.{◌≡◌, List, ◌∷◌, length}
use Rattle.text_phrases.specs.declared.Refusal.{Refusal}
use Rattle.text_phrases.specs.declared.Refusal.TheVariants.{TooLong, Syntax}
use Rattle.text_lexer.specs.declared.token.Token.{Token}
use Rattle.text_lexer.specs.declared.token.Token.TheVariants.{Name}

-- a name of any length stands first
abbrev pub StartsWithName : List Token → Type 0
StartsWithName (Name x ∷ more) = Unit {0}
StartsWithName other = ⊥

-- why no further item stands there, each of which begins with a name
abbrev pub RefusesItem : List Token → Refusal → Type 0
RefusesItem tokens (TooLong last) = StartsWithName tokens × (last ≡ length tokens)
RefusesItem tokens (Syntax last) = (StartsWithName tokens → ⊥) × (last ≡ length tokens)
RefusesItem tokens other = ⊥
