-- What the functions that read promise.
use Rattle.std.specs.Prelude.{List, Result, MatchResult}
use Rattle.text_phrases.specs.Limits.{syntax, too_deep, too_long, too_large}
use Rattle.text_phrases.specs.Phrase.{Phrase, Taken, Refused}
use Rattle.text_phrases.specs.declared.Refusal.{Refusal}
use Rattle.text_phrases.specs.declared.Refusal.TheVariants.{Memory, Syntax, TooDeep, TooLong, TooLarge}

-- a refusal holds exactly how many tokens are left, but for want of memory
abbrev pub Refuses : {A T : Type 0} → Phrase A T → List A → Refusal → Type 0
Refuses kind tokens Memory = Unit {0}
Refuses kind tokens (Syntax last) = Refused kind syntax tokens last
Refuses kind tokens (TooDeep last) = Refused kind too_deep tokens last
Refuses kind tokens (TooLong last) = Refused kind too_long tokens last
Refuses kind tokens (TooLarge last) = Refused kind too_large tokens last

-- exactly the phrase at the front of the tokens, or exactly the token at which none goes on
abbrev pub Reads : {A T X : Type 0} → Phrase A T → List A → (X → T) → (X → List A) → Result X Refusal → Type 0
Reads kind tokens tree rest result = MatchResult result (λ x. Taken kind tokens (tree x) (rest x)) (λ e. Refuses kind tokens e)
