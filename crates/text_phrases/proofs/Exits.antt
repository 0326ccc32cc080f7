-- The returns of the functions that read.
use Rattle.std.proofs.Common.{◌≡◌, ℕ, List, Result, Ok, Err, sym, subst}
use Rattle.std.specs.Result.{IsErrAnd}
use Rattle.text_phrases.specs.Limits.{Cause, syntax, too_deep, too_long, too_large}
use Rattle.text_phrases.specs.Phrase.{Phrase, Refused}
use Rattle.text_phrases.specs.Answers.{Reads, Refuses}
use Rattle.text_phrases.specs.declared.Refusal.{Refusal}
use Rattle.text_phrases.specs.declared.Refusal.TheVariants.{Memory, Syntax, TooDeep, TooLong, TooLarge}

-- what a `?` returns
pub exit : {A T X : Type 0} (kind : Phrase A T) (tokens : List A) (tree : X → T) (rest : X → List A) (result : Result X Refusal) (e : Refusal) → IsErrAnd result (λ r. r ≡ e) → Refuses kind tokens e → Reads kind tokens tree rest result
exit kind tokens tree rest (Ok x) e is refuses = absurd is
exit kind tokens tree rest (Err r) e is refuses = subst (Refuses kind tokens) (sym is) refuses

-- a part that is refused refuses the whole
pub refuses_along : {A T B U : Type 0} (part : Phrase A T) (after : List A) (whole : Phrase B U) (tokens : List B) (e : Refusal) → ((cause : Cause) (last : ℕ) → Refused part cause after last → Refused whole cause tokens last) → Refuses part after e → Refuses whole tokens e
refuses_along part after whole tokens Memory along refuses = tt
refuses_along part after whole tokens (Syntax last) along refuses = along syntax last refuses
refuses_along part after whole tokens (TooDeep last) along refuses = along too_deep last refuses
refuses_along part after whole tokens (TooLong last) along refuses = along too_long last refuses
refuses_along part after whole tokens (TooLarge last) along refuses = along too_large last refuses
