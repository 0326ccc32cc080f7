-- Whole texts: what a public reader promises.
use Rattle.std.specs.Prelude.{◌≡◌, ℕ, List, ◌++◌, length}
use Rattle.text_phrases.specs.Limits.{Limits, Cause, syntax, too_deep, too_long, too_large, passed}
use Rattle.text_phrases.specs.Phrase.{first, Phrase, Begins, Goes}
use Rattle.text_phrases.specs.declared.Refusal.{Refusal}
use Rattle.text_phrases.specs.declared.Refusal.TheVariants.{Memory, Syntax, TooDeep, TooLong, TooLarge}

-- The tokens are one text of the kind, with this tree, which keeps all limits, and with no other of any size.
pub record IsText {A T : Type 0} (kind : Phrase A T) (tokens : List A) (tree : T) : Type 0 where
  pub fits : (limits : Limits) → kind.Fits limits tree
  pub spelled : tokens ≡ kind.spell tree
  pub only : (limits : Limits) (other : T) → kind.Fits limits other → tokens ≡ kind.spell other → other ≡ tree

-- Before the last tokens some text of the kind begins so, and none with the first of them too: none of any size where the
-- cause is the syntax, and else none that keeps the limit and those before it, but some that keeps those before it.
pub record FaultAt {A T : Type 0} (kind : Phrase A T) (cause : Cause) (tokens : List A) (last : ℕ) : Type 0 where
  pub before : List A
  pub rest : List A
  pub whole : tokens ≡ before ++ rest
  pub count : length rest ≡ last
  pub begins : Begins kind before
  pub goes : Goes cause kind before rest
  pub none
      : (other : T) (more : List A)
      → kind.Fits (passed cause) other
      → first rest ≡ first more
      → before ++ more ≡ kind.spell other
      → ⊥

abbrev pub Faults : {A T : Type 0} → Phrase A T → List A → Refusal → Type 0
Faults kind tokens Memory = Unit {0}
Faults kind tokens (Syntax last) = FaultAt kind syntax tokens last
Faults kind tokens (TooDeep last) = FaultAt kind too_deep tokens last
Faults kind tokens (TooLong last) = FaultAt kind too_long tokens last
Faults kind tokens (TooLarge last) = FaultAt kind too_large tokens last
