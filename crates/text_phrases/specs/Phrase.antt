-- Phrases of a grammar: what is taken from the front of a text, and at which token it is refused.
use Rattle.std.specs.Prelude.{◌≡◌, ℕ, List, [], ◌∷◌, ◌++◌, Option, Some, None, length}
use Rattle.text_phrases.specs.Limits.{Limits, unlimited, in_depth, in_length, Cause, syntax}
use Rattle.text_phrases.specs.Limits.{too_deep, too_long, too_large, passed}

-- the token that stands first
abbrev pub first : {A : Type 0} → List A → Option A
first [] = None
first (a ∷ more) = Some a

-- a kind of phrase: which trees it has where some limits count, how each is spelled, and which
-- tokens may stand after one
pub record Phrase (A T : Type 0) : Type 1 where
  pub Fits : Limits → T → Type 0
  pub spell : T → List A
  pub Follows : Option A → Type 0

-- The tree is spelled at the front of the tokens and keeps all limits. It is the only one, among
-- those of any size too, if what follows may follow.
pub record Taken {A T : Type 0} (kind : Phrase A T) (tokens : List A) (tree : T)
    (rest : List A) : Type 0 where
  pub fits : (limits : Limits) → kind.Fits limits tree
  pub whole : tokens ≡ kind.spell tree ++ rest
  pub only :
      (limits : Limits) (other : T) (x y : List A)
      → first rest ≡ first x
      → kind.Fits limits other
      → kind.Follows (first y)
      → kind.spell tree ++ x ≡ kind.spell other ++ y
      → other ≡ tree

-- some tree of the kind that keeps all limits begins with these tokens
pub record Begins {A T : Type 0} (kind : Phrase A T) (before : List A) : Type 0 where
  pub tree : T
  pub more : List A
  pub fits : (limits : Limits) → kind.Fits limits tree
  pub spelled : before ++ more ≡ kind.spell tree

-- some tree that keeps these limits begins with the tokens and the next one
pub record GoesOn {A T : Type 0} (kind : Phrase A T) (limits : Limits)
    (before rest : List A) : Type 0 where
  pub tree : T
  pub token : A
  pub more : List A
  pub next : first rest ≡ Some token
  pub fits : kind.Fits limits tree
  pub spelled : before ++ (token ∷ more) ≡ kind.spell tree

-- a limit is the first one that the next token passes
abbrev pub Goes : {A T : Type 0} → Cause → Phrase A T → List A → List A → Type 0
Goes syntax kind before rest = Unit {0}
Goes too_deep kind before rest = GoesOn kind unlimited before rest
Goes too_long kind before rest = GoesOn kind in_depth before rest
Goes too_large kind before rest = GoesOn kind in_length before rest

-- A tree of the kind begins with the tokens up to the last ones, and none with the next one too:
-- none of any size where the cause is the syntax, and else none that keeps the limit and those
-- before it, but some that keeps those before it.
pub record Refused {A T : Type 0} (kind : Phrase A T) (cause : Cause) (tokens : List A)
    (last : ℕ) : Type 0 where
  pub before : List A
  pub rest : List A
  pub whole : tokens ≡ before ++ rest
  pub count : length rest ≡ last
  pub begins : Begins kind before
  pub goes : Goes cause kind before rest
  pub stuck :
      (other : T) (x y : List A)
      → first rest ≡ first x
      → kind.Fits (passed cause) other
      → kind.Follows (first y)
      → before ++ x ≡ kind.spell other ++ y
      → ⊥
