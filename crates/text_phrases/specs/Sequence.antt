-- Phrases made of phrases.
use Rattle.std.specs.Prelude.{List, [], ◌∷◌, ◌++◌, Option, Some, None}
use Rattle.text_phrases.specs.Limits.{Limits, Keeps}
use Rattle.text_phrases.specs.Phrase.{Phrase}

-- these tokens and no others
abbrev pub exactly : {A : Type 0} → List A → Phrase A (Unit {0})
exactly words = record { Fits = λ _ _. Unit {0}; spell = λ _. words; Follows = λ _. Unit {0} }

-- one phrase and then another
abbrev pub then : {A T S : Type 0} → Phrase A T → Phrase A S → Phrase A (T × S)
then P Q = record {
  Fits = λ limits t. P.Fits limits t.0 × Q.Fits limits t.1;
  spell = λ t. P.spell t.0 ++ Q.spell t.1;
  Follows = Q.Follows;
}

abbrev pub AllFit : {A T : Type 0} → Phrase A T → Limits → List T → Type 0
AllFit P limits [] = Unit {0}
AllFit P limits (t ∷ ts) = P.Fits limits t × AllFit P limits ts

abbrev pub spell_all : {A T : Type 0} → Phrase A T → List T → List A
spell_all P [] = []
spell_all P (t ∷ ts) = P.spell t ++ spell_all P ts

-- any number of the phrase, before what ends them
abbrev pub many : {A T : Type 0} → Phrase A T → (Option A → Type 0) → Phrase A (List T)
many P ends = record { Fits = AllFit P; spell = spell_all P; Follows = ends }

-- as many of the phrase as are short together, where lengths count
abbrev pub several :
    {A T : Type 0} → Phrase A T → (List T → Type 0) → (Option A → Type 0) → Phrase A (List T)
several P Short ends = record {
  Fits = λ limits ts. AllFit P limits ts × Keeps limits (Unit {0}) (Short ts) (Unit {0});
  spell = spell_all P;
  Follows = ends;
}

-- the phrase or nothing, before what may stand behind it
abbrev pub MaybeFits : {A T : Type 0} → Phrase A T → Limits → Option T → Type 0
MaybeFits P limits None = Unit {0}
MaybeFits P limits (Some t) = P.Fits limits t

abbrev pub spell_maybe : {A T : Type 0} → Phrase A T → Option T → List A
spell_maybe P None = []
spell_maybe P (Some t) = P.spell t

abbrev pub maybe : {A T : Type 0} → Phrase A T → (Option A → Type 0) → Phrase A (Option T)
maybe P ends = record { Fits = MaybeFits P; spell = spell_maybe P; Follows = ends }

-- one token that carries a value, as a literal
abbrev pub carried : {A T : Type 0} → (T → A) → Phrase A T
carried token = record {
  Fits = λ _ _. Unit {0};
  spell = λ x. token x ∷ [];
  Follows = λ _. Unit {0};
}

-- one token that carries a value which is short where lengths count, as a name
abbrev pub carried_short : {A T : Type 0} → (T → A) → (T → Type 0) → Phrase A T
carried_short token Short = record {
  Fits = λ limits x. Keeps limits (Unit {0}) (Short x) (Unit {0});
  spell = λ x. token x ∷ [];
  Follows = λ _. Unit {0};
}

-- one token that carries a value which is small where sizes count, as a literal
abbrev pub carried_small : {A T : Type 0} → (T → A) → (T → Type 0) → Phrase A T
carried_small token Small = record {
  Fits = λ limits x. Keeps limits (Unit {0}) (Unit {0}) (Small x);
  spell = λ x. token x ∷ [];
  Follows = λ _. Unit {0};
}

-- one phrase and then another which depends on what the first one is, as where that takes up of a
-- limit
abbrev pub then_by :
    {A T S : Type 0} → Phrase A T → (T → Phrase A S) → (Option A → Type 0) → Phrase A (T × S)
then_by P Q ends = record {
  Fits = λ limits t. P.Fits limits t.0 × (Q t.0).Fits limits t.1;
  spell = λ t. P.spell t.0 ++ (Q t.0).spell t.1;
  Follows = ends;
}
