-- Patterns of expressions.
use Rattle.std.proofs.Common.{◌≡◌, ℕ, List, [], ◌∷◌, ◌++◌, Some, None, refl, sym, ap, ◌∙◌}
use Rattle.text_phrases.specs.Limits.{Limits}
use Rattle.text_phrases.specs.Phrase.{first, Taken}
use Rattle.text_phrases.specs.Sequence.{exactly, maybe}
use Rattle.text_phrases.proofs.Eased.{tails}
use Rattle.text_phrases.proofs.Sequences.{Back, Step, step_maybe, taken_nothing, JointBy}
use Rattle.text_lexer.specs.declared.token.Token.{Token}
use Rattle.text_lexer.specs.declared.token.Token.TheVariants.{Sign}
use Rattle.text_lexer.specs.declared.token.Sign.TheVariants.{Any, OpenBracket, Plus, Minus, Times}
use Rattle.schedule_text.specs.Patterns.Grammar.{IsEnd, NameOrAny, name_or_any, index, After}
use Rattle.schedule_text.specs.Patterns.Grammar.{indexed, added, subtracted, multiplied}
use Rattle.schedule_text.specs.Patterns.Grammar.{spell_after, after_name}

abbrev first_of : After → Token
first_of indexed = Sign OpenBracket
first_of added = Sign Plus
first_of subtracted = Sign Minus
first_of multiplied = Sign Times

begins : (a : After) (y : List Token) → first (spell_after a ++ y) ≡ Some (first_of a)
begins indexed y = refl
begins added y = refl
begins subtracted y = refl
begins multiplied y = refl

-- operators

back_plus : (limits : Limits) (other : After) (x y : List Token) → Sign Plus ∷ x ≡ spell_after other ++ y → Back (exactly (Sign Any ∷ [])) (λ _. added) limits other x y
back_plus limits indexed x y equal = absurd (cc (equal))
back_plus limits added x y equal = record { tree = tt; fits = tt; is = refl; equal = tails equal; follows = tt }
back_plus limits subtracted x y equal = absurd (cc (equal))
back_plus limits multiplied x y equal = absurd (cc (equal))

pub step_plus : (tokens after : List Token) → tokens ≡ Sign Plus ∷ after → Step (after_name None) (exactly (Sign Any ∷ [])) (λ _. added) tokens after
step_plus tokens after whole = record {
  front = Sign Plus ∷ [];
  split = whole;
  fits = λ limits s fits. tt;
  spelled = λ s. refl;
  back = λ limits other x y same fits follows equal. back_plus limits other x y equal;
}

back_minus : (limits : Limits) (other : After) (x y : List Token) → Sign Minus ∷ x ≡ spell_after other ++ y → Back (exactly (Sign Any ∷ [])) (λ _. subtracted) limits other x y
back_minus limits indexed x y equal = absurd (cc (equal))
back_minus limits added x y equal = absurd (cc (equal))
back_minus limits subtracted x y equal = record { tree = tt; fits = tt; is = refl; equal = tails equal; follows = tt }
back_minus limits multiplied x y equal = absurd (cc (equal))

pub step_minus : (tokens after : List Token) → tokens ≡ Sign Minus ∷ after → Step (after_name None) (exactly (Sign Any ∷ [])) (λ _. subtracted) tokens after
step_minus tokens after whole = record {
  front = Sign Minus ∷ [];
  split = whole;
  fits = λ limits s fits. tt;
  spelled = λ s. refl;
  back = λ limits other x y same fits follows equal. back_minus limits other x y equal;
}

back_times : (limits : Limits) (other : After) (x y : List Token) → Sign Times ∷ x ≡ spell_after other ++ y → Back (exactly (Sign Any ∷ [])) (λ _. multiplied) limits other x y
back_times limits indexed x y equal = absurd (cc (equal))
back_times limits added x y equal = absurd (cc (equal))
back_times limits subtracted x y equal = absurd (cc (equal))
back_times limits multiplied x y equal = record { tree = tt; fits = tt; is = refl; equal = tails equal; follows = tt }

pub step_times : (tokens after : List Token) → tokens ≡ Sign Times ∷ after → Step (after_name None) (exactly (Sign Any ∷ [])) (λ _. multiplied) tokens after
step_times tokens after whole = record {
  front = Sign Times ∷ [];
  split = whole;
  fits = λ limits s fits. tt;
  spelled = λ s. refl;
  back = λ limits other x y same fits follows equal. back_times limits other x y equal;
}

-- an index

back_any_index : (limits : Limits) (tokens : List Token) (other : After) (x y : List Token) → (first tokens ≡ Some (Sign Plus) → ⊥) → (first tokens ≡ Some (Sign Minus) → ⊥) → (first tokens ≡ Some (Sign Times) → ⊥) → first tokens ≡ first x → x ≡ spell_after other ++ y → Back index (λ _. indexed) limits other x y
back_any_index limits tokens indexed x y no_plus no_minus no_times same equal = record { tree = tt; fits = tt; is = refl; equal = equal; follows = tt }
back_any_index limits tokens added x y no_plus no_minus no_times same equal = absurd (no_plus (same ∙ ap first equal))
back_any_index limits tokens subtracted x y no_plus no_minus no_times same equal = absurd (no_minus (same ∙ ap first equal))
back_any_index limits tokens multiplied x y no_plus no_minus no_times same equal = absurd (no_times (same ∙ ap first equal))

pub step_any_index : (tokens : List Token) → (first tokens ≡ Some (Sign Plus) → ⊥) → (first tokens ≡ Some (Sign Minus) → ⊥) → (first tokens ≡ Some (Sign Times) → ⊥) → Step (after_name None) index (λ _. indexed) tokens tokens
step_any_index tokens no_plus no_minus no_times = record {
  front = [];
  split = refl;
  fits = λ limits s fits. tt;
  spelled = λ s. refl;
  back = λ limits other x y same fits follows equal. back_any_index limits tokens other x y no_plus no_minus no_times same equal;
}

back_index : (limits : Limits) (n : List ℕ) (other : After) (x y : List Token) → (after_name (Some n)).Fits limits other → x ≡ spell_after other ++ y → Back index (λ _. indexed) limits other x y
back_index limits n indexed x y fits equal = record { tree = tt; fits = tt; is = refl; equal = equal; follows = tt }
back_index limits n added x y fits equal = absurd fits
back_index limits n subtracted x y fits equal = absurd fits
back_index limits n multiplied x y fits equal = absurd fits

pub step_index : (n : List ℕ) (tokens : List Token) → Step (after_name (Some n)) index (λ _. indexed) tokens tokens
step_index n tokens = record {
  front = [];
  split = refl;
  fits = λ limits s fits. tt;
  spelled = λ s. refl;
  back = λ limits other x y same fits follows equal. back_index limits n other x y fits equal;
}

-- nothing stands behind a name, or something does

no_after : (a : After) (y : List Token) → None ≡ first (spell_after a ++ y) → ⊥
no_after a y same = let e : None ≡ Some (first_of a) = same ∙ begins a y in cc (e)

pub taken_alone : (n : NameOrAny) (tokens : List Token) → tokens ≡ [] → Taken (maybe (after_name n) IsEnd) tokens None tokens
taken_alone n tokens empty = taken_nothing (after_name n) IsEnd tokens (λ limits a y fits same. no_after a y (sym (ap first empty) ∙ same))

pub step_some : (n : NameOrAny) (tokens more : List Token) (a : Token) → tokens ≡ a ∷ more → Step (maybe (after_name n) IsEnd) (after_name n) Some tokens tokens
step_some n tokens more a is = step_maybe (after_name n) IsEnd tokens (λ o ends. tt) (λ ends. let e : Some a ≡ None = sym (ap first is) ∙ ends in cc (e))

pub name_after : JointBy name_or_any (λ n. maybe (after_name n) IsEnd) IsEnd
name_after = record {
  may = λ limits n q y fits ends. tt;
  follows = λ n o ends. ends;
  some = None;
  fits = λ limits n fits. tt;
}
