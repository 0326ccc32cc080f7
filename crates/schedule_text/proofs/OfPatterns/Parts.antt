-- Names or `_`, and changes.
use Rattle.std.proofs.Common.{◌≡◌, List, [], ◌∷◌, ◌++◌, Some, None, Bool, true, false, refl, ap, ◌∙◌}
use Rattle.text_phrases.specs.Limits.{Limits}
use Rattle.text_phrases.specs.Phrase.{first, Taken}
use Rattle.text_phrases.specs.Sequence.{exactly}
use Rattle.text_phrases.proofs.Eased.{tails}
use Rattle.text_phrases.proofs.Sequences.{Back, Step}
use Rattle.text_phrases.proofs.Joints.{Joint}
use Rattle.text_lexer.specs.declared.token.Token.{Token}
use Rattle.text_lexer.specs.declared.token.Token.TheVariants.{Sign}
use Rattle.text_lexer.specs.declared.token.Sign.TheVariants.{Any, Assign, Reduce}
use Rattle.text_expressions.specs.Values.{name}
use Rattle.schedule_text.specs.Patterns.Grammar.{NameOrAny, spell_name, name_or_any, spell_change}
use Rattle.schedule_text.specs.Patterns.Grammar.{change}

any_only : (other : NameOrAny) (x y : List Token) → Sign Any ∷ x ≡ spell_name other ++ y → other ≡ None
any_only None x y equal = refl
any_only (Some n) x y equal = absurd (cc (equal))

pub taken_any : (tokens rest : List Token) → tokens ≡ Sign Any ∷ rest → Taken name_or_any tokens None rest
taken_any tokens rest whole = record { fits = λ limits. tt; whole = whole; only = λ limits other x y same fits follows equal. any_only other x y equal }

back_name : (limits : Limits) (tokens : List Token) (other : NameOrAny) (x y : List Token) → (first tokens ≡ Some (Sign Any) → ⊥) → first tokens ≡ first x → name_or_any.Fits limits other → x ≡ spell_name other ++ y → Back name Some limits other x y
back_name limits tokens None x y none same fits equal = absurd (none (same ∙ ap first equal))
back_name limits tokens (Some n) x y none same fits equal = record { tree = n; fits = fits; is = refl; equal = equal; follows = tt }

pub step_name : (tokens : List Token) → (first tokens ≡ Some (Sign Any) → ⊥) → Step name_or_any name Some tokens tokens
step_name tokens none = record {
  front = [];
  split = refl;
  fits = λ limits x fits. fits;
  spelled = λ x. refl;
  back = λ limits other x y same fits follows equal. back_name limits tokens other x y none same fits equal;
}

pub name_words : (words : List Token) → Joint name_or_any (exactly words)
name_words words = record { may = record { may = λ limits q y fits follows. tt }; some = tt; fits = λ limits. tt }

back_reduce : (limits : Limits) (other : Bool) (x y : List Token) → Sign Reduce ∷ x ≡ spell_change other ++ y → Back (exactly (Sign Any ∷ [])) (λ _. true) limits other x y
back_reduce limits false x y equal = absurd (cc (equal))
back_reduce limits true x y equal = record { tree = tt; fits = tt; is = refl; equal = tails equal; follows = tt }

pub step_reduce : (tokens after : List Token) → tokens ≡ Sign Reduce ∷ after → Step change (exactly (Sign Any ∷ [])) (λ _. true) tokens after
step_reduce tokens after whole = record {
  front = Sign Reduce ∷ [];
  split = whole;
  fits = λ limits s fits. tt;
  spelled = λ s. refl;
  back = λ limits other x y same fits follows equal. back_reduce limits other x y equal;
}

back_assign : (limits : Limits) (tokens : List Token) (other : Bool) (x y : List Token) → (first tokens ≡ Some (Sign Reduce) → ⊥) → first tokens ≡ first x → x ≡ spell_change other ++ y → Back (exactly (Sign Assign ∷ Sign Any ∷ [])) (λ _. false) limits other x y
back_assign limits tokens false x y none same equal = record { tree = tt; fits = tt; is = refl; equal = equal; follows = tt }
back_assign limits tokens true x y none same equal = absurd (none (same ∙ ap first equal))

pub step_assign : (tokens : List Token) → (first tokens ≡ Some (Sign Reduce) → ⊥) → Step change (exactly (Sign Assign ∷ Sign Any ∷ [])) (λ _. false) tokens tokens
step_assign tokens none = record {
  front = [];
  split = refl;
  fits = λ limits s fits. tt;
  spelled = λ s. refl;
  back = λ limits other x y same fits follows equal. back_assign limits tokens other x y none same equal;
}
