-- Parts of parameters and statements.
use Rattle.std.proofs.Common.{◌≡◌, ℕ, ◌≤◌, List, [], ◌∷◌, ◌++◌, Option, Some, None, length, refl, ap, ◌∙◌, arith, ◌⊎◌, inl, inr}
use Rattle.text_phrases.specs.Limits.{Limits}
use Rattle.text_phrases.specs.Phrase.{first, Phrase, Taken}
use Rattle.text_phrases.specs.Sequence.{exactly, then}
use Rattle.text_phrases.proofs.Phrases.{keeps_all}
use Rattle.text_phrases.proofs.Sequences.{Back, Step, step_step, step_maybe, taken_nothing}
use Rattle.text_phrases.proofs.Joints.{Joint}
use Rattle.text_expressions.specs.Values.{name}
use Rattle.text_expressions.specs.Expression.{Tree, number, FollowsOperand, control, datum, indices, most_depth}
use Rattle.text_lexer.specs.declared.token.Literal.TheVariants.{Value}
use Rattle.text_lexer.specs.declared.token.Token.{Token}
use Rattle.text_lexer.specs.declared.token.Token.TheVariants.{Name, Sign, Word}
use Rattle.text_lexer.specs.declared.token.Sign.TheVariants.{OpenBracket, CloseBracket, At}
use Rattle.text_lexer.specs.declared.token.Word.TheVariants as w
use Rattle.exo_reader.specs.Source.{TypeName, stride, named}
use Rattle.exo_reader.specs.Parts.{ClosesFirst, dims, maybe_dims, type_name, memory, FollowsMemory, maybe_memory}
use Rattle.exo_reader.proofs.Optional.{Alike, Optional}

-- trees that keep all limits

pub name_fits : (limits : Limits) (x : List ℕ) → length x ≤ 63 → name.Fits limits x
name_fits limits x short = keeps_all limits tt short tt

pub no_name : (limits : Limits) → name.Fits limits []
no_name limits = name_fits limits [] (omega arith)

abbrev pub zero : Tree
zero = number (Value 0)

pub control_zero : (limits : Limits) → control.Fits limits zero
control_zero limits = (tt, keeps_all limits (omega arith) (omega arith, tt) tt)

pub datum_zero : (limits : Limits) → datum.Fits limits zero
datum_zero limits = (tt, keeps_all limits (omega arith) (omega arith, tt) tt)

pub dims_zero : (limits : Limits) → dims.Fits limits (zero ∷ [])
dims_zero limits = (control_zero limits, tt, keeps_all limits tt (omega arith) tt)

-- a phrase and tokens behind it

pub words_behind : {T : Type 0} {P : Phrase Token T} → ((o : Option Token) → P.Follows o) → (words : List Token) → Joint P (exactly words)
words_behind always words = record { may = record { may = λ limits q y fits follows. always _ }; some = tt; fits = λ limits. tt }

pub name_words : (words : List Token) → Joint name (exactly words)
name_words words = record { may = record { may = λ limits q y fits follows. tt }; some = tt; fits = λ limits. tt }

closes_first : (words y : List Token) → ClosesFirst words → FollowsOperand 0 (first (words ++ y))
closes_first [] y closes = absurd closes
closes_first (word ∷ words) y closes = closes

pub control_words : (words : List Token) → ClosesFirst words → Joint control (exactly words)
control_words words closes = record { may = record { may = λ limits q y fits follows. closes_first words y closes }; some = tt; fits = λ limits. tt }

pub datum_words : (words : List Token) → ClosesFirst words → Joint datum (exactly words)
datum_words words closes = record { may = record { may = λ limits q y fits follows. closes_first words y closes }; some = tt; fits = λ limits. tt }

-- the word `stride`, or a name

stride_only : (other : TypeName) (x y : List Token) → Word w.Stride ∷ x ≡ type_name.spell other ++ y → other ≡ stride
stride_only stride x y equal = refl
stride_only (named n) x y equal = absurd (let e : Word w.Stride ≡ Name n = cc in cc)

pub taken_stride : (tokens rest : List Token) → tokens ≡ Word w.Stride ∷ rest → Taken type_name tokens stride rest
taken_stride tokens rest whole = record { fits = λ limits. tt; whole = whole; only = λ limits other x y same fits follows equal. stride_only other x y equal }

back_named : (limits : Limits) (tokens : List Token) (other : TypeName) (x y : List Token) → (first tokens ≡ Some (Word w.Stride) → ⊥) → first tokens ≡ first x → type_name.Fits limits other → x ≡ type_name.spell other ++ y → Back name named limits other x y
back_named limits tokens stride x y none same fits equal = absurd (none (same ∙ ap first equal))
back_named limits tokens (named n) x y none same fits equal = record { tree = n; fits = fits; is = refl; equal = equal; follows = tt }

pub step_named : (tokens : List Token) → (first tokens ≡ Some (Word w.Stride) → ⊥) → Step type_name name named tokens tokens
step_named tokens none = record {
  front = [];
  split = refl;
  fits = λ limits x fits. fits;
  spelled = λ x. refl;
  back = λ limits other x y same fits follows equal. back_named limits tokens other x y none same fits equal;
}

-- dimensions between brackets

abbrev pub Dims2 : Phrase Token (List Tree × (Unit {0}))
Dims2 = then (indices most_depth) (exactly (Sign CloseBracket ∷ []))

abbrev pub Dims1 : Phrase Token ((Unit {0}) × (List Tree × (Unit {0})))
Dims1 = then (exactly (Sign OpenBracket ∷ [])) Dims2

pub step_dims : (tokens : List Token) → Step dims Dims1 (λ p. p.1.0) tokens tokens
step_dims tokens = record {
  front = [];
  split = refl;
  fits = λ limits p fits. fits.1.0;
  spelled = λ p. refl;
  back = λ limits other x y same fits follows equal. record { tree = (tt, (other, tt)); fits = (tt, (fits, tt)); is = refl; equal = equal; follows = tt };
}

pub dims1 : Joint (exactly (Sign OpenBracket ∷ [])) Dims2
dims1 = record { may = record { may = λ limits q y fits follows. tt }; some = (zero ∷ [], tt); fits = λ limits. (dims_zero limits, tt) }

pub dims2 : Joint (indices most_depth) (exactly (Sign CloseBracket ∷ []))
dims2 = record { may = record { may = λ limits q y fits follows. refl }; some = tt; fits = λ limits. tt }

-- dimensions, or nothing

dims_begin : (limits : Limits) (ds : List Tree) (y : List Token) → dims.Fits limits ds → first (dims.spell ds ++ y) ≡ Some (Sign OpenBracket)
dims_begin limits ds y fits = refl

some_dims : (limits : Limits) (ds : List Tree) → dims.Fits limits ds → Alike dims maybe_dims limits ds
some_dims limits [] fits = absurd fits
some_dims limits (d ∷ more) fits = record { part = fits; whole = fits; spelled = refl }

other_dims : (limits : Limits) (ds : List Tree) → maybe_dims.Fits limits ds → (ds ≡ []) ⊎ Alike dims maybe_dims limits ds
other_dims limits [] fits = inl refl
other_dims limits (d ∷ more) fits = inr (record { part = fits; whole = fits; spelled = refl })

pub optional_dims : Optional (Sign OpenBracket) dims maybe_dims
optional_dims = record {
  begins = dims_begin;
  some = some_dims;
  other = other_dims;
  none = λ limits. tt;
  nothing = refl;
  ends = λ o follows. follows;
  always = λ o. tt;
}

-- a memory, or nothing

pub taken_no_memory : (tokens : List Token) → (first tokens ≡ Some (Sign At) → ⊥) → Taken maybe_memory tokens None tokens
taken_no_memory tokens none = taken_nothing memory FollowsMemory tokens (λ limits m y fits same. none same)

step_memory : (after : List Token) → Step memory name (λ x. x) (Sign At ∷ after) after
step_memory after = record {
  front = Sign At ∷ [];
  split = refl;
  fits = λ limits x fits. fits;
  spelled = λ x. refl;
  back = λ limits other x y same fits follows equal.
      record { tree = other; fits = fits; is = refl; equal = (let e : x ≡ name.spell other ++ y = cc in e); follows = tt };
}

pub step_some_memory : (after : List Token) → Step maybe_memory name Some (Sign At ∷ after) after
step_some_memory after =
    step_step maybe_memory memory name Some (λ x. x) (Sign At ∷ after) (Sign At ∷ after) after
    (step_maybe memory FollowsMemory (Sign At ∷ after) (λ o ends. tt) (λ ends. ends)) (step_memory after)
