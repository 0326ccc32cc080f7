-- The grammar of parameters, and of the parts of them that statements have too.
use Rattle.std.specs.Prelude.{◌≡◌, ℕ, ◌<◌, List, [], ◌∷◌, ◌++◌, Option, Some, Bool, true, false}
use Rattle.std.specs.Prelude.{length}
use Rattle.text_phrases.specs.Limits.{Limits}
use Rattle.text_phrases.specs.Phrase.{Phrase}
use Rattle.text_phrases.specs.Sequence.{AllFit, spell_all, maybe}
use Rattle.text_phrases.specs.Commas.{spell_more, commas}
use Rattle.text_expressions.specs.Values.{name}
use Rattle.text_expressions.specs.Expression.{Tree, FollowsOperand, indices, most_depth}
use Rattle.text_lexer.specs.declared.token.Token.{Token}
use Rattle.text_lexer.specs.declared.token.Token.TheVariants as t
use Rattle.text_lexer.specs.declared.token.Sign.TheVariants.{OpenBracket, CloseBracket, Close}
use Rattle.text_lexer.specs.declared.token.Sign.TheVariants.{Comma, Colon, At}
use Rattle.text_lexer.specs.declared.token.Word.TheVariants as w
use Rattle.exo_reader.specs.Source.{TypeName, stride, named, Form, plain, strided, Parameter}

-- some token, but not this one, or the end
abbrev pub IsNot : Token → Option Token → Type 0
IsNot token o = o ≡ Some token → ⊥

abbrev pub Is : Token → Option Token → Type 0
Is token o = o ≡ Some token

-- the first of these tokens ends every expression before it
abbrev pub ClosesFirst : List Token → Type 0
ClosesFirst [] = ⊥
ClosesFirst (token ∷ more) = FollowsOperand 0 (Some token)

abbrev pub HasSome : {A : Type 0} → List A → Type 0
HasSome [] = ⊥
HasSome (a ∷ more) = Unit {0}

-- one or more of a phrase, before what ends them
abbrev pub some_of : {T : Type 0} → Phrase Token T → (Option Token → Type 0) → Phrase Token (List T)
some_of P ends = record {
  Fits = λ limits list. AllFit P limits list × HasSome list;
  spell = spell_all P;
  Follows = ends;
}

-- What stands between parentheses: nothing, or items with commas between them and maybe a comma
-- behind the last one. Those behind the first are short together where lengths count.
abbrev pub EnclosedFit :
    {T : Type 0} → Phrase Token T → (List T → Type 0) → Limits → List T → Bool → Type 0
EnclosedFit P Short limits [] true = ⊥
EnclosedFit P Short limits [] false = Unit {0}
EnclosedFit P Short limits (a ∷ more) trailing =
    P.Fits limits a
    × (commas P (t.Sign Comma) Short (Is (t.Sign Close))).Fits limits (more, trailing)

abbrev pub spell_enclosed : {T : Type 0} → Phrase Token T → List T → Bool → List Token
spell_enclosed P [] trailing = []
spell_enclosed P (a ∷ more) trailing = P.spell a ++ spell_more P (t.Sign Comma) more trailing

abbrev pub enclosed :
    {T : Type 0} → Phrase Token T → (List T → Type 0) → Phrase Token (List T × Bool)
enclosed P Short = record {
  Fits = λ limits l. EnclosedFit P Short limits l.0 l.1;
  spell = λ l. spell_enclosed P l.0 l.1;
  Follows = Is (t.Sign Close);
}

-- dimensions or indices between brackets
abbrev pub dims : Phrase Token (List Tree)
dims =
    record {
      Fits = (indices most_depth).Fits;
      spell =
          λ ds. t.Sign OpenBracket ∷ ((indices most_depth).spell ds ++ (t.Sign CloseBracket ∷ []));
      Follows = λ o. Unit {0};
    }

-- dimensions or indices between brackets, or nothing
abbrev pub MaybeDimsFit : Limits → List Tree → Type 0
MaybeDimsFit limits [] = Unit {0}
MaybeDimsFit limits (d ∷ more) = dims.Fits limits (d ∷ more)

abbrev pub spell_maybe_dims : List Tree → List Token
spell_maybe_dims [] = []
spell_maybe_dims (d ∷ more) = dims.spell (d ∷ more)

abbrev pub maybe_dims : Phrase Token (List Tree)
maybe_dims = record {
  Fits = MaybeDimsFit;
  spell = spell_maybe_dims;
  Follows = IsNot (t.Sign OpenBracket);
}

-- the word `stride`, or a name
abbrev pub TypeNameFits : Limits → TypeName → Type 0
TypeNameFits limits stride = Unit {0}
TypeNameFits limits (named x) = name.Fits limits x

abbrev pub spell_type_name : TypeName → List Token
spell_type_name stride = t.Word w.Stride ∷ []
spell_type_name (named x) = t.Name x ∷ []

abbrev pub type_name : Phrase Token TypeName
type_name = record { Fits = TypeNameFits; spell = spell_type_name; Follows = λ o. Unit {0} }

-- `@` and the name of a memory, or nothing
abbrev pub memory : Phrase Token (List ℕ)
memory = record {
  Fits = name.Fits;
  spell = λ x. t.Sign At ∷ t.Name x ∷ [];
  Follows = λ o. Unit {0};
}

-- what may stand behind a parameter, or behind the type of an allocation
abbrev pub FollowsMemory : Option Token → Type 0
FollowsMemory (Some (t.Sign Comma)) = Unit {0}
FollowsMemory (Some (t.Sign Close)) = Unit {0}
FollowsMemory (Some t.NewLine) = Unit {0}
FollowsMemory other = ⊥

abbrev pub maybe_memory : Phrase Token (Option (List ℕ))
maybe_memory = maybe memory FollowsMemory

-- the type of a parameter
abbrev pub FormFits : Limits → Form → Type 0
FormFits limits (plain kind ds) = type_name.Fits limits kind × maybe_dims.Fits limits ds
FormFits limits (strided kind ds) = type_name.Fits limits kind × dims.Fits limits ds

abbrev pub spell_form : Form → List Token
spell_form (plain kind ds) = type_name.spell kind ++ maybe_dims.spell ds
spell_form (strided kind ds) =
    t.Sign OpenBracket ∷ (type_name.spell kind ++ (t.Sign CloseBracket ∷ dims.spell ds))

abbrev pub form : Phrase Token Form
form = record { Fits = FormFits; spell = spell_form; Follows = IsNot (t.Sign OpenBracket) }

-- a parameter
abbrev pub parameter : Phrase Token Parameter
parameter =
    record {
      Fits = λ limits p.
          name.Fits limits p.name × form.Fits limits p.form × maybe_memory.Fits limits p.memory;
      spell =
          λ p. t.Name p.name ∷ t.Sign Colon ∷ (form.spell p.form ++ maybe_memory.spell p.memory);
      Follows = FollowsMemory;
    }

-- at most 32 parameters
abbrev pub FewParameters : List Parameter → Type 0
FewParameters more = length more < 32

abbrev pub parameters : Phrase Token (List Parameter × Bool)
parameters = enclosed parameter FewParameters
