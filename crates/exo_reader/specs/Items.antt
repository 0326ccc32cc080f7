-- The grammar of what stands at the top level.
use Rattle.std.specs.Prelude.{◌≡◌, ℕ, ◌≤◌, List, [], ◌∷◌, ◌++◌, Option, Some, None, length}
use Rattle.text_phrases.specs.Limits.{Limits}
use Rattle.text_phrases.specs.Phrase.{Phrase}
use Rattle.text_phrases.specs.Sequence.{spell_all, exactly, then, carried, several, many}
use Rattle.text_expressions.specs.Values.{name, literal}
use Rattle.text_expressions.specs.Expression.{Tree, control}
use Rattle.text_lexer.specs.declared.token.Token.{Token}
use Rattle.text_lexer.specs.declared.token.Token.TheVariants.{Name, Str, Sign, Word, Decorator}
use Rattle.text_lexer.specs.declared.token.Token.TheVariants.{NewLine, Indent, Dedent}
use Rattle.text_lexer.specs.declared.token.Sign.TheVariants.{Open, Close, Colon, Assign}
use Rattle.text_lexer.specs.declared.token.Word.TheVariants as w
use Rattle.text_lexer.specs.declared.token.Decorator.TheVariants as d
use Rattle.exo_reader.specs.Source.{Definition, ConfigField, Setting, strings, int, yes, no}
use Rattle.exo_reader.specs.Source.{Attribute, Item, procedure, instruction, configuration, memory}
use Rattle.exo_reader.specs.Parts.{Is, IsNot, HasSome, some_of, type_name, parameters}
use Rattle.exo_reader.specs.Statements.{body}

-- strings one after another, as one
abbrev pub joined : List (List ℕ) → List ℕ
joined [] = []
joined (piece ∷ more) = piece ++ joined more

-- no string stands there
abbrev pub NoString : Option Token → Type 0
NoString (Some (Str x)) = ⊥
NoString other = Unit {0}

-- a string stands first
abbrev pub StartsWithString : List Token → Type 0
StartsWithString (Str x ∷ more) = Unit {0}
StartsWithString other = ⊥

-- neighbouring strings of at most 1,024 bytes together
abbrev pub FewBytes : List (List ℕ) → Type 0
FewBytes pieces = length (joined pieces) ≤ 1024

abbrev pub neighbours : Phrase Token (List (List ℕ))
neighbours =
    record {
      Fits = λ limits pieces.
          (several (carried Str) FewBytes NoString).Fits limits pieces × HasSome pieces;
      spell = spell_all (carried Str);
      Follows = NoString;
    }

-- the value of an attribute
abbrev pub SettingFits : Limits → Setting → Type 0
SettingFits limits (strings pieces) = neighbours.Fits limits pieces
SettingFits limits (int n) = literal.Fits limits n
SettingFits limits yes = Unit {0}
SettingFits limits no = Unit {0}

abbrev pub spell_setting : Setting → List Token
spell_setting (strings pieces) = neighbours.spell pieces
spell_setting (int n) = literal.spell n
spell_setting yes = Word w.True ∷ []
spell_setting no = Word w.False ∷ []

abbrev pub setting : Phrase Token Setting
setting = record { Fits = SettingFits; spell = spell_setting; Follows = NoString }

-- an attribute of a memory
abbrev pub attribute : Phrase Token Attribute
attribute =
    record {
      Fits = λ limits a. name.Fits limits a.name × setting.Fits limits a.value;
      spell = λ a. Name a.name ∷ Sign Assign ∷ (setting.spell a.value ++ (NewLine ∷ []));
      Follows = λ o. Unit {0};
    }

-- a field of a configuration
abbrev pub field : Phrase Token ConfigField
field =
    record {
      Fits = λ limits f. name.Fits limits f.name × type_name.Fits limits f.kind;
      spell = λ f. Name f.name ∷ Sign Colon ∷ (type_name.spell f.kind ++ (NewLine ∷ []));
      Follows = λ o. Unit {0};
    }

-- an assertion before the first statement
abbrev pub assertion : Phrase Token Tree
assertion =
    record {
      Fits = control.Fits;
      spell = λ e. Word w.Assert ∷ (control.spell e ++ (NewLine ∷ []));
      Follows = λ o. Unit {0};
    }

abbrev pub assertions : Phrase Token (List Tree)
assertions = many assertion (IsNot (Word w.Assert))

-- the name, the parameters, the assertions and the body, which is the first block
abbrev pub definition : Phrase Token Definition
definition =
    record {
      Fits = λ limits p.
          name.Fits limits p.name
          × parameters.Fits limits (p.params, p.trailing)
          × assertions.Fits limits p.asserts
          × (body 1).Fits limits (p.body, tt);
      spell = λ p.
          Word w.Def ∷ Name p.name ∷ Sign Open ∷ (parameters.spell (p.params, p.trailing)
          ++ (Sign Close ∷ Sign Colon ∷ NewLine ∷ Indent ∷ (assertions.spell p.asserts
          ++ (body 1).spell (p.body, tt))));
      Follows = λ o. Unit {0};
    }

-- the header of a class behind its decorator
abbrev pub class_header : Phrase Token (List ℕ)
class_header =
    record {
      Fits = name.Fits;
      spell = λ x. NewLine ∷ Word w.Class ∷ Name x ∷ Sign Colon ∷ NewLine ∷ Indent ∷ [];
      Follows = λ o. Unit {0};
    }

-- one field or more, or one attribute or more, and the end of their block
abbrev pub fields : Phrase Token (List ConfigField × (Unit {0}))
fields = then (some_of field (Is Dedent)) (exactly (Dedent ∷ []))

abbrev pub attributes : Phrase Token (List Attribute × (Unit {0}))
attributes = then (some_of attribute (Is Dedent)) (exactly (Dedent ∷ []))

abbrev pub ItemFits : Limits → Item → Type 0
ItemFits limits (procedure p) = definition.Fits limits p
ItemFits limits (instruction template p) =
    neighbours.Fits limits template × definition.Fits limits p
ItemFits limits (configuration x list) = class_header.Fits limits x × fields.Fits limits (list, tt)
ItemFits limits (memory x list) = class_header.Fits limits x × attributes.Fits limits (list, tt)

abbrev pub spell_item : Item → List Token
spell_item (procedure p) = Decorator d.Procedure ∷ NewLine ∷ definition.spell p
spell_item (instruction template p) =
    Decorator d.Instruction ∷ Sign Open ∷ (neighbours.spell template
    ++ (Sign Close ∷ NewLine ∷ definition.spell p))
spell_item (configuration x list) =
    Decorator d.Configuration ∷ (class_header.spell x ++ fields.spell (list, tt))
spell_item (memory x list) =
    Decorator d.MemoryClass ∷ (class_header.spell x ++ attributes.spell (list, tt))

abbrev pub item : Phrase Token Item
item = record { Fits = ItemFits; spell = spell_item; Follows = λ o. Unit {0} }

-- a unit: any number of items, to the end of the text
abbrev pub unit : Phrase Token (List Item)
unit = many item (λ o. o ≡ None)
