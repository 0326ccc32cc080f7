-- The productions of the top level.
use Rattle.std.proofs.Common.{◌≡◌, ℕ, ◌<◌, ◌≤◌, List, [], ◌∷◌, ◌++◌, Option, Some, None, Bool, false, length, refl, sym, ap, ◌∙◌, append_assoc, subst, arith}
use Rattle.std.proofs.lemmas.List.{length-append}
use Rattle.text_phrases.specs.Limits.{Limits, syntax}
use Rattle.text_phrases.specs.Phrase.{first, Phrase, Taken, Refused}
use Rattle.text_phrases.specs.Sequence.{exactly, then, spell_all}
use Rattle.text_phrases.proofs.Sequences.{Back, Step, Apart}
use Rattle.text_phrases.proofs.Joints.{Joint}
use Rattle.text_expressions.specs.Values.{name, literal}
use Rattle.text_expressions.specs.Expression.{Tree, control}
use Rattle.text_lexer.specs.declared.token.Token.{Token}
use Rattle.text_lexer.specs.declared.token.Token.TheVariants.{Name, Int, Str, Sign, Word, Decorator, NewLine, Indent, Dedent}
use Rattle.text_lexer.specs.declared.token.Sign.TheVariants.{Open, Close, Colon, Assign}
use Rattle.text_lexer.specs.declared.token.Word.TheVariants as w
use Rattle.text_lexer.specs.declared.token.Decorator.TheVariants as d
use Rattle.exo_reader.specs.Source.{TypeName, stride, Parameter, Statement, pass, Definition, ConfigField, Setting, strings, int, yes, no, Attribute, Item, procedure, instruction, configuration, memory}
use Rattle.exo_reader.specs.Parts.{Is, IsNot, some_of, type_name, parameters}
use Rattle.exo_reader.specs.Statements.{spelling, statement, body}
use Rattle.exo_reader.specs.Items.{NoString, neighbours, setting, attribute, field, assertion, assertions, definition, class_header, fields, attributes, item, StartsWithString}
use Rattle.exo_reader.proofs.Parts.{no_name}
use Rattle.exo_reader.proofs.Statements.{StartsStatement, starts_statement}
use Rattle.exo_reader.proofs.Neighbours.{one_string}

-- trees that keep all limits

abbrev pub some_field : ConfigField
some_field = record { name = []; kind = stride }

field_fits : (limits : Limits) → field.Fits limits some_field
field_fits limits = (no_name limits, tt)

abbrev pub some_attribute : Attribute
some_attribute = record { name = []; value = yes }

attribute_fits : (limits : Limits) → attribute.Fits limits some_attribute
attribute_fits limits = (no_name limits, tt)

abbrev pub some_definition : Definition
some_definition = record { name = []; params = []; trailing = false; asserts = []; body = pass ∷ [] }

definition_fits : (limits : Limits) → definition.Fits limits some_definition
definition_fits limits = (no_name limits, tt, tt, (((tt, tt), tt), tt))

-- assertions

pub step_assertion : (after : List Token) → Step assertion (then control (exactly (NewLine ∷ []))) (λ s. s.0) (Word w.Assert ∷ after) after
step_assertion after = record {
  front = Word w.Assert ∷ [];
  split = refl;
  fits = λ limits s fits. fits.0;
  spelled = λ s. refl;
  back = λ limits other x y same fits follows equal.
      record { tree = (other, tt); fits = (fits, tt); is = refl; equal = (let e : x ≡ (control.spell other ++ (NewLine ∷ [])) ++ y = cc in e); follows = tt };
}

pub assertions_apart : Apart assertion (IsNot (Word w.Assert))
assertions_apart = record {
  begins = λ limits e y fits ends. ends refl;
  next = λ limits e y fits. tt;
  last = λ o ends. tt;
}

-- definitions

abbrev pub Def5T : Type 0
Def5T = (List Tree) × (List Statement × (Unit {0}))

abbrev pub Def5 : Phrase Token Def5T
Def5 = then assertions (body 1)

abbrev pub Def4T : Type 0
Def4T = (Unit {0}) × Def5T

abbrev pub Def4 : Phrase Token Def4T
Def4 = then (exactly (Sign Close ∷ Sign Colon ∷ NewLine ∷ Indent ∷ [])) Def5

abbrev pub Def3T : Type 0
Def3T = (List Parameter × Bool) × Def4T

abbrev pub Def3 : Phrase Token Def3T
Def3 = then parameters Def4

abbrev pub Def2T : Type 0
Def2T = (List ℕ × (Unit {0})) × Def3T

abbrev pub Def2 : Phrase Token Def2T
Def2 = then (then name (exactly (Sign Open ∷ []))) Def3

abbrev pub Def1T : Type 0
Def1T = (Unit {0}) × Def2T

abbrev pub Def1 : Phrase Token Def1T
Def1 = then (exactly (Word w.Def ∷ [])) Def2

pub def1 : Joint (exactly (Word w.Def ∷ [])) Def2
def1 = record { may = record { may = λ limits q y fits follows. tt }; some = (([], tt), (([], false), (tt, ([], (pass ∷ [], tt))))); fits = λ limits. ((no_name limits, tt), (tt, (tt, (tt, (((tt, tt), tt), tt))))) }

pub def2 : Joint (then name (exactly (Sign Open ∷ []))) Def3
def2 = record { may = record { may = λ limits q y fits follows. tt }; some = (([], false), (tt, ([], (pass ∷ [], tt)))); fits = λ limits. (tt, (tt, (tt, (((tt, tt), tt), tt)))) }

pub def3 : Joint parameters Def4
def3 = record { may = record { may = λ limits q y fits follows. refl }; some = (tt, ([], (pass ∷ [], tt))); fits = λ limits. (tt, (tt, (((tt, tt), tt), tt))) }

pub def4 : Joint (exactly (Sign Close ∷ Sign Colon ∷ NewLine ∷ Indent ∷ [])) Def5
def4 = record { may = record { may = λ limits q y fits follows. tt }; some = ([], (pass ∷ [], tt)); fits = λ limits. (tt, (((tt, tt), tt), tt)) }

-- the body begins with a statement
no_assert : (limits : Limits) (list : List Statement) (y : List Token) → (some_of (statement 1) (Is Dedent)).Fits limits list → first ((body 1).spell (list, tt) ++ y) ≡ Some (Word w.Assert) → ⊥
no_assert limits [] y fits same = absurd fits.1
no_assert limits (s ∷ more) y fits same =
    let shift : (body 1).spell (s ∷ more, tt) ++ y ≡ spelling s ++ (spell_all (statement 1) more ++ ((Dedent ∷ []) ++ y)) =
    append_assoc (spelling s ++ spell_all (statement 1) more) (Dedent ∷ []) y ∙ append_assoc (spelling s) (spell_all (statement 1) more) ((Dedent ∷ []) ++ y) in
    subst StartsStatement (sym (ap first shift) ∙ same) (starts_statement s (spell_all (statement 1) more ++ ((Dedent ∷ []) ++ y)))

pub def5 : Joint assertions (body 1)
def5 = record { may = record { may = λ limits q y fits follows. no_assert limits q.0 y fits.0 }; some = (pass ∷ [], tt); fits = λ limits. (((tt, tt), tt), tt) }

abbrev pub definition_of : Def1T → Definition
definition_of s = record { name = s.1.0.0; params = s.1.1.0.0; trailing = s.1.1.0.1; asserts = s.1.1.1.1.0; body = s.1.1.1.1.1.0 }

pub step_def : (tokens : List Token) → Step definition Def1 definition_of tokens tokens
step_def tokens = record {
  front = [];
  split = refl;
  fits = λ limits s fits. (fits.1.0.0, fits.1.1.0, fits.1.1.1.1.0, fits.1.1.1.1.1);
  spelled = λ s. refl;
  back = λ limits other x y same fits follows equal.
      record {
        tree = (tt, ((other.name, tt), ((other.params, other.trailing), (tt, (other.asserts, (other.body, tt))))));
        fits = (tt, ((fits.0, tt), (fits.1, (tt, (fits.2, fits.3)))));
        is = refl;
        equal = equal;
        follows = tt;
      };
}

-- items

abbrev pub Proc1T : Type 0
Proc1T = (Unit {0}) × Definition

abbrev pub Proc1 : Phrase Token Proc1T
Proc1 = then (exactly (NewLine ∷ [])) definition

pub proc1 : Joint (exactly (NewLine ∷ [])) definition
proc1 = record { may = record { may = λ limits q y fits follows. tt }; some = some_definition; fits = λ limits. definition_fits limits }

back_procedure : (limits : Limits) (other : Item) (x y : List Token) → item.Fits limits other → Decorator d.Procedure ∷ x ≡ item.spell other ++ y → Back Proc1 (λ s. procedure s.1) limits other x y
back_procedure limits (procedure p) x y fits equal = record { tree = (tt, p); fits = (tt, fits); is = refl; equal = (let e : x ≡ (NewLine ∷ definition.spell p) ++ y = cc in e); follows = tt }
back_procedure limits (instruction l p) x y fits equal = absurd (let e : Decorator d.Procedure ≡ Decorator d.Instruction = cc in cc)
back_procedure limits (configuration n l) x y fits equal = absurd (let e : Decorator d.Procedure ≡ Decorator d.Configuration = cc in cc)
back_procedure limits (memory n l) x y fits equal = absurd (let e : Decorator d.Procedure ≡ Decorator d.MemoryClass = cc in cc)

pub step_procedure : (after : List Token) → Step item Proc1 (λ s. procedure s.1) (Decorator d.Procedure ∷ after) after
step_procedure after = record {
  front = Decorator d.Procedure ∷ [];
  split = refl;
  fits = λ limits s fits. fits.1;
  spelled = λ s. refl;
  back = λ limits other x y same fits follows equal. back_procedure limits other x y fits equal;
}

abbrev pub Instr3T : Type 0
Instr3T = (Unit {0}) × Definition

abbrev pub Instr3 : Phrase Token Instr3T
Instr3 = then (exactly (Sign Close ∷ NewLine ∷ [])) definition

abbrev pub Instr2T : Type 0
Instr2T = (List (List ℕ)) × Instr3T

abbrev pub Instr2 : Phrase Token Instr2T
Instr2 = then neighbours Instr3

abbrev pub Instr1T : Type 0
Instr1T = (Unit {0}) × Instr2T

abbrev pub Instr1 : Phrase Token Instr1T
Instr1 = then (exactly (Sign Open ∷ [])) Instr2

pub instr1 : Joint (exactly (Sign Open ∷ [])) Instr2
instr1 = record { may = record { may = λ limits q y fits follows. tt }; some = ([] ∷ [], (tt, some_definition)); fits = λ limits. (one_string limits, (tt, definition_fits limits)) }

pub instr2 : Joint neighbours Instr3
instr2 = record { may = record { may = λ limits q y fits follows. tt }; some = (tt, some_definition); fits = λ limits. (tt, definition_fits limits) }

pub instr3 : Joint (exactly (Sign Close ∷ NewLine ∷ [])) definition
instr3 = record { may = record { may = λ limits q y fits follows. tt }; some = some_definition; fits = λ limits. definition_fits limits }

back_instruction : (limits : Limits) (other : Item) (x y : List Token) → item.Fits limits other → Decorator d.Instruction ∷ x ≡ item.spell other ++ y → Back Instr1 (λ s. instruction s.1.0 s.1.1.1) limits other x y
back_instruction limits (procedure p) x y fits equal = absurd (let e : Decorator d.Instruction ≡ Decorator d.Procedure = cc in cc)
back_instruction limits (instruction l p) x y fits equal = record { tree = (tt, (l, (tt, p))); fits = (tt, (fits.0, (tt, fits.1))); is = refl; equal = (let e : x ≡ (Sign Open ∷ (neighbours.spell l ++ (Sign Close ∷ NewLine ∷ definition.spell p))) ++ y = cc in e); follows = tt }
back_instruction limits (configuration n l) x y fits equal = absurd (let e : Decorator d.Instruction ≡ Decorator d.Configuration = cc in cc)
back_instruction limits (memory n l) x y fits equal = absurd (let e : Decorator d.Instruction ≡ Decorator d.MemoryClass = cc in cc)

pub step_instruction : (after : List Token) → Step item Instr1 (λ s. instruction s.1.0 s.1.1.1) (Decorator d.Instruction ∷ after) after
step_instruction after = record {
  front = Decorator d.Instruction ∷ [];
  split = refl;
  fits = λ limits s fits. (fits.1.0, fits.1.1.1);
  spelled = λ s. refl;
  back = λ limits other x y same fits follows equal. back_instruction limits other x y fits equal;
}

abbrev pub Conf1T : Type 0
Conf1T = (List ℕ) × (List ConfigField × (Unit {0}))

abbrev pub Conf1 : Phrase Token Conf1T
Conf1 = then class_header fields

pub conf1 : Joint class_header fields
conf1 = record { may = record { may = λ limits q y fits follows. tt }; some = (some_field ∷ [], tt); fits = λ limits. (((field_fits limits, tt), tt), tt) }

back_configuration : (limits : Limits) (other : Item) (x y : List Token) → item.Fits limits other → Decorator d.Configuration ∷ x ≡ item.spell other ++ y → Back Conf1 (λ s. configuration s.0 s.1.0) limits other x y
back_configuration limits (procedure p) x y fits equal = absurd (let e : Decorator d.Configuration ≡ Decorator d.Procedure = cc in cc)
back_configuration limits (instruction l p) x y fits equal = absurd (let e : Decorator d.Configuration ≡ Decorator d.Instruction = cc in cc)
back_configuration limits (configuration n l) x y fits equal = record { tree = (n, (l, tt)); fits = fits; is = refl; equal = (let e : x ≡ (class_header.spell n ++ fields.spell (l, tt)) ++ y = cc in e); follows = tt }
back_configuration limits (memory n l) x y fits equal = absurd (let e : Decorator d.Configuration ≡ Decorator d.MemoryClass = cc in cc)

pub step_configuration : (after : List Token) → Step item Conf1 (λ s. configuration s.0 s.1.0) (Decorator d.Configuration ∷ after) after
step_configuration after = record {
  front = Decorator d.Configuration ∷ [];
  split = refl;
  fits = λ limits s fits. fits;
  spelled = λ s. refl;
  back = λ limits other x y same fits follows equal. back_configuration limits other x y fits equal;
}

abbrev pub Mem1T : Type 0
Mem1T = (List ℕ) × (List Attribute × (Unit {0}))

abbrev pub Mem1 : Phrase Token Mem1T
Mem1 = then class_header attributes

pub mem1 : Joint class_header attributes
mem1 = record { may = record { may = λ limits q y fits follows. tt }; some = (some_attribute ∷ [], tt); fits = λ limits. (((attribute_fits limits, tt), tt), tt) }

back_memory : (limits : Limits) (other : Item) (x y : List Token) → item.Fits limits other → Decorator d.MemoryClass ∷ x ≡ item.spell other ++ y → Back Mem1 (λ s. memory s.0 s.1.0) limits other x y
back_memory limits (procedure p) x y fits equal = absurd (let e : Decorator d.MemoryClass ≡ Decorator d.Procedure = cc in cc)
back_memory limits (instruction l p) x y fits equal = absurd (let e : Decorator d.MemoryClass ≡ Decorator d.Instruction = cc in cc)
back_memory limits (configuration n l) x y fits equal = absurd (let e : Decorator d.MemoryClass ≡ Decorator d.Configuration = cc in cc)
back_memory limits (memory n l) x y fits equal = record { tree = (n, (l, tt)); fits = fits; is = refl; equal = (let e : x ≡ (class_header.spell n ++ attributes.spell (l, tt)) ++ y = cc in e); follows = tt }

pub step_memory : (after : List Token) → Step item Mem1 (λ s. memory s.0 s.1.0) (Decorator d.MemoryClass ∷ after) after
step_memory after = record {
  front = Decorator d.MemoryClass ∷ [];
  split = refl;
  fits = λ limits s fits. fits;
  spelled = λ s. refl;
  back = λ limits other x y same fits follows equal. back_memory limits other x y fits equal;
}

-- what begins an item

abbrev pub StartsItem : Option Token → Type 0
StartsItem (Some (Decorator x)) = Unit {0}
StartsItem other = ⊥

pub starts_item : (i : Item) (y : List Token) → StartsItem (first (item.spell i ++ y))
starts_item (procedure p) y = tt
starts_item (instruction l p) y = tt
starts_item (configuration n l) y = tt
starts_item (memory n l) y = tt

no_item : (o : Option Token) (i : Item) (y : List Token) → (o ≡ Some (Decorator d.Procedure) → ⊥) → (o ≡ Some (Decorator d.Instruction) → ⊥) → (o ≡ Some (Decorator d.Configuration) → ⊥) → (o ≡ Some (Decorator d.MemoryClass) → ⊥) → o ≡ first (item.spell i ++ y) → ⊥
no_item o (procedure p) y no_proc no_instr no_config no_memory same = no_proc same
no_item o (instruction l p) y no_proc no_instr no_config no_memory same = no_instr same
no_item o (configuration n l) y no_proc no_instr no_config no_memory same = no_config same
no_item o (memory n l) y no_proc no_instr no_config no_memory same = no_memory same

pub item_err : (tokens : List Token) → (first tokens ≡ Some (Decorator d.Procedure) → ⊥) → (first tokens ≡ Some (Decorator d.Instruction) → ⊥) → (first tokens ≡ Some (Decorator d.Configuration) → ⊥) → (first tokens ≡ Some (Decorator d.MemoryClass) → ⊥) → Refused item syntax tokens (length tokens)
item_err tokens no_proc no_instr no_config no_memory = record {
  before = [];
  rest = tokens;
  whole = refl;
  count = refl;
  begins = record { tree = procedure some_definition; more = item.spell (procedure some_definition); fits = λ limits. definition_fits limits; spelled = refl };
  goes = tt;
  stuck = λ other x y same fits follows equal. no_item (first tokens) other y no_proc no_instr no_config no_memory (same ∙ ap first equal);
}

abbrev pub AtEnd : Option Token → Type 0
AtEnd o = o ≡ None

pub items_apart : Apart item AtEnd
items_apart = record {
  begins = λ limits i y fits ends. subst StartsItem ends (starts_item i y);
  next = λ limits i y fits. tt;
  last = λ o ends. tt;
}

some_item : (i : Item) → 1 ≤ length (item.spell i)
some_item (procedure p) = omega arith
some_item (instruction l p) = omega arith
some_item (configuration n l) = omega arith
some_item (memory n l) = omega arith

pub item_shorter : (tokens rest : List Token) (i : Item) → Taken item tokens i rest → length rest < length tokens
item_shorter tokens rest i taken = omega (arith, ap length taken.whole, length-append (item.spell i) rest, some_item i)

-- classes

abbrev pub Class1T : Type 0
Class1T = (Unit {0}) × (List ℕ × (Unit {0}))

abbrev pub Class1 : Phrase Token Class1T
Class1 = then (exactly (NewLine ∷ Word w.Class ∷ [])) (then name (exactly (Sign Colon ∷ NewLine ∷ Indent ∷ [])))

pub class1 : Joint (exactly (NewLine ∷ Word w.Class ∷ [])) (then name (exactly (Sign Colon ∷ NewLine ∷ Indent ∷ [])))
class1 = record { may = record { may = λ limits q y fits follows. tt }; some = ([], tt); fits = λ limits. (no_name limits, tt) }

pub step_class : (tokens : List Token) → Step class_header Class1 (λ s. s.1.0) tokens tokens
step_class tokens = record {
  front = [];
  split = refl;
  fits = λ limits s fits. fits.1.0;
  spelled = λ s. refl;
  back = λ limits other x y same fits follows equal. record { tree = (tt, (other, tt)); fits = (tt, (fits, tt)); is = refl; equal = equal; follows = tt };
}

abbrev pub Field2T : Type 0
Field2T = TypeName × (Unit {0})

abbrev pub Field2 : Phrase Token Field2T
Field2 = then type_name (exactly (NewLine ∷ []))

abbrev pub Field1T : Type 0
Field1T = (List ℕ × (Unit {0})) × Field2T

abbrev pub Field1 : Phrase Token Field1T
Field1 = then (then name (exactly (Sign Colon ∷ []))) Field2

pub field1 : Joint (then name (exactly (Sign Colon ∷ []))) Field2
field1 = record { may = record { may = λ limits q y fits follows. tt }; some = (stride, tt); fits = λ limits. (tt, tt) }

pub field2 : Joint type_name (exactly (NewLine ∷ []))
field2 = record { may = record { may = λ limits q y fits follows. tt }; some = tt; fits = λ limits. tt }

abbrev pub field_of : Field1T → ConfigField
field_of s = record { name = s.0.0; kind = s.1.0 }

pub step_field : (tokens : List Token) → Step field Field1 field_of tokens tokens
step_field tokens = record {
  front = [];
  split = refl;
  fits = λ limits s fits. (fits.0.0, fits.1.0);
  spelled = λ s. refl;
  back = λ limits other x y same fits follows equal. record { tree = ((other.name, tt), (other.kind, tt)); fits = ((fits.0, tt), (fits.1, tt)); is = refl; equal = equal; follows = tt };
}

abbrev pub Attr2T : Type 0
Attr2T = Setting × (Unit {0})

abbrev pub Attr2 : Phrase Token Attr2T
Attr2 = then setting (exactly (NewLine ∷ []))

abbrev pub Attr1T : Type 0
Attr1T = (List ℕ × (Unit {0})) × Attr2T

abbrev pub Attr1 : Phrase Token Attr1T
Attr1 = then (then name (exactly (Sign Assign ∷ []))) Attr2

pub attr1 : Joint (then name (exactly (Sign Assign ∷ []))) Attr2
attr1 = record { may = record { may = λ limits q y fits follows. tt }; some = (yes, tt); fits = λ limits. (tt, tt) }

pub attr2 : Joint setting (exactly (NewLine ∷ []))
attr2 = record { may = record { may = λ limits q y fits follows. tt }; some = tt; fits = λ limits. tt }

abbrev pub attribute_of : Attr1T → Attribute
attribute_of s = record { name = s.0.0; value = s.1.0 }

pub step_attribute : (tokens : List Token) → Step attribute Attr1 attribute_of tokens tokens
step_attribute tokens = record {
  front = [];
  split = refl;
  fits = λ limits s fits. (fits.0.0, fits.1.0);
  spelled = λ s. refl;
  back = λ limits other x y same fits follows equal. record { tree = ((other.name, tt), (other.value, tt)); fits = ((fits.0, tt), (fits.1, tt)); is = refl; equal = equal; follows = tt };
}

-- lines of classes begin with a name

starts_line : (n : List ℕ) → Some (Name n) ≡ Some Dedent → ⊥
starts_line n equal = let e : Name n ≡ Dedent = cc (equal) in cc (e)

pub fields_apart : Apart field (Is Dedent)
fields_apart = record { begins = λ limits f y fits ends. starts_line f.name ends; next = λ limits f y fits. tt; last = λ o ends. tt }

pub attributes_apart : Apart attribute (Is Dedent)
attributes_apart = record { begins = λ limits a y fits ends. starts_line a.name ends; next = λ limits a y fits. tt; last = λ o ends. tt }

pub field_shorter : (tokens rest : List Token) (f : ConfigField) → Taken field tokens f rest → length rest < length tokens
field_shorter tokens rest f taken = omega (arith, ap length taken.whole, length-append (field.spell f) rest)

pub attribute_shorter : (tokens rest : List Token) (a : Attribute) → Taken attribute tokens a rest → length rest < length tokens
attribute_shorter tokens rest a taken = omega (arith, ap length taken.whole, length-append (attribute.spell a) rest)

-- values of attributes

yes_only : (limits : Limits) (other : Setting) (x y : List Token) → setting.Fits limits other → Word w.True ∷ x ≡ setting.spell other ++ y → other ≡ yes
yes_only limits (strings []) x y fits equal = absurd fits.1
yes_only limits (strings (p ∷ more)) x y fits equal = absurd (let e : Word w.True ≡ Str p = cc in cc)
yes_only limits (int n) x y fits equal = absurd (let e : Word w.True ≡ Int n = cc in cc)
yes_only limits yes x y fits equal = refl
yes_only limits no x y fits equal = absurd (let e : Word w.True ≡ Word w.False = cc in cc)

no_only : (limits : Limits) (other : Setting) (x y : List Token) → setting.Fits limits other → Word w.False ∷ x ≡ setting.spell other ++ y → other ≡ no
no_only limits (strings []) x y fits equal = absurd fits.1
no_only limits (strings (p ∷ more)) x y fits equal = absurd (let e : Word w.False ≡ Str p = cc in cc)
no_only limits (int n) x y fits equal = absurd (let e : Word w.False ≡ Int n = cc in cc)
no_only limits yes x y fits equal = absurd (let e : Word w.False ≡ Word w.True = cc in cc)
no_only limits no x y fits equal = refl

pub taken_yes : (tokens rest : List Token) → tokens ≡ Word w.True ∷ rest → Taken setting tokens yes rest
taken_yes tokens rest whole = record { fits = λ limits. tt; whole = whole; only = λ limits other x y same fits follows equal. yes_only limits other x y fits equal }

pub taken_no : (tokens rest : List Token) → tokens ≡ Word w.False ∷ rest → Taken setting tokens no rest
taken_no tokens rest whole = record { fits = λ limits. tt; whole = whole; only = λ limits other x y same fits follows equal. no_only limits other x y fits equal }

other_tail : (u : Token) (tokens more : List Token) → StartsWithString (u ∷ tokens) → StartsWithString (u ∷ more)
other_tail (Str p) tokens more begins = tt
other_tail other tokens more begins = absurd begins

string_first : (tokens x : List Token) (t : Token) (more : List Token) → StartsWithString tokens → first tokens ≡ first x → x ≡ t ∷ more → StartsWithString (t ∷ more)
string_first [] x t more begins same is = absurd begins
string_first (u ∷ tokens) x t more begins same is = let e : Some u ≡ Some t = same ∙ ap first is in let f : u ≡ t = cc (e) in subst (λ (v : Token). StartsWithString (v ∷ more)) f (other_tail u tokens more begins)

back_strings : (limits : Limits) (tokens : List Token) (other : Setting) (x y : List Token) → StartsWithString tokens → first tokens ≡ first x → setting.Fits limits other → NoString (first y) → x ≡ setting.spell other ++ y → Back neighbours strings limits other x y
back_strings limits tokens (strings pieces) x y begins same fits follows equal = record { tree = pieces; fits = fits; is = refl; equal = equal; follows = follows }
back_strings limits tokens (int n) x y begins same fits follows equal = absurd (string_first tokens x (Int n) y begins same equal)
back_strings limits tokens yes x y begins same fits follows equal = absurd (string_first tokens x (Word w.True) y begins same equal)
back_strings limits tokens no x y begins same fits follows equal = absurd (string_first tokens x (Word w.False) y begins same equal)

pub step_strings : (tokens : List Token) → StartsWithString tokens → Step setting neighbours strings tokens tokens
step_strings tokens begins = record {
  front = [];
  split = refl;
  fits = λ limits s fits. fits;
  spelled = λ s. refl;
  back = λ limits other x y same fits follows equal. back_strings limits tokens other x y begins same fits follows equal;
}

starts_with_string : (tokens : List Token) (p : List ℕ) → first tokens ≡ Some (Str p) → StartsWithString tokens
starts_with_string [] p same = cc (same)
starts_with_string (t ∷ more) p same = let e : t ≡ Str p = cc (same) in subst (λ (u : Token). StartsWithString (u ∷ more)) (sym e) tt

back_int : (limits : Limits) (tokens : List Token) (other : Setting) (x y : List Token) → (first tokens ≡ Some (Word w.True) → ⊥) → (first tokens ≡ Some (Word w.False) → ⊥) → (StartsWithString tokens → ⊥) → first tokens ≡ first x → setting.Fits limits other → x ≡ setting.spell other ++ y → Back literal int limits other x y
back_int limits tokens (strings []) x y no_yes no_no no_string same fits equal = absurd fits.1
back_int limits tokens (strings (p ∷ more)) x y no_yes no_no no_string same fits equal = absurd (no_string (starts_with_string tokens p (same ∙ ap first equal)))
back_int limits tokens (int n) x y no_yes no_no no_string same fits equal = record { tree = n; fits = fits; is = refl; equal = equal; follows = tt }
back_int limits tokens yes x y no_yes no_no no_string same fits equal = absurd (no_yes (same ∙ ap first equal))
back_int limits tokens no x y no_yes no_no no_string same fits equal = absurd (no_no (same ∙ ap first equal))

pub step_int : (tokens : List Token) → (first tokens ≡ Some (Word w.True) → ⊥) → (first tokens ≡ Some (Word w.False) → ⊥) → (StartsWithString tokens → ⊥) → Step setting literal int tokens tokens
step_int tokens no_yes no_no no_string = record {
  front = [];
  split = refl;
  fits = λ limits s fits. fits;
  spelled = λ s. refl;
  back = λ limits other x y same fits follows equal. back_int limits tokens other x y no_yes no_no no_string same fits equal;
}
