-- A unit has no more tokens than its text has bytes.
use Rattle.std.proofs.Common.{◌≡◌, ℕ, ◌+◌, ◌<◌, ◌≤◌, List, [], ◌∷◌, ◌++◌, Option, Some, None, Bool, true, false, length, arith, ap, sym, ◌∙◌}
use Rattle.std.proofs.lemmas.List.{length-append}
use Rattle.text_phrases.specs.Phrase.{Phrase}
use Rattle.text_phrases.specs.Sequence.{spell_all, carried}
use Rattle.text_phrases.specs.Commas.{spell_more, spell_listing}
use Rattle.text_phrases.specs.Text.{IsText}
use Rattle.text_lexer.specs.Widths.{least_width, least_widths}
use Rattle.text_lexer.specs.declared.place.Place.{Place}
use Rattle.text_lexer.specs.declared.token.Token.{Token}
use Rattle.text_lexer.specs.declared.token.Token.TheVariants.{Name, Int, Str, Sign, Word, Decorator, NewLine, Indent, Dedent}
use Rattle.text_lexer.specs.declared.token.Sign.TheVariants as s
use Rattle.text_lexer.specs.declared.token.Word.TheVariants as w
use Rattle.text_lexer.specs.declared.token.Decorator.TheVariants as d
use Rattle.text_expressions.specs.Expression.{Tree, Trees, end, next, number, truth, variable, access, field, stride, relu, select, negative, parens, binary, sign, spelling, spelling_list, spelling_more, control}
use Rattle.text_expressions.specs.declared.source.Infix.{Infix}
use Rattle.text_expressions.specs.declared.source.Infix.TheVariants as o
use Rattle.exo_reader.specs.Source as tree
use Rattle.exo_reader.specs.Source.{Coordinate, point, span, Argument, value, window, TypeName, named, Statement, Block, Form, Parameter, Definition, ConfigField, Setting, Attribute, Item}
use Rattle.exo_reader.specs.Parts.{spell_enclosed, dims, maybe_dims, type_name, maybe_memory, form, parameter}
use Rattle.exo_reader.specs.Statements as st
use Rattle.exo_reader.specs.Statements.{coordinate, coordinates, argument_of, argument, right, indented, spelling_all, spelling_else, statement, body}
use Rattle.exo_reader.specs.Texts.{tokens_of, places_of}
use Rattle.exo_reader.proofs.Units.{places_more}
use Rattle.exo_reader.specs.Items as i
use Rattle.exo_reader.specs.Items.{neighbours, setting, attribute, assertion, definition, fields, attributes, item, unit}

-- the tokens take as many bytes at the least as there are of them, but for n
record Lacks (n : ℕ) (ts : List Token) : Type 0 where
  few : length ts ≤ least_widths ts + n

none : Lacks 0 []
none = record { few = omega arith }

one : {n : ℕ} {ts : List Token} (t : Token) → 1 ≤ least_width t → Lacks n ts → Lacks n (t ∷ ts)
one t some more = record { few = omega (arith, some, more.few) }

-- a token of two bytes at the least makes up for the end of a block
two : {ts : List Token} (t : Token) → 2 ≤ least_width t → Lacks 1 ts → Lacks 0 (t ∷ ts)
two t some more = record { few = omega (arith, some, more.few) }

ended : Lacks 1 (Dedent ∷ [])
ended = record { few = omega arith }

least_append : (ts us : List Token) → least_widths (ts ++ us) ≡ least_widths ts + least_widths us
least_append [] us = omega arith
least_append (t ∷ more) us = omega (arith, least_append more us)

both : {n : ℕ} {ts us : List Token} → Lacks 0 ts → Lacks n us → Lacks n (ts ++ us)
both {ts = ts} {us = us} one more = record { few = omega (arith, one.few, more.few, length-append ts us, least_append ts us) }

behind : {ts us : List Token} → Lacks 1 ts → Lacks 0 us → Lacks 1 (ts ++ us)
behind {ts = ts} {us = us} one more = record { few = omega (arith, one.few, more.few, length-append ts us, least_append ts us) }

-- lists

more_few : {T : Type 0} (P : Phrase Token T) → ((t : T) → Lacks 0 (P.spell t)) → (list : List T) (trailing : Bool) → Lacks 0 (spell_more P (Sign s.Comma) list trailing)
more_few P each [] true = one (Sign s.Comma) (omega arith) none
more_few P each [] false = none
more_few P each (t ∷ list) trailing = one (Sign s.Comma) (omega arith) (both (each t) (more_few P each list trailing))

listing_few : {T : Type 0} (P : Phrase Token T) → ((t : T) → Lacks 0 (P.spell t)) → (list : List T) → Lacks 0 (spell_listing P (Sign s.Comma) list)
listing_few P each [] = none
listing_few P each (t ∷ list) = both (each t) (more_few P each list false)

enclosed_few : {T : Type 0} (P : Phrase Token T) → ((t : T) → Lacks 0 (P.spell t)) → (list : List T) (trailing : Bool) → Lacks 0 (spell_enclosed P list trailing)
enclosed_few P each [] trailing = none
enclosed_few P each (t ∷ list) trailing = both (each t) (more_few P each list trailing)

all_few : {T : Type 0} (P : Phrase Token T) → ((t : T) → Lacks 0 (P.spell t)) → (list : List T) → Lacks 0 (spell_all P list)
all_few P each [] = none
all_few P each (t ∷ list) = both (each t) (all_few P each list)

-- expressions

sign_width : (operator : Infix) → 1 ≤ least_width (sign operator)
sign_width o.Or = omega arith
sign_width o.And = omega arith
sign_width other = omega arith

mutual
  tree_few : (e : Tree) → Lacks 0 (spelling e)
  tree_few (number n) = one (Int n) (omega arith) none
  tree_few (truth true) = one (Word w.True) (omega arith) none
  tree_few (truth false) = one (Word w.False) (omega arith) none
  tree_few (variable x) = one (Name x) (omega arith) none
  tree_few (access x list) = one (Name x) (omega arith) (one (Sign s.OpenBracket) (omega arith) (both (list_few list) (one (Sign s.CloseBracket) (omega arith) none)))
  tree_few (field x f) = one (Name x) (omega arith) (one (Sign s.Dot) (omega arith) (one (Name f) (omega arith) none))
  tree_few (stride x n) = one (Word w.Stride) (omega arith) (one (Sign s.Open) (omega arith) (one (Name x) (omega arith) (one (Sign s.Comma) (omega arith) (one (Int n) (omega arith) (one (Sign s.Close) (omega arith) none)))))
  tree_few (relu inner) = one (Word w.Relu) (omega arith) (one (Sign s.Open) (omega arith) (both (tree_few inner) (one (Sign s.Close) (omega arith) none)))
  tree_few (select a b c d) =
      one (Word w.Select) (omega arith) (one (Sign s.Open) (omega arith) (both (tree_few a) (one (Sign s.Comma) (omega arith) (both (tree_few b) (one (Sign s.Comma) (omega arith) (both (tree_few c) (one (Sign s.Comma) (omega arith) (both (tree_few d) (one (Sign s.Close) (omega arith) none)))))))))
  tree_few (negative inner) = one (Sign s.Minus) (omega arith) (tree_few inner)
  tree_few (parens inner) = one (Sign s.Open) (omega arith) (both (tree_few inner) (one (Sign s.Close) (omega arith) none))
  tree_few (binary operator left right) = both (tree_few left) (one (sign operator) (sign_width operator) (tree_few right))

  list_few : (list : Trees) → Lacks 0 (spelling_list list)
  list_few end = none
  list_few (next e more) = both (tree_few e) (tail_few more)

  tail_few : (list : Trees) → Lacks 0 (spelling_more list)
  tail_few end = none
  tail_few (next e more) = one (Sign s.Comma) (omega arith) (both (tree_few e) (tail_few more))

-- parts of parameters and statements

dims_few : (list : List Tree) → Lacks 0 (dims.spell list)
dims_few list = one (Sign s.OpenBracket) (omega arith) (both (listing_few control tree_few list) (one (Sign s.CloseBracket) (omega arith) none))

maybe_dims_few : (list : List Tree) → Lacks 0 (maybe_dims.spell list)
maybe_dims_few [] = none
maybe_dims_few (e ∷ more) = dims_few (e ∷ more)

type_few : (t : TypeName) → Lacks 0 (type_name.spell t)
type_few tree.stride = one (Word w.Stride) (omega arith) none
type_few (named x) = one (Name x) (omega arith) none

memory_few : (m : Option (List ℕ)) → Lacks 0 (maybe_memory.spell m)
memory_few None = none
memory_few (Some x) = one (Sign s.At) (omega arith) (one (Name x) (omega arith) none)

form_few : (f : Form) → Lacks 0 (form.spell f)
form_few (tree.plain kind list) = both (type_few kind) (maybe_dims_few list)
form_few (tree.strided kind list) = one (Sign s.OpenBracket) (omega arith) (both (type_few kind) (one (Sign s.CloseBracket) (omega arith) (dims_few list)))

parameter_few : (p : Parameter) → Lacks 0 (parameter.spell p)
parameter_few p = one (Name p.name) (omega arith) (one (Sign s.Colon) (omega arith) (both (form_few p.form) (memory_few p.memory)))

coordinate_few : (c : Coordinate) → Lacks 0 (coordinate.spell c)
coordinate_few (point e) = tree_few e
coordinate_few (span a b) = both (tree_few a) (one (Sign s.Colon) (omega arith) (tree_few b))

coordinates_few : (cs : List Coordinate) → Lacks 0 (coordinates.spell cs)
coordinates_few cs = listing_few coordinate coordinate_few cs

argument_few : (a : Argument) → Lacks 0 (argument.spell a)
argument_few (value e) = tree_few e
argument_few (window x cs) = one (Name x) (omega arith) (one (Sign s.OpenBracket) (omega arith) (both (coordinates_few cs) (one (Sign s.CloseBracket) (omega arith) none)))

line : {ts : List Token} → Lacks 0 ts → Lacks 0 (ts ++ (NewLine ∷ []))
line few = both few (one NewLine (omega arith) none)

-- statements

indented_few : {ts : List Token} → Lacks 0 ts → Lacks 1 (indented ts)
indented_few few = one (Sign s.Colon) (omega arith) (one NewLine (omega arith) (one Indent (omega arith) (both few ended)))

mutual
  statement_few : (t : Statement) → Lacks 0 (st.spelling t)
  statement_few tree.pass = one (Word w.Pass) (omega arith) (one NewLine (omega arith) none)
  statement_few (tree.branch c a b) = two (Word w.If) (omega arith) (both (tree_few c) (behind (indented_few (block_few a)) (else_few b)))
  statement_few (tree.loop x low high a) =
      two (Word w.For) (omega arith) (one (Name x) (omega arith) (one (Word w.In) (omega arith) (one (Word w.Seq) (omega arith) (one (Sign s.Open) (omega arith) (both (tree_few low) (one (Sign s.Comma) (omega arith) (both (tree_few high) (one (Sign s.Close) (omega arith) (indented_few (block_few a))))))))))
  statement_few (tree.allocate x kind list m) = one (Name x) (omega arith) (one (Sign s.Colon) (omega arith) (both (type_few kind) (both (maybe_dims_few list) (line (memory_few m)))))
  statement_few (tree.call f list trailing) = one (Name f) (omega arith) (one (Sign s.Open) (omega arith) (both (enclosed_few argument argument_few list trailing) (one (Sign s.Close) (omega arith) (one NewLine (omega arith) none))))
  statement_few (tree.configure x f e) = one (Name x) (omega arith) (one (Sign s.Dot) (omega arith) (one (Name f) (omega arith) (one (Sign s.Assign) (omega arith) (line (tree_few e)))))
  statement_few (tree.assign x list e) = one (Name x) (omega arith) (both (maybe_dims_few list) (one (Sign s.Assign) (omega arith) (line (tree_few e))))
  statement_few (tree.reduce x list e) = one (Name x) (omega arith) (both (maybe_dims_few list) (one (Sign s.Reduce) (omega arith) (line (tree_few e))))
  statement_few (tree.view y x cs) = one (Name y) (omega arith) (one (Sign s.Assign) (omega arith) (line (argument_few (window x cs))))

  block_few : (b : Block) → Lacks 0 (spelling_all b)
  block_few tree.end = none
  block_few (tree.next t more) = both (statement_few t) (block_few more)

  else_few : (b : Block) → Lacks 0 (spelling_else b)
  else_few tree.end = none
  else_few (tree.next t more) = two (Word w.Else) (omega arith) (indented_few (both (statement_few t) (block_few more)))

-- items

assertion_few : (e : Tree) → Lacks 0 (assertion.spell e)
assertion_few e = one (Word w.Assert) (omega arith) (line (tree_few e))

definition_few : (p : Definition) → Lacks 0 (definition.spell p)
definition_few p =
    two (Word w.Def) (omega arith) (one (Name p.name) (omega arith) (one (Sign s.Open) (omega arith) (both (enclosed_few parameter parameter_few p.params p.trailing)
    (one (Sign s.Close) (omega arith) (one (Sign s.Colon) (omega arith) (one NewLine (omega arith) (one Indent (omega arith) (both (all_few assertion assertion_few p.asserts) (both (all_few (statement 1) statement_few p.body) ended)))))))))

strings_few : (list : List (List ℕ)) → Lacks 0 (neighbours.spell list)
strings_few list = all_few (carried Str) (λ x. one (Str x) (omega arith) none) list

setting_few : (v : Setting) → Lacks 0 (setting.spell v)
setting_few (tree.strings list) = strings_few list
setting_few (tree.int n) = one (Int n) (omega arith) none
setting_few tree.yes = one (Word w.True) (omega arith) none
setting_few tree.no = one (Word w.False) (omega arith) none

attribute_few : (a : Attribute) → Lacks 0 (attribute.spell a)
attribute_few a = one (Name a.name) (omega arith) (one (Sign s.Assign) (omega arith) (line (setting_few a.value)))

field_few : (f : ConfigField) → Lacks 0 (i.field.spell f)
field_few f = one (Name f.name) (omega arith) (one (Sign s.Colon) (omega arith) (line (type_few f.kind)))

class_few : {ts : List Token} (x : List ℕ) → Lacks 1 ts → Lacks 0 (NewLine ∷ Word w.Class ∷ Name x ∷ Sign s.Colon ∷ NewLine ∷ Indent ∷ ts)
class_few x more = one NewLine (omega arith) (two (Word w.Class) (omega arith) (one (Name x) (omega arith) (one (Sign s.Colon) (omega arith) (one NewLine (omega arith) (one Indent (omega arith) more)))))

-- the decorator of an item takes a byte more
more_by : (t : Token) (ts : List Token) → 2 ≤ least_width t → Lacks 0 ts → length (t ∷ ts) < least_widths (t ∷ ts)
more_by t ts some few = omega (arith, some, few.few)

item_more : (x : Item) → length (item.spell x) < least_widths (item.spell x)
item_more (tree.procedure p) = more_by (Decorator d.Procedure) _ (omega arith) (one NewLine (omega arith) (definition_few p))
item_more (tree.instruction template p) = more_by (Decorator d.Instruction) _ (omega arith) (one (Sign s.Open) (omega arith) (both (strings_few template) (one (Sign s.Close) (omega arith) (one NewLine (omega arith) (definition_few p)))))
item_more (tree.configuration x list) = more_by (Decorator d.Configuration) _ (omega arith) (class_few x (both (all_few i.field field_few list) ended))
item_more (tree.memory x list) = more_by (Decorator d.MemoryClass) _ (omega arith) (class_few x (both (all_few attribute attribute_few list) ended))

unit_most : (items : List Item) → length (unit.spell items) ≤ least_widths (unit.spell items)
unit_most [] = omega arith
unit_most (x ∷ more) = omega (arith, item_more x, unit_most more, length-append (item.spell x) (unit.spell more), least_append (item.spell x) (unit.spell more))

unit_few : (items : List Item) (n : ℕ) → least_widths (unit.spell items) ≤ n + 1 → length (unit.spell items) ≤ n
unit_few [] n wide = omega arith
unit_few (x ∷ more) n wide = omega (arith, wide, item_more x, unit_most more, length-append (item.spell x) (unit.spell more), least_append (item.spell x) (unit.spell more))

-- a unit of n bytes has at most n tokens
few_tokens : (tokens : List Token) (items : List Item) (n : ℕ) → tokens ≡ unit.spell items → least_widths tokens ≤ n + 1 → length tokens ≤ n
few_tokens tokens items n is wide = omega (arith, ap length is, unit_few items n (omega (arith, wide, ap least_widths is)))

pub few_places : (text : List ℕ) (read tokens : List Token) (places : List Place) (items : List Item) → IsText unit read items → read ≡ tokens → tokens ≡ tokens_of text → places ≡ places_of text → least_widths tokens ≤ length text + 1 → length text ≤ 0x100000 → length places ≤ 0x100001
few_places text read tokens places items is same tokens_are places_are wide short =
    omega (arith, few_tokens tokens items (length text) (sym same ∙ is.spelled) wide, short, ap length tokens_are, ap length places_are, places_more text)
