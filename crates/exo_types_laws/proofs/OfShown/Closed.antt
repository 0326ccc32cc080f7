-- What units spell has no fault and closes its brackets.
use Rattle.std.proofs.Common.{ℕ, List, [], ◌∷◌, ◌++◌, refl, sym, append_assoc, subst}
use Rattle.text_phrases.specs.Phrase.{Phrase}
use Rattle.text_phrases.specs.Sequence.{spell_all}
use Rattle.text_lexer.specs.declared.token.Token.{Token}
use Rattle.text_lexer.specs.declared.token.Token.TheVariants as t
use Rattle.text_lexer.specs.declared.token.Sign.TheVariants as s
use Rattle.text_lexer.specs.declared.token.Word.TheVariants as w
use Rattle.text_lexer.specs.declared.token.Decorator.TheVariants as d
use Rattle.text_expressions.specs.Expression.{Tree, spelling as e_spelling}
use Rattle.exo_reader.specs.Source.{Statement, pass, branch, loop, allocate, call, configure, assign, reduce, view, Block, end, next, Parameter, Definition, ConfigField, Setting, strings, int, yes, no, Attribute, Item, procedure, instruction, configuration, memory}
use Rattle.exo_reader.specs.Parts.{spell_enclosed, parameter}
use Rattle.exo_reader.specs.Statements.{statement, spelling, spelling_all, spelling_else}
use Rattle.exo_reader.specs.Items.{neighbours, setting, attribute, field, assertion, definition, item, unit}
use Rattle.exo_types_laws.proofs.OfShown.Sound.{Whole, nothing, both, before, in_parens, name}
use Rattle.exo_types_laws.proofs.OfShown.Sound.{tree_whole}
use Rattle.exo_types_laws.proofs.OfShown.Sources.{head_tokens, head_whole, enclosed_whole}
use Rattle.exo_types_laws.proofs.OfShown.Sources.{parameter_whole, kind_whole}
use Rattle.exo_types_laws.proofs.OfShown.Blocks.{inner_tokens, spelled_is}

all_whole : (T : Type 0) (P : Phrase Token T) → ((x : T) → Whole (P.spell x)) → (xs : List T) → Whole (spell_all P xs)
all_whole T P each [] = nothing
all_whole T P each (x ∷ xs) = both (P.spell x) (spell_all P xs) (each x) (all_whole T P each xs)

line_end_whole : (rest : List Token) → Whole rest → Whole (t.NewLine ∷ rest)
line_end_whole rest h = before t.NewLine rest refl (λ n. refl) h

ended : (xs : List Token) → Whole xs → Whole (xs ++ (t.NewLine ∷ []))
ended xs h = both xs (t.NewLine ∷ []) h (line_end_whole [] nothing)

-- parentheses, and what stands behind them
parens_then : (xs rest : List Token) → Whole xs → Whole rest → Whole (t.Sign s.Open ∷ (xs ++ (t.Sign s.Close ∷ rest)))
parens_then xs rest h k =
    subst (λ (ts : List Token). Whole (t.Sign s.Open ∷ ts)) (append_assoc xs (t.Sign s.Close ∷ []) rest)
    (both (t.Sign s.Open ∷ (xs ++ (t.Sign s.Close ∷ []))) rest (in_parens xs h) k)

indent_whole : (rest : List Token) → Whole rest → Whole (t.Indent ∷ rest)
indent_whole rest h = before t.Indent rest refl (λ n. refl) h

dedent_whole : (rest : List Token) → Whole rest → Whole (t.Dedent ∷ rest)
dedent_whole rest h = before t.Dedent rest refl (λ n. refl) h

-- a statement, by what stands behind its first line
by_inner : (a : Statement) → Whole (inner_tokens a) → Whole (spelling a)
by_inner a h = subst Whole (sym (spelled_is a)) (both (head_tokens a) (t.NewLine ∷ inner_tokens a) (head_whole a) (line_end_whole (inner_tokens a) h))

mutual
  inner_whole : (a : Statement) → Whole (inner_tokens a)
  inner_whole pass = nothing
  inner_whole (branch c a b) = indent_whole _ (both (spelling_all a) (t.Dedent ∷ spelling_else b) (block_whole a) (dedent_whole (spelling_else b) (else_whole b)))
  inner_whole (loop i low high a) = indent_whole _ (both (spelling_all a) (t.Dedent ∷ []) (block_whole a) (dedent_whole [] nothing))
  inner_whole (allocate x kind ds m) = nothing
  inner_whole (call f list trailing) = nothing
  inner_whole (configure c f e) = nothing
  inner_whole (assign x ds e) = nothing
  inner_whole (reduce x ds e) = nothing
  inner_whole (view y x cs) = nothing

  block_whole : (b : Block) → Whole (spelling_all b)
  block_whole end = nothing
  block_whole (next a b) = both (spelling a) (spelling_all b) (by_inner a (inner_whole a)) (block_whole b)

  else_whole : (b : Block) → Whole (spelling_else b)
  else_whole end = nothing
  else_whole (next a b) =
      before (t.Word w.Else) _ refl (λ n. refl) (before (t.Sign s.Colon) _ refl (λ n. refl) (line_end_whole _ (indent_whole _
      (both (spelling a ++ spelling_all b) (t.Dedent ∷ []) (both (spelling a) (spelling_all b) (by_inner a (inner_whole a)) (block_whole b)) (dedent_whole [] nothing)))))

statement_whole : (a : Statement) → Whole (spelling a)
statement_whole a = by_inner a (inner_whole a)

assertion_whole : (e : Tree) → Whole (assertion.spell e)
assertion_whole e = before (t.Word w.Assert) _ refl (λ n. refl) (ended (e_spelling e) (tree_whole e))

definition_whole : (p : Definition) → Whole (definition.spell p)
definition_whole p =
    before (t.Word w.Def) _ refl (λ n. refl) (name p.name _ (parens_then (spell_enclosed parameter p.params p.trailing) _ (enclosed_whole Parameter parameter parameter_whole p.params p.trailing)
    (before (t.Sign s.Colon) _ refl (λ n. refl) (line_end_whole _ (indent_whole _
    (both (spell_all assertion p.asserts) _ (all_whole Tree assertion assertion_whole p.asserts)
    (both (spell_all (statement 1) p.body) (t.Dedent ∷ []) (all_whole Statement (statement 1) statement_whole p.body) (dedent_whole [] nothing))))))))

strings_whole : (pieces : List (List ℕ)) → Whole (neighbours.spell pieces)
strings_whole [] = nothing
strings_whole (piece ∷ more) = before (t.Str piece) _ refl (λ n. refl) (strings_whole more)

setting_whole : (a : Setting) → Whole (setting.spell a)
setting_whole (strings pieces) = strings_whole pieces
setting_whole (int n) = before (t.Int n) [] refl (λ m. refl) nothing
setting_whole yes = before (t.Word w.True) [] refl (λ n. refl) nothing
setting_whole no = before (t.Word w.False) [] refl (λ n. refl) nothing

attribute_whole : (a : Attribute) → Whole (attribute.spell a)
attribute_whole a = name a.name _ (before (t.Sign s.Assign) _ refl (λ n. refl) (ended (setting.spell a.value) (setting_whole a.value)))

field_whole : (f : ConfigField) → Whole (field.spell f)
field_whole f = name f.name _ (before (t.Sign s.Colon) _ refl (λ n. refl) (ended _ (kind_whole f.kind)))

class_whole : (x : List ℕ) (rest : List Token) → Whole rest → Whole (t.NewLine ∷ t.Word w.Class ∷ t.Name x ∷ t.Sign s.Colon ∷ t.NewLine ∷ t.Indent ∷ rest)
class_whole x rest h = line_end_whole _ (before (t.Word w.Class) _ refl (λ n. refl) (name x _ (before (t.Sign s.Colon) _ refl (λ n. refl) (line_end_whole _ (indent_whole rest h)))))

item_whole : (i : Item) → Whole (item.spell i)
item_whole (procedure p) = before (t.Decorator d.Procedure) _ refl (λ n. refl) (line_end_whole _ (definition_whole p))
item_whole (instruction template p) =
    before (t.Decorator d.Instruction) _ refl (λ n. refl) (parens_then (neighbours.spell template) _ (strings_whole template) (line_end_whole _ (definition_whole p)))
item_whole (configuration x fs) =
    before (t.Decorator d.Configuration) _ refl (λ n. refl) (class_whole x _ (both (spell_all field fs) (t.Dedent ∷ []) (all_whole ConfigField field field_whole fs) (dedent_whole [] nothing)))
item_whole (memory x settings) =
    before (t.Decorator d.MemoryClass) _ refl (λ n. refl) (class_whole x _ (both (spell_all attribute settings) (t.Dedent ∷ []) (all_whole Attribute attribute attribute_whole settings) (dedent_whole [] nothing)))

pub unit_whole : (items : List Item) → Whole (unit.spell items)
unit_whole items = all_whole Item item item_whole items
