-- The text of a procedure is read as its source tree spells it.
use Rattle.std.proofs.Common.{◌≡◌, ℕ, zero, suc, ◌+◌, ◌-◌, List, [], ◌∷◌, ◌++◌, map, flat_map, false, Option, Some, None, codes, refl, sym, ap, ◌∙◌, append_assoc, append-nil, subst}
use Rattle.text_phrases.specs.Sequence.{spell_all}
use Rattle.exo_tree.specs.Tree.{Condition, Block, Param, Procedure, Program}
use Rattle.text_lexer.specs.Lexeme.{decorator_lexeme}
use Rattle.text_lexer.specs.Layout.{token_of, lines, layout, end_place, is_import}
use Rattle.text_lexer.specs.declared.place.Place.{Place}
use Rattle.text_lexer.specs.declared.token.Token.{Token}
use Rattle.text_lexer.specs.declared.token.Token.TheVariants as t
use Rattle.text_lexer.specs.declared.token.Sign.TheVariants as s
use Rattle.text_lexer.specs.declared.token.Word.TheVariants as word
use Rattle.text_lexer.specs.declared.token.Decorator.TheVariants as d
use Rattle.text_expressions.specs.Expression as expression
use Rattle.exo_reader.specs.Source as source
use Rattle.exo_reader.specs.Parts.{spell_enclosed, parameter}
use Rattle.exo_reader.specs.Statements.{statement, spelling_all}
use Rattle.exo_reader.specs.Items.{assertion, definition, item}
use Rattle.exo_reader.specs.Texts.{tokens_of}
use Rattle.text_show.specs.Layout.{Text, listed, quoted}
use Rattle.text_show.specs.Names.{names_of}
use Rattle.text_show.specs.Words.{Words, words_with, words_of}
use Rattle.text_show.specs.ControlText.{condition_text}
use Rattle.text_show.specs.StatementText.{block_text}
use Rattle.text_show.specs.ProcedureText.{marker_text, param_text, assert_text, header_text, procedure_text}
use Rattle.exo_types_laws.specs.Shown.Names.{IsName, Each}
use Rattle.exo_types_laws.specs.Shown.Written.{marked, condition_tree, block_of, parameter_of}
use Rattle.exo_types_laws.specs.Shown.Written.{definition_of, written}
use Rattle.exo_types_laws.specs.Shown.Writable.{IsSome, IsCondition, IsParam, IsBlock, IsTemplate}
use Rattle.exo_types_laws.specs.Shown.Writable.{IsWritable}
use Rattle.exo_types_laws.proofs.OfShown.Bare.{bare}
use Rattle.exo_types_laws.proofs.OfShown.Pieces.{Free, Any, Reads, join, weaker, name_reads}
use Rattle.exo_types_laws.proofs.OfShown.Pieces.{open_reads, open_goes, close_reads, taken_names}
use Rattle.exo_types_laws.proofs.OfShown.Rows.{IsSound, IsRow, kept, indent_of, text_out, row}
use Rattle.exo_types_laws.proofs.OfShown.Rows.{below_end, below_more, row_after, row_first}
use Rattle.exo_types_laws.proofs.OfShown.Rows.{no_import, end_out}
use Rattle.exo_types_laws.proofs.OfShown.Sound.{Whole, both, before, in_parens, name, sound_append}
use Rattle.exo_types_laws.proofs.OfShown.Sound.{tree_whole}
use Rattle.exo_types_laws.proofs.OfShown.Sources.{enclosed_whole, parameter_whole}
use Rattle.exo_types_laws.proofs.OfShown.Expressions.{condition_reads}
use Rattle.exo_types_laws.proofs.OfShown.Heads.{close_colon, enclosed_reads, each_param}
use Rattle.exo_types_laws.proofs.OfShown.Templates.{quoted_reads}
use Rattle.exo_types_laws.proofs.OfShown.Blocks.{all_sound, block_out, nested_out}

-- ---- the marker

abbrev pub marker_tokens : Option (List ℕ) → List Token
marker_tokens None = t.Decorator d.Procedure ∷ []
marker_tokens (Some template) = t.Decorator d.Instruction ∷ t.Sign s.Open ∷ t.Str template ∷ t.Sign s.Close ∷ []

abbrev decorator_of : List ℕ → List ℕ → List Token
decorator_of x rest = (decorator_lexeme x).token ∷ bare ((decorator_lexeme x).width - 1) rest

proc_reads : Reads Free (codes "@proc") (t.Decorator d.Procedure ∷ [])
proc_reads = record {
  line = (refl, (refl, (refl, (refl, (refl, tt)))));
  goes = λ rest free. ap (λ (x : List ℕ). decorator_of x (codes "proc" ++ rest)) (taken_names (codes "proc") rest free (refl, (refl, (refl, (refl, tt)))));
}

instr_reads : Reads Any (codes "@instr(") (t.Decorator d.Instruction ∷ t.Sign s.Open ∷ [])
instr_reads = record {
  line = (refl, (refl, (refl, (refl, (refl, (refl, (refl, tt)))))));
  goes = λ rest any. ap (λ (ts : List Token). t.Decorator d.Instruction ∷ ts) (open_goes rest);
}

pub marker_row : (template : Option (List ℕ)) → IsTemplate template → IsRow (marker_text template) (marker_tokens template)
marker_row None h = record { reads = proc_reads; begins = (refl, refl); sound = (refl, tt); closed = refl }
marker_row (Some template) h =
    record {
      reads =
          weaker _ _ (join Any Any (codes "@instr(" ++ quoted template) (codes ")") _ _
          (join Any Any (codes "@instr(") (quoted template) _ _ instr_reads (λ rest any. tt) (quoted_reads template h)) (λ rest any. tt) close_reads);
      begins = (refl, refl);
      sound = (refl, (refl, (refl, (refl, tt))));
      closed = refl;
    }

pub marker_import : (template : Option (List ℕ)) → is_import (marker_text template) ≡ false
marker_import None = refl
marker_import (Some template) = refl

spelled_marked : (template : Option (List ℕ)) (p : source.Definition) → marker_tokens template ++ (t.NewLine ∷ definition.spell p) ≡ item.spell (marked template p)
spelled_marked None p = refl
spelled_marked (Some template) p = refl

all_is : (nesting : ℕ) (b : source.Block) → spelling_all b ≡ spell_all (statement nesting) (source.statements b)
all_is nesting source.end = refl
all_is nesting (source.next a more) = ap (λ (ts : List Token). (statement nesting).spell a ++ ts) (all_is nesting more)

-- ---- no fault

asserts_sound : (cs : List expression.Tree) → IsSound (spell_all assertion cs)
asserts_sound [] = tt
asserts_sound (c ∷ cs) = (refl, sound_append (expression.spelling c ++ (t.NewLine ∷ [])) (spell_all assertion cs) (sound_append (expression.spelling c) (t.NewLine ∷ []) (tree_whole c).sound (refl, tt)) (asserts_sound cs))

def_reads : Reads Any (codes "def ") (t.Word word.Def ∷ [])
def_reads = record { line = (refl, (refl, (refl, (refl, tt)))); goes = λ rest any. refl }

assert_reads : Reads Any (codes "assert ") (t.Word word.Assert ∷ [])
assert_reads = record { line = (refl, (refl, (refl, (refl, (refl, (refl, (refl, tt))))))); goes = λ rest any. refl }

-- ---- a procedure, with its names

module _ (program : Program) (names : ℕ → Text) where
  abbrev words : Words
  words = words_with program names

  abbrev params_of : List Param → List Token
  params_of ps = spell_enclosed parameter (map (parameter_of words program.fields) ps) false

  abbrev header_tokens : Procedure → List Token
  header_tokens p = t.Word word.Def ∷ t.Name p.name ∷ t.Sign s.Open ∷ (params_of p.params ++ (t.Sign s.Close ∷ t.Sign s.Colon ∷ []))

  header_whole : (p : Procedure) → Whole (header_tokens p)
  header_whole p =
      before (t.Word word.Def) _ refl (λ n. refl) (name p.name _
      (subst (λ (ts : List Token). Whole (t.Sign s.Open ∷ ts)) (append_assoc (params_of p.params) (t.Sign s.Close ∷ []) (t.Sign s.Colon ∷ []))
      (both (t.Sign s.Open ∷ (params_of p.params ++ (t.Sign s.Close ∷ []))) (t.Sign s.Colon ∷ []) (in_parens (params_of p.params) (enclosed_whole source.Parameter parameter parameter_whole (map (parameter_of words program.fields) p.params) false)) (record { sound = (refl, tt); closed = λ n. refl }))))

  header_row : (p : Procedure) → IsName p.name → Each (IsParam program names) p.params → IsRow (header_text words p) (header_tokens p)
  header_row p is h =
      let one : Reads Free (codes "def " ++ p.name) (t.Word word.Def ∷ t.Name p.name ∷ []) = join Any Free (codes "def ") p.name _ _ def_reads (λ rest free. tt) (name_reads p.name is) in
      let two : Reads Any (codes "def " ++ p.name ++ codes "(") (t.Word word.Def ∷ t.Name p.name ∷ t.Sign s.Open ∷ []) = join Free Any (codes "def " ++ p.name) (codes "(") _ _ one (λ rest any. (refl, refl)) open_reads in
      let three : Reads Free (codes "def " ++ p.name ++ codes "(" ++ listed (map (param_text words) p.params)) (t.Word word.Def ∷ t.Name p.name ∷ t.Sign s.Open ∷ params_of p.params) =
      join Any Free (codes "def " ++ p.name ++ codes "(") (listed (map (param_text words) p.params)) _ _ two (λ rest free. tt) (enclosed_reads Param source.Parameter (param_text words) parameter (parameter_of words program.fields) p.params (each_param program names p.params h)) in
      record {
        reads = weaker _ _ (join Free Any (codes "def " ++ p.name ++ codes "(" ++ listed (map (param_text words) p.params)) (codes "):") _ _ three (λ rest any. (refl, refl)) close_colon);
        begins = (refl, refl);
        sound = (header_whole p).sound;
        closed = (header_whole p).closed 0;
      }

  assert_row : (c : Condition) → IsCondition program names c → IsRow (codes "assert " ++ condition_text words c) (t.Word word.Assert ∷ expression.spelling (condition_tree words program.fields c))
  assert_row c h =
      let whole : Whole (expression.spelling (condition_tree words program.fields c)) = tree_whole (condition_tree words program.fields c) in
      record {
        reads = join Any Free (codes "assert ") (condition_text words c) (t.Word word.Assert ∷ []) _ assert_reads (λ rest free. tt) (condition_reads program names c h);
        begins = (refl, refl);
        sound = (refl, whole.sound);
        closed = whole.closed 0;
      }

  abbrev asserts_of : List Condition → List Token
  asserts_of cs = spell_all assertion (map (condition_tree words program.fields) cs)

  next_assert : (c : Condition) (cs : List Condition) (x : List Token) → t.Word word.Assert ∷ (expression.spelling (condition_tree words program.fields c) ++ (t.NewLine ∷ (asserts_of cs ++ x))) ≡ asserts_of (c ∷ cs) ++ x
  next_assert c cs x =
      ap (λ (ts : List Token). t.Word word.Assert ∷ ts) (sym (append_assoc (expression.spelling (condition_tree words program.fields c)) (t.NewLine ∷ []) (asserts_of cs ++ x)) ∙ sym (append_assoc (expression.spelling (condition_tree words program.fields c) ++ (t.NewLine ∷ [])) (asserts_of cs) x))

  -- assertions in the block of the procedure
  asserts_out : (cs : List Condition) → Each (IsCondition program names) cs → (place : Place) (rest : List ℕ) (line : ℕ) → (m : ℕ) × (text_out place line (suc zero) (flat_map (assert_text words) cs ++ rest) ≡ asserts_of cs ++ text_out place m (suc zero) rest)
  asserts_out [] h place rest line = (line, refl)
  asserts_out (c ∷ cs) h place rest line =
      let more : (m : ℕ) × (text_out place (line + 1) (suc zero) (flat_map (assert_text words) cs ++ rest) ≡ asserts_of cs ++ text_out place m (suc zero) rest) = asserts_out cs h.1 place rest (line + 1) in
      let text = codes "assert " ++ condition_text words c in (
        more.0,
        ap (text_out place line (suc zero)) (append_assoc (assert_text words c) (flat_map (assert_text words) cs) rest)
            ∙ row_after place line zero (suc zero) text (flat_map (assert_text words) cs ++ rest) _ (assert_row c h.0) (no_import zero text)
            ∙ ap (λ (ts : List Token). t.Word word.Assert ∷ (expression.spelling (condition_tree words program.fields c) ++ (t.NewLine ∷ ts))) more.1
            ∙ next_assert c cs (text_out place more.0 (suc zero) rest),
      )

  -- the block of the procedure, to the end of the text
  inside_out : (cs : List Condition) (b : Block) → Each (IsCondition program names) cs → IsSome b → IsBlock program names b → (place : Place) (line : ℕ) → text_out place line zero (flat_map (assert_text words) cs ++ (block_text words (indent_of (suc zero)) b ++ [])) ≡ t.Indent ∷ (asserts_of cs ++ (spelling_all (block_of words program.fields b) ++ (t.Dedent ∷ [])))
  inside_out [] b h some is place line =
      let body = nested_out program names b some is place zero [] (below_end zero) line in
      body.1 ∙ ap (λ (ts : List Token). t.Indent ∷ (spelling_all (block_of words program.fields b) ++ (t.Dedent ∷ ts))) (end_out place body.0 zero)
  inside_out (c ∷ cs) b h some is place line =
      let text = codes "assert " ++ condition_text words c in
      let rest = block_text words (indent_of (suc zero)) b ++ [] in
      let more : (m : ℕ) × (text_out place (line + 1) (suc zero) (flat_map (assert_text words) cs ++ rest) ≡ asserts_of cs ++ text_out place m (suc zero) rest) = asserts_out cs h.1 place rest (line + 1) in
      let body : (m : ℕ) × (text_out place more.0 (suc zero) rest ≡ spelling_all (block_of words program.fields b) ++ text_out place m (suc zero) []) = block_out program names b is place zero [] (below_more zero [] (below_end zero)) more.0 in
      ap (text_out place line zero) (append_assoc (assert_text words c) (flat_map (assert_text words) cs) rest)
      ∙ row_first place line zero text (flat_map (assert_text words) cs ++ rest) _ (assert_row c h.0)
      ∙ ap (λ (ts : List Token). t.Indent ∷ t.Word word.Assert ∷ (expression.spelling (condition_tree words program.fields c) ++ (t.NewLine ∷ ts)))
      (more.1 ∙ ap (λ (ts : List Token). asserts_of cs ++ ts) (body.1 ∙ ap (λ (ts : List Token). spelling_all (block_of words program.fields b) ++ ts) (end_out place body.0 (suc zero))))
      ∙ ap (λ (ts : List Token). t.Indent ∷ ts) (next_assert c cs (spelling_all (block_of words program.fields b) ++ (t.Dedent ∷ [])))

  definition_is : (p : Procedure) → header_tokens p ++ (t.NewLine ∷ t.Indent ∷ (asserts_of p.asserts ++ (spelling_all (block_of words program.fields p.body) ++ (t.Dedent ∷ [])))) ≡ definition.spell (definition_of words program.fields p)
  definition_is p =
      ap (λ (ts : List Token). t.Word word.Def ∷ t.Name p.name ∷ t.Sign s.Open ∷ ts)
      (append_assoc (params_of p.params) (t.Sign s.Close ∷ t.Sign s.Colon ∷ []) (t.NewLine ∷ t.Indent ∷ (asserts_of p.asserts ++ (spelling_all (block_of words program.fields p.body) ++ (t.Dedent ∷ []))))
      ∙ ap (λ (ts : List Token). params_of p.params ++ (t.Sign s.Close ∷ t.Sign s.Colon ∷ t.NewLine ∷ t.Indent ∷ (asserts_of p.asserts ++ (ts ++ (t.Dedent ∷ []))))) (all_is 1 (block_of words program.fields p.body)))

  -- what a procedure keeps, with its names
  pub record IsSpelled (p : Procedure) : Type 0 where
    pub name : IsName p.name
    pub params : Each (IsParam program names) p.params
    pub asserts : Each (IsCondition program names) p.asserts
    pub some : IsSome p.body
    pub body : IsBlock program names p.body
    pub template : IsTemplate p.template

  definition_out : (p : Procedure) → IsSpelled p → (place : Place) (line : ℕ) → text_out place line zero (row zero (header_text words p) ++ (flat_map (assert_text words) p.asserts ++ (block_text words (indent_of (suc zero)) p.body ++ []))) ≡ definition.spell (definition_of words program.fields p)
  definition_out p h place line =
      row_after place line zero zero (header_text words p) (flat_map (assert_text words) p.asserts ++ (block_text words (indent_of (suc zero)) p.body ++ [])) (header_tokens p) (header_row p h.name h.params) refl
      ∙ ap (λ (ts : List Token). header_tokens p ++ (t.NewLine ∷ ts)) (inside_out p.asserts p.body h.asserts h.some h.body place (line + 1))
      ∙ definition_is p

  pub text_parts : (m hd a b : List ℕ) → m ++ hd ++ a ++ b ≡ m ++ (hd ++ (a ++ (b ++ [])))
  text_parts m hd a b = simp (append_assoc, append-nil)

  pub procedure_out : (p : Procedure) → IsSpelled p → (place : Place) (line : ℕ) → text_out place line zero (procedure_text words p) ≡ item.spell (marked p.template (definition_of words program.fields p))
  procedure_out p h place line =
      let rest = row zero (header_text words p) ++ (flat_map (assert_text words) p.asserts ++ (block_text words (indent_of (suc zero)) p.body ++ [])) in
      ap (text_out place line zero) (text_parts (row zero (marker_text p.template)) (row zero (header_text words p)) (flat_map (assert_text words) p.asserts) (block_text words (indent_of (suc zero)) p.body))
      ∙ row_after place line zero zero (marker_text p.template) rest (marker_tokens p.template) (marker_row p.template h.template) (marker_import p.template)
      ∙ ap (λ (ts : List Token). marker_tokens p.template ++ (t.NewLine ∷ ts)) (definition_out p h place (line + 1))
      ∙ spelled_marked p.template (definition_of words program.fields p)

  definition_sound : (p : Procedure) → IsSound (definition.spell (definition_of words program.fields p))
  definition_sound p =
      subst IsSound (definition_is p)
      (sound_append (header_tokens p) (t.NewLine ∷ t.Indent ∷ (asserts_of p.asserts ++ (spelling_all (block_of words program.fields p.body) ++ (t.Dedent ∷ [])))) (header_whole p).sound
      (refl, (refl, sound_append (asserts_of p.asserts) (spelling_all (block_of words program.fields p.body) ++ (t.Dedent ∷ [])) (asserts_sound (map (condition_tree words program.fields) p.asserts)) (sound_append (spelling_all (block_of words program.fields p.body)) (t.Dedent ∷ []) (all_sound (block_of words program.fields p.body)) (refl, tt)))))

marked_sound : (template : Option (List ℕ)) (p : source.Definition) → IsSound (definition.spell p) → IsSound (item.spell (marked template p))
marked_sound None p h = (refl, (refl, h))
marked_sound (Some template) p h = (refl, (refl, (refl, (refl, (refl, h)))))

pub lexed_is : (text : List ℕ) (tokens : List Token) → text_out (end_place text) 1 zero text ≡ tokens → IsSound tokens → tokens_of text ≡ tokens
lexed_is text tokens e sound = ap (map token_of) (kept (layout (end_place text) 1 [] 0 (lines text)) (subst IsSound (sym e) sound)) ∙ e

pub written_sound : (program : Program) (p : Procedure) → IsSound (item.spell (written program p))
written_sound program p = marked_sound p.template (definition_of (words_of program p) program.fields p) (definition_sound program (names_of p) p)

pub procedure_spelled : (program : Program) (p : Procedure) → IsWritable program p → tokens_of (procedure_text (words_of program p) p) ≡ item.spell (written program p)
procedure_spelled program p h =
    let is : IsSpelled program (names_of p) p = record { name = h.name; params = h.params; asserts = h.asserts; some = h.some; body = h.body; template = h.template } in
    lexed_is (procedure_text (words_of program p) p) (item.spell (written program p))
    (procedure_out program (names_of p) p is (end_place (procedure_text (words_of program p) p)) 1)
    (written_sound program p)
