-- The text of blocks is read as their source trees spell them.
use Rattle.std.proofs.Common.{◌≡◌, ℕ, zero, suc, ◌+◌, List, [], ◌∷◌, ◌++◌, map, true, Option, Some, None, codes, slice_get, refl, sym, ap, ◌∙◌, append_assoc, arith, subst}
use Rattle.std.proofs.lemmas.Bool.Decides.{nat_tests}
use Rattle.exo_tree.specs.Tree.{Statement, Assign, Reduce, Config, Pass, If, For, Alloc, View, Call, Block, end, next, ConfigField, Program}
use Rattle.text_lexer.specs.Bytes.{begins_name}
use Rattle.text_lexer.specs.declared.place.Place.{Place}
use Rattle.text_lexer.specs.declared.token.Token.{Token}
use Rattle.text_lexer.specs.declared.token.Token.TheVariants as t
use Rattle.text_lexer.specs.declared.token.Sign.TheVariants as s
use Rattle.text_lexer.specs.declared.token.Word.TheVariants as word
use Rattle.text_expressions.specs.Expression.{spelling as e_spelling}
use Rattle.exo_reader.specs.Source as source
use Rattle.exo_reader.specs.Parts.{spell_enclosed, spell_maybe_dims, spell_type_name, memory}
use Rattle.exo_reader.specs.Statements.{spelling, spelling_all, spelling_else, argument}
use Rattle.text_phrases.specs.Sequence.{spell_maybe}
use Rattle.text_show.specs.Layout.{Text, listed}
use Rattle.text_show.specs.Words.{Words, words_with, callee_name}
use Rattle.text_show.specs.ControlText.{indices_text}
use Rattle.text_show.specs.StatementText.{argument_text, head_text, or_else, block_text, inner_text}
use Rattle.exo_types_laws.specs.Shown.Names.{IsName}
use Rattle.exo_types_laws.specs.Shown.Written.{statement_of, block_of}
use Rattle.exo_types_laws.specs.Shown.Writable.{HasNames, IsSome, IsStatement, IsBlock}
use Rattle.exo_types_laws.proofs.OfShown.Pieces.{Free, Any, join, named, weaker, colon_reads}
use Rattle.exo_types_laws.proofs.OfShown.Rows.{IsSound, BeginsRow, IsRow, indent_of, text_out, row}
use Rattle.exo_types_laws.proofs.OfShown.Rows.{Below, row_after, row_first, below_row, below_more}
use Rattle.exo_types_laws.proofs.OfShown.Rows.{no_import}
use Rattle.exo_types_laws.proofs.OfShown.Sound.{Whole, sound_append}
use Rattle.exo_types_laws.proofs.OfShown.Sources.{head_tokens, head_whole}
use Rattle.exo_types_laws.proofs.OfShown.Expressions.{field_text}
use Rattle.exo_types_laws.proofs.OfShown.Heads.{head_reads}

-- ---- what stands first on a line

pub begins_append : (x y : List ℕ) → BeginsRow x → BeginsRow (x ++ y)
begins_append [] y b = absurd b
begins_append (c ∷ x) y b = b

between_begins : (a op b : List ℕ) → BeginsRow a → BeginsRow (a ++ codes " " ++ op ++ codes " " ++ b)
between_begins a op b h = begins_append (a ++ codes " " ++ op ++ codes " ") b (begins_append (a ++ codes " " ++ op) (codes " ") (begins_append (a ++ codes " ") op (begins_append a (codes " ") h)))

name_begins : (x : List ℕ) → IsName x → BeginsRow x
name_begins [] is = absurd is.begins
name_begins (b ∷ x) is =
    let go : begins_name b ≡ true = is.begins in
    (grind (arith, nat_tests, go), grind (arith, nat_tests, go))

field_begins : (f : ℕ) (o : Option ConfigField) → HasNames o → BeginsRow (field_text f o)
field_begins f None h = absurd h
field_begins f (Some x) h = begins_append (x.config ++ codes ".") x.name (begins_append x.config (codes ".") (name_begins x.config h.0))

-- ---- what a statement spells behind its first line

abbrev pub inner_tokens : source.Statement → List Token
inner_tokens source.pass = []
inner_tokens (source.branch c a b) = t.Indent ∷ (spelling_all a ++ (t.Dedent ∷ spelling_else b))
inner_tokens (source.loop i low high a) = t.Indent ∷ (spelling_all a ++ (t.Dedent ∷ []))
inner_tokens (source.allocate x kind ds m) = []
inner_tokens (source.call f list trailing) = []
inner_tokens (source.configure c f e) = []
inner_tokens (source.assign x ds e) = []
inner_tokens (source.reduce x ds e) = []
inner_tokens (source.view y x cs) = []

branch_parts : (c a b : List Token) → c ++ ((t.Sign s.Colon ∷ t.NewLine ∷ t.Indent ∷ (a ++ (t.Dedent ∷ []))) ++ b) ≡ (c ++ (t.Sign s.Colon ∷ [])) ++ (t.NewLine ∷ t.Indent ∷ (a ++ (t.Dedent ∷ b)))
branch_parts c a b = simp append_assoc

loop_parts : (l h a : List Token) → l ++ (t.Sign s.Comma ∷ (h ++ (t.Sign s.Close ∷ t.Sign s.Colon ∷ t.NewLine ∷ t.Indent ∷ (a ++ (t.Dedent ∷ []))))) ≡ (l ++ (t.Sign s.Comma ∷ (h ++ (t.Sign s.Close ∷ t.Sign s.Colon ∷ [])))) ++ (t.NewLine ∷ t.Indent ∷ (a ++ (t.Dedent ∷ [])))
loop_parts l h a = simp append_assoc

three : (a b c d : List Token) → a ++ (b ++ (c ++ d)) ≡ (a ++ (b ++ c)) ++ d
three a b c d = simp append_assoc

store_parts : (sign : Token) (a b d : List Token) → a ++ (sign ∷ (b ++ d)) ≡ (a ++ (sign ∷ b)) ++ d
store_parts sign a b d = simp append_assoc

pub spelled_is : (a : source.Statement) → spelling a ≡ head_tokens a ++ (t.NewLine ∷ inner_tokens a)
spelled_is source.pass = refl
spelled_is (source.branch c a b) = ap (λ (ts : List Token). t.Word word.If ∷ ts) (branch_parts (e_spelling c) (spelling_all a) (spelling_else b))
spelled_is (source.loop i low high a) = ap (λ (ts : List Token). t.Word word.For ∷ t.Name i ∷ t.Word word.In ∷ t.Word word.Seq ∷ t.Sign s.Open ∷ ts) (loop_parts (e_spelling low) (e_spelling high) (spelling_all a))
spelled_is (source.allocate x kind ds m) = ap (λ (ts : List Token). t.Name x ∷ t.Sign s.Colon ∷ ts) (three (spell_type_name kind) (spell_maybe_dims ds) (spell_maybe memory m) (t.NewLine ∷ []))
spelled_is (source.call f list trailing) = ap (λ (ts : List Token). t.Name f ∷ t.Sign s.Open ∷ ts) (sym (append_assoc (spell_enclosed argument list trailing) (t.Sign s.Close ∷ []) (t.NewLine ∷ [])))
spelled_is (source.configure c f e) = refl
spelled_is (source.assign x ds e) = ap (λ (ts : List Token). t.Name x ∷ ts) (store_parts (t.Sign s.Assign) (spell_maybe_dims ds) (e_spelling e) (t.NewLine ∷ []))
spelled_is (source.reduce x ds e) = ap (λ (ts : List Token). t.Name x ∷ ts) (store_parts (t.Sign s.Reduce) (spell_maybe_dims ds) (e_spelling e) (t.NewLine ∷ []))
spelled_is (source.view y x cs) = refl

-- ---- no fault in blocks

else_sound : (b : source.Block) → IsSound (spelling_all b) → IsSound (spelling_else b)
else_sound source.end h = tt
else_sound (source.next a more) h = (refl, (refl, (refl, (refl, sound_append (spelling_all (source.next a more)) (t.Dedent ∷ []) h (refl, tt)))))

mutual
  inner_sound : (a : source.Statement) → IsSound (inner_tokens a)
  inner_sound source.pass = tt
  inner_sound (source.branch c a b) = (refl, sound_append (spelling_all a) (t.Dedent ∷ spelling_else b) (all_sound a) (refl, else_sound b (all_sound b)))
  inner_sound (source.loop i low high a) = (refl, sound_append (spelling_all a) (t.Dedent ∷ []) (all_sound a) (refl, tt))
  inner_sound (source.allocate x kind ds m) = tt
  inner_sound (source.call f list trailing) = tt
  inner_sound (source.configure c f e) = tt
  inner_sound (source.assign x ds e) = tt
  inner_sound (source.reduce x ds e) = tt
  inner_sound (source.view y x cs) = tt

  pub all_sound : (b : source.Block) → IsSound (spelling_all b)
  all_sound source.end = tt
  all_sound (source.next a more) =
      sound_append (spelling a) (spelling_all more)
      (subst IsSound (sym (spelled_is a)) (sound_append (head_tokens a) (t.NewLine ∷ inner_tokens a) (head_whole a).sound (refl, inner_sound a)))
      (all_sound more)

else_row : IsRow (codes "else:") (t.Word word.Else ∷ t.Sign s.Colon ∷ [])
else_row = record {
  reads = weaker _ _ (join Free Any (codes "else") (codes ":") (t.Word word.Else ∷ []) (t.Sign s.Colon ∷ []) (named (codes "else") refl (refl, (refl, (refl, (refl, tt))))) (λ rest any. (refl, refl)) colon_reads);
  begins = (refl, refl);
  sound = (refl, (refl, tt));
  closed = refl;
}

-- the tokens of a line, of what is in it, of what follows it in its block, and of what follows that
line_parts : (h i b x : List Token) → h ++ (t.NewLine ∷ (i ++ (b ++ x))) ≡ ((h ++ (t.NewLine ∷ i)) ++ b) ++ x
line_parts h i b x = simp append_assoc

block_parts : (h i b x : List Token) → h ++ (t.NewLine ∷ (i ++ (b ++ (t.Dedent ∷ x)))) ≡ ((h ++ (t.NewLine ∷ i)) ++ b) ++ (t.Dedent ∷ x)
block_parts h i b x = simp append_assoc

module _ (program : Program) (names : ℕ → Text) where
  abbrev words : Words
  words = words_with program names

  head_begins : (a : Statement) → IsStatement program names a → BeginsRow (head_text words a)
  head_begins (Assign x is e) h = between_begins _ (codes "=") _ (begins_append (names x) (indices_text words is) (name_begins (names x) h.0.0))
  head_begins (Reduce x is e) h = between_begins _ (codes "+=") _ (begins_append (names x) (indices_text words is) (name_begins (names x) h.0.0))
  head_begins (Config f a) h = between_begins _ (codes "=") _ (field_begins f (slice_get program.fields f) h.0)
  head_begins Pass h = (refl, refl)
  head_begins (If c a b) h = (refl, refl)
  head_begins (For i lo hi b) h = (refl, refl)
  head_begins (Alloc x cell dims m) h = between_begins x.name (codes ":") _ (name_begins x.name h.0)
  head_begins (View v x coords) h = between_begins v.name (codes "=") _ (name_begins v.name h.0)
  head_begins (Call k args) h =
      begins_append (callee_name program.procedures k ++ codes "(" ++ listed (map (argument_text words) args)) (codes ")")
      (begins_append (callee_name program.procedures k ++ codes "(") (listed (map (argument_text words) args)) (begins_append (callee_name program.procedures k) (codes "(") (name_begins (callee_name program.procedures k) h.0)))

  head_row : (a : Statement) → IsStatement program names a → IsRow (head_text words a) (head_tokens (statement_of words program.fields a))
  head_row a h =
      let whole : Whole (head_tokens (statement_of words program.fields a)) = head_whole (statement_of words program.fields a) in
      record { reads = head_reads program names a h; begins = head_begins a h; sound = whole.sound; closed = whole.closed 0 }

  -- a statement and those behind it in its block
  block_text_parts : (k : ℕ) (a : Statement) (b : Block) (rest : List ℕ) → block_text words (indent_of k) (next a b) ++ rest ≡ row k (head_text words a) ++ (inner_text words (indent_of k) a ++ (block_text words (indent_of k) b ++ rest))
  block_text_parts k a b rest =
      append_assoc (row k (head_text words a) ++ inner_text words (indent_of k) a) (block_text words (indent_of k) b) rest
      ∙ append_assoc (row k (head_text words a)) (inner_text words (indent_of k) a) (block_text words (indent_of k) b ++ rest)

  below_block : (k : ℕ) (b : Block) (rest : List ℕ) → IsBlock program names b → Below (suc k) rest → Below (suc k) (block_text words (indent_of (suc k)) b ++ rest)
  below_block k end rest h below = below
  below_block k (next a b) rest h below =
      subst (Below (suc k)) (sym (block_text_parts (suc k) a b rest))
      (below_row (suc k) (head_text words a) (inner_text words (indent_of (suc k)) a ++ (block_text words (indent_of (suc k)) b ++ rest)) (head_tokens (statement_of words program.fields a)) (head_row a h.0) (no_import k (head_text words a)))

  below_else : (k : ℕ) (b : Block) (text rest : List ℕ) → Below (suc k) rest → Below (suc k) (or_else (indent_of (suc k)) b text ++ rest)
  below_else k end text rest below = below
  below_else k (next a b) text rest below =
      subst (Below (suc k)) (sym (append_assoc (row (suc k) (codes "else:")) text rest))
      (below_row (suc k) (codes "else:") (text ++ rest) (t.Word word.Else ∷ t.Sign s.Colon ∷ []) else_row (no_import k (codes "else:")))

  -- a block inside one of nesting k
  abbrev NestedOut : Place → ℕ → Block → List ℕ → ℕ → Type 0
  NestedOut place k b rest line = (m : ℕ) × (text_out place line k (block_text words (indent_of (suc k)) b ++ rest) ≡ t.Indent ∷ (spelling_all (block_of words program.fields b) ++ (t.Dedent ∷ text_out place m k rest)))

  else_out : (place : Place) (k : ℕ) (b : Block) (rest : List ℕ) (line : ℕ) → (IsSome b → (l : ℕ) → NestedOut place (suc k) b rest l) → (m : ℕ) × (text_out place line (suc k) (or_else (indent_of (suc k)) b (block_text words (indent_of (suc (suc k))) b) ++ rest) ≡ spelling_else (block_of words program.fields b) ++ text_out place m (suc k) rest)
  else_out place k end rest line nested = (line, refl)
  else_out place k (next a b) rest line nested =
      let inner : NestedOut place (suc k) (next a b) rest (line + 1) = nested tt (line + 1) in
      let all = spelling_all (block_of words program.fields (next a b)) in (
        inner.0,
        ap (text_out place line (suc k)) (append_assoc (row (suc k) (codes "else:")) (block_text words (indent_of (suc (suc k))) (next a b)) rest)
            ∙ row_after place line zero (suc k) (codes "else:") (block_text words (indent_of (suc (suc k))) (next a b) ++ rest) (t.Word word.Else ∷ t.Sign s.Colon ∷ []) else_row (no_import k (codes "else:"))
            ∙ ap (λ (ts : List Token). t.Word word.Else ∷ t.Sign s.Colon ∷ t.NewLine ∷ ts) inner.1
            ∙ ap (λ (ts : List Token). t.Word word.Else ∷ t.Sign s.Colon ∷ t.NewLine ∷ t.Indent ∷ ts) (sym (append_assoc all (t.Dedent ∷ []) (text_out place inner.0 (suc k) rest))),
      )

  mutual
    inner_out : (a : Statement) → IsStatement program names a → (place : Place) (k : ℕ) (rest : List ℕ) → Below (suc k) rest → (line : ℕ) → (m : ℕ) × (text_out place line (suc k) (inner_text words (indent_of (suc k)) a ++ rest) ≡ inner_tokens (statement_of words program.fields a) ++ text_out place m (suc k) rest)
    inner_out (Assign x is e) h place k rest below line = (line, refl)
    inner_out (Reduce x is e) h place k rest below line = (line, refl)
    inner_out (Config f a) h place k rest below line = (line, refl)
    inner_out Pass h place k rest below line = (line, refl)
    inner_out (If c a b) h place k rest below line =
        let other = or_else (indent_of (suc k)) b (block_text words (indent_of (suc (suc k))) b) in
        let first : NestedOut place (suc k) a (other ++ rest) line = nested_out a h.1 h.2 place (suc k) (other ++ rest) (below_else k b (block_text words (indent_of (suc (suc k))) b) rest below) line in
        let second : (m : ℕ) × (text_out place first.0 (suc k) (other ++ rest) ≡ spelling_else (block_of words program.fields b) ++ text_out place m (suc k) rest) = else_out place k b rest first.0 (λ some l. nested_out b some h.3 place (suc k) rest below l) in (
          second.0,
          ap (text_out place line (suc k)) (append_assoc (block_text words (indent_of (suc (suc k))) a) other rest)
              ∙ first.1
              ∙ ap (λ (ts : List Token). t.Indent ∷ (spelling_all (block_of words program.fields a) ++ (t.Dedent ∷ ts))) second.1
              ∙ ap (λ (ts : List Token). t.Indent ∷ ts) (sym (append_assoc (spelling_all (block_of words program.fields a)) (t.Dedent ∷ spelling_else (block_of words program.fields b)) (text_out place second.0 (suc k) rest))),
        )
    inner_out (For i lo hi b) h place k rest below line =
        let inner : NestedOut place (suc k) b rest line = nested_out b h.3 h.4 place (suc k) rest below line in
        (inner.0, inner.1 ∙ ap (λ (ts : List Token). t.Indent ∷ ts) (sym (append_assoc (spelling_all (block_of words program.fields b)) (t.Dedent ∷ []) (text_out place inner.0 (suc k) rest))))
    inner_out (Alloc x cell dims m) h place k rest below line = (line, refl)
    inner_out (View v x coords) h place k rest below line = (line, refl)
    inner_out (Call f args) h place k rest below line = (line, refl)

    pub block_out : (b : Block) → IsBlock program names b → (place : Place) (k : ℕ) (rest : List ℕ) → Below (suc k) rest → (line : ℕ) → (m : ℕ) × (text_out place line (suc k) (block_text words (indent_of (suc k)) b ++ rest) ≡ spelling_all (block_of words program.fields b) ++ text_out place m (suc k) rest)
    block_out end h place k rest below line = (line, refl)
    block_out (next a b) h place k rest below line =
        let after = block_text words (indent_of (suc k)) b ++ rest in
        let st = statement_of words program.fields a in
        let one : (m : ℕ) × (text_out place (line + 1) (suc k) (inner_text words (indent_of (suc k)) a ++ after) ≡ inner_tokens st ++ text_out place m (suc k) after) = inner_out a h.0 place k after (below_block k b rest h.1 below) (line + 1) in
        let two : (m : ℕ) × (text_out place one.0 (suc k) after ≡ spelling_all (block_of words program.fields b) ++ text_out place m (suc k) rest) = block_out b h.1 place k rest below one.0 in (
          two.0,
          ap (text_out place line (suc k)) (block_text_parts (suc k) a b rest)
              ∙ row_after place line zero (suc k) (head_text words a) (inner_text words (indent_of (suc k)) a ++ after) (head_tokens st) (head_row a h.0) (no_import k (head_text words a))
              ∙ ap (λ (ts : List Token). head_tokens st ++ (t.NewLine ∷ ts)) (one.1 ∙ ap (λ (ts : List Token). inner_tokens st ++ ts) two.1)
              ∙ line_parts (head_tokens st) (inner_tokens st) (spelling_all (block_of words program.fields b)) (text_out place two.0 (suc k) rest)
              ∙ ap (λ (ts : List Token). (ts ++ spelling_all (block_of words program.fields b)) ++ text_out place two.0 (suc k) rest) (sym (spelled_is st)),
        )

    pub nested_out : (b : Block) → IsSome b → IsBlock program names b → (place : Place) (k : ℕ) (rest : List ℕ) → Below k rest → (line : ℕ) → NestedOut place k b rest line
    nested_out end some h place k rest below line = absurd some
    nested_out (next a b) some h place k rest below line =
        let after = block_text words (indent_of (suc k)) b ++ rest in
        let st = statement_of words program.fields a in
        let one : (m : ℕ) × (text_out place (line + 1) (suc k) (inner_text words (indent_of (suc k)) a ++ after) ≡ inner_tokens st ++ text_out place m (suc k) after) = inner_out a h.0 place k after (below_block k b rest h.1 (below_more k rest below)) (line + 1) in
        let two : (m : ℕ) × (text_out place one.0 (suc k) after ≡ spelling_all (block_of words program.fields b) ++ text_out place m (suc k) rest) = block_out b h.1 place k rest (below_more k rest below) one.0 in (
          two.0,
          ap (text_out place line k) (block_text_parts (suc k) a b rest)
              ∙ row_first place line k (head_text words a) (inner_text words (indent_of (suc k)) a ++ after) (head_tokens st) (head_row a h.0)
              ∙ ap (λ (ts : List Token). t.Indent ∷ (head_tokens st ++ (t.NewLine ∷ ts))) (one.1 ∙ ap (λ (ts : List Token). inner_tokens st ++ ts) (two.1 ∙ ap (λ (ts : List Token). spelling_all (block_of words program.fields b) ++ ts) (below place two.0 1)))
              ∙ ap (λ (ts : List Token). t.Indent ∷ ts) (block_parts (head_tokens st) (inner_tokens st) (spelling_all (block_of words program.fields b)) (text_out place two.0 k rest)
              ∙ ap (λ (ts : List Token). (ts ++ spelling_all (block_of words program.fields b)) ++ (t.Dedent ∷ text_out place two.0 k rest)) (sym (spelled_is st))),
        )
