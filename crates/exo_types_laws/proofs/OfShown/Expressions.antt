-- The text of expressions is read as their source trees spell them.
use Rattle.std.proofs.Common.{◌≡◌, ℕ, ◌<◌, ℤ, pos, negsuc, List, [], ◌∷◌, ◌++◌, map, Bool, true, false, cond, ltb, Option, Some, None, codes, slice_get, refl, sym, ap, append_assoc, append-nil, decimal}
use Rattle.std.specs.Fmt.{signed_decimal}
use Rattle.exo_tree.specs.Tree as tree
use Rattle.exo_tree.specs.Tree.{Control, Lit, Var, Field, StrideOf, Neg, Add, Sub, Mul, Div, Mod, Condition, Flag, FieldFlag, Lt, Le, Gt, Ge, Eq, And, Or, Datum, Const, Read, Negated, Relu, Plus, Minus, Times, Select, ConfigField, Program}
use Rattle.text_lexer.specs.declared.token.Literal.TheVariants.{Value}
use Rattle.text_lexer.specs.declared.token.Token.{Token}
use Rattle.text_lexer.specs.declared.token.Token.TheVariants as t
use Rattle.text_lexer.specs.declared.token.Sign.TheVariants as s
use Rattle.text_lexer.specs.declared.token.Word.TheVariants as word
use Rattle.text_expressions.specs.Expression.{Tree, parens, trees, spelling, spelling_more}
use Rattle.text_show.specs.Layout.{Text, operand, listed, bracketed}
use Rattle.text_show.specs.Names.{unknown}
use Rattle.text_show.specs.Words.{Words, words_with}
use Rattle.text_show.specs.ControlText.{precedence_of, control_text, condition_precedence, condition_text, access_text}
use Rattle.text_show.specs.DatumText.{datum_precedence, datum_text}
use Rattle.text_show.specs.declared.precedence.TheConstants.{DISJUNCTION, CONJUNCTION, COMPARISON, SUM, PRODUCT, UNARY}
use Rattle.exo_types_laws.specs.Shown.Names.{IsName, Each}
use Rattle.exo_types_laws.specs.Shown.Written.{literal_tree, placed, access_tree, config_of}
use Rattle.exo_types_laws.specs.Shown.Written.{field_of, control_tree, condition_tree, datum_tree}
use Rattle.exo_types_laws.specs.Shown.Writable.{IsLiteral, HasNames, IsControl, IsCondition}
use Rattle.exo_types_laws.specs.Shown.Writable.{IsAccess, IsDatum}
use Rattle.exo_types_laws.proofs.OfShown.Pieces.{Free, Any, Reads, join, spelled_as, weaker, named}
use Rattle.exo_types_laws.proofs.OfShown.Pieces.{name_reads, number_reads, open_reads, close_reads}
use Rattle.exo_types_laws.proofs.OfShown.Pieces.{dot_reads, minus_reads, comma_blank, plus_is}
use Rattle.exo_types_laws.proofs.OfShown.Pieces.{binary_minus_is, times_is, divide_is, modulo_is}
use Rattle.exo_types_laws.proofs.OfShown.Pieces.{less_is, less_equal_is, greater_is}
use Rattle.exo_types_laws.proofs.OfShown.Pieces.{greater_equal_is, equal_is, and_word_is}
use Rattle.exo_types_laws.proofs.OfShown.Pieces.{or_word_is, between_reads, more_tokens}
use Rattle.exo_types_laws.proofs.OfShown.Pieces.{listed_reads, bracketed_reads, wrapped_reads}

pub empty_reads : Reads Free [] []
empty_reads = record { line = tt; goes = λ rest free. refl }

literal_reads : (n : ℤ) → IsLiteral n → Reads Free (signed_decimal n) (spelling (literal_tree n))
literal_reads (pos n) small = number_reads n small
literal_reads (negsuc n) small = absurd small

placed_by : (q : Bool) (x : Text) (e : Tree) → Reads Free x (spelling e) → Reads Free (cond q (codes "(" ++ x ++ codes ")") x) (spelling (cond q (parens e) e))
placed_by true x e r = weaker (codes "(" ++ x ++ codes ")") _ (wrapped_reads x (spelling e) r)
placed_by false x e r = r

placed_reads : (place precedence : ℕ) (x : Text) (e : Tree) → Reads Free x (spelling e) → Reads Free (operand place precedence x) (spelling (placed place precedence e))
placed_reads place precedence x e r = placed_by (ltb precedence place) x e r

abbrev pub field_text : ℕ → Option ConfigField → Text
field_text f None = unknown f
field_text f (Some x) = x.config ++ codes "." ++ x.name

pub field_by : (f : ℕ) (o : Option ConfigField) → HasNames o → Reads Free (field_text f o) (t.Name (config_of f o) ∷ t.Sign s.Dot ∷ t.Name (field_of f o) ∷ [])
field_by f None h = absurd h
field_by f (Some x) h =
    join Any Free (x.config ++ codes ".") x.name (t.Name x.config ∷ t.Sign s.Dot ∷ []) (t.Name x.name ∷ [])
    (join Free Any x.config (codes ".") (t.Name x.config ∷ []) (t.Sign s.Dot ∷ []) (name_reads x.config h.0) (λ rest any. (refl, refl)) dot_reads)
    (λ rest free. tt) (name_reads x.name h.1)

stride_open : Reads Any (codes "stride(") (t.Word word.Stride ∷ t.Sign s.Open ∷ [])
stride_open = join Free Any (codes "stride") (codes "(") (t.Word word.Stride ∷ []) (t.Sign s.Open ∷ []) (named (codes "stride") refl (refl, (refl, (refl, (refl, (refl, (refl, tt))))))) (λ rest any. (refl, refl)) open_reads

relu_open : Reads Any (codes "relu(") (t.Word word.Relu ∷ t.Sign s.Open ∷ [])
relu_open = join Free Any (codes "relu") (codes "(") (t.Word word.Relu ∷ []) (t.Sign s.Open ∷ []) (named (codes "relu") refl (refl, (refl, (refl, (refl, tt))))) (λ rest any. (refl, refl)) open_reads

select_open : Reads Any (codes "select(") (t.Word word.Select ∷ t.Sign s.Open ∷ [])
select_open = join Free Any (codes "select") (codes "(") (t.Word word.Select ∷ []) (t.Sign s.Open ∷ []) (named (codes "select") refl (refl, (refl, (refl, (refl, (refl, (refl, tt))))))) (λ rest any. (refl, refl)) open_reads

stride_reads : (x : Text) (k : ℕ) → IsName x → k < 0x80000000 → Reads Free (codes "stride(" ++ x ++ codes ", " ++ decimal k ++ codes ")") (t.Word word.Stride ∷ t.Sign s.Open ∷ t.Name x ∷ t.Sign s.Comma ∷ t.Int (Value k) ∷ t.Sign s.Close ∷ [])
stride_reads x k name small =
    let one : Reads Free (codes "stride(" ++ x) (t.Word word.Stride ∷ t.Sign s.Open ∷ t.Name x ∷ []) = join Any Free (codes "stride(") x _ _ stride_open (λ rest free. tt) (name_reads x name) in
    let two : Reads Any (codes "stride(" ++ x ++ codes ", ") (t.Word word.Stride ∷ t.Sign s.Open ∷ t.Name x ∷ t.Sign s.Comma ∷ []) = join Free Any (codes "stride(" ++ x) (codes ", ") _ _ one (λ rest any. (refl, refl)) comma_blank in
    let three : Reads Free (codes "stride(" ++ x ++ codes ", " ++ decimal k) (t.Word word.Stride ∷ t.Sign s.Open ∷ t.Name x ∷ t.Sign s.Comma ∷ t.Int (Value k) ∷ []) = join Any Free (codes "stride(" ++ x ++ codes ", ") (decimal k) _ _ two (λ rest free. tt) (number_reads k small) in
    weaker _ _ (join Free Any (codes "stride(" ++ x ++ codes ", " ++ decimal k) (codes ")") _ _ three (λ rest any. (refl, refl)) close_reads)

module _ (program : Program) (names : ℕ → Text) where
  abbrev words : Words
  words = words_with program names

  abbrev pub control_tokens : Control → List Token
  control_tokens e = spelling (control_tree words program.fields e)

  -- an operand in its place
  operand_reads : (place : ℕ) (a : Control) → Reads Free (control_text words a) (control_tokens a) → Reads Free (operand place (precedence_of a) (control_text words a)) (spelling (placed place (precedence_of a) (control_tree words program.fields a)))
  operand_reads place a r = placed_reads place (precedence_of a) (control_text words a) (control_tree words program.fields a) r

  pub control_reads : (e : Control) → IsControl program names e → Reads Free (control_text words e) (control_tokens e)
  control_reads (Lit n) h = literal_reads n h
  control_reads (Var x) h = name_reads (names x) h
  control_reads (Field f) h = field_by f (slice_get program.fields f) h
  control_reads (StrideOf x k) h = stride_reads (names x) k h.0 h.1
  control_reads (Neg a) h = join Any Free (codes "-") _ (t.Sign s.Minus ∷ []) _ minus_reads (λ rest free. tt) (operand_reads UNARY a (control_reads a h))
  control_reads (Add a b) h = between_reads Free _ (codes "+") _ _ _ (t.Sign s.Plus) (operand_reads SUM a (control_reads a h.0)) plus_is (operand_reads PRODUCT b (control_reads b h.1))
  control_reads (Sub a b) h = between_reads Free _ (codes "-") _ _ _ (t.Sign s.Minus) (operand_reads SUM a (control_reads a h.0)) binary_minus_is (operand_reads PRODUCT b (control_reads b h.1))
  control_reads (Mul a b) h = between_reads Free _ (codes "*") _ _ _ (t.Sign s.Times) (operand_reads PRODUCT a (control_reads a h.0)) times_is (operand_reads UNARY b (control_reads b h.1))
  control_reads (Div a n) h = between_reads Free _ (codes "/") _ _ _ (t.Sign s.Divide) (operand_reads PRODUCT a (control_reads a h.0)) divide_is (literal_reads n h.1)
  control_reads (Mod a n) h = between_reads Free _ (codes "%") _ _ _ (t.Sign s.Modulo) (operand_reads PRODUCT a (control_reads a h.0)) modulo_is (literal_reads n h.1)

  abbrev pub condition_tokens : Condition → List Token
  condition_tokens c = spelling (condition_tree words program.fields c)

  part_reads : (place : ℕ) (a : Condition) → Reads Free (condition_text words a) (condition_tokens a) → Reads Free (operand place (condition_precedence a) (condition_text words a)) (spelling (placed place (condition_precedence a) (condition_tree words program.fields a)))
  part_reads place a r = placed_reads place (condition_precedence a) (condition_text words a) (condition_tree words program.fields a) r

  pub condition_reads : (c : Condition) → IsCondition program names c → Reads Free (condition_text words c) (condition_tokens c)
  condition_reads tree.True h = named (codes "True") refl (refl, (refl, (refl, (refl, tt))))
  condition_reads tree.False h = named (codes "False") refl (refl, (refl, (refl, (refl, (refl, tt)))))
  condition_reads (Flag x) h = name_reads (names x) h
  condition_reads (FieldFlag f) h = field_by f (slice_get program.fields f) h
  condition_reads (Lt a b) h = between_reads Free _ (codes "<") _ _ _ (t.Sign s.Less) (control_reads a h.0) less_is (control_reads b h.1)
  condition_reads (Le a b) h = between_reads Free _ (codes "<=") _ _ _ (t.Sign s.LessEqual) (control_reads a h.0) less_equal_is (control_reads b h.1)
  condition_reads (Gt a b) h = between_reads Free _ (codes ">") _ _ _ (t.Sign s.Greater) (control_reads a h.0) greater_is (control_reads b h.1)
  condition_reads (Ge a b) h = between_reads Free _ (codes ">=") _ _ _ (t.Sign s.GreaterEqual) (control_reads a h.0) greater_equal_is (control_reads b h.1)
  condition_reads (Eq a b) h = between_reads Free _ (codes "==") _ _ _ (t.Sign s.Equal) (control_reads a h.0) equal_is (control_reads b h.1)
  condition_reads (And a b) h = between_reads Free _ (codes "and") _ _ _ (t.Word word.And) (part_reads CONJUNCTION a (condition_reads a h.0)) and_word_is (part_reads COMPARISON b (condition_reads b h.1))
  condition_reads (Or a b) h = between_reads Free _ (codes "or") _ _ _ (t.Word word.Or) (part_reads DISJUNCTION a (condition_reads a h.0)) or_word_is (part_reads CONJUNCTION b (condition_reads b h.1))

  pub each_control : (is : List Control) → Each (IsControl program names) is → Each (λ e. Reads Free (control_text words e) (control_tokens e)) is
  each_control [] h = tt
  each_control (e ∷ is) h = (control_reads e h.0, each_control is h.1)

  more_is : (is : List Control) → spelling_more (trees (map (control_tree words program.fields) is)) ≡ more_tokens control_tokens is
  more_is [] = refl
  more_is (e ∷ is) = ap (λ (ts : List Token). t.Sign s.Comma ∷ (control_tokens e ++ ts)) (more_is is)

  pub access_reads : (x : ℕ) (is : List Control) → IsAccess program names x is → Reads Free (access_text words x is) (spelling (access_tree (names x) (map (control_tree words program.fields) is)))
  access_reads x [] h = join Free Free (names x) [] (t.Name (names x) ∷ []) [] (name_reads (names x) h.0) (λ rest free. free) empty_reads
  access_reads x (e ∷ is) h =
      spelled_as Free (access_text words x (e ∷ is)) _ _
      (ap (λ (ts : List Token). t.Name (names x) ∷ t.Sign s.OpenBracket ∷ ((control_tokens e ++ ts) ++ (t.Sign s.CloseBracket ∷ []))) (sym (more_is is)))
      (weaker _ _ (join Free Any (names x) (bracketed (map (control_text words) (e ∷ is))) (t.Name (names x) ∷ []) (t.Sign s.OpenBracket ∷ ((control_tokens e ++ more_tokens control_tokens is) ++ (t.Sign s.CloseBracket ∷ [])))
      (name_reads (names x) h.0) (λ rest any. (refl, refl))
      (bracketed_reads (listed (map (control_text words) (e ∷ is))) (control_tokens e ++ more_tokens control_tokens is) (listed_reads Control (control_text words) control_tokens e is (each_control (e ∷ is) h.1)))))

  abbrev pub datum_tokens : Datum → List Token
  datum_tokens e = spelling (datum_tree words program.fields e)

  side_reads : (place : ℕ) (a : Datum) → Reads Free (datum_text words a) (datum_tokens a) → Reads Free (operand place (datum_precedence a) (datum_text words a)) (spelling (placed place (datum_precedence a) (datum_tree words program.fields a)))
  side_reads place a r = placed_reads place (datum_precedence a) (datum_text words a) (datum_tree words program.fields a) r

  four_tokens : (a b c d : List Token) → (t.Word word.Select ∷ t.Sign s.Open ∷ (a ++ (t.Sign s.Comma ∷ (b ++ (t.Sign s.Comma ∷ (c ++ (t.Sign s.Comma ∷ (d ++ [])))))))) ++ (t.Sign s.Close ∷ []) ≡ t.Word word.Select ∷ t.Sign s.Open ∷ (a ++ (t.Sign s.Comma ∷ (b ++ (t.Sign s.Comma ∷ (c ++ (t.Sign s.Comma ∷ (d ++ (t.Sign s.Close ∷ []))))))))
  four_tokens a b c d = simp (append_assoc, append-nil)

  select_reads : (a b c d : Datum) → Each (λ e. Reads Free (datum_text words e) (datum_tokens e)) (a ∷ b ∷ c ∷ d ∷ []) → Reads Free (datum_text words (Select a b c d)) (datum_tokens (Select a b c d))
  select_reads a b c d h =
      spelled_as Free (datum_text words (Select a b c d)) _ (datum_tokens (Select a b c d)) (four_tokens (datum_tokens a) (datum_tokens b) (datum_tokens c) (datum_tokens d))
      (weaker _ _ (join Free Any (codes "select(" ++ listed (map (datum_text words) (a ∷ b ∷ c ∷ d ∷ []))) (codes ")") (t.Word word.Select ∷ t.Sign s.Open ∷ (datum_tokens a ++ more_tokens datum_tokens (b ∷ c ∷ d ∷ []))) (t.Sign s.Close ∷ [])
      (join Any Free (codes "select(") (listed (map (datum_text words) (a ∷ b ∷ c ∷ d ∷ []))) (t.Word word.Select ∷ t.Sign s.Open ∷ []) (datum_tokens a ++ more_tokens datum_tokens (b ∷ c ∷ d ∷ [])) select_open (λ rest free. tt) (listed_reads Datum (datum_text words) datum_tokens a (b ∷ c ∷ d ∷ []) h))
      (λ rest any. (refl, refl)) close_reads))

  pub datum_reads : (e : Datum) → IsDatum program names e → Reads Free (datum_text words e) (datum_tokens e)
  datum_reads (Const n) h = literal_reads n h
  datum_reads (Read x is) h = access_reads x is h
  datum_reads (Negated a) h = join Any Free (codes "-") _ (t.Sign s.Minus ∷ []) _ minus_reads (λ rest free. tt) (side_reads UNARY a (datum_reads a h))
  datum_reads (Plus a b) h = between_reads Free _ (codes "+") _ _ _ (t.Sign s.Plus) (side_reads SUM a (datum_reads a h.0)) plus_is (side_reads PRODUCT b (datum_reads b h.1))
  datum_reads (Minus a b) h = between_reads Free _ (codes "-") _ _ _ (t.Sign s.Minus) (side_reads SUM a (datum_reads a h.0)) binary_minus_is (side_reads PRODUCT b (datum_reads b h.1))
  datum_reads (Times a b) h = between_reads Free _ (codes "*") _ _ _ (t.Sign s.Times) (side_reads PRODUCT a (datum_reads a h.0)) times_is (side_reads UNARY b (datum_reads b h.1))
  datum_reads (Relu a) h =
      weaker _ _ (join Free Any (codes "relu(" ++ datum_text words a) (codes ")") (t.Word word.Relu ∷ t.Sign s.Open ∷ datum_tokens a) (t.Sign s.Close ∷ [])
      (join Any Free (codes "relu(") (datum_text words a) (t.Word word.Relu ∷ t.Sign s.Open ∷ []) (datum_tokens a) relu_open (λ rest free. tt) (datum_reads a h)) (λ rest any. (refl, refl)) close_reads)
  datum_reads (Select a b c d) h = select_reads a b c d (datum_reads a h.0, (datum_reads b h.1, (datum_reads c h.2, (datum_reads d h.3, tt))))
