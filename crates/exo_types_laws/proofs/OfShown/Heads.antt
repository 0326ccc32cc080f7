-- The text of the lines of a procedure is read as its source tree spells them.
use Rattle.std.proofs.Common.{◌≡◌, ℕ, List, [], ◌∷◌, ◌++◌, map, Bool, true, false, cond, eqb, Some, None, codes, slice_get, refl, ap, append_assoc, arith}
use Rattle.text_phrases.specs.Phrase.{Phrase}
use Rattle.text_phrases.specs.Commas.{spell_more, spell_listing}
use Rattle.text_phrases.specs.Sequence.{spell_maybe}
use Rattle.exo_tree.specs.Tree as tree
use Rattle.exo_tree.specs.Tree.{Cell, Kind, Control, Coord, At, Span, Argument, ControlArg, ConditionArg, Whole, Window, Statement, Assign, Reduce, Config, Pass, If, For, Alloc, View, Call, ParamKind, ControlParam, TensorParam, WindowParam, Param, Program}
use Rattle.exo_tree.specs.Named.{cell_word}
use Rattle.text_lexer.specs.declared.token.Token.{Token}
use Rattle.text_lexer.specs.declared.token.Token.TheVariants as t
use Rattle.text_lexer.specs.declared.token.Sign.TheVariants as s
use Rattle.text_lexer.specs.declared.token.Word.TheVariants as word
use Rattle.text_expressions.specs.Expression.{Tree, trees, spelling, spelling_more, control, operand, control_room, most_depth}
use Rattle.exo_reader.specs.Source as source
use Rattle.exo_reader.specs.Parts.{spell_enclosed, spell_maybe_dims, spell_type_name, memory, spell_form, parameter}
use Rattle.exo_reader.specs.Statements.{spell_coordinate, coordinate, coordinates, spell_argument, argument}
use Rattle.text_show.specs.Layout.{Text, listed, bracketed, loop_text}
use Rattle.text_show.specs.Words.{Words, words_with, kind_word, memory_name, callee_name}
use Rattle.text_show.specs.ControlText.{control_text, condition_text, indices_text, access_text, coord_text, window_text}
use Rattle.text_show.specs.StatementText.{argument_text, memory_text, extent_text, head_text}
use Rattle.text_show.specs.ProcedureText.{type_text, param_text}
use Rattle.exo_types_laws.specs.Shown.Names.{IsName, Each}
use Rattle.exo_types_laws.specs.Shown.Written.{access_tree, has_span, kind_name, control_tree}
use Rattle.exo_types_laws.specs.Shown.Written.{coordinate_of, low_tree, argument_of, stored_tree}
use Rattle.exo_types_laws.specs.Shown.Written.{memory_of, statement_of, form_of, param_memory}
use Rattle.exo_types_laws.specs.Shown.Written.{parameter_of}
use Rattle.exo_types_laws.specs.Shown.Writable.{HasSome, IsControl, IsAccess, IsCoord, IsArgument}
use Rattle.exo_types_laws.specs.Shown.Writable.{IsStored, IsMemory, IsStatement, IsParamKind}
use Rattle.exo_types_laws.specs.Shown.Writable.{IsParam}
use Rattle.exo_types_laws.proofs.OfShown.Pieces.{Free, Any, Reads, IsOperator, join, spelled_as}
use Rattle.exo_types_laws.proofs.OfShown.Pieces.{weaker, named, name_reads, open_reads, close_reads}
use Rattle.exo_types_laws.proofs.OfShown.Pieces.{open_bracket_reads, close_bracket_reads}
use Rattle.exo_types_laws.proofs.OfShown.Pieces.{colon_reads, open_goes, comma_blank, assign_is}
use Rattle.exo_types_laws.proofs.OfShown.Pieces.{reduce_is, between_reads, more_tokens}
use Rattle.exo_types_laws.proofs.OfShown.Pieces.{listed_reads, bracketed_reads}
use Rattle.exo_types_laws.proofs.OfShown.Expressions.{empty_reads, field_by, control_tokens}
use Rattle.exo_types_laws.proofs.OfShown.Expressions.{control_reads, condition_reads, datum_reads}
use Rattle.exo_types_laws.proofs.OfShown.Expressions.{each_control}
use Rattle.exo_types_laws.proofs.OfShown.Sources.{head_tokens}

colon_is : IsOperator (codes ":") (t.Sign s.Colon)
colon_is = record { line = (refl, tt); goes = λ rest. refl }

colon_blank : Reads Any (codes ": ") (t.Sign s.Colon ∷ [])
colon_blank = record { line = (refl, (refl, tt)); goes = λ rest any. refl }

if_reads : Reads Any (codes "if ") (t.Word word.If ∷ [])
if_reads = record { line = (refl, (refl, (refl, tt))); goes = λ rest any. refl }

for_reads : Reads Any (codes "for ") (t.Word word.For ∷ [])
for_reads = record { line = (refl, (refl, (refl, (refl, tt)))); goes = λ rest any. refl }

in_seq_reads : Reads Any (codes " in seq(") (t.Word word.In ∷ t.Word word.Seq ∷ t.Sign s.Open ∷ [])
in_seq_reads = record { line = (refl, (refl, (refl, (refl, (refl, (refl, (refl, (refl, tt)))))))); goes = λ rest any. ap (λ (ts : List Token). t.Word word.In ∷ t.Word word.Seq ∷ ts) (open_goes rest) }

at_reads : Reads Any (codes " @ ") (t.Sign s.At ∷ [])
at_reads = record { line = (refl, (refl, (refl, tt))); goes = λ rest any. refl }

pub close_colon : Reads Any (codes "):") (t.Sign s.Close ∷ t.Sign s.Colon ∷ [])
close_colon = join Any Any (codes ")") (codes ":") (t.Sign s.Close ∷ []) (t.Sign s.Colon ∷ []) close_reads (λ rest any. tt) colon_reads

spell_more_is : (A T : Type 0) (P : Phrase Token T) (h : A → T) (xs : List A) → more_tokens (λ x. P.spell (h x)) xs ≡ spell_more P (t.Sign s.Comma) (map h xs) false
spell_more_is A T P h [] = refl
spell_more_is A T P h (x ∷ xs) = ap (λ (ts : List Token). t.Sign s.Comma ∷ (P.spell (h x) ++ ts)) (spell_more_is A T P h xs)

-- items with commas between them, as the grammar has them between parentheses
pub enclosed_reads : (A T : Type 0) (f : A → Text) (P : Phrase Token T) (h : A → T) (xs : List A) → Each (λ x. Reads Free (f x) (P.spell (h x))) xs → Reads Free (listed (map f xs)) (spell_enclosed P (map h xs) false)
enclosed_reads A T f P h [] each = empty_reads
enclosed_reads A T f P h (x ∷ xs) each =
    spelled_as Free (listed (map f (x ∷ xs))) _ _ (ap (λ (ts : List Token). P.spell (h x) ++ ts) (spell_more_is A T P h xs)) (listed_reads A f (λ y. P.spell (h y)) x xs each)

-- and between brackets
brackets_read : (A T : Type 0) (f : A → Text) (P : Phrase Token T) (h : A → T) (x : A) (xs : List A) → Each (λ y. Reads Free (f y) (P.spell (h y))) (x ∷ xs) → Reads Any (bracketed (map f (x ∷ xs))) (t.Sign s.OpenBracket ∷ (spell_listing P (t.Sign s.Comma) (map h (x ∷ xs)) ++ (t.Sign s.CloseBracket ∷ [])))
brackets_read A T f P h x xs each = bracketed_reads (listed (map f (x ∷ xs))) (spell_listing P (t.Sign s.Comma) (map h (x ∷ xs))) (enclosed_reads A T f P h (x ∷ xs) each)

free_brackets : (us : List Text) (rest : List ℕ) → Free rest → Free (bracketed us ++ rest)
free_brackets [] rest free = free
free_brackets (u ∷ us) rest free = (refl, refl)

cell_reads : (cell : Cell) → Reads Free (cell_word cell) (t.Name (cell_word cell) ∷ [])
cell_reads tree.I8 = named (codes "i8") refl (refl, (refl, tt))
cell_reads tree.I16 = named (codes "i16") refl (refl, (refl, (refl, tt)))
cell_reads tree.I32 = named (codes "i32") refl (refl, (refl, (refl, tt)))
cell_reads tree.Ui8 = named (codes "ui8") refl (refl, (refl, (refl, tt)))

kind_reads : (kind : Kind) → Reads Free (kind_word kind) (spell_type_name (kind_name kind))
kind_reads tree.Size = named (codes "size") refl (refl, (refl, (refl, (refl, tt))))
kind_reads tree.Index = named (codes "index") refl (refl, (refl, (refl, (refl, (refl, tt)))))
kind_reads tree.Truth = named (codes "bool") refl (refl, (refl, (refl, (refl, tt))))
kind_reads tree.Stride = named (codes "stride") refl (refl, (refl, (refl, (refl, (refl, (refl, tt))))))

memory_by : (q : Bool) (x : Text) → (q ≡ false → IsName x) → Reads Free (cond q [] (codes " @ " ++ x)) (spell_maybe memory (cond q None (Some x)))
memory_by true x is = empty_reads
memory_by false x is = join Any Free (codes " @ ") x (t.Sign s.At ∷ []) (t.Name x ∷ []) at_reads (λ rest free. tt) (name_reads x (is refl))

free_memory_by : (q : Bool) (x : Text) (rest : List ℕ) → Free rest → Free (cond q [] (codes " @ " ++ x) ++ rest)
free_memory_by true x rest free = free
free_memory_by false x rest free = (refl, refl)

module _ (program : Program) (names : ℕ → Text) where
  abbrev words : Words
  words = words_with program names

  dims_read : (is : List Control) → Each (IsControl program names) is → Reads Free (indices_text words is) (spell_maybe_dims (map (control_tree words program.fields) is))
  dims_read [] h = empty_reads
  dims_read (e ∷ is) h = weaker _ _ (brackets_read Control Tree (control_text words) (operand 0 (control_room most_depth)) (control_tree words program.fields) e is (each_control program names (e ∷ is) h))

  cell_access : (x : ℕ) (is : List Control) → IsAccess program names x is → Reads Free (access_text words x is) (t.Name (names x) ∷ spell_maybe_dims (map (control_tree words program.fields) is))
  cell_access x is h = join Free Free (names x) (indices_text words is) (t.Name (names x) ∷ []) _ (name_reads (names x) h.0) (free_brackets (map (control_text words) is)) (dims_read is h.1)

  extent_reads : (dims : List Control) (m : ℕ) → Each (IsControl program names) dims → IsMemory program names m → Reads Free (extent_text words dims m) (spell_maybe_dims (map (control_tree words program.fields) dims) ++ spell_maybe memory (memory_of words program.fields m))
  extent_reads dims m h k = join Free Free (indices_text words dims) (memory_text words m) _ _ (dims_read dims h) (free_memory_by (eqb m 0) (memory_name program.memories m)) (memory_by (eqb m 0) (memory_name program.memories m) k)

  free_extent : (dims : List Control) (m : ℕ) (rest : List ℕ) → Free rest → Free (extent_text words dims m ++ rest)
  free_extent [] m rest free = free_memory_by (eqb m 0) (memory_name program.memories m) rest free
  free_extent (d ∷ dims) m rest free = (refl, refl)

  coord_reads : (c : Coord) → IsCoord program names c → Reads Free (coord_text words c) (spell_coordinate (coordinate_of words program.fields c))
  coord_reads (At a) h = control_reads program names a h
  coord_reads (Span a b) h =
      spelled_as Free _ _ _ (append_assoc (control_tokens program names a) (t.Sign s.Colon ∷ []) (control_tokens program names b))
      (join Any Free (control_text words a ++ codes ":") (control_text words b) _ _ (join Free Any (control_text words a) (codes ":") _ (t.Sign s.Colon ∷ []) (control_reads program names a h.0) (λ rest any. (refl, refl)) colon_reads) (λ rest free. tt) (control_reads program names b h.1))

  each_coord : (cs : List Coord) → Each (IsCoord program names) cs → Each (λ c. Reads Free (coord_text words c) (spell_coordinate (coordinate_of words program.fields c))) cs
  each_coord [] h = tt
  each_coord (c ∷ cs) h = (coord_reads c h.0, each_coord cs h.1)

  window_reads : (x : ℕ) (coords : List Coord) → IsName (names x) → Each (IsCoord program names) coords → HasSome coords → Reads Free (window_text words x coords) (t.Name (names x) ∷ t.Sign s.OpenBracket ∷ (coordinates.spell (map (coordinate_of words program.fields) coords) ++ (t.Sign s.CloseBracket ∷ [])))
  window_reads x [] name h some = absurd some
  window_reads x (c ∷ cs) name h some =
      weaker _ _ (join Free Any (names x) (bracketed (map (coord_text words) (c ∷ cs))) (t.Name (names x) ∷ []) _ (name_reads (names x) name) (λ rest any. (refl, refl))
      (brackets_read Coord source.Coordinate (coord_text words) coordinate (coordinate_of words program.fields) c cs (each_coord (c ∷ cs) h)))

  -- where all coordinates are points, they are indices
  points_are : (cs : List Coord) → has_span cs ≡ false → spell_more coordinate (t.Sign s.Comma) (map (coordinate_of words program.fields) cs) false ≡ spelling_more (trees (map (low_tree words program.fields) cs))
  points_are [] e = refl
  points_are (At a ∷ cs) e = ap (λ (ts : List Token). t.Sign s.Comma ∷ (control_tokens program names a ++ ts)) (points_are cs e)
  points_are (Span a b ∷ cs) e = absurd (grind (arith, e))

  first_point : (c : Coord) (cs : List Coord) → has_span (c ∷ cs) ≡ false → coordinates.spell (map (coordinate_of words program.fields) (c ∷ cs)) ≡ spelling (low_tree words program.fields c) ++ spelling_more (trees (map (low_tree words program.fields) cs))
  first_point (At a) cs e = ap (λ (ts : List Token). control_tokens program names a ++ ts) (points_are cs e)
  first_point (Span a b) cs e = absurd (grind (arith, e))

  window_is : (x : ℕ) (coords : List Coord) (q : Bool) → has_span coords ≡ q → HasSome coords → t.Name (names x) ∷ t.Sign s.OpenBracket ∷ (coordinates.spell (map (coordinate_of words program.fields) coords) ++ (t.Sign s.CloseBracket ∷ []))
      ≡ spell_argument control (cond q (source.window (names x) (map (coordinate_of words program.fields) coords)) (source.value (access_tree (names x) (map (low_tree words program.fields) coords))))
  window_is x coords true e some = refl
  window_is x [] false e some = absurd some
  window_is x (c ∷ cs) false e some = ap (λ (ts : List Token). t.Name (names x) ∷ t.Sign s.OpenBracket ∷ (ts ++ (t.Sign s.CloseBracket ∷ []))) (first_point c cs e)

  argument_reads : (a : Argument) → IsArgument program names a → Reads Free (argument_text words a) (spell_argument control (argument_of words program.fields a))
  argument_reads (ControlArg e) h = control_reads program names e h
  argument_reads (ConditionArg c) h = condition_reads program names c h
  argument_reads (Whole x) h = name_reads (names x) h
  argument_reads (Window x coords) h = spelled_as Free (window_text words x coords) _ _ (window_is x coords (has_span coords) refl h.2) (window_reads x coords h.0 h.1 h.2)

  each_argument : (args : List Argument) → Each (IsArgument program names) args → Each (λ a. Reads Free (argument_text words a) (spell_argument control (argument_of words program.fields a))) args
  each_argument [] h = tt
  each_argument (a ∷ args) h = (argument_reads a h.0, each_argument args h.1)

  stored_reads : (a : Argument) → IsStored program names a → Reads Free (argument_text words a) (spelling (stored_tree words program.fields a))
  stored_reads (ControlArg e) h = control_reads program names e h
  stored_reads (ConditionArg c) h = condition_reads program names c h
  stored_reads (Whole x) h = absurd h
  stored_reads (Window x coords) h = absurd h

  some_span : (coords : List Coord) → has_span coords ≡ true → HasSome coords
  some_span [] e = absurd (grind (arith, e))
  some_span (c ∷ cs) e = tt

  loop_tokens : (i : Text) (low high : List Token) → (((((t.Word word.For ∷ []) ++ (t.Name i ∷ [])) ++ (t.Word word.In ∷ t.Word word.Seq ∷ t.Sign s.Open ∷ [])) ++ low) ++ (t.Sign s.Comma ∷ [])) ++ high ++ (t.Sign s.Close ∷ t.Sign s.Colon ∷ []) ≡ t.Word word.For ∷ t.Name i ∷ t.Word word.In ∷ t.Word word.Seq ∷ t.Sign s.Open ∷ (low ++ (t.Sign s.Comma ∷ (high ++ (t.Sign s.Close ∷ t.Sign s.Colon ∷ []))))
  loop_tokens i low high = simp append_assoc

  loop_reads : (i lo hi : Text) (low high : List Token) → IsName i → Reads Free lo low → Reads Free hi high → Reads Free (loop_text i lo hi) (t.Word word.For ∷ t.Name i ∷ t.Word word.In ∷ t.Word word.Seq ∷ t.Sign s.Open ∷ (low ++ (t.Sign s.Comma ∷ (high ++ (t.Sign s.Close ∷ t.Sign s.Colon ∷ [])))))
  loop_reads i lo hi low high name l h =
      let one : Reads Free (codes "for " ++ i) _ = join Any Free (codes "for ") i _ _ for_reads (λ rest free. tt) (name_reads i name) in
      let two : Reads Any (codes "for " ++ i ++ codes " in seq(") _ = join Free Any (codes "for " ++ i) (codes " in seq(") _ _ one (λ rest any. (refl, refl)) in_seq_reads in
      let three : Reads Free (codes "for " ++ i ++ codes " in seq(" ++ lo) _ = join Any Free (codes "for " ++ i ++ codes " in seq(") lo _ _ two (λ rest free. tt) l in
      let four : Reads Any (codes "for " ++ i ++ codes " in seq(" ++ lo ++ codes ", ") _ = join Free Any (codes "for " ++ i ++ codes " in seq(" ++ lo) (codes ", ") _ _ three (λ rest any. (refl, refl)) comma_blank in
      let five : Reads Free (codes "for " ++ i ++ codes " in seq(" ++ lo ++ codes ", " ++ hi) _ = join Any Free (codes "for " ++ i ++ codes " in seq(" ++ lo ++ codes ", ") hi _ _ four (λ rest free. tt) h in
      spelled_as Free (loop_text i lo hi) _ _ (loop_tokens i low high) (weaker _ _ (join Free Any (codes "for " ++ i ++ codes " in seq(" ++ lo ++ codes ", " ++ hi) (codes "):") _ _ five (λ rest any. (refl, refl)) close_colon))

  call_reads : (f : Text) (args : List Argument) → IsName f → Each (IsArgument program names) args → Reads Free (f ++ codes "(" ++ listed (map (argument_text words) args) ++ codes ")") (t.Name f ∷ t.Sign s.Open ∷ (spell_enclosed argument (map (argument_of words program.fields) args) false ++ (t.Sign s.Close ∷ [])))
  call_reads f args name h =
      let one : Reads Any (f ++ codes "(") (t.Name f ∷ t.Sign s.Open ∷ []) = join Free Any f (codes "(") _ _ (name_reads f name) (λ rest any. (refl, refl)) open_reads in
      let two : Reads Free (f ++ codes "(" ++ listed (map (argument_text words) args)) (t.Name f ∷ t.Sign s.Open ∷ spell_enclosed argument (map (argument_of words program.fields) args) false) =
      join Any Free (f ++ codes "(") (listed (map (argument_text words) args)) _ _ one (λ rest free. tt) (enclosed_reads Argument source.Argument (argument_text words) argument (argument_of words program.fields) args (each_argument args h)) in
      weaker _ _ (join Free Any (f ++ codes "(" ++ listed (map (argument_text words) args)) (codes ")") _ _ two (λ rest any. (refl, refl)) close_reads)

  pub head_reads : (a : Statement) → IsStatement program names a → Reads Free (head_text words a) (head_tokens (statement_of words program.fields a))
  head_reads (Assign x is e) h = between_reads Free _ (codes "=") _ _ _ (t.Sign s.Assign) (cell_access x is h.0) assign_is (datum_reads program names e h.1)
  head_reads (Reduce x is e) h = between_reads Free _ (codes "+=") _ _ _ (t.Sign s.Reduce) (cell_access x is h.0) reduce_is (datum_reads program names e h.1)
  head_reads (Config f a) h = between_reads Free _ (codes "=") _ _ _ (t.Sign s.Assign) (field_by f (slice_get program.fields f) h.0) assign_is (stored_reads a h.1)
  head_reads Pass h = named (codes "pass") refl (refl, (refl, (refl, (refl, tt))))
  head_reads (If c a b) h = weaker _ _ (join Free Any (codes "if " ++ condition_text words c) (codes ":") _ (t.Sign s.Colon ∷ []) (join Any Free (codes "if ") (condition_text words c) _ _ if_reads (λ rest free. tt) (condition_reads program names c h.0)) (λ rest any. (refl, refl)) colon_reads)
  head_reads (For i lo hi b) h = loop_reads i.name (control_text words lo) (control_text words hi) _ _ h.0 (control_reads program names lo h.1) (control_reads program names hi h.2)
  head_reads (Alloc x cell dims m) h =
      between_reads Free x.name (codes ":") (cell_word cell ++ extent_text words dims m) (t.Name x.name ∷ []) _ (t.Sign s.Colon) (name_reads x.name h.0) colon_is
      (join Free Free (cell_word cell) (extent_text words dims m) (t.Name (cell_word cell) ∷ []) _ (cell_reads cell) (free_extent dims m) (extent_reads dims m h.1 h.2))
  head_reads (View v x coords) h = between_reads Free v.name (codes "=") (window_text words x coords) (t.Name v.name ∷ []) _ (t.Sign s.Assign) (name_reads v.name h.0) assign_is (window_reads x coords h.1 h.2 (some_span coords h.3))
  head_reads (Call k args) h = call_reads (callee_name program.procedures k) args h.0 h.1

  -- ---- parameters

  type_reads : (kind : ParamKind) → IsParamKind program names kind → Reads Free (type_text words kind) (spell_form (form_of words program.fields kind) ++ spell_maybe memory (param_memory words program.fields kind))
  type_reads (ControlParam kind) h = spelled_as Free (kind_word kind) _ _ (kind_alone kind) (kind_reads kind)
    where
      kind_alone : (kind : Kind) → spell_type_name (kind_name kind) ≡ (spell_type_name (kind_name kind) ++ []) ++ []
      kind_alone tree.Size = refl
      kind_alone tree.Index = refl
      kind_alone tree.Truth = refl
      kind_alone tree.Stride = refl
  type_reads (TensorParam cell dims m) h = join Free Free (cell_word cell) (extent_text words dims m) (t.Name (cell_word cell) ∷ []) _ (cell_reads cell) (free_extent dims m) (extent_reads dims m h.0 h.1)
  type_reads (WindowParam cell [] m) h = absurd h.1
  type_reads (WindowParam cell (d ∷ dims) m) h =
      let one : Reads Free (codes "[" ++ cell_word cell) (t.Sign s.OpenBracket ∷ t.Name (cell_word cell) ∷ []) = join Any Free (codes "[") (cell_word cell) _ _ open_bracket_reads (λ rest free. tt) (cell_reads cell) in
      let two : Reads Any (codes "[" ++ cell_word cell ++ codes "]") (t.Sign s.OpenBracket ∷ t.Name (cell_word cell) ∷ t.Sign s.CloseBracket ∷ []) = join Free Any (codes "[" ++ cell_word cell) (codes "]") _ _ one (λ rest any. (refl, refl)) close_bracket_reads in
      join Any Free (codes "[" ++ cell_word cell ++ codes "]") (extent_text words (d ∷ dims) m) _ _ two (λ rest free. tt) (extent_reads (d ∷ dims) m h.0 h.2)

  pub param_reads : (p : Param) → IsParam program names p → Reads Free (param_text words p) (parameter.spell (parameter_of words program.fields p))
  param_reads p h =
      join Any Free (p.binder.name ++ codes ": ") (type_text words p.kind) (t.Name p.binder.name ∷ t.Sign s.Colon ∷ []) _
      (join Free Any p.binder.name (codes ": ") _ _ (name_reads p.binder.name h.0) (λ rest any. (refl, refl)) colon_blank) (λ rest free. tt) (type_reads p.kind h.1)

  pub each_param : (ps : List Param) → Each (IsParam program names) ps → Each (λ p. Reads Free (param_text words p) (parameter.spell (parameter_of words program.fields p))) ps
  each_param [] h = tt
  each_param (p ∷ ps) h = (param_reads p h.0, each_param ps h.1)
