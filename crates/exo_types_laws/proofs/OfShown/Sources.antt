-- What the lines of source trees spell has no fault and closes its brackets.
use Rattle.std.proofs.Common.{◌≡◌, ℕ, List, [], ◌∷◌, ◌++◌, Bool, true, false, Option, Some, None, refl, append_assoc, subst}
use Rattle.text_phrases.specs.Phrase.{Phrase}
use Rattle.text_phrases.specs.Commas.{spell_more, spell_listing}
use Rattle.text_phrases.specs.Sequence.{spell_maybe}
use Rattle.text_lexer.specs.declared.token.Token.{Token}
use Rattle.text_lexer.specs.declared.token.Token.TheVariants as t
use Rattle.text_lexer.specs.declared.token.Sign.TheVariants as s
use Rattle.text_lexer.specs.declared.token.Word.TheVariants as w
use Rattle.text_expressions.specs.Expression.{Tree, spelling, control, operand, control_room, most_depth}
use Rattle.exo_reader.specs.Source.{Coordinate, point, span, Argument, value, window, TypeName, stride, named, Statement, pass, branch, loop, allocate, call, configure, assign, reduce, view, Form, plain, strided, Parameter}
use Rattle.exo_reader.specs.Parts.{spell_enclosed, dims, spell_maybe_dims, spell_type_name, memory, spell_form, parameter}
use Rattle.exo_reader.specs.Statements.{spell_coordinate, coordinate, spell_argument, argument, right}
use Rattle.exo_types_laws.proofs.OfShown.Sound.{Whole, nothing, both, before, in_parens}
use Rattle.exo_types_laws.proofs.OfShown.Sound.{in_brackets, name, comma, tree_whole}

-- the first line of a statement, without its end
abbrev pub head_tokens : Statement → List Token
head_tokens pass = t.Word w.Pass ∷ []
head_tokens (branch c a b) = t.Word w.If ∷ (spelling c ++ (t.Sign s.Colon ∷ []))
head_tokens (loop i low high a) = t.Word w.For ∷ t.Name i ∷ t.Word w.In ∷ t.Word w.Seq ∷ t.Sign s.Open ∷ (spelling low ++ (t.Sign s.Comma ∷ (spelling high ++ (t.Sign s.Close ∷ t.Sign s.Colon ∷ []))))
head_tokens (allocate x kind ds m) = t.Name x ∷ t.Sign s.Colon ∷ (spell_type_name kind ++ (spell_maybe_dims ds ++ spell_maybe memory m))
head_tokens (call f list trailing) = t.Name f ∷ t.Sign s.Open ∷ (spell_enclosed argument list trailing ++ (t.Sign s.Close ∷ []))
head_tokens (configure c f e) = t.Name c ∷ t.Sign s.Dot ∷ t.Name f ∷ t.Sign s.Assign ∷ spelling e
head_tokens (assign x ds e) = t.Name x ∷ (spell_maybe_dims ds ++ (t.Sign s.Assign ∷ spelling e))
head_tokens (reduce x ds e) = t.Name x ∷ (spell_maybe_dims ds ++ (t.Sign s.Reduce ∷ spelling e))
head_tokens (view y x cs) = t.Name y ∷ t.Sign s.Assign ∷ right.spell (window x cs)

more_whole : (T : Type 0) (P : Phrase Token T) → ((x : T) → Whole (P.spell x)) → (xs : List T) (trailing : Bool) → Whole (spell_more P (t.Sign s.Comma) xs trailing)
more_whole T P each [] true = comma [] nothing
more_whole T P each [] false = nothing
more_whole T P each (x ∷ xs) trailing = comma _ (both (P.spell x) _ (each x) (more_whole T P each xs trailing))

listing_whole : (T : Type 0) (P : Phrase Token T) → ((x : T) → Whole (P.spell x)) → (xs : List T) → Whole (spell_listing P (t.Sign s.Comma) xs)
listing_whole T P each [] = nothing
listing_whole T P each (x ∷ xs) = both (P.spell x) _ (each x) (more_whole T P each xs false)

pub enclosed_whole : (T : Type 0) (P : Phrase Token T) → ((x : T) → Whole (P.spell x)) → (xs : List T) (trailing : Bool) → Whole (spell_enclosed P xs trailing)
enclosed_whole T P each [] trailing = nothing
enclosed_whole T P each (x ∷ xs) trailing = both (P.spell x) _ (each x) (more_whole T P each xs trailing)

dims_whole : (ds : List Tree) → Whole (dims.spell ds)
dims_whole ds = in_brackets _ (listing_whole Tree (operand 0 (control_room most_depth)) tree_whole ds)

maybe_dims_whole : (ds : List Tree) → Whole (spell_maybe_dims ds)
maybe_dims_whole [] = nothing
maybe_dims_whole (d ∷ more) = dims_whole (d ∷ more)

memory_whole : (m : Option (List ℕ)) → Whole (spell_maybe memory m)
memory_whole None = nothing
memory_whole (Some x) = before (t.Sign s.At) (t.Name x ∷ []) refl (λ n. refl) (name x [] nothing)

pub kind_whole : (kind : TypeName) → Whole (spell_type_name kind)
kind_whole stride = before (t.Word w.Stride) [] refl (λ n. refl) nothing
kind_whole (named x) = name x [] nothing

coordinate_whole : (c : Coordinate) → Whole (spell_coordinate c)
coordinate_whole (point e) = tree_whole e
coordinate_whole (span a b) = both (spelling a) _ (tree_whole a) (before (t.Sign s.Colon) (spelling b) refl (λ n. refl) (tree_whole b))

argument_whole : (P : Phrase Token Tree) → ((e : Tree) → Whole (P.spell e)) → (a : Argument) → Whole (spell_argument P a)
argument_whole P each (value e) = each e
argument_whole P each (window x cs) = name x _ (in_brackets _ (listing_whole Coordinate coordinate coordinate_whole cs))

loop_parts : (low high : List Token) → (t.Sign s.Open ∷ ((low ++ (t.Sign s.Comma ∷ high)) ++ (t.Sign s.Close ∷ []))) ++ (t.Sign s.Colon ∷ []) ≡ t.Sign s.Open ∷ (low ++ (t.Sign s.Comma ∷ (high ++ (t.Sign s.Close ∷ t.Sign s.Colon ∷ []))))
loop_parts low high = simp append_assoc

colon : Whole (t.Sign s.Colon ∷ [])
colon = before (t.Sign s.Colon) [] refl (λ n. refl) nothing

bounds_whole : (low high : Tree) → Whole (t.Sign s.Open ∷ (spelling low ++ (t.Sign s.Comma ∷ (spelling high ++ (t.Sign s.Close ∷ t.Sign s.Colon ∷ [])))))
bounds_whole low high =
    subst Whole (loop_parts (spelling low) (spelling high))
    (both _ (t.Sign s.Colon ∷ []) (in_parens (spelling low ++ (t.Sign s.Comma ∷ spelling high)) (both (spelling low) _ (tree_whole low) (comma (spelling high) (tree_whole high)))) colon)

pub head_whole : (a : Statement) → Whole (head_tokens a)
head_whole pass = before (t.Word w.Pass) [] refl (λ n. refl) nothing
head_whole (branch c a b) = before (t.Word w.If) _ refl (λ n. refl) (both (spelling c) _ (tree_whole c) colon)
head_whole (loop i low high a) = before (t.Word w.For) _ refl (λ n. refl) (name i _ (before (t.Word w.In) _ refl (λ n. refl) (before (t.Word w.Seq) _ refl (λ n. refl) (bounds_whole low high))))
head_whole (allocate x kind ds m) = name x _ (before (t.Sign s.Colon) _ refl (λ n. refl) (both (spell_type_name kind) _ (kind_whole kind) (both (spell_maybe_dims ds) _ (maybe_dims_whole ds) (memory_whole m))))
head_whole (call f list trailing) = name f _ (in_parens (spell_enclosed argument list trailing) (enclosed_whole Argument argument (argument_whole control tree_whole) list trailing))
head_whole (configure c f e) = name c _ (before (t.Sign s.Dot) _ refl (λ n. refl) (name f _ (before (t.Sign s.Assign) (spelling e) refl (λ n. refl) (tree_whole e))))
head_whole (assign x ds e) = name x _ (both (spell_maybe_dims ds) _ (maybe_dims_whole ds) (before (t.Sign s.Assign) (spelling e) refl (λ n. refl) (tree_whole e)))
head_whole (reduce x ds e) = name x _ (both (spell_maybe_dims ds) _ (maybe_dims_whole ds) (before (t.Sign s.Reduce) (spelling e) refl (λ n. refl) (tree_whole e)))
head_whole (view y x cs) = name y _ (before (t.Sign s.Assign) _ refl (λ n. refl) (name x _ (in_brackets _ (listing_whole Coordinate coordinate coordinate_whole cs))))

form_whole : (f : Form) → Whole (spell_form f)
form_whole (plain kind ds) = both (spell_type_name kind) (spell_maybe_dims ds) (kind_whole kind) (maybe_dims_whole ds)
form_whole (strided kind ds) =
    subst (λ (ts : List Token). Whole (t.Sign s.OpenBracket ∷ ts)) (append_assoc (spell_type_name kind) (t.Sign s.CloseBracket ∷ []) (dims.spell ds))
    (both (t.Sign s.OpenBracket ∷ (spell_type_name kind ++ (t.Sign s.CloseBracket ∷ []))) (dims.spell ds) (in_brackets (spell_type_name kind) (kind_whole kind)) (dims_whole ds))

pub parameter_whole : (p : Parameter) → Whole (parameter.spell p)
parameter_whole p = name p.name _ (before (t.Sign s.Colon) _ refl (λ n. refl) (both (spell_form p.form) _ (form_whole p.form) (memory_whole p.memory)))
