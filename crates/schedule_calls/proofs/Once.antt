-- A line asks for one thing.
use Rattle.std.proofs.Common.{◌≡◌, ℕ, List, [], ◌∷◌, Some, true, false, refl, sym, ap, ap₂}
use Rattle.std.proofs.Common.{subst, ◌∙◌}
use Rattle.text_expressions.specs.Expression.{Tree, control}
use Rattle.exo_reader.specs.Texts.{TextsAreOne}
use Rattle.exo_reader.specs.Strings.{line_tokens_of, window}
use Rattle.exo_reader.specs.Items.{joined}
use Rattle.schedule_text.specs.Tree as tree
use Rattle.schedule_text.specs.Patterns.Grammar.{statement, meant, expression, form_meant}
use Rattle.schedule_text.specs.Patterns.Texts.{PatternsAreOne}
use Rattle.cursor_forward.specs.Search.Patterns.{Pattern, ExprForm, ExprPattern}
use Rattle.schedule_calls.specs.Requests.{Asked, Found, Here, Tail, Division, Window}
use Rattle.schedule_calls.specs.Requests.{Change, WithControl, WithWord, MultLoops, Specialize}
use Rattle.schedule_calls.specs.Requests.{CommuteExpr, BindExpr, ExpandDim, StageMem}
use Rattle.schedule_calls.specs.Requests.{WriteConfig, BindConfig, DivideLoop, EliminateDeadCode}
use Rattle.schedule_calls.specs.Requests.{Operation, At, Rename, Request, Apply, Search}
use Rattle.schedule_calls.specs.Readings.{moves, IsPatternOf, IsExprPatternOf, IsWord}
use Rattle.schedule_calls.specs.Readings.{AsksCursor, under, found, here}
use Rattle.schedule_calls.specs.Readings.{AsksExpression, AsksName, AsksNames, AsksControl}
use Rattle.schedule_calls.specs.Readings.{AsksCondition, AsksEither, AsksWindow, AsksDivision}
use Rattle.schedule_calls.specs.Readings.{AsksChange, alone, with_control, with_word, mult_loops}
use Rattle.schedule_calls.specs.Readings.{specialize, commute_expr, bind_expr, expand_dim}
use Rattle.schedule_calls.specs.Readings.{stage_mem, write_config, bind_config, divide_loop}
use Rattle.schedule_calls.specs.Readings.{eliminate_dead_code, AsksOperation, at, whole, rename}
use Rattle.schedule_calls.specs.Readings.{Asks, apply, search, moved, emit, is_unknown}
use Rattle.schedule_calls.specs.Answers.{LinesAskOnce}
use Rattle.schedule_calls.specs.declared.operator.ChangeOperator.{ChangeOperator}
use Rattle.schedule_calls.specs.declared.operator.OperatorName.{OperatorName}
use Rattle.schedule_calls.proofs.Lines.{is_known}

-- ---- strings

one_pattern : PatternsAreOne statement meant → (pieces : List (List ℕ)) (p q : Pattern) (m n : ℕ) → IsPatternOf pieces p m
    → IsPatternOf pieces q n → (p ≡ q) × (m ≡ n)
one_pattern one pieces p q m n h k = one.value (joined pieces) p q m n h k

one_expression : PatternsAreOne expression form_meant → (pieces : List (List ℕ)) (x y : ExprPattern) → IsExprPatternOf pieces x
    → IsExprPatternOf pieces y → x ≡ y
one_expression law pieces x y h k =
    let one = law.value (joined pieces) x.form y.form x.nth y.nth h k in
    ap₂ (λ (f : ExprForm) (n : ℕ). record { form = f; nth = n }) one.0 one.1

-- ---- arguments

one_word : (a : tree.Argument) (x y : List ℕ) → IsWord a x → IsWord a y → x ≡ y
one_word (tree.cursor (tree.held z [])) x y h k = h ∙ sym k
one_word (tree.cursor (tree.held z (m ∷ ms))) x y h k = absurd h
one_word (tree.cursor (tree.found f)) x y h k = absurd h
one_word (tree.string s) x y h k = absurd h
one_word (tree.int n) x y h k = absurd h
one_word (tree.pair s t) x y h k = absurd h
one_word (tree.key z v) x y h k = absurd h

one_cursor : PatternsAreOne statement meant → (a : tree.Argument) (x y : Asked) → AsksCursor a x → AsksCursor a y → x ≡ y
one_cursor law _ _ _ (under z ms) (under _ _) = refl
one_cursor law _ _ _ (found f p m h) (found _ q n k) =
    let one = one_pattern law f.pattern p q m n h k in
    ap₂ (λ r l. record { source = Found f.version r l; moves = moves f.moves }) one.0 one.1
one_cursor law _ _ _ (here s p m h) (here _ q n k) =
    let one = one_pattern law s p q m n h k in
    ap₂ (λ r l. record { source = Here r l; moves = [] }) one.0 one.1

one_part : PatternsAreOne expression form_meant → (a : tree.Argument) (x y : ExprPattern) → AsksExpression a x → AsksExpression a y
    → x ≡ y
one_part law (tree.string s) x y h k = one_expression law s x y h k
one_part law (tree.cursor c) x y h k = absurd h
one_part law (tree.int n) x y h k = absurd h
one_part law (tree.pair s t) x y h k = absurd h
one_part law (tree.key z v) x y h k = absurd h

one_name : (a : tree.Argument) (x y : List ℕ) → AsksName a x → AsksName a y → x ≡ y
one_name (tree.string s) x y h k = h.0 ∙ sym k.0
one_name (tree.cursor c) x y h k = absurd h
one_name (tree.int n) x y h k = absurd h
one_name (tree.pair s t) x y h k = absurd h
one_name (tree.key z v) x y h k = absurd h

one_control : TextsAreOne control → (a : tree.Argument) (x y : Tree) → AsksControl a x
    → AsksControl a y → x ≡ y
one_control texts (tree.string s) x y h k =
    texts.tree (line_tokens_of (joined s)) x y h.written k.written
one_control texts (tree.cursor c) x y h k = absurd h
one_control texts (tree.int n) x y h k = absurd h
one_control texts (tree.pair s t) x y h k = absurd h
one_control texts (tree.key z v) x y h k = absurd h

one_condition : TextsAreOne control → (a : tree.Argument) (x y : Tree) → AsksCondition a x
    → AsksCondition a y → x ≡ y
one_condition texts (tree.string s) x y h k =
    texts.tree (line_tokens_of (joined s)) x y h.written k.written
one_condition texts (tree.cursor c) x y h k = absurd h
one_condition texts (tree.int n) x y h k = absurd h
one_condition texts (tree.pair s t) x y h k = absurd h
one_condition texts (tree.key z v) x y h k = absurd h

one_either : TextsAreOne control → (a : tree.Argument) (x y : Tree) → AsksEither a x
    → AsksEither a y → x ≡ y
one_either texts (tree.string s) x y h k =
    texts.tree (line_tokens_of (joined s)) x y h.written k.written
one_either texts (tree.cursor c) x y h k = absurd h
one_either texts (tree.int n) x y h k = absurd h
one_either texts (tree.pair s t) x y h k = absurd h
one_either texts (tree.key z v) x y h k = absurd h

one_window : TextsAreOne window → (a : tree.Argument) (x y : Window) → AsksWindow a x
    → AsksWindow a y → x ≡ y
one_window texts (tree.string s) x y h k =
    texts.tree (line_tokens_of (joined s)) x y h.written k.written
one_window texts (tree.cursor c) x y h k = absurd h
one_window texts (tree.int n) x y h k = absurd h
one_window texts (tree.pair s t) x y h k = absurd h
one_window texts (tree.key z v) x y h k = absurd h

-- ---- divisions

same_some : {T : Type 0} (a b : T) → Some a ≡ Some b → a ≡ b
same_some a b h = cc

one_pair : (a : tree.Argument) (x y : List ℕ × List ℕ) → AsksNames a x → AsksNames a y
    → (x.0 ≡ y.0) × (x.1 ≡ y.1)
one_pair (tree.pair s t) x y h k = (h.0.0 ∙ sym k.0.0, h.1.0 ∙ sym k.1.0)
one_pair (tree.string s) x y h k = absurd h
one_pair (tree.cursor c) x y h k = absurd h
one_pair (tree.int n) x y h k = absurd h
one_pair (tree.key z v) x y h k = absurd h

one_division : (by names : tree.Argument) (keys : List tree.Argument) (x y : Division)
    → AsksDivision by names keys x → AsksDivision by names keys y → x ≡ y
one_division by names keys x y h k =
    let number : x.by ≡ y.by = same_some x.by y.by (sym h.by ∙ k.by) in
    let tail : x.tail ≡ y.tail = same_some x.tail y.tail (sym h.tail ∙ k.tail) in
    let pair = one_pair names (x.outer, x.inner) (y.outer, y.inner) h.names k.names in
    ap₂ (λ (n : ℕ) (t : Tail). record { by = n; outer = x.outer; inner = x.inner; tail = t }) number
    tail
    ∙ ap₂ (λ (o i : List ℕ). record { by = y.by; outer = o; inner = i; tail = y.tail }) pair.0 pair.1

-- ---- operations

-- what is known of the strings in lines
record StringsAreOne : Type 0 where
  pub pattern : PatternsAreOne statement meant
  pub part : PatternsAreOne expression form_meant
  pub text : TextsAreOne control
  pub window : TextsAreOne window

one_change : StringsAreOne → (o : ChangeOperator) (args : List tree.Argument) (x y : Change)
    → AsksChange o args x → AsksChange o args y → x ≡ y
one_change one _ _ _ _ (alone o) (alone _) = refl
one_change one _ _ _ _ (with_control o a e h) (with_control _ _ f k) =
    ap (WithControl o) (one_control one.text a e f h k)
one_change one _ _ _ _ (with_word o a v h) (with_word _ _ w k) =
    ap (WithWord o) (one_word a v w h k)
one_change one _ _ _ _ (mult_loops a n h) (mult_loops _ m k) = ap MultLoops (one_name a n m h k)
one_change one _ _ _ _ (specialize a c h) (specialize _ d k) =
    ap Specialize (one_condition one.text a c d h k)
one_change one _ _ _ _ (commute_expr a p h) (commute_expr _ q k) =
    ap CommuteExpr (one_part one.part a p q h k)
one_change one _ _ _ _ (bind_expr a b p n h i) (bind_expr _ _ q m k l) =
    ap₂ BindExpr (one_part one.part a p q h k) (one_name b n m i l)
one_change one _ _ _ _ (expand_dim a b e f h i) (expand_dim _ _ d g k l) =
    ap₂ ExpandDim (one_control one.text a e d h k) (one_control one.text b f g i l)
one_change one _ _ _ _ (stage_mem a b keys w n t h i j) (stage_mem _ _ _ v m u k l r) =
    ap₂ (λ x y. StageMem x y t) (one_window one.window a w v h k) (one_name b n m i l)
    ∙ ap (StageMem v m) (same_some t u (sym j ∙ r))
one_change one _ _ _ _ (write_config a b c v n e h i j) (write_config _ _ _ w m f k l r) =
    ap₂ (λ x y. WriteConfig x y e) (one_word a v w h k) (one_name b n m i l)
    ∙ ap (WriteConfig w m) (one_either one.text c e f j r)
one_change one _ _ _ _ (bind_config a b c x v n h i j) (bind_config _ _ _ y w m k l r) =
    ap₂ (λ p q. BindConfig p q n) (one_name a x y h k) (one_word b v w i l)
    ∙ ap (BindConfig y w) (one_name c n m j r)
one_change one _ _ _ _ (divide_loop a b keys d h) (divide_loop _ _ _ e k) =
    ap DivideLoop (one_division a b keys d e h k)
one_change one _ _ _ _ (eliminate_dead_code keys t h) (eliminate_dead_code _ u k) =
    ap EliminateDeadCode (same_some t u (sym h ∙ k))

one_operation : StringsAreOne → (o : OperatorName) (args : List tree.Argument) (x y : Operation)
    → AsksOperation o args x → AsksOperation o args y → x ≡ y
one_operation one _ _ _ _ (at o a more p c h i) (at _ _ _ q d k l) =
    ap₂ At (one_cursor one.pattern a p q h k) (one_change one o more c d i l)
one_operation one _ _ _ _ (whole o) (whole _) = refl
one_operation one _ _ _ _ (rename a n h) (rename _ m k) = ap Rename (one_name a n m h k)

-- ---- lines

one_request : StringsAreOne → (line : tree.Line) (a b : Request) → Asks line a → Asks line b
    → a ≡ b
one_request one _ _ _ (apply x f u l o a is h k) (apply _ _ v _ p b is_too i j) =
    let same : o ≡ p = same_some o p (sym is ∙ is_too) in
    ap₂ (Apply x) (one_word l.head u v h i)
    (one_operation one p l.more a b (subst (λ q. AsksOperation q l.more a) same k) j)
one_request one _ _ _ (search x f p m h) (search _ _ q n k) =
    let same = one_pattern one.pattern f.pattern p q m n h k in
    ap₂ (λ r l. Search x f.version r l (moves f.moves)) same.0 same.1
one_request one _ _ _ (moved x f m ms) (moved _ _ _ _) = refl
one_request one _ _ _ (emit x) (emit _) = refl

unknown_asks : (line : tree.Line) (a : Request) → is_unknown line ≡ true → Asks line a → ⊥
unknown_asks _ _ is (apply x f u l o a there h k) =
    let e : false ≡ true = sym (is_known x f l o there) ∙ is in cc (e)
unknown_asks _ _ is (search x f p m h) = cc (is)
unknown_asks _ _ is (moved x f m ms) = cc (is)
unknown_asks _ _ is (emit x) = cc (is)

pub lines_ask_once : PatternsAreOne statement meant → PatternsAreOne expression form_meant
    → TextsAreOne control → TextsAreOne window → LinesAskOnce
lines_ask_once pattern part text window = record {
  request = one_request (record { pattern = pattern; part = part; text = text; window = window });
  unknown = unknown_asks;
}
