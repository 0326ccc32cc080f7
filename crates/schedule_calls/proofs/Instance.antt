-- Closed lines, and closed arguments of each form.
use Rattle.std.proofs.Common.{◌≡◌, List, ℕ, Bool, [], ◌∷◌, true, false, Option, Some, None, refl}
use Rattle.std.specs.Prelude.{codes}
use Rattle.text_lexer.specs.declared.token.Literal.TheVariants.{Value}
use Rattle.text_expressions.specs.Expression.{Tree, number, truth, control}
use Rattle.exo_reader.specs.Instance.{TextInstance as ReaderInstance, stops_at}
use Rattle.exo_reader.specs.Strings.{line_tokens_of, line_places_of, window}
use Rattle.exo_reader.specs.Texts.{TextsAreOne}
use Rattle.cursor_forward.specs.Search.Patterns.{Loop, Read}
use Rattle.schedule_text.specs.Patterns.Instance.{TextInstance}
use Rattle.schedule_text.specs.Tree as tree
use Rattle.schedule_text.specs.declared.source.Direction.TheVariants as way
use Rattle.exo_tree.specs.Places.{Branch, Main, Else}
use Rattle.schedule_calls.specs.Requests.{Here, Tail, Guard, CutAndGuard, Perfect, Division}
use Rattle.schedule_calls.specs.Requests.{Change, WithControl, StageMem, Operation, At}
use Rattle.schedule_calls.specs.Keys.{tail_in, keep_in, accum_in}
use Rattle.schedule_calls.specs.Operators.{operator_of}
use Rattle.schedule_calls.specs.Readings.{AsksControl, under, here}
use Rattle.schedule_calls.specs.Readings.{AsksChange, alone, with_control, with_word, mult_loops}
use Rattle.schedule_calls.specs.Readings.{specialize, commute_expr, bind_expr, expand_dim}
use Rattle.schedule_calls.specs.Readings.{stage_mem, write_config, bind_config, divide_loop}
use Rattle.schedule_calls.specs.Readings.{eliminate_dead_code, AsksOperation, at, whole, rename}
use Rattle.schedule_calls.specs.Readings.{Asks, apply, search, moved, emit}
use Rattle.schedule_calls.specs.Instance.{on_p, line_of, asks, held_c, at_c, asks_at_c}
use Rattle.schedule_calls.specs.Instance.{text, word}
use Rattle.schedule_calls.specs.Instance.{divide_line, asks_divided, tail_key, perfect_key}
use Rattle.schedule_calls.specs.Instance.{eliminate_line, asks_eliminated, keep_key, accum_key}
use Rattle.schedule_calls.specs.Instance.{i_to_j, on_c, stage_line, asks_staged}
use Rattle.schedule_calls.specs.Instance.{AsksNothing, LinesInstance, FormsInstance}
use Rattle.schedule_calls.specs.declared.operator.CursorOperator.{CursorOperator}
use Rattle.schedule_calls.specs.declared.operator.CursorOperator.TheVariants.{ReorderLoops}
use Rattle.schedule_calls.specs.declared.operator.CursorOperator.TheVariants.{UnrollLoop}
use Rattle.schedule_calls.specs.declared.operator.ControlOperator.{ControlOperator}
use Rattle.schedule_calls.specs.declared.operator.ControlOperator.TheVariants.{CutLoop, ShiftLoop}
use Rattle.schedule_calls.specs.declared.operator.WholeOperator.TheVariants.{DeletePass}
use Rattle.schedule_calls.specs.declared.operator.ChangeOperator.{ChangeOperator}
use Rattle.schedule_calls.specs.declared.operator.ChangeOperator.TheVariants as kind
use Rattle.schedule_calls.specs.declared.operator.OperatorName.{OperatorName}
use Rattle.schedule_calls.specs.declared.operator.OperatorName.TheVariants as operator
use Rattle.schedule_calls.proofs.Closed.{five, yes}
use Rattle.schedule_calls.proofs.Strings as strings
use Rattle.schedule_calls.proofs.Changes.{no_change, no_division, no_branch}
use Rattle.schedule_calls.proofs.Changes.{no_control, no_condition, no_loop, no_word, no_param}
use Rattle.schedule_calls.proofs.Changes.{no_window, no_accum}
use Rattle.schedule_calls.proofs.Lines.{no_apply, is_known, no_operator}

-- ---- names

-- the operator of each name
record NamesHold : Type 0 where
  pub divide_loop : operator_of (codes "divide_loop") ≡ Some (operator.At kind.DivideLoop)
  pub cut_loop :
      operator_of (codes "cut_loop") ≡ Some (operator.At (kind.WithControl CutLoop))
  pub shift_loop :
      operator_of (codes "shift_loop") ≡ Some (operator.At (kind.WithControl ShiftLoop))
  pub mult_loops : operator_of (codes "mult_loops") ≡ Some (operator.At kind.MultLoops)
  pub unroll_loop :
      operator_of (codes "unroll_loop") ≡ Some (operator.At (kind.Alone UnrollLoop))
  pub reorder_loops :
      operator_of (codes "reorder_loops") ≡ Some (operator.At (kind.Alone ReorderLoops))
  pub specialize : operator_of (codes "specialize") ≡ Some (operator.At kind.Specialize)
  pub eliminate_dead_code :
      operator_of (codes "eliminate_dead_code") ≡ Some (operator.At kind.EliminateDeadCode)
  pub commute_expr : operator_of (codes "commute_expr") ≡ Some (operator.At kind.CommuteExpr)
  pub stage_mem : operator_of (codes "stage_mem") ≡ Some (operator.At kind.StageMem)
  pub rename : operator_of (codes "rename") ≡ Some operator.Rename
  pub delete_pass : operator_of (codes "delete_pass") ≡ Some (operator.Whole DeletePass)
  pub vanish : operator_of (codes "vanish") ≡ None

there : NamesHold
unfolding operator_of
there = record {
  divide_loop = refl;
  cut_loop = refl;
  shift_loop = refl;
  mult_loops = refl;
  unroll_loop = refl;
  reorder_loops = refl;
  specialize = refl;
  eliminate_dead_code = refl;
  commute_expr = refl;
  stage_mem = refl;
  rename = refl;
  delete_pass = refl;
  vanish = refl;
}

-- ---- lines

by_name : (name : List ℕ) (o : OperatorName) (more : List tree.Argument) (x : Operation)
    → operator_of name ≡ Some o → AsksOperation o more x → Asks (line_of name more) (asks x)
by_name name o more x is h = apply (codes "q") name (codes "p") (on_p more) o x is refl h

not_by_name : (name : List ℕ) (o : OperatorName) (more : List tree.Argument)
    → operator_of name ≡ Some o → ((x : Operation) → AsksOperation o more x → ⊥)
    → AsksNothing (line_of name more)
not_by_name name o more is never = record {
  known = is_known (codes "q") name (on_p more) o is;
  none = no_apply (codes "q") name (on_p more) o is never;
}

-- at `c`
at_held : (k : ChangeOperator) (more : List tree.Argument) (x : Change) → AsksChange k more x
    → AsksOperation (operator.At k) (held_c ∷ more) (At at_c x)
at_held k more x h = at k held_c more at_c x (under (codes "c") []) h

by_change : (name : List ℕ) (k : ChangeOperator) (more : List tree.Argument) (x : Change)
    → operator_of name ≡ Some (operator.At k) → AsksChange k more x
    → Asks (line_of name (held_c ∷ more)) (asks_at_c x)
by_change name k more x is h =
    by_name name (operator.At k) (held_c ∷ more) _ is (at_held k more x h)

not_by_change : (name : List ℕ) (k : ChangeOperator) (more : List tree.Argument)
    → operator_of name ≡ Some (operator.At k) → ((x : Change) → AsksChange k more x → ⊥)
    → AsksNothing (line_of name (held_c ∷ more))
not_by_change name k more is never =
    not_by_name name (operator.At k) (held_c ∷ more) is (no_change k held_c more never)

-- ---- no argument, and one too many

none_behind : (o : CursorOperator) (x : Operation) → AsksOperation (operator.At (kind.Alone o)) [] x
    → ⊥
none_behind o x asks = without (operator.At (kind.Alone o)) [] x asks refl refl
  where
    without : (p : OperatorName) (args : List tree.Argument) (y : Operation) → AsksOperation p args y
        → args ≡ [] → p ≡ operator.At (kind.Alone o) → ⊥
    without _ _ _ (at k a more asked change h j) is same = cc (is)
    without _ _ _ (whole w) is same = cc (same)
    without _ _ _ (rename a name h) is same = cc (is)

one_more : (o : CursorOperator) (x : Change) → AsksChange (kind.Alone o) (held_c ∷ []) x → ⊥
one_more o x asks = many (kind.Alone o) (held_c ∷ []) x asks refl refl
  where
    many : (k : ChangeOperator) (args : List tree.Argument) (y : Change) → AsksChange k args y
        → args ≡ held_c ∷ [] → k ≡ kind.Alone o → ⊥
    many _ _ _ (alone p) is same = cc (is)
    many _ _ _ (with_control p a e h) is same = cc (same)
    many _ _ _ (with_word p a w h) is same = cc (same)
    many _ _ _ (mult_loops a n h) is same = cc (same)
    many _ _ _ (specialize a c h) is same = cc (same)
    many _ _ _ (commute_expr a p h) is same = cc (same)
    many _ _ _ (bind_expr a b p n h i) is same = cc (same)
    many _ _ _ (expand_dim a b e f h i) is same = cc (same)
    many _ _ _ (stage_mem a b keys w n t h i j) is same = cc (same)
    many _ _ _ (write_config a b c w n e h i j) is same = cc (same)
    many _ _ _ (bind_config a b c n w m h i j) is same = cc (same)
    many _ _ _ (divide_loop a b keys d h) is same = cc (same)
    many _ _ _ (eliminate_dead_code keys t h) is same = cc (same)

no_bare : (x : Operation) → AsksOperation operator.Rename [] x → ⊥
no_bare x asks = without operator.Rename [] x asks refl refl
  where
    without : (p : OperatorName) (args : List tree.Argument) (y : Operation) → AsksOperation p args y
        → args ≡ [] → p ≡ operator.Rename → ⊥
    without _ _ _ (at k a more asked change h j) is same = cc (is)
    without _ _ _ (whole w) is same = cc (same)
    without _ _ _ (rename a name h) is same = cc (is)

-- ---- keys

-- the loop at c, with these keys
divides : (keys : List tree.Argument) (t : Tail) → tail_in keys ≡ Some t
    → Asks (divide_line keys) (asks_divided t)
divides keys t is =
    by_change (codes "divide_loop") kind.DivideLoop (_ ∷ _ ∷ keys) _ there.divide_loop
    (divide_loop _ _ keys (record { by = 8; outer = codes "io"; inner = codes "ii"; tail = t })
    (record { by = refl; names = ((refl, refl), (refl, refl)); tail = is }))

divides_twice : AsksNothing (divide_line (tail_key ∷ tail_key ∷ []))
divides_twice =
    not_by_change (codes "divide_loop") kind.DivideLoop (_ ∷ _ ∷ tail_key ∷ tail_key ∷ [])
    there.divide_loop
    (no_division _ _ (tail_key ∷ tail_key ∷ [])
    (λ (d : Division) k. let e : None ≡ Some d.tail = k.tail in cc (e)))

eliminates : (keys : List tree.Argument) (keep : Option Branch) → keep_in keys ≡ Some keep
    → Asks (eliminate_line keys) (asks_eliminated keep)
eliminates keys keep is =
    by_change (codes "eliminate_dead_code") kind.EliminateDeadCode keys _ there.eliminate_dead_code
    (eliminate_dead_code keys keep is)

eliminates_nothing : (keys : List tree.Argument) → keep_in keys ≡ None
    → AsksNothing (eliminate_line keys)
eliminates_nothing keys none =
    not_by_change (codes "eliminate_dead_code") kind.EliminateDeadCode keys
    there.eliminate_dead_code (no_branch keys none)

stages : ReaderInstance → (keys : List tree.Argument) (accum : Bool) → accum_in keys ≡ Some accum
    → AsksChange kind.StageMem (text (codes "x[i:j]") ∷ text (codes "a") ∷ keys)
    (StageMem (codes "x", i_to_j ∷ []) (codes "a") accum)
stages texts keys accum is =
    stage_mem _ _ keys _ _ accum (record { written = texts.span; form = refl }) (refl, refl) is

stages_line : ReaderInstance → (keys : List tree.Argument) (accum : Bool)
    → accum_in keys ≡ Some accum
    → Asks (stage_line (text (codes "a")) keys) (asks_staged accum)
stages_line texts keys accum is =
    by_change (codes "stage_mem") kind.StageMem
    (text (codes "x[i:j]") ∷ text (codes "a") ∷ keys) _ there.stage_mem
    (stages texts keys accum is)

-- ---- expressions

by_control : (name : List ℕ) (o : ControlOperator)
    → operator_of name ≡ Some (operator.At (kind.WithControl o))
    → Asks (on_c name (codes "5")) (asks_at_c (WithControl o (number (Value 5))))
by_control name o is =
    by_change name (kind.WithControl o) (text (codes "5") ∷ []) _ is
    (with_control o (text (codes "5")) _ (record { written = five; form = refl }))

not_by_control : (name : List ℕ) (o : ControlOperator) (s : List ℕ)
    → operator_of name ≡ Some (operator.At (kind.WithControl o))
    → ((e : Tree) → AsksControl (text s) e → ⊥) → AsksNothing (on_c name s)
not_by_control name o s is never =
    not_by_change name (kind.WithControl o) (text s ∷ []) is (no_control o (text s) never)

pub instance : TextInstance → ReaderInstance → TextsAreOne control → LinesInstance
instance patterns texts one = record {
  names = refl;
  emitted = emit (codes "p");
  found =
      search (codes "c")
      (record {
        version = codes "p";
        pattern = codes "i #1" ∷ [];
        moves = tree.go way.Parent ∷ [];
      })
      (Loop (Some (codes "i"))) 1 patterns.loop;
  moved = moved (codes "d") (codes "c") _ [];
  divided = divides [] Guard refl;
  divided_cut = divides (perfect_key tree.no ∷ tail_key ∷ []) CutAndGuard refl;
  divided_perfect = divides (tail_key ∷ perfect_key tree.yes ∷ []) Perfect refl;
  cut = by_control (codes "cut_loop") CutLoop there.cut_loop;
  shifted = by_control (codes "shift_loop") ShiftLoop there.shift_loop;
  multiplied =
      by_change (codes "mult_loops") kind.MultLoops (text (codes "k") ∷ []) _ there.mult_loops
      (mult_loops (text (codes "k")) (codes "k") (refl, refl));
  unrolled =
      by_name (codes "unroll_loop") (operator.At (kind.Alone UnrollLoop)) (text (codes "i #1") ∷ [])
      _ there.unroll_loop
      (at (kind.Alone UnrollLoop) (text (codes "i #1")) []
      (record { source = Here (Loop (Some (codes "i"))) 1; moves = [] }) _
      (here (codes "i #1" ∷ []) (Loop (Some (codes "i"))) 1 patterns.loop) (alone UnrollLoop));
  specialized =
      by_change (codes "specialize") kind.Specialize (text (codes "True") ∷ []) _ there.specialize
      (specialize (text (codes "True")) (truth true) (record { written = yes; form = refl }));
  eliminated = eliminates [] None refl;
  body_kept = eliminates (keep_key (codes "body") ∷ []) (Some Main) refl;
  else_kept = eliminates (keep_key (codes "orelse") ∷ []) (Some Else) refl;
  commuted =
      by_change (codes "commute_expr") kind.CommuteExpr (text (codes " _ ") ∷ []) _
      there.commute_expr
      (commute_expr (text (codes " _ ")) (record { form = Read None; nth = 0 }) patterns.any);
  staged = stages_line texts [] false refl;
  added_up = stages_line texts (accum_key tree.yes ∷ []) true refl;
  renamed =
      by_name (codes "rename") operator.Rename (text (codes "i") ∷ []) _ there.rename
      (rename (text (codes "i")) (codes "i") (refl, refl));
  deleted =
      by_name (codes "delete_pass") (operator.Whole DeletePass) [] _ there.delete_pass
      (whole DeletePass);
  unknown = no_operator (codes "q") (codes "vanish") (on_p []) there.vanish;
  bare = not_by_name (codes "rename") operator.Rename [] there.rename no_bare;
  twice = divides_twice;
  kept_twice = eliminates_nothing (keep_key (codes "body") ∷ keep_key (codes "body") ∷ []) refl;
  no_branch = eliminates_nothing (keep_key (codes "else") ∷ []) refl;
  no_keep = eliminates_nothing (tail_key ∷ []) refl;
  no_key = eliminates_nothing (text (codes "body") ∷ []) refl;
  staged_twice =
      not_by_change (codes "stage_mem") kind.StageMem
      (text (codes "x[i:j]") ∷ text (codes "a") ∷ accum_key tree.yes ∷ accum_key tree.yes ∷ [])
      there.stage_mem
      (no_accum (text (codes "x[i:j]")) (text (codes "a"))
      (accum_key tree.yes ∷ accum_key tree.yes ∷ []) refl);
  no_cursor =
      not_by_name (codes "reorder_loops") (operator.At (kind.Alone ReorderLoops)) []
      there.reorder_loops (none_behind ReorderLoops);
  two_cursors =
      not_by_change (codes "reorder_loops") (kind.Alone ReorderLoops) (held_c ∷ [])
      there.reorder_loops (one_more ReorderLoops);
  no_expression =
      not_by_control (codes "cut_loop") CutLoop (codes "i j") there.cut_loop
      (λ e k. one.no_error (line_tokens_of (codes "i j")) (line_places_of (codes "i j")) e
      (stops_at 3)
      k.written texts.two_names);
  no_control =
      not_by_control (codes "cut_loop") CutLoop (codes "True") there.cut_loop
      (strings.no_control one (codes "True" ∷ []) (truth true) yes refl);
  no_start =
      not_by_control (codes "shift_loop") ShiftLoop (codes "True") there.shift_loop
      (strings.no_control one (codes "True" ∷ []) (truth true) yes refl);
  no_condition =
      not_by_change (codes "specialize") kind.Specialize (text (codes "5") ∷ []) there.specialize
      (no_condition (text (codes "5"))
      (strings.no_condition one (codes "5" ∷ []) (number (Value 5)) five refl));
  no_name =
      not_by_change (codes "mult_loops") kind.MultLoops (text (codes "5") ∷ []) there.mult_loops
      (no_loop (text (codes "5")) (λ name k. cc (k.1)));
}

pub forms : TextInstance → ReaderInstance → TextsAreOne window → FormsInstance
forms patterns texts one = record {
  alone = λ o. at_held (kind.Alone o) [] _ (alone o);
  whole = λ o. whole o;
  with_word = λ o. with_word o (word (codes "M")) (codes "M") refl;
  bound =
      bind_expr (text (codes " _ ")) (text (codes "a")) (record { form = Read None; nth = 0 })
      (codes "a") patterns.any (refl, refl);
  expanded =
      expand_dim (text (codes "5")) (text (codes "5")) _ _ (record { written = five; form = refl })
      (record { written = five; form = refl });
  staged = stages texts [] false refl;
  added_up = stages texts (accum_key tree.yes ∷ []) true refl;
  number_written =
      write_config (word (codes "C")) (text (codes "f")) (text (codes "5")) (codes "C") (codes "f") _
      refl (refl, refl) (record { written = five; form = refl });
  truth_written =
      write_config (word (codes "C")) (text (codes "f")) (text (codes "True")) (codes "C")
      (codes "f") _ refl (refl, refl) (record { written = yes; form = refl });
  field_bound =
      bind_config (text (codes "n")) (word (codes "C")) (text (codes "f")) (codes "n") (codes "C")
      (codes "f") (refl, refl) refl (refl, refl);
  no_cursor = none_behind;
  more = one_more;
  no_word = λ o. no_word o (text (codes "M")) (λ w h. h);
  no_name = no_param (word (codes "n")) (word (codes "C")) (text (codes "f")) (λ name h. h);
  no_span =
      no_window (text (codes "x[i]")) (text (codes "a")) []
      (λ w k. one.no_error (line_tokens_of (codes "x[i]")) (line_places_of (codes "x[i]")) w
      (stops_at 4)
      k.written texts.point);
  no_truth =
      no_accum (text (codes "x[i:j]")) (text (codes "a"))
      (accum_key (tree.text (codes "True" ∷ [])) ∷ []) refl;
  no_accum = no_accum (text (codes "x[i:j]")) (text (codes "a")) (perfect_key tree.yes ∷ []) refl;
}
