-- The rules of expressions and of loops give names that were there, and those that are asked.
use Rattle.std.proofs.Common.{◌≡◌, ◌+◌, ℕ, ℤ, Bool, true, false, if◌then◌else◌, List, [], ◌∷◌}
use Rattle.std.proofs.Common.{Option, Some, None, option_map, option_and_then, subst, length}
use Rattle.std.proofs.Common.{ap, ◌∙◌}
use Rattle.exo_tree.specs.Tree.{Control, Condition, Datum, Statement, Assign, Reduce, Config, Pass}
use Rattle.exo_tree.specs.Tree.{If, For, Alloc, View, Call, Block, end, next}
use Rattle.exo_tree.specs.Renaming.{renaming, fresh, fresh_id, binders}
use Rattle.exo_tree.specs.Substitution.{replacing, in_block}
use Rattle.exo_types_laws.specs.Shown.Names.{IsName, Each}
use Rattle.exo_types_laws.specs.Shown.Named.{IsNamedStatement, IsNamedBlock}
use Rattle.meaning_laws.specs.FreshCopies.{copies_from}
use Rattle.place_laws.specs.Scope.Scopes.{joined_all}
use Rattle.place_laws.specs.Order.TurnsOfTwo.{Loop}
use Rattle.match_laws.specs.Simplify.Simplified.{literal}
use Rattle.cursor_forward.specs.Search.Patterns.{ExprPattern}
use Rattle.cursor_forward.specs.Causes.{LimitPassed}
use Rattle.cursor_forward.specs.Shifts.{Shift, stays}
use Rattle.step_rules.specs.Rule.{Got, Not}
use Rattle.step_rules.specs.Shapes.{alone_in}
use Rattle.step_rules.proofs.Proposals.{then_got}
use Rattle.step_rules.proofs.Shapes.{made_of}
use Rattle.proc_laws.specs.Expression.Commute.{commuted, commuted_statement, commuted_alone, commute_rule}
use Rattle.proc_laws.specs.Expression.Passes.{without, before, cleared, delete_pass_rule}
use Rattle.proc_laws.specs.Expression.Rename.{rename_rule}
use Rattle.loop_laws.specs.Shapes.{loop_of, is_zero, from_zero, loop_rule}
use Rattle.loop_laws.specs.Copies.{bodies_with}
use Rattle.loop_laws.specs.CutLoop.{cut, cut_rule}
use Rattle.loop_laws.specs.DivideLoop.{Tail, Guard, Cut, CutAndGuard, Perfect, Division, divisible}
use Rattle.loop_laws.specs.DivideLoop.{body_in_group, turns_behind, tail_turns, divided_with, divided}
use Rattle.loop_laws.specs.DivideLoop.{divide_shifts, divide_rule}
use Rattle.loop_laws.specs.MultLoops.{Pair, loop_from_zero, with_count, positive_literal, pair_of}
use Rattle.loop_laws.specs.MultLoops.{multiplied, mult_rule}
use Rattle.loop_laws.specs.ShiftLoop.{shifted, shift_rule}
use Rattle.loop_laws.specs.Specialize.{specialize_rule}
use Rattle.loop_laws.specs.UnrollLoop.{with_affine_bounds, turns_of, Unrolling, unrolling}
use Rattle.loop_laws.specs.UnrollLoop.{turns_written, unroll_rule, are_too_many, with_few}
use Rattle.loop_laws.proofs.Sites.{found_then, loop_of_is}
use Rattle.loop_laws.proofs.DivideLoop.{divisible_is}
use Rattle.schedule_laws.specs.Names.Rules.{IsNaming}
use Rattle.schedule_laws.proofs.OfNames.Blocks.{joined_named, mapped_named}
use Rattle.tree_edits.specs.Made.Passes.{or_one_pass}

pub got_same : {A : Type 0} {a b : A} → Got a ≡ Got b → a ≡ b
got_same h = cc

pub some_same : {A : Type 0} {a b : A} → Some a ≡ Some b → a ≡ b
some_same h = cc

-- ---- expressions

written_named : (make : Datum → Statement) (o : Option Datum) (b : Statement)
    → ((e : Datum) → IsNamedStatement (make e)) → option_map make o ≡ Some b → IsNamedStatement b
written_named make None b is h = cc
written_named make (Some e) b is h = subst IsNamedStatement (some_same h) (is e)

commuted_named : (x : ExprPattern) (a b : Statement) → commuted_statement x a ≡ Some b
    → IsNamedStatement b
commuted_named x (Assign y is e) b h = written_named (Assign y is) (commuted x e) b (λ d. tt) h
commuted_named x (Reduce y is e) b h = written_named (Reduce y is) (commuted x e) b (λ d. tt) h
commuted_named x (Config f a) b h = cc
commuted_named x Pass b h = cc
commuted_named x (If c a d) b h = cc
commuted_named x (For i lo hi d) b h = cc
commuted_named x (Alloc y cell dims memory) b h = cc
commuted_named x (View y z coords) b h = cc
commuted_named x (Call k args) b h = cc

pub commute_names : (x : ExprPattern) → IsNaming (commute_rule x)
commute_names x = record {
  name = λ p h. h;
  draft = λ s how base made unit proc piece h.
      let d = made_of (commuted_alone x s.opened.piece) (λ a. next a end) made h in
      let f = found_then (alone_in s.opened.piece) (commuted_statement x) d.of d.found in
      subst IsNamedBlock d.made (commuted_named x f.0 d.of f.2, tt);
}

pub rename_names : (name : List ℕ) → IsName name → IsNaming (rename_rule name)
rename_names name is = record {
  name = λ p h. is;
  draft = λ s how base made unit proc piece h. subst IsNamedBlock (got_same h) tt;
}

one_pass_named : (b : Block) → IsNamedBlock b → IsNamedBlock (or_one_pass b)
one_pass_named end h = (tt, tt)
one_pass_named (next a b) h = h

mutual
  without_named : (b : Block) → IsNamedBlock b → IsNamedBlock (without b)
  without_named end h = tt
  without_named (next a b) h = before_named a (without b) h.0 (without_named b h.1)

  before_named : (a : Statement) (rest : Block) → IsNamedStatement a → IsNamedBlock rest
      → IsNamedBlock (before a rest)
  before_named (Assign x is e) rest h k = (tt, k)
  before_named (Reduce x is e) rest h k = (tt, k)
  before_named (Config f a) rest h k = (tt, k)
  before_named Pass rest h k = k
  before_named (If c a b) rest h k = ((cleared_named a h.0, cleared_named b h.1), k)
  before_named (For i lo hi b) rest h k = ((h.0, cleared_named b h.1), k)
  before_named (Alloc x cell dims memory) rest h k = (h, k)
  before_named (View w x coords) rest h k = (h, k)
  before_named (Call i args) rest h k = (tt, k)

  cleared_named : (b : Block) → IsNamedBlock b → IsNamedBlock (cleared b)
  cleared_named end h = tt
  cleared_named (next a b) h =
      one_pass_named (before a (without b)) (before_named a (without b) h.0 (without_named b h.1))

pub delete_pass_names : IsNaming delete_pass_rule
delete_pass_names = record {
  name = λ p h. h;
  draft = λ s how base made unit proc piece h.
      subst IsNamedBlock (got_same h) (cleared_named s.opened.piece piece);
}

-- ---- copies

pub replaced_named : (i : ℕ) (e : Control) (b : Block) → IsNamedBlock b → IsNamedBlock (in_block i e b)
replaced_named i e b h = mapped_named (replacing i e) (λ x k. k) b h

pub fresh_named : (n : ℕ) (b : Block) → IsNamedBlock b → IsNamedBlock (fresh n b)
fresh_named n b h = mapped_named (renaming (fresh_id (binders b) n)) (λ x k. k) b h

copies_named : (bs : List Block) (n : ℕ) → Each IsNamedBlock bs → Each IsNamedBlock (copies_from n bs)
copies_named [] n h = tt
copies_named (b ∷ bs) n h =
    (fresh_named n b h.0, copies_named bs (n + length (binders b)) h.1)

all_joined_named : (bs : List Block) → Each IsNamedBlock bs → IsNamedBlock (joined_all bs)
all_joined_named [] h = tt
all_joined_named (b ∷ bs) h = joined_named b (joined_all bs) h.0 (all_joined_named bs h.1)

-- ---- one loop

pub record IsNamedLoop (l : Loop) : Type 0 where
  pub name : IsName l.binder.name
  pub body : IsNamedBlock l.body

pub loop_named : (b : Block) (l : Loop) → loop_of b ≡ Some l → IsNamedBlock b → IsNamedLoop l
loop_named b l found h =
    let is = subst IsNamedBlock (loop_of_is b l found) h in
    record { name = is.0.0; body = is.0.1 }

module _ (read : Block → Option Loop) (make : Loop → ℕ → Block) (shifts : Loop → List Shift)
    (reads : (b : Block) (l : Loop) → read b ≡ Some l → IsNamedBlock b → IsNamedLoop l)
    (makes : (l : Loop) (base : ℕ) → IsNamedLoop l → IsNamedBlock (make l base)) where
  pub loop_names : IsNaming (loop_rule read make shifts)
  loop_names = record {
    name = λ p h. h;
    draft = λ s how base made unit proc piece h.
        let d = made_of (read s.opened.piece) (λ l. make l base) made h in
        subst IsNamedBlock d.made (makes d.of base (reads s.opened.piece d.of d.found piece));
  }

pub cut_names : (e : Control) → IsNaming (cut_rule e)
cut_names e =
    let is = loop_names loop_of (cut e) (λ l. stays 1) loop_named (λ l base h. (
      (h.name, h.body),
      fresh_named base (next (For l.binder e l.hi l.body) end) ((h.name, h.body), tt),
    )) in
    record { name = is.name; draft = is.draft }

pub shift_names : (e : Control) → IsNaming (shift_rule e)
shift_names e =
    let is = loop_names loop_of (shifted e) (λ l. stays 1) loop_named (λ l base h.
    ((h.name, replaced_named l.binder.id _ l.body h.body), tt)) in
    record { name = is.name; draft = is.draft }

-- ---- a loop in groups

module _ (d : Division) (outer_is : IsName d.outer) (inner_is : IsName d.inner) (l : Loop) (base : ℕ)
    (h : IsNamedLoop l) where
  group_named : IsNamedBlock (body_in_group d l base)
  group_named = replaced_named l.binder.id _ l.body h.body

  tail_named : IsNamedBlock (tail_turns d l base)
  tail_named =
      fresh_named _ (turns_behind d l base)
      ((inner_is, replaced_named l.binder.id _ l.body h.body), tt)

  divided_named : (tail : Tail) → IsNamedBlock (divided_with d l base tail)
  divided_named Guard = ((outer_is, ((inner_is, ((group_named, tt), tt)), tt)), tt)
  divided_named Cut = ((outer_is, ((inner_is, group_named), tt)), tail_named)
  divided_named CutAndGuard = ((outer_is, ((inner_is, group_named), tt)), ((tail_named, tt), tt))
  divided_named Perfect = ((outer_is, ((inner_is, group_named), tt)), tt)

pub divide_names : (d : Division) → IsName d.outer → IsName d.inner → IsNaming (divide_rule d)
divide_names d outer_is inner_is =
    let is = loop_names (divisible d.by) (divided d) (divide_shifts d.tail)
    (λ b l found h. loop_named b l (divisible_is d.by b l found).found h)
    (λ l base h. divided_named d outer_is inner_is l base h d.tail) in
    record { name = is.name; draft = is.draft }

-- ---- the turns of a loop

affine_same : (k l : Loop) → with_affine_bounds k ≡ Some l → k ≡ l
affine_same k l h = by _ h
  where
    by : (t : Bool) → (if t then Some k else None) ≡ Some l → k ≡ l
    by true h = some_same h
    by false h = cc

loop_of_few : (l : Loop) (ns : List ℤ) (u : Unrolling) → with_few l ns ≡ Got u → l ≡ u.loop
loop_of_few l ns u h = by (are_too_many l ns) h
  where
    by : (t : Bool) → (if t then Not LimitPassed else Got (record { loop = l; turns = ns })) ≡ Got u
        → l ≡ u.loop
    by true h = cc
    by false h = ap (λ (v : Unrolling). v.loop) (got_same h)

unrolling_named : (b : Block) (u : Unrolling) → unrolling b ≡ Got u → IsNamedBlock b
    → IsNamedLoop u.loop
unrolling_named b u found h =
    let read = option_and_then with_affine_bounds (loop_of b) in
    let a = then_got _ _ u found in
    let l = made_of read (λ l. l) a.0 a.1 in
    let k = found_then (loop_of b) with_affine_bounds l.of l.found in
    let t = then_got (turns_of a.0) (with_few a.0) u a.2 in
    subst IsNamedLoop (l.made ∙ loop_of_few a.0 t.0 u t.2)
    (subst IsNamedLoop (affine_same k.0 l.of k.2) (loop_named b k.0 k.1 h))

bodies_named : (l : Loop) (ns : List ℤ) → IsNamedLoop l → Each IsNamedBlock (bodies_with literal l ns)
bodies_named l [] h = tt
bodies_named l (n ∷ ns) h =
    (replaced_named l.binder.id (literal n) l.body h.body, bodies_named l ns h)

turns_named : (l : Loop) (ns : List ℤ) (base : ℕ) → IsNamedLoop l
    → IsNamedBlock (turns_written l ns base)
turns_named l [] base h = (tt, tt)
turns_named l (n ∷ ns) base h =
    all_joined_named (copies_from base (bodies_with literal l (n ∷ ns)))
    (copies_named (bodies_with literal l (n ∷ ns)) base (bodies_named l (n ∷ ns) h))

pub unroll_names : IsNaming unroll_rule
unroll_names = record {
  name = λ p h. h;
  draft = λ s how base made unit proc piece h.
      let t = then_got (unrolling s.opened.piece) _ made h in
      subst IsNamedBlock (got_same t.2)
      (turns_named t.0.loop t.0.turns base (unrolling_named s.opened.piece t.0 t.1 piece));
}

-- ---- a condition round a block

pub specialize_names : (count : ℕ) (c : Condition) → IsNaming (specialize_rule count c)
specialize_names count c = record {
  name = λ p h. h;
  draft = λ s how base made unit proc piece h.
      subst IsNamedBlock (got_same h) ((piece, fresh_named base s.opened.piece piece), tt);
}

-- ---- two loops

zero_same : (k l : Loop) → from_zero k ≡ Some l → k ≡ l
zero_same k l h = by (is_zero k.lo) h
  where
    by : (t : Bool) → (if t then Some k else None) ≡ Some l → k ≡ l
    by true h = some_same h
    by false h = cc

from_zero_named : (b : Block) (l : Loop) → loop_from_zero b ≡ Some l → IsNamedBlock b → IsNamedLoop l
from_zero_named b l found h =
    let k = found_then (loop_of b) from_zero l found in
    subst IsNamedLoop (zero_same k.0 l k.2) (loop_named b k.0 k.1 h)

inner_of : (k l : Loop) (o : Option ℤ) (p : Pair)
    → option_map (λ n. record { outer = k; inner = l; by = n }) o ≡ Some p → l ≡ p.inner
inner_of k l None p h = cc
inner_of k l (Some n) p h = cc

pair_named : (b : Block) (p : Pair) → pair_of b ≡ Some p → IsNamedBlock b → IsNamedBlock p.inner.body
pair_named b p found h =
    let k = found_then (loop_from_zero b) _ p found in
    let outer = from_zero_named b k.0 k.1 h in
    let l = found_then (loop_from_zero k.0.body) (with_count k.0) p k.2 in
    let inner = from_zero_named k.0.body l.0 l.1 outer.body in
    subst (λ (x : Loop). IsNamedBlock x.body) (inner_of k.0 l.0 (positive_literal l.0.hi) p l.2)
    inner.body

pub mult_names : (name : List ℕ) → IsName name → IsNaming (mult_rule name)
mult_names name is = record {
  name = λ p h. h;
  draft = λ s how base made unit proc piece h.
      let d = made_of (pair_of s.opened.piece) (λ p. multiplied name p base) made h in
      let body = replaced_named d.of.inner.binder.id _ _
      (replaced_named d.of.outer.binder.id _ d.of.inner.body
      (pair_named s.opened.piece d.of d.found piece)) in
      subst IsNamedBlock d.made ((is, body), tt);
}
