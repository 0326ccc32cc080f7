-- What names stand for at a place: a buffer's name has a buffer for its root, and any other name is
-- its own.
use Rattle.std.proofs.Common.{◌≡◌, ℕ, ◌==◌, ◌&&◌, not, Bool, true, false, true≢false, cond, length}
use Rattle.std.proofs.Common.{Option, Some, None, refl, sym, ap, ◌∙◌, eqb-true, eq-eqb}
use Rattle.exo_tree.specs.Tree.{Binder, Kind, Index, Statement, Assign, Reduce, Config, Pass, If, For}
use Rattle.exo_tree.specs.Tree.{Alloc, View, Call, Block}
use Rattle.exo_tree.specs.Context.{Context, Here, After, InLoop, InThen, InElse, fill}
use Rattle.exo_meaning.specs.Scene.{updated}
use Rattle.exo_meaning.specs.Calls.{Callee}
use Rattle.exo_meaning.specs.Run.{roots_after}
use Rattle.exo_meaning.specs.Units.{Sort, ControlName, BufferName, Scope, sort_in, is_new, with_name}
use Rattle.exo_meaning.specs.Units.{has_rank, with_fields, plainly, is_control, is_condition}
use Rattle.exo_meaning.specs.Units.{is_window, view_sort, scope_after, is_empty, is_short, is_block}
use Rattle.exo_meaning.specs.Units.{is_statement, spans}
use Rattle.meaning_laws.specs.Sorted.{scope_at}
use Rattle.meaning_laws.proofs.Sorted.{is_other}
use Rattle.meaning_laws.proofs.Substitute.{and_parts}
use Rattle.place_laws.specs.Scope.Holes.{roots_at}

abbrev pub is_buffer_sort : Option Sort → Bool
is_buffer_sort None = false
is_buffer_sort (Some (ControlName kind)) = false
is_buffer_sort (Some (BufferName cell rank dense)) = true

abbrev pub is_buffer_in : Scope → ℕ → Bool
is_buffer_in scope y = is_buffer_sort (sort_in scope y)

pub record HaveRoots (scope : Scope) (root : ℕ → ℕ) : Type 0 where
  pub buffers : (y : ℕ) → is_buffer_in scope y ≡ true → is_buffer_in scope (root y) ≡ true
  pub others : (y : ℕ) → is_buffer_in scope y ≡ false → root y ≡ y

-- a buffer's name that is new
module _ (scope : Scope) (root : ℕ → ℕ) (b : Binder) (sort : Sort) (r : ℕ)
    (is : is_buffer_sort (Some sort) ≡ true) (h : HaveRoots scope root) where
  abbrev more : Scope
  more = with_name scope b sort

  still : (y : ℕ) → is_buffer_in scope y ≡ true → is_buffer_in more y ≡ true
  still y k = by (y == b.id)
    where
      by : (t : Bool) → is_buffer_sort (cond t (Some sort) (sort_in scope y)) ≡ true
      by true = is
      by false = k

  named_buffer : is_buffer_in more r ≡ true → HaveRoots more (updated root b.id r)
  named_buffer there = record {
    buffers = λ y k. first y (y == b.id) k;
    others = λ y k. second y (y == b.id) k;
  }
    where
      first : (y : ℕ) (t : Bool) → is_buffer_sort (cond t (Some sort) (sort_in scope y)) ≡ true
          → is_buffer_in more (cond t r (root y)) ≡ true
      first y true k = there
      first y false k = still (root y) (h.buffers y k)

      second : (y : ℕ) (t : Bool) → is_buffer_sort (cond t (Some sort) (sort_in scope y)) ≡ false
          → cond t r (root y) ≡ y
      second y true k = absurd (true≢false (sym is ∙ k))
      second y false k = h.others y k

-- a loop's variable that is new
module _ (scope : Scope) (root : ℕ → ℕ) (i : Binder) (new : is_new scope i ≡ true)
    (h : HaveRoots scope root) where
  abbrev within : Scope
  within = with_name scope i (ControlName Index)

  not_there : is_buffer_in scope i.id ≡ false
  not_there = by (sort_in scope i.id) refl
    where
      by : (o : Option Sort) → sort_in scope i.id ≡ o → is_buffer_sort o ≡ false
      by None e = refl
      by (Some sort) e =
          absurd (true≢false (sym (eq-eqb i.id i.id refl) ∙ is_other scope i new i.id sort e))

  not_buffer : (y : ℕ) → is_buffer_in scope y ≡ true → (y == i.id) ≡ false
  not_buffer y k = by (y == i.id) refl
    where
      by : (t : Bool) → (y == i.id) ≡ t → t ≡ false
      by false e = refl
      by true e =
          absurd (true≢false (sym k ∙ ap (is_buffer_in scope) (eqb-true y i.id e) ∙ not_there))

  stays_buffer : (y : ℕ) → is_buffer_in scope y ≡ true → is_buffer_in within y ≡ true
  stays_buffer y k =
      ap (λ t. is_buffer_sort (cond t (Some (ControlName Index)) (sort_in scope y)))
      (not_buffer y k) ∙ k

  named_variable : HaveRoots within root
  named_variable = record {
    buffers = λ y k. first y (y == i.id) k;
    others = λ y k. second y (y == i.id) refl k;
  }
    where
      first : (y : ℕ) (t : Bool)
          → is_buffer_sort (cond t (Some (ControlName Index)) (sort_in scope y)) ≡ true
          → is_buffer_in within (root y) ≡ true
      first y true k = absurd (true≢false (sym k))
      first y false k = stays_buffer (root y) (h.buffers y k)

      second : (y : ℕ) (t : Bool) → (y == i.id) ≡ t
          → is_buffer_sort (cond t (Some (ControlName Index)) (sort_in scope y)) ≡ false
          → root y ≡ y
      second y true e k = h.others y (ap (is_buffer_in scope) (eqb-true y i.id e) ∙ not_there)
      second y false e k = h.others y k

view_is_buffer : (o : Option Sort) (n : ℕ) → is_buffer_sort (Some (view_sort o n)) ≡ true
view_is_buffer None n = refl
view_is_buffer (Some (ControlName kind)) n = refl
view_is_buffer (Some (BufferName cell rank dense)) n = refl

ranked_is_buffer : (o : Option Sort) (n : ℕ) → has_rank n o ≡ true → is_buffer_sort o ≡ true
ranked_is_buffer None n h = absurd (true≢false (sym h))
ranked_is_buffer (Some (ControlName kind)) n h = absurd (true≢false (sym h))
ranked_is_buffer (Some (BufferName cell rank dense)) n h = refl

own_is_buffer : (scope : Scope) (b : Binder) (sort : Sort) → is_buffer_sort (Some sort) ≡ true
    → is_buffer_in (with_name scope b sort) b.id ≡ true
own_is_buffer scope b sort h =
    ap (λ t. is_buffer_sort (cond t (Some sort) (sort_in scope b.id))) (eq-eqb b.id b.id refl) ∙ h

module _ (fields : ℕ → Option Kind) (memories : ℕ) (callees : ℕ → Option Callee) where
  roots_behind : (a : Statement) (scope : Scope) (root : ℕ → ℕ)
      → is_statement fields memories callees scope root a ≡ true → HaveRoots scope root
      → HaveRoots (scope_after a scope) (roots_after a root)
  roots_behind (Assign x is e) scope root ok h = h
  roots_behind (Reduce x is e) scope root ok h = h
  roots_behind (Config f a) scope root ok h = h
  roots_behind Pass scope root ok h = h
  roots_behind (If c a b) scope root ok h = h
  roots_behind (For i lo hi b) scope root ok h = h
  roots_behind (Alloc x cell dims memory) scope root ok h =
      let sort = BufferName cell (length dims) true in
      named_buffer scope root x sort x.id refl h (own_is_buffer scope x sort refl)
  roots_behind (View w x coords) scope root ok h =
      let sort = view_sort (sort_in scope x) (spans coords) in
      let p = and_parts (is_new scope w) _ ok in
      let q = and_parts (is_window fields scope x coords) _ p.1 in
      let r = (and_parts (has_rank (length coords) (sort_in scope x)) _ q.0).0 in
      let is = view_is_buffer (sort_in scope x) (spans coords) in
      named_buffer scope root w sort (root x) is h
      (still scope root w sort (root x) is h (root x)
      (h.buffers x (ranked_is_buffer (sort_in scope x) (length coords) r)))
  roots_behind (Call k args) scope root ok h = h

  -- so at a hole
  pub roots_there : (c : Context) (old : Block) (scope : Scope) (root : ℕ → ℕ)
      → is_block fields memories callees scope root (fill c old) ≡ true → HaveRoots scope root
      → HaveRoots (scope_at c scope) (roots_at c root)
  roots_there (Here rest) old scope root ok h = h
  roots_there (After a c) old scope root ok h =
      let o = and_parts (is_statement fields memories callees scope root a) _ ok in
      roots_there c old (scope_after a scope) (roots_after a root) o.1
      (roots_behind a scope root o.0 h)
  roots_there (InLoop i lo hi c rest) old scope root ok h =
      let o =
      and_parts (is_statement fields memories callees scope root (For i lo hi (fill c old))) _ ok in
      let p = and_parts (is_new scope i) _ o.0 in
      let q =
      and_parts (is_control fields plainly scope lo && is_control fields plainly scope hi) _ p.1 in
      roots_there c old (with_name scope i (ControlName Index)) root
      (and_parts (not (is_empty (fill c old)) && is_short (fill c old)) _ q.1).1
      (named_variable scope root i p.0 h)
  roots_there (InThen t c other rest) old scope root ok h =
      let o =
      and_parts (is_statement fields memories callees scope root (If t (fill c old) other)) _ ok in
      let p = and_parts (is_condition fields with_fields scope t) _ o.0 in
      let q =
      and_parts (not (is_empty (fill c old)) && (is_short (fill c old) && is_short other)) _ p.1 in
      roots_there c old scope root
      (and_parts (is_block fields memories callees scope root (fill c old)) _ q.1).0 h
  roots_there (InElse t other c rest) old scope root ok h =
      let o =
      and_parts (is_statement fields memories callees scope root (If t other (fill c old))) _ ok in
      let p = and_parts (is_condition fields with_fields scope t) _ o.0 in
      let q =
      and_parts (not (is_empty other) && (is_short other && is_short (fill c old))) _ p.1 in
      roots_there c old scope root
      (and_parts (is_block fields memories callees scope root other) _ q.1).1 h
