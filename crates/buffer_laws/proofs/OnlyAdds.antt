-- A block that only adds to a buffer, at a place of a procedure.
use Rattle.std.proofs.Common.{◌≡◌, ℕ, ◌==◌, ◌&&◌, not, Bool, true, false, true≢false, cond, length}
use Rattle.std.proofs.Common.{[], Option, Some, None, refl, sym, ap, ◌∙◌, eq-eqb, subst}
use Rattle.exo_tree.specs.Tree.{Binder, Cell, Kind, Index, Statement, Assign, Reduce, Config, Pass}
use Rattle.exo_tree.specs.Tree.{If, For, Alloc, View, Call, Block}
use Rattle.exo_tree.specs.Context.{Context, Here, After, InLoop, InThen, InElse, fill}
use Rattle.exo_meaning.specs.Scene.{updated}
use Rattle.exo_meaning.specs.Calls.{Callee}
use Rattle.exo_meaning.specs.Run.{roots_after, unit_world, kinds_of}
use Rattle.exo_meaning.specs.Units.{Sort, ControlName, BufferName, Scope, sort_in, is_new, with_name}
use Rattle.exo_meaning.specs.Units.{has_rank, with_fields, plainly, is_control, is_condition}
use Rattle.exo_meaning.specs.Units.{is_window, view_sort, scope_after, is_empty, is_short, is_block}
use Rattle.exo_meaning.specs.Units.{is_statement, spans, field_kind, scope_of}
use Rattle.meaning_laws.specs.Sorted.{scope_at}
use Rattle.meaning_laws.proofs.Copies.{sound_law}
use Rattle.meaning_laws.proofs.Sorted.{is_other, fits_at_law}
use Rattle.meaning_laws.proofs.Substitute.{and_parts}
use Rattle.place_laws.specs.Scope.Holes.{roots_at}
use Rattle.place_laws.proofs.OfScope.WellAtPlace.{block_at_place}
use Rattle.buffer_laws.specs.Accumulated.{RootsHaveCells}
use Rattle.buffer_laws.specs.StageAccum.{OnlyAddsAtPlace}

-- as in meaning_laws/proofs/Covered

abbrev Typed : Scope → Cell → ℕ → Type 0
Typed scope c y = (q : ℕ) × (e : Bool) × (sort_in scope y ≡ Some (BufferName c q e))

-- a new name leaves the sorts of the others
typed_more : (scope : Scope) (w : Binder) (sort : Sort) (c : Cell) (y : ℕ)
    → is_new scope w ≡ true → Typed scope c y → Typed (with_name scope w sort) c y
typed_more scope w sort c y new z = (
  z.0,
  z.1,
  ap (λ t. cond t (Some sort) (sort_in scope y)) (is_other scope w new y _ z.2) ∙ z.2,
)

typed_index : (scope : Scope) (root : ℕ → ℕ) (i : Binder) → is_new scope i ≡ true
    → RootsHaveCells scope root → RootsHaveCells (with_name scope i (ControlName Index)) root
typed_index scope root i new h x c r d e = go (x == i.id) e
  where
    no_buffer : Some (ControlName Index) ≡ Some (BufferName c r d) → ⊥
    no_buffer e = cc

    go : (t : Bool) → cond t (Some (ControlName Index)) (sort_in scope x)
        ≡ Some (BufferName c r d) → Typed (with_name scope i (ControlName Index)) c (root x)
    go true e = absurd (no_buffer e)
    go false e = typed_more scope i (ControlName Index) c (root x) new (h x c r d e)

typed_alloc : (scope : Scope) (root : ℕ → ℕ) (x : Binder) (cell : Cell) (n : ℕ)
    → is_new scope x ≡ true → RootsHaveCells scope root
    → RootsHaveCells (with_name scope x (BufferName cell n true)) (updated root x.id x.id)
typed_alloc scope root x cell n new h y c r d e = go (y == x.id) refl e
  where
    go : (t : Bool) → (y == x.id) ≡ t
        → cond t (Some (BufferName cell n true)) (sort_in scope y) ≡ Some (BufferName c r d)
        → Typed (with_name scope x (BufferName cell n true)) c (cond t x.id (root y))
    go true k e = (
      r,
      d,
      ap (λ t. cond t (Some (BufferName cell n true)) (sort_in scope x.id))
          (eq-eqb x.id x.id refl) ∙ e,
    )
    go false k e = typed_more scope x (BufferName cell n true) c (root y) new (h y c r d e)

typed_view : (scope : Scope) (root : ℕ → ℕ) (w : Binder) (x k n : ℕ) → is_new scope w ≡ true
    → has_rank k (sort_in scope x) ≡ true → RootsHaveCells scope root
    → RootsHaveCells (with_name scope w (view_sort (sort_in scope x) n))
    (updated root w.id (root x))
typed_view scope root w x k n new has h y c r d e = go (y == w.id) e
  where
    cell_is : (b : Cell) → Some (BufferName b n false) ≡ Some (BufferName c r d) → b ≡ c
    cell_is b e = cc

    by_sort : (o : Option Sort) → sort_in scope x ≡ o → has_rank k o ≡ true
        → Some (view_sort o n) ≡ Some (BufferName c r d) → Typed scope c (root x)
    by_sort None j i e = absurd (true≢false (sym i))
    by_sort (Some (ControlName kind)) j i e = absurd (true≢false (sym i))
    by_sort (Some (BufferName b q f)) j i e =
        subst (λ u. Typed scope u (root x)) (cell_is b e) (h x b q f j)

    go : (t : Bool) → cond t (Some (view_sort (sort_in scope x) n)) (sort_in scope y)
        ≡ Some (BufferName c r d)
        → Typed (with_name scope w (view_sort (sort_in scope x) n)) c (cond t (root x) (root y))
    go true e = typed_more scope w (view_sort (sort_in scope x) n) c (root x) new
        (by_sort (sort_in scope x) refl has e)
    go false e = typed_more scope w (view_sort (sort_in scope x) n) c (root y) new (h y c r d e)

module _ (fields : ℕ → Option Kind) (memories : ℕ) (callees : ℕ → Option Callee) where
  typed_after : (a : Statement) (scope : Scope) (root : ℕ → ℕ)
      → is_statement fields memories callees scope root a ≡ true → RootsHaveCells scope root
      → RootsHaveCells (scope_after a scope) (roots_after a root)
  typed_after (Assign x is e) scope root ok h = h
  typed_after (Reduce x is e) scope root ok h = h
  typed_after (Config f a) scope root ok h = h
  typed_after Pass scope root ok h = h
  typed_after (If c a b) scope root ok h = h
  typed_after (For i lo hi b) scope root ok h = h
  typed_after (Alloc x cell dims memory) scope root ok h =
      typed_alloc scope root x cell (length dims) (and_parts (is_new scope x) _ ok).0 h
  typed_after (View w x coords) scope root ok h =
      let p = and_parts (is_new scope w) _ ok in
      let q = and_parts (is_window fields scope x coords) _ p.1 in
      typed_view scope root w x (length coords) (spans coords) p.0
      (and_parts (has_rank (length coords) (sort_in scope x)) _ q.0).0 h
  typed_after (Call k args) scope root ok h = h

  -- so at a hole
  typed_at : (c : Context) (old : Block) (scope : Scope) (root : ℕ → ℕ)
      → is_block fields memories callees scope root (fill c old) ≡ true
      → RootsHaveCells scope root → RootsHaveCells (scope_at c scope) (roots_at c root)
  typed_at (Here rest) old scope root ok h = h
  typed_at (After a c) old scope root ok h =
      let o = and_parts (is_statement fields memories callees scope root a) _ ok in
      typed_at c old (scope_after a scope) (roots_after a root) o.1
      (typed_after a scope root o.0 h)
  typed_at (InLoop i lo hi c rest) old scope root ok h =
      let o = and_parts (is_statement fields memories callees scope root (For i lo hi (fill c old)))
      _ ok in
      let p = and_parts (is_new scope i) _ o.0 in
      let q = and_parts (is_control fields plainly scope lo && is_control fields plainly scope hi) _
      p.1 in
      typed_at c old (with_name scope i (ControlName Index)) root
      (and_parts (not (is_empty (fill c old)) && is_short (fill c old)) _ q.1).1
      (typed_index scope root i p.0 h)
  typed_at (InThen t c other rest) old scope root ok h =
      let o = and_parts (is_statement fields memories callees scope root (If t (fill c old) other))
      _ ok in
      let p = and_parts (is_condition fields with_fields scope t) _ o.0 in
      let q = and_parts (not (is_empty (fill c old)) && (is_short (fill c old) && is_short other)) _
      p.1 in
      typed_at c old scope root
      (and_parts (is_block fields memories callees scope root (fill c old)) _ q.1).0 h
  typed_at (InElse t other c rest) old scope root ok h =
      let o = and_parts (is_statement fields memories callees scope root (If t other (fill c old)))
      _ ok in
      let p = and_parts (is_condition fields with_fields scope t) _ o.0 in
      let q = and_parts (not (is_empty other) && (is_short other && is_short (fill c old))) _ p.1 in
      typed_at c old scope root
      (and_parts (is_block fields memories callees scope root other) _ q.1).1 h

pub only_adds_at_place : OnlyAddsAtPlace
only_adds_at_place fields memories ps p c x b s u may was only good come =
    let world = unit_world (kinds_of fields) ps in
    let scope = scope_of [] p.params in
    let ok = subst (λ z. is_block (field_kind fields) memories world.callees scope (λ y. y) z
    ≡ true) was may.procedure.body in
    record {
      touches = record {
        unit = may.unit;
        block = (block_at_place (field_kind fields) memories world.callees scope (λ y. y) c b
            ok).piece;
        sound = sound_law world p b c s u good come;
        sorted = fits_at_law fields memories ps p c b may was s u good come;
      };
      cells = typed_at (field_kind fields) memories world.callees c b scope (λ y. y) ok
          (λ y cell rank dense e. (rank, dense, e));
      only = only;
    }
