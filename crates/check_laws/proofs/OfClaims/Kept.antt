-- What names see stays described along a run.
use Rattle.std.proofs.Common.{◌≡◌, ℕ, suc, ◌≤◌, ℤ, pos, ◌+ℤ◌, ◌-ℤ◌, ◌==◌, int_le, int_lt, Bool, true, false, cond, not, ◌&&◌, ◌||◌, List, [], ◌∷◌, length, Option, Some, None, IfSome, option_map, arith, refl, sym, ap, ◌∙◌, subst, eqb-true}
use Rattle.std.specs.Prelude.{IsSome, nat_lt}
use Rattle.std.specs.List.{list_any, list_all}
use Rattle.exo_tree.specs.Tree.{Binder, Cell, Kind, Control, Coord, At, Span, Statement, Assign, Reduce, Config, Pass, If, For, Alloc, View, Call}
use Rattle.exo_meaning.specs.Value.{Value, on_two}
use Rattle.exo_meaning.specs.Scene.{Side, Point, Range, Seen, Scene, then_do, number, numbers, holds, is_below, extents, whole, narrowed, window}
use Rattle.exo_meaning.specs.State.{State, Place, place, put, value, left, scoped, on_scene, with_control, with_field, with_view, with_buffer}
use Rattle.exo_meaning.specs.Calls.{Callee, all_given, keeps_apart, copied_call, entered, run_asserted, returned, suits, all_positive}
use Rattle.exo_meaning.specs.Run.{World, run, step, call_to, turn, turns, turns_of, choose, argument_number, tensor}
use Rattle.exo_meaning.specs.Units.{Sort, ControlName, BufferName, Named, Scope, sort_in, is_text, is_new, with_name, has_rank, is_rank, view_sort, scope_after, plainly, are_controls, is_coord, is_window, spans, is_statement}
use Rattle.check_claims.specs.Extents.{Extents, span_extents}
use Rattle.check_laws.proofs.OfClaims.Basics.{and_parts, and_true, or_parts, not_true, no_test, by_test, none_some, some_injective, if_gives, if_then, if_map, if_where, any, here, then_gives, map_gives, same_number}
use Rattle.check_laws.proofs.OfClaims.Seen.{DependOn, IsSeen, IsDescribed, AreSpans, longer, ranked, controls_depend, spans_depend}
use Rattle.check_laws.proofs.OfClaims.Tables.{StepAgrees}

-- ---- statements that bind no buffer

-- the names are the same
pub record SameNames (s t : Scene) : Type 0 where
  pub control : t.control ≡ s.control
  pub views : t.views ≡ s.views

abbrev KeepsNames : State → Option State → Type 0
KeepsNames s o = IfSome o (λ t. SameNames s.scene t.scene)

pub same_on : (r s t : Scene) → SameNames r s → SameNames s t → SameNames r t
same_on r s t h k = record { control = k.control ∙ h.control; views = k.views ∙ h.views }

put_names : (s : State) (f : Value → Value) (p : Place) → KeepsNames s (put s f p)
put_names s f p = if_map (λ shape. Unit {0}) (λ t. SameNames s.scene t.scene) (s.scene.buffers p.buffer) _ (any (s.scene.buffers p.buffer)) (λ shape u. record { control = refl; views = refl })

store_names : (s : State) (o : Option Place) (r : Option Value) (f : Value → Value → Value) → KeepsNames s (then_do o (λ p. then_do r (λ v. put s (f v) p)))
store_names s o r f = if_then (λ p. Unit {0}) (λ t. SameNames s.scene t.scene) o _ (any o) (λ p u. if_then (λ v. Unit {0}) (λ t. SameNames s.scene t.scene) r _ (any r) (λ v x. put_names s (f v) p))

scoped_names : (f : State → Option State) (s : State) → KeepsNames s (scoped f s)
scoped_names f s = if_map (λ t. Unit {0}) (λ t. SameNames s.scene t.scene) (f s) (left s) (any (f s)) (λ t u. record { control = refl; views = refl })

pub turn_names : (i : ℕ) (body : State → Option State) (n : ℤ) (s : State) → KeepsNames s (turn i body n s)
turn_names i body n s = if_map (λ t. Unit {0}) (λ t. SameNames s.scene t.scene) (body (on_scene (with_control i n) s)) (left s) (any (body (on_scene (with_control i n) s))) (λ t u. record { control = refl; views = refl })

turns_names : (i : ℕ) (body : State → Option State) (ns : List ℤ) (r s : State) → SameNames r.scene s.scene → KeepsNames r (turns (turn i body) ns s)
turns_names i body [] r s h = h
turns_names i body (n ∷ ns) r s h = if_then (λ t. SameNames s.scene t.scene) (λ t. SameNames r.scene t.scene) (turn i body n s) (turns (turn i body) ns) (turn_names i body n s) (λ t k. turns_names i body ns r t (same_on r.scene s.scene t.scene h k))

call_names : (o : Option Callee) (args : List _) (s : State) → KeepsNames s (call_to o args s)
call_names None args s = tt
call_names (Some c) args s = if_where (λ t. SameNames s.scene t.scene) (keeps_apart c s.scene args) (copied_call c args s) (λ h. if_then (λ gs. Unit {0}) (λ t. SameNames s.scene t.scene) (all_given s.scene args) _ (any (all_given s.scene args)) (λ gs u.
    if_then (λ t. Unit {0}) (λ t. SameNames s.scene t.scene) (entered c.procedure.params gs s) _ (any (entered c.procedure.params gs s)) (λ inner v.
    if_map (λ t. Unit {0}) (λ t. SameNames s.scene t.scene) (run_asserted c inner) (returned c gs s) (any (run_asserted c inner)) (λ t z. record { control = refl; views = refl }))))

configure_names : (world : World) (f : ℕ) (a : _) (s : State) → KeepsNames s (step world (Config f a) s)
configure_names world f a s = if_then (λ n. Unit {0}) (λ t. SameNames s.scene t.scene) (argument_number s.scene a) _ (any (argument_number s.scene a)) (λ n u. if_where (λ t. SameNames s.scene t.scene) (suits (world.kinds f) n) (Some (on_scene (with_field f n) s)) (λ h. record { control = refl; views = refl }))

-- ---- scopes

pub new_is_none : (scope : Scope) (x : Binder) → is_new scope x ≡ true → sort_in scope x.id ≡ None
new_is_none [] x h = refl
new_is_none (n ∷ scope) x h =
    let test = λ (m : Named). (x.id == m.binder.id) || is_text x.name m.binder.name in
    let p = or_parts (test n) (list_any test scope) (not_true (test n || list_any test scope) h) in
    let q = or_parts (x.id == n.binder.id) (is_text x.name n.binder.name) p.0 in
    ap (λ t. cond t (Some n.sort) (sort_in scope x.id)) q.0 ∙ new_is_none scope x (ap not p.1)

none_there : {A : Type 0} (o : Option A) → o ≡ None → IsSome o → ⊥
none_there None e h = no_test h
none_there (Some a) e h = none_some (sym e)

-- a name in scope is not the new one
pub not_new : (scope : Scope) (x : Binder) (y : ℕ) → is_new scope x ≡ true → IsSome (sort_in scope y) → (y == x.id) ≡ false
not_new scope x y h k = by_test (y == x.id) (λ e. absurd (none_there (sort_in scope y) (ap (sort_in scope) (eqb-true y x.id e) ∙ new_is_none scope x h) k)) (λ e. e)

-- what is in scope stays in scope
pub still_in_scope : (scope : Scope) (x : Binder) (sort : Sort) (y : ℕ) → IsSome (sort_in scope y) → IsSome (sort_in (with_name scope x sort) y)
still_in_scope scope x sort y k = wide (y == x.id) (sort_in scope y) k
  where
    wide : (t : Bool) (o : Option Sort) → IsSome o → IsSome (cond t (Some sort) o)
    wide true o k = refl
    wide false o k = k

pub wider_depend : (scope : Scope) (x : Binder) (sort : Sort) (es : List Control) → DependOn scope es → DependOn (with_name scope x sort) es
wider_depend scope x sort es h a b same = h a b (λ y k. same y (still_in_scope scope x sort y k))

pub control_buffer : {kind : Kind} {cell : Cell} {rank : ℕ} {dense : Bool} → ControlName kind ≡ BufferName cell rank dense → ⊥
control_buffer e = cc

-- ---- described names

module _ (table : Extents) where
  pub same_described : (scope : Scope) (s t : Scene) → SameNames s t → IsDescribed table scope s → IsDescribed table scope t
  same_described scope s t same d x cell rank dense h =
      let v = d x cell rank dense h in
      record {
        seen = v.seen;
        view_is = ap (λ f. f x) same.views ∙ v.view_is;
        extents_are = v.extents_are ∙ v.steady s t (λ y k. ap (λ f. f y) (sym same.control));
        positive = v.positive;
        rank_is = v.rank_is;
        small = v.small;
        steady = v.steady;
      }

  -- one name more
  pub more_described : (scope : Scope) (x : Binder) (sort : Sort) (s t : Scene) → IsDescribed table scope s → ((y : ℕ) → IsSome (sort_in scope y) → (t.views y ≡ s.views y) × (t.control y ≡ s.control y)) → ((cell : Cell) (rank : ℕ) (dense : Bool) → sort ≡ BufferName cell rank dense → IsSeen (with_name scope x sort) t (table x.id) rank (t.views x.id)) → IsDescribed table (with_name scope x sort) t
  more_described scope x sort s t d old new y cell rank dense h = by_test (y == x.id)
      (λ e. subst (λ z. IsSeen (with_name scope x sort) t (table z) rank (t.views z)) (sym (eqb-true y x.id e)) (new cell rank dense (some_injective sort (BufferName cell rank dense) (sym (ap (λ u. cond u (Some sort) (sort_in scope y)) e) ∙ h))))
      (λ e. let h' : sort_in scope y ≡ Some (BufferName cell rank dense) = sym (ap (λ u. cond u (Some sort) (sort_in scope y)) e) ∙ h in
      let v = d y cell rank dense h' in
      record {
        seen = v.seen;
        view_is = (old y (subst IsSome (sym h') refl)).0 ∙ v.view_is;
        extents_are = v.extents_are ∙ v.steady s t (λ z k. sym (old z k).1);
        positive = v.positive;
        rank_is = v.rank_is;
        small = v.small;
        steady = wider_depend scope x sort (table y) v.steady;
      })

  pub control_described : (scope : Scope) (x : Binder) (n : ℤ) (kind : Kind) (s : Scene) → is_new scope x ≡ true → IsDescribed table scope s → IsDescribed table (with_name scope x (ControlName kind)) (with_control x.id n s)
  control_described scope x n kind s new d = more_described scope x (ControlName kind) s (with_control x.id n s) d
      (λ y k. (refl, ap (λ t. cond t n (s.control y)) (not_new scope x y new k)))
      (λ cell rank dense e. absurd (control_buffer e))

pub whole_extents : (dims : List ℤ) → extents (whole dims) ≡ dims
whole_extents [] = refl
whole_extents (d ∷ dims) = ap (λ l. d ∷ l) (whole_extents dims)

pub same_rank : {c cell : Cell} {r rank : ℕ} {d dense : Bool} → BufferName c r d ≡ BufferName cell rank dense → r ≡ rank
same_rank e = cc

-- ---- windows

module _ (scene : Scene) where
  spans_kept : (sides : List Side) (cs : List Coord) → IfSome (narrowed scene sides cs) (AreSpans scene cs)
  spans_kept [] [] = (refl, refl)
  spans_kept [] (c ∷ cs) = tt
  spans_kept (Point p ∷ sides) cs = if_map (AreSpans scene cs) (AreSpans scene cs) (narrowed scene sides cs) (λ r. Point p ∷ r) (spans_kept sides cs) (λ out k. k)
  spans_kept (Range lo n ∷ sides) [] = tt
  spans_kept (Range lo n ∷ sides) (At a ∷ cs) =
      if_where (AreSpans scene cs) (is_below (number scene a) n) _ (λ h. if_map (AreSpans scene cs) (AreSpans scene cs) (narrowed scene sides cs) _ (spans_kept sides cs) (λ out k. k))
  spans_kept (Range lo n ∷ sides) (Span a b ∷ cs) =
      let i = number scene a in
      let j = number scene b in
      if_where (AreSpans scene (Span a b ∷ cs)) (int_le (pos 0) i && int_lt i j && int_le j n) _ (λ h. if_map (AreSpans scene cs) (AreSpans scene (Span a b ∷ cs)) (narrowed scene sides cs) _ (spans_kept sides cs) (λ out k.
      (ap (λ z. (j -ℤ i) ∷ z) k.0, and_true (int_le (pos 1) (j -ℤ i)) (all_positive (extents out)) (longer i j (and_parts (int_le (pos 0) i) (int_lt i j) (and_parts (int_le (pos 0) i && int_lt i j) (int_le j n) h).0).1) k.1)))

  pub window_spans : (x : ℕ) (cs : List Coord) (part : Seen) → window scene x cs ≡ Some part → AreSpans scene cs part.sides
  window_spans x cs part e =
      let p = then_gives (scene.views x) (λ seen. option_map (λ sides. record { buffer = seen.buffer; sides = sides }) (narrowed scene seen.sides cs)) part e in
      let q = map_gives (narrowed scene p.0.sides cs) (λ sides. record { buffer = p.0.buffer; sides = sides }) part p.2 in
      subst (λ (z : Seen). AreSpans scene cs z.sides) q.2 (if_gives (AreSpans scene cs) (narrowed scene p.0.sides cs) q.0 (spans_kept p.0.sides cs) q.1)

pub span_rank : (cs : List Coord) → length (span_extents cs) ≡ spans cs
span_rank [] = refl
span_rank (At a ∷ cs) = span_rank cs
span_rank (Span a b ∷ cs) = ap suc (span_rank cs)

pub fewer_spans : (cs : List Coord) → is_rank (length cs) ≡ true → is_rank (spans cs) ≡ true
fewer_spans cs h = smaller (spans cs) (length cs) (fewer cs) h
  where
    fewer : (cs : List Coord) → spans cs ≤ length cs
    fewer [] = omega arith
    fewer (At a ∷ cs) = let k = fewer cs in omega arith
    fewer (Span a b ∷ cs) = let k = fewer cs in omega arith

    smaller : (m n : ℕ) → m ≤ n → nat_lt n 9 ≡ true → nat_lt m 9 ≡ true
    smaller m n k h = grind arith

-- ---- statements

module _ (fields : ℕ → Option Kind) (table : Extents) (scope : Scope) (s : Scene) (d : IsDescribed table scope s) where
  pub alloc_described : (x : Binder) (cell : Cell) (dims : List Control) → is_new scope x ≡ true → are_controls fields plainly scope dims ≡ true → is_rank (length dims) ≡ true → table x.id ≡ dims → all_positive (numbers s dims) ≡ true → IsDescribed table (with_name scope x (BufferName cell (length dims) true)) (with_buffer x.id (tensor cell (numbers s dims)) s)
  alloc_described x cell dims new plain small agree positive =
      let sort = BufferName cell (length dims) true in
      let t = with_buffer x.id (tensor cell (numbers s dims)) s in
      let steady = controls_depend fields scope dims plain in
      more_described table scope x sort s t d
      (λ y k. (ap (λ u. cond u (Some (record { buffer = x.id; sides = whole (numbers s dims) })) (s.views y)) (not_new scope x y new k), refl))
      (λ c rank dense e. record {
        seen = record { buffer = x.id; sides = whole (numbers s dims) };
        view_is = ap (λ u. cond u (Some (record { buffer = x.id; sides = whole (numbers s dims) })) (s.views x.id)) (same_number x.id);
        extents_are = whole_extents (numbers s dims) ∙ steady s t (λ y k. refl) ∙ ap (numbers t) (sym agree);
        positive = ap all_positive (whole_extents (numbers s dims)) ∙ positive;
        rank_is = ap length agree ∙ same_rank e;
        small = subst (λ r. is_rank r ≡ true) (same_rank e) small;
        steady = subst (DependOn (with_name scope x sort)) (sym agree) (wider_depend scope x sort dims steady);
      })

  view_rank : (o : Option Sort) (n : ℕ) (cell : Cell) (rank : ℕ) (dense : Bool) → view_sort o n ≡ BufferName cell rank dense → n ≡ rank
  view_rank None n cell rank dense e = same_rank e
  view_rank (Some (ControlName kind)) n cell rank dense e = same_rank e
  view_rank (Some (BufferName c r e')) n cell rank dense e = same_rank e

  pub view_described : (w : Binder) (x : ℕ) (cs : List Coord) (part : Seen) → is_new scope w ≡ true → is_window fields scope x cs ≡ true → table w.id ≡ span_extents cs → window s x cs ≡ Some part → IsDescribed table (with_name scope w (view_sort (sort_in scope x) (spans cs))) (with_view w.id part s)
  view_described w x cs part new fit agree is =
      let sort = view_sort (sort_in scope x) (spans cs) in
      let t = with_view w.id part s in
      let k = and_parts (has_rank (length cs) (sort_in scope x)) (list_all (is_coord fields scope) cs) fit in
      let r = ranked (length cs) (sort_in scope x) k.0 in
      let steady = spans_depend fields scope cs k.1 in
      let out = window_spans s x cs part is in
      more_described table scope w sort s t d
      (λ y j. (ap (λ u. cond u (Some part) (s.views y)) (not_new scope w y new j), refl))
      (λ c rank dense e. record {
        seen = part;
        view_is = ap (λ u. cond u (Some part) (s.views w.id)) (same_number w.id);
        extents_are = out.0 ∙ steady s t (λ y j. refl) ∙ ap (numbers t) (sym agree);
        positive = out.1;
        rank_is = ap length agree ∙ span_rank cs ∙ view_rank (sort_in scope x) (spans cs) c rank dense e;
        small = subst (λ n. is_rank n ≡ true) (view_rank (sort_in scope x) (spans cs) c rank dense e) (fewer_spans cs (d x r.0 (length cs) r.1 r.2).small);
        steady = subst (DependOn (with_name scope w sort)) (sym agree) (wider_depend scope w sort (span_extents cs) steady);
      })

module _ (world : World) (fields : ℕ → Option Kind) (memories : ℕ) (callees : ℕ → Option Callee) (table : Extents) (scope : Scope) (root : ℕ → ℕ) (s : State) (d : IsDescribed table scope s.scene) where
  named : (a : Statement) → KeepsNames s (step world a s) → IfSome (step world a s) (λ t. IsDescribed table scope t.scene)
  named a h = go (step world a s) h
    where
      go : (o : Option State) → KeepsNames s o → IfSome o (λ t. IsDescribed table scope t.scene)
      go None h = tt
      go (Some t) h = same_described table scope s.scene t.scene h d

  -- after a statement the names in scope are described too
  pub step_described : (a : Statement) → is_statement fields memories callees scope root a ≡ true → StepAgrees table a → IfSome (step world a s) (λ t. IsDescribed table (scope_after a scope) t.scene)
  step_described (Assign x is e) h agree = named (Assign x is e) (store_names s (place s.scene x is) (value s e) (λ v old. v))
  step_described (Reduce x is e) h agree = named (Reduce x is e) (store_names s (place s.scene x is) (value s e) (λ v old. on_two ◌+ℤ◌ old v))
  step_described (Config f a) h agree = named (Config f a) (configure_names world f a s)
  step_described Pass h agree = d
  step_described (If c a b) h agree = named (If c a b) (scoped_names (choose (holds s.scene c) (run world a) (run world b)) s)
  step_described (For i lo hi b) h agree = named (For i lo hi b) (turns_names i.id (run world b) (turns_of s.scene lo hi) s s (record { control = refl; views = refl }))
  step_described (Alloc x cell dims memory) h agree =
      let p = and_parts (is_new scope x) (are_controls fields plainly scope dims && (is_rank (length dims) && nat_lt memory memories)) h in
      let q = and_parts (are_controls fields plainly scope dims) (is_rank (length dims) && nat_lt memory memories) p.1 in
      if_where (λ (t : State). IsDescribed table (scope_after (Alloc x cell dims memory) scope) t.scene) (all_positive (numbers s.scene dims)) _ (λ positive.
      alloc_described fields table scope s.scene d x cell dims p.0 q.0 (and_parts (is_rank (length dims)) (nat_lt memory memories) q.1).0 agree positive)
  step_described (View w x cs) h agree =
      let p = and_parts (is_new scope w) (is_window fields scope x cs && nat_lt 0 (spans cs)) h in
      let q = and_parts (is_window fields scope x cs) (nat_lt 0 (spans cs)) p.1 in
      if_then (λ part. window s.scene x cs ≡ Some part) (λ (t : State). IsDescribed table (scope_after (View w x cs) scope) t.scene) (window s.scene x cs) _ (here (window s.scene x cs)) (λ part e. view_described fields table scope s.scene d w x cs part p.0 q.0 agree e)
  step_described (Call k args) h agree = named (Call k args) (call_names (world.callees k) args s)
