-- Two neighbouring statements in either order.
use Rattle.std.proofs.Common.{◌≡◌, ℕ, ℤ, ◌==◌, Bool, true, false, true≢false, cond, not, ◌||◌, List}
use Rattle.std.proofs.Common.{Option, Some, None, IfSome, IsSome, option_map, refl, sym, ap, ap₂}
use Rattle.std.proofs.Common.{◌∙◌, subst, eqb-true}
use Rattle.std.proofs.Math.Path.{fun_ext}
use Rattle.exo_tree.specs.Tree.{Statement, Assign, Reduce, Config, Pass, If, For, Alloc, View, Call}
use Rattle.exo_tree.specs.Tree.{Procedure, ConfigField}
use Rattle.exo_meaning.specs.Value.{Value, Undefined}
use Rattle.exo_meaning.specs.Scene.{Scene, Shape, Seen, then_do, numbers, window}
use Rattle.exo_meaning.specs.State.{State, Cells, kept, left, on_scene, with_contents, with_buffer}
use Rattle.exo_meaning.specs.Calls.{all_positive}
use Rattle.exo_meaning.specs.Run.{World, run, step, tensor, kinds_of, unit_world}
use Rattle.exo_meaning.specs.Refines.{Both, SameScene}
use Rattle.exo_meaning.specs.Laws.{HasRoots, IsKept}
use Rattle.exo_meaning.specs.Footprint.{Entry, Change, changed_by, Passes, LeavesOthers, Exchanges}
use Rattle.exo_meaning.specs.Footprint.{ChangesBy}
use Rattle.exo_meaning.specs.Orders.{Each, HasScene}
use Rattle.exo_meaning.specs.Units.{Scope, sort_in, is_new, is_statement, field_kind}
use Rattle.exo_meaning.specs.Unseen.{in_controls, in_coords, in_statement, SameBut}
use Rattle.exo_meaning.proofs.Compose.{then_assoc}
use Rattle.exo_meaning.proofs.Nested.{then_some}
use Rattle.exo_meaning.proofs.Frame.{if_then, if_map, if_where, any, here, or_parts}
use Rattle.exo_meaning.proofs.Frame.{others_are_kept}
use Rattle.exo_meaning.proofs.Changes.{ScopedChanges, left_changes}
use Rattle.exo_meaning.proofs.Together.{either_order}
use Rattle.exo_meaning.proofs.Monotone.{data_is_apart}
use Rattle.exo_meaning.proofs.Ignored.{runs_ignore_unmentioned}
use Rattle.meaning_laws.specs.Sound.{IsSound, binds}
use Rattle.meaning_laws.specs.Sorted.{IsSorted}
use Rattle.meaning_laws.specs.Fields.{step_writes_field, HasField}
use Rattle.meaning_laws.specs.Live.{live_step, refield, Agree, SameLive}
use Rattle.meaning_laws.specs.UnitFields.{unit_writes, unit_live}
use Rattle.meaning_laws.specs.Touched.{Modes, unit_modes, touched, MayTouch}
use Rattle.meaning_laws.proofs.Parts.{none_some, some_injective, both_some}
use Rattle.meaning_laws.proofs.Names.{if_gives, Others, SameControl, step_names, step_control}
use Rattle.meaning_laws.proofs.Substitute.{and_parts}
use Rattle.meaning_laws.proofs.FirstState.{new_is_none}
use Rattle.meaning_laws.proofs.Sound.{step_sound}
use Rattle.meaning_laws.proofs.Fields.{step_leaves}
use Rattle.meaning_laws.proofs.Live.{runs_forget}
use Rattle.meaning_laws.proofs.UnitFields.{unit_leaves, unit_forgets}
use Rattle.meaning_laws.proofs.UnitFootprints.{runs_go_by_footprint, runs_exchange}
use Rattle.place_laws.specs.Order.Statements.{IsBlindTo, one, MayChangePlaces, StatementsCommute}
use Rattle.place_laws.proofs.OfOrder.Unwritten.{differs, Roots, unwritten}

run_one : (world : World) (a : Statement) → run world (one a) ≡ step world a
run_one world a = fun_ext (λ s. then_some (step world a s))

-- ---- what a step does to the cells alone

abbrev on_cells : State → State → State
on_cells s t = record { scene = s.scene; cells = t.cells }

abbrev cells_alone : (State → Option State) → State → Option State
cells_alone f s = option_map (on_cells s) (f s)

exchange_cells : (d : Change) (f : State → Option State) (s : State) → Exchanges d f s
    → Exchanges d (cells_alone f) s
exchange_cells d f s h = ap (option_map (on_cells (changed_by d s))) h ∙ go (f s)
  where
    go : (o : Option State) → option_map (on_cells (changed_by d s)) (option_map (changed_by d) o)
        ≡ option_map (changed_by d) (option_map (on_cells s) o)
    go None = refl
    go (Some t) = refl

nothing : (o : Option Shape) → o ≡ None → IsSome o → ⊥
nothing None e h = true≢false (sym h)
nothing (Some shape) e h = none_some (sym e)

-- ---- names that a statement binds

-- a name that the one binds is not bound by the other
not_both : (hidden : ℕ → Bool) (b : Statement) → in_statement hidden b ≡ false → (y : ℕ)
    → hidden y ≡ true → binds b y ≡ false
not_both hidden (Assign x is e) k y h = refl
not_both hidden (Reduce x is e) k y h = refl
not_both hidden (Config f a) k y h = refl
not_both hidden Pass k y h = refl
not_both hidden (If c a b) k y h = refl
not_both hidden (For i lo hi b) k y h = refl
not_both hidden (Alloc x cell dims memory) k y h =
    differs hidden y h x.id (or_parts (hidden x.id) (in_controls hidden dims) k).0
not_both hidden (View w x coords) k y h =
    differs hidden y h w.id (or_parts (hidden w.id) (hidden x || in_coords hidden coords) k).0
not_both hidden (Call n args) k y h = refl

-- what is bound holds nothing
bound_empty : (world : World) (a : Statement) (x : ℕ) → binds a x ≡ true → (s : State) → IsSound s
    → s.scene.buffers x ≡ None → IfSome (step world a s) (λ t. (at : List ℤ) → t.cells x at
    ≡ Undefined)
bound_empty world (Assign z is e) x k s sound none = absurd (true≢false (sym k))
bound_empty world (Reduce z is e) x k s sound none = absurd (true≢false (sym k))
bound_empty world (Config f a) x k s sound none = absurd (true≢false (sym k))
bound_empty world Pass x k s sound none = absurd (true≢false (sym k))
bound_empty world (If c a b) x k s sound none = absurd (true≢false (sym k))
bound_empty world (For i lo hi b) x k s sound none = absurd (true≢false (sym k))
bound_empty world (Alloc z cell dims memory) x k s sound none =
    if_where (λ t. (at : List ℤ) → t.cells x at ≡ Undefined) (all_positive (numbers s.scene dims))
    (Some (with_contents z.id (λ at. Undefined)
    (on_scene (with_buffer z.id (tensor cell (numbers s.scene dims))) s)))
    (λ at. ap (λ t. cond {A = List ℤ → Value} t (λ at. Undefined) (s.cells x) at) k)
bound_empty world (View w z coords) x k s sound none =
    if_then (λ seen. Unit {0}) (λ t. (at : List ℤ) → t.cells x at ≡ Undefined)
    (window s.scene z coords) _ (any (window s.scene z coords)) (λ seen u at. sound.tidy x none at)
bound_empty world (Call n args) x k s sound none = absurd (true≢false (sym k))

-- the buffer of each name
abbrev root_of : Option Seen → ℕ → ℕ
root_of None y = y
root_of (Some z) y = z.buffer

module _ (fields : List ConfigField) (memories : ℕ) (ps : List Procedure) (scope : Scope)
    (root : ℕ → ℕ) where
  abbrev world : World
  world = unit_world (kinds_of fields) ps

  abbrev modes : ℕ → Modes
  modes = unit_modes (kinds_of fields) ps

  abbrev May : Statement → State → Type 0
  May a s = MayTouch fields memories ps scope root (one a) s

  abbrev entries : Statement → State → List Entry
  entries a s = touched world modes (one a) s

  abbrev Fine : Statement → Type 0
  Fine a = is_statement (field_kind fields) memories world.callees scope root a ≡ true

  -- what a statement binds was not in scope
  bound_new : (a : Statement) → Fine a → (x : ℕ) → binds a x ≡ true → sort_in scope x ≡ None
  bound_new (Assign z is e) ok x k = absurd (true≢false (sym k))
  bound_new (Reduce z is e) ok x k = absurd (true≢false (sym k))
  bound_new (Config f a) ok x k = absurd (true≢false (sym k))
  bound_new Pass ok x k = absurd (true≢false (sym k))
  bound_new (If c a b) ok x k = absurd (true≢false (sym k))
  bound_new (For i lo hi b) ok x k = absurd (true≢false (sym k))
  bound_new (Alloc z cell dims memory) ok x k = ap (sort_in scope) (eqb-true x z.id k)
      ∙ new_is_none scope z (and_parts (is_new scope z) _ ok).0
  bound_new (View w z coords) ok x k = ap (sort_in scope) (eqb-true x w.id k)
      ∙ new_is_none scope w (and_parts (is_new scope w) _ ok).0
  bound_new (Call n args) ok x k = absurd (true≢false (sym k))

  not_there : (s : State) → IsSorted (kinds_of fields) scope s → (x : ℕ) → sort_in scope x ≡ None
      → s.scene.buffers x ≡ None
  not_there s sorted x n = go (s.scene.buffers x) refl
    where
      go : (o : Option Shape) → s.scene.buffers x ≡ o → o ≡ None
      go None e = refl
      go (Some shape) e = let q = sorted.buffers x shape e in absurd (none_some (sym n ∙ q.2))

  -- ---- one statement

  module _ (a : Statement) (s : State) (may : May a s) where
    bound_absent : (x : ℕ) → binds a x ≡ true → s.scene.buffers x ≡ None
    bound_absent x k = not_there s may.sorted x
        (bound_new a (and_parts (is_statement (field_kind fields) memories world.callees scope root
        a) _ may.block).0 x k)

    -- no name sees a buffer that the statement makes
    seen_other : (x : ℕ) (z : Seen) → s.scene.views x ≡ Some z → binds a z.buffer ≡ false
    seen_other x z e = go (binds a z.buffer) refl
      where
        go : (t : Bool) → binds a z.buffer ≡ t → t ≡ false
        go false k = refl
        go true k = absurd (nothing (s.scene.buffers z.buffer) (bound_absent z.buffer k)
            (may.sound.seen x z e))

    exchanges : (d : Change) → LeavesOthers d s.scene → Each (Passes d) (entries a s)
        → Exchanges d (cells_alone (step world a)) s
    exchanges d l p = exchange_cells d (step world a) s
        (subst (λ (f : State → Option State). Exchanges d f s) (run_one world a)
        (runs_exchange fields memories ps scope root (one a) s may d l p))

    module _ (t : State) (e : step world a s ≡ Some t) where
      after_sound : IsSound t
      after_sound = if_gives IsSound (step world a s) t (step_sound world a s may.sound) e

      after_names : Others (binds a) s t
      after_names = if_gives (Others (binds a) s) (step world a s) t (step_names world a s) e

      after_control : SameControl s t
      after_control = if_gives (SameControl s) (step world a s) t (step_control world a s) e

      -- buffers that were not there hold nothing
      empty : (x : ℕ) → s.scene.buffers x ≡ None → (at : List ℤ) → t.cells x at ≡ Undefined
      empty x n = go (binds a x) refl
        where
          go : (r : Bool) → binds a x ≡ r → (at : List ℤ) → t.cells x at ≡ Undefined
          go true k = if_gives (λ (u : State). (at : List ℤ) → u.cells x at ≡ Undefined)
              (step world a s) t (bound_empty world a x k s may.sound n) e
          go false k = after_sound.tidy x (sym (after_names x k).buffers ∙ n)

      cells_sound : IsSound (on_cells s t)
      cells_sound = record { tidy = empty; seen = may.sound.seen }

      goes_by : ChangesBy (entries a s) s t
      goes_by = if_gives (ChangesBy (entries a s) s) (run world (one a) s) t
          (runs_go_by_footprint fields memories ps scope root (one a) s may)
          (then_some (step world a s) ∙ e)

      kept_cells : t.cells ≡ (left s t).cells
      kept_cells = fun_ext (λ x. fun_ext (λ at. go x at (s.scene.buffers x) refl))
        where
          go : (x : ℕ) (at : List ℤ) (o : Option Shape) → s.scene.buffers x ≡ o
              → t.cells x at ≡ kept o (t.cells x) at
          go x at None k = empty x k at
          go x at (Some shape) k = refl

      changes : ScopedChanges (entries a s) s (on_cells s t)
      changes =
          let c = left_changes (entries a s) s s t may.sound.tidy refl refl goes_by in
          record {
            changes = record {
              change = c.changes.change;
              cells = kept_cells ∙ c.changes.cells;
              idle = c.changes.idle;
              sums = c.changes.sums;
              shapes = λ p h. refl;
              tidy = empty;
            };
            dead = c.dead;
            buffers = refl;
          }

    all_changes : IfSome (cells_alone (step world a) s) (ScopedChanges (entries a s) s)
    all_changes = if_map (λ t. step world a s ≡ Some t) (ScopedChanges (entries a s) s)
        (step world a s) (on_cells s) (here (step world a s)) changes

    all_stay : IfSome (cells_alone (step world a) s) (HasScene s.scene)
    all_stay = if_map (λ t. Unit {0}) (HasScene s.scene) (step world a s) (on_cells s)
        (any (step world a s)) (λ t u. refl)

  -- ---- one after the other

  -- w is z with the names and fields of t where these are bound or written
  record Joins (bound written : ℕ → Bool) (t z w : State) : Type 0 where
    control : (x : ℕ) → w.scene.control x ≡ t.scene.control x
    buffers : (x : ℕ) → bound x ≡ false → w.scene.buffers x ≡ z.scene.buffers x
    views : (x : ℕ) → bound x ≡ false → w.scene.views x ≡ z.scene.views x
    own_buffers : (x : ℕ) → bound x ≡ true → w.scene.buffers x ≡ t.scene.buffers x
    own_views : (x : ℕ) → bound x ≡ true → w.scene.views x ≡ t.scene.views x
    other_fields : (f : ℕ) → written f ≡ false → w.scene.fields f ≡ z.scene.fields f
    own_fields : (f : ℕ) → written f ≡ true → w.scene.fields f ≡ t.scene.fields f
    cells : w.cells ≡ z.cells

  abbrev written_by : Statement → ℕ → Bool
  written_by a f = step_writes_field (unit_writes ps) f a

  written_else : (a : Statement) (s t : State) → step world a s ≡ Some t → (f : ℕ)
      → written_by a f ≡ false → t.scene.fields f ≡ s.scene.fields f
  written_else a s t e f k = if_gives (HasField f s) (step world a s) t
      (step_leaves f world (unit_writes ps) (unit_leaves (kinds_of fields) ps) a k s) e

  module _ (a b : Statement) (s : State) (may : May a s) (blind : IsBlindTo ps a b) (t : State)
      (e : step world a s ≡ Some t) where
    abbrev middle : State
    middle = refield t.scene.fields (on_cells s t)

    abbrev out : ℕ → Bool
    out f = not (written_by a f)

    agree : Agree (λ f. live_step (unit_live ps) f b (out f)) s.scene.fields t.scene.fields
    agree f h = go (written_by a f) refl
      where
        go : (r : Bool) → written_by a f ≡ r → s.scene.fields f ≡ t.scene.fields f
        go false k = sym (written_else a s t e f k)
        go true k = absurd (true≢false (sym h ∙ ap (λ r. live_step (unit_live ps) f b (not r)) k
            ∙ (blind.fields f k).not_read))

    forgets : Both (SameLive out) (step world b (on_cells s t)) (step world b middle)
    forgets = subst (λ (g : State → Option State). Both (SameLive out) (g (on_cells s t))
        (g middle)) (run_one world b) (runs_forget world (unit_live ps)
        (unit_forgets (kinds_of fields) ps) (one b) out (on_cells s t) t.scene.fields agree)

    same_but : SameBut (binds a) middle t
    same_but = record {
      control = λ x k. sym (after_control a s may t e x);
      buffers = λ x k. (after_names a s may t e x k).buffers;
      views = λ x k. (after_names a s may t e x k).views;
      fields = refl;
      cells = λ x k. refl;
      seen = λ x z k i. seen_other a s may x z i;
    }

    ignores : Both (SameBut (binds a)) (step world b middle) (step world b t)
    ignores = subst (λ (g : State → Option State). Both (SameBut (binds a)) (g middle) (g t))
        (run_one world b) (runs_ignore_unmentioned (binds a) world (one b)
        (ap (λ r. r || false) blind.names) middle t same_but)

    module _ (z w : State) (ez : step world b (on_cells s t) ≡ Some z) (ew : step world b t
        ≡ Some w) where
      z_sound : IsSound z
      z_sound = if_gives IsSound (step world b (on_cells s t)) z (step_sound world b (on_cells s t)
          (cells_sound a s may t e)) ez

      w_sound : IsSound w
      w_sound = if_gives IsSound (step world b t) w (step_sound world b t (after_sound a s may t e))
          ew

      w_names : Others (binds b) t w
      w_names = if_gives (Others (binds b) t) (step world b t) w (step_names world b t) ew

      z_names : Others (binds b) (on_cells s t) z
      z_names = if_gives (Others (binds b) (on_cells s t)) (step world b (on_cells s t)) z
          (step_names world b (on_cells s t)) ez

      abbrev seen_root : ℕ → ℕ
      seen_root y = root_of (t.scene.views y) y

      has_roots : HasRoots seen_root t.scene
      has_roots x z i = ap (λ o. root_of o x) (sym i)

      roots_differ : (x : ℕ) → binds a x ≡ true → Roots (binds a) x seen_root
      roots_differ x k y h = ap (λ o. x == root_of o y) (sym (after_names a s may t e y h).views)
          ∙ go (s.scene.views y) refl
        where
          go : (o : Option Seen) → s.scene.views y ≡ o → (x == root_of o y) ≡ false
          go None i = differs (binds a) x k y h
          go (Some seen) i = differs (binds a) x k seen.buffer (seen_other a s may y seen i)

      z_empty : (x : ℕ) → binds a x ≡ true → (at : List ℤ) → z.cells x at ≡ Undefined
      z_empty x k = z_sound.tidy x (sym (z_names x (not_both (binds a) b blind.names x k)).buffers
          ∙ bound_absent a s may x k)

      w_empty : (x : ℕ) → binds a x ≡ true → (at : List ℤ) → w.cells x at ≡ Undefined
      w_empty x k at = go (t.scene.buffers x) refl
        where
          go : (o : Option Shape) → t.scene.buffers x ≡ o → w.cells x at ≡ Undefined
          go None i = w_sound.tidy x (sym (w_names x (not_both (binds a) b blind.names x k)).buffers
              ∙ i) at
          go (Some shape) i =
              let same = if_gives (IsKept x t) (run world (one b) t) w
              (others_are_kept world seen_root (one b) x t has_roots
              (subst (λ o. IsSome o) (sym i) refl) (unwritten (binds a) x k world (one b)
              seen_root (roots_differ x k) (ap (λ r. r || false) blind.names)))
              (then_some (step world b t) ∙ ew) in
              ap (λ (c : List ℤ → Value). c at) same.cells
              ∙ empty a s may t e x (bound_absent a s may x k) at

      joins : (m : State) → SameLive out z m → SameBut (binds a) m w
          → Joins (binds a) (written_by a) t z w
      joins m live but =
          let same = subst (λ q. SameBut (binds a) q w) live.same but in
          record {
            control = λ x. if_gives (SameControl t) (step world b t) w (step_control world b t) ew
                x;
            buffers = λ x k. sym (same.buffers x k);
            views = λ x k. sym (same.views x k);
            own_buffers = λ x k. sym (w_names x (not_both (binds a) b blind.names x k)).buffers;
            own_views = λ x k. sym (w_names x (not_both (binds a) b blind.names x k)).views;
            other_fields = λ f k. ap (λ g. g f) (sym same.fields) ∙ sym (live.agree f (ap not k));
            own_fields = λ f k. written_else b t w ew f (blind.fields f k).not_written;
            cells = fun_ext (λ x. fun_ext (λ at. at_cell x at same (binds a x) refl));
          }
        where
          at_cell : (x : ℕ) (at : List ℤ) → SameBut (binds a) (refield live.fields z) w → (r : Bool)
              → binds a x ≡ r → w.cells x at ≡ z.cells x at
          at_cell x at same false k = ap (λ (c : List ℤ → Value). c at) (sym (same.cells x k))
          at_cell x at same true k = w_empty x k at ∙ sym (z_empty x k at)

    follows : Both (Joins (binds a) (written_by a) t) (step world b (on_cells s t)) (step world b t)
    follows = go (step world b (on_cells s t)) (step world b middle) (step world b t) refl refl
        forgets ignores
      where
        go : (o p q : Option State) → step world b (on_cells s t) ≡ o → step world b t ≡ q
            → Both (SameLive out) o p → Both (SameBut (binds a)) p q
            → Both (Joins (binds a) (written_by a) t) o q
        go None None None i j h k = tt
        go None None (Some w) i j h k = absurd k
        go None (Some m) q i j h k = absurd h
        go (Some z) None q i j h k = absurd h
        go (Some z) (Some m) None i j h k = absurd k
        go (Some z) (Some m) (Some w) i j h k = joins z w i j m h k

  -- ---- both orders

  none_follows : {A B C : Type 0} (R : A → B → Type 0) (k : A → C) (o : Option A) (p : Option B)
      → Both R o p → None ≡ option_map k o → None ≡ p
  none_follows R k None None h e = refl
  none_follows R k None (Some b) h e = absurd h
  none_follows R k (Some a) None h e = refl
  none_follows R k (Some a) (Some b) h e = absurd (none_some e)

  abbrev SameCells : State → State → Type 0
  SameCells z y = z.cells ≡ y.cells

  cells_of : (t u : State) (o r : Option State)
      → option_map (on_cells t) o ≡ option_map (on_cells u) r → Both SameCells o r
  cells_of t u None None e = tt
  cells_of t u None (Some y) e = absurd (none_some e)
  cells_of t u (Some z) None e = absurd (none_some (sym e))
  cells_of t u (Some z) (Some y) e =
      ap (λ (q : State). q.cells) (some_injective (on_cells t z) (on_cells u y) e)

  -- what each of two leaves alone or sets, in either order
  pick : {A : Type 0} (s t u z y w v : A) (p q : Bool) → (p ≡ true → q ≡ false)
      → (p ≡ false → w ≡ z) → (p ≡ true → w ≡ t) → (q ≡ false → v ≡ y) → (q ≡ true → v ≡ u) → z ≡ u
      → y ≡ t → (p ≡ false → s ≡ t) → (q ≡ false → s ≡ u) → w ≡ v
  pick s t u z y w v true true apart wz wt vy vu zu yt st su = absurd (true≢false (apart refl))
  pick s t u z y w v true false apart wz wt vy vu zu yt st su = wt refl ∙ sym yt ∙ sym (vy refl)
  pick s t u z y w v false true apart wz wt vy vu zu yt st su = wz refl ∙ zu ∙ sym (vu refl)
  pick s t u z y w v false false apart wz wt vy vu zu yt st su = wz refl ∙ zu ∙ sym (su refl)
      ∙ st refl ∙ sym yt ∙ sym (vy refl)

  scene_of : (c d : Scene) → c.control ≡ d.control → c.buffers ≡ d.buffers → c.views ≡ d.views
      → c.fields ≡ d.fields → c ≡ d
  scene_of c d e f g h =
      ap₂ (λ (x : ℕ → ℤ) (y : ℕ → Option Shape). record {
        control = x;
        buffers = y;
        views = c.views;
        fields = c.fields;
      }) e f
      ∙ ap₂ (λ (x : ℕ → Option Seen) (y : ℕ → ℤ). record {
        control = d.control;
        buffers = d.buffers;
        views = x;
        fields = y;
      }) g h

  -- the scene does not depend on the cells
  scene_same : (b : Statement) (s t u z : State) → step world b s ≡ Some u
      → step world b (on_cells s t) ≡ Some z → z.scene ≡ u.scene
  scene_same b s t u z i j = sym (both_some SameScene (run world (one b) s)
      (run world (one b) (on_cells s t)) u z (then_some (step world b s) ∙ i)
      (then_some (step world b (on_cells s t)) ∙ j) (data_is_apart (kinds_of fields) ps (one b) s
      (on_cells s t) (record { scene = refl; cells = λ x at. tt }))).scene

  module _ (a b : Statement) (s : State) (may : MayChangePlaces fields memories ps scope root a b s)
    where
      cells_commute : then_do (cells_alone (step world a) s) (cells_alone (step world b))
          ≡ then_do (cells_alone (step world b) s) (cells_alone (step world a))
      cells_commute = either_order (cells_alone (step world a)) (cells_alone (step world b))
          (entries a s) (entries b s) s may.clear.0 may.clear.1
          (exchanges a s may.first) (exchanges b s may.second)
          (cells_alone (step world a) s) (cells_alone (step world b) s) refl refl
          (all_changes a s may.first) (all_changes b s may.second)
          (all_stay a s may.first) (all_stay b s may.second)

      module _ (t u : State) (et : step world a s ≡ Some t) (eu : step world b s ≡ Some u) where
        same_end : (z w y v : State) → step world b (on_cells s t) ≡ Some z
            → step world a (on_cells s u) ≡ Some y → Joins (binds a) (written_by a) t z w
            → Joins (binds b) (written_by b) u y v → SameCells z y → w ≡ v
        same_end z w y v ez ey h k c =
            ap₂ (λ (x : Scene) (d : Cells). record { scene = x; cells = d })
            (scene_of w.scene v.scene
            (fun_ext (λ x. h.control x ∙ after_control a s may.first t et x
            ∙ sym (after_control b s may.second u eu x) ∙ sym (k.control x)))
            (fun_ext (λ x. pick (s.scene.buffers x) (t.scene.buffers x) (u.scene.buffers x)
            (z.scene.buffers x) (y.scene.buffers x) (w.scene.buffers x) (v.scene.buffers x)
            (binds a x) (binds b x) (not_both (binds a) b may.to_second.names x) (h.buffers x)
            (h.own_buffers x) (k.buffers x) (k.own_buffers x) (ap (λ (q : Scene). q.buffers x)
            zu) (ap (λ (q : Scene). q.buffers x) yt)
            (λ e. (after_names a s may.first t et x e).buffers)
            (λ e. (after_names b s may.second u eu x e).buffers)))
            (fun_ext (λ x. pick (s.scene.views x) (t.scene.views x) (u.scene.views x)
            (z.scene.views x) (y.scene.views x) (w.scene.views x) (v.scene.views x) (binds a x)
            (binds b x) (not_both (binds a) b may.to_second.names x) (h.views x) (h.own_views x)
            (k.views x) (k.own_views x) (ap (λ (q : Scene). q.views x) zu)
            (ap (λ (q : Scene). q.views x) yt) (λ e. (after_names a s may.first t et x e).views)
            (λ e. (after_names b s may.second u eu x e).views)))
            (fun_ext (λ f. pick (s.scene.fields f) (t.scene.fields f) (u.scene.fields f)
            (z.scene.fields f) (y.scene.fields f) (w.scene.fields f) (v.scene.fields f)
            (written_by a f) (written_by b f) (λ e. (may.to_second.fields f e).not_written)
            (h.other_fields f) (h.own_fields f) (k.other_fields f) (k.own_fields f)
            (ap (λ (q : Scene). q.fields f) zu) (ap (λ (q : Scene). q.fields f) yt)
            (λ e. sym (written_else a s t et f e)) (λ e. sym (written_else b s u eu f e)))))
            (h.cells ∙ c ∙ sym k.cells)
          where
            zu : z.scene ≡ u.scene
            zu = scene_same b s t u z eu ez

            yt : y.scene ≡ t.scene
            yt = scene_same a s u t y et ey

        both_end : (o q r p : Option State) → step world b (on_cells s t) ≡ o
            → step world a (on_cells s u) ≡ r → Both (Joins (binds a) (written_by a) t) o q
            → Both (Joins (binds b) (written_by b) u) r p → Both SameCells o r → q ≡ p
        both_end None (Some w) r p eo er h k c = absurd h
        both_end (Some z) None r p eo er h k c = absurd h
        both_end None None None None eo er h k c = refl
        both_end None None None (Some v) eo er h k c = absurd k
        both_end None None (Some y) p eo er h k c = absurd c
        both_end (Some z) (Some w) None p eo er h k c = absurd c
        both_end (Some z) (Some w) (Some y) None eo er h k c = absurd k
        both_end (Some z) (Some w) (Some y) (Some v) eo er h k c =
            ap Some (same_end z w y v eo er h k c)

      either : (o r : Option State) → step world a s ≡ o → step world b s ≡ r
          → then_do (option_map (on_cells s) o) (cells_alone (step world b)) ≡ then_do
          (option_map (on_cells s) r) (cells_alone (step world a))
          → then_do o (step world b) ≡ then_do r (step world a)
      either None None e i c = refl
      either None (Some u) e i c = none_follows (Joins (binds b) (written_by b) u)
          (on_cells (on_cells s u)) (step world a (on_cells s u)) (step world a u)
          (follows b a s may.second may.to_first u i) c
      either (Some t) None e i c = sym (none_follows (Joins (binds a) (written_by a) t)
          (on_cells (on_cells s t)) (step world b (on_cells s t)) (step world b t)
          (follows a b s may.first may.to_second t e) (sym c))
      either (Some t) (Some u) e i c =
          both_end t u e i (step world b (on_cells s t)) (step world b t)
          (step world a (on_cells s u)) (step world a u) refl refl
          (follows a b s may.first may.to_second t e) (follows b a s may.second may.to_first u i)
          (cells_of (on_cells s t) (on_cells s u) (step world b (on_cells s t))
          (step world a (on_cells s u)) c)

pub statements_commute : StatementsCommute
statements_commute fields memories ps scope root a b rest s may =
    let world = unit_world (kinds_of fields) ps in
    sym (then_assoc (step world a s) (step world b) (run world rest))
    ∙ ap (λ o. then_do o (run world rest)) (either fields memories ps scope root a b s may
    (step world a s) (step world b s) refl refl (cells_commute fields memories ps scope root a b
    s may))
    ∙ then_assoc (step world b s) (step world a) (run world rest)
