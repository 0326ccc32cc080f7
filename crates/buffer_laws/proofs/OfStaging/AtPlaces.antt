-- What is known of names and cells wherever a run comes to, for a block that is staged there.
use Rattle.std.proofs.Common.{◌≡◌, ◌==◌, ◌||◌, ◌&&◌, not, cond, ℕ, Bool, true, false, true≢false}
use Rattle.std.proofs.Common.{Option, Some, None, IsSome, refl, sym, ap, ◌∙◌, subst, eqb-true}
use Rattle.exo_tree.specs.Tree.{Binder, Statement, Assign, Reduce, Config, Pass, If, For, Alloc}
use Rattle.exo_tree.specs.Tree.{View, Call, Block}
use Rattle.exo_tree.specs.Context.{Context, Here, After, InLoop, InThen, InElse, fill}
use Rattle.exo_meaning.specs.Scene.{Seen, window, then_do}
use Rattle.exo_meaning.specs.State.{State, on_scene, with_control, with_view}
use Rattle.exo_meaning.specs.Run.{World, run, step, turns_of, roots_after, unit_world, kinds_of}
use Rattle.exo_meaning.specs.Units.{field_kind}
use Rattle.exo_meaning.specs.Unseen.{in_control, in_condition}
use Rattle.exo_meaning.proofs.Frame.{or_parts}
use Rattle.exo_meaning.proofs.Windows.{none_is_some}
use Rattle.meaning_laws.specs.Context.{ComesTo}
use Rattle.meaning_laws.specs.Scoped.{is_not, is_param, is_scoped, step_is_scoped}
use Rattle.meaning_laws.specs.Sound.{binds, IsSameName}
use Rattle.meaning_laws.proofs.Copies.{sound_law, unbound_law}
use Rattle.meaning_laws.proofs.Names.{if_gives, step_names, come_to_turn_names, Others}
use Rattle.meaning_laws.proofs.Parts.{some_injective}
use Rattle.meaning_laws.proofs.Sorted.{fits_at_law}
use Rattle.meaning_laws.proofs.Scoped.{not_true}
use Rattle.meaning_laws.proofs.Substitute.{and_parts}
use Rattle.meaning_laws.proofs.WellFormed.{well_scoped}
use Rattle.place_laws.specs.Scope.Holes.{roots_at}
use Rattle.place_laws.proofs.OfScope.Roots.{names_have_roots}
use Rattle.buffer_laws.specs.Staging.Alone.{AreRoots}
use Rattle.buffer_laws.specs.Staging.AtPlaces.{OwnRootsLaw, KnownAtPlace}

-- a name that is not bound has no buffer
abbrev HaveNone : (ℕ → Bool) → State → Type 0
HaveNone bound s = (y : ℕ) → bound y ≡ false → s.scene.buffers y ≡ None

-- ---- behind a statement

kept_own : (root : ℕ → ℕ) (s t : State) → AreRoots root s
    → ((y : ℕ) → false ≡ false → IsSameName y s t) → AreRoots root t
kept_own root s t h names b i = h b (subst IsSome (sym (names b refl).buffers) i)

kept_none : (bound : ℕ → Bool) (world : World) (a : Statement) (s t : State) → HaveNone bound s
    → step world a s ≡ Some t → HaveNone (λ y. binds a y || bound y) t
kept_none bound world a s t none e y k =
    sym (if_gives (Others (binds a) s) (step world a s) t (step_names world a s) e y
    (or_parts (binds a y) (bound y) k).0).buffers ∙ none y (or_parts (binds a y) (bound y) k).1

module _ (bound : ℕ → Bool) (world : World) (root : ℕ → ℕ) (s t : State)
    (none : HaveNone bound s) (own : AreRoots root s) where
  names_of : (a : Statement) → step world a s ≡ Some t → Others (binds a) s t
  names_of a e = if_gives (Others (binds a) s) (step world a s) t (step_names world a s) e

  viewed : (w : Binder) (o : Option Seen)
      → then_do o (λ seen. Some (on_scene (with_view w.id seen) s)) ≡ Some t
      → s.scene.buffers ≡ t.scene.buffers
  viewed w None e = absurd (none_is_some e)
  viewed w (Some seen) e = ap (λ (q : State). q.scene.buffers)
      (some_injective (on_scene (with_view w.id seen) s) t e)

  own_next : (a : Statement) → step_is_scoped bound a ≡ true → step world a s ≡ Some t
      → AreRoots (roots_after a root) t
  own_next (Assign x is d) k e = kept_own root s t own (names_of (Assign x is d) e)
  own_next (Reduce x is d) k e = kept_own root s t own (names_of (Reduce x is d) e)
  own_next (Config f g) k e = kept_own root s t own (names_of (Config f g) e)
  own_next Pass k e = kept_own root s t own (names_of Pass e)
  own_next (If c b d) k e = kept_own root s t own (names_of (If c b d) e)
  own_next (For i lo hi b) k e = kept_own root s t own (names_of (For i lo hi b) e)
  own_next (Call n gs) k e = kept_own root s t own (names_of (Call n gs) e)
  own_next (Alloc x cell dims memory) k e = λ b i. go b i (b == x.id) refl
    where
      go : (b : ℕ) → IsSome (t.scene.buffers b) → (r : Bool) → (b == x.id) ≡ r
          → cond r x.id (root b) ≡ b
      go b i true m = sym (eqb-true b x.id m)
      go b i false m = own b
          (subst IsSome (sym (names_of (Alloc x cell dims memory) e b m).buffers) i)
  own_next (View w x coords) k e = λ b i. go b i (b == w.id) refl
    where
      go : (b : ℕ) → IsSome (t.scene.buffers b) → (r : Bool) → (b == w.id) ≡ r
          → cond r (root x) (root b) ≡ b
      go b i false m = own b (subst IsSome (sym (names_of (View w x coords) e b m).buffers) i)
      go b i true m = absurd (true≢false (sym (subst IsSome
          (ap t.scene.buffers (eqb-true b w.id m)
          ∙ ap (λ f. f w.id) (sym (viewed w (window s.scene x coords) e))
          ∙ none w.id (not_true (bound w.id) (and_parts (not (bound w.id)) _ k).0)) i)))

-- ---- at a hole

module _ (world : World) (old : Block) where
  come_own : (c : Context) (bound : ℕ → Bool) (root : ℕ → ℕ) (s u : State)
      → is_scoped bound (fill c old) ≡ true → HaveNone bound s → AreRoots root s
      → ComesTo world old c s u → AreRoots (roots_at c root) u
  come_own (Here rest) bound root s u k none own z =
      subst (λ (t : State). AreRoots root t) (sym z) own
  come_own (After a c) bound root s u k none own z =
      let p = and_parts (step_is_scoped bound a) (is_scoped (λ y. binds a y || bound y)
      (fill c old)) k in
      come_own c (λ y. binds a y || bound y) (roots_after a root) z.0 u p.1
      (kept_none bound world a s z.0 none z.1) (own_next bound world root s z.0 none own a p.0 z.1)
      z.2
  come_own (InLoop i lo hi c rest) bound root s u k none own z =
      let names = come_to_turn_names i.id (run world (fill c old)) (turns_of s.scene lo hi) s z.0
      z.1 z.2 in
      let inside = is_scoped (λ y. (y == i.id) || bound y) (fill c old) in
      let p = and_parts (step_is_scoped bound (For i lo hi (fill c old))) (is_scoped bound rest)
      k in
      let q = and_parts (not (bound i.id)) (not (in_control (is_not bound) lo
      || in_control (is_not bound) hi) && inside) p.0 in
      let r = and_parts (not (in_control (is_not bound) lo || in_control (is_not bound) hi))
      inside q.1 in
      come_own c (λ y. (y == i.id) || bound y) root (on_scene (with_control i.id z.0) z.1) u r.1
      (λ y m. sym (names y).buffers ∙ none y (or_parts (y == i.id) (bound y) m).1)
      (kept_own root s z.1 own (λ y m. names y)) z.3
  come_own (InThen test c other rest) bound root s u k none own z =
      let p = and_parts (step_is_scoped bound (If test (fill c old) other)) (is_scoped bound rest)
      k in
      let q = and_parts (not (in_condition (is_not bound) test))
      (is_scoped bound (fill c old) && is_scoped bound other) p.0 in
      come_own c bound root s u
      (and_parts (is_scoped bound (fill c old)) (is_scoped bound other) q.1).0 none own z.1
  come_own (InElse test other c rest) bound root s u k none own z =
      let p = and_parts (step_is_scoped bound (If test other (fill c old))) (is_scoped bound rest)
      k in
      let q = and_parts (not (in_condition (is_not bound) test))
      (is_scoped bound other && is_scoped bound (fill c old)) p.0 in
      come_own c bound root s u
      (and_parts (is_scoped bound other) (is_scoped bound (fill c old)) q.1).1 none own z.1

-- ---- in a procedure

pub own_roots_law : OwnRootsLaw
own_roots_law fields memories ps p c old s u may was good come =
    let world = unit_world (kinds_of fields) ps in
    come_own world old c (is_param p) (λ y. y) s u
    (subst (λ b. is_scoped (is_param p) b ≡ true) was
    (well_scoped (field_kind fields) memories world.callees p may.procedure).0)
    (λ y k. (good.no_others y k).1) (λ b i. refl) come

pub known_at_place : KnownAtPlace
known_at_place fields memories ps p c a cell rank dense x coords b s u may was free sort good come
    fit =
    let world = unit_world (kinds_of fields) ps in
    let sorted = fits_at_law fields memories ps p c b may was s u good come in
    record {
      sound = sound_law world p b c s u good come;
      cells = sorted.cells;
      unbound = unbound_law world p b c s u good come a.id free;
      roots = names_have_roots fields memories ps p c b s u may good come;
      own_roots = own_roots_law fields memories ps p c b s u may was good come;
      cell_is = λ z to v k. sym (sorted.views x cell rank dense z sort v to k).cell_is;
      fit = fit;
    }
