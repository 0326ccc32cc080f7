-- Two neighbouring statements of a procedure in the other order.
use Rattle.std.proofs.Common.{◌≡◌, ℕ, ◌==◌, Bool, true, false, not, ◌&&◌, ◌||◌, List, []}
use Rattle.std.proofs.Common.{refl, sym, ap, ◌∙◌}
use Rattle.exo_tree.specs.Tree.{Statement, For, If, Block, end, next, Procedure}
use Rattle.exo_tree.specs.Tree.{ConfigField}
use Rattle.exo_tree.specs.Context.{Context, Here, After, InLoop, InThen, InElse, fill}
use Rattle.exo_meaning.specs.State.{State}
use Rattle.exo_meaning.specs.Run.{World, run, kinds_of, unit_world}
use Rattle.exo_meaning.specs.Inputs.{IsAdmissible}
use Rattle.exo_meaning.specs.Unseen.{in_control, in_condition, in_statement}
use Rattle.exo_meaning.specs.Units.{scope_of, field_kind, is_statement}
use Rattle.exo_meaning.proofs.Frame.{or_parts}
use Rattle.meaning_laws.specs.Context.{ComesTo}
use Rattle.meaning_laws.specs.Sound.{binds}
use Rattle.meaning_laws.specs.Scoped.{is_not, is_param, is_scoped, step_is_scoped, step_has_binder}
use Rattle.meaning_laws.specs.Sorted.{scope_at}
use Rattle.meaning_laws.proofs.Substitute.{and_parts}
use Rattle.meaning_laws.proofs.Scoped.{binders_new}
use Rattle.meaning_laws.proofs.Binders.{step_binder_new}
use Rattle.meaning_laws.proofs.Unmentioned.{unmentioned_law}
use Rattle.meaning_laws.proofs.WellFormed.{well_scoped}
use Rattle.meaning_laws.proofs.Copies.{sound_law}
use Rattle.meaning_laws.proofs.Sorted.{fits_at_law}
use Rattle.meaning_laws.proofs.SameRuns.{same_runs_law, same_runs_refine}
use Rattle.place_laws.specs.Scope.Holes.{roots_at}
use Rattle.place_laws.specs.Scope.WellAtPlace.{keeps_at}
use Rattle.place_laws.proofs.OfScope.WellAtPlace.{well_at_place}
use Rattle.place_laws.specs.Order.Reorder.{pair, OrdersApart, MayReorder, AreClearThere, exchanged}
use Rattle.place_laws.specs.Order.Reorder.{ReorderLaw, ReorderRefines}
use Rattle.place_laws.proofs.OfOrder.Statements.{statements_commute}

-- ---- names

and_true : (t : Bool) → t ≡ true → (t && true) ≡ true
and_true t e = ap (λ u. u && true) e

or_false : (t : Bool) → (t || false) ≡ true → t ≡ true
or_false true e = refl
or_false false e = e

module _ (a b : Statement) where
  unmentioned_there : (bound : ℕ → Bool) (rest : Block)
      → is_scoped bound (next a (next b rest)) ≡ true → step_is_scoped bound b ≡ true
      → in_statement (binds a) b ≡ false
  unmentioned_there bound rest h k =
      let p = and_parts (step_is_scoped bound a) (is_scoped (λ y. binds a y || bound y)
      (next b rest)) h in
      let q = and_parts (step_is_scoped (λ y. binds a y || bound y) b)
      (is_scoped (λ y. binds b y || (binds a y || bound y)) rest) p.1 in
      (or_parts (in_statement (binds a) b) false (unmentioned_law bound (binds a) (next b end)
      (and_true (step_is_scoped bound b) k)
      (λ x e. binders_new bound a x p.0 e)
      (λ x e. (or_parts (binds a x) (bound x) (step_binder_new (λ y. binds a y || bound y) b x q.0
      (or_false (step_has_binder b x) e))).0))).0

  unmentioned_at : (c : Context) (bound : ℕ → Bool) → is_scoped bound (fill c (pair a b)) ≡ true
      → is_scoped bound (fill c (pair b a)) ≡ true → in_statement (binds a) b ≡ false
  unmentioned_at (Here rest) bound h k =
      unmentioned_there bound rest h (and_parts (step_is_scoped bound b)
      (is_scoped (λ y. binds b y || bound y) (next a rest)) k).0
  unmentioned_at (After d c) bound h k =
      unmentioned_at c (λ y. binds d y || bound y) (later (pair a b) h) (later (pair b a) k)
    where
      later : (old : Block) → is_scoped bound (next d (fill c old)) ≡ true
          → is_scoped (λ y. binds d y || bound y) (fill c old) ≡ true
      later old h = (and_parts (step_is_scoped bound d) (is_scoped (λ y. binds d y || bound y)
          (fill c old)) h).1
  unmentioned_at (InLoop i lo hi c rest) bound h k =
      unmentioned_at c (λ y. (y == i.id) || bound y) (inner (pair a b) h) (inner (pair b a) k)
    where
      inner : (old : Block) → is_scoped bound (next (For i lo hi (fill c old)) rest) ≡ true
          → is_scoped (λ y. (y == i.id) || bound y) (fill c old) ≡ true
      inner old h =
          let p = and_parts (step_is_scoped bound (For i lo hi (fill c old)))
          (is_scoped (λ y. binds (For i lo hi (fill c old)) y || bound y) rest) h in
          let q = and_parts (not (bound i.id)) (not (in_control (is_not bound) lo || in_control
          (is_not bound) hi) && is_scoped (λ y. (y == i.id) || bound y) (fill c old)) p.0 in
          (and_parts (not (in_control (is_not bound) lo || in_control (is_not bound) hi))
          (is_scoped (λ y. (y == i.id) || bound y) (fill c old)) q.1).1
  unmentioned_at (InThen t c other rest) bound h k =
      unmentioned_at c bound (inner (pair a b) h) (inner (pair b a) k)
    where
      inner : (old : Block) → is_scoped bound (next (If t (fill c old) other) rest) ≡ true
          → is_scoped bound (fill c old) ≡ true
      inner old h =
          let p = and_parts (step_is_scoped bound (If t (fill c old) other))
          (is_scoped (λ y. binds (If t (fill c old) other) y || bound y) rest) h in
          let q = and_parts (not (in_condition (is_not bound) t)) (is_scoped bound (fill c old)
          && is_scoped bound other) p.0 in
          (and_parts (is_scoped bound (fill c old)) (is_scoped bound other) q.1).0
  unmentioned_at (InElse t other c rest) bound h k =
      unmentioned_at c bound (inner (pair a b) h) (inner (pair b a) k)
    where
      inner : (old : Block) → is_scoped bound (next (If t other (fill c old)) rest) ≡ true
          → is_scoped bound (fill c old) ≡ true
      inner old h =
          let p = and_parts (step_is_scoped bound (If t other (fill c old)))
          (is_scoped (λ y. binds (If t other (fill c old)) y || bound y) rest) h in
          let q = and_parts (not (in_condition (is_not bound) t)) (is_scoped bound other
          && is_scoped bound (fill c old)) p.0 in
          (and_parts (is_scoped bound other) (is_scoped bound (fill c old)) q.1).1

pub orders_apart : OrdersApart
orders_apart bound c a b h k = (unmentioned_at a b c bound h k, unmentioned_at b a c bound k h)

-- ---- procedures

module _ (fields : List ConfigField) (memories : ℕ) (ps : List Procedure) (p : Procedure)
    (c : Context) (a b : Statement) (may : MayReorder fields memories ps p c a b)
    (clear : AreClearThere fields ps p c a b) where
  abbrev world : World
  world = unit_world (kinds_of fields) ps

  abbrev Keeps : Block → Type 0
  Keeps d = keeps_at (field_kind fields) memories world.callees (scope_of [] p.params) (λ y. y) c d
      ≡ true

  -- what both keep, the first alone keeps
  first_of : (d e : Statement) → Keeps (pair d e) → Keeps (next d end)
  first_of d e h = and_true _ (and_parts (is_statement (field_kind fields) memories world.callees
      (scope_at c (scope_of [] p.params)) (roots_at c (λ y. y)) d) _ h).0

  -- wherever a run comes to the two
  pub same_there : (s u : State) → IsAdmissible world p s → ComesTo world (pair a b) c s u
      → run world (pair a b) u ≡ run world (pair b a) u
  same_there s u good come =
      let kinds = field_kind fields in
      let scope = scope_of [] p.params in
      let old = well_at_place kinds memories world.callees p c (pair a b) may.before.procedure
      may.there in
      let new = well_at_place kinds memories world.callees (exchanged p c a b) c (pair b a)
      may.after.procedure refl in
      let scoped = ap (is_scoped (is_param p)) (sym may.there)
      ∙ (well_scoped kinds memories world.callees p may.before.procedure).0 in
      let names = orders_apart (is_param p) c a b scoped (well_scoped kinds memories world.callees
      (exchanged p c a b) may.after.procedure).0 in
      let sound = sound_law world p (pair a b) c s u good come in
      let sorted = fits_at_law fields memories ps p c (pair a b) may.before may.there s u good
      come in
      statements_commute fields memories ps (scope_at c scope) (roots_at c (λ y. y)) a b end u
      (record {
        first = record {
          unit = may.before.unit;
          block = first_of a b old.piece;
          sound = sound;
          sorted = sorted;
        };
        second = record {
          unit = may.before.unit;
          block = first_of b a new.piece;
          sound = sound;
          sorted = sorted;
        };
        to_second = record { names = names.0; fields = may.to_second };
        to_first = record { names = names.1; fields = may.to_first };
        clear = clear s u good come;
      })

pub reorder_law : ReorderLaw
reorder_law fields memories ps p c a b may clear s good =
    same_runs_law (unit_world (kinds_of fields) ps) c (pair a b) (pair b a) p may.there
    (same_there fields memories ps p c a b may clear) s good

pub reorder_refines : ReorderRefines
reorder_refines fields memories ps p c a b may clear =
    same_runs_refine (unit_world (kinds_of fields) ps) c (pair a b) (pair b a) p may.there
    (same_there fields memories ps p c a b may clear)
