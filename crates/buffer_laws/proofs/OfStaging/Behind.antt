-- The nest behind a block.
use Rattle.std.proofs.Common.{◌≡◌, ◌==◌, ℕ, ℤ, Bool, true, false, cond, List, [], Option, Some}
use Rattle.std.proofs.Common.{None, IfSome, IsSome, refl, sym, ◌∙◌, subst, eq-eqb}
use Rattle.exo_tree.specs.Tree.{Window, Block, end, next}
use Rattle.exo_meaning.specs.Value.{Value, Undefined}
use Rattle.exo_meaning.specs.Scene.{Shape, Seen, window, extents, whole, updated}
use Rattle.exo_meaning.specs.State.{State}
use Rattle.exo_meaning.specs.Calls.{contents}
use Rattle.exo_meaning.specs.Run.{World, run, step, tensor}
use Rattle.exo_meaning.proofs.Frame.{or_parts}
use Rattle.exo_meaning.proofs.Windows.{none_is_some, one_value}
use Rattle.meaning_laws.specs.Scoped.{has_binder, step_has_binder}
use Rattle.meaning_laws.specs.Sound.{IsSound, IsSameName, binds}
use Rattle.meaning_laws.proofs.Apart.{binds_less}
use Rattle.meaning_laws.proofs.Names.{name_same, name_on, step_names}
use Rattle.meaning_laws.proofs.Parts.{then_gives}
use Rattle.meaning_laws.proofs.Sound.{run_sound}
use Rattle.inplace_laws.specs.Staged.{staged}
use Rattle.inplace_laws.proofs.Windows.{view_kept}
use Rattle.buffer_laws.specs.Staging.Stores.{RunOver, IsStaging}
use Rattle.buffer_laws.specs.Staging.Alone.{has_root}
use Rattle.buffer_laws.specs.Staging.Behind.{BehindLaw, RoundLaw}
use Rattle.buffer_laws.proofs.OfStaging.Box.{box_law}
use Rattle.buffer_laws.proofs.OfStaging.Loads.{at_all, set_none}
use Rattle.buffer_laws.proofs.OfStaging.Inside.{spans_law}
use Rattle.buffer_laws.proofs.OfStaging.Alone.{alone_law}
use Rattle.buffer_laws.proofs.OfStaging.Stage.{stage_law}

of_some : {A : Type 0} (P : A → Type 0) (o : Option A) (a : A) → IfSome o P → o ≡ Some a → P a
of_some P None a h e = absurd (none_is_some e)
of_some P (Some b) a h e = subst P (one_value b a e) h

-- a name that a block does not bind stands for the same
pub run_names : (world : World) (b : Block) (s t : State) (x : ℕ) → run world b s ≡ Some t
    → has_binder b x ≡ false → IsSameName x s t
run_names world end s t x e k = subst (λ u. IsSameName x s u) (one_value s t e) (name_same x s)
run_names world (next a b) s t x e k =
    let q = or_parts (step_has_binder a x) (has_binder b x) k in
    let g = then_gives (step world a s) (run world b) t e in
    name_on x s g.0 t (of_some (λ u. (y : ℕ) → binds a y ≡ false → IsSameName y s u)
    (step world a s) g.0 (step_names world a s) g.1 x (binds_less a x q.0))
    (run_names world b g.0 t x g.2 q.1)

pub behind_law : BehindLaw
behind_law world a x seen coords ls b s t sound h between e over =
    let names : (y : ℕ) → has_binder b y ≡ false → IsSameName y s t =
    λ y k. run_names world b s t y e k in
    let before : window s.scene x coords ≡ Some seen =
    subst (λ z. window z x coords ≡ Some seen) (set_none ls s.scene)
    (at_all ls (λ z. window z x coords ≡ Some seen) s.scene h.window []) in
    let here : window t.scene x coords ≡ Some seen =
    sym (view_kept x (Window x coords) between.plain (Window x coords) s.scene t.scene
    between.plain (names x between.name).views
    (λ y k. (names y (between.variables y k)).control)) ∙ before in
    let turns = spans_law x coords ls t.scene over in
    record {
      tidy = (of_some IsSound (run world b s) t (run_sound world b s sound) e).tidy;
      name = sym (names a between.own).views ∙ h.name;
      there = (h.there.0, sym (names seen.buffer between.root).buffers ∙ h.there.1);
      other = h.other;
      window = turns.1 seen here;
      distinct = h.distinct;
      over = subst (λ ds. RunOver ls ds t.scene) (box_law t.scene x coords seen here).0 turns.0;
    }

-- ---- the whole

module _ (a : ℕ) (seen : Seen) (to : Shape) (s : State) (sound : IsSound s) where
  pub staged_sound : IsSound (staged a seen to s)
  staged_sound = record {
    tidy = λ y e at. tidy y at (y == a) e;
    seen = λ y z e. there y z (y == a)
        e;
  }
    where
      tidy : (y : ℕ) (at : List ℤ) (t : Bool)
          → cond {A = Option Shape} t (Some (tensor to.cell (extents seen.sides)))
          (s.scene.buffers y) ≡ None → cond {A = List ℤ → Value} t (contents s.cells seen)
          (s.cells y) at ≡ Undefined
      tidy y at true e = absurd (none_is_some (sym e))
      tidy y at false e = sound.tidy y e at

      still : (z : ℕ) (t : Bool) → IsSome (s.scene.buffers z)
          → IsSome (cond {A = Option Shape} t (Some (tensor to.cell (extents seen.sides)))
          (s.scene.buffers z))
      still z true i = refl
      still z false i = i

      there : (y : ℕ) (z : Seen) (t : Bool)
          → cond {A = Option Seen} t (Some (record {
            buffer = a;
            sides = whole (extents seen.sides);
          })) (s.scene.views y) ≡ Some z → IsSome ((staged a seen to s).scene.buffers z.buffer)
      there y z true e =
          subst (λ (o : Seen). IsSome ((staged a seen to s).scene.buffers o.buffer))
          (one_value (record { buffer = a; sides = whole (extents seen.sides) }) z e)
          (subst (λ t. IsSome (cond {A = Option Shape} t
          (Some (tensor to.cell (extents seen.sides))) (s.scene.buffers a)))
          (sym (eq-eqb a a refl)) refl)
      there y z false e = still z.buffer (z.buffer == a) (sound.seen y z e)

pub round_law : RoundLaw
round_law blind world root a dims memory x seen to coords ls ks b s alone h =
    let may = alone_law blind world root a.id seen to b s alone in
    let sound = staged_sound a.id seen to s alone.sound in
    let first : IsStaging a.id x seen coords ks (staged a.id seen to s) = record {
      tidy = sound.tidy;
      name = h.again.name;
      there = h.again.there;
      other = h.again.other;
      window = h.again.window;
      distinct = h.again.distinct;
      over = h.again.over;
    } in
    stage_law (has_root (updated root a.id a.id) seen.buffer) blind world (updated root a.id a.id) a
    dims memory x seen to coords ls ks b s may (record {
      sizes = h.sizes;
      before = h.before;
      fit = h.fit;
      behind = λ t e. (
        behind_law world a.id x seen coords ks b (staged a.id seen to s) t sound
            first h.between e (h.behind t e).0,
        (h.behind t e).1,
      );
    })
