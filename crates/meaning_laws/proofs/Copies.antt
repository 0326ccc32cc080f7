-- Copies of loops, and sound first states.
use Rattle.std.proofs.Common.{◌≡◌, inl, inr, ⊎_elim, ℕ, ℤ, pos, ◌==◌, Bool, true, false, ◌||◌, List, [], ◌∷◌, Option, Some, None, IfSome, option_map, refl, sym, ap, ap₂, ◌∙◌, subst, true≢false, eqb-true}
use Rattle.std.specs.Prelude.{IsSome}
use Rattle.std.proofs.Math.Path.{fun_ext}
use Rattle.exo_tree.specs.Tree.{For, Block, end, next, Param, ParamKind, ControlParam, TensorParam, WindowParam, Procedure}
use Rattle.exo_meaning.specs.Value.{Undefined}
use Rattle.exo_meaning.specs.Scene.{Shape, Seen, Scene, numbers, whole}
use Rattle.exo_meaning.specs.State.{State, Cells, left, kept}
use Rattle.exo_meaning.specs.Run.{World, run, step, turns, turn, turns_of}
use Rattle.exo_meaning.specs.Inputs.{IsAdmissible, IsArgument, AreArguments, is_buffer_of}
use Rattle.exo_meaning.specs.Renaming.{Renaming, re_statement, re_block, re_seen, re_scene, re_state}
use Rattle.exo_meaning.proofs.Renamed.{runs_rename}
use Rattle.exo_meaning.proofs.Nested.{then_some}
use Rattle.exo_tree.specs.Context.{Context}
use Rattle.meaning_laws.specs.Context.{ComesTo}
use Rattle.meaning_laws.specs.Sound.{IsSound, IsUnbound, IsSameName}
use Rattle.meaning_laws.specs.Copies.{Moves, IsFree, CopyLaw, SoundLaw, UnboundLaw, CopiedBlockLaw}
use Rattle.meaning_laws.proofs.Parts.{none_some, some_injective}
use Rattle.meaning_laws.proofs.Names.{turns_names, come_names}
use Rattle.meaning_laws.proofs.Sound.{turns_sound, come_sound}

-- ---- states that a renaming leaves alone

module _ (r : Renaming) (s : State) (sound : IsSound s) (moves : Moves r (IsUnbound s)) where
  by_moves : {A : Type 0} (f : ℕ → A) (z : A) → ((x : ℕ) → IsUnbound s x → f x ≡ z) → (x : ℕ) → f (r.from x) ≡ f x
  by_moves f z k x = ⊎_elim (λ e. ap f e) (λ u. k (r.from x) u.1 ∙ sym (k x u.0)) (moves x)

  -- a name that sees something is not moved
  seen_stays : (x : ℕ) (o : Option Seen) → s.scene.views x ≡ o → option_map (re_seen r) o ≡ o
  seen_stays x None e = refl
  seen_stays x (Some z) e = ⊎_elim stays (λ u. absurd (true≢false (sym (subst IsSome u.0.buffers (sound.seen x z e))))) (moves z.buffer)
    where
      stays : r.from z.buffer ≡ z.buffer → option_map (re_seen r) (Some z) ≡ Some z
      stays k = ap (λ b. Some (record { buffer = b; sides = z.sides })) (ap r.to (sym k) ∙ r.to_from z.buffer)

  pub re_same : re_state r s ≡ s
  re_same =
      ap₂ (λ (scene : Scene) (c : Cells). record { scene = scene; cells = c }) scenes cells
    where
      control : (λ x. s.scene.control (r.from x)) ≡ s.scene.control
      control = fun_ext (by_moves s.scene.control (pos 0) (λ x u. u.control))

      buffers : (λ x. s.scene.buffers (r.from x)) ≡ s.scene.buffers
      buffers = fun_ext (by_moves s.scene.buffers None (λ x u. u.buffers))

      views : (λ x. option_map (re_seen r) (s.scene.views (r.from x))) ≡ s.scene.views
      views = fun_ext (λ x. ap (option_map (re_seen r)) (by_moves s.scene.views None (λ y u. u.views) x) ∙ seen_stays x (s.scene.views x) refl)

      scenes : re_scene r s.scene ≡ s.scene
      scenes = ap₂ (λ c b. record { control = c; buffers = b; views = λ x. option_map (re_seen r) (s.scene.views (r.from x)); fields = s.scene.fields }) control buffers ∙ ap (λ v. record { control = s.scene.control; buffers = s.scene.buffers; views = v; fields = s.scene.fields }) views

      cells : (λ b. s.cells (r.from b)) ≡ s.cells
      cells = fun_ext (by_moves s.cells (λ at. Undefined) (λ x u. fun_ext (sound.tidy x u.buffers)))

pub unbound_on : (s t : State) (x : ℕ) → IsSameName x s t → IsUnbound s x → IsUnbound t x
unbound_on s t x h u = record { control = sym h.control ∙ u.control; buffers = sym h.buffers ∙ u.buffers; views = sym h.views ∙ u.views }

pub moves_on : (r : Renaming) (P Q : ℕ → Type 0) → ((x : ℕ) → P x → Q x) → Moves r P → Moves r Q
moves_on r P Q k m x = ⊎_elim (λ e. inl e) (λ u. inr (k x u.0, k (r.from x) u.1)) (m x)

-- the same names, and sound
pub record Stays (s t : State) : Type 0 where
  pub sound : IsSound t
  pub names : (x : ℕ) → IsSameName x s t

pub if_both : {A : Type 0} (P Q R : A → Type 0) (o : Option A) → IfSome o P → IfSome o Q → ((a : A) → P a → Q a → R a) → IfSome o R
if_both P Q R None h k j = tt
if_both P Q R (Some a) h k j = j a h k

pub turns_stay_so : (i : ℕ) (body : State → Option State) (ns : List ℤ) (s : State) → IsSound s → IfSome (turns (turn i body) ns s) (Stays s)
turns_stay_so i body ns s h = if_both IsSound (λ t. (x : ℕ) → IsSameName x s t) (Stays s) (turns (turn i body) ns s) (turns_sound i body ns s h) (turns_names i body ns s) (λ t a b. record { sound = a; names = b })

pub copy_law : CopyLaw
copy_law r world i lo hi b s sound moves =
    sym (then_some (step world (re_statement r (For i lo hi b)) s))
    ∙ ap (run world (next (re_statement r (For i lo hi b)) end)) (sym (re_same r s sound moves))
    ∙ runs_rename r world (next (For i lo hi b) end) s
    ∙ ap (option_map (re_state r)) (then_some (step world (For i lo hi b) s))
    ∙ go (step world (For i lo hi b) s) (turns_stay_so i.id (run world b) (turns_of s.scene lo hi) s sound)
  where
    go : (o : Option State) → IfSome o (Stays s) → option_map (re_state r) o ≡ o
    go None k = refl
    go (Some t) k = ap Some (re_same r t k.sound (moves_on r (IsUnbound s) (IsUnbound t) (λ x u. unbound_on s t x (k.names x) u) moves))

-- ---- first states

module _ (scene : Scene) where
  argument_sees : (x : ℕ) (kind : ParamKind) → IsArgument scene x kind → (z : Seen) → scene.views x ≡ Some z → IsSome (scene.buffers z.buffer)
  argument_sees x (ControlParam kind) h z e = absurd (none_some (sym h.2 ∙ e))
  argument_sees x (TensorParam cell dims memory) h z e = by_view x z (whole (numbers scene dims)) (record { cell = cell; dims = numbers scene dims; strides = _ }) h.0 (sym h.1 ∙ e)
    where
      by_view : (x : ℕ) (z : Seen) (sides : List _) (shape : Shape) → scene.buffers x ≡ Some shape → Some (record { buffer = x; sides = sides }) ≡ Some z → IsSome (scene.buffers z.buffer)
      by_view x z sides shape b e = subst (λ (w : Seen). IsSome (scene.buffers w.buffer)) (some_injective (record { buffer = x; sides = sides }) z e) (subst IsSome (sym b) refl)
  argument_sees x (WindowParam cell dims memory) h z e = by_view x z (whole (numbers scene dims)) (record { cell = cell; dims = numbers scene dims; strides = h.0 }) h.1.0 (sym h.1.1 ∙ e)
    where
      by_view : (x : ℕ) (z : Seen) (sides : List _) (shape : Shape) → scene.buffers x ≡ Some shape → Some (record { buffer = x; sides = sides }) ≡ Some z → IsSome (scene.buffers z.buffer)
      by_view x z sides shape b e = subst (λ (w : Seen). IsSome (scene.buffers w.buffer)) (some_injective (record { buffer = x; sides = sides }) z e) (subst IsSome (sym b) refl)

  arguments_see : (ps : List Param) → AreArguments scene ps → (x : ℕ) → is_buffer_of x ps ≡ true → (z : Seen) → scene.views x ≡ Some z → IsSome (scene.buffers z.buffer)
  arguments_see [] h x k z e = absurd (true≢false (sym k))
  arguments_see (p ∷ ps) h x k z e = go (arguments_see ps h.1 x) (x == p.binder.id) (eqb-true x p.binder.id) k
    where
      go : (is_buffer_of x ps ≡ true → (z : Seen) → scene.views x ≡ Some z → IsSome (scene.buffers z.buffer)) → (t : Bool) → (t ≡ true → x ≡ p.binder.id) → (t || is_buffer_of x ps) ≡ true → IsSome (scene.buffers z.buffer)
      go below true same j = argument_sees p.binder.id p.kind h.0 z (ap scene.views (sym (same refl)) ∙ e)
      go below false same j = below j z e

pub admissible_sound : (world : World) (p : Procedure) (s : State) → IsAdmissible world p s → IsSound s
admissible_sound world p s h = record { tidy = h.tidy; seen = λ x z e. go x z (is_buffer_of x p.params) refl e }
  where
    go : (x : ℕ) (z : Seen) (t : Bool) → is_buffer_of x p.params ≡ t → s.scene.views x ≡ Some z → IsSome (s.scene.buffers z.buffer)
    go x z true k e = arguments_see s.scene p.params h.arguments x k z e
    go x z false k e = absurd (none_some (sym (h.no_others x k).2 ∙ e))

-- what the law of places gives to each step
module _ (world : World) (p : Procedure) (old : Block) (c : Context) (s u : State) (good : IsAdmissible world p s) (come : ComesTo world old c s u) where
  pub place_sound : IsSound u
  place_sound = come_sound world old c s u come (admissible_sound world p s good)

  pub place_unbound : (x : ℕ) → IsFree p c x → IsUnbound u x
  place_unbound x free =
      let n = good.no_others x free.0 in
      unbound_on s u x (come_names world old c s u come x free.1) (record { control = n.0; buffers = n.1; views = n.2 })

pub sound_law : SoundLaw
sound_law world p old c s u good come = place_sound world p old c s u good come

pub unbound_law : UnboundLaw
unbound_law world p old c s u good come = place_unbound world p old c s u good come

-- ---- copies of blocks

-- what a renaming of unbound names moves is gone at the end of the scope
left_re : (r : Renaming) (s t : State) → Moves r (IsUnbound s) → left s (re_state r t) ≡ left s t
left_re r s t moves = ap {A = Cells} (λ c. record { scene = record s.scene { fields = t.scene.fields }; cells = c }) (fun_ext (λ b. ⊎_elim (λ e. ap (λ y. kept (s.scene.buffers b) (t.cells y)) e) (λ u. ap (λ o. kept o (t.cells (r.from b))) u.0.buffers ∙ sym (ap (λ o. kept o (t.cells b)) u.0.buffers)) (moves b)))

pub copied_block_law : CopiedBlockLaw
copied_block_law r world b s sound moves = (same, ap (option_map (left s)) same ∙ go (run world b s))
  where
    same : run world (re_block r b) s ≡ option_map (re_state r) (run world b s)
    same = ap (run world (re_block r b)) (sym (re_same r s sound moves)) ∙ runs_rename r world b s

    go : (o : Option State) → option_map (left s) (option_map (re_state r) o) ≡ option_map (left s) o
    go None = refl
    go (Some t) = ap Some (left_re r s t moves)
