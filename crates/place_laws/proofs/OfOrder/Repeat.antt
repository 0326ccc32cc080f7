-- A turn that is run again changes nothing.
use Rattle.std.proofs.Common.{◌≡◌, ◌<ℤ◌, ℕ, zero, suc, ℤ, pos, negsuc, ◌+ℤ◌, ◌-ℤ◌, ◌==◌, int_lt}
use Rattle.std.proofs.Common.{Bool, true, false, true≢false, cond, ◌&&◌, ◌||◌, List, [], ◌∷◌}
use Rattle.std.proofs.Common.{Option, Some, None, IfSome, option_map, refl, sym, ap, ap₂, ◌∙◌}
use Rattle.std.proofs.Common.{subst, eqb-true, arith}
use Rattle.std.specs.Prelude.{IsSome}
use Rattle.std.proofs.lemmas.Int.{ints}
use Rattle.std.proofs.Math.Path.{fun_ext}
use Rattle.exo_tree.specs.Tree.{Block, Procedure, ConfigField}
use Rattle.exo_meaning.specs.Value.{Value}
use Rattle.exo_meaning.specs.Scene.{Shape, Seen, then_do, number}
use Rattle.exo_meaning.specs.State.{State, kept, left, scoped, on_scene, with_control}
use Rattle.exo_meaning.specs.Run.{World, run, turn, turns, range, count, writes, kinds_of}
use Rattle.exo_meaning.specs.Run.{unit_world}
use Rattle.exo_meaning.specs.Laws.{IsKept}
use Rattle.exo_meaning.specs.Refines.{Both}
use Rattle.exo_meaning.specs.Unseen.{in_block, SameBut}
use Rattle.exo_meaning.proofs.Frame.{others_are_kept}
use Rattle.exo_meaning.proofs.Ignored.{runs_ignore_unmentioned}
use Rattle.meaning_laws.specs.Sound.{IsSound}
use Rattle.meaning_laws.specs.Fields.{HasField, writes_field}
use Rattle.meaning_laws.specs.UnitFields.{unit_writes, unit_live}
use Rattle.meaning_laws.specs.Live.{live}
use Rattle.meaning_laws.specs.Touched.{Writing, Reducing}
use Rattle.meaning_laws.proofs.Names.{if_gives}
use Rattle.meaning_laws.proofs.Sound.{left_sound}
use Rattle.meaning_laws.proofs.Fields.{fields_are_kept}
use Rattle.meaning_laws.proofs.UnitFields.{unit_leaves}
use Rattle.place_laws.specs.Order.Overwrite.{SetOrKept, AreSet, AreKept, DifferIn, SetAlike, touches}
use Rattle.place_laws.specs.Order.Overwrite.{LooksAway, MayRepeat, RepeatLaw, RemoveLoopLaw}
use Rattle.place_laws.proofs.OfOrder.Written.{unit_block_is}
use Rattle.place_laws.proofs.OfOrder.Overwrite.{blocks_overwrite}

abbrev there : Option Shape → Bool
there None = false
there (Some shape) = true

-- what was set to the same or left at what it was set to is the same
again : {T : Type 0} {u v x y : T} → SetOrKept u v x y → v ≡ x → y ≡ x
again (AreSet e) k = sym e
again (AreKept a b) k = b ∙ k

module _ (fields : List ConfigField) (memories : ℕ) (ps : List Procedure) (root : ℕ → ℕ) (b : Block)
  where
    abbrev world : World
    world = unit_world (kinds_of fields) ps

    abbrev body : State → Option State
    body = run world b

    abbrev May : State → Type 0
    May = MayRepeat fields memories ps root b

    -- all of it goes by the names
    may_again : (s t : State) → May s → May (left s t)
    may_again s t h = record {
      unit = h.unit;
      sound = left_sound s t h.sound;
      roots = h.roots;
      reduces = h.reduces;
      reads = h.reads;
      dead = h.dead;
    }

    module _ (s : State) (may : May s) (u : State) (is : body s ≡ Some u) where
      abbrev ended : State
      ended = left s u

      -- the buffers from outside that the block writes
      abbrev buffers : ℕ → Bool
      buffers y = there (s.scene.buffers y) && writes world root b y

      abbrev out : ℕ → Bool
      out f = cond (writes_field (unit_writes ps) f b) false true

      written : (y : ℕ) → buffers y ≡ true → IsSome (s.scene.buffers y) ×
          (touches fields ps Writing root b y ≡ true)
      written y h = go (s.scene.buffers y) refl (writes world root b y) refl h
        where
          by_mode : IsSome (s.scene.buffers y) → writes world root b y ≡ true
              → touches fields ps Writing root b y ≡ true
          by_mode i w = pick (touches fields ps Writing root b y)
              (touches fields ps Reducing root b y) (may.reduces y i)
              (unit_block_is (kinds_of fields) ps b root y w)
            where
              pick : (m n : Bool) → n ≡ false → (m || n) ≡ true → m ≡ true
              pick true n e h = refl
              pick false n e h = absurd (true≢false (sym h ∙ e))

          go : (o : Option Shape) → s.scene.buffers y ≡ o → (w : Bool) → writes world root b y ≡ w
              → (there o && w) ≡ true → IsSome (s.scene.buffers y) ×
              (touches fields ps Writing root b y ≡ true)
          go None e w i h = absurd (true≢false (sym h))
          go (Some shape) e false i h = absurd (true≢false (sym h))
          go (Some shape) e true i h =
              let k : IsSome (s.scene.buffers y) = subst IsSome (sym e) refl in
              (k, by_mode k i)

      away : LooksAway fields memories ps root b buffers
      away = record {
        unit = may.unit;
        reads = λ y h. let w = written y h in may.reads y w.0 w.1;
        reduces = λ y h. may.reduces y (written y h).0;
      }

      left_alone : (x : ℕ) → buffers x ≡ false → ended.cells x ≡ s.cells x
      left_alone x h = fun_ext (λ at. go (s.scene.buffers x) refl at)
        where
          go : (o : Option Shape) → s.scene.buffers x ≡ o → (at : List ℤ)
              → kept o (u.cells x) at ≡ s.cells x at
          go None e at = sym (may.sound.tidy x e at)
          go (Some shape) e at = ap (λ (y : List ℤ → Value). y at)
              (if_gives (IsKept x s) (body s) u (others_are_kept world root b x s may.roots
              (subst IsSome (sym e) refl) (sym (ap (λ o. there o && writes world root b x) e) ∙ h))
              is).cells

      same_field : (f : ℕ) → writes_field (unit_writes ps) f b ≡ false
          → u.scene.fields f ≡ s.scene.fields f
      same_field f h = if_gives (HasField f s) (body s) u
          (fields_are_kept world (unit_writes ps) (unit_leaves (kinds_of fields) ps) f b h s) is

      known : (f : ℕ) (t : Bool) → writes_field (unit_writes ps) f b ≡ t
          → live (unit_live ps) f b (cond t false true) ≡ true → s.scene.fields f ≡ u.scene.fields f
      known f true e h = absurd (true≢false (sym h ∙ may.dead f e))
      known f false e h = sym (same_field f e)

      differ : DifferIn (λ f. live (unit_live ps) f b (out f)) buffers s ended
      differ = record {
        names = refl;
        fields = λ f h. known f (writes_field (unit_writes ps) f b) refl
            h;
        cells = left_alone;
      }

      ends : (v : State) → SetAlike s ended u v → left ended v ≡ ended
      ends v h = ap₂ (λ fs cells. record { scene = record s.scene { fields = fs }; cells = cells })
          (fun_ext (λ f. again (h.fields f) refl))
          (fun_ext (λ x. fun_ext (λ at. go x at (s.scene.buffers x) refl)))
        where
          go : (x : ℕ) (at : List ℤ) (o : Option Shape) → s.scene.buffers x ≡ o
              → kept o (v.cells x) at ≡ kept o (u.cells x) at
          go x at None e = refl
          go x at (Some shape) e = again (h.cells x at) (ap (λ o. kept o (u.cells x) at) e)

      second : option_map (left ended) (body ended) ≡ Some ended
      second = go (body ended) (subst (λ o. Both
          (λ u v. SetAlike s ended u v × DifferIn out buffers u v) o (body ended)) is
          (blocks_overwrite fields memories ps root b buffers out s ended away may.roots differ))
        where
          go : (o : Option State) → Both (λ u v. SetAlike s ended u v × DifferIn out buffers u v)
              (Some u) o → option_map (left ended) o ≡ Some ended
          go None h = absurd h
          go (Some v) h = ap Some (ends v h.0)

    repeats : (s : State) → May s → IfSome (scoped body s) (λ t. scoped body t ≡ Some t)
    repeats s may = go (body s) refl
      where
        go : (o : Option State) → body s ≡ o → IfSome (option_map (left s) o)
            (λ t. scoped body t ≡ Some t)
        go None e = tt
        go (Some u) e = second s may u e

pub turns_repeat : RepeatLaw
turns_repeat fields memories ps root b s may = repeats fields memories ps root b s may

-- ---- loops

-- a loop that has turns
some_turns : (lo hi : ℤ) → int_lt lo hi ≡ true → (k : ℕ) × (count (hi -ℤ lo) ≡ suc k)
some_turns lo hi h = go (hi -ℤ lo) refl
  where
    less : lo <ℤ hi
    less = omega (arith, ints)

    no_end : hi -ℤ lo ≡ pos 0 → ⊥
    no_end e = omega (arith, ints)

    no_less : (k : ℕ) → hi -ℤ lo ≡ negsuc k → ⊥
    no_less k e = omega (arith, ints)

    go : (d : ℤ) → hi -ℤ lo ≡ d → (k : ℕ) × (count d ≡ suc k)
    go (pos zero) e = absurd (no_end e)
    go (pos (suc k)) e = (k, refl)
    go (negsuc k) e = absurd (no_less k e)

module _ (world : World) (i : ℕ) (b : Block) (lacks : in_block (λ x. x == i) b ≡ false) where
  abbrev hidden : ℕ → Bool
  hidden x = x == i

  module _ (s : State) (sound : IsSound s) (free : s.scene.buffers i ≡ None) (n : ℤ) where
    not_seen : (x : ℕ) (seen : Seen) → s.scene.views x ≡ Some seen → hidden seen.buffer ≡ false
    not_seen x seen e = go (hidden seen.buffer) (eqb-true seen.buffer i)
      where
        go : (t : Bool) → (t ≡ true → seen.buffer ≡ i) → t ≡ false
        go false same = refl
        go true same = absurd (true≢false (sym (subst IsSome (ap s.scene.buffers (same refl) ∙ free)
            (sound.seen x seen e))))

    alike : SameBut hidden (on_scene (with_control i n) s) s
    alike = record {
      control = λ x k. ap (λ t. cond t n (s.scene.control x)) k;
      buffers = λ x k. refl;
      views = λ x k. refl;
      fields = refl;
      cells = λ x k. refl;
      seen = λ x seen k e. not_seen x seen e;
    }

    left_alike : (u v : State) → SameBut hidden u v → left s u ≡ left s v
    left_alike u v h = ap₂ (λ fs cells. record
        { scene = record s.scene { fields = fs }; cells = cells }) h.fields
        (fun_ext (λ x. go x (hidden x) (eqb-true x i) refl))
      where
        go : (x : ℕ) (t : Bool) → (t ≡ true → x ≡ i) → hidden x ≡ t
            → kept (s.scene.buffers x) (u.cells x) ≡ kept (s.scene.buffers x) (v.cells x)
        go x false same e = ap (kept (s.scene.buffers x)) (h.cells x e)
        go x true same e = fun_ext (λ at. ap (λ o. kept o (u.cells x) at)
            (ap s.scene.buffers (same refl) ∙ free)
            ∙ sym (ap (λ o. kept o (v.cells x) at) (ap s.scene.buffers (same refl) ∙ free)))

    -- a turn is the body in a scope of its own
    turn_is_body : turn i (run world b) n s ≡ scoped (run world b) s
    turn_is_body = go (run world b (on_scene (with_control i n) s)) (run world b s)
        (runs_ignore_unmentioned hidden world b lacks (on_scene (with_control i n) s) s alike)
      where
        go : (o p : Option State) → Both (SameBut hidden) o p
            → option_map (left s) o ≡ option_map (left s) p
        go None None h = refl
        go None (Some v) h = absurd h
        go (Some u) None h = absurd h
        go (Some u) (Some v) h = ap Some (left_alike u v h)

  turns_stay : (ns : List ℤ) (t : State) → IsSound t → t.scene.buffers i ≡ None
      → scoped (run world b) t ≡ Some t → turns (turn i (run world b)) ns t ≡ Some t
  turns_stay [] t sound free e = refl
  turns_stay (n ∷ ns) t sound free e = ap (λ o. then_do o (turns (turn i (run world b)) ns))
      (turn_is_body t sound free n ∙ e) ∙ turns_stay ns t sound free e

pub loops_are_removed : RemoveLoopLaw
loops_are_removed fields memories ps root i lo hi b s may lacks free less =
    let world = unit_world (kinds_of fields) ps in
    let m = number s.scene lo in
    let k = some_turns m (number s.scene hi) less in
    ap (λ c. turns (turn i.id (run world b)) (range m c) s) k.1
    ∙ ap (λ o. then_do o (turns (turn i.id (run world b)) (range (m +ℤ pos 1) k.0)))
    (turn_is_body world i.id b lacks s may.sound free m)
    ∙ go (range (m +ℤ pos 1) k.0) (run world b s) refl
    (turns_repeat fields memories ps root b s may)
  where
    go : (ns : List ℤ) → let world = unit_world (kinds_of fields) ps in (o : Option State)
        → run world b s ≡ o → IfSome (option_map (left s) o) (λ t. scoped (run world b) t ≡ Some t)
        → then_do (option_map (left s) o) (turns (turn i.id (run world b)) ns) ≡ option_map (left s)
        o
    go ns None e h = refl
    go ns (Some u) e h = turns_stay (unit_world (kinds_of fields) ps) i.id b lacks ns (left s u)
        (left_sound s u may.sound) free h
