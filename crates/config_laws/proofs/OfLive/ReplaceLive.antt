-- A block in the place of another that leaves other numbers in fields that are not live, along both
-- runs.
use Rattle.std.proofs.Common.{◌≡◌, ℕ, ℤ, ◌-ℤ◌, Bool, true, false, ◌||◌, List, [], ◌∷◌, Option, Some}
use Rattle.std.proofs.Common.{None, refl, sym, ap, ap₂, ◌∙◌, subst}
use Rattle.std.specs.Prelude.{Contains}
use Rattle.exo_tree.specs.Tree.{Condition, Statement, If, For, Block, end, next, joined, Kind}
use Rattle.exo_tree.specs.Tree.{Procedure}
use Rattle.exo_meaning.specs.Value.{IsRefinedBy}
use Rattle.exo_meaning.specs.Scene.{Scene, holds}
use Rattle.exo_meaning.specs.State.{State, left, on_scene, with_control}
use Rattle.exo_meaning.specs.Run.{World, run, step, turn, turns, turns_of, range, count, choose}
use Rattle.exo_meaning.specs.Refines.{Both, StateRefined, CalleesRespect}
use Rattle.exo_meaning.specs.Run.{unit_world}
use Rattle.exo_meaning.specs.Inputs.{IsAdmissible, Refines, run_procedure, all_have_extents}
use Rattle.exo_meaning.proofs.Monotone.{run_respects, step_respects, refined_closed}
use Rattle.exo_meaning.proofs.Compose.{compose}
use Rattle.exo_tree.specs.Context.{Context, Here, After, InLoop, InThen, InElse, fill}
use Rattle.meaning_laws.specs.Context.{ComesToTurn, now, later, ComesTo}
use Rattle.meaning_laws.specs.Live.{read_by_control, read_by_condition, live, live_step}
use Rattle.meaning_laws.specs.Live.{live_behind, refield, Agree, SameLive, RefinedLive, CallsForget}
use Rattle.meaning_laws.proofs.Parts.{then_gives, map_gives, both_some, both_back, both_through}
use Rattle.meaning_laws.proofs.Refined.{state_same, state_on}
use Rattle.meaning_laws.proofs.Replace.{left_refined, all_refined, unit_respects, where_gives}
use Rattle.meaning_laws.proofs.Facts.{or_left, or_right}
use Rattle.meaning_laws.proofs.Live.{same_live, fewer, weaken, run_forgets, step_forgets, head}
use Rattle.meaning_laws.proofs.Live.{head_closed, two_live, holds_live, left_of}

both_forth : {A B : Type 0} (R : A → B → Type 0) (o : Option A) (p : Option B) (a : A) → o ≡ Some a
    → Both R o p → (b : B) × (p ≡ Some b) × R a b
both_forth R o None a i h = absurd (subst (λ q. Both R q None) i h)
both_forth R o (Some b) a i h = (b, refl, subst (λ q. Both R q (Some b)) i h)

module _ (alive : ℕ → Bool) where
  same_then : (a m b : State) → SameLive alive a m → RefinedLive alive m b → RefinedLive alive a b
  same_then a m b h k = record {
    middle = k.middle;
    live = record {
      fields = k.live.fields;
      agree = λ f i. h.agree f i ∙ sym (ap (λ (z : State). z.scene.fields f) h.same)
          ∙ k.live.agree f i;
      same = k.live.same ∙ ap (refield k.live.fields) h.same;
    };
    refined = k.refined;
  }

  then_refined : (a m b : State) → RefinedLive alive a m → StateRefined m b → RefinedLive alive a b
  then_refined a m b h k = record {
    middle = h.middle;
    live = h.live;
    refined = state_on h.middle m
        b h.refined k;
  }

  at_first : (s : State) → RefinedLive alive s s
  at_first s = record { middle = s; live = same_live alive s; refined = state_same s }

less : (some more : ℕ → Bool) → ((f : ℕ) → some f ≡ true → more f ≡ true) → (s t : State)
    → RefinedLive more s t → RefinedLive some s t
less some more k s t h = record {
  middle = h.middle;
  live = weaken some more k s h.middle h.live;
  refined = h.refined;
}

inside : (alive : ℕ → Bool) (i : ℕ) (n : ℤ) (s t : State) → RefinedLive alive s t
    → RefinedLive alive (on_scene (with_control i n) s) (on_scene (with_control i n) t)
inside alive i n s t h = record {
  middle = on_scene (with_control i n) h.middle;
  live = record {
    fields = h.live.fields;
    agree = h.live.agree;
    same = ap
        (on_scene (with_control i n)) h.live.same;
  };
  refined = record { scene = ap (with_control i n) h.refined.scene; cells = h.refined.cells };
}

left_both : (before after : ℕ → Bool) (s t a b : State) → RefinedLive before s t
    → RefinedLive after a b → RefinedLive after (left s a) (left t b)
left_both before after s t a b h k = record {
  middle = left h.middle k.middle;
  live = record {
    fields = k.live.fields;
    agree = k.live.agree;
    same = ap₂ left h.live.same
        k.live.same;
  };
  refined = left_refined h.middle t k.middle b h.refined (all_refined h.middle k.middle b
      k.refined);
}

-- what depends on live fields alone is the same at both
from_scene : {A : Type 0} (k : Scene → A) (alive : ℕ → Bool) (s t : State) (h : RefinedLive alive s
    t) → k (record s.scene { fields = h.live.fields }) ≡ k s.scene → k t.scene ≡ k s.scene
from_scene k alive s t h e = ap k (sym h.refined.scene) ∙ ap (λ (z : State). k z.scene) h.live.same
    ∙ e

module _ (world : World) (callees : CalleesRespect StateRefined world) (calls : ℕ → ℕ → Bool → Bool)
    (forget : CallsForget world calls) where
  abbrev Live : Block → (ℕ → Bool) → ℕ → Bool
  Live b out f = live calls f b (out f)

  run_keeps : (b : Block) (out : ℕ → Bool) (s t : State) → RefinedLive (Live b out) s t
      → Both (RefinedLive out) (run world b s) (run world b t)
  run_keeps b out s t h =
      both_through (SameLive out) StateRefined (RefinedLive out) (run world b s)
      (run world b h.middle) (run world b t)
      (λ x m y k j. record { middle = m; live = k; refined = j })
      (subst (λ m. Both (SameLive out) (run world b s) (run world b m)) (sym h.live.same)
      (run_forgets world calls forget b out s h.live.fields h.live.agree))
      (run_respects IsRefinedBy refined_closed world callees b h.middle t h.refined)

  step_keeps : (a : Statement) (out : ℕ → Bool) (s t : State)
      → RefinedLive (λ f. live_step calls f a (out f)) s t
      → Both (RefinedLive out) (step world a s) (step world a t)
  step_keeps a out s t h =
      both_through (SameLive out) StateRefined (RefinedLive out) (step world a s)
      (step world a h.middle) (step world a t)
      (λ x m y k j. record { middle = m; live = k; refined = j })
      (subst (λ m. Both (SameLive out) (step world a s) (step world a m)) (sym h.live.same)
      (step_forgets world calls forget a out s h.live.fields h.live.agree))
      (step_respects IsRefinedBy refined_closed world callees a h.middle t h.refined)

  rest_keeps : (rest : Block) (out : ℕ → Bool) (s t a b : State) → RefinedLive (Live rest out) s t
      → run world rest s ≡ Some a → run world rest t ≡ Some b → RefinedLive out a b
  rest_keeps rest out s t a b h i j =
      both_some (RefinedLive out) (run world rest s) (run world rest t) a b i j
      (run_keeps rest out s t h)

  live_joined : (b rest : Block) (f : ℕ) (out : Bool)
      → live calls f (joined b rest) out ≡ live calls f b (live calls f rest out)
  live_joined end rest f out = refl
  live_joined (next a b) rest f out = ap (live_step calls f a) (live_joined b rest f out)

  module _ (old new : Block) where
    -- what is to be shown of the two blocks where the old run comes to u and the new run to v
    abbrev May : (ℕ → Bool) → State → State → Type 0
    May behind u v = (g : ℕ → ℤ) → Agree (Live old behind) u.scene.fields g
        → StateRefined (refield g u) v → (a b : State) → run world old (refield g u) ≡ Some a
        → run world new (refield g u) ≡ Some b → RefinedLive behind a b

    here_live : (rest : Block) (out : ℕ → Bool) (s t : State)
        → RefinedLive (Live (joined old rest) out) s t → May (Live rest out) s t → (a b : State)
        → run world (joined old rest) s ≡ Some a → run world (joined new rest) t ≡ Some b
        → RefinedLive out a b
    here_live rest out s t h may a b i j =
        let p = then_gives (run world old s) (run world rest) a (sym (compose world old rest s)
        ∙ i) in
        let q = then_gives (run world new t) (run world rest) b (sym (compose world new rest t)
        ∙ j) in
        let g = h.live.fields in
        let k : Agree (Live old (Live rest out)) s.scene.fields g =
        fewer (Live old (Live rest out)) (Live (joined old rest) out) (λ f e. live_joined old
        rest f (out f) ∙ e) s.scene.fields g h.live.agree in
        let m = both_forth (SameLive (Live rest out)) (run world old s)
        (run world old (refield g s)) p.0 p.1 (run_forgets world calls forget old
        (Live rest out) s g k) in
        let near = subst (λ z. StateRefined z t) h.live.same h.refined in
        let n = both_back StateRefined (run world new (refield g s)) (run world new t) q.0 q.1
        (run_respects IsRefinedBy refined_closed world callees new (refield g s) t near) in
        let done = then_refined (Live rest out) p.0 n.0 q.0 (same_then (Live rest out) p.0 m.0 n.0
        m.2 (may g k near m.0 n.0 m.1 n.1)) n.2 in
        rest_keeps rest out p.0 q.0 a b done p.2 q.2

    -- ---- loops

    module _ (i : ℕ) (c : Context) (alive : ℕ → Bool) (closed : (f : ℕ) → live calls f (fill c old)
        (alive f) ≡ true → alive f ≡ true) where
      abbrev At : State → State → Type 0
      At u v = May (λ f. live_behind calls f old c (alive f)) u v

      abbrev Body : Type 0
      Body = (s t : State) → RefinedLive (Live (fill c old) alive) s t
          → ((u v : State) → ComesTo world old c s u → ComesTo world new c t v → At u v)
          → (a b : State) → run world (fill c old) s ≡ Some a → run world (fill c new) t ≡ Some b
          → RefinedLive alive a b

      turns_live : Body → (ns : List ℤ) (s t : State) → RefinedLive alive s t
          → ((n : ℤ) (x y : State) → ComesToTurn (turn i (run world (fill c old))) ns s n x
          → ComesToTurn (turn i (run world (fill c new))) ns t n y → (u v : State)
          → ComesTo world old c (on_scene (with_control i n) x) u
          → ComesTo world new c (on_scene (with_control i n) y) v → At u v) → (a b : State)
          → turns (turn i (run world (fill c old))) ns s ≡ Some a
          → turns (turn i (run world (fill c new))) ns t ≡ Some b → RefinedLive alive a b
      turns_live body [] s t h may a b k j = let e : s ≡ a = cc in let f : t ≡ b =
          cc in subst (λ z. RefinedLive alive z b) e (subst (λ z. RefinedLive alive s z) f h)
      turns_live body (n ∷ ns) s t h may a b k j =
          let p = then_gives (turn i (run world (fill c old)) n s)
          (turns (turn i (run world (fill c old))) ns) a k in
          let q = then_gives (turn i (run world (fill c new)) n t)
          (turns (turn i (run world (fill c new))) ns) b j in
          let x = map_gives (run world (fill c old) (on_scene (with_control i n) s)) (left s) p.0
          p.1 in
          let y = map_gives (run world (fill c new) (on_scene (with_control i n) t)) (left t) q.0
          q.1 in
          let done = body (on_scene (with_control i n) s) (on_scene (with_control i n) t)
          (less (Live (fill c old) alive) alive closed (on_scene (with_control i n) s)
          (on_scene (with_control i n) t) (inside alive i n s t h)) (may n s t now now) x.0 y.0
          x.1 y.1 in
          let after = subst (λ z. RefinedLive alive z q.0) x.2
          (subst (λ z. RefinedLive alive (left s x.0) z) y.2 (left_both alive alive s t x.0 y.0
          h done)) in
          turns_live body ns p.0 q.0 after (λ m v w z z'. may m v w (later p.1 z) (later q.1 z')) a
          b p.2 q.2

    -- ---- branches

    branch_live : (test : Condition) (f g f' g' rest : Block) (start out : ℕ → Bool) (s t : State)
        → RefinedLive start s t → holds t.scene test ≡ holds s.scene test
        → ((taken : Bool) → holds s.scene test ≡ taken → (a b : State) → choose taken (run world f)
        (run world g) s ≡ Some a → choose taken (run world f') (run world g') t ≡ Some b
        → RefinedLive (Live rest out) a b) → (a b : State) → run world (next (If test f g) rest) s
        ≡ Some a → run world (next (If test f' g') rest) t ≡ Some b → RefinedLive out a b
    branch_live test f g f' g' rest start out s t h e each a b i j =
        let p = then_gives (step world (If test f g) s) (run world rest) a i in
        let q = then_gives (step world (If test f' g') t) (run world rest) b j in
        let x = map_gives (choose (holds s.scene test) (run world f) (run world g) s) (left s) p.0
        p.1 in
        let y = map_gives (choose (holds t.scene test) (run world f') (run world g') t) (left t) q.0
        q.1 in
        let same = subst (λ z. choose z (run world f') (run world g') t ≡ Some y.0) e y.1 in
        let r = left_both start (Live rest out) s t x.0 y.0 h (each (holds s.scene test) refl x.0
        y.0 x.1 same) in
        rest_keeps rest out p.0 q.0 a b (subst (λ z. RefinedLive (Live rest out) z q.0) x.2
        (subst (λ z. RefinedLive (Live rest out) (left s x.0) z) y.2 r)) p.2 q.2

    -- ---- any context

    pub replaced_along : (c : Context) (out : ℕ → Bool) (s t : State)
        → RefinedLive (Live (fill c old) out) s t
        → ((u v : State) → ComesTo world old c s u → ComesTo world new c t v
        → May (λ f. live_behind calls f old c (out f)) u v) → (a b : State) → run world (fill c old)
        s ≡ Some a → run world (fill c new) t ≡ Some b → RefinedLive out a b
    replaced_along (Here rest) out s t h may a b i j =
        here_live rest out s t h (may s t refl refl) a b i j
    replaced_along (After x c) out s t h may a b i j =
        let p = then_gives (step world x s) (run world (fill c old)) a i in
        let q = then_gives (step world x t) (run world (fill c new)) b j in
        let r = both_some (RefinedLive (Live (fill c old) out)) (step world x s) (step world x t)
        p.0 q.0 p.1 q.1 (step_keeps x (Live (fill c old) out) s t h) in
        replaced_along c out p.0 q.0 r (λ u v z w. may u v (p.0, p.1, z) (q.0, q.1, w)) a b p.2 q.2
    replaced_along (InLoop n lo hi c rest) out s t h may a b i j =
        let alive = head world calls forget (fill c old) (Live rest out) in
        let bounds = λ (f : ℕ). read_by_control f lo || read_by_control f hi in
        let p = then_gives (step world (For n lo hi (fill c old)) s) (run world rest) a i in
        let q = then_gives (step world (For n lo hi (fill c new)) t) (run world rest) b j in
        let known = left_of h.live.fields s.scene bounds alive h.live.agree in
        let same = from_scene (λ z. turns_of z lo hi) (Live (next (For n lo hi (fill c old)) rest)
        out) s t h (two_live h.live.fields s.scene (λ m k. range m (count (k -ℤ m))) lo hi
        known) in
        let start = less alive (Live (next (For n lo hi (fill c old)) rest) out)
        (λ f k. or_right (bounds f) (alive f) k) s t h in
        let r = turns_live n.id c alive (head_closed world calls forget (fill c old)
        (Live rest out)) (replaced_along c alive) (turns_of s.scene lo hi) s t start
        (λ m x y z z' u v w w'. may u v (m, x, z, w) (
          m,
          y,
          subst (λ l. ComesToTurn (turn n.id (run world (fill c new))) l t m y) (sym same)
              z',
          w',
        )) p.0 q.0 p.1 (subst (λ l. turns (turn n.id (run world (fill c new))) l t
        ≡ Some q.0) same q.1) in
        rest_keeps rest out p.0 q.0 a b (less (Live rest out) alive
        (λ f k. or_left (Live rest out f) (live calls f (fill c old) false) k) p.0 q.0 r) p.2
        q.2
    replaced_along (InThen test c other rest) out s t h may a b i j =
        let reads = λ (f : ℕ). read_by_condition f test in
        let here = Live (fill c old) (Live rest out) in
        let there = Live other (Live rest out) in
        let start = Live (next (If test (fill c old) other) rest) out in
        let e = from_scene (λ z. holds z test) start s t h (holds_live h.live.fields s.scene test
        (left_of h.live.fields s.scene reads (λ f. here f || there f) h.live.agree)) in
        let h1 = less here start (λ f k. or_right (reads f) (here f || there f)
        (or_left (here f) (there f) k)) s t h in
        let h2 = less there start (λ f k. or_right (reads f) (here f || there f)
        (or_right (here f) (there f) k)) s t h in
        branch_live test (fill c old) other (fill c new) other rest start out s t h e
        (λ taken k. elim taken as (λ w. holds s.scene test ≡ w → (x y : State)
        → choose w (run world (fill c old)) (run world other) s ≡ Some x
        → choose w (run world (fill c new)) (run world other) t ≡ Some y
        → RefinedLive (Live rest out) x y) [
          | true ↦ (λ k. replaced_along c (Live rest out) s t
              h1 (λ u v z w. may u v (k, z) (e ∙ k, w)))
          | false ↦ (λ e x y k l. rest_keeps other
              (Live rest out) s t x y h2 k l)
        ] k) a b i j
    replaced_along (InElse test other c rest) out s t h may a b i j =
        let reads = λ (f : ℕ). read_by_condition f test in
        let here = Live (fill c old) (Live rest out) in
        let there = Live other (Live rest out) in
        let start = Live (next (If test other (fill c old)) rest) out in
        let e = from_scene (λ z. holds z test) start s t h (holds_live h.live.fields s.scene test
        (left_of h.live.fields s.scene reads (λ f. there f || here f) h.live.agree)) in
        let h1 = less here start (λ f k. or_right (reads f) (there f || here f)
        (or_right (there f) (here f) k)) s t h in
        let h2 = less there start (λ f k. or_right (reads f) (there f || here f)
        (or_left (there f) (here f) k)) s t h in
        branch_live test other (fill c old) other (fill c new) rest start out s t h e
        (λ taken k. elim taken as (λ w. holds s.scene test ≡ w → (x y : State)
        → choose w (run world other) (run world (fill c old)) s ≡ Some x
        → choose w (run world other) (run world (fill c new)) t ≡ Some y
        → RefinedLive (Live rest out) x y) [
          | true ↦ (λ e x y k l. rest_keeps other (Live rest out) s t x y h2 k l)
          | false ↦
              (λ k. replaced_along c (Live rest out) s t h1 (λ u v z w. may u v (k, z) (e ∙ k, w)))
        ]
        k) a b i j

module _ (kinds : ℕ → Kind) (ps : List Procedure) (calls : ℕ → ℕ → Bool → Bool) (c : Context)
    (old new : Block) (p q : Procedure) (out : ℕ → Bool) (but : List ℕ)
    (forget : CallsForget (unit_world kinds ps) calls) (was : p.body ≡ fill c old)
    (is : q ≡ record p { body = fill c new }) (exit : (f : ℕ) → (Contains but f → ⊥) → out f ≡ true)
  where
    abbrev world : World
    world = unit_world kinds ps

    -- what is to be shown along both runs from one input
    abbrev pub Along : State → Type 0
    Along s = (u v : State) → ComesTo world old c s u → ComesTo world new c s v
        → May world (unit_respects kinds ps) calls forget old new (λ f. live_behind calls f old c
        (out f)) u v

    both_runs : (s t u : State) → Along s → run_procedure world p s ≡ Some t
        → run_procedure world q s ≡ Some u → RefinedLive out t u
    both_runs s t u may i j =
        let i' = where_gives (all_have_extents s.scene p.params) (run world p.body s) t i in
        let j' = where_gives (all_have_extents s.scene q.params) (run world q.body s) u j in
        let e : q.body ≡ fill c new = ap (λ (z : Procedure). z.body) is in
        replaced_along world (unit_respects kinds ps) calls forget old new c out s s
        (at_first (λ f. live calls f (fill c old) (out f)) s) may t u
        (subst (λ b. run world b s ≡ Some t) was i') (subst (λ b. run world b s ≡ Some u) e j')

    pub live_along : ((s : State) → IsAdmissible world p s → Along s) → Refines world p q but
    live_along may = record {
      cells = λ s t u good i j b there at.
          let r = both_runs s t u (may s good) i j in
          subst (λ (z : State). IsRefinedBy (z.cells b at) (u.cells b at)) r.live.same
          (r.refined.cells b at);
      fields = λ s t u good i j f k.
          let r = both_runs s t u (may s good) i j in
          r.live.agree f (exit f k) ∙ sym (ap (λ (z : State). z.scene.fields f) r.live.same)
          ∙ ap (λ (z : Scene). z.fields f) r.refined.scene;
    }
