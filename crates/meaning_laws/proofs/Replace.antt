-- A block in the place of another, in any context.
use Rattle.std.proofs.Common.{◌≡◌, ℕ, ℤ, Bool, true, false, List, [], ◌∷◌, Option, Some, None, IfSome, refl, sym, ap, ap₂, ◌∙◌, subst, true≢false}
use Rattle.std.specs.Prelude.{IsSome}
use Rattle.exo_tree.specs.Tree.{Condition, If, For, Block, next, joined, Kind, Procedure}
use Rattle.exo_meaning.specs.Run.{unit_world}
use Rattle.exo_meaning.specs.Inputs.{IsAdmissible, Refines, run_procedure, all_have_extents}
use Rattle.exo_meaning.specs.Value.{IsRefinedBy}
use Rattle.exo_meaning.specs.Scene.{Shape, Scene, holds, where_true}
use Rattle.exo_meaning.specs.State.{State, kept, left, on_scene, with_control}
use Rattle.exo_meaning.specs.Run.{World, run, step, turn, turns, turns_of, choose}
use Rattle.exo_meaning.specs.Refines.{StateRefined, CalleesRespect}
use Rattle.exo_meaning.specs.Unseen.{in_block}
use Rattle.exo_meaning.proofs.Monotone.{run_respects, step_respects, refined_closed, all_respect}
use Rattle.exo_meaning.proofs.Compose.{compose}
use Rattle.exo_meaning.proofs.Deltas.{Grows, step_grows}
use Rattle.exo_tree.specs.Context.{Context, Here, After, InLoop, InThen, InElse, fill, rest_of}
use Rattle.meaning_laws.specs.Context.{ComesToTurn, now, later, ComesTo, RefinedBut, MayReplace, MayStandFor, Refined, ContextLaw, NamesLaw}
use Rattle.meaning_laws.proofs.Parts.{none_some, then_gives, map_gives, both_some, both_back}
use Rattle.meaning_laws.proofs.Refined.{further, run_keeps_refined, state_same, state_on}

there : {A : Type 0} (o : Option A) (a : A) → o ≡ Some a → IsSome o
there o a e = subst IsSome (sym e) refl

not_there : {A : Type 0} (o : Option A) → o ≡ None → IsSome o → ⊥
not_there o e h = true≢false (sym (subst IsSome e h))

if_gives : {A : Type 0} (P : A → Type 0) (o : Option A) (a : A) → IfSome o P → o ≡ Some a → P a
if_gives P o a h e = subst (λ q. IfSome q P) e h

-- what is left of refined states
pub left_refined : (s t a b : State) → StateRefined s t → Refined s a b → StateRefined (left s a) (left t b)
left_refined s t a b h r = record {
  scene = ap₂ (λ (z : Scene) f. record z { fields = f }) h.scene r.fields;
  cells = λ x at. subst (λ (z : Scene). IsRefinedBy (kept (s.scene.buffers x) (a.cells x) at) (kept (z.buffers x) (b.cells x) at)) h.scene (go x at (s.scene.buffers x) refl);
}
  where
    go : (x : ℕ) (at : List ℤ) (o : Option Shape) → s.scene.buffers x ≡ o → IsRefinedBy (kept o (a.cells x) at) (kept o (b.cells x) at)
    go x at None e = tt
    go x at (Some shape) e = r.cells x (there (s.scene.buffers x) shape e) at

pub all_refined : (s a b : State) → StateRefined a b → Refined s a b
all_refined s a b h = record { fields = ap (λ (z : Scene). z.fields) h.scene; cells = λ x k at. h.cells x at }

earlier : (s u a b : State) → Grows s u → Refined u a b → Refined s a b
earlier s u a b g r = record { fields = r.fields; cells = λ x k at. r.cells x (go x k (u.scene.buffers x) refl) at }
  where
    go : (x : ℕ) → IsSome (s.scene.buffers x) → (o : Option Shape) → u.scene.buffers x ≡ o → IsSome (u.scene.buffers x)
    go x k None e = absurd (not_there (s.scene.buffers x) (g x e) k)
    go x k (Some shape) e = there (u.scene.buffers x) shape e

-- what has to be shown at a hole before rest
abbrev AtHole : World → Block → Block → (State → Type 0) → Block → Type 0
AtHole world old new May rest = (s t : State) → StateRefined s t → May s → (a b : State) → run world (joined old rest) s ≡ Some a → run world (joined new rest) t ≡ Some b → Refined s a b

module _ (world : World) (callees : CalleesRespect StateRefined world) (old new rest : Block) where
  -- the same names
  pub hole_refined : AtHole world old new (MayStandFor world old new) rest
  hole_refined s t h may a b i j =
      let p = then_gives (run world old s) (run world rest) a (sym (compose world old rest s) ∙ i) in
      let q = then_gives (run world new t) (run world rest) b (sym (compose world new rest t) ∙ j) in
      let m = both_back StateRefined (run world new s) (run world new t) q.0 q.1 (run_respects IsRefinedBy refined_closed world callees new s t h) in
      let near = state_on p.0 m.0 q.0 (may p.0 m.0 p.1 m.1) m.2 in
      all_refined s a b (both_some StateRefined (run world rest p.0) (run world rest q.0) a b p.2 q.2 (run_respects IsRefinedBy refined_closed world callees rest p.0 q.0 near))

  -- the same names but for hidden ones
  pub hole_refined_but : (hidden : ℕ → Bool) → in_block hidden rest ≡ false → AtHole world old new (MayReplace world hidden old new) rest
  hole_refined_but hidden k s t h may a b i j =
      let p = then_gives (run world old s) (run world rest) a (sym (compose world old rest s) ∙ i) in
      let q = then_gives (run world new t) (run world rest) b (sym (compose world new rest t) ∙ j) in
      let m = both_back StateRefined (run world new s) (run world new t) q.0 q.1 (run_respects IsRefinedBy refined_closed world callees new s t h) in
      let near = further hidden p.0 m.0 q.0 (may.runs p.0 m.0 p.1 m.1) m.2 in
      let last = both_some (RefinedBut hidden) (run world rest p.0) (run world rest q.0) a b p.2 q.2 (run_keeps_refined hidden world callees rest k p.0 q.0 near) in
      record { fields = last.fields; cells = λ x there at. last.cells x (go x there (hidden x) refl) at }
    where
      go : (x : ℕ) → IsSome (s.scene.buffers x) → (b : Bool) → hidden x ≡ b → hidden x ≡ false
      go x there true e = absurd (not_there (s.scene.buffers x) (may.fresh x e) there)
      go x there false e = e

module _ (world : World) (callees : CalleesRespect StateRefined world) (old new : Block) (May : State → Type 0) where
  -- ---- loops

  module _ (i : ℕ) (c : Context) where
    abbrev Body : Type 0
    Body = (s t : State) → StateRefined s t → ((u : State) → ComesTo world old c s u → May u) → (a b : State) → run world (fill c old) s ≡ Some a → run world (fill c new) t ≡ Some b → Refined s a b

    inside : (n : ℤ) (s t : State) → StateRefined s t → StateRefined (on_scene (with_control i n) s) (on_scene (with_control i n) t)
    inside n s t h = record { scene = ap (with_control i n) h.scene; cells = h.cells }

    turn_refined : Body → (n : ℤ) (s t : State) → StateRefined s t → ((u : State) → ComesTo world old c (on_scene (with_control i n) s) u → May u) → (a b : State) → turn i (run world (fill c old)) n s ≡ Some a → turn i (run world (fill c new)) n t ≡ Some b → StateRefined a b
    turn_refined body n s t h may a b k j =
        let p = map_gives (run world (fill c old) (on_scene (with_control i n) s)) (left s) a k in
        let q = map_gives (run world (fill c new) (on_scene (with_control i n) t)) (left t) b j in
        let r = body (on_scene (with_control i n) s) (on_scene (with_control i n) t) (inside n s t h) may p.0 q.0 p.1 q.1 in
        subst (λ z. StateRefined z b) p.2 (subst (λ z. StateRefined (left s p.0) z) q.2 (left_refined s t p.0 q.0 h (record { fields = r.fields; cells = r.cells })))

    turns_refined : Body → (ns : List ℤ) (s t : State) → StateRefined s t → ((n : ℤ) (v : State) → ComesToTurn (turn i (run world (fill c old))) ns s n v → (u : State) → ComesTo world old c (on_scene (with_control i n) v) u → May u) → (a b : State) → turns (turn i (run world (fill c old))) ns s ≡ Some a → turns (turn i (run world (fill c new))) ns t ≡ Some b → StateRefined a b
    turns_refined body [] s t h may a b k j = let e : s ≡ a = cc in let f : t ≡ b = cc in subst (λ z. StateRefined z b) e (subst (λ z. StateRefined s z) f h)
    turns_refined body (n ∷ ns) s t h may a b k j =
        let p = then_gives (turn i (run world (fill c old)) n s) (turns (turn i (run world (fill c old))) ns) a k in
        let q = then_gives (turn i (run world (fill c new)) n t) (turns (turn i (run world (fill c new))) ns) b j in
        let r = turn_refined body n s t h (may n s now) p.0 q.0 p.1 q.1 in
        turns_refined body ns p.0 q.0 r (λ m v z. may m v (later p.1 z)) a b p.2 q.2

  -- ---- branches

  module _ (test : Condition) (f g f' g' : Block) (s t : State) (h : StateRefined s t) where
    -- the branch that is taken
    branch_refined : (rest : Block) → ((taken : Bool) → holds s.scene test ≡ taken → (a b : State) → choose taken (run world f) (run world g) s ≡ Some a → choose taken (run world f') (run world g') t ≡ Some b → Refined s a b) → (a b : State) → run world (next (If test f g) rest) s ≡ Some a → run world (next (If test f' g') rest) t ≡ Some b → Refined s a b
    branch_refined rest each a b i j =
        let p = then_gives (step world (If test f g) s) (run world rest) a i in
        let q = then_gives (step world (If test f' g') t) (run world rest) b j in
        let x = map_gives (choose (holds s.scene test) (run world f) (run world g) s) (left s) p.0 p.1 in
        let y = map_gives (choose (holds t.scene test) (run world f') (run world g') t) (left t) q.0 q.1 in
        let same = subst (λ (z : Scene). choose (holds z test) (run world f') (run world g') t ≡ Some y.0) (sym h.scene) y.1 in
        let r = left_refined s t x.0 y.0 h (each (holds s.scene test) refl x.0 y.0 x.1 same) in
        let after = subst (λ z. StateRefined z q.0) x.2 (subst (λ z. StateRefined (left s x.0) z) y.2 r) in
        all_refined s a b (both_some StateRefined (run world rest p.0) (run world rest q.0) a b p.2 q.2 (run_respects IsRefinedBy refined_closed world callees rest p.0 q.0 after))

  -- the same block in both
  same_refined : (f : Block) (s t : State) → StateRefined s t → (a b : State) → run world f s ≡ Some a → run world f t ≡ Some b → Refined s a b
  same_refined f s t h a b i j = all_refined s a b (both_some StateRefined (run world f s) (run world f t) a b i j (run_respects IsRefinedBy refined_closed world callees f s t h))

  -- ---- any context

  pub replaced_refined : (c : Context) → AtHole world old new May (rest_of c) → (s t : State) → StateRefined s t → ((u : State) → ComesTo world old c s u → May u) → (a b : State) → run world (fill c old) s ≡ Some a → run world (fill c new) t ≡ Some b → Refined s a b
  replaced_refined (Here rest) k s t h may a b i j = k s t h (may s refl) a b i j
  replaced_refined (After x c) k s t h may a b i j =
      let p = then_gives (step world x s) (run world (fill c old)) a i in
      let q = then_gives (step world x t) (run world (fill c new)) b j in
      let r = both_some StateRefined (step world x s) (step world x t) p.0 q.0 p.1 q.1 (step_respects IsRefinedBy refined_closed world callees x s t h) in
      earlier s p.0 a b (if_gives (Grows s) (step world x s) p.0 (step_grows world x s) p.1) (replaced_refined c k p.0 q.0 r (λ u z. may u (p.0, p.1, z)) a b p.2 q.2)
  replaced_refined (InLoop n lo hi c rest) k s t h may a b i j =
      let p = then_gives (step world (For n lo hi (fill c old)) s) (run world rest) a i in
      let q = then_gives (step world (For n lo hi (fill c new)) t) (run world rest) b j in
      let same = subst (λ (z : Scene). turns (turn n.id (run world (fill c new))) (turns_of z lo hi) t ≡ Some q.0) (sym h.scene) q.1 in
      let r = turns_refined n.id c (replaced_refined c k) (turns_of s.scene lo hi) s t h (λ m v z u w. may u (m, v, z, w)) p.0 q.0 p.1 same in
      all_refined s a b (both_some StateRefined (run world rest p.0) (run world rest q.0) a b p.2 q.2 (run_respects IsRefinedBy refined_closed world callees rest p.0 q.0 r))
  replaced_refined (InThen test c other rest) k s t h may a b i j =
      branch_refined test (fill c old) other (fill c new) other s t h rest (λ taken e. elim taken as (λ w. holds s.scene test ≡ w → (x y : State) → choose w (run world (fill c old)) (run world other) s ≡ Some x → choose w (run world (fill c new)) (run world other) t ≡ Some y → Refined s x y) [ true ↦ (λ e. replaced_refined c k s t h (λ u z. may u (e, z))) | false ↦ (λ e. same_refined other s t h) ] e) a b i j
  replaced_refined (InElse test other c rest) k s t h may a b i j =
      branch_refined test other (fill c old) other (fill c new) s t h rest (λ taken e. elim taken as (λ w. holds s.scene test ≡ w → (x y : State) → choose w (run world other) (run world (fill c old)) s ≡ Some x → choose w (run world other) (run world (fill c new)) t ≡ Some y → Refined s x y) [ true ↦ (λ e. same_refined other s t h) | false ↦ (λ e. replaced_refined c k s t h (λ u z. may u (e, z))) ] e) a b i j

pub unit_respects : (kinds : ℕ → Kind) (ps : List Procedure) → CalleesRespect StateRefined (unit_world kinds ps)
unit_respects kinds ps = all_respect IsRefinedBy refined_closed kinds [] ps (λ k c e. absurd (none_some e))

pub where_gives : {A : Type 0} (t : Bool) (o : Option A) (a : A) → where_true t o ≡ Some a → o ≡ Some a
where_gives false o a e = absurd (none_some e)
where_gives true o a e = e

module _ (kinds : ℕ → Kind) (ps : List Procedure) (c : Context) (old new : Block) (p q : Procedure) (was : p.body ≡ fill c old) (is : q ≡ record p { body = fill c new }) (May : State → Type 0) (hole : AtHole (unit_world kinds ps) old new May (rest_of c)) (may : (s u : State) → IsAdmissible (unit_world kinds ps) p s → ComesTo (unit_world kinds ps) old c s u → May u) where
  all_runs : (s t u : State) → IsAdmissible (unit_world kinds ps) p s → run_procedure (unit_world kinds ps) p s ≡ Some t → run_procedure (unit_world kinds ps) q s ≡ Some u → Refined s t u
  all_runs s t u good i j =
      let world = unit_world kinds ps in
      let i' = where_gives (all_have_extents s.scene p.params) (run world p.body s) t i in
      let j' = where_gives (all_have_extents s.scene q.params) (run world q.body s) u j in
      let e : q.body ≡ fill c new = ap (λ (z : Procedure). z.body) is in
      replaced_refined world (unit_respects kinds ps) old new May c hole s s (state_same s) (λ v. may s v good) t u (subst (λ b. run world b s ≡ Some t) was i') (subst (λ b. run world b s ≡ Some u) e j')

  replaced : Refines (unit_world kinds ps) p q []
  replaced = record {
    cells = λ s t u good i j. (all_runs s t u good i j).cells;
    fields = λ s t u good i j f k. ap (λ g. g f) (all_runs s t u good i j).fields;
  }

pub context_law : ContextLaw
context_law kinds ps hidden c old new p q was is clear may = replaced kinds ps c old new p q was is (MayReplace (unit_world kinds ps) hidden old new) (hole_refined_but (unit_world kinds ps) (unit_respects kinds ps) old new (rest_of c) hidden clear) may

pub names_law : NamesLaw
names_law kinds ps c old new p q was is may = replaced kinds ps c old new p q was is (MayStandFor (unit_world kinds ps) old new) (hole_refined (unit_world kinds ps) (unit_respects kinds ps) old new (rest_of c)) may
