-- A run comes to the same scenes from all states of one scene.
use Rattle.std.proofs.Common.{◌≡◌, ℕ, ℤ, List, [], ◌∷◌, Option, Some, None, refl, sym, ap, ◌∙◌}
use Rattle.std.proofs.Common.{subst, option_map}
use Rattle.exo_tree.specs.Tree.{Kind, Coord, Statement, Block, end, next, Procedure}
use Rattle.exo_tree.specs.Context.{Context, Here, After, InLoop, InThen, InElse, fill}
use Rattle.exo_meaning.specs.Scene.{Scene, holds}
use Rattle.exo_meaning.specs.State.{State, left, on_scene, with_control}
use Rattle.exo_meaning.specs.Refines.{Both, SameScene}
use Rattle.exo_meaning.specs.Run.{World, run, step, turn, turns_of, unit_world}
use Rattle.exo_meaning.proofs.Monotone.{data_is_apart}
use Rattle.exo_meaning.proofs.Nested.{then_some}
use Rattle.meaning_laws.specs.Context.{ComesTo, ComesToTurn, now, later}
use Rattle.buffer_laws.specs.Staging.Converted.{StatementFits, FitsWithin}

same_scene : (s t : State) → s.scene ≡ t.scene → SameScene s t
same_scene s t e = record { scene = e; cells = λ b at. tt }

-- a run to an end from one of two states
abbrev Also : Option State → State → Type 0
Also o u = (v : State) × (o ≡ Some v) × SameScene v u

also : (o p : Option State) (u : State) → Both SameScene o p → p ≡ Some u → Also o u
also None None u h e = absurd (none_is_some e)
  where
    none_is_some : None ≡ Some u → ⊥
    none_is_some e = cc
also None (Some t) u h e = absurd h
also (Some v) None u h e = absurd h
also (Some v) (Some t) u h e = (v, refl, subst (SameScene v) (one t u e) h)
  where
    one : (t u : State) → Some t ≡ Some u → t ≡ u
    one t u e = cc

module _ (kinds : ℕ → Kind) (ps : List Procedure) where
  abbrev world : World
  world = unit_world kinds ps

  step_scene : (a : Statement) (s t : State) → SameScene s t
      → Both SameScene (step world a s) (step world a t)
  step_scene a s t h = subst (Both SameScene (step world a s)) (then_some (step world a t))
      (subst (λ o. Both SameScene o (run world (next a end) t)) (then_some (step world a s))
      (data_is_apart kinds ps (next a end) s t h))

  left_scene : (s t : State) (o p : Option State) → SameScene s t → Both SameScene o p
      → Both SameScene (option_map (left s) o) (option_map (left t) p)
  left_scene s t None None h k = tt
  left_scene s t None (Some q) h k = absurd k
  left_scene s t (Some r) None h k = absurd k
  left_scene s t (Some r) (Some q) h k = same_scene (left s r) (left t q)
      (ap (λ (z : Scene). record z { fields = r.scene.fields }) h.scene
      ∙ ap (λ (z : Scene). record t.scene { fields = z.fields }) k.scene)

  turn_scene : (i : ℕ) (b : Block) (n : ℤ) (s t : State) → SameScene s t
      → Both SameScene (turn i (run world b) n s) (turn i (run world b) n t)
  turn_scene i b n s t h =
      left_scene s t (run world b (on_scene (with_control i n) s))
      (run world b (on_scene (with_control i n) t)) h
      (data_is_apart kinds ps b (on_scene (with_control i n) s) (on_scene (with_control i n) t)
      (same_scene (on_scene (with_control i n) s) (on_scene (with_control i n) t)
      (ap (with_control i n) h.scene)))

  abbrev AtTurn : (State → State → Type 0) → ℕ → Block → List ℤ → State → ℤ → State → Type 0
  AtTurn R i b ns s n u = (v : State) × ComesToTurn (turn i (run world b)) ns s n v × R v u

  turn_also : (i : ℕ) (b : Block) (ns : List ℤ) (s t u : State) (n : ℤ) → SameScene s t
      → ComesToTurn (turn i (run world b)) ns t n u → AtTurn SameScene i b ns s n u
  turn_also i b [] s t u n h z = elim z [ ]
  turn_also i b (m ∷ ns) s t u n h now = (s, now, h)
  turn_also i b (m ∷ ns) s t u n h (later {t = w} e k) =
      let a = also (turn i (run world b) m s) (turn i (run world b) m t) w
      (turn_scene i b m s t h) e in
      let r = turn_also i b ns a.0 w u n a.2 k in
      (r.0, later a.1 r.1, r.2)

  -- a run that comes to a place from one state comes to it from the other
  comes_also : (old : Block) (c : Context) (s t u : State) → SameScene s t
      → ComesTo world old c t u → (v : State) × ComesTo world old c s v × SameScene v u
  comes_also old (Here rest) s t u h z = (s, refl, subst (SameScene s) (sym z) h)
  comes_also old (After a c) s t u h z =
      let d = also (step world a s) (step world a t) z.0 (step_scene a s t h) z.1 in
      let r = comes_also old c d.0 z.0 u d.2 z.2 in
      (r.0, (d.0, d.1, r.1), r.2)
  comes_also old (InLoop i lo hi c rest) s t u h z =
      let d = turn_also i.id (fill c old) (turns_of t.scene lo hi) s t z.1 z.0 h z.2 in
      let r = comes_also old c (on_scene (with_control i.id z.0) d.0)
      (on_scene (with_control i.id z.0) z.1) u
      (same_scene (on_scene (with_control i.id z.0) d.0) (on_scene (with_control i.id z.0) z.1)
      (ap (with_control i.id z.0) d.2.scene)) z.3 in (
        r.0,
        (
          z.0,
          d.0,
          subst (λ (w : Scene). ComesToTurn (turn i.id (run world (fill c old)))
              (turns_of w lo hi) s z.0 d.0) (sym h.scene) d.1,
          r.1,
        ),
        r.2,
      )
  comes_also old (InThen test c other rest) s t u h z =
      let r = comes_also old c s t u h z.1 in
      (r.0, (ap (λ (w : Scene). holds w test) h.scene ∙ z.0, r.1), r.2)
  comes_also old (InElse test other c rest) s t u h z =
      let r = comes_also old c s t u h z.1 in
      (r.0, (ap (λ (w : Scene). holds w test) h.scene ∙ z.0, r.1), r.2)

  -- so what is known of each statement from one state is known from the other
  pub known_from : (P : Statement → Scene → Type 0) (b : Block) (s t : State) → s.scene ≡ t.scene
      → ((c : Context) (d : Statement) (u : State) → b ≡ fill c (next d end)
      → ComesTo world (next d end) c s u → P d u.scene)
      → (c : Context) (d : Statement) (u : State) → b ≡ fill c (next d end)
      → ComesTo world (next d end) c t u → P d u.scene
  known_from P b s t e known c d u is come =
      let r = comes_also (next d end) c s t u (same_scene s t e) come in
      subst (P d) r.2.scene (known c d r.0 is r.1)

  pub fits_from : (x : ℕ) (coords : List Coord) (b : Block) (s t : State) → s.scene ≡ t.scene
      → FitsWithin world x coords b s → FitsWithin world x coords b t
  fits_from x coords b s t e fit c d u is come =
      known_from (λ d z. StatementFits x coords z d) b s t e fit c d u is come
