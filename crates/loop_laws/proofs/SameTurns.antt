-- Loops whose turns are those of another loop.
use Rattle.std.proofs.Common.{◌≡◌, ℕ, ℤ, pos, ◌+ℤ◌, ◌-ℤ◌, ◌*ℤ◌, ◌==◌, Bool, true, false, cond}
use Rattle.std.proofs.Common.{List, Option, Some, None, IfSome, option_map, refl, sym, ap, ◌∙◌}
use Rattle.std.proofs.Math.Path.{fun_ext}
use Rattle.exo_tree.specs.Tree.{Binder, Control, Lit, Block}
use Rattle.exo_tree.specs.Substitution.{in_block}
use Rattle.exo_meaning.specs.Scene.{Shape, number}
use Rattle.exo_meaning.specs.State.{State, Cells, kept, left}
use Rattle.exo_meaning.specs.Run.{World, run, turn, turns, turns_of, range, count}
use Rattle.exo_meaning.proofs.Ignored.{run_alike}
use Rattle.exo_meaning.proofs.Nested.{kept_twice, pulled, then_some}
use Rattle.meaning_laws.specs.Sound.{IsSound}
use Rattle.meaning_laws.specs.Substitute.{bound}
use Rattle.meaning_laws.proofs.Names.{name_same}
use Rattle.meaning_laws.proofs.Sound.{left_sound}
use Rattle.meaning_laws.proofs.Substitute.{substitution_law}
use Rattle.place_laws.specs.Scope.UnrollLoop.{only_loop}
use Rattle.place_laws.specs.Scope.Unrolled.{HasNamesOf}
use Rattle.place_laws.proofs.OfScope.Scopes.{left_same_but}
use Rattle.loop_laws.specs.Turns.{Turn, group}
use Rattle.loop_laws.specs.SameTurns.{MayStandIn, at_turn, SubstitutedTurn, IsMovedBy, MovedLoop}
use Rattle.loop_laws.specs.SameTurns.{AreGroupsOf, GroupedLoop}
use Rattle.loop_laws.proofs.Turns.{less_zero, turns_alike, turns_keep, moved_turns}
use Rattle.loop_laws.proofs.Turns.{grouped_turns}

-- ---- states with the same names

pub own_names : (s : State) → IsSound s → HasNamesOf s s
own_names s sound = record { sound = sound; names = λ x. name_same x s }

names_left : (s t u : State) → HasNamesOf s t → HasNamesOf s (left t u)
names_left s t u h = record {
  sound = left_sound t u h.sound;
  names = λ x. (let n = h.names x in record {
    control = n.control;
    buffers = n.buffers;
    views = n.views;
  });
}

pub if_left : (s t : State) (o : Option State) → HasNamesOf s t
    → IfSome (option_map (left t) o) (HasNamesOf s)
if_left s t None h = tt
if_left s t (Some u) h = names_left s t u h

-- turns keep names
pub turns_stay : (i : ℕ) (body : State → Option State) (ns : List ℤ) (s t : State) → HasNamesOf s t
    → IfSome (turns (turn i body) ns t) (HasNamesOf s)
turns_stay i body ns s t h =
    turns_keep (HasNamesOf s) (turn i body) (λ n u k. if_left s u (body (at_turn i n u)) k) ns t h

-- ---- one turn

bound_left : (i : ℕ) (e : Control) (s : State) (o : Option State)
    → option_map (left s) (option_map (bound i e) o) ≡ option_map (left s) o
bound_left i e s None = refl
bound_left i e s (Some t) = refl

pub substituted : (world : World) (i : ℕ) (e : Control) (b : Block) (s w : State) → MayStandIn i e b
    → option_map (left s) (run world (in_block i e b) w)
    ≡ option_map (left s) (run world b (bound i e w))
substituted world i e b s w may =
    sym (bound_left i e s (run world (in_block i e b) w))
    ∙ ap (option_map (left s)) (sym (substitution_law world i e b w may.0 may.1))

pub substituted_turn : SubstitutedTurn
substituted_turn world hidden i e b s w may unseen none alike =
    substituted world i e b s w may
    ∙ left_same_but hidden s none (run world b (bound i e w))
    (run world b (at_turn i (number w.scene e) s))
    (run_alike hidden world b unseen (bound i e w) (at_turn i (number w.scene e) s) alike)

-- ---- counted from another number

-- the last number counts
set_again : (i : ℕ) (m n : ℤ) (s : State) → at_turn i n (at_turn i m s) ≡ at_turn i n s
set_again i m n s =
    ap (λ f. record { scene = record s.scene { control = f }; cells = s.cells })
    (fun_ext (λ x. go (x == i) (s.scene.control x)))
  where
    go : (t : Bool) (z : ℤ) → cond t n (cond t m z) ≡ cond t n z
    go true z = refl
    go false z = refl

moved_turn : (world : World) (i : ℕ) (e : Control) (b : Block) (d : ℤ) (s : State)
    → MayStandIn i e b → IsMovedBy i d e s → (n : ℤ) (t : State) → HasNamesOf s t
    → turn i (run world (in_block i e b)) n t ≡ turn i (run world b) (d +ℤ n) t
moved_turn world i e b d s may moved n t h =
    let w = at_turn i n t in
    substituted world i e b t w may
    ∙ ap (λ z. option_map (left t) (run world b z)) (set_again i n (number w.scene e) t)
    ∙ ap (λ k. turn i (run world b) k t) (moved t n h)

pub moved_loop : MovedLoop
moved_loop world i lo hi e b d s sound may moved =
    let go = turn i.id (run world b) in
    let made = turn i.id (run world (in_block i.id e b)) in
    let n = count (number s.scene hi -ℤ number s.scene lo) in
    then_some (turns made (turns_of s.scene lo hi) s)
    ∙ turns_alike (HasNamesOf s) made (λ k. go (d +ℤ k))
    (λ k t h. moved_turn world i.id e b d s may moved k t h)
    (λ k t h. if_left s t (run world (in_block i.id e b) (at_turn i.id k t)) h)
    (range (number s.scene lo) n) s (own_names s sound)
    ∙ moved_turns go d (number s.scene lo) n s

-- ---- in groups

-- a scope within one with the same buffers is of no account
pub left_twice : (t v : State) (o : Option State) → v.scene.buffers ≡ t.scene.buffers
    → option_map (left t) (option_map (left v) o) ≡ option_map (left t) o
left_twice t v o same = go o
  where
    go : (o : Option State) → option_map (left t) (option_map (left v) o) ≡ option_map (left t) o
    go None = refl
    go (Some u) =
        ap {A = Cells}
        (λ c. Some (record { scene = record t.scene { fields = u.scene.fields }; cells = c }))
        (fun_ext (λ x. fun_ext (λ at.
        ap (λ (f : ℕ → Option Shape). kept (t.scene.buffers x) (kept (f x) (u.cells x)) at) same
        ∙ kept_twice (t.scene.buffers x) (u.cells x) at)))

module _ (world : World) (go : Turn) (a j : Binder) (c : ℕ) (b : Block) (s : State)
    (are : AreGroupsOf world go a.id j.id c b s) where
  abbrev inner : Block
  inner = only_loop j (Lit (pos 0)) (Lit (pos c)) b

  abbrev pair : ℤ → ℤ → State → Option State
  pair n m = turn a.id (turn j.id (run world b) m) n

  pair_is : (n m : ℤ) (t : State) → HasNamesOf s t → pair n m t ≡ go ((pos c *ℤ n) +ℤ m) t
  pair_is n m t h =
      left_twice t (at_turn a.id n t) (run world b (at_turn j.id m (at_turn a.id n t))) refl
      ∙ are t n m h

  pair_stays : (n m : ℤ) (t : State) → HasNamesOf s t → IfSome (pair n m t) (HasNamesOf s)
  pair_stays n m t h = if_left s t (turn j.id (run world b) m (at_turn a.id n t)) h

  one_group : (n : ℤ) (t : State) → HasNamesOf s t
      → turn a.id (run world inner) n t ≡ group go c n t
  one_group n t h =
      let ms = range (pos 0) (count (pos c -ℤ pos 0)) in
      ap (option_map (left t)) (then_some (turns (turn j.id (run world b)) ms (at_turn a.id n t)))
      ∙ pulled a.id j.id (run world b) n t ms t refl h.sound.tidy
      ∙ turns_alike (HasNamesOf s) (pair n) (λ m. go ((pos c *ℤ n) +ℤ m)) (λ m u k. pair_is n m u k)
      (λ m u k. pair_stays n m u k) ms t h
      ∙ ap (λ k. turns (λ m. go ((pos c *ℤ n) +ℤ m)) (range (pos 0) (count k)) t)
      (less_zero (pos c))

pub grouped_loop : GroupedLoop
grouped_loop world go a j groups c b s sound are =
    let made = turn a.id (run world (only_loop j (Lit (pos 0)) (Lit (pos c)) b)) in
    let ns = turns_of s.scene (Lit (pos 0)) groups in
    then_some (turns made ns s)
    ∙ turns_alike (HasNamesOf s) made (group go c)
    (λ n t h. one_group world go a j c b s are n t h)
    (λ n t h. if_left s t
    (run world (only_loop j (Lit (pos 0)) (Lit (pos c)) b) (at_turn a.id n t)) h)
    ns s (own_names s sound)
    ∙ ap (λ k. turns (group go c) (range (pos 0) (count k)) s) (less_zero (number s.scene groups))
    ∙ grouped_turns go c (count (number s.scene groups)) s
