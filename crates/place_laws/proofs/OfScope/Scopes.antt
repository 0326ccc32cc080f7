-- Blocks in scopes of their own, and the same blocks opened.
use Rattle.std.proofs.Common.{◌≡◌, ℕ, ℤ, ◌==◌, Bool, true, false, ◌||◌, cond, List, [], ◌∷◌, Option}
use Rattle.std.proofs.Common.{Some, None, IfSome, option_map, refl, sym, ap, ap₂, ◌∙◌, subst}
use Rattle.std.proofs.Common.{true≢false, eqb-true}
use Rattle.std.specs.Prelude.{IsSome}
use Rattle.std.proofs.Math.Path.{fun_ext}
use Rattle.exo_tree.specs.Tree.{Block, end, next, joined}
use Rattle.exo_meaning.specs.Value.{Value}
use Rattle.exo_meaning.specs.Scene.{Shape, holds, then_do}
use Rattle.exo_meaning.specs.State.{State, Cells, kept, left, scoped, on_scene, with_control}
use Rattle.exo_meaning.specs.Run.{World, run, step, turn, choose}
use Rattle.exo_meaning.specs.Refines.{Both}
use Rattle.exo_meaning.specs.Unseen.{in_block, SameBut}
use Rattle.exo_meaning.proofs.Compose.{compose}
use Rattle.exo_meaning.proofs.Frame.{if_then, if_weaken, or_parts, updated_other}
use Rattle.exo_meaning.proofs.Ignored.{run_alike}
use Rattle.exo_meaning.proofs.Nested.{left_same}
use Rattle.meaning_laws.specs.Sound.{IsSound, binds}
use Rattle.meaning_laws.proofs.Facts.{or_left, or_right}
use Rattle.meaning_laws.proofs.Names.{name_same, name_on, Others, step_names}
use Rattle.meaning_laws.proofs.Sound.{left_sound, run_sound}
use Rattle.place_laws.specs.Scope.Scopes.{top_binders, HasNone, LeftBut, OpenScope, joined_all, scopes}
use Rattle.place_laws.specs.Scope.Scopes.{AreApart, JoinScopes, OpenScopes, ScopeTwice, ScopeInTurn}
use Rattle.place_laws.specs.Scope.Scopes.{BranchIsScope, SplitTurn}

-- ---- the names that a run leaves

pub run_names : (world : World) (b : Block) (s : State)
    → IfSome (run world b s) (Others (top_binders b) s)
run_names world end s = λ x e. name_same x s
run_names world (next a b) s =
    if_then (Others (binds a) s) (Others (top_binders (next a b)) s) (step world a s) (run world b)
    (step_names world a s) (λ t h.
    if_weaken (Others (top_binders b) t) (Others (top_binders (next a b)) s) (run world b t)
    (run_names world b t) (λ u k x e.
    let p = or_parts (binds a x) (top_binders b x) e in
    name_on x s t u (h x p.0) (k x p.1)))

or_assoc : (a b c : Bool) → (a || (b || c)) ≡ ((a || b) || c)
or_assoc true b c = refl
or_assoc false b c = refl

pub joined_binders : (a b : Block) (x : ℕ)
    → top_binders (joined a b) x ≡ (top_binders a x || top_binders b x)
joined_binders end b x = refl
joined_binders (next a c) b x =
    ap (λ t. binds a x || t) (joined_binders c b x)
    ∙ or_assoc (binds a x) (top_binders c x) (top_binders b x)

pub joined_end : (b : Block) → joined b end ≡ b
joined_end end = refl
joined_end (next a b) = ap (next a) (joined_end b)

-- ---- the end of a scope

pub none_left : (hidden : ℕ → Bool) (s t : State) → HasNone hidden s → HasNone hidden (left s t)
none_left hidden s t h = record {
  sound = left_sound s t h.sound;
  unbound = λ x k. (let u = h.unbound x k in record {
    control = u.control;
    buffers = u.buffers;
    views = u.views;
  });
}

pub none_less : (more fewer : ℕ → Bool) (s : State) → ((x : ℕ) → fewer x ≡ true → more x ≡ true)
    → HasNone more s → HasNone fewer s
none_less more fewer s less h = record { sound = h.sound; unbound = λ x k. h.unbound x (less x k) }

-- a buffer that is there is not hidden
not_hidden : (hidden : ℕ → Bool) (s : State) → HasNone hidden s → (x : ℕ)
    → IsSome (s.scene.buffers x) → hidden x ≡ false
not_hidden hidden s h x k = go (hidden x) refl
  where
    go : (t : Bool) → hidden x ≡ t → hidden x ≡ false
    go true e = absurd (true≢false (sym (subst IsSome (h.unbound x e).buffers k)))
    go false e = e

left_but : (hidden : ℕ → Bool) (s t : State) → HasNone hidden s → IsSound t → Others hidden s t
    → LeftBut hidden (left s t) t
left_but hidden s t h sound names = record {
  alike = record {
    control = λ x k. (names x k).control;
    buffers = λ x k. (names x k).buffers;
    views = λ x k. (names x k).views;
    fields = refl;
    cells = λ x k. fun_ext (cell x k (s.scene.buffers x) refl);
    seen = λ x z k e. not_hidden hidden s h z.buffer (h.sound.seen x z e);
  };
  none = none_left hidden s t h;
}
  where
    cell : (x : ℕ) → hidden x ≡ false → (o : Option Shape) → s.scene.buffers x ≡ o → (at : List ℤ)
        → kept o (t.cells x) at ≡ t.cells x at
    cell x k None e at = sym (sound.tidy x (sym (names x k).buffers ∙ e) at)
    cell x k (Some shape) e at = refl

pub open_scope_law : OpenScope
open_scope_law world b s h = go (run world b s) (run_sound world b s h.sound) (run_names world b s)
  where
    go : (o : Option State) → IfSome o IsSound → IfSome o (Others (top_binders b) s)
        → Both (LeftBut (top_binders b)) (option_map (left s) o) o
    go None sound names = tt
    go (Some t) sound names = left_but (top_binders b) s t h sound names

-- ---- blocks in a row

-- what differs at hidden names is gone at the end of a scope that has none of them
same_left : (hidden : ℕ → Bool) (s t u v : State) → HasNone hidden s → SameBut hidden u v
    → left (left s t) u ≡ left s v
same_left hidden s t u v h same =
    ap₂ (λ f (c : Cells). record { scene = record s.scene { fields = f }; cells = c }) same.fields
    (fun_ext (λ b. go b (hidden b) refl))
  where
    go : (b : ℕ) (t : Bool) → hidden b ≡ t → kept (s.scene.buffers b) (u.cells b) ≡ kept
        (s.scene.buffers b) (v.cells b)
    go b true e =
        let none = (h.unbound b e).buffers in
        ap (λ o. kept o (u.cells b)) none ∙ sym (ap (λ o. kept o (v.cells b)) none)
    go b false e = ap (kept (s.scene.buffers b)) (same.cells b e)

-- the end of a scope takes away what is hidden and was not there
pub left_same_but : (hidden : ℕ → Bool) (s : State)
    → ((x : ℕ) → hidden x ≡ true → s.scene.buffers x ≡ None) → (o p : Option State)
    → Both (SameBut hidden) o p → option_map (left s) o ≡ option_map (left s) p
left_same_but hidden s gone None None h = refl
left_same_but hidden s gone None (Some t) h = absurd h
left_same_but hidden s gone (Some t) None h = absurd h
left_same_but hidden s gone (Some t) (Some u) h =
    ap₂ (λ f (c : Cells). Some (record { scene = record s.scene { fields = f }; cells = c }))
    h.fields (fun_ext (λ x. fun_ext (λ at. go x at (hidden x) refl)))
  where
    go : (x : ℕ) (at : List ℤ) (b : Bool) → hidden x ≡ b
        → kept (s.scene.buffers x) (t.cells x) at ≡ kept (s.scene.buffers x) (u.cells x) at
    go x at true e = ap (λ o. kept o (t.cells x) at) (gone x e)
        ∙ sym (ap (λ o. kept o (u.cells x) at) (gone x e))
    go x at false e = ap (λ c. kept (s.scene.buffers x) c at) (h.cells x e)

rest_left : (hidden : ℕ → Bool) (s t : State) (o p : Option State) → HasNone hidden s
    → Both (SameBut hidden) o p → option_map (left (left s t)) o ≡ option_map (left s) p
rest_left hidden s t None None h k = refl
rest_left hidden s t None (Some v) h k = absurd k
rest_left hidden s t (Some u) None h k = absurd k
rest_left hidden s t (Some u) (Some v) h k = ap Some (same_left hidden s t u v h k)

pub two_scopes : (world : World) (a b : Block) (s : State) → HasNone (top_binders a) s
    → in_block (top_binders a) b ≡ false → then_do (scoped (run world a) s) (scoped (run world b))
    ≡ scoped (run world (joined a b)) s
two_scopes world a b s h apart =
    go (run world a s) (open_scope_law world a s h)
    ∙ sym (ap (option_map (left s)) (compose world a b s))
  where
    go : (o : Option State) → Both (LeftBut (top_binders a)) (option_map (left s) o) o
        → then_do (option_map (left s) o) (scoped (run world b)) ≡ option_map (left s)
        (then_do o (run world b))
    go None k = refl
    go (Some t) k = rest_left (top_binders a) s t (run world b (left s t)) (run world b t) h
        (run_alike (top_binders a) world b apart (left s t) t k.alike)

pub left_then : (s : State) (o : Option State) (f g : State → Option State)
    → ((t : State) → f (left s t) ≡ g (left s t)) → then_do (option_map (left s) o) f ≡ then_do
    (option_map (left s) o) g
left_then s None f g h = refl
left_then s (Some t) f g h = h t

join_scopes_from : (world : World) (bs : List Block) (s : State) → AreApart bs
    → HasNone (top_binders (joined_all bs)) s
    → scopes world bs s ≡ scoped (run world (joined_all bs)) s
join_scopes_from world [] s apart h = ap Some (sym (left_same s s refl h.sound.tidy))
join_scopes_from world (b ∷ bs) s apart h =
    left_then s (run world b s) (scopes world bs) (scoped (run world (joined_all bs)))
    (λ t. join_scopes_from world bs (left s t) apart.1 (none_left (top_binders (joined_all bs))
    s t (none_less (top_binders (joined_all (b ∷ bs))) (top_binders (joined_all bs)) s
    (λ x k. joined_binders b (joined_all bs) x ∙ or_right (top_binders b x)
    (top_binders (joined_all bs) x) k) h)))
    ∙ two_scopes world b (joined_all bs) s (none_less (top_binders (joined_all (b ∷ bs)))
    (top_binders b) s (λ x k. joined_binders b (joined_all bs) x ∙ or_left (top_binders b x)
    (top_binders (joined_all bs) x) k) h) apart.0

pub join_scopes_law : JoinScopes
join_scopes_law world bs s apart h = join_scopes_from world bs s apart h

pub open_scopes_law : OpenScopes
open_scopes_law world bs s apart h =
    let hidden = top_binders (joined_all bs) in
    subst (λ o. Both (LeftBut hidden) o (run world (joined_all bs) s))
    (sym (join_scopes_law world bs s apart h)) (open_scope_law world (joined_all bs) s h)

-- ---- a branch, and the turn of a loop

pub branch_is_scope_law : BranchIsScope
branch_is_scope_law world test a b s = go (holds s.scene test)
  where
    ends : (o : Option State) → then_do o (run world end) ≡ o
    ends None = refl
    ends (Some t) = refl

    go : (t : Bool) → then_do (scoped (choose t (run world a) (run world b)) s) (run world end)
        ≡ scoped (run world (cond t a b)) s
    go true = ends (scoped (run world a) s)
    go false = ends (scoped (run world b) s)

-- what is left at the end of two scopes, of which the second begins with the same buffers
left_twice : (s t u : State) → t.scene.buffers ≡ s.scene.buffers → left s (left t u) ≡ left s u
left_twice s t u e =
    ap (λ (c : Cells). record { scene = record s.scene { fields = u.scene.fields }; cells = c })
    (fun_ext (λ b. go (s.scene.buffers b) (t.scene.buffers b) (u.cells b) (ap (λ f. f b) e)))
  where
    go : (o p : Option Shape) (f : List ℤ → Value) → p ≡ o → kept o (kept p f) ≡ kept o f
    go None p f e = refl
    go (Some shape) p f e = ap (λ z. kept z f) e

both_left : (s t : State) (o : Option State) → t.scene.buffers ≡ s.scene.buffers
    → option_map (left s) (option_map (left t) o) ≡ option_map (left s) o
both_left s t None e = refl
both_left s t (Some u) e = ap Some (left_twice s t u e)

pub scope_twice_law : ScopeTwice
scope_twice_law body s = both_left s s (body s) refl

pub scope_in_turn_law : ScopeInTurn
scope_in_turn_law i body n s =
    both_left s (on_scene (with_control i n) s) (body (on_scene (with_control i n) s)) refl

-- the variable of a turn is none of these names
pub none_in_turn : (hidden : ℕ → Bool) (i : ℕ) (n : ℤ) (s : State) → hidden i ≡ false
    → HasNone hidden s → HasNone hidden (on_scene (with_control i n) s)
none_in_turn hidden i n s out h = record {
  sound = record { tidy = h.sound.tidy; seen = h.sound.seen };
  unbound = λ x k. (let u = h.unbound x k in record {
    control = updated_other s.scene.control i n x
        (other x (x == i) k (eqb-true x i)) ∙ u.control;
    buffers = u.buffers;
    views = u.views;
  });
}
  where
    other : (x : ℕ) (t : Bool) → hidden x ≡ true → (t ≡ true → x ≡ i) → t ≡ false
    other x true k e = absurd (true≢false (sym k ∙ ap hidden (e refl) ∙ out))
    other x false k e = refl

pub split_turn_law : SplitTurn
split_turn_law world i a b n s apart out h =
    let inner = on_scene (with_control i n) s in
    ap (option_map (left s)) (compose world a b inner)
    ∙ sym (go (run world a inner) (open_scope_law world a inner (none_in_turn (top_binders a) i
    n s out h)))
  where
    go : (o : Option State) → Both (LeftBut (top_binders a))
        (option_map (left (on_scene (with_control i n) s)) o) o
        → then_do (option_map (left s) o) (turn i (run world b) n) ≡ option_map (left s)
        (then_do o (run world b))
    go None k = refl
    go (Some t) k =
        let after = left (on_scene (with_control i n) s) t in
        rest_left (top_binders a) s t (run world b after) (run world b t) h
        (run_alike (top_binders a) world b apart after t k.alike)
