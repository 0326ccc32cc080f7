-- Names that stand for buffers, and expressions that read their strides alone.
use Rattle.std.proofs.Common.{◌≡◌, ℕ, ℤ, Bool, true, false, cond, ◌&&◌, ◌||◌, List, Some, refl, sym}
use Rattle.std.proofs.Common.{ap, ap₂, ◌∙◌, subst, true≢false}
use Rattle.std.specs.Int.{is_positive}
use Rattle.exo_tree.specs.Tree.{Control, Lit, Var, Field, StrideOf, Neg, Add, Sub, Mul, Div, Mod}
use Rattle.exo_tree.specs.Tree.{Statement, Assign, Reduce, Config, Pass, If, For, Alloc, View, Call}
use Rattle.exo_tree.specs.Tree.{Block}
use Rattle.exo_meaning.specs.Value.{Undefined}
use Rattle.exo_meaning.specs.Scene.{Scene, numbers, window, whole}
use Rattle.exo_meaning.specs.State.{State, on_scene, with_view, with_buffer, with_contents}
use Rattle.exo_meaning.specs.Calls.{all_positive}
use Rattle.exo_meaning.specs.Run.{World, run, step, turn, tensor}
use Rattle.exo_meaning.specs.Units.{is_of_literals}
use Rattle.meaning_laws.specs.Context.{ComesToTurn}
use Rattle.meaning_laws.specs.Sound.{binds, IsSameName}
use Rattle.meaning_laws.proofs.Names.{if_gives, step_names, come_to_turn_names}
use Rattle.meaning_laws.proofs.Replace.{where_gives}
use Rattle.meaning_laws.proofs.Parts.{some_injective, then_gives}
use Rattle.affine_forms.specs.Forms.{Reading, is_affine}
use Rattle.affine_forms.proofs.Values.{and_parts}
use Rattle.match_laws.specs.Simplify.SameControls.{OfStatement}
use Rattle.match_laws.specs.Simplify.SimplifiedBlocks.{is_seen, standing, IsRead}
use Rattle.match_laws.proofs.OfSimplify.SimplifiedBlocks.{statement_by}
use Rattle.match_laws.specs.Inline.Known.{strides_of, IsOfKnown, known_behind, Sees, ReadsHere}

-- ---- in one scene

pub wider : (known : ℕ → Bool) (scene : Scene) → Sees known scene → (e : Control)
    → IsOfKnown known e → is_affine (standing scene) e ≡ true
wider known scene sees (Lit n) h = refl
wider known scene sees (Var x) h = refl
wider known scene sees (Field f) h = refl
wider known scene sees (StrideOf x k) h = sees x h
wider known scene sees (Neg a) h = wider known scene sees a h
wider known scene sees (Add a b) h =
    let p = and_parts (is_affine (strides_of known) a) (is_affine (strides_of known) b) h in
    ap₂ ◌&&◌ (wider known scene sees a p.0) (wider known scene sees b p.1)
wider known scene sees (Sub a b) h =
    let p = and_parts (is_affine (strides_of known) a) (is_affine (strides_of known) b) h in
    ap₂ ◌&&◌ (wider known scene sees a p.0) (wider known scene sees b p.1)
wider known scene sees (Mul a b) h =
    let l = is_of_literals a || is_of_literals b in
    let p = and_parts l (is_affine (strides_of known) a && is_affine (strides_of known) b) h in
    let q = and_parts (is_affine (strides_of known) a) (is_affine (strides_of known) b) p.1 in
    ap₂ ◌&&◌ p.0 (ap₂ ◌&&◌ (wider known scene sees a q.0) (wider known scene sees b q.1))
wider known scene sees (Div a c) h =
    let p = and_parts (is_positive c) (is_affine (strides_of known) a) h in
    ap₂ ◌&&◌ p.0 (wider known scene sees a p.1)
wider known scene sees (Mod a c) h =
    let p = and_parts (is_positive c) (is_affine (strides_of known) a) h in
    ap₂ ◌&&◌ p.0 (wider known scene sees a p.1)

-- what reads known strides alone is read where what is read has its numbers
pub statement_read : (at : Reading) (known : ℕ → Bool) (scene : Scene) → ReadsHere at scene
    → Sees known scene → (a : Statement) → OfStatement (IsOfKnown known) a
    → OfStatement (IsRead at scene) a
statement_read at known scene reads sees a h =
    statement_by (IsOfKnown known) (IsRead at scene) (λ e k. (reads, wider known scene sees e k)) a h

-- ---- along a run

abbrev IsSeenIn : State → ℕ → Type 0
IsSeenIn t x = is_seen (t.scene.views x) ≡ true

-- a name that a statement binds
bound_seen : (world : World) (a : Statement) (s t : State) (x : ℕ) → binds a x ≡ true
    → step world a s ≡ Some t → IsSeenIn t x
bound_seen world (Assign y is e) s t x h k = absurd (true≢false (sym h))
bound_seen world (Reduce y is e) s t x h k = absurd (true≢false (sym h))
bound_seen world (Config f a) s t x h k = absurd (true≢false (sym h))
bound_seen world Pass s t x h k = absurd (true≢false (sym h))
bound_seen world (If c a b) s t x h k = absurd (true≢false (sym h))
bound_seen world (For i lo hi b) s t x h k = absurd (true≢false (sym h))
bound_seen world (Call n args) s t x h k = absurd (true≢false (sym h))
bound_seen world (Alloc y cell dims memory) s t x h k =
    let ns = numbers s.scene dims in
    let shape = tensor cell ns in
    let made : State = with_contents y.id (λ at. Undefined) (on_scene (with_buffer y.id shape) s) in
    subst (λ z. IsSeenIn z x)
    (some_injective made t (where_gives (all_positive ns) (Some made) t k))
    (ap (λ b. is_seen (cond b (Some (record { buffer = y.id; sides = whole ns })) (s.scene.views x))) h)
bound_seen world (View w y cs) s t x h k =
    let m = then_gives (window s.scene y cs) (λ seen. Some (on_scene (with_view w.id seen) s)) t k in
    subst (λ z. IsSeenIn z x)
    (some_injective (on_scene (with_view w.id m.0) s) t m.2)
    (ap (λ b. is_seen (cond b (Some m.0) (s.scene.views x))) h)

pub step_sees : (world : World) (known : ℕ → Bool) (a : Statement) (s t : State)
    → step world a s ≡ Some t → Sees known s.scene → Sees (known_behind a known) t.scene
step_sees world known a s t e sees x h = go (binds a x) refl h
  where
    go : (b : Bool) → binds a x ≡ b → (b || known x) ≡ true → IsSeenIn t x
    go true i k = bound_seen world a s t x i e
    go false i k =
        ap is_seen (sym (if_gives (λ u. (y : ℕ) → binds a y ≡ false → IsSameName y s u)
        (step world a s) t (step_names world a s) e x i).views) ∙ sees x k

pub turn_sees : (world : World) (known : ℕ → Bool) (i : ℕ) (b : Block) (ns : List ℤ) (s u : State)
    (n : ℤ) → ComesToTurn (turn i (run world b)) ns s n u → Sees known s.scene
    → Sees known u.scene
turn_sees world known i b ns s u n come sees x h =
    ap is_seen (sym (come_to_turn_names i (run world b) ns s n u come x).views) ∙ sees x h
