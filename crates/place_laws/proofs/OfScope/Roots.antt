-- The buffer of each name, wherever a run comes to.
use Rattle.std.proofs.Common.{◌≡◌, ℕ, Bool, true, false, [], Option, Some, IfSome, refl, sym, ap}
use Rattle.std.proofs.Common.{◌∙◌, subst}
use Rattle.exo_tree.specs.Tree.{Kind, Statement, Assign, Reduce, Config, Pass, If, For, Alloc, View}
use Rattle.exo_tree.specs.Tree.{Call, Block, ParamKind, ControlParam, TensorParam, WindowParam}
use Rattle.exo_tree.specs.Tree.{Procedure}
use Rattle.exo_tree.specs.Context.{Context, Here, After, InLoop, InThen, InElse, fill}
use Rattle.exo_meaning.specs.Value.{Undefined}
use Rattle.exo_meaning.specs.Scene.{Seen, numbers, window, whole, updated}
use Rattle.exo_meaning.specs.State.{State, on_scene, with_buffer, with_contents}
use Rattle.exo_meaning.specs.Calls.{all_positive}
use Rattle.exo_meaning.specs.Run.{World, run, step, turns_of, tensor, roots_after, unit_world}
use Rattle.exo_meaning.specs.Run.{kinds_of}
use Rattle.exo_meaning.specs.Inputs.{IsAdmissible, IsArgument, is_buffer_of}
use Rattle.exo_meaning.specs.Laws.{HasRoots}
use Rattle.exo_meaning.specs.Units.{are_params, field_kind}
use Rattle.exo_meaning.proofs.Frame.{if_then, if_where, if_weaken, window_root, more_roots}
use Rattle.meaning_laws.specs.Context.{ComesTo}
use Rattle.meaning_laws.specs.Sound.{IsSameName}
use Rattle.meaning_laws.proofs.FirstState.{params_differ}
use Rattle.meaning_laws.proofs.Names.{if_gives, step_names, come_to_turn_names}
use Rattle.meaning_laws.proofs.Parts.{none_some, some_injective}
use Rattle.meaning_laws.proofs.Sorted.{found}
use Rattle.place_laws.specs.Scope.Holes.{roots_at}
use Rattle.place_laws.specs.Scope.Roots.{RootsCome, RootsLaw}

-- ---- behind a statement

pub same_roots : (root : ℕ → ℕ) (s t : State) → HasRoots root s.scene
    → ((x : ℕ) → false ≡ false → IsSameName x s t) → HasRoots root t.scene
same_roots root s t h k x seen e = h x seen ((k x refl).views ∙ e)

pub roots_next : (world : World) (a : Statement) (root : ℕ → ℕ) (s : State) → HasRoots root s.scene
    → IfSome (step world a s) (λ t. HasRoots (roots_after a root) t.scene)
roots_next world (Assign x is e) root s h = if_weaken _ _ (step world (Assign x is e) s)
    (step_names world (Assign x is e) s) (λ t k. same_roots root s t h k)
roots_next world (Reduce x is e) root s h = if_weaken _ _ (step world (Reduce x is e) s)
    (step_names world (Reduce x is e) s) (λ t k. same_roots root s t h k)
roots_next world (Config f a) root s h = if_weaken _ _ (step world (Config f a) s)
    (step_names world (Config f a) s) (λ t k. same_roots root s t h k)
roots_next world Pass root s h = h
roots_next world (If c a b) root s h = if_weaken _ _ (step world (If c a b) s)
    (step_names world (If c a b) s) (λ t k. same_roots root s t h k)
roots_next world (For i lo hi b) root s h = if_weaken _ _ (step world (For i lo hi b) s)
    (step_names world (For i lo hi b) s) (λ t k. same_roots root s t h k)
roots_next world (Alloc x cell dims memory) root s h = if_where
    (λ t. HasRoots (updated root x.id x.id) t.scene) (all_positive (numbers s.scene dims))
    (Some (with_contents x.id (λ at. Undefined)
    (on_scene (with_buffer x.id (tensor cell (numbers s.scene dims))) s)))
    (more_roots root s.scene h x.id (record { buffer = x.id; sides = whole (numbers s.scene dims) })
    x.id refl)
roots_next world (View w x coords) root s h = if_then (λ seen. seen.buffer ≡ root x)
    (λ t. HasRoots (updated root w.id (root x)) t.scene) (window s.scene x coords) _
    (window_root root s.scene h x coords) (λ seen e. more_roots root s.scene h w.id seen (root x) e)
roots_next world (Call k args) root s h = if_weaken _ _ (step world (Call k args) s)
    (step_names world (Call k args) s) (λ t k. same_roots root s t h k)

-- ---- at a hole

module _ (world : World) (old : Block) where
  come_roots : (c : Context) (root : ℕ → ℕ) (s u : State) → ComesTo world old c s u
      → HasRoots root s.scene → HasRoots (roots_at c root) u.scene
  come_roots (Here rest) root s u z h = subst (λ (t : State). HasRoots root t.scene) (sym z) h
  come_roots (After a c) root s u z h = come_roots c (roots_after a root) z.0 u z.2
      (if_gives (λ (t : State). HasRoots (roots_after a root) t.scene) (step world a s) z.0
      (roots_next world a root s h) z.1)
  come_roots (InLoop i lo hi c rest) root s u z h = come_roots c root _ u z.3
      (same_roots root s z.1 h (λ x k. come_to_turn_names i.id (run world (fill c old))
      (turns_of s.scene lo hi) s z.0 z.1 z.2 x))
  come_roots (InThen test c other rest) root s u z h = come_roots c root s u z.1 h
  come_roots (InElse test other c rest) root s u z h = come_roots c root s u z.1 h

pub roots_come : RootsCome
roots_come = come_roots

-- ---- in a procedure

-- each name of an admissible input sees its own buffer
pub own_roots : (world : World) (p : Procedure) (s : State) → IsAdmissible world p s
    → (fields : ℕ → Option Kind) (memories : ℕ) → are_params fields memories [] p.params ≡ true
    → HasRoots (λ x. x) s.scene
own_roots world p s good fields memories ok x seen e = go (is_buffer_of x p.params) refl
  where
    by_kind : (kind : ParamKind) → IsArgument s.scene x kind → seen.buffer ≡ x
    by_kind (ControlParam kind) a = absurd (none_some (sym a.2 ∙ e))
    by_kind (TensorParam cell dims memory) a = ap (λ (z : Seen). z.buffer)
        (some_injective seen (record { buffer = x; sides = whole (numbers s.scene dims) })
        (sym e ∙ a.1))
    by_kind (WindowParam cell dims memory) a = ap (λ (z : Seen). z.buffer)
        (some_injective seen (record { buffer = x; sides = whole (numbers s.scene dims) })
        (sym e ∙ a.1.1))

    go : (t : Bool) → is_buffer_of x p.params ≡ t → seen.buffer ≡ x
    go false k = absurd (none_some (sym (good.no_others x k).2 ∙ e))
    go true k = let f = found s.scene p.params [] (params_differ fields memories p.params [] ok)
        good.arguments x k in by_kind f.0 f.1

pub names_have_roots : RootsLaw
names_have_roots fields memories ps p c old s u may good come =
    let world = unit_world (kinds_of fields) ps in
    come_roots world old c (λ x. x) s u come
    (own_roots world p s good (field_kind fields) memories may.procedure.params)
