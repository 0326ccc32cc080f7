-- A nest of loops comes to each list of indices in its box.
use Rattle.std.proofs.Common.{◌≡◌, ◌<◌, ◌≤◌, ◌+◌, ℕ, zero, suc, ℤ, pos, ◌+ℤ◌, ◌==◌, ◌||◌, Bool, true, false, cond, List, [], ◌∷◌, refl, sym, ap, ap₂, ◌∙◌, true≢false, eqb-true, eq-eqb, arith}
use Rattle.std.proofs.lemmas.Int.{ints}
use Rattle.std.specs.Cmp.Rules.{signed_items}
use Rattle.exo_tree.specs.Tree.{Control, Var}
use Rattle.exo_meaning.specs.Scene.{Scene, number, numbers}
use Rattle.exo_meaning.specs.State.{with_control, same_index}
use Rattle.exo_meaning.specs.Run.{range, count}
use Rattle.exo_meaning.proofs.Frame.{or_parts, updated_other}
use Rattle.inplace_laws.specs.Filled.{Loop, any_of, nest_hits}

any_at : (f : ℤ → Bool) (lo m j : ℕ) → lo ≤ j → j < lo + m → f (pos j) ≡ true → any_of (range (pos lo) m) f ≡ true
any_at f lo zero j a b h = absurd (omega arith)
any_at f lo (suc m) j a b h = go (j == lo) refl (any_at f (suc lo) m j)
  where
    next_is : pos lo +ℤ pos 1 ≡ pos (suc lo)
    next_is = omega (arith, ints)

    or_true : (x y : Bool) → y ≡ true → (x || y) ≡ true
    or_true true y k = refl
    or_true false y k = k

    above : (j == lo) ≡ false → suc lo ≤ j
    above e = let apart : (j ≡ lo → ⊥) = λ i. true≢false (sym (eq-eqb j lo i) ∙ e) in omega arith

    go : (t : Bool) → (j == lo) ≡ t → (suc lo ≤ j → j < suc lo + m → f (pos j) ≡ true → any_of (range (pos (suc lo)) m) f ≡ true) → (f (pos lo) || any_of (range (pos lo +ℤ pos 1) m) f) ≡ true
    go true e more = ap (λ y. y || any_of (range (pos lo +ℤ pos 1) m) f) (ap (λ z. f (pos z)) (sym (eqb-true j lo e)) ∙ h)
    go false e more = or_true (f (pos lo)) (any_of (range (pos lo +ℤ pos 1) m) f) (ap (λ z. any_of (range z m) f) next_is ∙ more (above e) (omega arith) h)

-- the indices are in the box of the loops' extents
abbrev pub InBox : List Loop → List ℤ → Scene → Type 0
InBox [] [] scene = Unit {0}
InBox [] (i ∷ at) scene = ⊥
InBox (l ∷ ls) [] scene = ⊥
InBox (l ∷ ls) (i ∷ at) scene = (j : ℕ) × (i ≡ pos j) × (j < count (number scene l.extent)) × InBox ls at (with_control l.binder.id i scene)

abbrev pub set_all : List Loop → List ℤ → Scene → Scene
set_all [] at scene = scene
set_all (l ∷ ls) [] scene = scene
set_all (l ∷ ls) (i ∷ at) scene = set_all ls at (with_control l.binder.id i scene)

pub comes_to_box : (ls : List Loop) (hits : Scene → List ℤ → Bool) (scene : Scene) (at to : List ℤ) → InBox ls at scene → hits (set_all ls at scene) to ≡ true → nest_hits ls hits scene to ≡ true
comes_to_box [] hits scene [] to b h = h
comes_to_box [] hits scene (i ∷ at) to b h = absurd b
comes_to_box (l ∷ ls) hits scene [] to b h = absurd b
comes_to_box (l ∷ ls) hits scene (i ∷ at) to (j, e, k, b) h =
    any_at (λ n. nest_hits ls hits (with_control l.binder.id n scene) to) 0 (count (number scene l.extent)) j (omega arith) (more k)
    (ap (λ n. nest_hits ls hits (with_control l.binder.id n scene) to) (sym e) ∙ comes_to_box ls hits (with_control l.binder.id i scene) at to b h)
  where
    more : j < count (number scene l.extent) → j < 0 + count (number scene l.extent)
    more k = omega arith

-- ---- the loops' variables there

abbrev pub vars : List Loop → List Control
vars [] = []
vars (l ∷ ls) = Var l.binder.id ∷ vars ls

abbrev pub is_loop : ℕ → List Loop → Bool
is_loop x [] = false
is_loop x (l ∷ ls) = (x == l.binder.id) || is_loop x ls

abbrev pub AreNew : List Loop → Type 0
AreNew [] = Unit {0}
AreNew (l ∷ ls) = (is_loop l.binder.id ls ≡ false) × AreNew ls

set_else : (ls : List Loop) (at : List ℤ) (scene : Scene) (x : ℕ) → is_loop x ls ≡ false → (set_all ls at scene).control x ≡ scene.control x
set_else [] at scene x k = refl
set_else (l ∷ ls) [] scene x k = refl
set_else (l ∷ ls) (i ∷ at) scene x k = let p = or_parts (x == l.binder.id) (is_loop x ls) k in set_else ls at (with_control l.binder.id i scene) x p.1 ∙ updated_other scene.control l.binder.id i x p.0

pub vars_are : (ls : List Loop) (at : List ℤ) (scene : Scene) → AreNew ls → InBox ls at scene → numbers (set_all ls at scene) (vars ls) ≡ at
vars_are [] [] scene n b = refl
vars_are [] (i ∷ at) scene n b = absurd b
vars_are (l ∷ ls) [] scene n b = absurd b
vars_are (l ∷ ls) (i ∷ at) scene n (j, e, k, b) = ap₂ ◌∷◌ (set_else ls at (with_control l.binder.id i scene) l.binder.id n.0 ∙ ap (λ t. cond t i (scene.control l.binder.id)) (eq-eqb l.binder.id l.binder.id refl)) (vars_are ls at (with_control l.binder.id i scene) n.1 b)

-- each index list in the box is hit by the statement whose indices are the variables
pub box_is_hit : (ls : List Loop) (scene : Scene) (at : List ℤ) → AreNew ls → InBox ls at scene → nest_hits ls (λ z to. same_index to (numbers z (vars ls))) scene at ≡ true
box_is_hit ls scene at n b = comes_to_box ls (λ z to. same_index to (numbers z (vars ls))) scene at at b ((signed_items at (numbers (set_all ls at scene) (vars ls))).1 (sym (vars_are ls at scene n b)))
