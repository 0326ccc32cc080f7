-- A block does not write a buffer that no name it mentions stands for.
use Rattle.std.proofs.Common.{◌≡◌, ℕ, ◌==◌, Bool, true, false, true≢false, cond, ◌&&◌, ◌||◌, List}
use Rattle.std.proofs.Common.{[], ◌∷◌, Option, Some, None, refl, sym, ap, ap₂, ◌∙◌, eqb-true}
use Rattle.exo_tree.specs.Tree.{Argument, ControlArg, ConditionArg, Whole, Window, Statement}
use Rattle.exo_tree.specs.Tree.{Assign, Reduce, Config, Pass, If, For, Alloc, View, Call, Block}
use Rattle.exo_tree.specs.Tree.{end, next, Param}
use Rattle.exo_meaning.specs.Scene.{updated}
use Rattle.exo_meaning.specs.Calls.{Callee}
use Rattle.exo_meaning.specs.Run.{World, roots_after, is_root, call_writes, call_to_writes, writes}
use Rattle.exo_meaning.specs.Run.{step_writes}
use Rattle.exo_meaning.specs.Unseen.{in_control, in_controls, in_condition, in_datum, in_coords}
use Rattle.exo_meaning.specs.Unseen.{in_argument, in_arguments, in_statement, in_block}
use Rattle.exo_meaning.proofs.Frame.{or_parts}

module _ (hidden : ℕ → Bool) (x : ℕ) where
  pub differs : hidden x ≡ true → (y : ℕ) → hidden y ≡ false → (x == y) ≡ false
  differs h y k = go (x == y) (eqb-true x y)
    where
      go : (t : Bool) → (t ≡ true → x ≡ y) → t ≡ false
      go true same = absurd (true≢false (sym h ∙ ap hidden (same refl) ∙ k))
      go false same = refl

  -- only hidden names stand for x
  abbrev pub Roots : (ℕ → ℕ) → Type 0
  Roots root = (y : ℕ) → hidden y ≡ false → (x == root y) ≡ false

  more_roots : (root : ℕ → ℕ) (z r : ℕ) → (x == r) ≡ false → Roots root → Roots (updated root z r)
  more_roots root z r k h y e = go (y == z)
    where
      go : (t : Bool) → (x == cond t r (root y)) ≡ false
      go true = k
      go false = h y e

  and_false : (t u : Bool) → u ≡ false → (t && u) ≡ false
  and_false true u k = k
  and_false false u k = refl

  module _ (root : ℕ → ℕ) (h : Roots root) where
    no_root : (a : Argument) → in_argument hidden a ≡ false → is_root root x a ≡ false
    no_root (ControlArg a) k = refl
    no_root (ConditionArg c) k = refl
    no_root (Whole z) k = h z k
    no_root (Window z coords) k = h z (or_parts (hidden z) (in_coords hidden coords) k).0

    call_unwritten : (w : ℕ → Bool) (ps : List Param) (args : List Argument)
        → in_arguments hidden args ≡ false → call_writes w root x ps args ≡ false
    call_unwritten w [] args k = refl
    call_unwritten w (p ∷ ps) [] k = refl
    call_unwritten w (p ∷ ps) (a ∷ args) k =
        let q = or_parts (in_argument hidden a) (in_arguments hidden args) k in
        ap₂ (λ t u. t || u) (and_false (w p.binder.id) (is_root root x a) (no_root a q.0))
        (call_unwritten w ps args q.1)

    callee_unwritten : (o : Option Callee) (args : List Argument) → in_arguments hidden args ≡ false
        → call_to_writes o root x args ≡ false
    callee_unwritten None args k = refl
    callee_unwritten (Some c) args k = call_unwritten c.writes c.procedure.params args k

  module _ (at_x : hidden x ≡ true) where
    roots_step : (a : Statement) (root : ℕ → ℕ) → Roots root → in_statement hidden a ≡ false
        → Roots (roots_after a root)
    roots_step (Assign z is e) root h k = h
    roots_step (Reduce z is e) root h k = h
    roots_step (Config f a) root h k = h
    roots_step Pass root h k = h
    roots_step (If c a b) root h k = h
    roots_step (For i lo hi b) root h k = h
    roots_step (Alloc z cell dims memory) root h k =
        more_roots root z.id z.id (differs at_x z.id (or_parts (hidden z.id)
        (in_controls hidden dims) k).0) h
    roots_step (View w z coords) root h k =
        let p = or_parts (hidden w.id) (hidden z || in_coords hidden coords) k in
        more_roots root w.id (root z) (h z (or_parts (hidden z) (in_coords hidden coords) p.1).0) h
    roots_step (Call n args) root h k = h

    module _ (world : World) where
      mutual
        pub unwritten : (b : Block) (root : ℕ → ℕ) → Roots root → in_block hidden b ≡ false
            → writes world root b x ≡ false
        unwritten end root h k = refl
        unwritten (next a b) root h k =
            let p = or_parts (in_statement hidden a) (in_block hidden b) k in
            ap₂ (λ t u. t || u) (step_unwritten a root h p.0) (unwritten b (roots_after a root)
            (roots_step a root h p.0) p.1)

        step_unwritten : (a : Statement) (root : ℕ → ℕ) → Roots root → in_statement hidden a ≡ false
            → step_writes world root a x ≡ false
        step_unwritten (Assign z is e) root h k =
            h z (or_parts (hidden z) (in_controls hidden is || in_datum hidden e) k).0
        step_unwritten (Reduce z is e) root h k =
            h z (or_parts (hidden z) (in_controls hidden is || in_datum hidden e) k).0
        step_unwritten (Config f a) root h k = refl
        step_unwritten Pass root h k = refl
        step_unwritten (If c a b) root h k =
            let p = or_parts (in_condition hidden c) (in_block hidden a || in_block hidden b) k in
            let q = or_parts (in_block hidden a) (in_block hidden b) p.1 in
            ap₂ (λ t u. t || u) (unwritten a root h q.0) (unwritten b root h q.1)
        step_unwritten (For i lo hi b) root h k =
            let p = or_parts (hidden i.id) (in_control hidden lo || (in_control hidden hi
            || in_block hidden b)) k in
            let q = or_parts (in_control hidden lo) (in_control hidden hi || in_block hidden b)
            p.1 in
            unwritten b root h (or_parts (in_control hidden hi) (in_block hidden b) q.1).1
        step_unwritten (Alloc z cell dims memory) root h k =
            differs at_x z.id (or_parts (hidden z.id) (in_controls hidden dims) k).0
        step_unwritten (View w z coords) root h k = refl
        step_unwritten (Call n args) root h k = callee_unwritten root h (world.callees n) args k
