-- What holds by the way of a block holds wherever a run comes to in it.
use Rattle.std.proofs.Common.{◌≡◌, ℤ, true, false, Some, sym, subst}
use Rattle.std.specs.Prelude.{⊤}
use Rattle.exo_tree.specs.Tree.{Statement, Assign, Reduce, Config, Pass, If, For, Alloc, View, Call}
use Rattle.exo_tree.specs.Tree.{Block, end, next}
use Rattle.exo_tree.specs.Context.{Context, Here, After, InLoop, InThen, InElse, fill}
use Rattle.exo_meaning.specs.Scene.{Scene, holds}
use Rattle.exo_meaning.specs.State.{State, on_scene, with_control}
use Rattle.exo_meaning.specs.Run.{World, run, step, turn, turns_of}
use Rattle.meaning_laws.specs.Context.{ComesTo, ComesToTurn}

module _ (world : World) (P : Statement → Scene → Type 0) where
  abbrev mutual
    pub EachAlong : Block → State → Type 0
    EachAlong end s = ⊤
    EachAlong (next d b) s =
        P d s.scene × EachInside d s × ((u : State) → step world d s ≡ Some u → EachAlong b u)

    pub EachInside : Statement → State → Type 0
    EachInside (Assign y is d) s = ⊤
    EachInside (Reduce y is d) s = ⊤
    EachInside (Config f g) s = ⊤
    EachInside Pass s = ⊤
    EachInside (If c b d) s =
        (holds s.scene c ≡ true → EachAlong b s) × (holds s.scene c ≡ false → EachAlong d s)
    EachInside (For i lo hi b) s =
        (n : ℤ) (u : State)
        → ComesToTurn (turn i.id (run world b)) (turns_of s.scene lo hi) s n u
        → EachAlong b (on_scene (with_control i.id n) u)
    EachInside (Alloc y cell ds memory) s = ⊤
    EachInside (View w y ds) s = ⊤
    EachInside (Call k gs) s = ⊤

  walked : (c : Context) (d : Statement) (s u : State) → EachAlong (fill c (next d end)) s
      → ComesTo world (next d end) c s u → P d u.scene
  walked (Here rest) d s u h come = subst (λ (v : State). P d v.scene) (sym come) h.0
  walked (After e c) d s u h come = walked c d come.0 u (h.2 come.0 come.1) come.2
  walked (InLoop i lo hi c rest) d s u h come =
      walked c d (on_scene (with_control i.id come.0) come.1) u (h.1 come.0 come.1 come.2) come.3
  walked (InThen e c other rest) d s u h come = walked c d s u (h.1.0 come.0) come.1
  walked (InElse e other c rest) d s u h come = walked c d s u (h.1.1 come.0) come.1

  pub each_within : (b : Block) (s : State) → EachAlong b s → (c : Context) (d : Statement)
      (u : State) → b ≡ fill c (next d end) → ComesTo world (next d end) c s u → P d u.scene
  each_within b s h c d u is come = walked c d s u (subst (λ z. EachAlong z s) is h) come
