-- What is so wherever a run of a block comes, statement by statement.
use Rattle.std.proofs.Common.{◌≡◌, ℤ, true, false, Some, refl, sym, ap, subst}
use Rattle.std.specs.Prelude.{⊤}
use Rattle.exo_tree.specs.Tree.{Statement, Assign, Reduce, Config, Pass, If, For, Alloc}
use Rattle.exo_tree.specs.Tree.{View, Call, Block, end, next}
use Rattle.exo_tree.specs.Context.{Context, Here, After, InLoop, InThen, InElse, fill}
use Rattle.exo_meaning.specs.Scene.{Scene, holds}
use Rattle.exo_meaning.specs.State.{State, on_scene, with_control}
use Rattle.exo_meaning.specs.Run.{World, run, step, turn, turns_of}
use Rattle.meaning_laws.specs.Context.{ComesTo, ComesToTurn}

module _ (world : World) (Q : Scene → Statement → Type 0) where
  -- in any context
  abbrev pub AtEach : Block → State → Type 0
  AtEach b s =
      (c : Context) (d : Statement) (u : State)
      → b ≡ fill c (next d end)
      → ComesTo world (next d end) c s u
      → Q u.scene d

  abbrev mutual
    pub Along : Block → State → Type 0
    Along end s = ⊤
    Along (next a b) s =
        Q s.scene a
        × Inside a s
        × ((u : State) → step world a s ≡ Some u → Along b u)

    pub Inside : Statement → State → Type 0
    Inside (Assign x is e) s = ⊤
    Inside (Reduce x is e) s = ⊤
    Inside (Config g a) s = ⊤
    Inside Pass s = ⊤
    Inside (If c a b) s =
        (holds s.scene c ≡ true → Along a s) × (holds s.scene c ≡ false → Along b s)
    Inside (For i lo hi b) s =
        (n : ℤ) (u : State)
        → ComesToTurn (turn i.id (run world b)) (turns_of s.scene lo hi) s n u
        → Along b (on_scene (with_control i.id n) u)
    Inside (Alloc x cell dims memory) s = ⊤
    Inside (View w x cs) s = ⊤
    Inside (Call k args) s = ⊤

  mutual
    pub along_of : (b : Block) (s : State) → AtEach b s → Along b s
    along_of end s of = tt
    along_of (next a b) s of = (
      of (Here b) a s refl refl,
      inside_of a b s of,
      λ u e. along_of b u (λ c d v same come. of (After a c) d v (ap (next a) same) (u, e, come)),
    )

    inside_of : (a : Statement) (b : Block) (s : State) → AtEach (next a b) s → Inside a s
    inside_of (Assign x is e) b s of = tt
    inside_of (Reduce x is e) b s of = tt
    inside_of (Config g a) b s of = tt
    inside_of Pass b s of = tt
    inside_of (If t x y) b s of = (
      λ h. along_of x s (λ c d v same come.
          of (InThen t c y b) d v (ap (λ z. next (If t z y) b) same) (h, come)),
      λ h. along_of y s (λ c d v same come.
          of (InElse t x c b) d v (ap (λ z. next (If t x z) b) same) (h, come)),
    )
    inside_of (For i lo hi x) b s of = λ n u go.
        along_of x (on_scene (with_control i.id n) u) (λ c d v same come.
        of (InLoop i lo hi c b) d v (ap (λ z. next (For i lo hi z) b) same) (
          n,
          u,
          subst (λ z. ComesToTurn (turn i.id (run world z)) (turns_of s.scene lo hi) s n u)
              same go,
          come,
        ))
    inside_of (Alloc x cell dims memory) b s of = tt
    inside_of (View w x cs) b s of = tt
    inside_of (Call k args) b s of = tt

  there_of : (c : Context) (d : Statement) (u s : State) → Along (fill c (next d end)) s
      → ComesTo world (next d end) c s u → Q u.scene d
  there_of (Here rest) d u s h come =
      subst (λ (z : State). Q z.scene d) (sym come) h.0
  there_of (After a c) d u s h come = there_of c d u come.0 (h.2 come.0 come.1) come.2
  there_of (InLoop i lo hi c rest) d u s h come =
      there_of c d u (on_scene (with_control i.id come.0) come.1)
      (h.1 come.0 come.1 come.2) come.3
  there_of (InThen t c other rest) d u s h come = there_of c d u s (h.1.0 come.0) come.1
  there_of (InElse t other c rest) d u s h come = there_of c d u s (h.1.1 come.0) come.1

  pub each_of : (b : Block) (s : State) → Along b s → AtEach b s
  each_of b s h c d u same come =
      there_of c d u s (subst (λ z. Along z s) same h) come
