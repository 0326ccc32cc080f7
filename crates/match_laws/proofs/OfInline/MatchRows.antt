-- The load of the product and a copied row do what the callees' bodies do.
use Rattle.std.proofs.Common.{◌≡◌, false, refl, sym, subst, true≢false}
use Rattle.exo_tree.specs.Tree.{Statement, Assign, Reduce, Config, Pass, If, For, Alloc}
use Rattle.exo_tree.specs.Tree.{View, Call, Block, end, next}
use Rattle.exo_tree.specs.Context.{Context, Here, After, InLoop, InThen, InElse, fill}
use Rattle.exo_meaning.specs.Scene.{Scene}
use Rattle.exo_meaning.specs.State.{State}
use Rattle.exo_meaning.specs.Run.{World, run}
use Rattle.affine_forms.specs.Laws.{ReadsAt}
use Rattle.match_laws.specs.Simplify.Simplified.{values_in}
use Rattle.inplace_laws.specs.Along.{SameAlong}
use Rattle.match_laws.specs.Simplify.SameControls.{OfStatement}
use Rattle.match_laws.specs.Simplify.SimplifiedBlocks.{standing, IsRead}
use Rattle.match_laws.specs.Alike.{nameless}
use Rattle.match_laws.proofs.Instances.{own, loaded, product, reads, rows, world}
use Rattle.match_laws.specs.Names.{Names}
use Rattle.match_laws.specs.Inline.Known.{Sees, CallHas, ReadAlong}
use Rattle.match_laws.proofs.OfInline.MatchLaw.{match_law, match_runs}
use Rattle.match_laws.proofs.OfInline.ReplaceRows.{load, copy_here, inlined_load, load_is_matched}
use Rattle.match_laws.proofs.OfInline.ReplaceRows.{load_may_match, row_loop, row_here, row_arguments}
use Rattle.match_laws.proofs.OfInline.ReplaceRows.{inlined_row, row_is_matched, row_may_match}

-- ---- what is so in every scene is so wherever a run comes

module _ (P : Statement → Type 0) where
  abbrev mutual
    pub OfAll : Block → Type 0
    OfAll end = Unit {0}
    OfAll (next a b) = P a × OfInner a × OfAll b

    pub OfInner : Statement → Type 0
    OfInner (Assign x is e) = Unit {0}
    OfInner (Reduce x is e) = Unit {0}
    OfInner (Config f a) = Unit {0}
    OfInner Pass = Unit {0}
    OfInner (If c a b) = OfAll a × OfAll b
    OfInner (For i lo hi b) = OfAll b
    OfInner (Alloc x cell dims memory) = Unit {0}
    OfInner (View w x cs) = Unit {0}
    OfInner (Call k args) = Unit {0}

  in_hole : (c : Context) (d : Statement) → OfAll (fill c (next d end)) → P d
  in_hole (Here rest) d h = h.0
  in_hole (After a c) d h = in_hole c d h.2
  in_hole (InLoop i lo hi c rest) d h = in_hole c d h.1
  in_hole (InThen t c other rest) d h = in_hole c d h.1.0
  in_hole (InElse t other c rest) d h = in_hole c d h.1.1

abbrev pub Everywhere : Names → Block → Type 0
Everywhere names =
    OfAll (λ a. (scene : Scene) → OfStatement (IsRead own scene) a × CallHas names scene a)

pub known : (scene : Scene) → ReadsAt (standing scene) (values_in scene) own scene
known scene = reads (standing scene) scene

pub each_place : (w : World) (names : Names) (b : Block) (s : State) → Everywhere names b
    → ReadAlong w own names b s
each_place w names b s h c d u same come =
    let it = in_hole (λ a. (scene : Scene) → OfStatement (IsRead own scene) a × CallHas names scene a)
    c d (subst (Everywhere names) same h) u.scene in
    ((known u.scene, it.0), it.1)

-- no names need to be known
pub none_seen : (scene : Scene) → Sees (λ x. false) scene
none_seen scene x h = absurd (true≢false (sym h))

-- ---- the load

load_read : (s : State) → ReadAlong world own product (nameless load) s
load_read s = each_place world product (nameless load) s (
  λ scene. (((known scene, refl), (known scene, refl)), tt),
  (
    λ scene. ((((known scene, refl), tt), ((known scene, refl), ((known scene, refl), tt))), tt),
    tt,
    tt,
  ),
  tt,
)

load_is_the_copy : (s : State)
    → SameAlong world (nameless load) (nameless (inlined_load copy_here)) s
load_is_the_copy s =
    match_law world own product load copy_here loaded (λ x. false) s load_is_matched load_may_match
    (none_seen s.scene) (load_read s)

-- ---- the row, copied by a callee with a control parameter and two windows

row_read : (s : State) → ReadAlong world own rows (nameless row_loop) s
row_read s = each_place world rows (nameless row_loop) s (
  λ scene. (((known scene, refl), (known scene, refl)), tt),
  (
    λ scene. ((((known scene, refl), ((known scene, refl), tt)), ((known scene, refl), tt)), tt),
    tt,
    tt,
  ),
  tt,
)

row_runs_as_the_copy : (s : State) → run world row_loop s ≡ run world (inlined_row row_here) s
row_runs_as_the_copy s =
    match_runs world own rows row_loop row_here row_arguments (λ x. false) s row_is_matched
    row_may_match (none_seen s.scene) (row_read s)
