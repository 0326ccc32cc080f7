-- Blocks opened at a place, and put in scopes there.
use Rattle.std.proofs.Common.{◌≡◌, ℕ, Bool, true, false, cond, Option, Some, refl, sym, ◌∙◌, subst}
use Rattle.exo_tree.specs.Tree.{If, Block, end, next}
use Rattle.exo_meaning.specs.Scene.{holds}
use Rattle.exo_meaning.specs.State.{State, scoped}
use Rattle.exo_meaning.specs.Run.{World, run, unit_world}
use Rattle.exo_meaning.specs.Refines.{Both, StateRefined}
use Rattle.exo_meaning.specs.Renaming.{re_block}
use Rattle.exo_meaning.specs.Unseen.{SameBut}
use Rattle.meaning_laws.specs.Context.{RefinedBut, MayReplace}
use Rattle.meaning_laws.proofs.Copies.{copied_block_law, place_sound, place_unbound}
use Rattle.meaning_laws.proofs.Parts.{some_injective, both_back}
use Rattle.meaning_laws.proofs.Refined.{state_same, through, further}
use Rattle.meaning_laws.proofs.Replace.{context_law}
use Rattle.place_laws.specs.Scope.Opened.{RefinesFrom, BlockMayOpen, BlockMayClose, BlocksMayOpen}
use Rattle.place_laws.specs.Scope.Opened.{BlocksMayClose, BranchMayStand, SplitMayStand, LeavingRefines}
use Rattle.place_laws.specs.Scope.Scopes.{top_binders, HasNone, LeftBut, joined_all, scopes}
use Rattle.place_laws.proofs.OfScope.Scopes.{open_scope_law, open_scopes_law, branch_is_scope_law}

-- ---- in a state

-- runs that are the same refine each other
pub same_refines : (f g : State → Option State) (u : State) → f u ≡ g u → RefinesFrom f g u
same_refines f g u e a b i j = subst (λ z. StateRefined a z) (some_injective a b (sym i ∙ e ∙ j))
    (state_same a)

turned : (hidden : ℕ → Bool) (s t : State) → SameBut hidden s t → SameBut hidden t s
turned hidden s t h = record {
  control = λ x k. sym (h.control x k);
  buffers = λ x k. sym (h.buffers x k);
  views = λ x k. sym (h.views x k);
  fields = sym h.fields;
  cells = λ x k. sym (h.cells x k);
  seen = λ x z k e. h.seen x z k (h.views x k ∙ e);
}

closed : (hidden : ℕ → Bool) (a m b : State) → SameBut hidden m a → StateRefined m b
    → RefinedBut hidden a b
closed hidden a m b same refined =
    further hidden a m b (through hidden a a m (state_same a) (turned hidden m a same)) refined

module _ (world : World) (hidden : ℕ → Bool) (u : State) (none : HasNone hidden u)
    (o : Option State) where
  opened : (old new : Block) → Both (LeftBut hidden) o (run world new u)
      → ((a m : State) → run world old u ≡ Some a → o ≡ Some m → StateRefined a m)
      → MayReplace world hidden old new u
  opened old new both refines = record {
    fresh = λ x k. (none.unbound x k).buffers;
    runs = λ a b i j.
        let m = both_back (LeftBut hidden) o (run world new u) b j both in
        through hidden a m.0 b (refines a m.0 i m.1) m.2.alike;
  }

  shut : (old new : Block) → Both (LeftBut hidden) o (run world old u)
      → ((m b : State) → o ≡ Some m → run world new u ≡ Some b → StateRefined m b)
      → MayReplace world hidden old new u
  shut old new both refines = record {
    fresh = λ x k. (none.unbound x k).buffers;
    runs = λ a b i j.
        let m = both_back (LeftBut hidden) o (run world old u) a i both in
        closed hidden a m.0 b m.2.alike (refines m.0 b m.1 j);
  }

pub block_may_open : BlockMayOpen
block_may_open world old b u none refines =
    opened world (top_binders b) u none (scoped (run world b) u) old b (open_scope_law world b u
    none) refines

pub block_may_close : BlockMayClose
block_may_close world b new u none refines =
    shut world (top_binders b) u none (scoped (run world b) u) b new (open_scope_law world b u none)
    refines

pub blocks_may_open : BlocksMayOpen
blocks_may_open world old bs u apart none refines =
    opened world (top_binders (joined_all bs)) u none (scopes world bs u) old (joined_all bs)
    (open_scopes_law world bs u apart none) refines

pub blocks_may_close : BlocksMayClose
blocks_may_close world bs new u apart none refines =
    shut world (top_binders (joined_all bs)) u none (scopes world bs u) (joined_all bs) new
    (open_scopes_law world bs u apart none) refines

pub branch_may_stand : BranchMayStand
branch_may_stand world test a b u none =
    let taken = cond (holds u.scene test) a b in
    let old = next (If test a b) end in
    block_may_open world old taken u none (same_refines (run world old) (scoped (run world taken)) u
    (branch_is_scope_law world test a b u))

pub split_may_stand : SplitMayStand
split_may_stand world test r b u none moves =
    let new = next (If test b (re_block r b)) end in
    block_may_close world b new u none (same_refines (scoped (run world b)) (run world new) u
    (either (holds u.scene test) ∙ sym (branch_is_scope_law world test b (re_block r b) u)))
  where
    either : (t : Bool) → scoped (run world b) u ≡ scoped (run world (cond t b (re_block r b))) u
    either true = refl
    either false = sym (copied_block_law r world b u none.sound moves).1

-- ---- at a place

pub leaving_refines : LeavingRefines
leaving_refines kinds ps c old new p q hidden was is may stands =
    let world = unit_world kinds ps in
    context_law kinds ps hidden c old new p q was is may.unused (λ s u good come. stands s u good
    come (record {
      sound = place_sound world p old c s u good come;
      unbound = λ x k. place_unbound world p old c s u good come x (may.free x k);
    }))
