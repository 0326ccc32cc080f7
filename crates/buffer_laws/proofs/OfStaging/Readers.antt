-- A staged block that only reads, in the place of the block.
use Rattle.std.proofs.Common.{◌≡◌, ℕ, Bool, false, List, Some, refl, sym, ◌∙◌, subst}
use Rattle.exo_tree.specs.Tree.{Cell, Binder, Control, Coord, Alloc, Block, next, joined}
use Rattle.exo_tree.specs.Context.{fill}
use Rattle.exo_meaning.specs.Scene.{updated, then_do}
use Rattle.exo_meaning.specs.State.{State}
use Rattle.exo_meaning.specs.Run.{World, run, writes, unit_world}
use Rattle.exo_meaning.proofs.Compose.{compose}
use Rattle.exo_meaning.proofs.Windows.{one_value}
use Rattle.meaning_laws.proofs.Names.{if_gives}
use Rattle.meaning_laws.proofs.Replace.{context_law}
use Rattle.inplace_laws.specs.Filled.{Loop}
use Rattle.buffer_laws.specs.Staging.Stores.{load_nest}
use Rattle.buffer_laws.specs.Staging.Stage.{AreAlike}
use Rattle.buffer_laws.specs.Staging.Converted.{converted}
use Rattle.buffer_laws.specs.Staging.Whole.{Follows}
use Rattle.buffer_laws.specs.Staging.Known.{up_to_store}
use Rattle.buffer_laws.specs.Staging.Readers.{IsLoaded, ReaderReplaces, ReaderRefines}
use Rattle.buffer_laws.proofs.OfStaging.Known.{known_reader_law}
use Rattle.buffer_laws.proofs.OfStaging.Replaced.{alike_replaces}
use Rattle.buffer_laws.proofs.OfStaging.Whole.{staged_reader_law}

module _ (blind : ℕ → Bool) (world : World) (root : ℕ → ℕ) (a : Binder) (cell : Cell)
    (dims : List Control) (memory x : ℕ) (coords : List Coord) (ls : List Loop) (b : Block)
    (s : State) (silent : writes world (updated root a.id a.id) (converted a.id x coords b) a.id
    ≡ false) (h : IsLoaded blind world root a cell dims x coords ls b s) where
  abbrev inner : Block
  inner = converted a.id x coords b

  abbrev loads : Block
  loads = next (Alloc a h.to.cell dims memory) (load_nest a.id x coords ls)

  ends_alike : (t u : State) → run world b s ≡ Some t
      → run world (joined loads inner) s ≡ Some u → AreAlike s u t
  ends_alike t u e f =
      let follows = if_gives (Follows (λ v w. AreAlike s w v) world b s)
      (then_do (run world loads s) (run world inner)) u
      (staged_reader_law blind world root a dims memory x h.seen h.to coords ls b s h.may h.alone
      h.sizes h.before h.fit silent)
      (sym (compose world loads inner s) ∙ f) in
      subst (AreAlike s u) (one_value follows.0 t (sym follows.1 ∙ e)) follows.2

pub reader_replaces : ReaderReplaces
reader_replaces hidden blind world root a cell dims memory x coords ls b s silent hides known =
    alike_replaces world hidden b (up_to_store a cell dims memory x coords ls b) s hides
    (λ t u e f.
    let k = known u f in
    ends_alike blind world root a cell dims memory x coords ls b s silent k t u e
    (subst (λ z. run world (up_to_store a z dims memory x coords ls b) s ≡ Some u)
    (sym k.cell_is) f))

pub reader_refines : ReaderRefines
reader_refines kinds ps p c hidden blind root a cell dims memory x coords ls b was unused silent
    made known =
    let world = unit_world kinds ps in
    let new = up_to_store a cell dims memory x coords ls b in
    context_law kinds ps hidden c b new p (record p { body = fill c new }) was refl unused
    (λ s u good come.
    let k = known s u good come in
    reader_replaces hidden blind world root a cell dims memory x coords ls b u silent k.0
    (λ v e. known_reader_law blind world root a cell dims memory x coords ls b u v made k.1 e))
