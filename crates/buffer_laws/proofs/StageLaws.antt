-- A block staged on a window, at a place of a procedure.
use Rattle.std.proofs.Common.{◌≡◌, ℕ, Bool, true, ◌==◌, List, [], ◌∷◌, option_map, refl}
use Rattle.std.proofs.Common.{sym, ap, ◌∙◌, subst}
use Rattle.exo_tree.specs.Tree.{Cell, Binder, Control, Coord, Statement, Assign, Read, Alloc, Block}
use Rattle.exo_tree.specs.Tree.{end, next, joined}
use Rattle.exo_tree.specs.Context.{fill}
use Rattle.exo_meaning.specs.Scene.{then_do, cell_at}
use Rattle.exo_meaning.specs.State.{State, place, held, value, put, on_scene, with_control}
use Rattle.exo_meaning.specs.Run.{World, run, step, unit_world}
use Rattle.exo_meaning.proofs.Compose.{compose, then_cong}
use Rattle.meaning_laws.specs.Context.{ComesTo, MayReplace}
use Rattle.meaning_laws.proofs.Replace.{context_law}
use Rattle.inplace_laws.specs.Along.{SameAlong, both_end, both_next, at_once, in_turns}
use Rattle.inplace_laws.specs.Filled.{Loop, nest}
use Rattle.inplace_laws.specs.Windows.{shifted}
use Rattle.inplace_laws.proofs.Along.{along_law}
use Rattle.place_laws.proofs.OfScope.Within.{holes_compose}
use Rattle.buffer_laws.specs.Staging.Stores.{load_nest, store_nest, variables}
use Rattle.buffer_laws.specs.Staging.Converted.{converted}
use Rattle.buffer_laws.proofs.OfStaging.Known.{known_law, known_reader_law}
use Rattle.buffer_laws.proofs.OfStaging.Readers.{reader_replaces}
use Rattle.buffer_laws.proofs.OfStaging.Replaced.{staged_replaces}
use Rattle.buffer_laws.specs.Simplified.{IsSimplifier, all_simpler}
use Rattle.buffer_laws.specs.StageMem.{sizes, loads, stores, loading, storing, on_buffer}
use Rattle.buffer_laws.specs.StageMem.{Staging}
use Rattle.buffer_laws.specs.StageLaws.{staging_of, as_made, with_simpler, DraftLaw, StageMemLaw}
use Rattle.buffer_laws.specs.StageLaws.{FitsAtPlaces, ReaderDraftLaw, StageReaderLaw}
use Rattle.buffer_laws.specs.StageLaws.{reader_as_made, reader_with_simpler}
use Rattle.buffer_laws.proofs.Simplified.{numbers_same, simplified_law}

module _ (world : World) where
  -- nests of statements that do the same
  nest_along : (ls : List Loop) (c d : Statement) → ((u : State) → step world c u ≡ step world d u)
      → (s : State) → SameAlong world (nest ls c) (nest ls d) s
  nest_along [] c d h s = both_next (at_once (h s)) (λ t e. both_end)
  nest_along (l ∷ ls) c d h s = both_next (in_turns refl refl (λ n u come.
      nest_along ls c d h (on_scene (with_control l.binder.id n) u))) (λ t e. both_end)

  pub nest_same : (ls : List Loop) (c d : Statement) → ((u : State) → step world c u ≡ step world d u)
      → (s : State) → run world (nest ls c) s ≡ run world (nest ls d) s
  nest_same ls c d h s = along_law world (nest ls c) (nest ls d) s (nest_along ls c d h s)

  -- two blocks in a row
  pub joined_same : (a b c d : Block) → ((u : State) → run world a u ≡ run world c u)
      → ((u : State) → run world b u ≡ run world d u) → (s : State)
      → run world (joined a b) s ≡ run world (joined c d) s
  joined_same a b c d h k s = compose world a b s
      ∙ then_cong (run world a s) (run world b) (run world d) k
      ∙ ap (λ o. then_do o (run world d)) (h s) ∙ sym (compose world c d s)

joined_end : (b : Block) → joined b end ≡ b
joined_end end = refl
joined_end (next a b) = ap (next a) (joined_end b)

module _ (world : World) (simple : Control → Control) (is : IsSimplifier simple) where
  pub place_same : (u : State) (x : ℕ) (es : List Control)
      → place u.scene x es ≡ place u.scene x (all_simpler simple es)
  place_same u x es = ap (λ js. then_do (u.scene.views x) (λ seen. option_map (λ at. record {
    buffer = seen.buffer;
    at = at;
  }) (cell_at seen.sides js))) (numbers_same simple (λ y. true) is u.scene es)

  load_same : (a x : ℕ) (vs es : List Control) (u : State)
      → step world (Assign a vs (Read x es)) u
      ≡ step world (Assign a vs (Read x (all_simpler simple es))) u
  load_same a x vs es u = ap (λ o. then_do (place u.scene a vs) (λ p.
      then_do (option_map (held u.cells) o) (λ v. put u (λ old. v) p))) (place_same u x es)

  store_same : (a x : ℕ) (vs es : List Control) (u : State)
      → step world (Assign x es (Read a vs)) u
      ≡ step world (Assign x (all_simpler simple es) (Read a vs)) u
  store_same a x vs es u = ap (λ o. then_do o (λ p.
      then_do (value u (Read a vs)) (λ v. put u (λ old. v) p))) (place_same u x es)

  module _ (cell : Cell) (memory base x : ℕ) (coords : List Coord) (name : List ℕ) (b : Block)
    where
      abbrev w : Staging
      w = staging_of x coords name

      abbrev ls : List Loop
      ls = loads simple w cell memory base

      abbrev ks : List Loop
      ks = stores simple w cell memory base

      abbrev made_first : Statement
      made_first = Alloc (record { id = base; name = name }) cell (sizes simple w cell memory base)
          memory

      first_same : (u : State) → run world (next made_first (load_nest base x coords ls)) u
          ≡ run world (next made_first (nest ls (loading simple w cell memory base))) u
      first_same u = then_cong (step world made_first u) (run world (load_nest base x coords ls))
          (run world (nest ls (loading simple w cell memory base)))
          (nest_same world ls (Assign base (variables ls) (Read x (shifted coords (variables ls))))
          (loading simple w cell memory base)
          (load_same base x (variables ls) (shifted coords (variables ls))))

      last_same : (u : State) → run world (store_nest base x coords ks) u
          ≡ run world (nest ks (storing simple w cell memory base)) u
      last_same = nest_same world ks
          (Assign x (shifted coords (variables ks)) (Read base (variables ks)))
          (storing simple w cell memory base)
          (store_same base x (variables ks) (shifted coords (variables ks)))

      draft_same : (s : State) → run world (as_made simple cell memory base x coords name b) s
          ≡ run world (with_simpler simple cell memory base x coords name b) s
      draft_same = joined_same world (next made_first (load_nest base x coords ls))
          (joined (converted base x coords b) (store_nest base x coords ks))
          (next made_first (nest ls (loading simple w cell memory base)))
          (joined (on_buffer simple w cell memory base b)
          (nest ks (storing simple w cell memory base))) first_same
          (joined_same world (converted base x coords b) (store_nest base x coords ks)
          (on_buffer simple w cell memory base b) (nest ks (storing simple w cell memory base))
          (λ u. simplified_law world simple (λ y. y == base) (converted base x coords b) u is)
          last_same)

      reader_same : (s : State)
          → run world (reader_as_made simple cell memory base x coords name b) s
          ≡ run world (reader_with_simpler simple cell memory base x coords name b) s
      reader_same = joined_same world (next made_first (load_nest base x coords ls))
          (converted base x coords b)
          (next made_first (nest ls (loading simple w cell memory base)))
          (joined (on_buffer simple w cell memory base b) end) first_same
          (λ u. simplified_law world simple (λ y. y == base) (converted base x coords b) u is
          ∙ ap (λ z. run world z u) (sym (joined_end (on_buffer simple w cell memory base b))))

pub draft_law : DraftLaw
draft_law world simple cell memory base x coords name b s is =
    draft_same world simple is cell memory base x coords name b s

pub reader_draft_law : ReaderDraftLaw
reader_draft_law world simple cell memory base x coords name b s is =
    reader_same world simple is cell memory base x coords name b s

-- what runs alike may stand as well
pub same_may : (world : World) (hidden : ℕ → Bool) (old new other : Block) (s : State)
    → run world new s ≡ run world other s → MayReplace world hidden old new s
    → MayReplace world hidden old other s
same_may world hidden old new other s e may = record {
  fresh = may.fresh;
  runs = λ a b i j. may.runs a b i (e ∙ j);
}

pub stage_mem_law : StageMemLaw
stage_mem_law kinds ps p c hidden blind root simple cell memory base x coords name b is was unused
    made known =
    let world = unit_world kinds ps in
    let w = staging_of x coords name in
    let a : Binder = record { id = base; name = name } in
    let old = as_made simple cell memory base x coords name b in
    let new = with_simpler simple cell memory base x coords name b in
    context_law kinds ps hidden c b new p (record p { body = fill c new }) was refl unused
    (λ s u good come.
    let k = known s u good come in
    same_may world hidden b old new u
    (draft_law world simple cell memory base x coords name b u is)
    (staged_replaces hidden blind world root a cell (sizes simple w cell memory base) memory x
    coords (loads simple w cell memory base) (stores simple w cell memory base) b u k.0
    (λ v e. known_law blind world root a cell (sizes simple w cell memory base) memory x coords
    (loads simple w cell memory base) (stores simple w cell memory base) b u v made k.1 k.2 e)))

pub stage_reader_law : StageReaderLaw
stage_reader_law kinds ps p c hidden blind root simple cell memory base x coords name b is was
    unused silent made known =
    let world = unit_world kinds ps in
    let w = staging_of x coords name in
    let a : Binder = record { id = base; name = name } in
    let ls = loads simple w cell memory base in
    let old = reader_as_made simple cell memory base x coords name b in
    let new = reader_with_simpler simple cell memory base x coords name b in
    context_law kinds ps hidden c b new p (record p { body = fill c new }) was refl unused
    (λ s u good come.
    let k = known s u good come in
    same_may world hidden b old new u
    (reader_draft_law world simple cell memory base x coords name b u is)
    (reader_replaces hidden blind world root a cell (sizes simple w cell memory base) memory x
    coords ls b u silent k.0
    (λ v e. known_reader_law blind world root a cell (sizes simple w cell memory base) memory x
    coords ls b u v made k.1 e)))

-- ---- accesses at places

pub fits_at_places : FitsAtPlaces
fits_at_places world p c b x coords s u good come fit d a v is there =
    let through = (holes_compose (next a end) c d).comes world s v in
    fit d a v is (through.0 (record {
      middle = u;
      first = subst (λ z. ComesTo world z c s u) is come;
      second = there;
    }))
