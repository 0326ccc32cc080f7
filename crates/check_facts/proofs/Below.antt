-- A way goes into a branch of a statement of a block: what is said of the rest of it is said of the
-- whole.
use Rattle.std.proofs.Common.{◌≡◌, ◌≤◌, ◌+◌, true, zero, List, ◌∷◌, drop, length, Option, Some, Ok}
use Rattle.std.proofs.Common.{sym, ap, ◌∙◌, subst}
use Rattle.std.specs.Prelude.{IsSome, is_some}
use Rattle.exo_tree.specs.Tree.{Statement, Block, block}
use Rattle.exo_tree.specs.Places.{Branch, Step, Path, Opened, opened_in}
use Rattle.exo_tree.specs.Branches.{branch_of}
use Rattle.exo_tree.specs.PlainPlace.{branch_taken}
use Rattle.exo_tree.specs.PlainProcedure.{procedure}
use Rattle.exo_tree.specs.PlainUnit.{program}
use Rattle.exo_meaning.specs.Units.{levels, step_levels}
use Rattle.meaning_laws.specs.KnownFields.{KnownFields, Telling, path_in, known_at, at_entry}
use Rattle.meaning_laws.specs.PlaceFacts.{PlaceFact, facts_round}
use Rattle.affine_forms.specs.declared.error.FormError.{FormError}
use Rattle.affine_forms.specs.Formulas.{Formula}
use Rattle.affine_forms.specs.Outcomes.{IsWide}
use Rattle.affine_places.specs.Facts.{FieldFact}
use Rattle.affine_places.specs.Rules.{block_keeps_rules, statement_keeps_rules}
use Rattle.check_facts.specs.Contexts.{all_fit, facts_from}
use Rattle.check_facts.specs.Tables.{known_in}
use Rattle.check_facts.specs.Trails.{step_to, Stand, StandIn}
use Rattle.check_facts.specs.Walks.{telling_of, SameBelow, passed, entered, known_inside}
use Rattle.check_facts.specs.declared.basis.Basis.{Basis}
use Rattle.check_facts.specs.declared.level.Level.{Level}
use Rattle.check_facts.proofs.Adding.{Came, refused_second, added_more}
use Rattle.check_facts.proofs.Rooms.{rules_at, room_at, room_inside, Inside, inside}
use Rattle.check_facts.proofs.Trails.{stand_in, stand_out, stand_inside, stand_outside}
use Rattle.check_facts.proofs.Ways.{found, Onward, onward, onward_in}

-- the statement of a level of a block, and the steps that lead on from it
pub record Descent : Type 0 where
  pub basis : Basis
  pub outer : Path
  pub level : Level
  pub whole : List Statement
  pub others : List Statement
  pub here : Statement
  pub is_here : drop level.index whole ≡ here ∷ others
  pub path : Path
  pub is_path : path ≡ path_in outer (branch_taken level.branch) level.index
  pub steps : Path
  pub next : Step
  pub rest : Path
  pub goes_on : steps ≡ next ∷ rest

abbrev pub telling : Descent → Telling
telling d = telling_of d.basis

-- the branch in which the block is
abbrev pub branch_of_level : Descent → Branch
branch_of_level d = branch_taken d.level.branch

-- what is known before that statement, and at the head of a block of it
abbrev pub before : Descent → KnownFields → KnownFields
before d first =
    passed (telling d) d.outer (branch_of_level d) zero d.level.index (block d.whole) first

abbrev pub head : Descent → KnownFields → KnownFields
head d first = known_inside (telling d) d.path d.here (before d first)

-- what the whole way opens
abbrev pub opened_by : Descent → Option Opened
opened_by d = opened_in 1 (step_to d.level ∷ d.steps) (block d.whole)

-- what is said of a way from a branch of the block
abbrev Said : Type 1
Said = Path → Branch → Opened → KnownFields → Type 0

module _ (d : Descent) where
  abbrev Goes : Opened → KnownFields → Type 0
  Goes o first =
      Onward (telling d) d.outer (branch_of_level d) d.next.branch (d.next ∷ d.rest) d.here d.path
      o first (before d first)

  -- the way goes on in a branch of the statement
  pub goes : (o : Opened) (first : KnownFields) → opened_by d ≡ Some o → Goes o first
  goes o first e =
      onward (telling d) d.outer (branch_of_level d) (step_to d.level) d.next d.rest d.whole
      d.others d.here d.path o first d.is_here d.is_path
      (sym (ap (λ q. opened_in 1 (step_to d.level ∷ q) (block d.whole)) d.goes_on) ∙ e)

  -- the statement keeps the rules, and has room
  pub rules_here : block_keeps_rules (block d.whole) ≡ true → statement_keeps_rules d.here ≡ true
  rules_here rules = rules_at d.level.index d.whole d.others d.here d.is_here rules

  pub room_here : length d.outer + levels (block d.whole) ≤ 32
      → length d.path + step_levels d.here ≤ 32
  room_here room =
      room_inside d.outer d.path (branch_of_level d) d.level.index (step_levels d.here) d.is_path
      (room_at (length d.outer) d.level.index d.whole d.others d.here d.is_here room)

  module _ (inner : Block) (is_block : Some inner ≡ branch_of d.next.branch d.here) where
    there : (o : Opened) (first : KnownFields) (w : Goes o first)
        → opened_in 1 (d.next ∷ d.rest) inner ≡ Some w.inner
    there o first w =
        onward_in (telling d) d.outer (branch_of_level d) d.next.branch (d.next ∷ d.rest) d.path
        d.here inner o first (before d first) is_block w

    -- the rest of the way opens the block inside
    pub opens_inside : IsSome (opened_by d) → IsSome (opened_in 1 (d.next ∷ d.rest) inner)
    opens_inside h =
        let o = found (opened_by d) h in
        ap is_some (there o.place at_entry (goes o.place at_entry o.is))

    -- it keeps the rules, is short, and has room
    pub fits_inside : block_keeps_rules (block d.whole) ≡ true
        → length d.outer + levels (block d.whole) ≤ 32 → Inside (length d.path) inner
    fits_inside rules room =
        inside (length d.path) d.next.branch d.here inner (sym is_block) (rules_here rules)
        (room_here room)

    module _ (first : KnownFields) where
      -- levels inside the statement, where that is known before it
      abbrev Inwards : KnownFields → List Level → Type 0
      Inwards known =
          Stand d.basis d.path (λ t. branch_of t d.here)
          (known_inside (telling d) d.path d.here known)

      -- the level of the block inside, found and brought on
      pub stands_below : (found below : Level) (old middle new : List Level)
          → branch_taken found.branch ≡ d.next.branch
          → StandIn d.basis d.outer (block d.whole) first d.level old
          → ((known : KnownFields) → SameBelow d.basis.count (known_in d.level.known) known
          → Inwards known old → Inwards known (found ∷ middle))
          → ((known : KnownFields) → StandIn d.basis d.path inner known found middle
          → StandIn d.basis d.path inner known below new)
          → StandIn d.basis d.path inner (head d first) below new
      stands_below found below old middle new b h enters brings =
          let was = stand_inside d.basis d.outer d.path (branch_of_level d) d.level.index d.whole
          d.others d.here first old d.is_path d.is_here h.1 in
          let block_found = ap (λ t. branch_of t d.here) b ∙ sym is_block in
          brings (head d first)
          (stand_in d.basis d.path (λ u. branch_of u d.here) inner (head d first) found middle
          block_found (enters (before d first) h.0 was))

      module _ (o : Opened) (way : opened_by d ≡ Some o) (below : Level)
          (same : step_to below ≡ d.next) where
        abbrev Below : Said → Type 0
        Below P = (p : Opened) → opened_in 1 (step_to below ∷ d.rest) inner ≡ Some p
            → P d.path (branch_taken below.branch) p (head d first)

        -- what is said from that level on holds where the way goes on
        holds_on : (P : Said) → Below P
            → P d.path d.next.branch (goes o first way).inner (head d first)
        holds_on P told =
            subst (λ s. (p : Opened) → opened_in 1 (s ∷ d.rest) inner ≡ Some p
            → P d.path s.branch p (head d first)) same told (goes o first way).inner
            (there o first (goes o first way))

        abbrev Tells : List FieldFact → Said
        Tells facts q b p known =
            facts
            ≡ facts_from zero d.basis.count (known_at (telling d) q b zero p.around p.piece known)

        pub known_below : (facts : List FieldFact) → Below (Tells facts)
            → Tells facts d.outer (branch_of_level d) o first
        known_below facts told =
            holds_on (Tells facts) told
            ∙ ap (facts_from zero d.basis.count) (sym (goes o first way).known_there)

        abbrev Comes : List Formula → List Formula → Said
        Comes old new q b p known =
            Came d.basis (facts_round (telling d) q b zero p.around p.piece known) old new

        -- the facts of the statement, and those of the way inside
        abbrev entering : List PlaceFact
        entering = entered d.next.branch d.here (before d first)

        abbrev round_inside : List PlaceFact
        round_inside =
            let w = goes o first way in
            facts_round (telling d) d.path d.next.branch zero w.inner.around w.inner.piece
            (head d first)

        pub came_below : (old middle new : List Formula) → Came d.basis entering old middle
            → Below (Comes middle new) → Comes old new d.outer (branch_of_level d) o first
        came_below old middle new came told =
            subst (λ es. Came d.basis es old new) (sym (goes o first way).facts)
            (added_more (Ok (tt {0})) d.basis entering round_inside old middle new came
            (holds_on (Comes middle new) told))

        abbrev Refuses : FormError → Said
        Refuses e q b p known =
            IsWide e (all_fit (program d.basis.unit.now) (procedure d.basis.proc.now)
            (facts_round (telling d) q b zero p.around p.piece known))

        pub refused_below : (e : FormError) (old middle : List Formula)
            → Came d.basis entering old middle → Below (Refuses e)
            → Refuses e d.outer (branch_of_level d) o first
        refused_below e old middle came told =
            subst
            (λ es. IsWide e (all_fit (program d.basis.unit.now) (procedure d.basis.proc.now) es))
            (sym (goes o first way).facts)
            (refused_second d.basis entering round_inside old middle e came
            (holds_on (Refuses e) told))

  -- the levels behind the way
  pub stands_behind : (first : KnownFields) (blocks : Branch → Option Block)
      (ls levels : List Level) → levels ≡ d.level ∷ ls
      → blocks (branch_of_level d) ≡ Some (block d.whole)
      → SameBelow d.basis.count (known_in d.level.known) (before d first)
      → Stand d.basis d.path (λ t. branch_of t d.here) (head d first) ls
      → Stand d.basis d.outer blocks first levels
  stands_behind first blocks ls levels put e h is =
      let back = stand_outside d.basis d.outer d.path (branch_of_level d) d.level.index d.whole
      d.others d.here first ls d.is_path d.is_here is in
      subst (Stand d.basis d.outer blocks first) (sym put)
      (stand_out d.basis d.outer blocks (block d.whole) first d.level ls e (h, back))
