-- What a walk through the statements of a procedure keeps, and what it makes of a statement and of
-- a block.
use Rattle.std.specs.Prelude.{◌≡◌, ℕ, ◌+◌, ◌<◌, ◌≤◌, Bool, true, false, List, [], ◌∷◌, ◌++◌, length}
use Rattle.std.specs.Prelude.{map, take, Option, None, Result, MatchResult}
use Rattle.exo_tree.specs.Tree as tree
use Rattle.exo_tree.specs.Tree.{Procedure}
use Rattle.exo_meaning.specs.Run.{roots_after}
use Rattle.exo_meaning.specs.Units.{Scope, scope_after}
use Rattle.text_expressions.specs.Expression.{Tree}
use Rattle.exo_reader.specs.Source.{Statement, assign, reduce, Block}
use Rattle.rules_names.specs.declared.fault.Fault.{Fault}
use Rattle.rules_names.specs.Faults.{least}
use Rattle.exo_modes.specs.Aliases.{roots_in}
use Rattle.exo_modes.specs.Seen.{rows_write}
use Rattle.exo_types.specs.declared.context.Context.{Context}
use Rattle.exo_types.specs.declared.context.ScopeState.{ScopeState}
use Rattle.exo_types.specs.declared.refusal.Refusal.{Refusal}
use Rattle.exo_types.specs.Refusals.{Refuses}
use Rattle.exo_types.specs.ArgumentRules.{Signature}
use Rattle.exo_types.specs.StatementRules as rules
use Rattle.exo_types.specs.StatementRules.{statement_width, bound, bound_in}
use Rattle.exo_types.specs.UnitLines.{inner_starts, block_starts, line_at}

-- ---- the procedures above

-- their signatures, by what each writes or reduces
abbrev pub signatures_by : List Procedure → List (ℕ → Bool) → List Signature
signatures_by [] ws = []
signatures_by (p ∷ ps) [] = []
signatures_by (p ∷ ps) (w ∷ ws) = record { params = p.params; writes = w } ∷ signatures_by ps ws

abbrev pub signatures_in : Context → List Signature
signatures_in c = signatures_by c.above.procs.now (rows_write c.above.rows.now)

-- ---- what a walk needs

-- the ids of the names in scope are below this one, and each is below those of the names that were
-- given later
abbrev pub Falls : ℕ → Scope → Type 0
Falls id [] = Unit {0}
Falls id (n ∷ scope) = (n.binder.id < id) × Falls n.binder.id scope

-- There is room for so many tokens from token n on: each binder takes a token of its own, and each
-- token has a place. The tables are no longer than their numbers reach, and the ids in scope fall.
pub record HasRoom (c : Context) (w : ScopeState) (n width : ℕ) : Type 0 where
  pub ids : w.next_id ≤ n
  pub tokens : n + width < length c.places.now
  pub few : length c.places.now ≤ 0x100001
  pub memories : length c.memories.now ≤ 4294967295
  pub procedures : length c.procedures.now ≤ 4294967295
  pub falls : Falls w.next_id w.scope

module _ (c : Context) where
  -- ---- what the rules say of a statement and of a block whose first token is n

  abbrev pub own_faults : ScopeState → ℕ → Statement → List Fault
  own_faults w n s =
      rules.own_faults c.fields.now c.memories.now c.procedures.now (signatures_in c) w.scope
      (roots_in w.aliases.items) n s

  abbrev pub own_fault : ScopeState → ℕ → Statement → Option Fault
  own_fault w n s = least (own_faults w n s)

  abbrev pub statement_fault : ScopeState → ℕ → Statement → Option Fault
  statement_fault w n s =
      rules.statement_fault c.fields.now c.memories.now c.procedures.now (signatures_in c) w.next_id
      w.scope (roots_in w.aliases.items) n s

  abbrev pub statement_of : ScopeState → Statement → tree.Statement
  statement_of w s =
      rules.statement_of c.fields.now c.memories.now c.procedures.now (signatures_in c) w.next_id
      w.scope s

  abbrev pub block_fault : ScopeState → ℕ → Block → Option Fault
  block_fault w n b =
      rules.block_fault c.fields.now c.memories.now c.procedures.now (signatures_in c) w.next_id
      w.scope (roots_in w.aliases.items) n b

  abbrev pub block_of : ScopeState → Block → tree.Block
  block_of w b =
      rules.block_of c.fields.now c.memories.now c.procedures.now (signatures_in c) w.next_id
      w.scope b

  -- ---- what a walk makes

  -- A statement breaks no rule, and this is its tree. Behind it the names that it binds are in
  -- scope, and the lines of the statements inside it are told.
  pub record IsStatement (before after : ScopeState) (made : tree.Statement) (n : ℕ)
      (s : Statement) : Type 0 where
    pub keeps : statement_fault before n s ≡ None
    pub means : made ≡ statement_of before s
    pub scope : after.scope ≡ scope_after made before.scope
    pub roots : roots_in after.aliases.items ≡ roots_after made (roots_in before.aliases.items)
    pub kept : take (length before.aliases.items) after.aliases.items ≡ before.aliases.items
    pub ids : after.next_id ≡ before.next_id + bound s
    pub lines : after.lines ≡ before.lines ++ map (line_at c.places.now) (inner_starts n s)

  -- a block breaks no rule, and this is its tree; its names end with it, and its lines are told
  pub record IsBlock (before after : ScopeState) (made : List tree.Statement) (n : ℕ)
      (b : Block) : Type 0 where
    pub keeps : block_fault before n b ≡ None
    pub means : tree.block made ≡ block_of before b
    pub scope : after.scope ≡ before.scope
    pub aliases : after.aliases.items ≡ before.aliases.items
    pub ids : after.next_id ≡ before.next_id + bound_in b
    pub lines : after.lines ≡ before.lines ++ map (line_at c.places.now) (block_starts n b)

  -- it is put last in a block, and the token behind it has that number
  pub record IsPut (before after : ScopeState) (old new : List tree.Statement) (n end : ℕ)
      (s : Statement) : Type 0 where
    pub made : tree.Statement
    pub one : IsStatement before after made n s
    pub last : new ≡ old ++ made ∷ []
    pub ends : end ≡ n + statement_width s

  -- the statement is put last, or the first rule that it breaks is told
  abbrev pub Puts :
      ScopeState → ScopeState → List tree.Statement → List tree.Statement → ℕ → Statement
      → Result ℕ Refusal → Type 0
  Puts before after old new n s result =
      MatchResult result (λ end. IsPut before after old new n end s)
      (λ e. Refuses e (statement_fault before n s))

  -- the block is made, or the first rule that it breaks is told
  abbrev pub MakesBlock :
      ScopeState → ScopeState → List tree.Statement → ℕ → Block → Result ℕ Refusal → Type 0
  MakesBlock before after made n b result =
      MatchResult result (λ _. IsBlock before after made n b)
      (λ e. Refuses e (block_fault before n b))

-- ---- writes of a cell: a reduction, or an assignment

abbrev pub stored : Bool → List ℕ → List Tree → Tree → Statement
stored true x ds e = reduce x ds e
stored false x ds e = assign x ds e

abbrev pub stored_tree : Bool → ℕ → List tree.Control → tree.Datum → tree.Statement
stored_tree true of ds d = tree.Reduce of ds d
stored_tree false of ds d = tree.Assign of ds d
