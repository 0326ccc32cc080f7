-- At each place of a well-formed procedure the rules of blocks hold, and a block that keeps them
-- there may be put there.
use Rattle.std.specs.Prelude.{◌≡◌, ◌&&◌, ℕ, Bool, true, not, [], Option}
use Rattle.exo_tree.specs.Tree.{Kind, Block, joined, Procedure}
use Rattle.exo_tree.specs.Context.{Context, Here, After, InLoop, InThen, InElse, fill, rest_of}
use Rattle.exo_meaning.specs.Calls.{Callee}
use Rattle.exo_meaning.specs.Units.{Scope, scope_of, is_empty, is_short, is_block, IsProcedure}
use Rattle.meaning_laws.specs.Sorted.{scope_at}
use Rattle.place_laws.specs.Scope.Holes.{roots_at}

-- no loop or branch round the hole is empty or too long with this block in the hole
abbrev pub branches_fit : Context → Block → Bool
branches_fit (Here rest) b = true
branches_fit (After a c) b = branches_fit c b
branches_fit (InLoop i lo hi c rest) b =
    (not (is_empty (fill c b)) && is_short (fill c b)) && branches_fit c b
branches_fit (InThen t c other rest) b =
    (not (is_empty (fill c b)) && is_short (fill c b)) && branches_fit c b
branches_fit (InElse t other c rest) b = is_short (fill c b) && branches_fit c b

module _ (fields : ℕ → Option Kind) (memories : ℕ) (callees : ℕ → Option Callee) where
  -- a block keeps the rules where the hole is
  abbrev pub keeps_at : Scope → (ℕ → ℕ) → Context → Block → Bool
  keeps_at scope root c b =
      is_block fields memories callees (scope_at c scope) (roots_at c root) b

  -- so does what stands in the hole, alone and with what follows it in its block
  pub record IsWellAt (scope : Scope) (root : ℕ → ℕ) (c : Context) (old : Block) : Type 0 where
    pub block : keeps_at scope root c (joined old (rest_of c)) ≡ true
    pub piece : keeps_at scope root c old ≡ true

  -- this is so in a block that keeps the rules
  abbrev pub BlockAtPlace : Type 0
  BlockAtPlace =
      (scope : Scope) (root : ℕ → ℕ) (c : Context) (old : Block)
      → is_block fields memories callees scope root (fill c old) ≡ true
      → IsWellAt scope root c old

  -- and what keeps the rules there may stand there
  abbrev pub BlockPutAtPlace : Type 0
  BlockPutAtPlace =
      (scope : Scope) (root : ℕ → ℕ) (c : Context) (old new : Block)
      → is_block fields memories callees scope root (fill c old) ≡ true
      → branches_fit c new ≡ true
      → keeps_at scope root c (joined new (rest_of c)) ≡ true
      → is_block fields memories callees scope root (fill c new) ≡ true

-- in a well-formed procedure
abbrev pub WellAtPlace : Type 0
WellAtPlace =
    (fields : ℕ → Option Kind) (memories : ℕ) (callees : ℕ → Option Callee)
    → (p : Procedure) (c : Context) (old : Block)
    → IsProcedure fields memories callees p
    → p.body ≡ fill c old
    → IsWellAt fields memories callees (scope_of [] p.params) (λ x. x) c old

-- and the body keeps them with another block in the hole, where that keeps them there
abbrev pub WellPutAtPlace : Type 0
WellPutAtPlace =
    (fields : ℕ → Option Kind) (memories : ℕ) (callees : ℕ → Option Callee)
    → (p : Procedure) (c : Context) (old new : Block)
    → IsProcedure fields memories callees p
    → p.body ≡ fill c old
    → branches_fit c new ≡ true
    → let scope = scope_of [] p.params in
    keeps_at fields memories callees scope (λ x. x) c (joined new (rest_of c)) ≡ true
    → is_block fields memories callees scope (λ x. x) (fill c new) ≡ true
