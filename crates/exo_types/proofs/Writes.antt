-- What a procedure writes depends on those above it by their parameters and what each of these writes alone; so tables of
-- procedures and rows say it.
use Rattle.std.proofs.Common.{◌≡◌, ℕ, zero, suc, ◌||◌, Bool, false, List, [], ◌∷◌, map, Option, Some, None, slice_get, option_map, refl, sym, ap, ◌∙◌}
use Rattle.exo_tree.specs.Tree.{Kind, Index, Argument, Procedure, Statement, Assign, Reduce, Config, Pass, If, For, Alloc, View, Call, Block, end, next}
use Rattle.exo_meaning.specs.Calls.{Callee}
use Rattle.exo_meaning.specs.Run.{world_of, callee_in, roots_after, call_writes, call_to_writes, writes, step_writes}
use Rattle.exo_modes.specs.Marks.{callees_by}
use Rattle.exo_modes.specs.Written.{world_by, block_writes}
use Rattle.exo_types.specs.ArgumentRules.{Signature, signature_of}

-- what a call writes, by what is known of its callee
signed_writes : Option Signature → (ℕ → ℕ) → ℕ → List Argument → Bool
signed_writes None root y args = false
signed_writes (Some s) root y args = call_writes s.writes root y s.params args

called : (o : Option Callee) (root : ℕ → ℕ) (y : ℕ) (args : List Argument) → call_to_writes o root y args ≡ signed_writes (option_map signature_of o) root y args
unfolding signed_writes
called None root y args = refl
called (Some c) root y args = refl

pub get_signature : (cs : List Callee) (k : ℕ) → slice_get (map signature_of cs) k ≡ option_map signature_of (slice_get cs k)
get_signature [] k = refl
get_signature (c ∷ cs) zero = refl
get_signature (c ∷ cs) (suc k) = get_signature cs k

either_same : {a b c d : Bool} → a ≡ c → b ≡ d → (a || b) ≡ (c || d)
either_same p q = λ i. p i || q i

module _ (kinds others : ℕ → Kind) (cs ds : List Callee) (same : map signature_of cs ≡ map signature_of ds) where
  call_same : (k : ℕ) (root : ℕ → ℕ) (y : ℕ) (args : List Argument) → call_to_writes (slice_get cs k) root y args ≡ call_to_writes (slice_get ds k) root y args
  call_same k root y args =
      called (slice_get cs k) root y args
      ∙ ap (λ o. signed_writes o root y args) (sym (get_signature cs k) ∙ ap (λ l. slice_get l k) same ∙ get_signature ds k)
      ∙ sym (called (slice_get ds k) root y args)

  mutual
    pub writes_same : (root : ℕ → ℕ) (b : Block) (y : ℕ) → writes (world_of kinds cs) root b y ≡ writes (world_of others ds) root b y
    writes_same root end y = refl
    writes_same root (next a b) y = either_same (step_same root a y) (writes_same (roots_after a root) b y)

    step_same : (root : ℕ → ℕ) (a : Statement) (y : ℕ) → step_writes (world_of kinds cs) root a y ≡ step_writes (world_of others ds) root a y
    step_same root (Assign x is e) y = refl
    step_same root (Reduce x is e) y = refl
    step_same root (Config f a) y = refl
    step_same root Pass y = refl
    step_same root (If c a b) y = either_same (writes_same root a y) (writes_same root b y)
    step_same root (For i lo hi b) y = writes_same root b y
    step_same root (Alloc x cell dims memory) y = refl
    step_same root (View w x coords) y = refl
    step_same root (Call k args) y = call_same k root y args

  -- so a procedure has the same signature below both
  pub signature_same : (p : Procedure) → signature_of (callee_in (world_of kinds cs) p) ≡ signature_of (callee_in (world_of others ds) p)
  signature_same p = λ i. record { params = p.params; writes = λ y. writes_same (λ x. x) p.body y i }

-- ---- tables

tables_sign : (cs : List Callee) → map signature_of (callees_by (map (λ c. c.procedure) cs) (map (λ c. c.writes) cs)) ≡ map signature_of cs
tables_sign [] = refl
tables_sign (c ∷ cs) = ap (λ l. signature_of c ∷ l) (tables_sign cs)

pub tables_same : (cs : List Callee) (ps : List Procedure) (ws : List (ℕ → Bool)) → map (λ c. c.procedure) cs ≡ ps → map (λ c. c.writes) cs ≡ ws → map signature_of (callees_by ps ws) ≡ map signature_of cs
tables_same cs ps ws p w = ap (λ l. map signature_of (callees_by l ws)) (sym p) ∙ ap (λ l. map signature_of (callees_by (map (λ c. c.procedure) cs) l)) (sym w) ∙ tables_sign cs

-- what a block writes by tables is what it writes below callees of the same signatures
pub writes_by : (kinds : ℕ → Kind) (ps : List Procedure) (ws : List (ℕ → Bool)) (cs : List Callee) → map signature_of (callees_by ps ws) ≡ map signature_of cs → (root : ℕ → ℕ) (b : Block) → writes (world_by ps ws) root b ≡ writes (world_of kinds cs) root b
writes_by kinds ps ws cs same root b = λ i y. writes_same (λ f. Index) kinds (callees_by ps ws) cs same root b y i

-- so the row of a procedure is what it writes as a callee
pub row_is_written : (kinds : ℕ → Kind) (ps : List Procedure) (ws : List (ℕ → Bool)) (cs : List Callee) (p : Procedure) (row : ℕ → Bool) → map signature_of (callees_by ps ws) ≡ map signature_of cs
    → row ≡ block_writes ps ws (λ y. y) p.body → row ≡ (callee_in (world_of kinds cs) p).writes
row_is_written kinds ps ws cs p row same r = r ∙ writes_by kinds ps ws cs same (λ y. y) p.body

-- and its signature is that of its parameters and its row
pub signature_is : (kinds : ℕ → Kind) (ps : List Procedure) (ws : List (ℕ → Bool)) (cs : List Callee) (p : Procedure) (row : ℕ → Bool) → map signature_of (callees_by ps ws) ≡ map signature_of cs
    → row ≡ block_writes ps ws (λ y. y) p.body → signature_of (callee_in (world_of kinds cs) p) ≡ record { params = p.params; writes = row }
signature_is kinds ps ws cs p row same r = λ i. record { params = p.params; writes = sym (row_is_written kinds ps ws cs p row same r) i }
