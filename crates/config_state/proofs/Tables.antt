-- Tables of sets beside lists of tests.
use Rattle.std.proofs.Common.{◌≡◌, ◌<◌, ℕ, zero, suc, Bool, false, ◌||◌, List, [], ◌∷◌, ◌++◌, length, refl, ap, ap₂, ◌∙◌, arith}
use Rattle.std.specs.Prelude.{replicate}
use Rattle.exo_tree.specs.Tree.{Statement, Assign, Reduce, Config, Pass, If, For, Alloc, View, Call, Block, end, next, Procedure}
use Rattle.meaning_laws.specs.Fields.{writes_field, step_writes_field}
use Rattle.meaning_laws.specs.UnitFields.{written_at, written_by, all_written}
use Rattle.meaning_laws.specs.Live.{read_by_control, read_by_condition, read_by_arguments}
use Rattle.meaning_laws.specs.UnitFields.{read_by_params, read_by_conditions}
use Rattle.config_state.specs.Reads.{reads_field, step_reads_field, read_by, read_at, all_read}
use Rattle.config_state.specs.FieldSets.{contains, Marked, in_table, fields_where}
use Rattle.config_state.proofs.Sets.{fields_same, length_none}

-- each set has the fields that pass the test beside it
abbrev pub Agree : ℕ → List (List Bool) → List (ℕ → Bool) → Type 0
Agree n [] [] = Unit {0}
Agree n [] (w ∷ ws) = ⊥
Agree n (s ∷ ss) [] = ⊥
Agree n (s ∷ ss) (w ∷ ws) = ((f : ℕ) → f < n → contains s f ≡ w f) × Agree n ss ws

pub agree_more : (n : ℕ) (ss : List (List Bool)) (ws : List (ℕ → Bool)) (s : List Bool) (w : ℕ → Bool) → Agree n ss ws → ((f : ℕ) → f < n → contains s f ≡ w f) → Agree n (ss ++ s ∷ []) (ws ++ w ∷ [])
agree_more n [] [] s w h k = (k, tt)
agree_more n [] (v ∷ ws) s w h k = absurd h
agree_more n (r ∷ ss) [] s w h k = absurd h
agree_more n (r ∷ ss) (v ∷ ws) s w h k = (h.0, agree_more n ss ws s w h.1 k)

pub agree_at : (n : ℕ) (ss : List (List Bool)) (ws : List (ℕ → Bool)) → Agree n ss ws → (k f : ℕ) → f < n → in_table ss k f ≡ written_at ws k f
agree_at n [] [] h zero f l = refl
agree_at n [] [] h (suc k) f l = refl
agree_at n [] (w ∷ ws) h k f l = absurd h
agree_at n (s ∷ ss) [] h k f l = absurd h
agree_at n (s ∷ ss) (w ∷ ws) h zero f l = h.0 f l
agree_at n (s ∷ ss) (w ∷ ws) h (suc k) f l = agree_at n ss ws h.1 k f l

none_in : (n f : ℕ) → contains (replicate n false) f ≡ false
none_in zero f = refl
none_in (suc n) zero = refl
none_in (suc n) (suc f) = none_in n f

-- what is added to the empty set
pub only_marked : (n : ℕ) (test : ℕ → Bool) (set : List Bool) → Marked test (replicate n false) set → (f : ℕ) → f < n → contains set f ≡ test f
only_marked n test set h f l = h.each f (let e = length_none n in omega arith) ∙ ap (λ t. t || test f) (none_in n f)

-- ---- writes, where the callees write the same

module _ (calls other : ℕ → ℕ → Bool) (f : ℕ) (same : (k : ℕ) → calls k f ≡ other k f) where
  mutual
    pub writes_same : (b : Block) → writes_field calls f b ≡ writes_field other f b
    writes_same end = refl
    writes_same (next a b) = ap₂ ◌||◌ (step_writes_same a) (writes_same b)

    pub step_writes_same : (a : Statement) → step_writes_field calls f a ≡ step_writes_field other f a
    step_writes_same (Assign x is e) = refl
    step_writes_same (Reduce x is e) = refl
    step_writes_same (Config g a) = refl
    step_writes_same Pass = refl
    step_writes_same (If c a b) = ap₂ ◌||◌ (writes_same a) (writes_same b)
    step_writes_same (For i lo hi b) = writes_same b
    step_writes_same (Alloc x cell dims memory) = refl
    step_writes_same (View w x coords) = refl
    step_writes_same (Call k args) = same k

-- the table so far, with what the tests make of the procedures that follow
pub record Written (n : ℕ) (table : List (List Bool)) (rest all : List Procedure) : Type 0 where
  pub tests : List (ℕ → Bool)
  pub agree : Agree n table tests
  pub whole : all_written tests rest ≡ all_written [] all

pub written_start : (n : ℕ) (all : List Procedure) → Written n [] all all
written_start n all = record { tests = []; agree = tt; whole = refl }

pub written_next : (n : ℕ) (table : List (List Bool)) (p : Procedure) (rest all : List Procedure) (set : List Bool) → Marked (λ f. writes_field (in_table table) f p.body) (replicate n false) set → Written n table (p ∷ rest) all → Written n (table ++ set ∷ []) rest all
written_next n table p rest all set h w = record {
  tests = w.tests ++ written_by (written_at w.tests) p ∷ [];
  agree = agree_more n table w.tests set (written_by (written_at w.tests) p) w.agree (λ f l. only_marked n (λ f. writes_field (in_table table) f p.body) set h f l ∙ writes_same (in_table table) (written_at w.tests) f (λ k. agree_at n table w.tests w.agree k f l) p.body);
  whole = w.whole;
}

pub written_all : (n : ℕ) (table : List (List Bool)) (all : List Procedure) → Written n table [] all → (k f : ℕ) → f < n → in_table table k f ≡ written_at (all_written [] all) k f
written_all n table all w k f l = agree_at n table w.tests w.agree k f l ∙ ap (λ ws. written_at ws k f) w.whole

-- the members of what is added to the empty set by the table of a unit
pub written_members : (n : ℕ) (set : List Bool) (table : List (List Bool)) (ps : List Procedure) (b : Block) → ((k f : ℕ) → f < n → in_table table k f ≡ written_at (all_written [] ps) k f) → Marked (λ f. writes_field (in_table table) f b) (replicate n false) set → fields_where (length set) (contains set) ≡ fields_where n (λ f. writes_field (written_at (all_written [] ps)) f b)
written_members n set table ps b is_table h =
    ap (λ m. fields_where m (contains set)) (h.same_length ∙ length_none n)
    ∙ fields_same 0 n (contains set) (λ f. writes_field (written_at (all_written [] ps)) f b) (λ f l. (let below : f < n = omega arith in only_marked n (λ f. writes_field (in_table table) f b) set h f below ∙ writes_same (in_table table) (written_at (all_written [] ps)) f (λ k. is_table k f below) b))

-- ---- reads, where the callees read the same

module _ (calls other : ℕ → ℕ → Bool) (f : ℕ) (same : (k : ℕ) → calls k f ≡ other k f) where
  mutual
    pub reads_same : (b : Block) → reads_field calls f b ≡ reads_field other f b
    reads_same end = refl
    reads_same (next a b) = ap₂ ◌||◌ (step_reads_same a) (reads_same b)

    step_reads_same : (a : Statement) → step_reads_field calls f a ≡ step_reads_field other f a
    step_reads_same (Assign x is e) = refl
    step_reads_same (Reduce x is e) = refl
    step_reads_same (Config g a) = refl
    step_reads_same Pass = refl
    step_reads_same (If c a b) = ap (λ t. read_by_condition f c || t) (ap₂ ◌||◌ (reads_same a) (reads_same b))
    step_reads_same (For i lo hi b) = ap (λ t. (read_by_control f lo || read_by_control f hi) || t) (reads_same b)
    step_reads_same (Alloc x cell dims memory) = refl
    step_reads_same (View w x coords) = refl
    step_reads_same (Call k args) = ap (λ t. read_by_arguments f args || t) (same k)

  pub read_by_same : (p : Procedure) → read_by calls p f ≡ read_by other p f
  read_by_same p = ap (λ t. read_by_params f p.params || (read_by_conditions f p.asserts || t)) (reads_same p.body)

-- the table so far, with what the tests make of the procedures that follow
pub record ReadSoFar (n : ℕ) (table : List (List Bool)) (rest all : List Procedure) : Type 0 where
  pub tests : List (ℕ → Bool)
  pub agree : Agree n table tests
  pub whole : all_read tests rest ≡ all_read [] all

pub read_start : (n : ℕ) (all : List Procedure) → ReadSoFar n [] all all
read_start n all = record { tests = []; agree = tt; whole = refl }

pub read_next : (n : ℕ) (table : List (List Bool)) (p : Procedure) (rest all : List Procedure) (set : List Bool) → Marked (read_by (in_table table) p) (replicate n false) set → ReadSoFar n table (p ∷ rest) all → ReadSoFar n (table ++ set ∷ []) rest all
read_next n table p rest all set h w = record {
  tests = w.tests ++ read_by (read_at w.tests) p ∷ [];
  agree = agree_more n table w.tests set (read_by (read_at w.tests) p) w.agree (λ f l. only_marked n (read_by (in_table table) p) set h f l ∙ read_by_same (in_table table) (read_at w.tests) f (λ k. agree_at n table w.tests w.agree k f l) p);
  whole = w.whole;
}

pub read_all : (n : ℕ) (table : List (List Bool)) (all : List Procedure) → ReadSoFar n table [] all → (k f : ℕ) → f < n → in_table table k f ≡ read_at (all_read [] all) k f
read_all n table all w k f l = agree_at n table w.tests w.agree k f l ∙ ap (λ ws. read_at ws k f) w.whole

pub read_members : (n : ℕ) (set : List Bool) (table : List (List Bool)) (ps : List Procedure) (b : Block) → ((k f : ℕ) → f < n → in_table table k f ≡ read_at (all_read [] ps) k f) → Marked (λ f. reads_field (in_table table) f b) (replicate n false) set → fields_where (length set) (contains set) ≡ fields_where n (λ f. reads_field (read_at (all_read [] ps)) f b)
read_members n set table ps b is_table h =
    ap (λ m. fields_where m (contains set)) (h.same_length ∙ length_none n)
    ∙ fields_same 0 n (contains set) (λ f. reads_field (read_at (all_read [] ps)) f b) (λ f l. (let below : f < n = omega arith in only_marked n (λ f. reads_field (in_table table) f b) set h f below ∙ reads_same (in_table table) (read_at (all_read [] ps)) f (λ k. is_table k f below) b))
