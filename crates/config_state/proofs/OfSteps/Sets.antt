-- Sets of what statements may write and read, and whether a field is in them.
use Rattle.std.proofs.Common.{◌≡◌, ◌<◌, ℕ, zero, suc, ◌+◌, Bool, true, false, ◌||◌, List, ◌∷◌}
use Rattle.std.proofs.Common.{refl, sym, ap, subst, ◌∙◌, arith, if◌then◌else◌}
use Rattle.std.specs.Prelude.{replicate}
use Rattle.exo_tree.specs.Tree.{Statement, Block, end, next, Program}
use Rattle.meaning_laws.specs.Fields.{writes_field, step_writes_field}
use Rattle.meaning_laws.specs.UnitFields.{unit_writes}
use Rattle.config_state.specs.FieldSets.{Marked, in_table, IsTable, fields_from}
use Rattle.config_state.specs.Reads.{reads_field, unit_reads}
use Rattle.config_state.proofs.Sets.{length_none}
use Rattle.config_state.proofs.Tables.{only_marked, writes_same, step_writes_same, reads_same}
use Rattle.config_state.specs.Steps.Fields.{IsFieldSet, written_in, read_in, written_by, read_by}
use Rattle.config_state.specs.Steps.Fields.{some_listed, some_where}

-- ---- what is added to an empty set

set_of : (n : ℕ) (test other : ℕ → Bool) (empty set : List Bool) → empty ≡ replicate n false
    → Marked test empty set → ((f : ℕ) → f < n → test f ≡ other f) → IsFieldSet n other set
set_of n test other empty set none h same =
    let marked : Marked test (replicate n false) set = subst (λ s. Marked test s set) none h in
    record {
      as_long = marked.same_length ∙ length_none n;
      each = λ f l. only_marked n test set marked f l ∙ same f l;
    }

module _ (n : ℕ) (table : List (List Bool)) (u : Program) where
  pub written_set : (b : Block) (empty set : List Bool) → IsTable n (unit_writes u.procedures) table
      → empty ≡ replicate n false → Marked (λ f. writes_field (in_table table) f b) empty set
      → IsFieldSet n (written_in u b) set
  written_set b empty set is_table none h =
      set_of n (λ f. writes_field (in_table table) f b) (written_in u b) empty set none h
      (λ f l. writes_same (in_table table) (unit_writes u.procedures) f (λ k. is_table k f l) b)

  pub written_alone : (a : Statement) (empty set : List Bool)
      → IsTable n (unit_writes u.procedures) table → empty ≡ replicate n false
      → Marked (λ f. step_writes_field (in_table table) f a) empty set
      → IsFieldSet n (written_by u a) set
  written_alone a empty set is_table none h =
      set_of n (λ f. step_writes_field (in_table table) f a) (written_by u a) empty set none h
      (λ f l. step_writes_same (in_table table) (unit_writes u.procedures) f (λ k. is_table k f l) a)

  pub read_set : (b : Block) (empty set : List Bool) → IsTable n (unit_reads u.procedures) table
      → empty ≡ replicate n false → Marked (λ f. reads_field (in_table table) f b) empty set
      → IsFieldSet n (read_in u b) set
  read_set b empty set is_table none h =
      set_of n (λ f. reads_field (in_table table) f b) (read_in u b) empty set none h
      (λ f l. reads_same (in_table table) (unit_reads u.procedures) f (λ k. is_table k f l) b)

-- ---- one statement

or_false : (t : Bool) → (t || false) ≡ t
or_false true = refl
or_false false = refl

pub read_alone : (n : ℕ) (u : Program) (a : Statement) (set : List Bool) → IsFieldSet n (read_in u (next a end)) set → IsFieldSet n (read_by u a) set
read_alone n u a set h = record { as_long = h.as_long; each = λ f l. h.each f l ∙ or_false (read_by u a f) }

-- ---- whether one passes a test

or_rest : (t : Bool) (n : ℕ) (fs : List ℕ) → some_listed fs ≡ true → some_listed (if t then n ∷ fs else fs) ≡ true
or_rest true n fs h = refl
or_rest false n fs h = h

listed_found : (d n count : ℕ) (test : ℕ → Bool) → d < count → test (n + d) ≡ true → some_listed (fields_from n count test) ≡ true
listed_found d n zero test l t = absurd (omega arith)
listed_found zero n (suc count) test l t =
    let here : n + 0 ≡ n = omega arith in
    ap (λ b. some_listed (if b then n ∷ fields_from (suc n) count test else fields_from (suc n) count test)) (ap test (sym here) ∙ t)
listed_found (suc d) n (suc count) test l t =
    let onward : suc n + d ≡ n + suc d = omega arith in
    or_rest (test n) n (fields_from (suc n) count test) (listed_found d (suc n) count test (omega arith) (ap test onward ∙ t))

none_listed : (n count : ℕ) (test : ℕ → Bool) → ((f : ℕ) → f < n + count → test f ≡ false) → some_listed (fields_from n count test) ≡ false
none_listed n zero test h = refl
none_listed n (suc count) test h =
    ap (λ b. some_listed (if b then n ∷ fields_from (suc n) count test else fields_from (suc n) count test)) (h n (omega arith))
    ∙ none_listed (suc n) count test (λ f l. h f (omega arith))

pub found : (n k : ℕ) (test : ℕ → Bool) → k < n → test k ≡ true → true ≡ some_where n test
found n k test l t = let start : 0 + k ≡ k = omega arith in sym (listed_found k 0 n test l (ap test start ∙ t))

pub found_none : (n : ℕ) (test : ℕ → Bool) → ((f : ℕ) → f < n → test f ≡ false) → false ≡ some_where n test
found_none n test h = sym (none_listed 0 n test (λ f l. h f (omega arith)))
