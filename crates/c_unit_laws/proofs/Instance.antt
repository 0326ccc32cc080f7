-- The closed units have a C.
use Rattle.std.proofs.Common.{◌≡◌, ◌<◌, ◌==◌, ℕ, zero, suc, Bool, true, false, ◌||◌, List, [], Some, None, refl, sym, ap, ◌∙◌, subst, arith, true≢false, eqb-true, slice_get}
use Rattle.exo_tree.specs.Tree.{Procedure, Program}
use Rattle.exo_tree.specs.Calls.{calls}
use Rattle.exo_meaning.specs.Units.{IsUnit}
use Rattle.memory_kinds.specs.Faults.{fault_of}
use Rattle.c_tree.specs.Names.Words.{is_word}
use Rattle.c_lowering.specs.Made.LoweredUnit.{Printing, is_listed, global_names}
use Rattle.c_tree.specs.Names.Clash.{first_clash}
use Rattle.c_lowering.specs.Made.Examples.{fill, col, load8, store8, copy8, vector_program}
use Rattle.c_unit_laws.specs.Follows.Units.{IsListing, AreLowered}
use Rattle.c_unit_laws.specs.Instance.{filling, column_program, both_printed, ColumnsHaveC, copy_printed, VectorsHaveC}
use Rattle.c_unit_laws.proofs.Standing.{some_same}
use Rattle.c_unit_laws.proofs.Listed.{no_entry}

abbrev IsThere : Program → Printing → Type 0
IsThere program w = (p : Procedure) × (slice_get program.procedures w.proc ≡ Some p) × (p.template ≡ None)

either : {P : Type 0} (a b : Bool) → (a || b) ≡ true → (a ≡ true → P) → (b ≡ true → P) → P
either true b h f g = f refl
either false b h f g = g h

-- the procedure of a printing that is told twice
same_procedure : (program : Program) (v w : Printing) (p q : Procedure) → Some v ≡ Some w → slice_get program.procedures v.proc ≡ Some p → slice_get program.procedures w.proc ≡ Some q → p ≡ q
same_procedure program v w p q e f h = some_same (sym f ∙ (ap (λ z. slice_get program.procedures z.proc) (some_same e) ∙ h))

-- ---- a window

columns_listing : IsListing column_program both_printed
columns_listing = record { there = there; ascends = ascends; closed = closed }
  where
    there : (i : ℕ) (w : Printing) → slice_get both_printed i ≡ Some w → IsThere column_program w
    there zero w e = subst (IsThere column_program) (some_same e) (fill, refl, refl)
    there (suc zero) w e = subst (IsThere column_program) (some_same e) (col filling, refl, refl)
    there (suc (suc i)) w e = absurd (no_entry [] i e refl)

    ascends : (i j : ℕ) (w v : Printing) → slice_get both_printed i ≡ Some w → slice_get both_printed j ≡ Some v → i < j → w.proc < v.proc
    ascends zero zero w v e f h = absurd (omega (arith, h))
    ascends zero (suc zero) w v e f h = let a = ap (λ z. z.proc) (some_same e) in let b = ap (λ z. z.proc) (some_same f) in omega (arith, a, b)
    ascends zero (suc (suc j)) w v e f h = absurd (no_entry [] j f refl)
    ascends (suc zero) zero w v e f h = absurd (omega (arith, h))
    ascends (suc zero) (suc zero) w v e f h = absurd (omega (arith, h))
    ascends (suc zero) (suc (suc j)) w v e f h = absurd (no_entry [] j f refl)
    ascends (suc (suc i)) j w v e f h = absurd (no_entry [] i e refl)

    closed : (i j : ℕ) (w : Printing) (p q : Procedure) → slice_get both_printed i ≡ Some w → slice_get column_program.procedures w.proc ≡ Some p → slice_get column_program.procedures j ≡ Some q → calls j p.body ≡ true → q.template ≡ None → is_listed both_printed j ≡ true
    closed zero j w p q e f h c t = absurd (true≢false (sym (ap (λ z. calls j z.body) (same_procedure column_program _ w fill p e refl f) ∙ c)))
    closed (suc zero) j w p q e f h c t =
        either (j == 0) false (ap (λ z. calls j z.body) (same_procedure column_program _ w (col filling) p e refl f) ∙ c)
        (λ d. subst (λ n. is_listed both_printed n ≡ true) (sym (eqb-true j 0 d)) refl)
        (λ d. absurd (true≢false (sym d)))
    closed (suc (suc i)) j w p q e f h c t = absurd (no_entry [] i e refl)

columns_named : first_clash (global_names column_program both_printed) ≡ None
unfolding is_word
columns_named = refl

columns_lowered : AreLowered fault_of column_program both_printed
columns_lowered = record { listing = columns_listing; memories = memories; narrow = refl; named = columns_named; few = omega arith }
  where
    memories : (k : ℕ) → is_listed both_printed k ≡ true → fault_of column_program k ≡ None
    memories k h =
        either (k == 0) ((k == 1) || false) h (λ e. ap (fault_of column_program) (eqb-true k 0 e))
        (λ r. either (k == 1) false r (λ e. ap (fault_of column_program) (eqb-true k 1 e)) (λ e. absurd (true≢false (sym e))))

columns_unit : IsUnit column_program
columns_unit = record {
  procedures = (
    record { params = refl; asserts = refl; body = refl; filled = refl; ids = refl; distinct = refl; paths = refl; template = refl },
    (record { params = refl; asserts = refl; body = refl; filled = refl; ids = refl; distinct = refl; paths = refl; template = refl }, tt),
  );
  fields = refl;
  memories = refl;
  spaces = refl;
  counts = refl;
}

pub columns_have_c : ColumnsHaveC
columns_have_c = record { unit = columns_unit; lowered = columns_lowered }

-- ---- instructions and vectors

vectors_listing : IsListing vector_program copy_printed
vectors_listing = record { there = there; ascends = ascends; closed = closed }
  where
    there : (i : ℕ) (w : Printing) → slice_get copy_printed i ≡ Some w → IsThere vector_program w
    there zero w e = subst (IsThere vector_program) (some_same e) (copy8, refl, refl)
    there (suc i) w e = absurd (no_entry [] i e refl)

    ascends : (i j : ℕ) (w v : Printing) → slice_get copy_printed i ≡ Some w → slice_get copy_printed j ≡ Some v → i < j → w.proc < v.proc
    ascends zero zero w v e f h = absurd (omega (arith, h))
    ascends zero (suc j) w v e f h = absurd (no_entry [] j f refl)
    ascends (suc i) j w v e f h = absurd (no_entry [] i e refl)

    closed : (i j : ℕ) (w : Printing) (p q : Procedure) → slice_get copy_printed i ≡ Some w → slice_get vector_program.procedures w.proc ≡ Some p → slice_get vector_program.procedures j ≡ Some q → calls j p.body ≡ true → q.template ≡ None → is_listed copy_printed j ≡ true
    closed zero j w p q e f h c t =
        either (j == 0) ((j == 1) || false) (ap (λ z. calls j z.body) (same_procedure vector_program _ w copy8 p e refl f) ∙ c)
        (λ d. absurd (one load8 refl (ap (slice_get vector_program.procedures) (sym (eqb-true j 0 d)) ∙ h)))
        (λ r. either (j == 1) false r (λ d. absurd (one store8 refl (ap (slice_get vector_program.procedures) (sym (eqb-true j 1 d)) ∙ h))) (λ d. absurd (true≢false (sym d))))
      where
        none_there : {A : Type 0} {a : A} → Some a ≡ None → ⊥
        none_there d = cc

        one : (r : Procedure) {text : List ℕ} → r.template ≡ Some text → Some r ≡ Some q → ⊥
        one r d s = none_there (sym d ∙ (ap (λ z. z.template) (some_same s) ∙ t))
    closed (suc i) j w p q e f h c t = absurd (no_entry [] i e refl)

vectors_named : first_clash (global_names vector_program copy_printed) ≡ None
unfolding is_word
vectors_named = refl

vectors_lowered : AreLowered fault_of vector_program copy_printed
vectors_lowered = record { listing = vectors_listing; memories = memories; narrow = refl; named = vectors_named; few = omega arith }
  where
    memories : (k : ℕ) → is_listed copy_printed k ≡ true → fault_of vector_program k ≡ None
    memories k h = either (k == 2) false h (λ e. ap (fault_of vector_program) (eqb-true k 2 e)) (λ e. absurd (true≢false (sym e)))

vectors_unit : IsUnit vector_program
vectors_unit = record {
  procedures = (
    record { params = refl; asserts = refl; body = refl; filled = refl; ids = refl; distinct = refl; paths = refl; template = refl },
    (
      record { params = refl; asserts = refl; body = refl; filled = refl; ids = refl; distinct = refl; paths = refl; template = refl },
      (record { params = refl; asserts = refl; body = refl; filled = refl; ids = refl; distinct = refl; paths = refl; template = refl }, tt),
    ),
  );
  fields = refl;
  memories = refl;
  spaces = refl;
  counts = refl;
}

pub vectors_have_c : VectorsHaveC
vectors_have_c = record { unit = vectors_unit; lowered = vectors_lowered }
