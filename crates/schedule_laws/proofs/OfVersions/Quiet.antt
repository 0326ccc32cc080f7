-- Nothing faults in a unit with a version behind it that shows what it owes.
use Rattle.std.proofs.Common.{◌≡◌, ℕ, ◌+◌, zero, suc, ◌&&◌, ◌||◌, Bool, true, false, List, [], ◌∷◌, ◌++◌, length}
use Rattle.std.proofs.Common.{Option, Some, refl, sym, ap, ◌∙◌, subst, arith, All}
use Rattle.std.proofs.Common.{eqb-true, true≢false}
use Rattle.std.specs.Prelude.{slice_get, nat_lt, IsSome}
use Rattle.exo_tree.specs.Tree.{Statement, Assign, Reduce, Config, Pass, If, For, Alloc, View, Call}
use Rattle.exo_tree.specs.Tree.{Kind, Block, end, next, Procedure, ConfigField, Program}
use Rattle.exo_meaning.specs.Scene.{where_true}
use Rattle.exo_meaning.specs.State.{State}
use Rattle.exo_meaning.specs.Run.{program_world, kinds_of, callees, callee_in, world_of}
use Rattle.exo_meaning.specs.Calls.{Callee}
use Rattle.exo_meaning.specs.Inputs.{IsAdmissible, all_have_extents, run_procedure}
use Rattle.exo_meaning.specs.Units.{IsUnit, IsProcedure, AreProcedures, field_kind}
use Rattle.meaning_laws.specs.Grown.{calls_below, step_calls_below, GrownLaw}
use Rattle.meaning_laws.specs.WellFormed.{CallsAreBelow}
use Rattle.check_claims.specs.Claims.{claims_of}
use Rattle.bounds_check.specs.Obligations.{owed_for_all, obligations_of}
use Rattle.check_laws.specs.Claims.Holding.{calls, step_calls}
use Rattle.check_laws.specs.Claims.Laws.{ProceduresMayRun, ClaimsAreFormed, ClaimsSufficeHere}
use Rattle.check_laws.specs.Claims.Laws.{NeverFaults}
use Rattle.meaning_laws.proofs.Parts.{none_some}
use Rattle.meaning_laws.proofs.Substitute.{and_parts}
use Rattle.check_laws.specs.Facts.Laws.{ShownConditionsHold}
use Rattle.effect_laws.specs.Pairs.{PairsAreApart}
use Rattle.tree_laws.specs.Findings.Versions.{with_version}
use Rattle.unit_check.specs.Faults.{NothingFaults}
use Rattle.unit_check.proofs.Listed.{each_of_all}
use Rattle.unit_check.proofs.Made.{IsClosed}
use Rattle.unit_check.proofs.Shown.{claims_hold}

-- ---- what is called stands before, as in check_laws/proofs/OfClaims/Standing

no_test : {A : Type 0} → false ≡ true → A
no_test h = absurd (true≢false (sym h))

module _ (n k : ℕ) where
  either : (a b c d : Bool) → (a || b) ≡ true → (c && d) ≡ true
      → (a ≡ true → c ≡ true → nat_lt k n ≡ true) → (b ≡ true → d ≡ true → nat_lt k n ≡ true)
      → nat_lt k n ≡ true
  either true b c d h j f g = f refl (and_parts c d j).0
  either false b c d h j f g = g h (and_parts c d j).1

  mutual
    called_below : (b : Block) → calls b k ≡ true → calls_below n b ≡ true → nat_lt k n ≡ true
    called_below end h j = no_test h
    called_below (next a b) h j =
        either (step_calls a k) (calls b k) (step_calls_below n a) (calls_below n b) h j
        (step_called_below a) (called_below b)

    step_called_below : (a : Statement) → step_calls a k ≡ true → step_calls_below n a ≡ true
        → nat_lt k n ≡ true
    step_called_below (Assign x is e) h j = no_test h
    step_called_below (Reduce x is e) h j = no_test h
    step_called_below (Config f a) h j = no_test h
    step_called_below Pass h j = no_test h
    step_called_below (If c a b) h j =
        either (calls a k) (calls b k) (calls_below n a) (calls_below n b) h j (called_below a)
        (called_below b)
    step_called_below (For i lo hi b) h j = called_below b h j
    step_called_below (Alloc x cell dims memory) h j = no_test h
    step_called_below (View w x coords) h j = no_test h
    step_called_below (Call i args) h j =
        subst (λ m. nat_lt m n ≡ true) (sym (eqb-true k i h)) j

-- ---- lists with one element more

pub one_longer : {A : Type 0} (xs : List A) (y : A) → length (xs ++ y ∷ []) ≡ suc (length xs)
one_longer [] y = refl
one_longer (x ∷ xs) y = ap suc (one_longer xs y)

pub get_last : {A : Type 0} (xs : List A) (y : A) → slice_get (xs ++ y ∷ []) (length xs) ≡ Some y
get_last [] y = refl
get_last (x ∷ xs) y = get_last xs y

pub get_old : {A : Type 0} (xs : List A) (y : A) (k : ℕ) → nat_lt k (length xs) ≡ true
    → slice_get (xs ++ y ∷ []) k ≡ slice_get xs k
get_old [] y k h = absurd (none k h)
  where
    none : (k : ℕ) → nat_lt k 0 ≡ true → ⊥
    none k h = grind arith
get_old (x ∷ xs) y zero h = refl
get_old (x ∷ xs) y (suc k) h = get_old xs y k (less k (length xs) h)
  where
    less : (k n : ℕ) → nat_lt (suc k) (suc n) ≡ true → nat_lt k n ≡ true
    less k n h = grind arith

-- one of the list, or the last
pub data Which {A : Type 0} (xs : List A) (y x : A) (k : ℕ) : Type 0 where
  old : nat_lt k (length xs) ≡ true → slice_get xs k ≡ Some x → Which xs y x k
  last : k ≡ length xs → x ≡ y → Which xs y x k

one_more : {A : Type 0} (z : A) (xs : List A) (y x : A) (k : ℕ) → Which xs y x k
    → Which (z ∷ xs) y x (suc k)
one_more z xs y x k (old h e) = old (more k (length xs) h) e
  where
    more : (k n : ℕ) → nat_lt k n ≡ true → nat_lt (suc k) (suc n) ≡ true
    more k n h = grind arith
one_more z xs y x k (last h e) = last (ap suc h) e

pub which : {A : Type 0} (xs : List A) (y x : A) (k : ℕ) → slice_get (xs ++ y ∷ []) k ≡ Some x
    → Which xs y x k
which [] y x zero h = last refl (same h)
  where
    same : Some y ≡ Some x → x ≡ y
    same h = cc
which [] y x (suc k) h = absurd (none_some h)
which (z ∷ xs) y x zero h = old (first (length xs)) h
  where
    first : (n : ℕ) → nat_lt 0 (suc n) ≡ true
    first n = grind arith
which (z ∷ xs) y x (suc k) h = one_more z xs y x k (which xs y x k h)

-- ---- the longer unit

pub record Laws : Type 0 where
  pub may_run : ProceduresMayRun
  pub below : CallsAreBelow
  pub grown : GrownLaw
  pub formed : ClaimsAreFormed
  pub suffice : ClaimsSufficeHere
  pub shown : ShownConditionsHold
  pub pairs : PairsAreApart

-- a table has an entry for each procedure
table_length : (kinds : ℕ → Kind) (above : List Callee) (ps : List Procedure)
    → length (callees kinds above ps) ≡ length above + length ps
table_length kinds above [] = none (length above)
  where
    none : (n : ℕ) → n ≡ n + 0
    none n = omega arith
table_length kinds above (p ∷ ps) =
    let c = callee_in (world_of kinds above) p in
    table_length kinds (above ++ c ∷ []) ps
    ∙ one_more_above (length (above ++ c ∷ [])) (length above) (length ps) (one_longer above c)
  where
    one_more_above : (a b c : ℕ) → a ≡ suc b → a + c ≡ b + suc c
    one_more_above a b c e = omega (arith, e)

-- the last procedure is formed behind those before it
last_formed : (fields : List ConfigField) (memories : ℕ) (above : List Callee) (ps : List Procedure)
    (q : Procedure) → AreProcedures fields memories above (ps ++ q ∷ [])
    → IsProcedure (field_kind fields) memories
    (slice_get (callees (kinds_of fields) above ps)) q
last_formed fields memories above [] q h = h.0
last_formed fields memories above (p ∷ ps) q h =
    last_formed fields memories (above ++ callee_in (world_of (kinds_of fields) above) p ∷ []) ps q
    h.1

from_none : (n : ℕ) → 0 + n ≡ n
from_none n = omega arith

below_table : Laws → (u : Program) (p : Procedure)
    → IsProcedure (field_kind u.fields) (length u.memories)
    (slice_get (callees (kinds_of u.fields) [] u.procedures)) p
    → calls_below (length u.procedures) p.body ≡ true
below_table laws u p is =
    let table = callees (kinds_of u.fields) [] u.procedures in
    subst (λ n. calls_below n p.body ≡ true)
    (table_length (kinds_of u.fields) [] u.procedures ∙ from_none (length u.procedures))
    (laws.below (field_kind u.fields) (length u.memories) table p is)

-- each procedure of a unit calls those of the unit alone
pub calls_unit : Laws → (u : Program) → IsUnit u → (k : ℕ) (p : Procedure)
    → slice_get u.procedures k ≡ Some p → calls_below (length u.procedures) p.body ≡ true
calls_unit laws u is k p e = below_table laws u p (laws.may_run u k p is e).procedure

-- and so does a version behind them
pub calls_before : Laws → (u : Program) (q : Procedure) → IsUnit (with_version u q)
    → calls_below (length u.procedures) q.body ≡ true
calls_before laws u q is =
    below_table laws u q (last_formed u.fields (length u.memories) [] u.procedures q is.procedures)

pub same_input : (u : Program) (q p : Procedure) (s : State)
    → IsAdmissible (program_world (with_version u q)) p s → IsAdmissible (program_world u) p s
same_input u q p s g = record {
  arguments = g.arguments;
  no_others = g.no_others;
  cells = g.cells;
  tidy = g.tidy;
  fields = g.fields;
  asserts = g.asserts;
}

module _ (laws : Laws) (u : Program) (q : Procedure) (is : IsUnit u)
    (longer : IsUnit (with_version u q)) (quiet : NothingFaults u)
    (closed : All IsClosed (obligations_of (with_version u q) q)) where
  abbrev more : Program
  more = with_version u q

  same_run : (p : Procedure) → calls_below (length u.procedures) p.body ≡ true → (s : State)
      → run_procedure (program_world more) p s ≡ run_procedure (program_world u) p s
  same_run p h s =
      ap (λ (f : State → Option State). where_true (all_have_extents s.scene p.params) (f s))
      (laws.grown (kinds_of u.fields) u.procedures (q ∷ []) p.body h)

  old_quiet : (k : ℕ) (p : Procedure) → nat_lt k (length u.procedures) ≡ true
      → slice_get u.procedures k ≡ Some p → (s : State) → IsAdmissible (program_world more) p s
      → IsSome (run_procedure (program_world more) p s)
  old_quiet k p h e s good =
      subst IsSome (sym (same_run p (calls_unit laws u is k p e) s))
      (quiet k p e s (same_input u q p s good))

  old_never : (k : ℕ) → nat_lt k (length u.procedures) ≡ true → NeverFaults more k
  old_never k h p e s good =
      old_quiet k p h (sym (get_old u.procedures q k h) ∙ e) s good

  there : slice_get more.procedures (length u.procedures) ≡ Some q
  there = get_last u.procedures q

  new_quiet : (s : State) → IsAdmissible (program_world more) q s
      → IsSome (run_procedure (program_world more) q s)
  new_quiet =
      let may = laws.may_run more (length u.procedures) q longer there in
      let below = calls_before laws u q longer in
      laws.suffice more q may
      (claims_hold laws.shown laws.pairs more q may (claims_of more q) (laws.formed more q may)
      (each_of_all IsClosed (owed_for_all more q (claims_of more q)) closed))
      (λ k called. old_never k (called_below (length u.procedures) k q.body called below))

  either_quiet : (k : ℕ) (p : Procedure) → Which u.procedures q p k → (s : State)
      → IsAdmissible (program_world more) p s → IsSome (run_procedure (program_world more) p s)
  either_quiet k p (old h e) = old_quiet k p h e
  either_quiet k p (last h e) =
      subst (λ (x : Procedure). (s : State) → IsAdmissible (program_world more) x s
      → IsSome (run_procedure (program_world more) x s)) (sym e) new_quiet

  pub nothing_faults : NothingFaults more
  nothing_faults k p e s good = either_quiet k p (which u.procedures q p k e) s good
