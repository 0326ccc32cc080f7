-- What is printed, and what it calls, writes no field that none of these uses.
use Rattle.std.proofs.Common.{◌≡◌, ◌∙◌, ◌+◌, ◌==◌, ℕ, zero, suc, Bool, true, false, ◌||◌, ◌&&◌, List, [], ◌∷◌, ◌++◌, length, Option, Some, None, refl, sym, ap, subst, arith, true≢false, eq-eqb, nat_lt, slice_get}
use Rattle.std.specs.Prelude.{IfSome}
use Rattle.exo_tree.specs.Tree.{Statement, Assign, Reduce, Config, Pass, If, For, Alloc, View, Call, Block, end, next, Procedure, Program}
use Rattle.exo_tree.specs.Calls.{calls, is_call_of}
use Rattle.exo_meaning.specs.Scene.{where_true}
use Rattle.exo_meaning.specs.Run.{run, kinds_of, program_world}
use Rattle.exo_meaning.specs.Inputs.{all_have_extents}
use Rattle.exo_meaning.specs.Units.{IsUnit}
use Rattle.meaning_laws.specs.Fields.{writes_field, step_writes_field, HasField}
use Rattle.meaning_laws.specs.UnitFields.{written_at, written_by, all_written, unit_writes}
use Rattle.meaning_laws.proofs.Fields.{fields_are_kept}
use Rattle.meaning_laws.proofs.UnitFields.{unit_leaves}
use Rattle.exo_modes.proofs.OfCalls.Reach.{closed_is_closed}
use Rattle.c_lowering.specs.Made.LoweredUnit.{Printing, in_argument, in_condition, in_conditions}
use Rattle.c_lowering.specs.Made.LoweredUnit.{in_block, in_statement, in_procedure, is_listed}
use Rattle.c_lowering.specs.Made.LoweredUnit.{counts, is_used}
use Rattle.c_unit_laws.proofs.Standing.{one_longer, calls_before}
use Rattle.c_unit_laws.proofs.Listed.{used_at}
use Rattle.c_unit_laws.specs.Undeclared.Laws.{UndeclaredFieldsStay, setter, two_fields, setter_printed, OneOfTwo}

-- ---- truth values

neither : (a b : Bool) → (a || b) ≡ false → (a ≡ false) × (b ≡ false)
neither false b h = (refl, h)
neither true b h = absurd (true≢false h)

none_of : (a b : Bool) → a ≡ false → b ≡ false → (a || b) ≡ false
none_of false b e f = f
none_of true b e f = absurd (true≢false e)

first_of : (a b : Bool) → a ≡ true → (a || b) ≡ true
first_of true b e = refl
first_of false b e = absurd (true≢false (sym e))

second_of : (a b : Bool) → b ≡ true → (a || b) ≡ true
second_of true b e = refl
second_of false b e = e

-- of a condition's parts, the two branches
branches : (a b c : Bool) → (a || b || c) ≡ false → (b ≡ false) × (c ≡ false)
branches false false false h = (refl, refl)
branches true b c h = absurd (true≢false h)
branches false true c h = absurd (true≢false h)
branches false false true h = absurd (true≢false h)

-- ---- a block

module _ (f : ℕ) (table : ℕ → ℕ → Bool) where
  mutual
    writes_none : (b : Block) → in_block f b ≡ false → ((j : ℕ) → calls j b ≡ true → table j f ≡ false) → writes_field table f b ≡ false
    writes_none end h c = refl
    writes_none (next a b) h c =
        let p = neither (in_statement f a) (in_block f b) h in
        none_of (step_writes_field table f a) (writes_field table f b)
        (step_writes_none a p.0 (λ j e. c j (first_of (is_call_of j a) (calls j b) e)))
        (writes_none b p.1 (λ j e. c j (second_of (is_call_of j a) (calls j b) e)))

    step_writes_none : (a : Statement) → in_statement f a ≡ false → ((j : ℕ) → is_call_of j a ≡ true → table j f ≡ false) → step_writes_field table f a ≡ false
    step_writes_none (Assign x is e) h c = refl
    step_writes_none (Reduce x is e) h c = refl
    step_writes_none (Config g a) h c = (neither (f == g) (in_argument f a) h).0
    step_writes_none Pass h c = refl
    step_writes_none (If t a b) h c =
        let p = branches (in_condition f t) (in_block f a) (in_block f b) h in
        none_of (writes_field table f a) (writes_field table f b)
        (writes_none a p.0 (λ j e. c j (first_of (calls j a) (calls j b) e)))
        (writes_none b p.1 (λ j e. c j (second_of (calls j a) (calls j b) e)))
    step_writes_none (For i lo hi b) h c = writes_none b h c
    step_writes_none (Alloc x cell dims memory) h c = refl
    step_writes_none (View w x coords) h c = refl
    step_writes_none (Call k args) h c = c k (eq-eqb k k refl)

-- ---- the table of what procedures write

snoc : (ws : List (ℕ → Bool)) (w : ℕ → Bool) (f j : ℕ) → written_at ws j f ≡ false → (j ≡ length ws → w f ≡ false) → written_at (ws ++ w ∷ []) j f ≡ false
snoc [] w f zero h k = k refl
snoc [] w f (suc zero) h k = refl
snoc [] w f (suc (suc j)) h k = refl
snoc (v ∷ ws) w f zero h k = h
snoc (v ∷ ws) w f (suc j) h k = snoc ws w f j h (λ q. k (ap suc q))

module _ (counted : ℕ → Bool) (f : ℕ) where
  -- neither uses the field, nor calls what does not count
  abbrev IsClear : Procedure → Type 0
  IsClear p = (in_block f p.body ≡ false) × ((j : ℕ) → calls j p.body ≡ true → counted j ≡ true)

  table_none : (ps : List Procedure) (ws : List (ℕ → Bool))
      → ((j : ℕ) → counted j ≡ true → written_at ws j f ≡ false)
      → ((i : ℕ) (p : Procedure) → slice_get ps i ≡ Some p → counted (length ws + i) ≡ true → IsClear p)
      → (j : ℕ) → counted j ≡ true → written_at (all_written ws ps) j f ≡ false
  table_none [] ws h k j c = h j c
  table_none (p ∷ ps) ws h k j c =
      table_none ps (ws ++ written_by (written_at ws) p ∷ [])
      (λ l d. snoc ws (written_by (written_at ws) p) f l (h l d) (own l d))
      (λ i q e d. k (suc i) q e (subst (λ n. counted n ≡ true) (there i) d)) j c
    where
      there : (i : ℕ) → length (ws ++ written_by (written_at ws) p ∷ []) + i ≡ length ws + suc i
      there i = omega (arith, one_longer ws (written_by (written_at ws) p))

      own : (l : ℕ) → counted l ≡ true → l ≡ length ws → written_by (written_at ws) p f ≡ false
      own l d q =
          let here : l ≡ length ws + zero = omega (arith, q) in
          let r = k zero p refl (subst (λ n. counted n ≡ true) here d) in
          writes_none f (written_at ws) p.body r.0 (λ m e. h m (r.1 m e))

nothing_written : (f j : ℕ) → written_at [] j f ≡ false
nothing_written f zero = refl
nothing_written f (suc j) = refl

-- ---- a unit

module _ (program : Program) (what : List Printing) (f : ℕ) (unit : IsUnit program) (unused : is_used program what f ≡ false) where
  abbrev counted_here : ℕ → Bool
  counted_here = counts program what

  not_used : (i : ℕ) (p : Procedure) → slice_get program.procedures i ≡ Some p → counted_here (zero + i) ≡ true → in_procedure f p ≡ false
  not_used i p e c = go (in_procedure f p) refl
    where
      go : (t : Bool) → in_procedure f p ≡ t → t ≡ false
      go false u = refl
      go true u = absurd (true≢false (sym (used_at counted_here f program.procedures zero i p e c u) ∙ unused))

  clear : (i : ℕ) (p : Procedure) → slice_get program.procedures i ≡ Some p → counted_here (zero + i) ≡ true → IsClear counted_here f p
  clear i p e c =
      let here : zero + i ≡ i = omega arith in (
        (neither (in_conditions f p.asserts) (in_block f p.body) (not_used i p e c)).1,
        λ j u. closed_is_closed (λ q. true) (is_listed what) program.procedures i j p (λ l m q g d. calls_before program.fields (length program.memories) program.procedures l m q unit.procedures g d) e (ap counted_here (sym here) ∙ c) refl u,
      )

  written_none : (j : ℕ) → counted_here j ≡ true → unit_writes program.procedures j f ≡ false
  written_none = table_none counted_here f program.procedures [] (λ j c. nothing_written f j) clear

  body_writes_none : (k : ℕ) (p : Procedure) → slice_get program.procedures k ≡ Some p → counted_here k ≡ true → writes_field (unit_writes program.procedures) f p.body ≡ false
  body_writes_none k p e c =
      let here : zero + k ≡ k = omega arith in
      let r = clear k p e (ap counted_here here ∙ c) in
      writes_none f (unit_writes program.procedures) p.body r.0 (λ j u. written_none j (r.1 j u))

given : {A : Type 0} {a : A} (t : Bool) (o : Option A) → where_true t o ≡ Some a → o ≡ Some a
given true o e = e
given false o e = absurd (nothing e)
  where
    nothing : {A : Type 0} {a : A} → None ≡ Some a → ⊥
    nothing d = cc

not_both : (a b : Bool) → b ≡ true → (a && b) ≡ false → a ≡ false
not_both false b e h = refl
not_both true b e h = absurd (true≢false (sym e ∙ h))

pub undeclared_fields_stay : UndeclaredFieldsStay
undeclared_fields_stay program what k f p s t unit at c there declared ran =
    let world = program_world program in
    let unused = not_both (is_used program what f) (nat_lt f (length program.fields)) there declared in
    let kept = fields_are_kept world (unit_writes program.procedures) (unit_leaves (kinds_of program.fields) program.procedures) f p.body (body_writes_none program what f unit unused k p at c) s in
    subst (λ o. IfSome o (HasField f s)) (given (all_have_extents s.scene p.params) (run world p.body s) ran) kept

-- ---- the instance

two_fields_unit : IsUnit two_fields
two_fields_unit = record {
  procedures = (record { params = refl; asserts = refl; body = refl; filled = refl; ids = refl; distinct = refl; paths = refl; template = refl }, tt);
  fields = refl;
  memories = refl;
  spaces = refl;
  counts = refl;
}

pub one_of_two : OneOfTwo
one_of_two = record {
  unit = two_fields_unit;
  counted = refl;
  first = refl;
  second = refl;
  stays = λ s t ran. undeclared_fields_stay two_fields setter_printed 0 1 setter s t two_fields_unit refl refl refl refl ran;
}
