-- A field that the C does not declare is written by no printed procedure, nor by what these call.
use Rattle.std.proofs.Common.{◌≡◌, ◌<◌, ◌+◌, ◌==◌, ◌⊎◌, inl, inr, ⊎_elim, ℕ, zero, suc, Bool, true, false, ◌&&◌}
use Rattle.std.proofs.Common.{◌||◌, List, [], ◌∷◌, ◌++◌, length, take, Option, Some, None, refl, sym, ap, ◌∙◌}
use Rattle.std.proofs.Common.{subst, arith, true≢false, eq-eqb, slice_get, nat_lt, IfSome}
use Rattle.std.proofs.lemmas.Bool.{and_from}
use Rattle.exo_tree.specs.Tree.{Statement, Assign, Reduce, Config, Pass, If, For, Alloc, View, Call, Block}
use Rattle.exo_tree.specs.Tree.{end, next, Procedure, Program}
use Rattle.exo_tree.specs.Calls.{calls, is_call_of}
use Rattle.exo_meaning.specs.Scene.{where_true}
use Rattle.exo_meaning.specs.State.{State}
use Rattle.exo_meaning.specs.Run.{run, program_world, unit_world, kinds_of}
use Rattle.exo_meaning.specs.Inputs.{all_have_extents, run_procedure}
use Rattle.exo_meaning.specs.Units.{scope_of, field_kind, IsUnit}
use Rattle.meaning_laws.specs.Fields.{writes_field, step_writes_field, HasField, FieldsAreKept}
use Rattle.meaning_laws.specs.UnitFields.{written_at, written_by, all_written, unit_writes, UnitLeaves}
use Rattle.exo_modes.proofs.OfCalls.Reach.{seeds_are_closed, closed_is_closed}
use Rattle.c_lowering.specs.Made.LoweredUnit.{Printing, in_condition, in_argument, in_arguments}
use Rattle.c_lowering.specs.Made.LoweredUnit.{in_statement}
use Rattle.c_lowering.specs.Made.LoweredUnit.{in_block, in_conditions, is_listed, counts, is_used}
use Rattle.c_unit_laws.specs.Follows.Grounds.{declared_in}
use Rattle.compile_stages.specs.Undeclared.{UndeclaredFieldsStay}
use Rattle.c_unit_laws.proofs.Fields.{is_there, block_there}
use Rattle.c_unit_laws.proofs.Standing.{some_same, formed_at, calls_before}
use Rattle.c_unit_laws.proofs.Listed.{used_at}

on_left : (a b : Bool) → a ≡ true → (a || b) ≡ true
on_left true b h = refl
on_left false b h = absurd (true≢false (sym h))

on_right : (a b : Bool) → b ≡ true → (a || b) ≡ true
on_right true b h = refl
on_right false b h = h

by_or : {P : Type 0} (a b : Bool) → (a || b) ≡ true → (a ≡ true → P) → (b ≡ true → P) → P
by_or true b h f g = f refl
by_or false b h f g = g h

-- ---- a tree that writes the field uses it, or calls what writes it

module _ (f : ℕ) (table : ℕ → ℕ → Bool) where
  abbrev From : (ℕ → Bool) → Bool → Type 0
  From has uses = (uses ≡ true) ⊎ ((j : ℕ) × (has j ≡ true) × (table j f ≡ true))

  wider : (has more : ℕ → Bool) (uses used : Bool) → ((j : ℕ) → has j ≡ true → more j ≡ true)
      → (uses ≡ true → used ≡ true) → From has uses → From more used
  wider has more uses used called also (inl h) = inl (also h)
  wider has more uses used called also (inr h) = inr (h.0, called h.0 h.1, h.2)

  mutual
    block_from : (b : Block) → writes_field table f b ≡ true → From (λ j. calls j b) (in_block f b)
    block_from end h = absurd (true≢false (sym h))
    block_from (next a b) h =
        by_or (step_writes_field table f a) (writes_field table f b) h
        (λ e. wider (λ j. is_call_of j a) (λ j. calls j (next a b)) (in_statement f a) (in_block f (next a b))
        (λ j. on_left (is_call_of j a) (calls j b)) (on_left (in_statement f a) (in_block f b))
        (statement_from a e))
        (λ e. wider (λ j. calls j b) (λ j. calls j (next a b)) (in_block f b) (in_block f (next a b))
        (λ j. on_right (is_call_of j a) (calls j b)) (on_right (in_statement f a) (in_block f b))
        (block_from b e))

    statement_from : (a : Statement) → step_writes_field table f a ≡ true
        → From (λ j. is_call_of j a) (in_statement f a)
    statement_from (Assign x is e) h = absurd (true≢false (sym h))
    statement_from (Reduce x is e) h = absurd (true≢false (sym h))
    statement_from (Config g a) h = inl (on_left (f == g) (in_argument f a) h)
    statement_from Pass h = absurd (true≢false (sym h))
    statement_from (If c a b) h =
        by_or (writes_field table f a) (writes_field table f b) h
        (λ e. wider (λ j. calls j a) (λ j. calls j a || calls j b) (in_block f a)
        (in_condition f c || in_block f a || in_block f b)
        (λ j. on_left (calls j a) (calls j b))
        (λ u. on_left (in_condition f c || in_block f a) (in_block f b) (on_right (in_condition f c) (in_block f a) u))
        (block_from a e))
        (λ e. wider (λ j. calls j b) (λ j. calls j a || calls j b) (in_block f b)
        (in_condition f c || in_block f a || in_block f b)
        (λ j. on_right (calls j a) (calls j b))
        (on_right (in_condition f c || in_block f a) (in_block f b))
        (block_from b e))
    statement_from (For i lo hi b) h = block_from b h
    statement_from (Alloc x cell dims memory) h = absurd (true≢false (sym h))
    statement_from (View w x coords) h = absurd (true≢false (sym h))
    statement_from (Call k args) h = inr (k, eq-eqb k k refl, h)

-- ---- places of a list with one more

data Place {A : Type 0} (xs : List A) (x : A) (k : ℕ) : Type 0 where
  before : slice_get (xs ++ x ∷ []) k ≡ slice_get xs k → Place xs x k
  last : k ≡ length xs → slice_get (xs ++ x ∷ []) k ≡ Some x → Place xs x k
  behind : slice_get (xs ++ x ∷ []) k ≡ None → Place xs x k

place_of : {A : Type 0} (xs : List A) (x : A) (k : ℕ) → Place xs x k
place_of [] x zero = last refl refl
place_of [] x (suc zero) = behind refl
place_of [] x (suc (suc k)) = behind refl
place_of (y ∷ xs) x zero = before refl
place_of (y ∷ xs) x (suc k) = by (place_of xs x k)
  where
    by : Place xs x k → Place (y ∷ xs) x (suc k)
    by (before e) = before e
    by (last n e) = last (ap suc n) e
    by (behind e) = behind e

one_more : {A : Type 0} (xs : List A) (x : A) → length (xs ++ x ∷ []) ≡ suc (length xs)
one_more [] x = refl
one_more (y ∷ ys) x = ap suc (one_more ys x)

-- ---- the procedures that count

module _ (program : Program) (what : List Printing) (unit : IsUnit program) (f : ℕ)
    (out : declared_in program what f ≡ false) where
  abbrev counted : ℕ → Bool
  counted = counts program what

  -- a field that one of them uses is declared
  declares : (k : ℕ) (p : Procedure) → slice_get program.procedures k ≡ Some p → counted k ≡ true
      → in_block f p.body ≡ true → declared_in program what f ≡ true
  declares k p at c u =
      let here : 0 + k ≡ k = omega arith in
      let own = formed_at program.fields (length program.memories) program.procedures k p unit.procedures at in
      and_from (is_used program what f) (nat_lt f (length program.fields))
      (used_at counted f program.procedures 0 k p at (ap counted here ∙ c)
      (on_right (in_conditions f p.asserts) (in_block f p.body) u))
      (is_there program.fields f
      (block_there (field_kind program.fields) f (length program.memories) _ (scope_of [] p.params) (λ x. x)
      p.body own.body u))

  called_counts : (k j : ℕ) (p : Procedure) → slice_get program.procedures k ≡ Some p → counted k ≡ true
      → calls j p.body ≡ true → counted j ≡ true
  called_counts k j p at c u =
      closed_is_closed (λ q. true) (is_listed what) program.procedures k j p
      (λ i l q e d. calls_before program.fields (length program.memories) program.procedures i l q unit.procedures e d)
      at c refl u

  -- none of them writes the field
  abbrev AreClear : List (ℕ → Bool) → Type 0
  AreClear ws = (j : ℕ) → counted j ≡ true → written_at ws j f ≡ false

  by_body : (ws : List (ℕ → Bool)) → AreClear ws → (k : ℕ) (p : Procedure)
      → slice_get program.procedures k ≡ Some p → counted k ≡ true
      → written_by (written_at ws) p f ≡ false
  by_body ws clear k p at c = go (written_by (written_at ws) p f) refl
    where
      go : (b : Bool) → written_by (written_at ws) p f ≡ b → b ≡ false
      go false e = refl
      go true e =
          ⊎_elim (λ u. absurd (true≢false (sym (declares k p at c u) ∙ out)))
          (λ h. absurd (true≢false (sym h.2 ∙ clear h.0 (called_counts k h.0 p at c h.1))))
          (block_from f (written_at ws) p.body e)

  -- the rest of the unit, behind those of which this is known
  abbrev Follow : List Procedure → ℕ → Type 0
  Follow ps n = (i : ℕ) (p : Procedure) → slice_get ps i ≡ Some p → slice_get program.procedures (n + i) ≡ Some p

  abbrev said : Option (ℕ → Bool) → Bool
  said o = elim o as (λ o. Bool) [ None ↦ false | Some w ↦ w f ]

  one_clear : (ws : List (ℕ → Bool)) → AreClear ws → (p : Procedure)
      → slice_get program.procedures (length ws) ≡ Some p
      → AreClear (ws ++ written_by (written_at ws) p ∷ [])
  one_clear ws clear p at j c = by (place_of ws (written_by (written_at ws) p) j)
    where
      by : Place ws (written_by (written_at ws) p) j
          → written_at (ws ++ written_by (written_at ws) p ∷ []) j f ≡ false
      by (before e) = ap said e ∙ clear j c
      by (last n e) =
          ap said e
          ∙ by_body ws clear j p (ap (slice_get program.procedures) n ∙ at) c
      by (behind e) = ap said e

  all_clear : (ps : List Procedure) (ws : List (ℕ → Bool)) → Follow ps (length ws) → AreClear ws
      → AreClear (all_written ws ps)
  all_clear [] ws follow clear = clear
  all_clear (p ∷ ps) ws follow clear =
      let w = written_by (written_at ws) p in
      let here : length ws + 0 ≡ length ws = omega arith in
      all_clear ps (ws ++ w ∷ [])
      (λ i q e. ap (slice_get program.procedures) (shift i) ∙ follow (suc i) q e)
      (one_clear ws clear p (ap (slice_get program.procedures) (sym here) ∙ follow zero p refl))
    where
      shift : (i : ℕ) → length (ws ++ written_by (written_at ws) p ∷ []) + i ≡ length ws + suc i
      shift i = ap (λ n. n + i) (one_more ws (written_by (written_at ws) p)) ∙ over (length ws) i
        where
          over : (n i : ℕ) → suc n + i ≡ n + suc i
          over n i = omega arith

  none_clear : AreClear []
  none_clear zero c = refl
  none_clear (suc j) c = refl

  from_zero : (i : ℕ) → 0 + i ≡ i
  from_zero i = omega arith

  written_nowhere : AreClear (all_written [] program.procedures)
  written_nowhere = all_clear program.procedures []
      (λ i p e. ap (slice_get program.procedures) (from_zero i) ∙ e) none_clear

  body_clear : (k : ℕ) (p : Procedure) → slice_get program.procedures k ≡ Some p → is_listed what k ≡ true
      → writes_field (unit_writes program.procedures) f p.body ≡ false
  body_clear k p at listed =
      by_body (all_written [] program.procedures) written_nowhere k p at
      (seeds_are_closed (λ q. true) (is_listed what) program.procedures k listed)

runs_inside : (b : Bool) (o : Option State) (t : State) → where_true b o ≡ Some t → o ≡ Some t
runs_inside true o t h = h
runs_inside false o t h = cc

pub undeclared_fields_stay : FieldsAreKept → UnitLeaves → UndeclaredFieldsStay
undeclared_fields_stay kept leaves program what k p f s t unit at listed out ran =
    let world = program_world program in
    let inside = runs_inside (all_have_extents s.scene p.params) (run world p.body s) t ran in
    subst (λ (o : Option State). IfSome o (HasField f s)) inside
    (kept world (unit_writes program.procedures) (leaves (kinds_of program.fields) program.procedures) f p.body
    (body_clear program what unit f out k p at listed) s)
