-- The run of the first example.
use Rattle.std.proofs.Common.{◌≡◌, ◌<◌, ◌^◌, ◌==◌, ℕ, zero, suc, ℤ, pos, ◌*ℤ◌, ◌+ℤ◌, ◌≤ℤ◌, Bool, true, false, ◌||◌, ◌&&◌, cond, List, [], ◌∷◌, Option, Some, None, refl, sym, ap, ◌∙◌, subst, arith, true≢false, eqb-true, nat_lt, slice_get}
use Rattle.std.specs.Int.{int_wrap}
use Rattle.std.proofs.lemmas.Int.{ints}
use Rattle.exo_tree.specs.Tree.{I32, Procedure}
use Rattle.exo_tree.specs.Calls.{calls}
use Rattle.exo_meaning.specs.Value.{Undefined, Number, wrap}
use Rattle.exo_meaning.specs.Scene.{Shape, whole}
use Rattle.exo_meaning.specs.Orders.{Each}
use Rattle.exo_meaning.specs.Run.{product, tensor, program_world}
use Rattle.exo_meaning.specs.Inputs.{IsValid, IsBetween, IsIndex, FitsCell, offset, is_buffer_of}
use Rattle.exo_meaning.specs.Units.{IsUnit}
use Rattle.memory_kinds.specs.Faults.{fault_of}
use Rattle.c_tree.specs.Names.Words.{is_word}
use Rattle.c_tree.specs.Names.Clash.{first_clash}
use Rattle.c_unit_laws.specs.Follows.Machine.Machine.{Outcome, Machine}
use Rattle.c_unit_laws.specs.Follows.Machine.CRun.{run_file}
use Rattle.c_lowering.specs.Made.LoweredUnit.{Printing, is_listed, is_used, global_names, lowered}
use Rattle.c_unit_laws.specs.Follows.SameInput.{AreSeparate}
use Rattle.c_unit_laws.specs.Follows.Grounds.{declared_in}
use Rattle.c_unit_laws.specs.Follows.Units.{IsListing, AreLowered, IsSameStart}
use Rattle.c_unit_laws.specs.ClosedRuns.Add3.{add3, add3_program, add3_printed, by_argument, four_long, input, layout, object, machine, things, Add3Runs}
use Rattle.c_unit_laws.proofs.OfClosedRuns.Entries.{none_some, some_same, no_number, no_entry, machine_of, one_index}
use Rattle.c_unit_laws.specs.Follows.Machine.Examples.{no_templates}

-- ---- the C

add3_unit : IsUnit add3_program
add3_unit = record {
  procedures = (record { params = refl; asserts = refl; body = refl; filled = refl; ids = refl; distinct = refl; paths = refl; template = refl }, tt);
  fields = refl;
  memories = refl;
  spaces = refl;
  counts = refl;
}

abbrev IsThere : Printing → Type 0
IsThere w = (p : Procedure) × (slice_get add3_program.procedures w.proc ≡ Some p) × (p.template ≡ None)

add3_listing : IsListing add3_program add3_printed
add3_listing = record { there = there; ascends = ascends; closed = closed }
  where
    there : (i : ℕ) (w : Printing) → slice_get add3_printed i ≡ Some w → IsThere w
    there zero w e = subst IsThere (some_same e) (add3, refl, refl)
    there (suc i) w e = absurd (no_entry i e)

    ascends : (i j : ℕ) (w v : Printing) → slice_get add3_printed i ≡ Some w → slice_get add3_printed j ≡ Some v → i < j → w.proc < v.proc
    ascends zero zero w v e f h = absurd (omega (arith, h))
    ascends zero (suc j) w v e f h = absurd (no_entry j f)
    ascends (suc i) j w v e f h = absurd (no_entry i e)

    only : (w : Printing) (p : Procedure) → slice_get add3_printed 0 ≡ Some w → slice_get add3_program.procedures w.proc ≡ Some p → add3 ≡ p
    only w p e f = some_same (ap (λ z. slice_get add3_program.procedures z.proc) (some_same e) ∙ f)

    closed : (i j : ℕ) (w : Printing) (p q : Procedure) → slice_get add3_printed i ≡ Some w → slice_get add3_program.procedures w.proc ≡ Some p → slice_get add3_program.procedures j ≡ Some q → calls j p.body ≡ true → q.template ≡ None → is_listed add3_printed j ≡ true
    closed zero j w p q e f h c t = absurd (true≢false (sym c ∙ ap (λ z. calls j z.body) (sym (only w p e f))))
    closed (suc i) j w p q e f h c t = absurd (no_entry i e)

add3_named : first_clash (global_names add3_program add3_printed) ≡ None
unfolding is_word
add3_named = refl

add3_lowered : AreLowered fault_of add3_program add3_printed
add3_lowered = record { listing = add3_listing; memories = memories; narrow = refl; named = add3_named; few = omega arith }
  where
    memories : (k : ℕ) → is_listed add3_printed k ≡ true → fault_of add3_program k ≡ None
    memories k h = go (k == 0) refl h
      where
        go : (t : Bool) → (k == 0) ≡ t → (t || false) ≡ true → fault_of add3_program k ≡ None
        go true e i = ap (fault_of add3_program) (eqb-true k 0 e)
        go false e i = absurd (true≢false (sym i))

-- ---- the input

-- what holds of each of three holds of one of them
by_one : {A : Type 0} (P : A → Type 0) (a b c : A) (x : ℕ) → (x ≡ 0 → P a) → (x ≡ 1 → P b) → P c → P (by_argument a b c x)
by_one P a b c x h k l = go (x == 0) (x == 1) refl refl
  where
    go : (s t : Bool) → (x == 0) ≡ s → (x == 1) ≡ t → P (cond s a (cond t b c))
    go true t e f = h (eqb-true x 0 e)
    go false true e f = k (eqb-true x 1 f)
    go false false e f = l

zero_fits : wrap I32 (pos 0) ≡ pos 0
unfolding int_wrap
zero_fits = refl

seven_fits : wrap I32 (pos 7) ≡ pos 7
unfolding int_wrap
seven_fits = refl

abbrev buffer : Option Shape
buffer = Some (tensor I32 four_long)

the_shape : (b : ℕ) (shape : Shape) → input.scene.buffers b ≡ Some shape → shape ≡ tensor I32 four_long
the_shape b shape = by_one (λ o. o ≡ Some shape → shape ≡ tensor I32 four_long) buffer buffer None b (λ i e. sym (some_same e)) (λ i e. sym (some_same e)) (λ e. absurd (none_some e))

-- a buffer that is there holds numbers, and one that is not there holds nothing
held : (b : ℕ) {P : Type 0} → (input.scene.buffers b ≡ None → ((at : List ℤ) → input.cells b at ≡ Undefined) → P) → (input.scene.buffers b ≡ buffer → ((at : List ℤ) → (n : ℤ) × (input.cells b at ≡ Number n)) → P) → P
held b {P = P} h k = go (b == 0) (b == 1) refl refl
  where
    go : (s t : Bool) → (b == 0) ≡ s → (b == 1) ≡ t → P
    go true t e f = k (ap (λ u. cond u buffer (cond (b == 1) buffer None)) e) (λ at. (pos 0, ap (λ u. cond u (Number (pos 0)) (cond (b == 1) (Number (pos 7)) Undefined)) e))
    go false true e f = k (ap (λ u. cond u buffer (cond (b == 1) buffer None)) e ∙ ap (λ u. cond u buffer None) f) (λ at. (pos 7, ap (λ u. cond u (Number (pos 0)) (cond (b == 1) (Number (pos 7)) Undefined)) e ∙ ap (λ u. cond u (Number (pos 7)) Undefined) f))
    go false false e f = h (ap (λ u. cond u buffer (cond (b == 1) buffer None)) e ∙ ap (λ u. cond u buffer None) f) (λ at. ap (λ u. cond u (Number (pos 0)) (cond (b == 1) (Number (pos 7)) Undefined)) e ∙ ap (λ u. cond u (Number (pos 7)) Undefined) f)

same_one : (m n : ℤ) → (pos 1 *ℤ m) +ℤ pos 0 ≡ (pos 1 *ℤ n) +ℤ pos 0 → m ≡ n
same_one m n e = omega (arith, ints, e)

indices_apart : (i j : List ℤ) → IsIndex four_long i → IsIndex four_long j → offset (pos 1 ∷ []) i ≡ offset (pos 1 ∷ []) j → i ≡ j
indices_apart i j h k e =
    let m = one_index (pos 4) i h in
    let n = one_index (pos 4) j k in
    m.1 ∙ (ap (λ z. z ∷ []) (same_one m.0 n.0 (sym (ap (offset (pos 1 ∷ [])) m.1) ∙ (e ∙ ap (offset (pos 1 ∷ [])) n.1))) ∙ sym n.1)

not_argument : (x : ℕ) → is_buffer_of x add3.params ≡ false → (input.scene.buffers x ≡ None) × (input.scene.views x ≡ None)
not_argument x h = go (x == 0) (x == 1) refl refl h
  where
    go : (s t : Bool) → (x == 0) ≡ s → (x == 1) ≡ t → (s || (t || false)) ≡ false → (input.scene.buffers x ≡ None) × (input.scene.views x ≡ None)
    go true t e f i = absurd (true≢false i)
    go false true e f i = absurd (true≢false i)
    go false false e f i =
        let seen = Some (record { buffer = x; sides = whole four_long }) in
        (ap (λ u. cond u buffer (cond (x == 1) buffer None)) e ∙ ap (λ u. cond u buffer None) f, ap (λ u. cond u seen (cond (x == 1) seen None)) e ∙ ap (λ u. cond u seen None) f)

abbrev BelowLarge : Shape → Type 0
BelowLarge shape = product shape.dims ≤ℤ pos (2 ^ 48)

valid_input : IsValid (program_world add3_program) add3 input
valid_input = record {
  admissible = record {
    arguments = ((refl, refl), ((refl, refl), tt));
    no_others = λ x h. (refl, (not_argument x h).0, (not_argument x h).1);
    cells = λ b shape e at. subst (λ z. FitsCell z.cell (input.cells b at)) (sym (the_shape b shape e)) (by_one (FitsCell I32) (Number (pos 0)) (Number (pos 7)) Undefined b (λ i. zero_fits) (λ i. seven_fits) tt);
    tidy = λ b e at. held b (λ n all. all at) (λ s all. absurd (none_some (sym e ∙ s)));
    fields = λ f. tt;
    asserts = refl;
  };
  bounded = (tt, (tt, tt));
  fields = λ f. (omega (arith, ints), omega (arith, ints));
  cells = λ b shape e. subst BelowLarge (sym (the_shape b shape e)) (omega (arith, ints));
  strides = λ b shape e. subst (λ z. Each (IsBetween (pos 0) (pos (2 ^ 48))) z.strides) (sym (the_shape b shape e)) ((omega (arith, ints), omega (arith, ints)), tt);
  separate = λ b shape e. subst (λ z. (i j : List ℤ) → IsIndex z.dims i → IsIndex z.dims j → offset z.strides i ≡ offset z.strides j → i ≡ j) (sym (the_shape b shape e)) indices_apart;
  defined = λ b shape e at h. held b (λ n all. absurd (none_some (sym n ∙ e))) (λ s all. λ u. no_number (sym (all at).1 ∙ u));
}

-- ---- the same beginning

objects_apart : AreSeparate layout input
objects_apart x y shape other e f at bt r q alike = go (x == 0) (y == 0) (x == 1) (y == 1) refl refl refl refl
  where
    same : (layout x).object ≡ (layout y).object
    same = ap (λ z. z.object) alike

    no_buffer : (z : ℕ) (own : Shape) → (z == 0) ≡ false → (z == 1) ≡ false → input.scene.buffers z ≡ Some own → ⊥
    no_buffer z own i j k = none_some (sym (ap (λ u. cond u buffer (cond (z == 1) buffer None)) i ∙ ap (λ u. cond u buffer None) j) ∙ k)

    first_object : (z : ℕ) → (z == 0) ≡ true → (layout z).object ≡ 0
    first_object z i = ap (λ u. cond u 0 (cond (z == 1) 1 1)) i

    other_object : (z : ℕ) → (z == 0) ≡ false → (layout z).object ≡ 1
    other_object z i = ap (λ u. cond u 0 (cond (z == 1) 1 1)) i ∙ one (z == 1)
      where
        one : (t : Bool) → ◌≡◌ {A = ℕ} (cond t 1 1) 1
        one true = refl
        one false = refl

    zero_one : (m n : ℕ) → m ≡ 0 → n ≡ 1 → m ≡ n → ⊥
    zero_one m n i j k = omega (arith, i, j, k)

    go : (s t u v : Bool) → (x == 0) ≡ s → (y == 0) ≡ t → (x == 1) ≡ u → (y == 1) ≡ v → x ≡ y
    go true true u v i j k l = eqb-true x 0 i ∙ sym (eqb-true y 0 j)
    go true false u v i j k l = absurd (zero_one (layout x).object (layout y).object (first_object x i) (other_object y j) same)
    go false true u v i j k l = absurd (zero_one (layout y).object (layout x).object (first_object y j) (other_object x i) (sym same))
    go false false true true i j k l = eqb-true x 1 k ∙ sym (eqb-true y 1 l)
    go false false false v i j k l = absurd (no_buffer x shape i k e)
    go false false true false i j k l = absurd (no_buffer y other j l f)

no_field : (f : ℕ) → declared_in add3_program add3_printed f ≡ true → ⊥
no_field f h = go (is_used add3_program add3_printed f) h
  where
    none_below : nat_lt f 0 ≡ true → ⊥
    none_below e = grind arith

    go : (t : Bool) → (t && nat_lt f 0) ≡ true → ⊥
    go true e = none_below e
    go false e = true≢false (sym e)

same_start : IsSameStart add3_program add3_printed add3 layout input things machine
same_start = record {
  arguments = (record { object = object; thing = refl; begins = refl; there = refl; below = refl; same_cell = refl; room = omega (arith, ints); few = omega (arith, ints); contents = λ at h. refl }, (record { object = object; thing = refl; begins = refl; there = refl; below = refl; same_cell = refl; room = omega (arith, ints); few = omega (arith, ints); contents = λ at h. refl }, tt));
  fields = λ f h. absurd (no_field f h);
  separate = objects_apart;
}

no_text : (k : ℕ) (p : Procedure) (text : List ℕ) → slice_get add3_program.procedures k ≡ Some p → p.template ≡ Some text → ⊥
no_text zero p text e t = none_some (ap (λ z. z.template) (some_same e) ∙ t)
no_text (suc k) p text e t = no_entry k e

abbrev ran : Outcome Machine
ran = run_file (lowered add3_program add3_printed) no_templates 0 things machine

pub add3_runs : Add3Runs
unfolding is_word int_wrap
add3_runs = record {
  unit = add3_unit;
  lowered_is = add3_lowered;
  none = refl;
  does = λ i k w caller p text there at u e t. absurd (no_text k p text e t);
  valid = valid_input;
  start = same_start;
  runs = refl;
  done = (machine_of ran, refl, refl, refl);
}
