-- The closed run.
use Rattle.std.proofs.Common.{◌≡◌, ◌^◌, ◌==◌, ℕ, ℤ, pos, ◌*ℤ◌, ◌+ℤ◌, ◌≤ℤ◌, Bool, true, false, ◌||◌, ◌&&◌, cond, List, [], ◌∷◌, Some, None, refl, sym, ap, ◌∙◌, subst, arith, true≢false, eqb-true, nat_lt}
use Rattle.std.specs.Int.{int_wrap}
use Rattle.std.proofs.lemmas.Int.{ints}
use Rattle.exo_tree.specs.Tree.{I32}
use Rattle.exo_meaning.specs.Value.{Undefined, Number, wrap}
use Rattle.exo_meaning.specs.Scene.{Shape, where_true, is_below, whole}
use Rattle.exo_meaning.specs.Orders.{Each}
use Rattle.exo_meaning.specs.Run.{product, tensor, program_world}
use Rattle.exo_meaning.specs.Inputs.{IsValid, IsBetween, IsIndex, FitsCell, offset, is_buffer_of}
use Rattle.c_tree.specs.Names.Words.{is_word}
use Rattle.c_unit_laws.specs.Follows.Machine.Machine.{Outcome, Machine}
use Rattle.c_unit_laws.specs.Follows.Machine.CRun.{run_file}
use Rattle.c_lowering.specs.Made.LoweredUnit.{is_used, lowered}
use Rattle.c_lowering.specs.Made.Examples.{copy8, vector_program}
use Rattle.c_unit_laws.specs.Follows.SameInput.{AreSeparate}
use Rattle.c_unit_laws.specs.Follows.Grounds.{declared_in}
use Rattle.c_unit_laws.specs.Follows.Units.{IsSameStart}
use Rattle.c_unit_laws.proofs.OfFollows.Instance.{machine_of}
use Rattle.c_unit_laws.specs.Instance.{copy_printed}
use Rattle.c_unit_laws.specs.Runs.{by_argument, eight_long, input, layout, object, machine, things, templates, VectorsRun}
use Rattle.c_unit_laws.proofs.Standing.{none_some, some_same}
use Rattle.c_unit_laws.proofs.Instance.{vectors_have_c}
use Rattle.c_unit_laws.proofs.Bodies.{bodies_are_templates}

-- what holds of each of three holds of one of them
by_one : {A : Type 0} (P : A → Type 0) (a b c : A) (x : ℕ) → (x ≡ 6 → P a) → (x ≡ 7 → P b) → P c → P (by_argument a b c x)
by_one P a b c x h k l = go (x == 6) (x == 7) refl refl
  where
    go : (s t : Bool) → (x == 6) ≡ s → (x == 7) ≡ t → P (cond s a (cond t b c))
    go true t e f = h (eqb-true x 6 e)
    go false true e f = k (eqb-true x 7 f)
    go false false e f = l

seven_fits : wrap I32 (pos 7) ≡ pos 7
unfolding int_wrap
seven_fits = refl

zero_fits : wrap I32 (pos 0) ≡ pos 0
unfolding int_wrap
zero_fits = refl

the_shape : (b : ℕ) (shape : Shape) → input.scene.buffers b ≡ Some shape → shape ≡ tensor I32 eight_long
the_shape b shape = by_one (λ o. o ≡ Some shape → shape ≡ tensor I32 eight_long) (Some (tensor I32 eight_long)) (Some (tensor I32 eight_long)) None b (λ i e. sym (some_same e)) (λ i e. sym (some_same e)) (λ e. absurd (none_some e))

-- ---- the input

-- by whether it is an argument
held : (b : ℕ) {P : Type 0} → (input.scene.buffers b ≡ None → ((at : List ℤ) → input.cells b at ≡ Undefined) → P) → (input.scene.buffers b ≡ Some (tensor I32 eight_long) → ((at : List ℤ) → (n : ℤ) × (input.cells b at ≡ Number n)) → P) → P
held b {P = P} h k = go (b == 6) (b == 7) refl refl
  where
    go : (s t : Bool) → (b == 6) ≡ s → (b == 7) ≡ t → P
    go true t e f = k (ap (λ u. cond u (Some (tensor I32 eight_long)) (cond (b == 7) (Some (tensor I32 eight_long)) None)) e) (λ at. (pos 7, ap (λ u. cond u (Number (pos 7)) (cond (b == 7) (Number (pos 0)) Undefined)) e))
    go false true e f = k (ap (λ u. cond u (Some (tensor I32 eight_long)) (cond (b == 7) (Some (tensor I32 eight_long)) None)) e ∙ ap (λ u. cond u (Some (tensor I32 eight_long)) None) f) (λ at. (pos 0, ap (λ u. cond u (Number (pos 7)) (cond (b == 7) (Number (pos 0)) Undefined)) e ∙ ap (λ u. cond u (Number (pos 0)) Undefined) f))
    go false false e f = h (ap (λ u. cond u (Some (tensor I32 eight_long)) (cond (b == 7) (Some (tensor I32 eight_long)) None)) e ∙ ap (λ u. cond u (Some (tensor I32 eight_long)) None) f) (λ at. ap (λ u. cond u (Number (pos 7)) (cond (b == 7) (Number (pos 0)) Undefined)) e ∙ ap (λ u. cond u (Number (pos 0)) Undefined) f)

no_number : {n : ℤ} → Number n ≡ Undefined → ⊥
no_number e = cc

-- one index tells a cell
one_index : (i : List ℤ) → IsIndex eight_long i → (n : ℤ) × (i ≡ n ∷ [])
one_index [] h = absurd (none_some h)
one_index (n ∷ []) h = (n, refl)
one_index (n ∷ (m ∷ is)) h = absurd (too_long (is_below n (pos 8)) h)
  where
    too_long : {A : Type 0} {a : A} (t : Bool) → where_true t None ≡ Some a → ⊥
    too_long true e = none_some e
    too_long false e = none_some e

same_one : (m n : ℤ) → (pos 1 *ℤ m) +ℤ pos 0 ≡ (pos 1 *ℤ n) +ℤ pos 0 → m ≡ n
same_one m n e = omega (arith, ints, e)

indices_apart : (i j : List ℤ) → IsIndex eight_long i → IsIndex eight_long j → offset (pos 1 ∷ []) i ≡ offset (pos 1 ∷ []) j → i ≡ j
indices_apart i j h k e =
    let m = one_index i h in
    let n = one_index j k in
    m.1 ∙ (ap (λ z. z ∷ []) (same_one m.0 n.0 (sym (ap (offset (pos 1 ∷ [])) m.1) ∙ (e ∙ ap (offset (pos 1 ∷ [])) n.1))) ∙ sym n.1)

not_argument : (x : ℕ) → is_buffer_of x copy8.params ≡ false → (input.scene.buffers x ≡ None) × (input.scene.views x ≡ None)
not_argument x h = go (x == 6) (x == 7) refl refl h
  where
    go : (s t : Bool) → (x == 6) ≡ s → (x == 7) ≡ t → (s || (t || false)) ≡ false → (input.scene.buffers x ≡ None) × (input.scene.views x ≡ None)
    go true t e f i = absurd (true≢false i)
    go false true e f i = absurd (true≢false i)
    go false false e f i =
        let seen = Some (record { buffer = x; sides = whole eight_long }) in
        let buffer = Some (tensor I32 eight_long) in
        (ap (λ u. cond u buffer (cond (x == 7) buffer None)) e ∙ ap (λ u. cond u buffer None) f, ap (λ u. cond u seen (cond (x == 7) seen None)) e ∙ ap (λ u. cond u seen None) f)

abbrev BelowLarge : Shape → Type 0
BelowLarge shape = product shape.dims ≤ℤ pos (2 ^ 48)

valid_input : IsValid (program_world vector_program) copy8 input
valid_input = record {
  admissible = record {
    arguments = ((refl, refl), ((refl, refl), tt));
    no_others = λ x h. (refl, (not_argument x h).0, (not_argument x h).1);
    cells = λ b shape e at. subst (λ z. FitsCell z.cell (input.cells b at)) (sym (the_shape b shape e)) (by_one (FitsCell I32) (Number (pos 7)) (Number (pos 0)) Undefined b (λ i. seven_fits) (λ i. zero_fits) tt);
    tidy = λ b e at. held b (λ n all. all at) (λ s all. absurd (none_some (sym e ∙ s)));
    fields = λ f. tt;
    asserts = refl;
  };
  bounded = (tt, (tt, tt));
  fields = λ f. (omega (arith, ints), omega (arith, ints));
  cells = λ b shape e. subst BelowLarge (sym (the_shape b shape e)) (omega (arith, ints));
  strides = λ b shape e. subst (λ z. Each (IsBetween (pos 0) (pos (2 ^ 48))) z.strides) (sym (the_shape b shape e)) ((omega (arith, ints), omega (arith, ints)), tt);
  separate = λ b shape e. subst (λ z. (i j : List ℤ) → IsIndex z.dims i → IsIndex z.dims j → offset z.strides i ≡ offset z.strides j → i ≡ j) (sym (the_shape b shape e)) indices_apart;
  defined = λ b shape e at h. held b (λ n all. absurd (none_some (sym n ∙ e))) (λ s all. λ u. no_number (sym (all at).1 ∙ u));
}

-- ---- the same beginning

objects_apart : AreSeparate layout input
objects_apart x y shape other e f at bt r q alike = go (x == 6) (y == 6) (x == 7) (y == 7) refl refl refl refl
  where
    same : (layout x).object ≡ (layout y).object
    same = ap (λ z. z.object) alike

    no_buffer : (z : ℕ) (own : Shape) → (z == 6) ≡ false → (z == 7) ≡ false → input.scene.buffers z ≡ Some own → ⊥
    no_buffer z own i j k =
        let buffer = Some (tensor I32 eight_long) in
        none_some (sym (ap (λ u. cond u buffer (cond (z == 7) buffer None)) i ∙ ap (λ u. cond u buffer None) j) ∙ k)

    first_object : (z : ℕ) → (z == 6) ≡ true → (layout z).object ≡ 0
    first_object z i = ap (λ u. cond u 0 (cond (z == 7) 1 1)) i

    other_object : (z : ℕ) → (z == 6) ≡ false → (layout z).object ≡ 1
    other_object z i = ap (λ u. cond u 0 (cond (z == 7) 1 1)) i ∙ one (z == 7)
      where
        one : (t : Bool) → ◌≡◌ {A = ℕ} (cond t 1 1) 1
        one true = refl
        one false = refl

    zero_one : (m n : ℕ) → m ≡ 0 → n ≡ 1 → m ≡ n → ⊥
    zero_one m n i j k = omega (arith, i, j, k)

    go : (s t u v : Bool) → (x == 6) ≡ s → (y == 6) ≡ t → (x == 7) ≡ u → (y == 7) ≡ v → x ≡ y
    go true true u v i j k l = eqb-true x 6 i ∙ sym (eqb-true y 6 j)
    go true false u v i j k l = absurd (zero_one (layout x).object (layout y).object (first_object x i) (other_object y j) same)
    go false true u v i j k l = absurd (zero_one (layout y).object (layout x).object (first_object y j) (other_object x i) (sym same))
    go false false true true i j k l = eqb-true x 7 k ∙ sym (eqb-true y 7 l)
    go false false false v i j k l = absurd (no_buffer x shape i k e)
    go false false true false i j k l = absurd (no_buffer y other j l f)

no_field : (f : ℕ) → declared_in vector_program copy_printed f ≡ true → ⊥
no_field f h = go (is_used vector_program copy_printed f) h
  where
    below : nat_lt f 0 ≡ true → ⊥
    below e = grind arith

    go : (t : Bool) → (t && nat_lt f 0) ≡ true → ⊥
    go true e = below e
    go false e = true≢false (sym e)

same_start : IsSameStart vector_program copy_printed copy8 layout input things machine
same_start = record {
  arguments = (record { object = object; thing = refl; begins = refl; there = refl; below = refl; same_cell = refl; room = omega (arith, ints); few = omega (arith, ints); contents = λ at h. refl }, (record { object = object; thing = refl; begins = refl; there = refl; below = refl; same_cell = refl; room = omega (arith, ints); few = omega (arith, ints); contents = λ at h. refl }, tt));
  fields = λ f h. absurd (no_field f h);
  separate = objects_apart;
}

abbrev ran : Outcome Machine
ran = run_file (lowered vector_program copy_printed) templates 0 things machine

pub vectors_run : VectorsRun
unfolding is_word int_wrap
vectors_run = record {
  does = bodies_are_templates vector_program copy_printed vectors_have_c.unit vectors_have_c.lowered;
  valid = valid_input;
  start = same_start;
  runs = refl;
  done = (machine_of ran, refl, refl);
}
