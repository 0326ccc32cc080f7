-- The run of a function on a column.
use Rattle.std.proofs.Common.{◌≡◌, ◌^◌, ◌==◌, ℕ, zero, suc, ℤ, pos, ◌*ℤ◌, ◌+ℤ◌, ◌≤ℤ◌, Bool, true, false, ◌||◌, ◌&&◌, cond, List, [], ◌∷◌, Some, None, refl, sym, ap, ◌∙◌, subst, arith, true≢false, eqb-true, nat_lt, slice_get}
use Rattle.std.specs.Int.{int_wrap}
use Rattle.std.proofs.lemmas.Int.{ints}
use Rattle.exo_tree.specs.Tree.{I32, Procedure}
use Rattle.exo_meaning.specs.Value.{Undefined, Number, wrap}
use Rattle.exo_meaning.specs.Scene.{Shape, whole}
use Rattle.exo_meaning.specs.Orders.{Each}
use Rattle.exo_meaning.specs.Run.{product, program_world}
use Rattle.exo_meaning.specs.Inputs.{IsValid, IsBetween, IsIndex, FitsCell, offset, is_buffer_of}
use Rattle.c_tree.specs.Names.Words.{is_word}
use Rattle.c_unit_laws.specs.Follows.Machine.Machine.{Outcome, IsWindow, Machine}
use Rattle.c_unit_laws.specs.Follows.Machine.CRun.{run_file}
use Rattle.c_lowering.specs.Made.LoweredUnit.{is_used, lowered}
use Rattle.c_lowering.specs.Made.Examples.{fill}
use Rattle.c_unit_laws.specs.Follows.Simulation.{dot}
use Rattle.c_unit_laws.specs.Follows.SameInput.{AreSeparate, IsSameWindow}
use Rattle.c_unit_laws.specs.Follows.Grounds.{declared_in}
use Rattle.c_unit_laws.specs.Follows.Units.{IsSameStart}
use Rattle.c_unit_laws.specs.Instance.{column_program, both_printed}
use Rattle.c_unit_laws.specs.ClosedRuns.FilledColumn.{column, input, layout, things, FilledColumn}
use Rattle.c_unit_laws.proofs.OfClosedRuns.Entries.{none_some, some_same, no_number, no_entry, machine_of, one_index, one_in_range}
use Rattle.c_unit_laws.specs.ColumnRun.{machine}
use Rattle.c_unit_laws.specs.Follows.Machine.Examples.{no_templates}

-- ---- the one buffer, which has the number 1

-- by whether it is that of w
held : (b : ℕ) {P : Type 0} → (input.scene.buffers b ≡ None → ((at : List ℤ) → input.cells b at ≡ Undefined) → P) → (b ≡ 1 → P) → P
held b {P = P} h k = go (b == 1) refl
  where
    go : (t : Bool) → (b == 1) ≡ t → P
    go true e = k (eqb-true b 1 e)
    go false e = h (ap (λ u. cond u (Some column) None) e) (λ at. ap (λ u. cond u (Number (pos 0)) Undefined) e)

the_shape : (b : ℕ) (shape : Shape) → input.scene.buffers b ≡ Some shape → column ≡ shape
the_shape b shape e = held b (λ n all. absurd (none_some (sym n ∙ e))) (λ i. some_same (sym (ap input.scene.buffers i) ∙ e))

zero_fits : wrap I32 (pos 0) ≡ pos 0
unfolding int_wrap
zero_fits = refl

held_fits : (b : ℕ) (at : List ℤ) → FitsCell I32 (input.cells b at)
held_fits b at = held b (λ n all. subst (FitsCell I32) (sym (all at)) tt) (λ i. subst (λ z. FitsCell I32 (input.cells z at)) (sym i) zero_fits)

defined : (b : ℕ) (shape : Shape) (at : List ℤ) → input.scene.buffers b ≡ Some shape → input.cells b at ≡ Undefined → ⊥
defined b shape at e u = held b (λ n all. none_some (sym n ∙ e)) (λ i. no_number (sym (ap (λ z. input.cells z at) i) ∙ u))

tidy : (b : ℕ) (at : List ℤ) → input.scene.buffers b ≡ None → input.cells b at ≡ Undefined
tidy b at e = held b (λ n all. all at) (λ i. absurd (none_some (sym e ∙ ap input.scene.buffers i)))

same_two : (m n : ℤ) → (pos 2 *ℤ m) +ℤ pos 0 ≡ (pos 2 *ℤ n) +ℤ pos 0 → m ≡ n
same_two m n e = omega (arith, ints, e)

indices_apart : (i j : List ℤ) → IsIndex column.dims i → IsIndex column.dims j → offset column.strides i ≡ offset column.strides j → i ≡ j
indices_apart i j h k e =
    let m = one_index (pos 2) i h in
    let n = one_index (pos 2) j k in
    m.1 ∙ (ap (λ z. z ∷ []) (same_two m.0 n.0 (sym (ap (offset column.strides) m.1) ∙ (e ∙ ap (offset column.strides) n.1))) ∙ sym n.1)

abbrev StandsForNothing : ℕ → Type 0
StandsForNothing x = (input.scene.control x ≡ pos 0) × (input.scene.buffers x ≡ None) × (input.scene.views x ≡ None)

not_argument : (x : ℕ) → is_buffer_of x fill.params ≡ false → StandsForNothing x
not_argument x h = go (x == 0) (x == 1) refl refl h
  where
    go : (s t : Bool) → (x == 0) ≡ s → (x == 1) ≡ t → (s || (t || false)) ≡ false → StandsForNothing x
    go true t e f i = absurd (true≢false i)
    go false true e f i = absurd (true≢false i)
    go false false e f i =
        (ap (λ u. cond u (pos 2) (pos 0)) e, ap (λ u. cond u (Some column) None) f, ap (λ u. cond u (Some (record { buffer = x; sides = whole (pos 2 ∷ []) })) None) f)

abbrev BelowLarge : Shape → Type 0
BelowLarge shape = product shape.dims ≤ℤ pos (2 ^ 48)

valid_input : IsValid (program_world column_program) fill input
valid_input = record {
  admissible = record {
    arguments = ((omega (arith, ints), refl, refl), ((column.strides, (refl, refl)), tt));
    no_others = not_argument;
    cells = λ b shape e at. subst (λ z. FitsCell z.cell (input.cells b at)) (the_shape b shape e) (held_fits b at);
    tidy = λ b e at. tidy b at e;
    fields = λ f. tt;
    asserts = refl;
  };
  bounded = ((omega (arith, ints), omega (arith, ints)), (tt, tt));
  fields = λ f. (omega (arith, ints), omega (arith, ints));
  cells = λ b shape e. subst BelowLarge (the_shape b shape e) (omega (arith, ints));
  strides = λ b shape e. subst (λ z. Each (IsBetween (pos 0) (pos (2 ^ 48))) z.strides) (the_shape b shape e) ((omega (arith, ints), omega (arith, ints)), tt);
  separate = λ b shape e. subst (λ z. (i j : List ℤ) → IsIndex z.dims i → IsIndex z.dims j → offset z.strides i ≡ offset z.strides j → i ≡ j) (the_shape b shape e) indices_apart;
  defined = λ b shape e at h u. defined b shape at e u;
}

-- ---- the same beginning

lies_inside : (n : ℤ) → (n +ℤ pos 1) ≤ℤ pos 2 → ((pos 1 +ℤ ((n *ℤ pos 2) +ℤ pos 0)) +ℤ pos 1) ≤ℤ pos 4
lies_inside n h = omega (arith, ints, h)

two_apart : (m n : ℤ) → (m *ℤ pos 2) +ℤ pos 0 ≡ (n *ℤ pos 2) +ℤ pos 0 → m ≡ n
two_apart m n e = omega (arith, ints, e)

same_window : IsSameWindow layout input machine 1 I32 (pos 2 ∷ []) (IsWindow (layout 1) (pos 2 ∷ []))
same_window = record {
  shape = column;
  object = record { cell = I32; size = pos 4; heap = false };
  buffer = refl;
  thing = refl;
  there = refl;
  below = refl;
  same_cell = refl;
  few = omega (arith, ints);
  ranks = refl;
  above = omega (arith, ints);
  inside = λ at h. let i = one_in_range at h in subst (λ z. ((pos 1 +ℤ dot z column.strides) +ℤ pos 1) ≤ℤ pos 4) (sym i.1) (lies_inside i.0 i.3);
  apart = λ at bt h k e.
      let i = one_in_range at h in
      let j = one_in_range bt k in
      i.1 ∙ (ap (λ z. z ∷ []) (two_apart i.0 j.0 (sym (ap (λ z. dot z column.strides) i.1) ∙ (e ∙ ap (λ z. dot z column.strides) j.1))) ∙ sym j.1);
  contents = λ at h. refl;
}

one_object : AreSeparate layout input
one_object x y shape other e f at bt r q one = held x (λ n all. absurd (none_some (sym n ∙ e))) (λ i. held y (λ n all. absurd (none_some (sym n ∙ f))) (λ j. i ∙ sym j))

no_field : (f : ℕ) → declared_in column_program both_printed f ≡ true → ⊥
no_field f h = go (is_used column_program both_printed f) h
  where
    none_below : nat_lt f 0 ≡ true → ⊥
    none_below e = grind arith

    go : (t : Bool) → (t && nat_lt f 0) ≡ true → ⊥
    go true e = none_below e
    go false e = true≢false (sym e)

same_start : IsSameStart column_program both_printed fill layout input things machine
same_start = record { arguments = (refl, (same_window, tt)); fields = λ f h. absurd (no_field f h); separate = one_object }

no_text : (k : ℕ) (p : Procedure) (text : List ℕ) → slice_get column_program.procedures k ≡ Some p → p.template ≡ Some text → ⊥
no_text zero p text e t = none_some (ap (λ z. z.template) (some_same e) ∙ t)
no_text (suc zero) p text e t = none_some (ap (λ z. z.template) (some_same e) ∙ t)
no_text (suc (suc k)) p text e t = no_entry k e

abbrev ran : Outcome Machine
ran = run_file (lowered column_program both_printed) no_templates 0 things machine

pub filled_column : FilledColumn
unfolding is_word int_wrap
filled_column = record {
  none = refl;
  does = λ i k w caller p text there at u e t. absurd (no_text k p text e t);
  valid = valid_input;
  start = same_start;
  runs = refl;
  done = (machine_of ran, refl, refl);
}
