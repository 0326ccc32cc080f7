-- The closed run with a column.
use Rattle.std.proofs.Common.{◌≡◌, ◌^◌, ◌==◌, ℕ, zero, suc, ℤ, pos, ◌*ℤ◌, ◌+ℤ◌, ◌≤ℤ◌, int_le, int_lt, Bool, true, false, ◌||◌, ◌&&◌, cond, List, [], ◌∷◌, Option, Some, None, option_map, refl, sym, ap, ap₂, ◌∙◌, subst, arith, true≢false, eqb-true, nat_lt, slice_get}
use Rattle.std.specs.Int.{int_wrap}
use Rattle.std.proofs.lemmas.Int.{ints}
use Rattle.std.proofs.lemmas.Bool.{and_parts}
use Rattle.exo_tree.specs.Tree.{I32, Procedure}
use Rattle.exo_meaning.specs.Value.{Undefined, Number, wrap}
use Rattle.exo_meaning.specs.Scene.{Shape, where_true, is_below, whole}
use Rattle.exo_meaning.specs.Orders.{Each}
use Rattle.exo_meaning.specs.Run.{product, tensor, program_world}
use Rattle.exo_meaning.specs.Inputs.{IsValid, IsBetween, IsIndex, FitsCell, offset, is_buffer_of}
use Rattle.c_tree.specs.Names.Words.{is_word}
use Rattle.c_unit_laws.specs.Follows.Machine.Machine.{Outcome, Machine}
use Rattle.c_unit_laws.specs.Follows.Machine.CRun.{run_file}
use Rattle.c_lowering.specs.Made.LoweredUnit.{is_used, lowered}
use Rattle.c_lowering.specs.Made.Examples.{col}
use Rattle.c_unit_laws.specs.Follows.SameInput.{AreSeparate}
use Rattle.c_unit_laws.specs.Follows.Grounds.{declared_in}
use Rattle.c_unit_laws.specs.Follows.Units.{IsSameStart}
use Rattle.c_unit_laws.proofs.OfFollows.Instance.{machine_of}
use Rattle.c_unit_laws.specs.Instance.{filling, column_program, both_printed}
use Rattle.c_unit_laws.specs.ColumnRun.{two_by_two, input, machine, things, ColumnsRun, PrintingsAreComputed}
use Rattle.c_unit_laws.proofs.Standing.{none_some, some_same}
use Rattle.c_unit_laws.proofs.Listed.{no_entry}
use Rattle.c_unit_laws.specs.Follows.Machine.Examples.{no_templates}
use Rattle.c_unit_laws.specs.Follows.Instance.{layout}

zero_fits : wrap I32 (pos 0) ≡ pos 0
unfolding int_wrap
zero_fits = refl

-- ---- the one buffer

-- by whether it is that of A
held : (b : ℕ) {P : Type 0} → (input.scene.buffers b ≡ None → ((at : List ℤ) → input.cells b at ≡ Undefined) → P) → (b ≡ 5 → ((at : List ℤ) → input.cells b at ≡ Number (pos 0)) → P) → P
held b {P = P} h k = go (b == 5) refl
  where
    go : (t : Bool) → (b == 5) ≡ t → P
    go true e = k (eqb-true b 5 e) (λ at. ap (λ u. cond u (Number (pos 0)) Undefined) e)
    go false e = h (ap (λ u. cond u (Some (tensor I32 two_by_two)) None) e) (λ at. ap (λ u. cond u (Number (pos 0)) Undefined) e)

the_shape : (b : ℕ) (shape : Shape) → input.scene.buffers b ≡ Some shape → shape ≡ tensor I32 two_by_two
the_shape b shape e = held b (λ n all. absurd (none_some (sym n ∙ e))) (λ i all. sym (some_same (sym (ap input.scene.buffers i) ∙ e)))

no_number : {n : ℤ} → Number n ≡ Undefined → ⊥
no_number e = cc

-- ---- its indices

where_false : {A : Type 0} {a : A} (t : Bool) (o : Option A) → where_true t o ≡ Some a → t ≡ true
where_false true o e = refl
where_false false o e = absurd (none_some e)

where_none : {A : Type 0} {a : A} (t : Bool) → where_true t None ≡ Some a → ⊥
where_none true e = none_some e
where_none false e = none_some e

-- two indices below 2
pub record Two (i : List ℤ) : Type 0 where
  pub row : ℤ
  pub column : ℤ
  pub is : i ≡ row ∷ column ∷ []
  pub row_above : pos 0 ≤ℤ row
  pub row_below : (row +ℤ pos 1) ≤ℤ pos 2
  pub column_above : pos 0 ≤ℤ column
  pub column_below : (column +ℤ pos 1) ≤ℤ pos 2

below_two : (n : ℤ) → is_below n (pos 2) ≡ true → (pos 0 ≤ℤ n) × ((n +ℤ pos 1) ≤ℤ pos 2)
below_two n h = let p = and_parts (int_le (pos 0) n) (int_lt n (pos 2)) h in (grind (arith, ints, p.0), grind (arith, ints, p.1))

two_indices : (i : List ℤ) → IsIndex two_by_two i → Two i
two_indices [] h = absurd (none_some h)
two_indices (a ∷ []) h = absurd (where_none (is_below a (pos 2)) h)
two_indices (a ∷ (b ∷ [])) h = go (is_below a (pos 2)) (is_below b (pos 2)) refl refl h
  where
    go : (s t : Bool) → is_below a (pos 2) ≡ s → is_below b (pos 2) ≡ t → where_true s (option_map (λ at. (pos 0 +ℤ a) ∷ at) (where_true t (option_map (λ at. (pos 0 +ℤ b) ∷ at) (Some [])))) ≡ Some (a ∷ (b ∷ [])) → Two (a ∷ (b ∷ []))
    go true true e f i = let p = below_two a e in let q = below_two b f in record { row = a; column = b; is = refl; row_above = p.0; row_below = p.1; column_above = q.0; column_below = q.1 }
    go true false e f i = absurd (none_some i)
    go false t e f i = absurd (none_some i)
two_indices (a ∷ (b ∷ (c ∷ is))) h = absurd (too_long (is_below a (pos 2)) (is_below b (pos 2)) h)
  where
    too_long : (s t : Bool) → where_true s (option_map (λ at. (pos 0 +ℤ a) ∷ at) (where_true t (option_map (λ at. (pos 0 +ℤ b) ∷ at) None))) ≡ Some (a ∷ (b ∷ (c ∷ is))) → ⊥
    too_long true true e = none_some e
    too_long true false e = none_some e
    too_long false t e = none_some e

same_row : (a b c d : ℤ) → pos 0 ≤ℤ b → (b +ℤ pos 1) ≤ℤ pos 2 → pos 0 ≤ℤ d → (d +ℤ pos 1) ≤ℤ pos 2 → (pos 2 *ℤ a) +ℤ ((pos 1 *ℤ b) +ℤ pos 0) ≡ (pos 2 *ℤ c) +ℤ ((pos 1 *ℤ d) +ℤ pos 0) → a ≡ c
same_row a b c d e f g h i = omega (arith, ints, e, f, g, h, i)

same_column : (a b c d : ℤ) → pos 0 ≤ℤ b → (b +ℤ pos 1) ≤ℤ pos 2 → pos 0 ≤ℤ d → (d +ℤ pos 1) ≤ℤ pos 2 → (pos 2 *ℤ a) +ℤ ((pos 1 *ℤ b) +ℤ pos 0) ≡ (pos 2 *ℤ c) +ℤ ((pos 1 *ℤ d) +ℤ pos 0) → b ≡ d
same_column a b c d e f g h i = omega (arith, ints, e, f, g, h, i)

indices_apart : (i j : List ℤ) → IsIndex two_by_two i → IsIndex two_by_two j → offset (pos 2 ∷ pos 1 ∷ []) i ≡ offset (pos 2 ∷ pos 1 ∷ []) j → i ≡ j
indices_apart i j h k e =
    let m = two_indices i h in
    let n = two_indices j k in
    let own = sym (ap (offset (pos 2 ∷ pos 1 ∷ [])) m.is) ∙ (e ∙ ap (offset (pos 2 ∷ pos 1 ∷ [])) n.is) in
    m.is ∙ (ap₂ (λ y z. y ∷ z ∷ []) (same_row m.row m.column n.row n.column m.column_above m.column_below n.column_above n.column_below own) (same_column m.row m.column n.row n.column m.column_above m.column_below n.column_above n.column_below own) ∙ sym n.is)

-- ---- the input

not_argument : (x : ℕ) → is_buffer_of x (col filling).params ≡ false → (input.scene.control x ≡ pos 0) × (input.scene.buffers x ≡ None) × (input.scene.views x ≡ None)
not_argument x h = go (x == 3) (x == 4) (x == 5) refl refl refl h
  where
    go : (s t u : Bool) → (x == 3) ≡ s → (x == 4) ≡ t → (x == 5) ≡ u → (s || (t || (u || false))) ≡ false → (input.scene.control x ≡ pos 0) × (input.scene.buffers x ≡ None) × (input.scene.views x ≡ None)
    go true t u e f g i = absurd (true≢false i)
    go false true u e f g i = absurd (true≢false i)
    go false false true e f g i = absurd (true≢false i)
    go false false false e f g i =
        (ap₂ (λ a b. cond (a || b) (pos 2) (pos 0)) e f, ap (λ a. cond a (Some (tensor I32 two_by_two)) None) g, ap (λ a. cond a (Some (record { buffer = x; sides = whole two_by_two })) None) g)

abbrev BelowLarge : Shape → Type 0
BelowLarge shape = product shape.dims ≤ℤ pos (2 ^ 48)

valid_input : IsValid (program_world column_program) (col filling) input
valid_input = record {
  admissible = record {
    arguments = ((omega (arith, ints), refl, refl), ((omega (arith, ints), refl, refl), ((refl, refl), tt)));
    no_others = not_argument;
    cells = λ b shape e at. subst (λ z. FitsCell z.cell (input.cells b at)) (sym (the_shape b shape e)) (held b (λ n all. subst (FitsCell I32) (sym (all at)) tt) (λ i all. subst (FitsCell I32) (sym (all at)) zero_fits));
    tidy = λ b e at. held b (λ n all. all at) (λ i all. absurd (none_some (sym e ∙ ap input.scene.buffers i)));
    fields = λ f. tt;
    asserts = refl;
  };
  bounded = ((omega (arith, ints), omega (arith, ints)), ((omega (arith, ints), omega (arith, ints)), (tt, tt)));
  fields = λ f. (omega (arith, ints), omega (arith, ints));
  cells = λ b shape e. subst BelowLarge (sym (the_shape b shape e)) (omega (arith, ints));
  strides = λ b shape e. subst (λ z. Each (IsBetween (pos 0) (pos (2 ^ 48))) z.strides) (sym (the_shape b shape e)) ((omega (arith, ints), omega (arith, ints)), ((omega (arith, ints), omega (arith, ints)), tt));
  separate = λ b shape e. subst (λ z. (i j : List ℤ) → IsIndex z.dims i → IsIndex z.dims j → offset z.strides i ≡ offset z.strides j → i ≡ j) (sym (the_shape b shape e)) indices_apart;
  defined = λ b shape e at h. held b (λ n all. absurd (none_some (sym n ∙ e))) (λ i all. λ u. no_number (sym (all at) ∙ u));
}

-- ---- the same beginning

one_object : AreSeparate layout input
one_object x y shape other e f at bt r q one = held x (λ n all. absurd (none_some (sym n ∙ e))) (λ i all. held y (λ n others. absurd (none_some (sym n ∙ f))) (λ j others. i ∙ sym j))

no_field : (f : ℕ) → declared_in column_program both_printed f ≡ true → ⊥
no_field f h = go (is_used column_program both_printed f) h
  where
    below : nat_lt f 0 ≡ true → ⊥
    below e = grind arith

    go : (t : Bool) → (t && nat_lt f 0) ≡ true → ⊥
    go true e = below e
    go false e = true≢false (sym e)

same_start : IsSameStart column_program both_printed (col filling) layout input things machine
same_start = record {
  arguments = (refl, (refl, (record { object = record { cell = I32; size = pos 4; heap = false }; thing = refl; begins = refl; there = refl; below = refl; same_cell = refl; room = omega (arith, ints); few = omega (arith, ints); contents = λ at h. refl }, tt)));
  fields = λ f h. absurd (no_field f h);
  separate = one_object;
}

no_text : (k : ℕ) (p : Procedure) (text : List ℕ) → slice_get column_program.procedures k ≡ Some p → p.template ≡ Some text → ⊥
no_text zero p text e t = none_some (ap (λ z. z.template) (some_same e) ∙ t)
no_text (suc zero) p text e t = none_some (ap (λ z. z.template) (some_same e) ∙ t)
no_text (suc (suc k)) p text e t = no_entry [] k e refl

abbrev ran : Outcome Machine
ran = run_file (lowered column_program both_printed) no_templates 1 things machine

pub columns_run : ColumnsRun
unfolding is_word int_wrap
columns_run = record {
  none = refl;
  does = λ i k w caller p text there at u e t. absurd (no_text k p text e t);
  valid = valid_input;
  start = same_start;
  runs = refl;
  done = (machine_of ran, refl, refl);
}

pub printings_are_computed : PrintingsAreComputed
printings_are_computed = record { columns = refl; vectors = refl }
