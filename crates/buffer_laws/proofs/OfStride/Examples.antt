-- set(w: [i32][8]) sets w[0] to 7; look(w: [i32][8]) does so where stride(w, 0) is 1; over(w) calls
-- both on parts of w.
use Rattle.std.proofs.Common.{◌≡◌, ◌==◌, ℕ, pos, Bool, true, false, cond, List, [], ◌∷◌, Option}
use Rattle.std.proofs.Common.{Some, None, IsSome, subst, option_map, refl, sym, ap, ◌∙◌, true≢false, eqb-true}
use Rattle.std.specs.Int.{int_wrap}
use Rattle.exo_tree.specs.Tree.{Binder, I32, Index, Lit, StrideOf, Eq, Span, Const, Whole, Window}
use Rattle.exo_tree.specs.Tree.{WindowParam, Assign, If, Call, Block, end, next, Procedure}
use Rattle.exo_meaning.specs.Value.{Value, Number, Undefined}
use Rattle.exo_meaning.specs.Scene.{Seen, Shape, Range}
use Rattle.exo_meaning.specs.State.{State, on_scene, with_view}
use Rattle.exo_meaning.specs.Laws.{HasRoots}
use Rattle.exo_meaning.specs.Refines.{Both}
use Rattle.exo_meaning.specs.Run.{World, run, unit_world}
use Rattle.exo_meaning.proofs.Windows.{none_is_some, one_value}
use Rattle.buffer_laws.specs.Stride.Strides.{stride_seen, uses_strides, is_stride_used, HaveOneSize}
use Rattle.buffer_laws.specs.Stride.Strides.{SameButStrides, WhereBoth, UsesNone, CallsAreBlind}
use Rattle.inplace_laws.specs.Staged.{staged, StagedAlike}
use Rattle.buffer_laws.specs.Stride.Staged.{MayStageBlind}
use Rattle.buffer_laws.proofs.OfStride.Staged.{blind_staged_law}
use Rattle.buffer_laws.proofs.OfStride.Blocks.{blind_block_law}
use Rattle.buffer_laws.proofs.OfStride.Units.{blind_calls_law, blind_law}

abbrev binder : ℕ → Binder
binder n = record { id = n; name = n ∷ [] }

abbrev of_window : ℕ → Block → Procedure
of_window n b = record {
  name = n ∷ [];
  params = record { binder = binder 1; kind = WindowParam I32 (Lit (pos 8) ∷ []) 0 } ∷ [];
  asserts = [];
  body = b;
  template = None;
}

abbrev first_is_seven : ℕ → Block
first_is_seven w = next (Assign w (Lit (pos 0) ∷ []) (Const (pos 7))) end

abbrev unit : List Procedure
unit = of_window 97 (first_is_seven 1)
    ∷ of_window 98 (next (If (Eq (StrideOf 1 0) (Lit (pos 1))) (first_is_seven 1) end) end)
    ∷ of_window 99 (next (Call 0 (Whole 1 ∷ [])) (next (Call 1 (Whole 1 ∷ [])) end))
    ∷ of_window 100 (next (Call 0 (Whole 1 ∷ [])) end) ∷ []

-- a call sees what the callee sees
set_sees_none : stride_seen (λ f. Index) unit 0 1 ≡ false
set_sees_none = refl

look_sees : stride_seen (λ f. Index) unit 1 1 ≡ true
look_sees = refl

over_sees : stride_seen (λ f. Index) unit 2 1 ≡ true
over_sees = refl

through_a_call : stride_seen (λ f. Index) unit 3 1 ≡ false
through_a_call = refl

abbrev world : World
world = unit_world (λ f. Index) unit

-- set(x[0:8])
abbrev on_x : ℕ → Block
on_x k = next (Call k (Window 10 (Span (Lit (pos 0)) (Lit (pos 8)) ∷ []) ∷ [])) end

not_used : is_stride_used world.callees (stride_seen (λ f. Index) unit) (λ y. y) 10 (on_x 3)
    ≡ false
not_used = refl

is_used : is_stride_used world.callees (stride_seen (λ f. Index) unit) (λ y. y) 10 (on_x 2) ≡ true
is_used = refl

-- x is number 10, with this stride
abbrev eight : ℕ → Shape
eight n = record { cell = I32; dims = pos 8 ∷ []; strides = pos n ∷ [] }

abbrev all_of_x : Seen
all_of_x = record { buffer = 10; sides = Range (pos 0) (pos 8) ∷ [] }

abbrev at_stride : ℕ → State
at_stride n = record {
  scene = record {
    control = λ y. pos 0;
    buffers = λ b. cond (b == 10) (Some (eight n)) None;
    views = λ y. cond (y == 10) (Some all_of_x) None;
    fields = λ f. pos 0;
  };
  cells = λ b at. cond (b == 10) (Number (pos 3)) Undefined;
}

abbrev first_cell : Option State → Option Value
first_cell o = option_map (λ (t : State). t.cells 10 (pos 0 ∷ [])) o

dense_run : first_cell (run world (on_x 3) (at_stride 1)) ≡ Some (Number (pos 7))
unfolding int_wrap
dense_run = refl

strided_run : first_cell (run world (on_x 3) (at_stride 5)) ≡ Some (Number (pos 7))
unfolding int_wrap
strided_run = refl

-- the other two see it
looks_at_it : first_cell (run world (on_x 2) (at_stride 5)) ≡ Some (Number (pos 7))
unfolding int_wrap
looks_at_it = refl

looks_alone : first_cell (run world (on_x 1) (at_stride 5)) ≡ Some (Number (pos 3))
unfolding int_wrap
looks_alone = refl

abbrev is_x : ℕ → Bool
is_x y = y == 10

same_but : SameButStrides is_x (at_stride 1) (at_stride 5)
same_but = record {
  control = refl;
  views = refl;
  fields = refl;
  cells = refl;
  buffers = λ b k. ap (λ t. cond t (Some (eight 1)) None) k
      ∙ sym (ap (λ t. cond t (Some (eight 5)) None) k);
  sizes = λ b. size (b == 10);
}
  where
    size : (t : Bool) → Both HaveOneSize (cond {A = Option Shape} t (Some (eight 1)) None)
        (cond {A = Option Shape} t (Some (eight 5)) None)
    size true = record { cell = refl; dims = refl }
    size false = tt

own : HasRoots (λ y. y) (at_stride 1).scene
own y z e = go (y == 10) refl e
  where
    go : (t : Bool) → (y == 10) ≡ t → cond {A = Option Seen} t (Some all_of_x) None ≡ Some z
        → z.buffer ≡ y
    go true k m = ap (λ (w : Seen). w.buffer) (sym (one_value all_of_x z m))
        ∙ sym (eqb-true y 10 k)
    go false k m = absurd (none_is_some m)

uses_no_x : UsesNone is_x (uses_strides world.callees (stride_seen (λ f. Index) unit) (λ y. y)
    (on_x 3))
uses_no_x y k = ap (uses_strides world.callees (stride_seen (λ f. Index) unit) (λ z. z) (on_x 3))
    (eqb-true y 10 k)

they_are_blind : CallsAreBlind world (stride_seen (λ f. Index) unit)
they_are_blind = blind_calls_law (λ f. Index) unit

both_ends : WhereBoth (SameButStrides is_x) (run world (on_x 3) (at_stride 1))
    (run world (on_x 3) (at_stride 5))
both_ends = blind_law (λ f. Index) unit (λ y. y) is_x (on_x 3) (at_stride 1) (at_stride 5)
    uses_no_x own same_but

by_the_block : WhereBoth (SameButStrides is_x) (run world (on_x 3) (at_stride 1))
    (run world (on_x 3) (at_stride 5))
by_the_block = blind_block_law world (stride_seen (λ f. Index) unit) (λ y. y) is_x (on_x 3)
    (at_stride 1) (at_stride 5) they_are_blind uses_no_x own same_but

-- ---- x at stride 5, with a staged buffer t (number 1) of its own for it: set(t) by a call

abbrev on_t : Block
on_t = next (Call 3 (Whole 1 ∷ [])) end

abbrev s : State
s = at_stride 5

abbrev all_of_t : Seen
all_of_t = record { buffer = 1; sides = Range (pos 0) (pos 8) ∷ [] }

may_stage : MayStageBlind (λ y. y == 10) world (stride_seen (λ f. Index) unit) (λ y. y) 1 all_of_x
    (eight 5) on_t s
may_stage = record {
  sound = record { tidy = λ b e at. tidy (b == 10) e; seen = λ y z e. there z (y == 10) e };
  there = refl;
  new = record { control = refl; buffers = refl; views = refl };
  shown = refl;
  hides = refl;
  only = λ y k i. eqb-true y 10 k;
  views = λ y z k e. open_view y z (y == 10) k e;
  names = refl;
  not_made = refl;
  roots = λ y z e. roots y z (y == 1) (y == 10) refl refl e;
  not_written = refl;
  strides = refl;
}
  where
    tidy : (t : Bool) → cond {A = Option Shape} t (Some (eight 5)) None ≡ None
        → cond t (Number (pos 3)) Undefined ≡ Undefined
    tidy true e = absurd (none_is_some (sym e))
    tidy false e = refl

    there : (z : Seen) (t : Bool) → cond {A = Option Seen} t (Some all_of_x) None ≡ Some z
        → IsSome (s.scene.buffers z.buffer)
    there z true e = subst (λ (o : Seen). IsSome (s.scene.buffers o.buffer))
        (one_value all_of_x z e) refl
    there z false e = absurd (none_is_some e)

    open_view : (y : ℕ) (z : Seen) (t : Bool) → t ≡ false
        → cond {A = Option Seen} t (Some all_of_x) None ≡ Some z → (z.buffer == 10) ≡ false
    open_view y z true k e = absurd (true≢false k)
    open_view y z false k e = absurd (none_is_some e)

    roots : (y : ℕ) (z : Seen) (p q : Bool) → (y == 1) ≡ p → (y == 10) ≡ q
        → cond p (Some all_of_t) (cond q (Some all_of_x) None) ≡ Some z → z.buffer ≡ y
    roots y z true q i j e = ap (λ (w : Seen). w.buffer) (sym (one_value all_of_t z e))
        ∙ sym (eqb-true y 1 i)
    roots y z false true i j e = ap (λ (w : Seen). w.buffer) (sym (one_value all_of_x z e))
        ∙ sym (eqb-true y 10 j)
    roots y z false false i j e = absurd (none_is_some e)

passed_on : WhereBoth (StagedAlike 1 all_of_x s) (run world on_t (staged 1 all_of_x (eight 5) s))
    (run world on_t (on_scene (with_view 1 all_of_x) s))
passed_on = blind_staged_law (λ y. y == 10) world (stride_seen (λ f. Index) unit) (λ y. y) 1
    all_of_x (eight 5) on_t s they_are_blind may_stage

-- and both run
on_its_own : option_map (λ (t : State). t.cells 1 (pos 0 ∷ []))
    (run world on_t (staged 1 all_of_x (eight 5) s)) ≡ Some (Number (pos 7))
unfolding int_wrap
on_its_own = refl

on_the_window : first_cell (run world on_t (on_scene (with_view 1 all_of_x) s))
    ≡ Some (Number (pos 7))
unfolding int_wrap
on_the_window = refl
