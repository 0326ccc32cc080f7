-- A buffer of one cell in a loop's turn, as the turn's part of a larger one; it is passed to a
-- procedure that adds to it.
use Rattle.std.proofs.Common.{◌≡◌, ◌==◌, ℕ, pos, Bool, true, false, cond, [], ◌∷◌, Option}
use Rattle.std.proofs.Common.{Some, None, IsSome, IfSome, option_map, refl, sym, subst}
use Rattle.std.proofs.Common.{true≢false, eqb-true, ◌||◌}
use Rattle.std.specs.Int.{int_wrap}
use Rattle.exo_tree.specs.Tree.{I32, Index, Lit, Var, Const, Read, Whole, Window, At, Assign, Reduce}
use Rattle.exo_tree.specs.Tree.{Span, WindowParam, TensorParam, Alloc, Call, Block, end, next, Procedure}
use Rattle.exo_meaning.specs.Value.{Value, Number, Undefined}
use Rattle.exo_meaning.specs.Scene.{Shape, Seen, whole}
use Rattle.exo_meaning.specs.State.{State}
use Rattle.exo_tree.specs.Context.{Here}
use Rattle.exo_meaning.specs.Inputs.{Refines}
use Rattle.exo_meaning.specs.Renaming.{re_block}
use Rattle.exo_meaning.specs.Run.{World, run, unit_world, tensor}
use Rattle.exo_meaning.proofs.Windows.{none_is_some, one_value}
use Rattle.meaning_laws.specs.Copies.{IsFree}
use Rattle.meaning_laws.specs.Sound.{IsSound, IsUnbound}
use Rattle.meaning_laws.proofs.Swaps.{swap, swap_moves}
use Rattle.buffer_laws.specs.Expanded.{expanded, small, enlarged, MayExpand}
use Rattle.buffer_laws.specs.Expanded.{EndsAlike, with_larger}
use Rattle.buffer_laws.proofs.Examples.{drop, is_drop, named, one_cell}
use Rattle.buffer_laws.specs.Buffers.{Buffer}
use Rattle.buffer_laws.specs.ExpandText.{HasText}
use Rattle.buffer_laws.proofs.ExpandText.{expand_text_law, expand_text_refines}
use Rattle.buffer_laws.proofs.Expanded.{expand_law, expand_under_ids}

-- f(y: i32): y += 3
abbrev adds_three : Procedure
adds_three = record {
  name = 102 ∷ [];
  params = record { binder = named 0; kind = TensorParam I32 [] 0 } ∷ [];
  asserts = [];
  body = next (Reduce 0 [] (Const (pos 3))) end;
  template = None;
}

abbrev world : World
world = unit_world (λ f. Index) (adds_three ∷ [])

-- b : i32; b = 2; f(b); x[i] = b, where x is number 0, i number 1 and b number 3
abbrev on_cell : Block
on_cell = next (Assign 3 [] (Const (pos 2))) (next (Call 0 (Whole 3 ∷ []))
    (next (Assign 0 (Var 1 ∷ []) (Read 3 [])) end))

-- b : i32[8]; b[i] = 2; f(b[i]); x[i] = b[i], where the larger buffer gets the id of b
text : re_block (swap 3 9) (with_larger drop 9 (Lit (pos 8)) (Var 1) one_cell on_cell)
    ≡ next (Alloc (named 3) I32 (Lit (pos 8) ∷ []) 0)
    (next (Assign 3 (Var 1 ∷ []) (Const (pos 2)))
    (next (Call 0 (Window 3 (At (Var 1) ∷ []) ∷ []))
    (next (Assign 0 (Var 1 ∷ []) (Read 3 (Var 1 ∷ []))) end)))
text = refl

it_is_expanded : re_block (swap 3 9) (with_larger drop 9 (Lit (pos 8)) (Var 1) one_cell on_cell)
    ≡ expanded (Lit (pos 8)) (Var 1) one_cell on_cell
it_is_expanded = refl

-- ---- x : i32[8] holds 1, and i is 5

abbrev eight : Shape
eight = tensor I32 (pos 8 ∷ [])

abbrev all_of_x : Seen
all_of_x = record { buffer = 0; sides = whole (pos 8 ∷ []) }

abbrev fifth : State
fifth = record {
  scene = record {
    control = λ y. cond (y == 1) (pos 5) (pos 0);
    buffers = λ b. cond (b == 0) (Some eight) None;
    views = λ y. cond (y == 0) (Some all_of_x) None;
    fields = λ f. pos 0;
  };
  cells = λ b at. cond (b == 0) (Number (pos 1)) Undefined;
}

sound : IsSound fifth
sound = record { tidy = λ b e at. tidy (b == 0) e; seen = λ y z e. there z (y == 0) e }
  where
    tidy : (t : Bool) → cond {A = Option Shape} t (Some eight) None ≡ None
        → cond t (Number (pos 1)) Undefined ≡ Undefined
    tidy true e = absurd (none_is_some (sym e))
    tidy false e = refl

    there : (z : Seen) (t : Bool) → cond {A = Option Seen} t (Some all_of_x) None ≡ Some z
        → IsSome (fifth.scene.buffers z.buffer)
    there z true e = subst (λ (w : Seen). IsSome (fifth.scene.buffers w.buffer))
        (one_value all_of_x z e) refl
    there z false e = absurd (none_is_some e)

three_is_new : IsUnbound fifth 3
three_is_new = record { control = refl; buffers = refl; views = refl }

nine_is_new : IsUnbound fifth 9
nine_is_new = record { control = refl; buffers = refl; views = refl }

may_enlarge : MayExpand 9 (Lit (pos 8)) (Var 1) one_cell on_cell fifth
may_enlarge = record {
  trees = record {
    apart = refl;
    plain = refl;
    plain_dims = refl;
    kept = λ y h. refl;
    once = refl;
    unused = refl;
    gone = refl;
  };
  sound = sound;
  none = three_is_new;
  new = nine_is_new;
  inside = refl;
}

cell_is_part : IfSome (run world (small one_cell on_cell) fifth)
    (λ t. EndsAlike fifth t (run world (enlarged 9 (Lit (pos 8)) (Var 1) one_cell on_cell) fifth))
cell_is_part = expand_law world 9 (Lit (pos 8)) (Var 1) one_cell on_cell fifth may_enlarge

cell_under_ids : IfSome (run world (small one_cell on_cell) fifth)
    (λ t. EndsAlike fifth t (run world (expanded (Lit (pos 8)) (Var 1) one_cell on_cell) fifth))
cell_under_ids = expand_under_ids drop (swap 3 9) world 9 (Lit (pos 8)) (Var 1) one_cell on_cell
    fifth is_drop may_enlarge (swap_moves 3 9 (IsUnbound fifth) three_is_new nine_is_new)

-- and all three run

abbrev fifth_of_x : Block → Option Value
fifth_of_x b = option_map (λ (t : State). t.cells 0 (pos 5 ∷ [])) (run world b fifth)

small_runs : fifth_of_x (small one_cell on_cell) ≡ Some (Number (pos 5))
unfolding int_wrap
small_runs = refl

part_runs : fifth_of_x (enlarged 9 (Lit (pos 8)) (Var 1) one_cell on_cell) ≡ Some (Number (pos 5))
unfolding int_wrap
part_runs = refl

expanded_runs : fifth_of_x (expanded (Lit (pos 8)) (Var 1) one_cell on_cell)
    ≡ Some (Number (pos 5))
unfolding int_wrap
expanded_runs = refl

-- ---- the text

has_text : HasText 9 (Lit (pos 8)) (Var 1) one_cell on_cell
has_text = record { sizes = refl; shape = refl }

text_is_part : IfSome (run world (small one_cell on_cell) fifth)
    (λ t. EndsAlike fifth t (run world (expanded (Lit (pos 8)) (Var 1) one_cell on_cell) fifth))
text_is_part = expand_text_law world 9 (Lit (pos 8)) (Var 1) one_cell on_cell fifth has_text
    may_enlarge

-- p(x: i32[8]) is b : i32[4]; b[1] = 2; g(b[0:2]); x[3] = b[1], with the point 5 of 6 for b

abbrev adds_to_second : Procedure
adds_to_second = record {
  name = 103 ∷ [];
  params = record { binder = named 0; kind = WindowParam I32 (Lit (pos 2) ∷ []) 0 } ∷ [];
  asserts = [];
  body = next (Reduce 0 (Lit (pos 1) ∷ []) (Const (pos 3))) end;
  template = None;
}

abbrev unit : World
unit = unit_world (λ f. Index) (adds_to_second ∷ [])

abbrev four_cells : Buffer
four_cells = record { binder = named 3; cell = I32; dims = Lit (pos 4) ∷ []; memory = 0 }

abbrev uses_second : Block
uses_second = next (Assign 3 (Lit (pos 1) ∷ []) (Const (pos 2)))
    (next (Call 0 (Window 3 (Span (Lit (pos 0)) (Lit (pos 2)) ∷ []) ∷ []))
    (next (Assign 0 (Lit (pos 3) ∷ []) (Read 3 (Lit (pos 1) ∷ []))) end))

abbrev p_of : Block → Procedure
p_of b = record {
  name = 112 ∷ [];
  params = record { binder = named 0; kind = TensorParam I32 (Lit (pos 8) ∷ []) 0 } ∷ [];
  asserts = [];
  body = b;
  template = None;
}

abbrev before : Procedure
before = p_of (small four_cells uses_second)

abbrev six_times_four : Block
six_times_four = expanded (Lit (pos 6)) (Lit (pos 5)) four_cells uses_second

larger_text : six_times_four ≡ next (Alloc (named 3) I32 (Lit (pos 6) ∷ Lit (pos 4) ∷ []) 0)
    (next (Assign 3 (Lit (pos 5) ∷ Lit (pos 1) ∷ []) (Const (pos 2)))
    (next (Call 0 (Window 3 (At (Lit (pos 5)) ∷ Span (Lit (pos 0)) (Lit (pos 2)) ∷ []) ∷ []))
    (next (Assign 0 (Lit (pos 3) ∷ []) (Read 3 (Lit (pos 5) ∷ Lit (pos 1) ∷ []))) end)))
larger_text = refl

only_its_name : (y : ℕ) (t : Bool) → (t || false) ≡ true → t ≡ true
only_its_name y true h = refl
only_its_name y false h = absurd (true≢false (sym h))

it_may_be_expanded : Refines unit before (p_of six_times_four) []
it_may_be_expanded = expand_text_refines (λ f. Index) (adds_to_second ∷ []) before (Here end)
    (λ y. y == 3) 9 (Lit (pos 6)) (Lit (pos 5)) four_cells uses_second refl
    (record {
      free = λ y e. subst (IsFree before (Here end)) (sym (eqb-true y 3 e)) (refl, refl);
      unused = refl;
    })
    (λ y h. only_its_name y (y == 3) h) (λ y h. only_its_name y (y == 3) h) (refl, refl)
    (record { sizes = refl; shape = refl })
    (record {
      apart = refl;
      plain = refl;
      plain_dims = refl;
      kept = λ y h. absurd (true≢false (sym h));
      once = refl;
      unused = refl;
      gone = refl;
    }) (λ s u good come. refl)

abbrev third_of_x : Block → Option Value
third_of_x b = option_map (λ (t : State). t.cells 0 (pos 3 ∷ [])) (run unit b fifth)

four_run : third_of_x (small four_cells uses_second) ≡ Some (Number (pos 5))
unfolding int_wrap
four_run = refl

six_times_four_run : third_of_x six_times_four ≡ Some (Number (pos 5))
unfolding int_wrap
six_times_four_run = refl
