-- Laws of calls and windows at the small call of `Example`, and at small procedures.
use Rattle.std.proofs.Common.{◌≡◌, ℕ, ℤ, pos, ◌==◌, Bool, true, false, true≢false, cond, ◌||◌, List, [], ◌∷◌, Option, Some, None, IfSome, option_map, refl, sym, subst, ap, ◌∙◌, eqb-true, eq-eqb, arith}
use Rattle.std.specs.Int.{int_wrap}
use Rattle.std.proofs.lemmas.Int.{ints}
use Rattle.exo_tree.specs.Tree.{I8, Index, Lit, Const, Plus, Span, Argument, Window, ControlArg, Config, TensorParam, WindowParam, Param, Procedure, Datum, Assign, For, View, Call, Block, end, next}
use Rattle.exo_meaning.specs.Value.{Value, Undefined, Number}
use Rattle.exo_meaning.specs.Scene.{Seen, Shape, Range, whole, AreApart}
use Rattle.exo_meaning.specs.Calls.{GivenView, held_at}
use Rattle.inplace_laws.specs.InPlace.{IsPlacing, StandsFor, SeenStands, BufferStands, IsWithin, cell_through}
use Rattle.inplace_laws.specs.CallInPlace.{no_name, every}
use Rattle.inplace_laws.proofs.Passed.{passed_apart}
use Rattle.inplace_laws.proofs.InPlace.{in_place}
use Rattle.exo_tree.specs.Context.{Here}
use Rattle.exo_meaning.specs.State.{State, on_scene, with_view}
use Rattle.exo_meaning.specs.Run.{World, run, callee_in, unit_world}
use Rattle.exo_meaning.specs.Inputs.{Refines}
use Rattle.exo_meaning.specs.Refines.{Both}
use Rattle.exo_meaning.specs.Laws.{HasRoots}
use Rattle.exo_meaning.proofs.Windows.{none_is_some, one_value}
use Rattle.meaning_laws.proofs.Copies.{sound_law}
use Rattle.inplace_laws.specs.Inline.{IsWider, MayInline}
use Rattle.inplace_laws.specs.Windows.{in_block}
use Rattle.inplace_laws.specs.Along.{both_end, both_next, at_once, in_turns}
use Rattle.inplace_laws.specs.Staged.{staged, StagedAlike}
use Rattle.inplace_laws.proofs.Above.{above_law}
use Rattle.inplace_laws.proofs.Along.{along_law}
use Rattle.inplace_laws.proofs.Inline.{wider_law, inline_refines, replace_refines}
use Rattle.inplace_laws.proofs.Windows.{window_law}
use Rattle.inplace_laws.proofs.InlineWindow.{inline_window_refines}
use Rattle.inplace_laws.proofs.Staged.{staged_law}
use Rattle.inplace_laws.proofs.Example.{binder, q, four, all_of, s, part, may}

abbrev empty : World
empty = unit_world (λ f. Index) []

abbrev unit : World
unit = unit_world (λ f. Index) (q ∷ [])

q_is_called : IsWider empty unit × (unit.callees 0 ≡ Some (callee_in empty q))
q_is_called = above_law (λ f. Index) [] q []

abbrev stored : ℕ → Datum → Block
stored x e = next (Assign x (Lit (pos 0) ∷ []) e) end

same_in_unit : IfSome (run empty (stored 10 (Const (pos 5))) s) (λ a. run unit (stored 10 (Const (pos 5))) s ≡ Some a)
same_in_unit = wider_law empty unit (stored 10 (Const (pos 5))) s q_is_called.0

-- for i in seq(0, 4): x[0] = e
abbrev looped : Datum → Block
looped e = next (For (binder 3) (Lit (pos 0)) (Lit (pos 4)) (stored 10 e)) end

same_sums : run empty (looped (Plus (Const (pos 1)) (Const (pos 2)))) s ≡ run empty (looped (Plus (Const (pos 2)) (Const (pos 1)))) s
same_sums = along_law empty (looped (Plus (Const (pos 1)) (Const (pos 2)))) (looped (Plus (Const (pos 2)) (Const (pos 1)))) s
    (both_next (in_turns refl refl (λ n u come. both_next (at_once refl) (λ t e. both_end))) (λ t e. both_end))

-- what a buffer holds at an index after a run
abbrev cell_of : ℕ → ℤ → Option State → Option Value
cell_of b i o = option_map (λ (t : State). t.cells b (i ∷ [])) o

first_is_three : cell_of 10 (pos 0) (run empty (looped (Plus (Const (pos 2)) (Const (pos 1)))) s) ≡ Some (Number (pos 3))
unfolding int_wrap
first_is_three = refl

-- ---- windows

-- w = x[1:3]
abbrev with_w : State
with_w = on_scene (with_view 1 part) s

abbrev w_window : Argument
w_window = Window 10 (Span (Lit (pos 1)) (Lit (pos 3)) ∷ [])

by_window : IfSome (run empty (stored 1 (Const (pos 5))) with_w) (λ a. run empty (in_block 1 w_window (stored 1 (Const (pos 5)))) with_w ≡ Some a)
by_window = window_law empty 1 w_window (stored 1 (Const (pos 5))) with_w (record { seen = part; name = refl; window = refl; plain = refl; own = refl; root = refl; variables = λ y k. refl })

by_name : cell_of 10 (pos 1) (run empty (stored 1 (Const (pos 5))) with_w) ≡ Some (Number (pos 5))
unfolding int_wrap
by_name = refl

by_coordinates : cell_of 10 (pos 1) (run empty (in_block 1 w_window (stored 1 (Const (pos 5)))) with_w) ≡ Some (Number (pos 5))
unfolding int_wrap
by_coordinates = refl

abbrev x_param : Param
x_param = record { binder = binder 10; kind = TensorParam I8 (Lit (pos 4) ∷ []) 0 }

abbrev on_x : Block → Procedure
on_x b = record { name = []; template = None; params = x_param ∷ []; asserts = []; body = b }

-- w = x[1:3]; w[0] = 5
view_removed : Refines empty (on_x (next (View (binder 1) 10 (Span (Lit (pos 1)) (Lit (pos 3)) ∷ [])) (stored 1 (Const (pos 5))))) (on_x (in_block 1 w_window (stored 1 (Const (pos 5))))) []
view_removed = inline_window_refines (λ f. Index) [] (on_x (next (View (binder 1) 10 (Span (Lit (pos 1)) (Lit (pos 3)) ∷ [])) (stored 1 (Const (pos 5))))) (Here end) (binder 1) 10 (Span (Lit (pos 1)) (Lit (pos 3)) ∷ []) (stored 1 (Const (pos 5))) refl refl (refl, refl) refl refl refl refl (λ y k. refl) refl

-- a buffer 1 with the cells of x[1:3]
staged_store : Both (StagedAlike 1 part s) (run empty (stored 1 (Const (pos 5))) (staged 1 part four s)) (run empty (stored 1 (Const (pos 5))) (on_scene (with_view 1 part) s))
staged_store = staged_law (λ x. x == 10) (λ x. x == 1) empty (λ x. x) 1 part four (stored 1 (Const (pos 5))) s (record {
  sound = may.sound;
  there = refl;
  new = may.unbound 1 refl;
  shown = refl;
  blinds = refl;
  hides = refl;
  only = λ y h e. eqb-true y 10 h;
  views = λ y z h e. absurd (none_is_some (sym (ap (λ t. cond t (Some all_of) None) h) ∙ e));
  names = refl;
  not_made = refl;
  roots = roots;
  not_written = refl;
})
  where
    roots : HasRoots (λ x. x) (staged 1 part four s).scene
    roots x z e = go (x == 1) (x == 10) refl refl e
      where
        go : (t r : Bool) → (x == 1) ≡ t → (x == 10) ≡ r → cond {A = Option Seen} t (Some (record { buffer = 1; sides = whole (pos 2 ∷ []) })) (cond {A = Option Seen} r (Some all_of) None) ≡ Some z → z.buffer ≡ x
        go true r k l e = subst (λ (o : Seen). o.buffer ≡ x) (one_value (record { buffer = 1; sides = whole (pos 2 ∷ []) }) z e) (sym (eqb-true x 1 k))
        go false true k l e = subst (λ (o : Seen). o.buffer ≡ x) (one_value all_of z e) (sym (eqb-true x 10 l))
        go false false k l e = absurd (none_is_some e)

in_the_buffer : cell_of 1 (pos 0) (run empty (stored 1 (Const (pos 5))) (staged 1 part four s)) ≡ Some (Number (pos 5))
unfolding int_wrap
in_the_buffer = refl

in_the_window : cell_of 10 (pos 1) (run empty (stored 1 (Const (pos 5))) (on_scene (with_view 1 part) s)) ≡ Some (Number (pos 5))
unfolding int_wrap
in_the_window = refl

-- ---- a call of a procedure that sets field 0 to 4

abbrev sets : Block
sets = next (Config 0 (ControlArg (Lit (pos 4)))) end

abbrev plain : Block → Procedure
plain b = record { name = []; template = None; params = []; asserts = []; body = b }

abbrev above_it : World
above_it = unit_world (λ f. Index) (plain sets ∷ [])

abbrev call : Block
call = next (Call 0 []) end

may_inline : (b : Block) → MayInline above_it empty (λ x. false) (plain b) (plain sets) (Here end) b 0 []
may_inline b = record {
  callee = λ s. refl;
  wider = (above_law (λ f. Index) [] (plain sets) []).0;
  call = λ s u good come gs e. record {
    sound = sound_law above_it (plain b) b (Here end) s u good come;
    names = refl;
    unbound = λ x k. absurd (true≢false k);
    params = λ x k. absurd (true≢false (sym k));
    distinct = tt;
    types = tt;
  };
  takes = tt;
  free = λ x k. absurd (true≢false (sym k));
  others = λ x k. (refl, refl);
  gone = refl;
  rest = refl;
}

inlined : Refines above_it (plain call) (plain sets) []
inlined = inline_refines (λ f. Index) (plain sets ∷ []) (plain call) (plain sets) (Here end) 0 [] empty (λ x. false) refl (may_inline call)

called : Refines above_it (plain sets) (plain call) []
called = replace_refines (λ f. Index) (plain sets ∷ []) (plain sets) (plain sets) (Here end) 0 [] empty (λ x. false) refl (may_inline sets)

abbrev field_of : Option State → Option ℤ
field_of o = option_map (λ (t : State). t.scene.fields 0) o

four_by_call : field_of (run above_it call s) ≡ Some (pos 4)
four_by_call = refl

four_in_place : field_of (run above_it sets s) ≡ Some (pos 4)
four_in_place = refl

-- ---- x[1:3] and x[3:4] as arguments, of which the first is written

abbrev two_params : List Param
two_params = record { binder = binder 1; kind = WindowParam I8 (Lit (pos 2) ∷ []) 0 } ∷ record { binder = binder 2; kind = WindowParam I8 (Lit (pos 1) ∷ []) 0 } ∷ []

abbrev other_part : Seen
other_part = record { buffer = 10; sides = Range (pos 3) (pos 1) ∷ [] }

they_are_apart : AreApart part other_part
they_are_apart = passed_apart (λ x. x == 1) two_params (GivenView part ∷ GivenView other_part ∷ []) refl 1 2 part other_part refl refl refl refl

-- ---- a store in a buffer 0 of two cells, and in x[1:3] in its place

abbrev two : Shape
two = record { cell = I8; dims = pos 2 ∷ []; strides = pos 1 ∷ [] }

abbrev own : State
own = record {
  scene = record { control = λ x. pos 0; buffers = λ b. cond (b == 0) (Some two) None; views = λ x. cond (x == 0) (Some (record { buffer = 0; sides = Range (pos 0) (pos 2) ∷ [] })) None; fields = λ f. pos 0 };
  cells = λ b at. Undefined;
}

abbrev placed : State
placed = record {
  scene = record { control = λ x. pos 0; buffers = λ b. cond (b == 10) (Some four) None; views = λ x. cond (x == 0) (Some part) None; fields = λ f. pos 0 };
  cells = λ b at. Undefined;
}

abbrev base : ℕ → Option Seen
base b = cond (b == 0) (Some part) None

abbrev hides : ℕ → Bool
hides x = x == 10

abbrev is_written : ℕ → Bool
is_written x = x == 0

placing : IsPlacing hides is_written every base
placing = record { whole = λ b e. refl; outside = λ b z e. outside z (b == 0) e; apart = λ b c z y w n i j. absurd (true≢false (sym (eq-eqb b c (eqb-true b 0 w ∙ sym (eqb-true c 0 (first y (c == 0) j)))) ∙ n)) }
  where
    outside : (z : Seen) (t : Bool) → cond {A = Option Seen} t (Some part) None ≡ Some z → hides z.buffer ≡ true
    outside z true e = subst (λ (o : Seen). hides o.buffer ≡ true) (one_value part z e) refl
    outside z false e = absurd (none_is_some e)

    first : (y : Seen) (t : Bool) → cond {A = Option Seen} t (Some part) None ≡ Some y → t ≡ true
    first y true e = refl
    first y false e = absurd (none_is_some e)

it_stands : StandsFor hides is_written no_name every base placed own placed
it_stands = record {
  control = λ x h. refl;
  fields = refl;
  views = λ x h. seen (x == 0);
  names = λ x z i n e. refl;
  buffers = λ b h. there b h (b == 0);
  others = λ b h. refl;
  cells = record { own = λ b h at. nothing (cell_through (base b) at); left = λ b at h i l. refl };
}
  where
    seen : (t : Bool) → Both (SeenStands hides is_written no_name every base placed) (cond {A = Option Seen} t (Some (record { buffer = 0; sides = Range (pos 0) (pos 2) ∷ [] })) None) (cond {A = Option Seen} t (Some part) None)
    seen true = (refl, within, refl)
      where
        within : IsWithin (Some part) (Range (pos 0) (pos 2) ∷ [])
        within = omega (arith, ints)
    seen false = tt

    there : (b : ℕ) → hides b ≡ false → (t : Bool) → BufferStands hides is_written no_name every base placed (cond {A = Option Seen} t (Some part) None) (cond {A = Option Shape} t (Some two) None) placed.scene.buffers b
    there b h true = (two, four, refl, refl, refl, λ k. refl)
    there b h false = sym (ap (λ t. cond {A = Option Shape} t (Some four) None) h)

    nothing : (o : Option (List ℤ)) → Undefined ≡ held_at (λ at. Undefined) o
    nothing None = refl
    nothing (Some at) = refl

store_in_place : Both (StandsFor hides is_written no_name every base placed) (run empty (stored 0 (Const (pos 5))) own) (run empty (stored 0 (Const (pos 5))) placed)
store_in_place = in_place empty hides is_written no_name every base (λ x. x) (stored 0 (Const (pos 5))) placed own placed placing refl (λ y k. ap (λ t. t || false) k) (λ x k. absurd (true≢false (sym k))) roots it_stands
  where
    roots : HasRoots (λ x. x) own.scene
    roots x z e = go (x == 0) refl e
      where
        go : (t : Bool) → (x == 0) ≡ t → cond {A = Option Seen} t (Some (record { buffer = 0; sides = Range (pos 0) (pos 2) ∷ [] })) None ≡ Some z → z.buffer ≡ x
        go true k e = subst (λ (o : Seen). o.buffer ≡ x) (one_value (record { buffer = 0; sides = Range (pos 0) (pos 2) ∷ [] }) z e) (sym (eqb-true x 0 k))
        go false k e = absurd (none_is_some e)

in_its_own : cell_of 0 (pos 0) (run empty (stored 0 (Const (pos 5))) own) ≡ Some (Number (pos 5))
unfolding int_wrap
in_its_own = refl

in_its_place : cell_of 10 (pos 1) (run empty (stored 0 (Const (pos 5))) placed) ≡ Some (Number (pos 5))
unfolding int_wrap
in_its_place = refl
