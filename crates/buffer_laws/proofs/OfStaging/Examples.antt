-- half(x: i32[8]) sets each even cell to 7, and is staged.
use Rattle.std.proofs.Common.{◌||◌, ◌∙◌, ap, ap₂, ◌≡◌, ℕ, ℤ, pos, ◌==◌, Bool, true, false, cond}
use Rattle.std.proofs.Common.{List}
use Rattle.std.proofs.Common.{[], ◌∷◌}
use Rattle.std.proofs.Common.{Option, Some, None, IfSome, IsSome, option_map, refl, sym, subst}
use Rattle.std.proofs.Common.{true≢false}
use Rattle.std.proofs.Common.{eqb-true}
use Rattle.std.specs.Int.{int_wrap}
use Rattle.exo_tree.specs.Tree.{Binder, Cell, I32, Index, Lit, Var, Sub, Mul, Const, Read, Coord}
use Rattle.exo_tree.specs.Tree.{Span}
use Rattle.exo_tree.specs.Tree.{Window, Alloc, Pass}
use Rattle.exo_tree.specs.Tree.{Assign, For, Block, end, next}
use Rattle.exo_meaning.specs.Value.{Value, Undefined, Number, stored_as}
use Rattle.exo_meaning.specs.Scene.{Seen, Shape, Scene, Range, then_do, numbers, updated, window}
use Rattle.exo_meaning.specs.Scene.{cell_at, whole}
use Rattle.exo_meaning.specs.State.{State, same_index, on_scene, with_view, with_contents}
use Rattle.exo_meaning.specs.Calls.{GivenView, contents, copy_back, all_positive, held_at}
use Rattle.exo_meaning.specs.Inputs.{FitsCell}
use Rattle.exo_meaning.specs.Unseen.{SameBut}
use Rattle.meaning_laws.specs.Sorted.{CellsFit, IsSorted, Sees}
use Rattle.exo_meaning.specs.Run.{World, run, writes, world_of, unit_world, kinds_of}
use Rattle.exo_meaning.specs.Run.{row_major}
use Rattle.exo_meaning.specs.Units.{Scope, Sort, BufferName, with_name, sort_in}
use Rattle.exo_meaning.proofs.Windows.{none_is_some, one_value}
use Rattle.inplace_laws.specs.Filled.{Loop, nest}
use Rattle.buffer_laws.specs.Staging.Stores.{load_nest, store_nest, IsStaging, spans, variables, FitInto}
use Rattle.buffer_laws.specs.Staging.Stores.{RunOver, AreDistinct, emptied}
use Rattle.buffer_laws.specs.Staging.Alone.{IsAlone, has_root}
use Rattle.buffer_laws.specs.Staging.Inside.{AreOverSpans, extents_of}
use Rattle.buffer_laws.specs.Staging.Converted.{converted, FitsWithin, IsNewName}
use Rattle.buffer_laws.specs.Staging.Whole.{MayConvert, Follows}
use Rattle.buffer_laws.specs.Staging.Replaced.{Hides, between, IsStaged}
use Rattle.buffer_laws.specs.Staging.Known.{AreOver, AreMade, IsKnown, FitsBehind}
use Rattle.buffer_laws.proofs.OfStaging.Known.{known_law, fits_behind_law}
use Rattle.buffer_laws.proofs.OfStaging.Replaced.{alike_replaces, staged_replaces}
use Rattle.meaning_laws.specs.Context.{MayReplace}
use Rattle.meaning_laws.specs.Sound.{IsUnbound}
use Rattle.buffer_laws.proofs.OfStaging.Whole.{viewed_law, staged_block_law, staged_reader_law}
use Rattle.buffer_laws.proofs.OfStaging.Converted.{fits_law, converted_along, converted_law}
use Rattle.buffer_laws.proofs.OfStaging.Box.{box_law, no_store_law}
use Rattle.buffer_laws.proofs.OfStaging.Loads.{loads_law, stage_in_law}
use Rattle.buffer_laws.proofs.OfStaging.Reader.{fit_into_law, reader_law}
use Rattle.buffer_laws.proofs.OfStaging.Alone.{alone_law, unwritten_law}
use Rattle.buffer_laws.proofs.OfStaging.Inside.{inside_law, spans_law}
use Rattle.buffer_laws.proofs.OfStaging.Stage.{uses_law, stage_law}
use Rattle.inplace_laws.specs.Windows.{shifted, in_block as with_window}
use Rattle.inplace_laws.specs.Along.{SameAlong}
use Rattle.inplace_laws.specs.Uses.{in_block}
use Rattle.inplace_laws.specs.InPlace.{makes}
use Rattle.buffer_laws.proofs.OfStaging.Stores.{stores_law}
use Rattle.exo_meaning.specs.Refines.{Both}
use Rattle.inplace_laws.specs.Staged.{staged, MayStage}
use Rattle.buffer_laws.specs.Staging.Stage.{AreAlike}
use Rattle.buffer_laws.specs.Staging.Behind.{IsBetween, MayGoRound}
use Rattle.buffer_laws.proofs.OfStaging.Behind.{behind_law, staged_sound, round_law}

abbrev pub binder : ℕ → Binder
binder n = record { id = n; name = n ∷ [] }

abbrev world : World
world = world_of (λ f. Index) []

abbrev pub eight : Shape
eight = record { cell = I32; dims = pos 8 ∷ []; strides = pos 1 ∷ [] }

abbrev pub all_of : ℕ → Seen
all_of b = record { buffer = b; sides = Range (pos 0) (pos 8) ∷ [] }

-- x is number 10, t is number 1, and t holds 7 in each cell
abbrev s : State
s = record {
  scene = record {
    control = λ y. pos 0;
    buffers = λ b. cond (b == 10) (Some eight)
        (cond (b == 1) (Some eight) None);
    views =
        λ y. cond (y == 10) (Some (all_of 10)) (cond (y == 1) (Some (all_of 1)) None);
    fields =
        λ f. pos 0;
  };
  cells = λ b at. cond (b == 1) (Number (pos 7)) Undefined;
}

-- x[0:8]
abbrev pub coords : List Coord
coords = Span (Lit (pos 0)) (Lit (pos 8)) ∷ []

-- for i0 in seq(0, 8)
abbrev pub loops : List Loop
loops = record { binder = binder 3; extent = Lit (pos 8) } ∷ []

-- and again, behind the block
abbrev pub back : List Loop
back = record { binder = binder 4; extent = Lit (pos 8) } ∷ []

is_staging : IsStaging 1 10 (all_of 10) coords loops s
is_staging = record {
  tidy = λ b e at. tidy b (b == 10) (b == 1) e;
  name = refl;
  there = (eight, refl);
  other = refl;
  window = λ n. refl;
  distinct = (refl, tt);
  over = (refl, λ n. tt);
}
  where
    tidy : (b : ℕ) (r t : Bool) → cond {A = Option Shape} r (Some eight) (cond t (Some eight) None)
        ≡ None → cond t (Number (pos 7)) Undefined ≡ Undefined
    tidy b true t e = absurd (none_is_some (sym e))
    tidy b false true e = absurd (none_is_some (sym e))
    tidy b false false e = refl

seven : stored_as I32 (Number (pos 7)) ≡ Number (pos 7)
unfolding int_wrap
seven = refl

-- for i0 in seq(0, 8): x[i0] = t[i0]
copied : run world (store_nest 1 10 coords loops) s
    ≡ Some (record s { cells = copy_back true (GivenView (all_of 10)) (s.cells 1) s.cells })
copied = stores_law world 1 10 (all_of 10) coords loops s is_staging
    (λ to at e. subst (λ (z : Shape). stored_as z.cell (Number (pos 7)) ≡ Number (pos 7))
    (one_value eight to e) seven)

abbrev pub cell_of : ℕ → ℤ → Option State → Option Value
cell_of b i o = option_map (λ (t : State). t.cells b (i ∷ [])) o

by_the_loop : cell_of 10 (pos 5) (run world (store_nest 1 10 coords loops) s)
    ≡ Some (Number (pos 7))
unfolding int_wrap
by_the_loop = refl

by_the_copy : copy_back true (GivenView (all_of 10)) (s.cells 1) s.cells 10 (pos 5 ∷ [])
    ≡ Number (pos 7)
by_the_copy = refl

-- ---- the whole, where x holds 3 in each cell

abbrev pub first : State
first = record {
  scene = record {
    control = λ y. pos 0;
    buffers = λ b. cond (b == 10) (Some eight) None;
    views =
        λ y. cond (y == 10) (Some (all_of 10)) None;
    fields = λ f. pos 0;
  };
  cells = λ b at. cond (b == 10) (Number (pos 3)) Undefined;
}

-- for i in seq(0, 4): t[2 * i] = 7
abbrev pub halves : ℕ → Block
halves t = next (For (binder 2) (Lit (pos 0)) (Lit (pos 4))
    (next (Assign t (Mul (Lit (pos 2)) (Var 2) ∷ []) (Const (pos 7))) end)) end

abbrev all_of_it : Option State
all_of_it =
    then_do (run world (next (Alloc (binder 1) I32 (Lit (pos 8) ∷ []) 0)
    (load_nest 1 10 coords loops)) first)
    (λ t. then_do (run world (halves 1) t) (run world (store_nest 1 10 coords back)))

even_cells : cell_of 10 (pos 2) all_of_it ≡ Some (Number (pos 7))
unfolding int_wrap
even_cells = refl

odd_cells : cell_of 10 (pos 3) all_of_it ≡ Some (Number (pos 3))
unfolding int_wrap
odd_cells = refl

without_staging : cell_of 10 (pos 3) (run world (halves 10) first) ≡ Some (Number (pos 3))
unfolding int_wrap
without_staging = refl

-- x[0:8] has one extent, 8
the_box : (numbers first.scene (spans coords) ≡ pos 8 ∷ []) × (all_positive (pos 8 ∷ []) ≡ true)
the_box = box_law first.scene 10 coords (all_of 10) refl

-- a block that uses no other name of x's root
alone_if : (b : Block) → in_block (has_root (updated (λ y. y) 1 1) 10) (λ y. y == 1) b ≡ false
    → makes b 1 ≡ false → IsAlone (λ y. y == 1) (λ y. y) 1 (all_of 10) eight b first
alone_if b unused unmade = record {
  sound = record { tidy = λ b e at. tidy (b == 10) e; seen = λ y z e. there z (y == 10) e };
  roots = λ y z e. roots y z (y == 10) refl e;
  own = λ b i. refl;
  there = refl;
  new = record { control = refl; buffers = refl; views = refl };
  blinds = refl;
  names = unused;
  not_made = unmade;
}
  where
    tidy : (t : Bool) → cond {A = Option Shape} t (Some eight) None ≡ None
        → cond t (Number (pos 3)) Undefined ≡ Undefined
    tidy true e = absurd (none_is_some (sym e))
    tidy false e = refl

    there : (z : Seen) (t : Bool) → cond {A = Option Seen} t (Some (all_of 10)) None ≡ Some z
        → IsSome (first.scene.buffers z.buffer)
    there z true e = subst (λ (o : Seen). IsSome (first.scene.buffers o.buffer))
        (one_value (all_of 10) z e) refl
    there z false e = absurd (none_is_some e)

    roots : (y : ℕ) (z : Seen) (t : Bool) → (y == 10) ≡ t
        → cond {A = Option Seen} t (Some (all_of 10)) None ≡ Some z → z.buffer ≡ y
    roots y z true k e = subst (λ (o : Seen). o.buffer ≡ y) (one_value (all_of 10) z e)
        (sym (eqb-true y 10 k))
    roots y z false k e = absurd (none_is_some e)

pub alone : IsAlone (λ y. y == 1) (λ y. y) 1 (all_of 10) eight (halves 1) first
alone = alone_if (halves 1) refl refl

not_written : writes world (updated (λ y. y) 1 1) (halves 1) 10 ≡ false
not_written = (alone_law (λ y. y == 1) world (λ y. y) 1 (all_of 10) eight (halves 1) first
    alone).not_written

over_spans : AreOverSpans loops coords first.scene
over_spans = record { apart = λ y e. absurd (true≢false (sym e)); equal = λ n. refl }

-- it runs, so the window is there
window_there : (t : State) → run world
    (nest loops (Assign 1 (variables loops) (Read 10 (shifted coords (variables loops))))) s ≡ Some
    t → IsSome (window s.scene 10 coords)
window_there t e = inside_law world 10 coords loops (Assign 1 (variables loops)
    (Read 10 (shifted coords (variables loops)))) s t (refl, tt)
    (record { apart = λ y e. absurd (true≢false (sym e)); equal = λ n. refl }) refl
    (uses_law world 1 10 (shifted coords (variables loops)) (variables loops) (Const (pos 0))).0 e

-- ---- the laws together

abbrev Fits : Value → Type 0
Fits v = stored_as I32 v ≡ v

fits_three : Fits (Number (pos 3))
unfolding int_wrap
fits_three = refl

fits_if : (t : Bool) (v : Value) → Fits v → Fits (cond t (Number (pos 7)) v)
fits_if true v h = seven
fits_if false v h = h

fits_held : (o : Option (List ℤ)) → Fits (held_at (λ at. Number (pos 3)) o)
fits_held None = refl
fits_held (Some at) = fits_three

-- t holds 7 where i was, else what it had
abbrev halved : List ℤ → Value
halved at =
    cond (same_index at (pos 6 ∷ [])) (Number (pos 7)) (cond (same_index at (pos 4 ∷ []))
    (Number (pos 7))
    (cond (same_index at (pos 2 ∷ [])) (Number (pos 7)) (cond (same_index at (pos 0 ∷ []))
    (Number (pos 7))
    (held_at (λ to. Number (pos 3)) (cell_at (Range (pos 0) (pos 8) ∷ []) at)))))

halved_fits : (at : List ℤ) → Fits (halved at)
halved_fits at = fits_if (same_index at (pos 6 ∷ [])) _ (fits_if (same_index at (pos 4 ∷ [])) _
    (fits_if (same_index at (pos 2 ∷ [])) _ (fits_if (same_index at (pos 0 ∷ [])) _
    (fits_held (cell_at (Range (pos 0) (pos 8) ∷ []) at)))))

halved_is : (t : State) → run world (halves 1) (staged 1 (all_of 10) eight first) ≡ Some t
    → (at : List ℤ) → t.cells 1 at ≡ halved at
unfolding int_wrap
halved_is t e at = ap (λ o. elim o [ None ↦ Undefined | Some u ↦ u.cells 1 at ]) (sym e)

may_go_round : MayGoRound world (binder 1) (Lit (pos 8) ∷ []) 10 (all_of 10) eight coords loops
    back (halves 1) first
may_go_round = record {
  sizes = refl;
  before = record {
    tidy = λ b e at. tidy at (b == 1) (b == 10) e;
    name = refl;
    there = (eight, refl);
    other = refl;
    window = λ n. refl;
    distinct = (refl, tt);
    over = (refl, λ n. tt);
  };
  again = record {
    tidy = λ b e at. tidy at (b == 1) (b == 10) e;
    name = refl;
    there = (eight, refl);
    other = refl;
    window = λ n. refl;
    distinct = (refl, tt);
    over = (refl, λ n. tt);
  };
  fit = λ to at e. subst (λ (z : Shape). stored_as z.cell (Number (pos 3)) ≡ Number (pos 3))
      (one_value eight to e) fits_three;
  between = record {
    own = refl;
    name = refl;
    root = refl;
    plain = refl;
    variables = λ y e. absurd
        (true≢false (sym e));
  };
  behind = λ t e. (
    record { apart = λ y e. absurd (true≢false (sym e)); equal = λ n. refl },
    fits t
        e,
  );
}
  where
    tidy : (at : List ℤ) (r t : Bool)
        → cond {A = Option Shape} r (Some eight) (cond t (Some eight) None) ≡ None
        → cond {A = List ℤ → Value} r (λ to. Undefined) (λ to. cond t (Number (pos 3)) Undefined) at
        ≡ Undefined
    tidy at true t e = refl
    tidy at false true e = absurd (none_is_some (sym e))
    tidy at false false e = refl

    fits : (t : State) → run world (halves 1) (staged 1 (all_of 10) eight first) ≡ Some t
        → FitInto t 1 10
    fits t e to at k =
        let same : eight ≡ to = one_value eight to
        (ap (λ o. elim o [ None ↦ None | Some u ↦ u.scene.buffers 10 ]) e ∙ k) in
        subst (λ (z : Shape). stored_as z.cell (t.cells 1 at) ≡ t.cells 1 at) same
        (subst Fits (sym (halved_is t e at)) (halved_fits at))

-- ---- each of the laws there

-- t is new and holds nothing
abbrev empty : State
empty = emptied 1 I32 (pos 8 ∷ []) first

three_fits : (to : Shape) → Some eight ≡ Some to
    → stored_as to.cell (Number (pos 3)) ≡ Number (pos 3)
three_fits to e = subst (λ (z : Shape). stored_as z.cell (Number (pos 3)) ≡ Number (pos 3))
    (one_value eight to e) fits_three

loaded : run world (load_nest 1 10 coords loops) empty
    ≡ Some (with_contents 1 (contents empty.cells (all_of 10)) empty)
loaded = loads_law world 1 10 I32 (all_of 10) coords loops empty may_go_round.before
    (λ to at e. three_fits to e) refl (λ at. refl)

way_in : run world (next (Alloc (binder 1) I32 (Lit (pos 8) ∷ []) 0) (load_nest 1 10 coords loops))
    first ≡ Some (staged 1 (all_of 10) eight first)
way_in = stage_in_law world (binder 1) (Lit (pos 8) ∷ []) 0 10 (all_of 10) eight coords loops first
    refl refl may_go_round.before may_go_round.fit

-- over x's window, the same in each turn
over_the_window : RunOver loops (pos 8 ∷ []) first.scene
over_the_window = (spans_law 10 coords loops first.scene over_spans).0

fits_three_in : FitsCell I32 (Number (pos 3))
unfolding int_wrap
fits_three_in = refl

pub cells_fit : CellsFit first
cells_fit b shape e at = go (b == 10) e
  where
    go : (r : Bool) → cond {A = Option Shape} r (Some eight) None ≡ Some shape
        → FitsCell shape.cell (cond r (Number (pos 3)) Undefined)
    go true k = subst (λ (z : Shape). FitsCell z.cell (Number (pos 3))) (one_value eight shape k)
        fits_three_in
    go false k = absurd (none_is_some k)

fit_back : FitInto first 10 10
fit_back = fit_into_law first 10 10 eight cells_fit refl
    (λ to e. ap (λ (z : Shape). z.cell) (sym (one_value eight to e)))

-- behind the block
behind : (t : State) → run world (halves 1) (staged 1 (all_of 10) eight first) ≡ Some t
    → IsStaging 1 10 (all_of 10) coords back t
behind t e = behind_law world 1 10 (all_of 10) coords back (halves 1)
    (staged 1 (all_of 10) eight first) t (staged_sound 1 (all_of 10) eight first alone.sound)
    (record {
      tidy = (staged_sound 1 (all_of 10) eight first alone.sound).tidy;
      name = refl;
      there = (eight, refl);
      other = refl;
      window = λ n. refl;
      distinct = (refl, tt);
      over = (refl, λ n. tt);
    }) may_go_round.between e (may_go_round.behind t e).0

may_stage : MayStage (has_root (updated (λ y. y) 1 1) 10) (λ y. y == 1) world (updated (λ y. y) 1 1)
    1 (all_of 10) eight (halves 1) first
may_stage = alone_law (λ y. y == 1) world (λ y. y) 1 (all_of 10) eight (halves 1) first alone

staged_by_nests : Both (AreAlike first) all_of_it
    (run world (halves 1) (on_scene (with_view 1 (all_of 10)) first))
staged_by_nests = stage_law (has_root (updated (λ y. y) 1 1) 10) (λ y. y == 1) world
    (updated (λ y. y) 1 1) (binder 1) (Lit (pos 8) ∷ []) 0 10 (all_of 10) eight coords loops
    back (halves 1) first may_stage (record {
      sizes = refl;
      before = may_go_round.before;
      fit = may_go_round.fit;
      behind = λ t e. (behind t e, (may_go_round.behind t e).1);
    })

x_unwritten : writes world (λ y. y) (halves 1) 10 ≡ false
x_unwritten = unwritten_law (has_root (λ y. y) 10) (λ y. false) world (λ y. y) (halves 1) 10 refl
    (λ y e. e) refl

-- ---- a block that only reads: y: i32; y = t[3]

abbrev pub reader : ℕ → Block
reader t = next (Alloc (binder 5) I32 [] 0) (next (Assign 5 [] (Read t (Lit (pos 3) ∷ []))) end)

alone_too : IsAlone (λ y. y == 1) (λ y. y) 1 (all_of 10) eight (reader 1) first
alone_too = alone_if (reader 1) refl refl

may_read : MayStage (has_root (updated (λ y. y) 1 1) 10) (λ y. y == 1) world (updated (λ y. y) 1 1)
    1 (all_of 10) eight (reader 1) first
may_read = alone_law (λ y. y == 1) world (λ y. y) 1 (all_of 10) eight (reader 1) first alone_too

nothing_to_store : IfSome (run world (reader 1) (staged 1 (all_of 10) eight first)) (λ t.
    copy_back true (GivenView (all_of 10)) (t.cells 1) t.cells ≡ t.cells)
nothing_to_store = no_store_law world (updated (λ y. y) 1 1) 1 (all_of 10) eight (reader 1) first
    may_read.roots refl refl refl refl

read_through : Both (AreAlike first)
    (then_do (run world (next (Alloc (binder 1) I32 (Lit (pos 8) ∷ []) 0)
    (load_nest 1 10 coords loops)) first) (run world (reader 1)))
    (run world (reader 1) (on_scene (with_view 1 (all_of 10)) first))
read_through = reader_law (has_root (updated (λ y. y) 1 1) 10) (λ y. y == 1) world
    (updated (λ y. y) 1 1) (binder 1) (Lit (pos 8) ∷ []) 0 10 (all_of 10) eight coords loops
    (reader 1) first may_read refl may_go_round.before may_go_round.fit refl

-- ---- all of it

halves_are_staged : Both (AreAlike first) all_of_it
    (run world (halves 1) (on_scene (with_view 1 (all_of 10)) first))
halves_are_staged = round_law (λ y. y == 1) world (λ y. y) (binder 1) (Lit (pos 8) ∷ []) 0 10
    (all_of 10) eight coords loops back (halves 1) first alone may_go_round

-- ---- the block of x and the block of t

-- for i in seq(0, 4): t[2 * i - 0] = 7
abbrev pub on_t : Block
on_t = converted 1 10 coords (halves 10)

is_on_t : on_t ≡ next (For (binder 2) (Lit (pos 0)) (Lit (pos 4))
    (next (Assign 1 (Sub (Mul (Lit (pos 2)) (Var 2)) (Lit (pos 0)) ∷ []) (Const (pos 7))) end)) end
is_on_t = refl

-- the window has no point
they_fit : FitsWithin world 10 coords (halves 10) first
they_fit = fits_law world 10 coords (halves 10) first
    (tt, λ n u come. (((λ e. tt), tt), tt, λ v e. tt), λ v e. tt)

new_name : IsNewName 1 coords (halves 10)
new_name = record { block = refl; spots = refl }

abbrev back_on_x : Block
back_on_x = with_window 1 (Window 10 coords) on_t

same_along : SameAlong world (halves 10) back_on_x first
same_along = converted_along world 1 10 coords (halves 10) first new_name they_fit

same_run : run world (halves 10) first ≡ run world back_on_x first
same_run = converted_law world 1 10 coords (halves 10) first new_name they_fit

-- ---- the block of x between the nests

on_t_is : (t : State) → run world on_t (staged 1 (all_of 10) eight first) ≡ Some t
    → (at : List ℤ) → t.cells 1 at ≡ halved at
unfolding int_wrap
on_t_is t e at = ap (λ o. elim o [ None ↦ Undefined | Some u ↦ u.cells 1 at ]) (sym e)

between_on_t : IsBetween 1 10 (all_of 10) coords on_t
between_on_t = record {
  own = refl;
  name = refl;
  root = refl;
  plain = refl;
  variables = λ y e. absurd (true≢false (sym e));
}

goes_on_t : MayGoRound world (binder 1) (Lit (pos 8) ∷ []) 10 (all_of 10) eight coords loops
    back on_t first
goes_on_t = record {
  sizes = refl;
  before = may_go_round.before;
  again = may_go_round.again;
  fit = may_go_round.fit;
  between = between_on_t;
  behind = λ t e. (
    record { apart = λ y k. absurd (true≢false (sym k)); equal = λ n. refl },
    fits t e,
  );
}
  where
    fits : (t : State) → run world on_t (staged 1 (all_of 10) eight first) ≡ Some t
        → FitInto t 1 10
    fits t e to at k =
        let same : eight ≡ to = one_value eight to
        (ap (λ o. elim o [ None ↦ None | Some u ↦ u.scene.buffers 10 ]) e ∙ k) in
        subst (λ (z : Shape). stored_as z.cell (t.cells 1 at) ≡ t.cells 1 at) same
        (subst Fits (sym (on_t_is t e at)) (halved_fits at))

may_convert : MayConvert world 1 10 (all_of 10) coords (halves 10) first
may_convert = record {
  sound = alone.sound;
  unbound = alone.new;
  window = refl;
  new = new_name;
  fit = they_fit;
  between = between_on_t;
}

on_a_view : IfSome (run world on_t (on_scene (with_view 1 (all_of 10)) first))
    (Follows (λ t u. SameBut (λ y. y == 1) u t) world (halves 10) first)
on_a_view = viewed_law world 1 10 (all_of 10) coords (halves 10) first may_convert

between_nests : IfSome
    (then_do (run world (next (Alloc (binder 1) I32 (Lit (pos 8) ∷ []) 0)
    (load_nest 1 10 coords loops)) first)
    (λ t. then_do (run world on_t t) (run world (store_nest 1 10 coords back))))
    (Follows (λ t u. AreAlike first u t) world (halves 10) first)
between_nests = staged_block_law (λ y. y == 1) world (λ y. y) (binder 1) (Lit (pos 8) ∷ []) 0 10
    (all_of 10) eight coords loops back (halves 10) first may_convert (alone_if on_t refl refl)
    goes_on_t

-- y: i32; y = x[3], which is y = t[3 - 0]
may_convert_reader : MayConvert world 1 10 (all_of 10) coords (reader 10) first
may_convert_reader = record {
  sound = alone.sound;
  unbound = alone.new;
  window = refl;
  new = record { block = refl; spots = refl };
  fit = fits_law world 10 coords (reader 10) first
      (tt, tt, λ u e. ((λ k. absurd (true≢false (sym k)), λ k. tt), tt, λ v k. tt));
  between = record {
    own = refl;
    name = refl;
    root = refl;
    plain = refl;
    variables = λ y e. absurd (true≢false (sym e));
  };
}

behind_loads : IfSome
    (then_do (run world (next (Alloc (binder 1) I32 (Lit (pos 8) ∷ []) 0)
    (load_nest 1 10 coords loops)) first) (run world (converted 1 10 coords (reader 10))))
    (Follows (λ t u. AreAlike first u t) world (reader 10) first)
behind_loads = staged_reader_law (λ y. y == 1) world (λ y. y) (binder 1) (Lit (pos 8) ∷ []) 0 10
    (all_of 10) eight coords loops (reader 10) first may_convert_reader
    (alone_if (converted 1 10 coords (reader 10)) refl refl) refl may_go_round.before
    may_go_round.fit refl

-- ---- and in the place of the block

they_hide : Hides (λ y. y == 1) (halves 10)
    (between (binder 1) I32 (Lit (pos 8) ∷ []) 0 10 coords loops back on_t) first
they_hide = record {
  none = record {
    sound = alone.sound;
    unbound = λ y e. subst (IsUnbound first)
        (sym (eqb-true y 1 e)) alone.new;
  };
  of_old = λ y e. absurd (true≢false (sym e));
  of_new = λ y e. either (y == 1) e;
}
  where
    either : (t : Bool) → (t || false) ≡ true → t ≡ true
    either true e = refl
    either false e = e

it_may_stand : MayReplace world (λ y. y == 1) (halves 10)
    (between (binder 1) I32 (Lit (pos 8) ∷ []) 0 10 coords loops back on_t) first
it_may_stand = staged_replaces (λ y. y == 1) (λ y. y == 1) world (λ y. y) (binder 1) I32
    (Lit (pos 8) ∷ []) 0 10 coords loops back (halves 10) first they_hide (λ u e. record {
      seen = all_of 10;
      to = eight;
      cell_is = refl;
      may = may_convert;
      alone = alone_if on_t refl refl;
      round = goes_on_t;
    })

-- a block that does nothing may stand for one that allocates y: both leave all of before
by_alike_ends : MayReplace world (λ y. y == 5) (next (Alloc (binder 5) I32 [] 0) end)
    (next Pass end)
    first
by_alike_ends = alike_replaces world (λ y. y == 5) (next (Alloc (binder 5) I32 [] 0) end)
    (next Pass end) first (record {
      none = record {
        sound = alone.sound;
        unbound = λ y e. subst (IsUnbound first)
            (sym (eqb-true y 5 e)) (record { control = refl; buffers = refl; views = refl });
      };
      of_old = λ y e. either (y == 5) e;
      of_new = λ y e. absurd (true≢false (sym e));
    })
    (λ t u e f. record {
      fields = ap (λ (v : State). v.scene.fields) (one_value u first (sym f))
          ∙ ap (λ o. fields_of o) e;
      cells = λ y at i. ap (λ (v : State). v.cells y at) (one_value u first (sym f))
          ∙ sym (unmade y at i (y == 5) refl) ∙ ap (λ o. cells_of o y at) e;
    })
  where
    either : (t : Bool) → (t || false) ≡ true → t ≡ true
    either true e = refl
    either false e = e

    fields_of : Option State → ℕ → ℤ
    fields_of None = first.scene.fields
    fields_of (Some v) = v.scene.fields

    cells_of : Option State → ℕ → List ℤ → Value
    cells_of None = first.cells
    cells_of (Some v) = v.cells

    not_there : (y : ℕ) → IsSome (first.scene.buffers y) → (y == 5) ≡ true → ⊥
    not_there y i e =
        true≢false (sym (subst (λ z. IsSome (first.scene.buffers z)) (eqb-true y 5 e) i))

    unmade : (y : ℕ) (at : List ℤ) → IsSome (first.scene.buffers y) → (r : Bool) → (y == 5) ≡ r
        → cond {A = List ℤ → Value} r (λ to. Undefined) (first.cells y) at ≡ first.cells y at
    unmade y at i false e = refl
    unmade y at i true e = absurd (not_there y i e)

-- ---- the whole from what is known

fits_seven_in : FitsCell I32 (Number (pos 7))
unfolding int_wrap
fits_seven_in = refl

in_if : (t : Bool) (v : Value) → FitsCell I32 v → FitsCell I32 (cond t (Number (pos 7)) v)
in_if true v h = fits_seven_in
in_if false v h = h

in_held : (o : Option (List ℤ)) → FitsCell I32 (held_at (λ at. Number (pos 3)) o)
in_held None = tt
in_held (Some at) = fits_three_in

in_halved : (at : List ℤ) → FitsCell I32 (halved at)
in_halved at = in_if (same_index at (pos 6 ∷ [])) _ (in_if (same_index at (pos 4 ∷ [])) _
    (in_if (same_index at (pos 2 ∷ [])) _ (in_if (same_index at (pos 0 ∷ [])) _
    (in_held (cell_at (Range (pos 0) (pos 8) ∷ []) at)))))

x_is_kept : (t : State) → run world on_t (staged 1 (all_of 10) eight first) ≡ Some t
    → (at : List ℤ) → t.cells 10 at ≡ Number (pos 3)
x_is_kept t e at = ap (λ o. elim o [ None ↦ Number (pos 3) | Some u ↦ u.cells 10 at ]) (sym e)

abbrev shape_if : Bool → Bool → Option Shape
shape_if p q = cond p (Some eight) (cond q (Some eight) None)

shape_is : (t : State) → run world on_t (staged 1 (all_of 10) eight first) ≡ Some t → (b : ℕ)
    → t.scene.buffers b ≡ shape_if (b == 1) (b == 10)
shape_is t e b = ap (λ o. elim o [ None ↦ None | Some u ↦ u.scene.buffers b ]) (sym e)

cells_fit_behind : (t : State) → run world on_t (staged 1 (all_of 10) eight first) ≡ Some t
    → CellsFit t
cells_fit_behind t e b shape k at = go (b == 1) (b == 10) refl refl
  where
    words : (p q : Bool) → shape_if p q ≡ Some shape → shape.cell ≡ I32
    words true q i = ap (λ (z : Shape). z.cell) (sym (one_value eight shape i))
    words false true i = ap (λ (z : Shape). z.cell) (sym (one_value eight shape i))
    words false false i = absurd (none_is_some i)

    is_word : shape.cell ≡ I32
    is_word = words (b == 1) (b == 10) (sym (shape_is t e b) ∙ k)

    at_number : (n : ℕ) → b ≡ n → FitsCell I32 (t.cells n at) → FitsCell shape.cell (t.cells b at)
    at_number n i h = subst (λ c. FitsCell c (t.cells b at)) (sym is_word)
        (subst (λ m. FitsCell I32 (t.cells m at)) (sym i) h)

    go : (p q : Bool) → (b == 1) ≡ p → (b == 10) ≡ q → FitsCell shape.cell (t.cells b at)
    go true q i j = at_number 1 (eqb-true b 1 i)
        (subst (FitsCell I32) (sym (on_t_is t e at)) (in_halved at))
    go false true i j = at_number 10 (eqb-true b 10 j)
        (subst (FitsCell I32) (sym (x_is_kept t e at)) fits_three_in)
    go false false i j = absurd (none_is_some (sym (ap₂ shape_if i j) ∙ sym (shape_is t e b) ∙ k))

eight_spans : (ls : List Loop) → AreDistinct ls
    → ((z : Scene) → numbers z (extents_of ls) ≡ pos 8 ∷ []) → AreOver ls coords
eight_spans ls new equal = record {
  distinct = new;
  apart = λ y e. absurd (true≢false (sym e));
  equal = equal;
}

pub are_made : AreMade (λ y. y == 1) (λ y. y) (binder 1) (Lit (pos 8) ∷ []) 10 coords loops back
    (halves 10)
are_made = record {
  new = new_name;
  other = refl;
  plain = refl;
  sizes = λ z. refl;
  loads = eight_spans loops (refl, tt) (λ z. refl);
  stores = eight_spans back (refl, tt) (λ z. refl);
  blinds = refl;
  names = refl;
  not_made = refl;
  own = refl;
  name = refl;
  root_name = refl;
  variables = λ y e. absurd (true≢false (sym e));
}

is_known : IsKnown world (λ y. y) (binder 1) I32 10 coords (halves 10) first
is_known = record {
  sound = alone.sound;
  cells = cells_fit;
  unbound = alone.new;
  roots = alone.roots;
  own_roots = alone.own;
  cell_is = λ z to i k. ap (λ (q : Shape). q.cell) (one_value to eight (sym k
      ∙ ap (λ (w : Seen). first.scene.buffers w.buffer) (sym (one_value (all_of 10) z i))));
  fit = they_fit;
}

fits_there : FitsBehind world (binder 1) 10 coords (halves 10) first
fits_there z to t i k e = cells_fit_behind t (subst (λ w. run world on_t (staged 1 w eight first)
    ≡ Some t) (sym (one_value (all_of 10) z i)) (subst (λ q. run world on_t (staged 1 z q first)
    ≡ Some t) (one_value to eight (sym k ∙ ap (λ (w : Seen). first.scene.buffers w.buffer)
    (sym (one_value (all_of 10) z i)))) e))

-- it runs, so it is staged
it_is_staged : (u : State) → run world (between (binder 1) I32 (Lit (pos 8) ∷ []) 0 10 coords loops
    back on_t) first ≡ Some u → IsStaged (λ y. y == 1) world (λ y. y) (binder 1) I32
    (Lit (pos 8) ∷ []) 10 coords loops back (halves 10) first
it_is_staged u e = known_law (λ y. y == 1) world (λ y. y) (binder 1) I32 (Lit (pos 8) ∷ []) 0 10
    coords loops back (halves 10) first u are_made is_known fits_there
    e

-- x is in scope as a tensor, and what is made keeps the rules
abbrev x_there : Scope
x_there = with_name [] (binder 10) (BufferName I32 1 true)

first_sorted : IsSorted (kinds_of []) x_there first
first_sorted = record {
  buffers = λ b shape e. buffers b shape (b == 10) refl e;
  views = λ y c r d z sort v shape e. sees c r d z shape (y == 10) sort v e;
  cells = cells_fit;
  fields = λ f. tt;
}
  where
    buffers : (b : ℕ) (shape : Shape) (t : Bool) → (b == 10) ≡ t
        → cond {A = Option Shape} t (Some eight) None ≡ Some shape
        → (rank : ℕ) × (dense : Bool)
        × (sort_in x_there b ≡ Some (BufferName shape.cell rank dense))
    buffers b shape true i e = (
      1,
      true,
      ap (λ t. cond t (Some (BufferName I32 1 true)) None) i
          ∙ ap (λ (z : Shape). Some (BufferName z.cell 1 true)) (one_value eight shape e),
    )
    buffers b shape false i e = absurd (none_is_some e)

    sees : (c : Cell) (r : ℕ) (d : Bool) (z : Seen) (shape : Shape) (t : Bool)
        → cond {A = Option Sort} t (Some (BufferName I32 1 true)) None ≡ Some (BufferName c r d)
        → cond {A = Option Seen} t (Some (all_of 10)) None ≡ Some z
        → first.scene.buffers z.buffer ≡ Some shape → Sees c d z shape
    sees c r d z shape false sort v e = absurd (none_is_some v)
    sees c r d z shape true sort v e =
        let same : all_of 10 ≡ z = one_value (all_of 10) z v in
        let has : eight ≡ shape = one_value eight shape
        (ap (λ (w : Seen). first.scene.buffers w.buffer) same ∙ e) in
        record {
          cell_is = cell_of_sort ∙ ap (λ (q : Shape). q.cell) has;
          all = λ k. (
            sym (ap (λ (w : Seen). w.sides) same)
                ∙ ap (λ (q : Shape). whole q.dims) has,
            ap (λ (q : Shape). q.strides) (sym has) ∙ ap (λ (q : Shape). row_major q.dims) has,
          );
        }
      where
        cell_of_sort : c ≡ I32
        cell_of_sort = cc

fits_by_rules : FitsBehind (unit_world (kinds_of []) []) (binder 1) 10 coords (halves 10) first
fits_by_rules = fits_behind_law [] 1 [] x_there (λ y. y == 1) (λ y. y) (λ y. y) (binder 1) I32
    (Lit (pos 8) ∷ []) 0 10 coords loops back (halves 10) first tt are_made (record {
      sound = alone.sound;
      cells = cells_fit;
      unbound = alone.new;
      roots = alone.roots;
      own_roots = alone.own;
      cell_is = is_known.cell_is;
      fit = fits_law (unit_world (kinds_of []) []) 10 coords (halves 10) first
          (tt, λ n u come. (((λ e. tt), tt), tt, λ v e. tt), λ v e. tt);
    }) first_sorted refl
