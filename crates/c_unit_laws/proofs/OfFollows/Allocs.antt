-- The C of an allocation: on the stack or by `malloc`, of cells or of vectors.
use Rattle.std.proofs.Common.{◌≡◌, ◌^◌, ℕ, zero, suc, ℤ, pos, ◌*ℤ◌, ◌≤ℤ◌, Bool, true, false, ◌||◌, ◌==◌, cond, List, [], ◌∷◌, Option, Some, None, refl, sym, ap, ◌∙◌, subst, arith, true≢false, int_le, ⊎_elim}
use Rattle.std.proofs.lemmas.Int.{ints}
use Rattle.exo_tree.specs.Tree.{Binder, Cell, Control}
use Rattle.exo_meaning.specs.Value.{Undefined}
use Rattle.exo_meaning.specs.Scene.{then_do, where_true, Scene, numbers, number, updated}
use Rattle.exo_meaning.specs.State.{State, with_contents, on_scene, with_buffer}
use Rattle.exo_meaning.specs.Calls.{all_positive}
use Rattle.exo_meaning.specs.Run.{product, tensor, allocate}
use Rattle.c_tree.specs.CTree.{Name, Element, Single, Vector, Literal, CBlock, stop, first, Free, followed_by}
use Rattle.c_unit_laws.specs.Follows.Machine.Machine.{Outcome, Done, Fault, NoStore, after}
use Rattle.c_unit_laws.specs.Follows.Machine.Machine.{where_good, hiding, Pointer, Machine}
use Rattle.c_unit_laws.specs.Follows.Machine.Machine.{number64}
use Rattle.c_unit_laws.specs.Follows.Machine.CRun.{CWorld, run_c, step_c, at_most_48, amount}
use Rattle.c_unit_laws.specs.Follows.Machine.CRun.{cell_of, lanes_of, array_thing, made, make}
use Rattle.c_lowering.specs.Made.Lowered.{Memory, Forms, TensorForm, number_with, dims_of}
use Rattle.c_lowering.specs.Made.Lowered.{product_of, alloc_of, allocated, element_of, is_empty}
use Rattle.c_lowering.specs.Made.Lowered.{without_lanes, stack_count}
use Rattle.c_unit_laws.specs.Follows.Simulation.{Ground, Follows, Layout, Matches, Ends, IsPlain}
use Rattle.c_unit_laws.specs.Follows.Simulation.{array_at}
use Rattle.c_unit_laws.specs.Follows.Magnitude.{IsNarrow}
use Rattle.c_unit_laws.specs.Follows.Good.{AreGood, AreLiterals, EndsInLanes, FitsMemory, IsFresh}
use Rattle.c_unit_laws.proofs.OfFollows.Steps.{nothing}
use Rattle.c_unit_laws.proofs.OfFollows.Numbers.{same_number}
use Rattle.c_unit_laws.proofs.OfFollows.Extents.{positive_product, left_factor}
use Rattle.c_unit_laws.proofs.OfFollows.Scopes.{c_number_wider}
use Rattle.c_unit_laws.proofs.OfFollows.Amounts.{Amount, IsMuch, at_most_is, dims_amount, not_much}
use Rattle.c_unit_laws.proofs.OfFollows.Counts.{ends_in, front_positive, front_times, count_is}
use Rattle.c_unit_laws.proofs.OfFollows.Counts.{front_good, front_literals}
use Rattle.c_unit_laws.proofs.OfFollows.Allocated.{left_ends, freed_ends}
use Rattle.c_unit_laws.proofs.OfFollows.Clauses.{Rest, AllocClause}

-- ---- one block after the other

pub runs_on : (world : CWorld) (a b : CBlock) (m : Machine) → run_c world (followed_by a b) m ≡ after (run_c world a m) (run_c world b)
runs_on world stop b m = refl
runs_on world (first x a) b m = then_on (step_c world x m) (run_c world (followed_by a b)) (run_c world a) (run_c world b) (runs_on world a b)
  where
    then_on : (o : Outcome Machine) (f g h : Machine → Outcome Machine) → ((n : Machine) → f n ≡ after (g n) h) → after o f ≡ after (after o g) h
    then_on (Done n) f g h e = e n
    then_on Fault f g h e = refl
    then_on NoStore f g h e = refl

-- ---- elements

not_zero : (n : ℕ) → (suc n == 0) ≡ false
not_zero n = grind arith

one_most : (n : ℕ) → int_le (pos 1) (pos (suc n)) ≡ true
one_most n = grind arith

module _ (ctype : Name) (cell : Cell) where
  abbrev element : ℕ → Element
  element lanes = cond (lanes == 0) (Single cell) (Vector ctype lanes cell)

  cell_is : (lanes : ℕ) → cell_of (element lanes) ≡ cell
  cell_is zero = refl
  cell_is (suc n) = ap (λ t. cell_of (cond t (Single cell) (Vector ctype (suc n) cell))) (not_zero n)

  thing_is : (lanes : ℕ) (p : Pointer) → array_thing (element lanes) p ≡ array_at lanes p
  thing_is zero p = refl
  thing_is (suc n) p = ap (λ t. array_thing (cond t (Single cell) (Vector ctype (suc n) cell)) p) (not_zero n)

  some_lanes : (lanes : ℕ) → int_le (pos 1) (pos (lanes_of (element lanes))) ≡ true
  some_lanes zero = refl
  some_lanes (suc n) = ap (λ t. int_le (pos 1) (pos (lanes_of (cond t (Single cell) (Vector ctype (suc n) cell))))) (not_zero n) ∙ one_most n

  module _ (scene : Scene) (ds : List Control) where
    size_is : (lanes : ℕ) → EndsInLanes lanes ds → all_positive (numbers scene ds) ≡ true → (product (numbers scene (without_lanes lanes ds)) *ℤ pos (lanes_of (element lanes))) ≡ product (numbers scene ds)
    size_is zero h p = times_one (product (numbers scene ds))
      where
        times_one : (z : ℤ) → z *ℤ pos 1 ≡ z
        times_one z = omega (arith, ints)
    size_is (suc n) h p = ap (λ t. product (numbers scene (without_lanes (suc n) ds)) *ℤ pos (lanes_of (cond t (Single cell) (Vector ctype (suc n) cell)))) (not_zero n) ∙ front_times scene n ds h p

own_positive : (scene : Scene) (lanes : ℕ) (ds : List Control) → all_positive (numbers scene ds) ≡ true → all_positive (numbers scene (without_lanes lanes ds)) ≡ true
own_positive scene zero ds h = h
own_positive scene (suc n) ds h = front_positive scene ds h

own_good : (forms : Forms) (most : ℕ → ℕ) (lanes : ℕ) (ds : List Control) → AreGood forms most ds → AreGood forms most (without_lanes lanes ds)
own_good forms most zero ds h = h
own_good forms most (suc n) ds h = front_good forms most ds h

own_literals : (lanes : ℕ) (ds : List Control) → AreLiterals ds → AreLiterals (without_lanes lanes ds)
own_literals zero ds h = h
own_literals (suc n) ds h = front_literals ds h

-- the number of elements on the stack, as it is printed
stack_is : (scene : Scene) (most : ℕ → ℕ) (memory : Memory) (ds : List Control) → FitsMemory memory most ds → all_positive (numbers scene ds) ≡ true → (memory.stack || is_empty ds) ≡ true → stack_count (without_lanes memory.lanes ds) ≡ product (numbers scene (without_lanes memory.lanes ds))
stack_is scene most memory ds fit above h = go memory.stack refl h
  where
    empty : (lanes : ℕ) (es : List Control) → is_empty es ≡ true → stack_count (without_lanes lanes es) ≡ product (numbers scene (without_lanes lanes es))
    empty zero [] e = refl
    empty (suc n) [] e = refl
    empty lanes (d ∷ es) e = absurd (true≢false (sym e))

    go : (t : Bool) → memory.stack ≡ t → (t || is_empty ds) ≡ true → stack_count (without_lanes memory.lanes ds) ≡ product (numbers scene (without_lanes memory.lanes ds))
    go true e k = count_is scene most (without_lanes memory.lanes ds) (own_literals memory.lanes ds (fit.literals e)) (own_positive scene memory.lanes ds above) (fit.small e)
    go false e k = empty memory.lanes ds k

-- ---- the whole statement

module _ (Few : Type 0) (g : Ground) (c_world : CWorld) (forms : Forms) (most : ℕ → ℕ) (root : ℕ → ℕ) (layout : Layout) (x : Binder) (cell : Cell) (dims : List Control) (memory : Memory) (good : AreGood forms most dims) (fresh : IsFresh g forms x.id) (fit : FitsMemory memory most dims) (s : State) (m : Machine) (few : Few → product (numbers s.scene dims) ≤ℤ pos (2 ^ 48)) (match : Matches g forms most root layout s m) (go : State → Option State) (above : all_positive (numbers s.scene dims) ≡ true) where
  abbrev own : List Control
  own = without_lanes memory.lanes dims

  abbrev count : ℤ
  count = product (numbers s.scene own)

  abbrev begun : State
  begun = with_contents x.id (λ at. Undefined) (on_scene (with_buffer x.id (tensor cell (numbers s.scene dims))) s)

  abbrev End : Option State → Outcome Machine → Type 0
  End = Follows Few (Ends g forms layout s m)

  some : int_le (pos 1) count ≡ true
  some = positive_product (numbers s.scene own) (own_positive s.scene memory.lanes dims above)

  cells_are : (count *ℤ pos (lanes_of (element_of memory cell))) ≡ product (numbers s.scene dims)
  cells_are = size_is memory.ctype cell s.scene dims memory.lanes fit.last above

  count_few : product (numbers s.scene dims) ≤ℤ pos (2 ^ 48) → count ≤ℤ pos (2 ^ 48)
  count_few h = below count (count *ℤ pos (lanes_of (element_of memory cell))) (product (numbers s.scene dims)) (left_factor count (pos (lanes_of (element_of memory cell))) some (some_lanes memory.ctype cell memory.lanes)) cells_are h
    where
      below : (a b c : ℤ) → a ≤ℤ b → b ≡ c → c ≤ℤ pos (2 ^ 48) → a ≤ℤ pos (2 ^ 48)
      below a b c e f i = omega (arith, ints, e, f, i)

  -- whatever the number of elements is found to be
  made_follows : (heap : Bool) (o : Outcome ℤ) (rest : Machine → Outcome Machine) → Amount o count → (product (numbers s.scene dims) ≤ℤ pos (2 ^ 48) → End (go begun) (rest (made heap (element_of memory cell) (g.naming.binder x.id) count m))) → End (go begun) (after (make heap (element_of memory cell) (g.naming.binder x.id) o m) rest)
  made_follows heap o rest h k =
      ⊎_elim
      (λ e. subst (λ z. End (go begun) (after (make heap (element_of memory cell) (g.naming.binder x.id) z m) rest)) (sym e.0) (nothing Few (Ends g forms layout s m) (go begun) (λ f. not_much count some (count_few (few f)) e.1)))
      (λ e. subst (λ z. End (go begun) (after (make heap (element_of memory cell) (g.naming.binder x.id) z m) rest)) (sym e.0) cells_made)
      h
    where
      cells_made : End (go begun) (after (after (at_most_48 (count *ℤ pos (lanes_of (element_of memory cell)))) (λ cells. where_good (int_le (pos 1) count) (Done (made heap (element_of memory cell) (g.naming.binder x.id) count m)))) rest)
      cells_made =
          ⊎_elim
          (λ e. subst (λ z. End (go begun) (after (after z (λ cells. where_good (int_le (pos 1) count) (Done (made heap (element_of memory cell) (g.naming.binder x.id) count m)))) rest)) (sym e.0)
          (nothing Few (Ends g forms layout s m) (go begun) (λ f. not_much (product (numbers s.scene dims)) (positive_product (numbers s.scene dims) above) (few f) (subst IsMuch cells_are e.1))))
          (λ e. subst (λ z. End (go begun) (after (after z (λ cells. where_good (int_le (pos 1) count) (Done (made heap (element_of memory cell) (g.naming.binder x.id) count m)))) rest)) (sym e.0)
          (subst (λ t. End (go begun) (after (where_good t (Done (made heap (element_of memory cell) (g.naming.binder x.id) count m))) rest)) (sym some) (k (subst (λ z. z ≤ℤ pos (2 ^ 48)) cells_are e.1))))
          (at_most_is (count *ℤ pos (lanes_of (element_of memory cell))))

  -- the amount that the C computes
  heap_amount : Amount (amount (hiding (g.naming.binder x.id) m.setting) (product_of (dims_of g.naming own))) count
  heap_amount =
      let plain = own_good forms most memory.lanes dims good in
      dims_amount g.naming forms most s.scene (hiding (g.naming.binder x.id) m.setting) value own plain.0 plain.1 (own_positive s.scene memory.lanes dims above)
    where
      value : (e : Control) → IsPlain forms e → IsNarrow most e → number64 (hiding (g.naming.binder x.id) m.setting) (number_with g.naming (λ y k. Literal (pos 1)) e) ≡ Done (number s.scene e)
      value e h k = c_number_wider g forms x.id fresh m.setting None (λ y j. Literal (pos 1)) e h ∙ same_number g.naming forms most layout s.scene m.setting match.names (λ y j. Literal (pos 1)) e h k

  stack_amount : (memory.stack || is_empty dims) ≡ true → Amount (at_most_48 (stack_count own)) count
  stack_amount h = subst (λ z. Amount (at_most_48 z) count) (sym (stack_is s.scene most memory dims fit above h)) (at_most_is count)

  module _ (c : CBlock) (rest : Rest Few g c_world (updated forms x.id (TensorForm cell dims memory.lanes)) most (updated root x.id x.id) (allocate x.id cell (numbers s.scene dims) s) go c) where
    allocated_is : allocate x.id cell (numbers s.scene dims) s ≡ Some begun
    allocated_is = ap (λ b. where_true b (Some begun)) above

    abbrev ending : CBlock
    ending = first (Free (g.naming.binder x.id)) stop

    pub both_follow : (b : Bool) → (memory.stack || is_empty dims) ≡ b → End (go begun) (run_c c_world (allocated b (element_of memory cell) (g.naming.binder x.id) (stack_count own) (product_of (dims_of g.naming own)) c) m)
    both_follow true h =
        made_follows false (at_most_48 (stack_count own)) (run_c c_world c) (stack_amount h)
        (λ fits. left_ends g forms most root layout x.id cell dims memory.lanes good fresh s m match above fits (ends_in s.scene memory.lanes dims fit.last) false (element_of memory cell) count (cell_is memory.ctype cell memory.lanes) (thing_is memory.ctype cell memory.lanes) cells_are Few c_world go c (λ r. rest _ _ _ allocated_is r))
    both_follow false h =
        made_follows true (amount (hiding (g.naming.binder x.id) m.setting) (product_of (dims_of g.naming own))) (run_c c_world (followed_by c ending)) heap_amount
        (λ fits. subst (λ o. End (go begun) o) (sym (runs_on c_world c ending (made true (element_of memory cell) (g.naming.binder x.id) count m)))
        (freed_ends g forms most root layout x.id cell dims memory.lanes good fresh s m match above fits (ends_in s.scene memory.lanes dims fit.last) true (element_of memory cell) count (cell_is memory.ctype cell memory.lanes) (thing_is memory.ctype cell memory.lanes) cells_are Few c_world go c (λ r. rest _ _ _ allocated_is r) refl))

pub alloc_follows : (Few : Type 0) (g : Ground) (c_world : CWorld) → AllocClause Few g c_world
alloc_follows Few g c_world forms most root layout x cell dims memory good fresh fit stored s m few match go c rest = start (all_positive (numbers s.scene dims)) refl
  where
    start : (t : Bool) → all_positive (numbers s.scene dims) ≡ t → Follows Few (Ends g forms layout s m) (then_do (where_true t (Some (with_contents x.id (λ at. Undefined) (on_scene (with_buffer x.id (tensor cell (numbers s.scene dims))) s)))) go) (run_c c_world (alloc_of g.naming x.id cell dims (g.naming.memory memory) c) m)
    start false e = tt
    start true e = both_follow Few g c_world forms most root layout x cell dims (g.naming.memory memory) good fresh fit s m few match go e c rest ((g.naming.memory memory).stack || is_empty dims) refl
