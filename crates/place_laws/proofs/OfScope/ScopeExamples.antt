-- The laws of scopes at small blocks: both sides compute.
use Rattle.std.proofs.Common.{◌≡◌, ℕ, ℤ, pos, ◌==◌, Bool, true, false, cond, List, []}
use Rattle.std.proofs.Common.{◌∷◌, Option, Some, None, refl, sym, ap, ◌∙◌, subst, true≢false}
use Rattle.std.proofs.Common.{eqb-true}
use Rattle.std.specs.Prelude.{IsSome}
use Rattle.std.specs.Int.{int_wrap}
use Rattle.exo_tree.specs.Tree.{Condition, Lt, Block, end}
use Rattle.exo_tree.specs.Tree.{next, joined, Assign, Reduce, If, For, Alloc, Const, Read, Lit, Var}
use Rattle.exo_tree.specs.Tree.{I32, Field}
use Rattle.meaning_laws.specs.Fresh.{swapped}
use Rattle.meaning_laws.specs.Substitute.{in_block as substituted}
use Rattle.meaning_laws.specs.Scoped.{has_binder}
use Rattle.place_laws.proofs.OfScope.UnrollLoop.{made_copies_are_copies}
use Rattle.meaning_laws.specs.FreshCopies.{MayCopy, is_given}
use Rattle.place_laws.specs.Scope.Turns.{IsSteadyIn}
use Rattle.place_laws.specs.Scope.Unrolled.{AreTurns, AreCopies}
use Rattle.place_laws.proofs.OfScope.Apart.{renamed_mentions, renamed_leaves, substituted_leaves}
use Rattle.place_laws.proofs.OfScope.Apart.{copy_avoids, apart_law}
use Rattle.exo_meaning.specs.Renaming.{re_block}
use Rattle.exo_meaning.specs.Value.{Value, Undefined, Number}
use Rattle.exo_meaning.specs.Scene.{then_do, Shape, Seen, whole}
use Rattle.exo_meaning.specs.State.{State, scoped}
use Rattle.exo_meaning.specs.Run.{run, turn, tensor, turns}
use Rattle.exo_meaning.specs.Refines.{Both}
use Rattle.exo_meaning.specs.Unseen.{in_block, in_block as mentions}
use Rattle.exo_meaning.proofs.Examples.{binder, start, world, seen}
use Rattle.meaning_laws.specs.Context.{MayReplace}
use Rattle.meaning_laws.specs.Sound.{IsSound, IsUnbound}
use Rattle.meaning_laws.proofs.Parts.{none_some, some_injective}
use Rattle.meaning_laws.proofs.Swaps.{swap, swap_moves}
use Rattle.place_laws.specs.Scope.Scopes.{top_binders, HasNone, LeftBut, joined_all, scopes, AreApart}
use Rattle.place_laws.proofs.OfScope.Scopes.{open_scopes_law, split_turn_law, open_scope_law}
use Rattle.place_laws.proofs.OfScope.Scopes.{join_scopes_law, scope_twice_law, scope_in_turn_law}
use Rattle.place_laws.proofs.OfScope.Scopes.{branch_is_scope_law}
use Rattle.place_laws.proofs.OfScope.Opened.{same_refines, block_may_open, block_may_close}
use Rattle.place_laws.proofs.OfScope.Opened.{blocks_may_open, blocks_may_close, branch_may_stand}
use Rattle.place_laws.proofs.OfScope.Opened.{split_may_stand}
use Rattle.place_laws.proofs.OfScope.Turns.{lift_then_law, scope_of_none_law, split_turns_law}
use Rattle.place_laws.proofs.OfScope.Turns.{steady_in_loop_law, lift_branch_law, swap_branches_law}
use Rattle.place_laws.proofs.OfScope.Unrolled.{copies_may_stand, copies_are_turns_law, turns_are_scopes_law}

-- t: i32[1]; t[0] = n; x[1] += t[0], with number y for t
abbrev through : ℕ → ℤ → Block
through y n =
    next (Alloc (binder y) I32 (Lit (pos 1) ∷ []) 0)
    (next (Assign y (Lit (pos 0) ∷ []) (Const n))
    (next (Reduce 0 (Lit (pos 1) ∷ []) (Read y (Lit (pos 0) ∷ []))) end))

abbrev kept_in : ℕ → Option State → Value
kept_in y None = Undefined
kept_in y (Some s) = s.cells y (pos 0 ∷ [])

-- ---- one block

it_leaves_t : top_binders (through 2 (pos 5)) 2 ≡ true
it_leaves_t = refl

-- no other name differs
same_closed : seen (pos 1) (scoped (run world (through 2 (pos 5))) start) ≡ Number (pos 8)
unfolding int_wrap
same_closed = refl

same_opened : seen (pos 1) (run world (through 2 (pos 5)) start) ≡ Number (pos 8)
unfolding int_wrap
same_opened = refl

-- t does
none_closed : kept_in 2 (scoped (run world (through 2 (pos 5))) start) ≡ Undefined
unfolding int_wrap
none_closed = refl

there_opened : kept_in 2 (run world (through 2 (pos 5)) start) ≡ Number (pos 5)
unfolding int_wrap
there_opened = refl

-- ---- two blocks in a row

abbrev two : List Block
two = through 2 (pos 5) ∷ through 3 (pos 7) ∷ []

two_are_apart : AreApart two
two_are_apart = (refl, (refl, tt))

two_closed : seen (pos 1) (scopes world two start) ≡ Number (pos 15)
unfolding int_wrap
two_closed = refl

two_opened : seen (pos 1) (run world (joined_all two) start) ≡ Number (pos 15)
unfolding int_wrap
two_opened = refl

-- a second block of the same names is not apart
same_names_meet : in_block (top_binders (through 2 (pos 5))) (through 2 (pos 7)) ≡ true
same_names_meet = refl

-- ---- the law itself there

-- x alone is there
nothing_else : (y : ℕ) → (y == 0) ≡ false → IsUnbound start y
nothing_else y k = record {
  control = refl;
  buffers = ap (λ t. cond t (Some (tensor I32 (pos 8 ∷ []))) None) k;
  views = ap (λ t. cond t (Some (record { buffer = 0; sides = whole (pos 8 ∷ []) })) None) k;
}

start_sound : IsSound start
start_sound = record { tidy = λ y e at. none (y == 0) at e; seen = λ y z e. there (y == 0) z e }
  where
    none : (t : Bool) (at : List ℤ) → cond t (Some (tensor I32 (pos 8 ∷ []))) None ≡ None
        → cond {A = List ℤ → Value} t (λ at. Number (pos 3)) (λ at. Undefined) at ≡ Undefined
    none true at e = absurd (none_some (sym e))
    none false at e = refl

    there : (t : Bool) (z : Seen) → cond t
        (Some (record { buffer = 0; sides = whole (pos 8 ∷ []) })) None ≡ Some z
        → IsSome (cond {A = Option Shape} (z.buffer == 0) (Some (tensor I32 (pos 8 ∷ []))) None)
    there true z e = subst (λ (w : Seen). IsSome (cond {A = Option Shape} (w.buffer == 0)
        (Some (tensor I32 (pos 8 ∷ []))) None))
        (some_injective (record { buffer = 0; sides = whole (pos 8 ∷ []) }) z e) refl
    there false z e = absurd (none_some e)

-- so none of the names that a block leaves is, where it does not leave x
none_there : (hidden : ℕ → Bool) → hidden 0 ≡ false → HasNone hidden start
none_there hidden out = record {
  sound = start_sound;
  unbound = λ y k. nothing_else y
      (not_x y (y == 0) refl k);
}
  where
    not_x : (y : ℕ) (t : Bool) → (y == 0) ≡ t → hidden y ≡ true → (y == 0) ≡ false
    not_x y true e k = absurd (true≢false (sym k ∙ ap hidden (eqb-true y 0 e) ∙ out))
    not_x y false e k = e

two_differ : Both (LeftBut (top_binders (joined_all two))) (scopes world two start)
    (run world (joined_all two) start)
two_differ = open_scopes_law world two start two_are_apart
    (none_there (top_binders (joined_all two)) refl)

-- ---- a loop of two turns

-- for i in seq(0, 2): t: i32[1]; t[0] = 5; x[i] += t[0]
abbrev turned : ℕ → Block
turned y =
    next (Alloc (binder y) I32 (Lit (pos 1) ∷ []) 0)
    (next (Assign y (Lit (pos 0) ∷ []) (Const (pos 5)))
    (next (Reduce 0 (Var 1 ∷ []) (Read y (Lit (pos 0) ∷ []))) end))

abbrev looped : Block
looped = next (For (binder 1) (Lit (pos 0)) (Lit (pos 2)) (turned 2)) end

-- the turn at number n, with number y for t
abbrev at_turn : ℕ → ℤ → Block
at_turn y n =
    next (Alloc (binder y) I32 (Lit (pos 1) ∷ []) 0)
    (next (Assign y (Lit (pos 0) ∷ []) (Const (pos 5)))
    (next (Reduce 0 (Lit n ∷ []) (Read y (Lit (pos 0) ∷ []))) end))

abbrev written_out : List Block
written_out = at_turn 3 (pos 0) ∷ at_turn 4 (pos 1) ∷ []

copies_may_be : MayReplace world (top_binders (joined_all written_out)) looped
    (joined_all written_out) start
copies_may_be = copies_may_stand world (binder 1) (Lit (pos 0)) (Lit (pos 2)) (turned 2) written_out
    start (refl, (refl, tt)) (none_there (top_binders (joined_all written_out)) refl) (λ n. refl) (
      record {
        to = swap 2 3;
        moves = swap_moves 2 3 (IsUnbound start) (nothing_else 2 refl)
            (nothing_else 3 refl);
        is = refl;
      },
      (
        record {
          to = swap 2 4;
          moves = swap_moves 2 4 (IsUnbound start) (nothing_else 2 refl)
              (nothing_else 4 refl);
          is = refl;
        },
        tt,
      ),
    )

turned_cell : seen (pos 1) (run world looped start) ≡ Number (pos 8)
unfolding int_wrap
turned_cell = refl

same_written_out : seen (pos 1) (run world (joined_all written_out) start) ≡ Number (pos 8)
unfolding int_wrap
same_written_out = refl

-- ---- turns and branches

-- a turn of two blocks, and two turns
split_turned : turn 1 (run world (joined (turned 2) (turned 3))) (pos 1) start
    ≡ then_do (turn 1 (run world (turned 2)) (pos 1) start) (turn 1 (run world (turned 3)) (pos 1))
split_turned = split_turn_law world 1 (turned 2) (turned 3) (pos 1) start refl refl
    (none_there (top_binders (turned 2)) refl)

both_added : seen (pos 1) (turn 1 (run world (joined (turned 2) (turned 3))) (pos 1) start)
    ≡ Number (pos 13)
unfolding int_wrap
both_added = refl

added_in_turn : seen (pos 1) (then_do (turn 1 (run world (turned 2)) (pos 1) start)
    (turn 1 (run world (turned 3)) (pos 1))) ≡ Number (pos 13)
unfolding int_wrap
added_in_turn = refl

-- 0 < 1, in a loop and round it
abbrev pub always : Condition
always = Lt (Lit (pos 0)) (Lit (pos 1))

abbrev in_loop : Block
in_loop = next (For (binder 1) (Lit (pos 0)) (Lit (pos 2)) (next (If always (turned 2) end) end))
    end

abbrev round_loop : Block
round_loop = next (If always looped end) end

lifted : run world in_loop start ≡ run world round_loop start
lifted = lift_then_law world (binder 1) (Lit (pos 0)) (Lit (pos 2)) always (turned 2) start
    start_sound (λ n u come. refl)

lifted_cell : seen (pos 1) (run world round_loop start) ≡ Number (pos 8)
unfolding int_wrap
lifted_cell = refl

-- ---- each law of a scope there

abbrev one : Block
one = through 2 (pos 5)

one_differs : Both (LeftBut (top_binders one)) (scoped (run world one) start) (run world one start)
one_differs = open_scope_law world one start (none_there (top_binders one) refl)

two_joined : scopes world two start ≡ scoped (run world (joined_all two)) start
two_joined =
    join_scopes_law world two start two_are_apart (none_there (top_binders (joined_all two)) refl)

closed_twice : scoped (scoped (run world one)) start ≡ scoped (run world one) start
closed_twice = scope_twice_law (run world one) start

closed_in_turn :
    turn 1 (scoped (run world (turned 2))) (pos 1) start ≡ turn 1 (run world (turned 2)) (pos 1)
    start
closed_in_turn = scope_in_turn_law 1 (run world (turned 2)) (pos 1) start

abbrev branch : Block → Block
branch b = next (If always b end) end

one_in_branch : run world (branch one) start ≡ scoped (run world one) start
one_in_branch = branch_is_scope_law world always one end start

two_in_branch : run world (branch (joined_all two)) start ≡ scopes world two start
two_in_branch = branch_is_scope_law world always (joined_all two) end start ∙ sym two_joined

loop_is_closed : scoped (run world looped) start ≡ run world looped start
loop_is_closed = scope_of_none_law world looped start start_sound (λ x. refl)

turns_split :
    turns (turn 1 (run world (joined (turned 2) (turned 3)))) (pos 0 ∷ pos 1 ∷ []) start
    ≡ turns (λ n t. then_do (turn 1 (run world (turned 2)) n t) (turn 1 (run world (turned 3)) n))
    (pos 0 ∷ pos 1 ∷ []) start
turns_split =
    split_turns_law world 1 (turned 2) (turned 3) (pos 0 ∷ pos 1 ∷ []) start refl refl
    (none_there (top_binders (turned 2)) refl)

-- ---- blocks that may stand for one another there

one_may_open : MayReplace world (top_binders one) (branch one) one start
one_may_open =
    block_may_open world (branch one) one start (none_there (top_binders one) refl)
    (same_refines (run world (branch one)) (scoped (run world one)) start one_in_branch)

one_may_close : MayReplace world (top_binders one) one (branch one) start
one_may_close =
    block_may_close world one (branch one) start (none_there (top_binders one) refl)
    (same_refines (scoped (run world one)) (run world (branch one)) start (sym one_in_branch))

two_may_open :
    MayReplace world (top_binders (joined_all two)) (branch (joined_all two)) (joined_all two) start
two_may_open =
    blocks_may_open world (branch (joined_all two)) two start two_are_apart
    (none_there (top_binders (joined_all two)) refl)
    (same_refines (run world (branch (joined_all two))) (scopes world two) start two_in_branch)

two_may_close :
    MayReplace world (top_binders (joined_all two)) (joined_all two) (branch (joined_all two)) start
two_may_close =
    blocks_may_close world two (branch (joined_all two)) start two_are_apart
    (none_there (top_binders (joined_all two)) refl)
    (same_refines (scopes world two) (run world (branch (joined_all two))) start
    (sym two_in_branch))

-- the branch that is not taken leaves z
taken_may_stand :
    MayReplace world (top_binders one) (next (If always one (through 3 (pos 7))) end) one start
taken_may_stand =
    branch_may_stand world always one (through 3 (pos 7)) start (none_there (top_binders one) refl)

copied_may_stand :
    MayReplace world (top_binders one) one (next (If always one (through 3 (pos 5))) end) start
copied_may_stand =
    split_may_stand world always (swap 2 3) one start (none_there (top_binders one) refl)
    (swap_moves 2 3 (IsUnbound start) (nothing_else 2 refl) (nothing_else 3 refl))

-- ---- the turns of the loop, written out

they_are_turns : AreTurns world 1 (turned 2) start (pos 0 ∷ pos 1 ∷ []) written_out
they_are_turns =
    copies_are_turns_law world 1 (turned 2) (pos 0 ∷ pos 1 ∷ []) written_out start (λ n. refl) (
      record {
        to = swap 2 3;
        moves = swap_moves 2 3 (IsUnbound start) (nothing_else 2 refl) (nothing_else 3 refl);
        is = refl;
      },
      (
        record {
          to = swap 2 4;
          moves = swap_moves 2 4 (IsUnbound start) (nothing_else 2 refl) (nothing_else 4 refl);
          is = refl;
        },
        tt,
      ),
    )

turns_in_scopes :
    turns (turn 1 (run world (turned 2))) (pos 0 ∷ pos 1 ∷ []) start ≡ scopes world written_out
    start
turns_in_scopes =
    turns_are_scopes_law world 1 (turned 2) (pos 0 ∷ pos 1 ∷ []) written_out start start_sound
    they_are_turns

-- at one state: the bodies may be copied, so their copies are copies for the turns
may_be_copied_from : (n : ℕ) (k : ℤ) → has_binder (at_turn 2 k) 0 ≡ false
    → is_given n (at_turn 2 k) 0 ≡ false → mentions (is_given n (at_turn 2 k)) (at_turn 2 k) ≡ false
    → MayCopy n (at_turn 2 k) start
may_be_copied_from n k own given unused = record {
  sound = start_sound;
  own = (none_there (has_binder (at_turn 2 k)) own).unbound;
  given = (none_there (is_given n (at_turn 2 k)) given).unbound;
  unused = unused;
}

copies_for_turns : AreCopies (IsUnbound start) 1 (turned 2) (pos 0 ∷ pos 1 ∷ []) written_out
copies_for_turns =
    made_copies_are_copies 1 (turned 2) (pos 0 ∷ pos 1 ∷ []) 3 start
    (may_be_copied_from 3 (pos 0) refl refl refl, (may_be_copied_from 4 (pos 1) refl refl refl, tt))

-- ---- what copies leave and mention

abbrev third : ℕ → Bool
third x = x == 3

copy_mentions : in_block third (re_block (swap 2 3) one) ≡ in_block (λ x. third (swapped 2 3 x)) one
copy_mentions = renamed_mentions third (swap 2 3) one

it_mentions : in_block third (re_block (swap 2 3) one) ≡ true
it_mentions = refl

copy_leaves : top_binders (re_block (swap 2 3) one) 3 ≡ top_binders one 2
copy_leaves = renamed_leaves (swap 2 3) one 3

number_leaves : top_binders (substituted 1 (Lit (pos 7)) (turned 2)) 2 ≡ top_binders (turned 2) 2
number_leaves = substituted_leaves 1 (Lit (pos 7)) (turned 2) 2

copies_avoid :
    in_block (top_binders (re_block (swap 2 3) one)) (re_block (swap 2 4) (turned 2)) ≡ false
copies_avoid = copy_avoids (swap 2 3) (swap 2 4) one (turned 2) refl

copies_are_apart : AreApart written_out
copies_are_apart = apart_law written_out ((refl, tt), (tt, tt))

-- ---- a condition that reads a field, and the loop

-- C.f < 2, which is so of 1
abbrev by_field : Condition
by_field = Lt (Field 0) (Lit (pos 2))

abbrev loop_of : Block → Block
loop_of b = next (For (binder 1) (Lit (pos 0)) (Lit (pos 2)) b) end

abbrev in_turns : Block
in_turns = next (If by_field (turned 2) (turned 3)) end

field_is_steady :
    IsSteadyIn world (binder 1) (Lit (pos 0)) (Lit (pos 2)) in_turns by_field start
field_is_steady =
    steady_in_loop_law world (λ k f. false) (binder 1) (Lit (pos 0)) (Lit (pos 2)) in_turns by_field
    start (λ k f e as' s. tt) refl (λ f k. refl)

branches_lifted :
    run world (loop_of in_turns) start
    ≡ run world (next (If by_field (loop_of (turned 2)) (loop_of (turned 3))) end) start
branches_lifted =
    lift_branch_law world (binder 1) (Lit (pos 0)) (Lit (pos 2)) by_field (turned 2) (turned 3)
    start
    start_sound field_is_steady

branches_swapped :
    run world (branch (next (If by_field one end) end)) start
    ≡ run world (next (If by_field (branch one) end) end) start
branches_swapped = swap_branches_law world always by_field one start
