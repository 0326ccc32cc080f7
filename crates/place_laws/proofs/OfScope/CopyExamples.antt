-- The laws at small blocks.
use Rattle.std.proofs.Common.{◌≡◌, ℕ, pos, true, false, [], ◌∷◌, refl, arith}
use Rattle.std.proofs.Common.{nat_le, IfSome, sym, true≢false}
use Rattle.exo_tree.specs.Tree.{I8, Lit, Var, Const, Plus, For, Alloc, Block, end, next}
use Rattle.exo_tree.specs.Context.{Here}
use Rattle.exo_tree.specs.Renaming.{fresh, binders}
use Rattle.exo_tree.specs.Substitution.{in_block as substituted}
use Rattle.exo_meaning.specs.State.{on_scene, with_control}
use Rattle.exo_meaning.specs.Run.{run}
use Rattle.exo_meaning.specs.Unseen.{in_block as mentions}
use Rattle.meaning_laws.proofs.Examples.{binder, stored, three, input, world, is_admissible, body}
use Rattle.meaning_laws.proofs.Examples.{three_commutes}
use Rattle.exo_meaning.specs.Renaming.{re_block}
use Rattle.exo_meaning.specs.Inputs.{Refines}
use Rattle.meaning_laws.proofs.Substituted.{substitution_keeps_binders}
use Rattle.meaning_laws.proofs.Substituted.{substitution_mentions_no_more}
use Rattle.place_laws.proofs.OfScope.MadeCopies.{made_copies_are_apart}
use Rattle.meaning_laws.proofs.Fresh.{exchanging}
use Rattle.meaning_laws.proofs.ScopedCopies.{scoped_copies_are_same}
use Rattle.place_laws.specs.Scope.Bare.{bare}
use Rattle.place_laws.specs.Scope.Scopes.{AreApart}
use Rattle.meaning_laws.specs.FreshCopies.{copies_from, is_given, MayCopy, RunsAlike}
use Rattle.meaning_laws.specs.FreshCopies.{AllMayBeCopied, each_in_scope}
use Rattle.meaning_laws.specs.FreshCopies.{IsBelow, StandsAt, IsMadeOf}
use Rattle.place_laws.proofs.OfScope.Bare.{same_but_for_names, names_ignored, names_keep_refinement}
use Rattle.meaning_laws.proofs.FreshCopies.{copies_run_alike, copy_is_renaming}
use Rattle.meaning_laws.proofs.CopiesAtPlaces.{old_may_be_copied, copies_bind_new_numbers}
use Rattle.meaning_laws.proofs.CopiesAtPlaces.{may_copy_behind, may_copy_next, may_copy_in_turn}
use Rattle.meaning_laws.proofs.CopiesAtPlaces.{may_copy_substituted, places_may_copy, old_is_made}
use Rattle.meaning_laws.proofs.CopiesAtPlaces.{substituted_is_made, places_may_copy_all}

-- for i in seq(0, 16): x[i] = 1 + 2, with the variable under this number
abbrev loop : ℕ → Block
loop i = next (For (binder i) (Lit (pos 0)) (Lit (pos 16))
    (stored 0 (Var i ∷ []) (Plus (Const (pos 1)) (Const (pos 2))))) end

all_of_it : StandsAt world three (Here end) (loop 1) input
all_of_it = record { body = refl; first = input; good = is_admissible; comes = refl }

-- ---- names

-- the loop over `j`
abbrev named : Block
named = next (For (record { id = 1; name = 106 ∷ [] }) (Lit (pos 0)) (Lit (pos 16))
    (stored 0 (Var 1 ∷ []) (Plus (Const (pos 1)) (Const (pos 2))))) end

its_name_is_not_seen : run world named ≡ run world (loop 1)
its_name_is_not_seen = same_but_for_names world named (loop 1) refl

named_is_same : run world (bare named) ≡ run world named
named_is_same = names_ignored world named

-- three with its sum turned round, and the loop over `j`
abbrev turned : Block
turned =
    next (For (record { id = 1; name = 106 ∷ [] }) (Lit (pos 0)) (Lit (pos 16))
    (stored 0 (Var 1 ∷ []) (Plus (Const (pos 2)) (Const (pos 1))))) end

turned_refines : Refines world three (record three { body = turned }) []
turned_refines =
    names_keep_refinement world three
    (record three { body = body (Plus (Const (pos 2)) (Const (pos 1))) }) turned [] refl
    (three_commutes world)

-- ---- the laws of copies there

-- t: i8[4]; t[j] = 3
abbrev fills : ℕ → ℕ → Block
fills t j =
    next (Alloc (binder t) I8 (Lit (pos 4) ∷ []) 0) (stored t (Var j ∷ []) (Const (pos 3)))

with_number : substituted 3 (Lit (pos 2)) (fills 2 3) ≡ next (Alloc (binder 2) I8 (Lit (pos 4) ∷ [])
    0) (stored 2 (Lit (pos 2) ∷ []) (Const (pos 3)))
with_number = refl

its_binders : binders (substituted 3 (Lit (pos 2)) (fills 2 3)) ≡ binders (fills 2 3)
its_binders = substitution_keeps_binders 3 (Lit (pos 2)) (fills 2 3)

none_from_five : mentions (nat_le 5) (substituted 3 (Lit (pos 2)) (fills 2 3)) ≡ false
none_from_five = substitution_mentions_no_more (nat_le 5) 3 (Lit (pos 2)) (fills 2 3) refl refl

loop_is_renamed : fresh 5 (loop 1) ≡ re_block (exchanging (binders (loop 1)) 5) (loop 1)
loop_is_renamed =
    copy_is_renaming (loop 1) 5 (exchanging (binders (loop 1)) 5)
    (record { to = λ x. refl; from = λ x. refl }) refl

-- from any number above its own
may_copy_from : (n : ℕ) → IsBelow n three → MayCopy n (loop 1) input
may_copy_from n below = old_may_be_copied world three (Here end) (loop 1) n input below all_of_it

below_five : IsBelow 5 three
below_five = record { scoped = refl; below = refl }

below_six : IsBelow 6 three
below_six = record { scoped = refl; below = refl }

loop_runs_alike : RunsAlike world 5 (loop 1) input
loop_runs_alike = copies_run_alike world 5 (loop 1) input (may_copy_from 5 below_five)

five_is_given : is_given 5 (loop 1) 5 ≡ true
five_is_given = copies_bind_new_numbers 5 (loop 1) 5 refl

behind_store : IfSome (run world (stored 0 (Lit (pos 0) ∷ []) (Const (pos 3))) input)
    (MayCopy 5 (loop 1))
behind_store =
    may_copy_behind world 5 (loop 1) (stored 0 (Lit (pos 0) ∷ []) (Const (pos 3))) input
    (may_copy_from 5 below_five) (λ x h. absurd (true≢false (sym h)))

behind_copy : IfSome (run world (fresh 5 (loop 1)) input) (MayCopy 6 (loop 1))
behind_copy =
    may_copy_next world 5 6 (loop 1) (loop 1) input refl (omega arith) (may_copy_from 5 below_five)
    (may_copy_from 6 below_six)

in_a_turn : MayCopy 5 (loop 1) (on_scene (with_control 9 (pos 3)) input)
in_a_turn = may_copy_in_turn 5 (loop 1) input 9 (pos 3) (may_copy_from 5 below_five) refl

with_a_number : MayCopy 5 (substituted 9 (Lit (pos 3)) (loop 1)) input
with_a_number =
    may_copy_substituted 5 (loop 1) input 9 (Lit (pos 3)) (may_copy_from 5 below_five) refl

other_header : MayCopy 5 (next (For (binder 1) (Lit (pos 2)) (Lit (pos 4)) end) end) input
other_header =
    places_may_copy world three (Here end) (loop 1)
    (next (For (binder 1) (Lit (pos 2)) (Lit (pos 4)) end) end) 5 input below_five all_of_it
    (λ x h. h) refl

made_of_itself : IsMadeOf 5 (loop 1) (loop 1)
made_of_itself = old_is_made three (Here end) (loop 1) 5 below_five refl

made_with_number : IsMadeOf 5 (loop 1) (substituted 9 (Lit (pos 3)) (loop 1))
made_with_number = substituted_is_made 5 (loop 1) (loop 1) 9 (Lit (pos 3)) made_of_itself refl

all_may : AllMayBeCopied 5 (loop 1 ∷ loop 1 ∷ []) input
all_may =
    places_may_copy_all world three (Here end) (loop 1) (loop 1 ∷ loop 1 ∷ []) 5 input below_five
    all_of_it (made_of_itself, (made_of_itself, tt))

copies_are_same :
    each_in_scope world (copies_from 5 (loop 1 ∷ loop 1 ∷ [])) input
    ≡ each_in_scope world (loop 1 ∷ loop 1 ∷ []) input
copies_are_same = scoped_copies_are_same world 5 (loop 1 ∷ loop 1 ∷ []) input all_may

-- two copies of a block that leaves t
two_fills : copies_from 5 (fills 2 3 ∷ fills 2 3 ∷ []) ≡ fills 5 3 ∷ fills 6 3 ∷ []
two_fills = refl

fills_are_apart : AreApart (copies_from 5 (fills 2 3 ∷ fills 2 3 ∷ []))
fills_are_apart =
    made_copies_are_apart (fills 2 3) (fills 2 3 ∷ fills 2 3 ∷ []) 5
    (record { own = λ x h. h; low = refl }, (record { own = λ x h. h; low = refl }, tt))
