-- The laws of copies at small blocks.
use Rattle.std.proofs.Common.{◌≡◌, ℕ, pos, true, false, [], ◌∷◌, Option, Some, None, refl}
use Rattle.std.specs.Int.{int_wrap}
use Rattle.exo_tree.specs.Tree.{I8, Lit, Var, Add, Const, Plus, For, Alloc, Block, end, next}
use Rattle.exo_tree.specs.Context.{Here}
use Rattle.exo_tree.specs.Renaming.{fresh}
use Rattle.meaning_laws.specs.Substitute.{in_block as put_in_block}
use Rattle.exo_meaning.specs.Value.{Value, Undefined, Number}
use Rattle.exo_meaning.specs.State.{State}
use Rattle.exo_meaning.specs.Run.{run}
use Rattle.exo_meaning.specs.Unseen.{in_block as mentions}
use Rattle.meaning_laws.proofs.Examples.{binder, stored, three, input, world, is_admissible}
use Rattle.meaning_laws.specs.FreshCopies.{copies_from, is_given, is_closed, IsBelow, StandsAt}
use Rattle.meaning_laws.proofs.FreshCopies.{closed_copies_are_same}
use Rattle.meaning_laws.proofs.CopiesAtPlaces.{old_may_be_copied}

-- for i in seq(0, 16): x[i] = 1 + 2, with the variable under this number
abbrev loop : ℕ → Block
loop i = next (For (binder i) (Lit (pos 0)) (Lit (pos 16)) (stored 0 (Var i ∷ []) (Plus (Const (pos 1)) (Const (pos 2))))) end

copied : fresh 5 (loop 1) ≡ loop 5
copied = refl

copied_twice : copies_from 5 (loop 1 ∷ loop 1 ∷ []) ≡ loop 5 ∷ loop 6 ∷ []
copied_twice = refl

-- what a procedure is made of, from the first free number on
all_below : IsBelow 2 three
all_below = record { scoped = refl; below = refl }

all_of_it : StandsAt world three (Here end) (loop 1) input
all_of_it = record { body = refl; first = input; good = is_admissible; comes = refl }

the_copy_is_same : run world (fresh 5 (loop 1)) input ≡ run world (loop 1) input
the_copy_is_same =
    closed_copies_are_same world 5 (loop 1) input
    (old_may_be_copied world three (Here end) (loop 1) 5 input (record { scoped = refl; below = refl }) all_of_it) refl

abbrev cell : Option State → Value
cell None = Undefined
cell (Some t) = t.cells 0 (pos 15 ∷ [])

it_runs : cell (run world (fresh 5 (loop 1)) input) ≡ Number (pos 3)
unfolding int_wrap
it_runs = refl

-- ---- the premises are needed

-- a number that the block has already is caught: here a free name of it
abbrev catching : Block
catching = next (For (binder 1) (Lit (pos 0)) (Lit (pos 16)) (stored 0 (Var 7 ∷ []) (Const (pos 3)))) end

caught : fresh 7 catching ≡ next (For (binder 7) (Lit (pos 0)) (Lit (pos 16)) (stored 0 (Var 7 ∷ []) (Const (pos 3)))) end
caught = refl

its_number_is_used : mentions (is_given 7 catching) catching ≡ true
its_number_is_used = refl

-- a block that binds a name behind it is not closed
abbrev made : Block
made = next (Alloc (binder 1) I8 (Lit (pos 4) ∷ []) 0) end

it_is_open : is_closed made ≡ false
it_is_open = refl

-- ---- substitution

put : put_in_block 1 (Add (Var 1) (Lit (pos 1))) (stored 0 (Var 1 ∷ []) (Const (pos 3))) ≡ stored 0 (Add (Var 1) (Lit (pos 1)) ∷ []) (Const (pos 3))
put = refl
