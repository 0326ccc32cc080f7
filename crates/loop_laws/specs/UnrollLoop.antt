-- The rule that writes out the turns of a loop whose bounds are constants.
use Rattle.std.specs.Prelude.{ℕ, ◌*◌, nat_lt, ℤ, ◌-ℤ◌, Bool, false, not, ◌&&◌, ◌||◌}
use Rattle.std.specs.Prelude.{if◌then◌else◌, List, [], ◌∷◌}
use Rattle.std.specs.Prelude.{length, Option, Some, None, option_and_then}
use Rattle.exo_tree.specs.Tree.{Statement, Pass, Block, end, next, statements}
use Rattle.exo_tree.specs.Nodes.{nodes_in}
use Rattle.exo_tree.specs.Places.{Path, opened}
use Rattle.exo_meaning.specs.Units.{scope_after}
use Rattle.exo_meaning.specs.Run.{count}
use Rattle.exo_meaning.specs.Run as run
use Rattle.affine_forms.specs.Atoms.{none, term, Linear}
use Rattle.affine_forms.specs.Forms.{is_affine}
use Rattle.affine_places.specs.Roots.{variables}
use Rattle.match_laws.specs.Simplify.Simplified.{literal}
use Rattle.cursor_forward.specs.Causes.{WrongShape, LimitPassed, Form, WideNumber}
use Rattle.cursor_forward.specs.Shifts.{Shift, at_index, range}
use Rattle.place_laws.specs.Order.TurnsOfTwo.{Loop}
use Rattle.step_rules.specs.Rule.{Tried, Got, Not, Target, Piece, Rule, plain_rule}
use Rattle.step_rules.specs.Answer.{then_try, opened_or_wrong}
use Rattle.step_rules.specs.Shapes.{tried}
use Rattle.loop_laws.specs.Copies.{written_out}
use Rattle.loop_laws.specs.Shapes.{loop_of, inside}
use Rattle.exo_effects.specs.Accesses.{plain_fits, plain_form}

-- ---- the turns

-- a loop whose bounds are affine and over variables alone, as all are in a well-formed procedure
abbrev pub with_affine_bounds : Loop → Option Loop
with_affine_bounds l =
    if is_affine variables l.lo && is_affine variables l.hi then Some l else None

-- the number of a form that is a constant
abbrev pub constant_of : Linear → Option ℤ
constant_of l = elim l.terms [ none ↦ Some l.constant | term c a ts ↦ None ]

-- the numbers from one up to another, of which there are at most 256
abbrev pub few_between : ℤ → ℤ → Tried (List ℤ)
few_between lo hi =
    let n = count (hi -ℤ lo) in if nat_lt 256 n then Not LimitPassed else Got (run.range lo n)

abbrev pub few_turns : Option ℤ → Option ℤ → Tried (List ℤ)
few_turns None hi = Not WrongShape
few_turns (Some lo) None = Not WrongShape
few_turns (Some lo) (Some hi) = few_between lo hi

-- the numbers of the turns; the normal forms of both bounds are made first
abbrev pub turns_of : Loop → Tried (List ℤ)
turns_of l =
    if plain_fits l.lo && plain_fits l.hi
    then few_turns (constant_of (plain_form l.lo)) (constant_of (plain_form l.hi))
    else Not (Form WideNumber)

-- ---- a loop with the numbers of its turns

pub record Unrolling : Type 0 where
  pub loop : Loop
  pub turns : List ℤ

-- a name of it is in scope behind it
abbrev pub leaves_name : Statement → Bool
leaves_name a = nat_lt 0 (length (scope_after a []))

abbrev pub leave_names : Block → Bool
leave_names end = false
leave_names (next a b) = leaves_name a || leave_names b

-- all turns together have more statements than a procedure may have; where the body leaves names,
-- one of its copies may be taken, which is told before a limit
abbrev pub are_too_many : Loop → List ℤ → Bool
are_too_many l ns = nat_lt 65536 (length ns * nodes_in l.body) && not (leave_names l.body)

abbrev pub with_few : Loop → List ℤ → Tried Unrolling
with_few l ns = if are_too_many l ns then Not LimitPassed else Got (record { loop = l; turns = ns })

-- of a loop that is all of a block
abbrev pub unrolling : Block → Tried Unrolling
unrolling b =
    then_try (tried (option_and_then with_affine_bounds (loop_of b)) (λ l. l)) (λ l.
    then_try (turns_of l) (with_few l))

-- the turns one after the other, each a copy of the body with its number in the place of the
-- variable; a `pass` where there is none
abbrev pub turns_written : Loop → List ℤ → ℕ → Block
turns_written l [] base = next Pass end
turns_written l (n ∷ ns) base = written_out literal l (n ∷ ns) base

-- the statements of the body go to the first copy; the loop is gone
abbrev pub into_first : Loop → List ℤ → List Shift
into_first l [] = []
into_first l (n ∷ ns) =
    range (inside 1) (length (statements l.body)) (Some (at_index 0)) ∷ []

abbrev pub unroll_shifts : Tried Unrolling → List Shift
unroll_shifts (Got u) = into_first u.loop u.turns
unroll_shifts (Not cause) = []

-- ---- the rule

abbrev pub unroll_piece : Target → Path → Tried Piece
unroll_piece t at =
    then_try (opened_or_wrong (opened 1 at t.proc.body)) (λ o.
    then_try (unrolling o.piece) (λ u. Got (record { path = at; count = 1 })))

abbrev pub unroll_rule : Rule
unroll_rule =
    plain_rule unroll_piece
    (λ s base. then_try (unrolling s.opened.piece) (λ u. Got (turns_written u.loop u.turns base)))
    (λ s. unroll_shifts (unrolling s.opened.piece))
