-- The rule that makes one loop of two neighbours with the same bounds.
use Rattle.std.specs.Prelude.{Bool, ◌&&◌, if◌then◌else◌, List, [], ◌∷◌, Option, Some, None}
use Rattle.std.specs.Prelude.{option_and_then, option_map}
use Rattle.exo_tree.specs.Tree.{Statement, Var, Block, end, next, joined}
use Rattle.exo_tree.specs.Places.{Path, opened}
use Rattle.exo_tree.specs.Substitution.{in_block}
use Rattle.place_laws.specs.Scope.UnrollLoop.{only_loop}
use Rattle.affine_forms.specs.Forms.{is_affine}
use Rattle.affine_places.specs.Roots.{variables}
use Rattle.cursor_forward.specs.Shifts.{Shift, at_index, alone, range}
use Rattle.place_laws.specs.Order.TurnsOfTwo.{Loop}
use Rattle.effect_laws.specs.Apart.{Conflict}
use Rattle.effect_laws.specs.Fits.{halves_conflict}
use Rattle.step_rules.specs.Rule.{Tried, Got, Target, Piece, Need, Apart, Rule, plain_rule}
use Rattle.step_rules.specs.Answer.{then_try, unless, opened_or_wrong}
use Rattle.step_rules.specs.Shapes.{tried}
use Rattle.loop_laws.specs.Shapes.{loop_in, listed_of, inside}
use Rattle.loop_laws.specs.Bounds.{bounds_differ}
use Rattle.loop_laws.specs.Nest.Shapes.{unless_it_writes, size, step, in_loop}

-- ---- two loops

pub record Two : Type 0 where
  pub first : Loop
  pub second : Loop

abbrev pub with_second : Statement → Loop → Option Two
with_second b k = option_map (λ l. record { first = k; second = l }) (loop_in b)

-- a loop and the next one, which are all of a block
abbrev pub two_of : Block → Option Two
two_of end = None
two_of (next a end) = None
two_of (next a (next b end)) = option_and_then (with_second b) (loop_in a)
two_of (next a (next b (next c rest))) = None

-- ---- bounds that agree

-- the bounds are affine and over variables alone, as all are in a well-formed procedure
abbrev pub bounds_are_affine : Loop → Bool
bounds_are_affine l = is_affine variables l.lo && is_affine variables l.hi

abbrev pub both_are_affine : Two → Bool
both_are_affine p = bounds_are_affine p.first && bounds_are_affine p.second

abbrev pub in_variables : Two → Option Two
in_variables p = if both_are_affine p then Some p else None

-- first the lower bounds, then the upper ones
abbrev pub where_they_agree : Two → Tried Two
where_they_agree p =
    unless (bounds_differ p.first.lo p.second.lo) (
    unless (bounds_differ p.first.hi p.second.hi) (Got p))

abbrev pub fusing : Block → Tried Two
fusing b =
    then_try (tried (option_and_then in_variables (two_of b)) (λ p. p)) where_they_agree

-- ---- one loop

-- the second body, with the variable of the first loop
abbrev pub second_body : Two → Block
second_body p = in_block p.second.binder.id (Var p.first.binder.id) p.second.body

abbrev pub fused : Two → Block
fused p =
    only_loop p.first.binder p.first.lo p.first.hi (joined p.first.body (second_body p))

-- the second body at a turn against the first at a later one
abbrev pub fuse_conflict : Path → Two → Conflict
fuse_conflict at p =
    halves_conflict p.first p.second (in_loop at 0 0) (size p.first.body) (in_loop at 1 0)
    (size p.second.body)

abbrev pub fuse_needs : Path → Two → List Need
fuse_needs at p = Apart at (fuse_conflict at p) ∷ []

-- the first loop stays, the second is gone, and its body follows that of the first
abbrev pub fuse_shifts : Two → List Shift
fuse_shifts p =
    alone (at_index 0) (Some (at_index 0))
    ∷ range (inside 1) (size p.first.body) (Some (inside 1))
    ∷ range (step 1 ∷ at_index 0) (size p.second.body)
    (Some (step 0 ∷ at_index (size p.first.body)))
    ∷ []

-- ---- the rule

abbrev pub fuse_piece : Target → Path → Tried Piece
fuse_piece t at =
    then_try (opened_or_wrong (opened 2 at t.proc.body)) (λ o.
    then_try (fusing o.piece) (λ p. Got (record { path = at; count = 2 })))

abbrev pub fuse_rule : Rule
fuse_rule = record (plain_rule fuse_piece
    (λ s base. then_try (fusing s.opened.piece) (λ p. Got (fused p)))
    (λ s. listed_of fuse_shifts (fusing s.opened.piece))) {
      refusal = unless_it_writes;
      needs = λ s. listed_of (fuse_needs s.piece.path) (fusing s.opened.piece);
    }
