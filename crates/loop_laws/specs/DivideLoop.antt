-- The rule that divides the turns of a loop into groups.
use Rattle.std.specs.Prelude.{ℕ, suc, ◌+◌, ℤ, pos, ◌-ℤ◌, int_le, if◌then◌else◌, List, [], ◌∷◌}
use Rattle.std.specs.Prelude.{length, Option, Some, None, option_and_then}
use Rattle.exo_tree.specs.Tree.{Binder, Control, Lit, Var, Add, Mul, Div, Mod, Lt, Le, Gt, Eq}
use Rattle.exo_tree.specs.Tree.{Block, end, joined, statements}
use Rattle.exo_tree.specs.Places.{Path}
use Rattle.exo_tree.specs.Renaming.{fresh}
use Rattle.exo_tree.specs.Substitution.{in_block}
use Rattle.meaning_laws.specs.Facts.{Holds}
use Rattle.place_laws.specs.Scope.UnrollLoop.{only_loop}
use Rattle.place_laws.specs.Scope.BranchesAtPlaces.{only_branch}
use Rattle.cursor_forward.specs.Shifts.{Shift, at_index, alone, range}
use Rattle.place_laws.specs.Order.TurnsOfTwo.{Loop}
use Rattle.step_rules.specs.Rule.{Need, Says, Rule}
use Rattle.loop_laws.specs.Shapes.{loop_of, from_zero, listed, loop_rule, inside}

-- what becomes of the turns that fill no group: the last group is guarded, they have a loop of
-- their own, or one that is guarded, or there are none
pub data Tail : Type 0 where
  Guard Cut CutAndGuard Perfect : Tail

-- so many turns a group, and the names of the loop over the groups and of that in a group
pub record Division : Type 0 where
  pub by : ℤ
  pub outer : List ℕ
  pub inner : List ℕ
  pub tail : Tail

-- a loop from 0 that is all of the block, and groups of at least one turn
abbrev pub divisible : ℤ → Block → Option Loop
divisible by b = if int_le (pos 1) by then option_and_then from_zero (loop_of b) else None

module _ (d : Division) (l : Loop) (base : ℕ) where
  abbrev pub outer : Binder
  outer = record { id = base; name = d.outer }

  abbrev pub inner : Binder
  inner = record { id = suc base; name = d.inner }

  -- the turn of that number behind so many groups
  abbrev pub turn_behind : Control → ℕ → Control
  turn_behind groups x = Add (Mul (Lit d.by) groups) (Var x)

  -- the turn in a group, and the body in it
  abbrev pub turn_in_group : Control
  turn_in_group = turn_behind (Var outer.id) inner.id

  abbrev pub body_in_group : Block
  body_in_group = in_block l.binder.id turn_in_group l.body

  -- so many groups of turns
  abbrev pub nest : Control → Block → Block
  nest groups b =
      only_loop outer (Lit (pos 0)) groups (only_loop inner (Lit (pos 0)) (Lit d.by) b)

  abbrev pub whole_groups : Block
  whole_groups = nest (Div l.hi d.by) body_in_group

  -- the last group may have turns that the loop has not
  abbrev pub guarded_groups : Block
  guarded_groups =
      nest (Div (Add l.hi (Lit (d.by -ℤ pos 1))) d.by)
      (only_branch (Lt turn_in_group l.hi) body_in_group end)

  -- the turns behind the whole groups, counted by the loop's own variable
  abbrev pub turns_behind : Block
  turns_behind =
      let i = l.binder.id in
      only_loop (record { id = i; name = d.inner }) (Lit (pos 0)) (Mod l.hi d.by)
      (in_block i (turn_behind (Div l.hi d.by) i) l.body)

  -- as a copy of the loop, whose binder too has a new id
  abbrev pub tail_turns : Block
  tail_turns = fresh (base + 2) turns_behind

  abbrev pub divided_with : Tail → Block
  divided_with Guard = guarded_groups
  divided_with Cut = joined whole_groups tail_turns
  divided_with CutAndGuard =
      joined whole_groups (only_branch (Gt (Mod l.hi d.by) (Lit (pos 0))) tail_turns end)
  divided_with Perfect = whole_groups

abbrev pub divided : Division → Loop → ℕ → Block
divided d l base = divided_with d l base d.tail

-- with a loop for the rest the bound must not be negative, and without a rest the groups must be
-- whole
abbrev pub divide_needs : ℤ → Tail → Path → Loop → List Need
divide_needs by Guard at l = []
divide_needs by Cut at l = Says at (Holds (Le (Lit (pos 0)) l.hi)) ∷ []
divide_needs by CutAndGuard at l = Says at (Holds (Le (Lit (pos 0)) l.hi)) ∷ []
divide_needs by Perfect at l = Says at (Holds (Eq (Mod l.hi by) (Lit (pos 0)))) ∷ []

-- how far below the outer loop the body stands
abbrev pub depth : Tail → ℕ
depth Guard = 3
depth Cut = 2
depth CutAndGuard = 2
depth Perfect = 2

-- the loop becomes the outer loop, and its body that of the first inner loop
abbrev pub divide_shifts : Tail → Loop → List Shift
divide_shifts tail l =
    alone (at_index 0) (Some (at_index 0))
    ∷ range (inside 1) (length (statements l.body)) (Some (inside (depth tail)))
    ∷ []

abbrev pub divide_rule : Division → Rule
divide_rule d = record (loop_rule (divisible d.by) (divided d) (divide_shifts d.tail)) {
  named = 2;
  needs = λ s. listed (divisible d.by) (divide_needs d.by d.tail s.piece.path) s;
}
