-- What a call becomes, at its place.
use Rattle.std.specs.Prelude.{◌≡◌, ℕ, nat_lt, true, Some, slice_get}
use Rattle.std.specs.List.{list_all}
use Rattle.exo_tree.specs.Tree.{Block, Procedure}
use Rattle.exo_tree.specs.Renaming.{fresh_id}
use Rattle.exo_meaning.specs.Units.{bound_ids}
use Rattle.match_laws.specs.Inline.InlineRule.{Called, called_in, with_fresh_ids, inline_draft}
use Rattle.match_laws.specs.Inline.AtOnce.{puts}
use Rattle.match_laws.specs.Inline.FreshCallee.{ids_of}
use Rattle.match_laws.specs.Inline.InlineConditions.{StandThere}
use Rattle.step_rules.specs.Rule.{Spot}
use Rattle.step_rules.specs.Lawful.{IsSpot, old, around, world_of}
use Rattle.call_laws.specs.Calls.Puts.{after, put_under}

-- the callee's body with fresh ids and with the arguments, in one pass
abbrev pub inlined_by : ℕ → Called → Procedure → Block
inlined_by base c q =
    let to = fresh_id (ids_of q) base in
    put_under to (after to (puts (with_fresh_ids base q).params c.args)) q.body

-- at a call in a well-formed procedure this is the draft of the law
abbrev pub AtOnceHere : Type 0
AtOnceHere =
    (s : Spot) (base : ℕ) (c : Called) (q : Procedure)
    → IsSpot s
    → list_all (λ x. nat_lt x base) (bound_ids s.target.proc) ≡ true
    → called_in (old s) ≡ Some c
    → slice_get s.target.unit.procedures c.callee ≡ Some q
    → inline_draft s.target.unit.procedures base (old s) ≡ Some (inlined_by base c q)

-- and arguments have the types of the parameters
abbrev pub CallsStandThere : Type 0
CallsStandThere =
    (s : Spot) (base : ℕ) (c : Called) (q : Procedure)
    → IsSpot s
    → called_in (old s) ≡ Some c
    → slice_get s.target.unit.procedures c.callee ≡ Some q
    → StandThere (world_of s) s.target.proc (with_fresh_ids base q)
    (around s) (old s) c.args
