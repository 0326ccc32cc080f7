-- The rule that puts the callee's body in the place of a call is lawful.
use Rattle.std.proofs.Common.{◌≡◌, ℕ, Bool, true, false, if◌then◌else◌, length, List, [], Option, Some, None, refl, sym, ap, ◌∙◌, subst}
use Rattle.std.specs.Prelude.{option_map, option_and_then, slice_get}
use Rattle.exo_tree.specs.Tree.{Kind, Block, Procedure}
use Rattle.exo_tree.specs.Places.{Path, Opened, opened}
use Rattle.exo_meaning.specs.Calls.{Callee}
use Rattle.exo_meaning.specs.Run.{World, unit_world, kinds_of}
use Rattle.exo_meaning.specs.Units.{field_kind, IsProcedure}
use Rattle.meaning_laws.proofs.Parts.{some_injective}
use Rattle.inplace_laws.specs.Inline.{inlined, MayInline}
use Rattle.match_laws.specs.Inline.FreshCallee.{is_new}
use Rattle.match_laws.specs.Inline.InlineConditions.{IsInlinable}
use Rattle.match_laws.specs.Inline.InlineRule.{Called, called_in, are_plain_arguments, inline_piece, with_fresh_ids}
use Rattle.match_laws.specs.Inline.InlineRule.{inlined_call, inline_draft, MayInlineThere}
use Rattle.match_laws.proofs.OfInline.InlineRule.{no_some}
use Rattle.match_laws.proofs.OfInline.InlineRule as landed
use Rattle.step_rules.specs.Rule.{Spot, Piece}
use Rattle.step_rules.specs.Lawful.{IsFormedHere, Site, IsSite, Replaces, whole, IsLawful, IsCarrying}
use Rattle.step_rules.specs.Lawful.{around, old, world_of, fields_at_exit}
use Rattle.step_rules.proofs.Shapes.{made_of}
use Rattle.call_laws.specs.Calls.Callees.{StandsAt}
use Rattle.call_laws.specs.Calls.Here.{inlined_by}
use Rattle.call_laws.specs.Calls.Inlinable.{HasNewNames}
use Rattle.call_laws.specs.Calls.Inline.{inlined_there, inline_rule}
use Rattle.call_laws.proofs.OfCalls.Callees.{callee_at, callee_keeps_rules}
use Rattle.call_laws.proofs.OfCalls.Fresh.{fresh_conditions_anywhere}
use Rattle.call_laws.proofs.OfCalls.Here.{at_once_here}
use Rattle.call_laws.proofs.OfCalls.Inlinable.{new_names}
use Rattle.call_laws.proofs.OfCalls.InlineWindow.{got_same}
use Rattle.call_laws.proofs.OfCalls.Standing.{calls_stand_there}
use Rattle.call_laws.proofs.OfCalls.Takes.{calls_take}

-- ---- what was found

record OnCall (p : Procedure) (at : Path) (c : Piece) : Type 0 where
  first : Opened
  opens : opened 1 at p.body ≡ Some first
  call : Called
  calls : called_in first.piece ≡ Some call
  plain : are_plain_arguments call.args ≡ true
  made : record { path = at; count = 1 } ≡ c

on_call : (p : Procedure) (at : Path) (c : Piece) → inline_piece p at ≡ Some c → OnCall p at c
on_call p at c e = outer (opened 1 at p.body) refl e
  where
    plainly : (o : Opened) → opened 1 at p.body ≡ Some o → (d : Called) → called_in o.piece ≡ Some d
        → (t : Bool) → are_plain_arguments d.args ≡ t
        → (if t then Some (record { path = at; count = 1 }) else None) ≡ Some c → OnCall p at c
    plainly o f d g true h i = record {
      first = o;
      opens = f;
      call = d;
      calls = g;
      plain = h;
      made = some_injective (record { path = at; count = 1 }) c i;
    }
    plainly o f d g false h i = absurd (no_some c i)

    inner : (o : Opened) → opened 1 at p.body ≡ Some o → (u : Option Called) → called_in o.piece ≡ u
        → (elim u [
          | None ↦ None
          | Some d ↦ if are_plain_arguments d.args
              then Some (record { path = at; count = 1 })
              else None
        ]) ≡ Some c
        → OnCall p at c
    inner o f None g h = absurd (no_some c h)
    inner o f (Some d) g h = plainly o f d g (are_plain_arguments d.args) refl h

    outer : (o : Option Opened) → opened 1 at p.body ≡ o
        → (elim o [
          | None ↦ None
          | Some k ↦ elim (called_in k.piece) [
            | None ↦ None
            | Some d ↦ if are_plain_arguments d.args
                then Some (record { path = at; count = 1 })
                else None
          ]
        ]) ≡ Some c
        → OnCall p at c
    outer None f h = absurd (no_some c h)
    outer (Some o) f h = inner o f (called_in o.piece) refl h

record IsDrafted (s : Spot) (base : ℕ) (draft : Block) : Type 0 where
  call : Called
  callee : Procedure
  calls : called_in (old s) ≡ Some call
  there : slice_get s.target.unit.procedures call.callee ≡ Some callee
  made : inlined_by base call callee ≡ draft

is_drafted : (s : Spot) (base : ℕ) (draft : Block) → inlined_there s base ≡ Some draft
    → IsDrafted s base draft
is_drafted s base draft e = outer (called_in (old s)) refl e
  where
    inner : (c : Called) → called_in (old s) ≡ Some c → (u : Option Procedure)
        → slice_get s.target.unit.procedures c.callee ≡ u
        → option_map (inlined_by base c) u ≡ Some draft → IsDrafted s base draft
    inner c f None g h = absurd (no_some draft h)
    inner c f (Some q) g h = record {
      call = c;
      callee = q;
      calls = f;
      there = g;
      made = some_injective (inlined_by base c q) draft h;
    }

    outer : (o : Option Called) → called_in (old s) ≡ o
        → option_and_then (λ c. option_map (inlined_by base c) (slice_get s.target.unit.procedures c.callee)) o
        ≡ Some draft
        → IsDrafted s base draft
    outer None f h = absurd (no_some draft h)
    outer (Some c) f h = inner c f (slice_get s.target.unit.procedures c.callee) refl h

-- ---- at a site

module _ (a : Site) (is : IsSite inline_rule a) where
  abbrev s : Spot
  s = a.spot

  abbrev p : Procedure
  p = s.target.proc

  abbrev ps : List Procedure
  ps = s.target.unit.procedures

  abbrev kinds : ℕ → Kind
  kinds = kinds_of s.target.unit.fields

  found : (c : Piece) × (inline_piece p is.at ≡ Some c)
      × ((record { path = c.path; count = c.count }) ≡ s.piece)
  found =
      let m = made_of (inline_piece p is.at)
      (λ (c : Piece). c) s.piece is.chosen in
      (m.of, m.found, m.made)

  on : OnCall p is.at found.0
  on = on_call p is.at found.0 found.1

  opens : opened 1 is.at p.body ≡ Some s.opened
  opens =
      ap (λ (c : Piece). opened c.count c.path p.body) on.made
      ∙ ap (λ (c : Piece). opened c.count c.path p.body) found.2
      ∙ is.spot.opens

  drafted : IsDrafted s a.base a.draft
  drafted =
      let m = made_of (inlined_there s a.base) (λ (b : Block). b) a.draft is.drafted in
      is_drafted s a.base a.draft (m.found ∙ ap (λ b. Some b) m.made)

  abbrev c : Called
  c = drafted.call

  abbrev q : Procedure
  q = drafted.callee

  plain : are_plain_arguments c.args ≡ true
  plain =
      let same : on.first ≡ s.opened = some_injective on.first s.opened (sym on.opens ∙ opens) in
      let call : on.call ≡ c =
      some_injective on.call c
      (sym on.calls ∙ ap (λ (o : Opened). called_in o.piece) same ∙ drafted.calls) in
      ap (λ (d : Called). are_plain_arguments d.args) (sym call) ∙ on.plain

  abbrev fresh : Procedure
  fresh = with_fresh_ids a.base q

  at_once : inline_draft ps a.base (old s) ≡ Some (inlined_by a.base c q)
  at_once = at_once_here s a.base c q is.spot is.below drafted.calls drafted.there

  -- arguments one after the other
  in_turn : inline_draft ps a.base (old s) ≡ Some (inlined fresh.params c.args fresh.body)
  in_turn =
      ap (λ (o : Option Called). elim o [
        | None ↦ None
        | Some d ↦ inlined_call a.base d.args (slice_get ps d.callee)
      ]) drafted.calls
      ∙ ap (inlined_call a.base c.args) drafted.there

  formed : IsFormedHere s (inlined fresh.params c.args fresh.body)
  formed =
      subst (IsFormedHere s)
      (got_same a.plain a.draft (sym is.made ∙ is.drafted) ∙ sym drafted.made
      ∙ some_injective (inlined_by a.base c q) (inlined fresh.params c.args fresh.body) (sym at_once ∙ in_turn))
      is.formed

  at : StandsAt ps c.callee q
  at = callee_at ps c.callee q drafted.there

  abbrev above : World
  above = unit_world kinds at.before

  keeps : (table : List Callee) × IsProcedure (field_kind s.target.unit.fields) (length s.target.unit.memories) (slice_get table) q
  keeps =
      callee_keeps_rules s.target.unit.fields (length s.target.unit.memories) [] ps c.callee q
      is.spot.target.unit.procedures drafted.there

  inlinable : IsInlinable (is_new a.base q) p fresh (around s) c.args
  inlinable =
      let n : HasNewNames s a.base q c.args =
      new_names (field_kind s.target.unit.fields) (length s.target.unit.memories) (slice_get keeps.0) s
      a.base q c.args is.spot is.below keeps.1 formed in
      record {
        names = n.names;
        params = n.params;
        distinct = n.distinct;
        takes = calls_take s a.base c q is.spot is.below drafted.calls drafted.there plain;
        free = n.free;
        others = n.others;
        gone = n.gone;
        rest = n.rest;
      }

  may : MayInline (world_of s) above (is_new a.base q) p fresh (around s) (old s) c.callee c.args
  may =
      fresh_conditions_anywhere (field_kind s.target.unit.fields) (length s.target.unit.memories)
      (slice_get keeps.0) kinds ps c.callee q at a.base (is_new a.base q) p (around s)
      (old s) c.args keeps.1 inlinable
      (calls_stand_there s a.base c q is.spot drafted.calls drafted.there)

  -- there is no other call and no other callee
  may_there : MayInlineThere (world_of s) above (is_new a.base q) ps p a.base s.opened
  may_there d r calls there =
      let call : c ≡ d = some_injective c d (sym drafted.calls ∙ calls) in
      let callee : q ≡ r =
      some_injective q r
      (sym drafted.there ∙ ap (λ (e : Called). slice_get ps e.callee) call ∙ there) in
      subst (λ (u : Procedure).
      MayInline (world_of s) above (is_new a.base q) p (with_fresh_ids a.base u) (around s) (old s)
      d.callee d.args) callee
      (subst (λ (e : Called).
      MayInline (world_of s) above (is_new a.base q) p fresh (around s) (old s) e.callee e.args) call may)

  stands : Replaces s a.draft (fields_at_exit inline_rule a)
  stands =
      whole (landed.inline_rule kinds ps p is.at a.base s.opened a.draft above (is_new a.base q) opens
      (at_once ∙ ap (λ b. Some b) drafted.made) may_there)

pub inline_is_lawful : IsLawful inline_rule
inline_is_lawful = record { replaces = λ a is versions met. stands a is }

pub inline_is_carrying : IsCarrying inline_rule
inline_is_carrying = record { carries = λ a is. tt; apart = λ a is. refl }
