-- Items one after another: what has been added, and what is left.
use Rattle.std.proofs.Common.{◌≡◌, ℕ, ◌+◌, List, [], ◌∷◌, ◌++◌, Option, None, refl, ap, sym, ◌∙◌, append_assoc, arith}
use Rattle.std.proofs.lemmas.List.{append-nil}
use Rattle.exo_reader.specs.Source.{Item}
use Rattle.text_lexer.specs.declared.place.Place.{Place}
use Rattle.rules_names.specs.declared.fault.Fault.{Fault}
use Rattle.rules_names.specs.Faults.{or_else}
use Rattle.exo_types.specs.declared.refusal.Refusal.{Refusal}
use Rattle.exo_types.specs.declared.typed.UnitBuilder.{UnitBuilder}
use Rattle.exo_types.specs.Refusals.{Refuses}
use Rattle.exo_types.specs.UnitRules.{Above, nothing_above, item_fault, item_width, items_fault, items_width, after_item, after_items, unit_fault, unit_of}
use Rattle.exo_types.specs.UnitLines.{lines_from, lines_of, lines_of_item}
use Rattle.exo_types.specs.Standing.{Agrees, IsFew, Stands, HasPlaces, IsAdded, IsUnitOf}
use Rattle.exo_types.proofs.Broken.{refuses_same, refuses_first}

-- so many items have been added, and the next one begins at token k
pub record Below (places : List Place) (t : UnitBuilder) (k : ℕ) (items rest : List Item) : Type 0 where
  pub above : Above
  pub stands : Stands t above
  pub agrees : Agrees t
  pub few : IsFew t k
  pub fault : items_fault above k rest ≡ unit_fault items
  pub unit : (after_items above rest).program ≡ unit_of items
  pub lines : t.unit.lines ++ lines_from places k rest ≡ lines_of places items
  pub width : k + items_width rest ≡ items_width items

pub none_added : (places : List Place) (t : UnitBuilder) (items : List Item) → Agrees t → IsFew t 0 → Stands t nothing_above → t.unit.lines ≡ [] → Below places t 0 items items
none_added places t items a f s l = record {
  above = nothing_above;
  stands = s;
  agrees = a;
  few = f;
  fault = refl;
  unit = refl;
  lines = ap (λ x. x ++ lines_from places 0 items) l;
  width = omega arith;
}

goes_on : (a b c whole : Option Fault) → or_else a b ≡ whole → a ≡ None → c ≡ b → c ≡ whole
goes_on a b c whole h e k = k ∙ ap (λ o. or_else o b) (sym e) ∙ h

pub one_added : (places : List Place) (t after : UnitBuilder) (k end : ℕ) (items : List Item) (i : Item) (more : List Item) (b : Below places t k items (i ∷ more)) → IsAdded b.above places t after k end i → Below places after end items more
one_added places t after k end items i more b s = record {
  above = after_item b.above i;
  stands = s.stands;
  agrees = s.agrees;
  few = s.few;
  fault = goes_on _ _ _ _ b.fault s.keeps (ap (λ n. items_fault (after_item b.above i) n more) s.ends);
  unit = b.unit;
  lines =
      (λ j. s.lines j ++ lines_from places (s.ends j) more)
      ∙ append_assoc t.unit.lines (lines_of_item places k i) (lines_from places (k + item_width i) more)
      ∙ b.lines;
  width = omega (arith, b.width, s.ends);
}

pub item_refused : (places : List Place) (t : UnitBuilder) (k : ℕ) (items : List Item) (i : Item) (more : List Item) (e : Refusal) (b : Below places t k items (i ∷ more)) → Refuses e (item_fault b.above k i) → Refuses e (unit_fault items)
item_refused places t k items i more e b r = refuses_same e _ _ b.fault (refuses_first e _ _ r)

pub places_for : (places : List Place) (t : UnitBuilder) (k : ℕ) (items : List Item) (i : Item) (more : List Item) → HasPlaces places (items_width items) → Below places t k items (i ∷ more) → HasPlaces places (k + item_width i)
places_for places t k items i more h b = record { tokens = omega (arith, h.tokens, b.width); few = h.few }

pub all_added : (places : List Place) (t : UnitBuilder) (k : ℕ) (items rest : List Item) → rest ≡ [] → Below places t k items rest → IsUnitOf places items t.unit
all_added places t k items rest none b = record {
  keeps = sym b.fault ∙ ap (items_fault b.above k) none;
  program = b.stands.program ∙ sym (ap (λ r. (after_items b.above r).program) none) ∙ b.unit;
  lines = sym (append-nil t.unit.lines) ∙ ap (λ r. t.unit.lines ++ lines_from places k r) (sym none) ∙ b.lines;
}
