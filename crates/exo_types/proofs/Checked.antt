-- What the check of a text tells, by what its items are refused for.
use Rattle.std.proofs.Common.{◌≡◌, List, length, slice_get, ap, sym, ◌∙◌, subst, arith}
use Rattle.text_lexer.specs.declared.place.Place.{Place}
use Rattle.exo_reader.specs.declared.unit.Source.{Source}
use Rattle.exo_tree.specs.declared.unit.Unit as tree
use Rattle.rules_names.specs.declared.error.TypeKind.{TypeKind}
use Rattle.rules_names.specs.declared.error.TypeKind.TheVariants as k
use Rattle.rules_names.specs.declared.error.TypeError.{TypeError}
use Rattle.exo_types.specs.declared.refusal.Refusal.{Refusal}
use Rattle.exo_types.specs.declared.refusal.Refusal.TheVariants.{Memory, Broken}
use Rattle.exo_types.specs.Refusals.{Refuses}
use Rattle.exo_types.specs.UnitRules.{unit_fault, items_width}
use Rattle.exo_types.specs.UnitLines.{lines_of}
use Rattle.exo_types.specs.Standing.{HasPlaces, IsUnitOf}
use Rattle.exo_types.specs.UnitBuilder.{items_of, IsPlaced, IsTyped, IsBroken, IsRefused, IsInPlace, IsErrorOf}
use Rattle.exo_types.proofs.Spelled.{items_spelled}
use Rattle.exo_types.proofs.Within.{unit_fault_within}

pub has_places : (s : Source) (places : List Place) → places ≡ s.places.items → IsPlaced s → HasPlaces places (items_width (items_of s))
has_places s places same p =
    let spelled = items_spelled (items_of s) p.fits in
    let long = ap length same in
    record { tokens = omega (arith, p.places, spelled, long); few = omega (arith, p.places, p.short, long) }

pub in_place : (s : Source) (places : List Place) (e : Refusal) → places ≡ s.places.items → IsPlaced s → Refuses e (unit_fault (items_of s)) → IsInPlace e (length places)
in_place s places Memory same p r = tt
in_place s places (Broken fault) same p r =
    let within = unit_fault_within (items_of s) fault r in
    let h = has_places s places same p in
    omega (arith, within, h.tokens)

pub typed : (s : Source) (places : List Place) (u : tree.Unit) → places ≡ s.places.items → IsUnitOf places (items_of s) u → IsTyped s u
typed s places u same h = record { keeps = h.keeps; program = h.program; lines = h.lines ∙ ap (λ l. lines_of l (items_of s)) same }

any_kind : (s : Source) (e : TypeError) (kind : TypeKind) → IsBroken s e → IsRefused s kind e
any_kind s e k.UnknownName b = b
any_kind s e k.Redefined b = b
any_kind s e k.KindMismatch b = b
any_kind s e k.RankMismatch b = b
any_kind s e k.NotAffine b = b
any_kind s e k.ConfigPlace b = b
any_kind s e k.StridePlace b = b
any_kind s e k.SharedArgument b = b
any_kind s e k.Memory b = tt

pub refused : (s : Source) (places : List Place) (r : Refusal) (e : TypeError) → places ≡ s.places.items → Refuses r (unit_fault (items_of s)) → IsErrorOf r places e → IsRefused s e.kind e
refused s places Memory e same h is = subst (λ (x : TypeKind). IsRefused s x e) (sym is) tt
refused s places (Broken fault) e same h is =
    any_kind s e e.kind (record {
      fault = fault;
      first = h;
      kind = is.kind;
      place = is.place;
      there = ap (λ l. slice_get l fault.token) (sym same) ∙ is.there;
      line = is.line;
      column = is.column;
    })
