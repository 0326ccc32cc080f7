-- The attributes that are left decide.
use Rattle.std.proofs.Common.{◌≡◌, drop, map}
use Rattle.std.specs.List.{list_any}
use Rattle.exo_meaning.specs.Units.{is_text}
use Rattle.exo_types.proofs.attribute.is_among.Given as goal

abbrev pub invariant-loop-attribute : goal.invariant-loop-attribute
invariant-loop-attribute l = list_any (λ x. is_text x l.name) (map (λ a. a.name) (drop l.attribute-index l.attributes)) ≡ list_any (λ x. is_text x l.name) (map (λ a. a.name) l.attributes)
