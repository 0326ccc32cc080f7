-- The plain forms of claims.
use Rattle.std.specs.Prelude.{string_bytes}
use Rattle.exo_tree.specs.PlainControl.{condition}
use Rattle.check_claims.specs.Claim as plain
use Rattle.check_claims.specs.declared.claim.Claim.{Claim}
use Rattle.check_claims.specs.declared.claim.Claim.TheVariants.{Is, Apart}
use Rattle.check_claims.specs.declared.claim.Placed.{Placed}

abbrev pub claim : Claim → plain.Claim
claim (Is c text) = plain.Is (condition c.value) (string_bytes text)
claim (Apart j k) = plain.Apart j k

abbrev pub placed : Placed → plain.Placed
placed p = record { place = p.place; claim = claim p.claim }
