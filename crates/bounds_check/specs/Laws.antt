-- The laws of claims, each the contract of a function.
use Rattle.std.specs.Prelude.{◌≡◌, ℕ, Bool, true, ◌&&◌, Some, slice_get}
use Rattle.std.specs.List.{list_all}
use Rattle.exo_tree.specs.Tree.{Procedure, Program}
use Rattle.exo_meaning.specs.Units.{IsUnit}
use Rattle.affine_forms.specs.Formulas.{condition_keeps_rules}
use Rattle.check_claims.specs.Claim.{Claim, Is, Apart, Placed}
use Rattle.check_claims.specs.Claims.{claims_of}
use Rattle.effect_conflicts.specs.Standings.{is_place}

abbrev pub claim_keeps_rules : Claim → Bool
claim_keeps_rules (Is c text) = condition_keeps_rules c
claim_keeps_rules (Apart j k) = true

-- a claim has systems and a context: its condition is affine, and its place is one of the procedure's
abbrev pub may_be_owed : Procedure → Placed → Bool
may_be_owed p c = claim_keeps_rules c.claim && is_place c.place p

-- so has each claim of a well-formed procedure
abbrev pub ClaimsMayBeOwed : Type 0
ClaimsMayBeOwed =
    (u : Program) (k : ℕ) (p : Procedure)
    → IsUnit u
    → slice_get u.procedures k ≡ Some p
    → list_all (may_be_owed p) (claims_of u p) ≡ true
