-- The program's accesses of a piece of a well-formed procedure are low.
use Rattle.std.proofs.Common.{◌≡◌, ◌≤◌, ◌^◌, nat_le, true, ◌&&◌, List, [], ◌∷◌, length, refl, sym}
use Rattle.std.proofs.Common.{ap, ap₂, ◌∙◌, subst, arith}
use Rattle.std.proofs.lemmas.Bool.Decides.{nat_tests}
use Rattle.std.specs.List.{list_all}
use Rattle.exo_meaning.specs.Orders.{Each}
use Rattle.affine_forms.proofs.Values.{and_parts}
use Rattle.exo_effects.specs.Low.{use_is_low, LowLaw, UsesLowLaw, PassedLowLaw}
use Rattle.exo_effects.specs.PlainGuards.{all_facts}
use Rattle.exo_effects.specs.PlainUses.{plain_use, plain_uses}
use Rattle.exo_effects.specs.declared.access.Access.{Access}
use Rattle.exo_effects.specs.declared.guards.Guard.{Guard}
use Rattle.exo_effects.specs.declared.guards.Guard.TheVariants as guard
use Rattle.effect_conflicts.specs.Outcomes.{access_is_low}
use Rattle.effect_laws.specs.Bounds.Laws.{AccessesLowLaw, ArgumentsLowLaw}
use Rattle.effect_laws.proofs.OfBounds.SmallUses.{IsSmall, uses_small, passed_small}

-- a guard says one fact or two
guards_few : (gs : List Guard) → length gs ≤ length (all_facts gs)
guards_few [] = omega arith
guards_few (guard.Loop i lo hi ∷ gs) = let few = guards_few gs in omega arith
guards_few (guard.Holds c ∷ gs) = let few = guards_few gs in omega arith
guards_few (guard.Fails c ∷ gs) = let few = guards_few gs in omega arith

access_low :
    (a : Access)
    → use_is_low (plain_use a) ≡ true → IsSmall 64 (plain_use a) → access_is_low a ≡ true
access_low a h small = ap₂ ◌&&◌ h (ap₂ ◌&&◌ guards coords)
  where
    guards : nat_le (length a.guards.items) (2 ^ 20) ≡ true
    guards = let few = guards_few a.guards.items in let n = small.round in grind (arith, nat_tests)

    coords : nat_le (length a.coords) (2 ^ 20) ≡ true
    coords = let n = small.coords in grind (arith, nat_tests)

all_low :
    (l : List Access)
    → list_all use_is_low (plain_uses l) ≡ true
    → Each (IsSmall 64) (plain_uses l)
    → list_all access_is_low l ≡ true
all_low [] h small = refl
all_low (a ∷ l) h small =
    let q = and_parts (use_is_low (plain_use a)) (list_all use_is_low (plain_uses l)) h in
    ap₂ ◌&&◌ (access_low a q.0 small.0) (all_low l q.1 small.1)

pub accesses_low : LowLaw → UsesLowLaw → AccessesLowLaw
accesses_low low uses fields memories callees u p path count l good e =
    all_low l (ap (list_all use_is_low) e ∙ uses u p path count (low fields memories callees p good))
    (subst (Each (IsSmall 64)) (sym e) (uses_small fields memories callees u p path count good))

pub arguments_low : LowLaw → PassedLowLaw → ArgumentsLowLaw
arguments_low low passed fields memories callees u p path k l good e =
    all_low l (ap (list_all use_is_low) e ∙ passed u p path k (low fields memories callees p good))
    (subst (Each (IsSmall 64)) (sym e) (passed_small fields memories callees u p path k good))
