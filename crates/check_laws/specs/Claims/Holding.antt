-- Where claims hold, and which procedures a run comes to.
use Rattle.std.specs.Prelude.{◌≡◌, ◌==◌, ℕ, Bool, true, false, ◌||◌, ⊤, Option, Some, None}
use Rattle.std.specs.Prelude.{slice_get}
use Rattle.exo_tree.specs.Tree.{Condition, Statement, Assign, Reduce, Config, Pass, If, For, Alloc}
use Rattle.exo_tree.specs.Tree.{View, Call, Block, end, next, Procedure, Program}
use Rattle.exo_tree.specs.Calls.{call_arguments}
use Rattle.exo_tree.specs.Places.{Opened, opened}
use Rattle.exo_meaning.specs.Scene.{holds}
use Rattle.exo_meaning.specs.State.{State}
use Rattle.exo_meaning.specs.Calls.{are_apart_at}
use Rattle.exo_meaning.specs.Run.{World, program_world}
use Rattle.exo_meaning.specs.Inputs.{IsAdmissible}
use Rattle.exo_meaning.specs.Orders.{Each}
use Rattle.exo_meaning.specs.Units.{Scope, with_both, is_condition, field_kind}
use Rattle.meaning_laws.specs.Context.{ComesTo}
use Rattle.meaning_laws.specs.Copies.{HoldsAt}
use Rattle.meaning_laws.specs.Sorted.{scope_there}
use Rattle.check_claims.specs.Claim.{Claim, Is, Apart, Placed}
use Rattle.check_claims.specs.Claims.{claims_of}

-- a condition holds wherever a run of the procedure on an admissible input comes to the place; the
-- place of no statement is the one before the body, where the input itself is
abbrev pub HoldsAtPlace : World → Procedure → Option Opened → Condition → Type 0
HoldsAtPlace world p None c = (s : State) → IsAdmissible world p s → holds s.scene c ≡ true
HoldsAtPlace world p (Some o) c = HoldsAt world p o.piece o.around c

-- wherever a run of the procedure on an admissible input comes to the call at the place, these of
-- its arguments have no cell in common
abbrev pub ApartAtPlace : World → Procedure → Option Opened → ℕ → ℕ → Type 0
ApartAtPlace world p None j k = ⊤
ApartAtPlace world p (Some o) j k =
    (s t : State)
    → IsAdmissible world p s
    → ComesTo world o.piece o.around s t
    → are_apart_at t.scene (call_arguments o.piece) j k ≡ true

abbrev pub SaidHolds : World → Procedure → Option Opened → Claim → Type 0
SaidHolds world p o (Is c text) = HoldsAtPlace world p o c
SaidHolds world p o (Apart j k) = ApartAtPlace world p o j k

-- what has to be shown at a place holds there
abbrev pub ClaimHolds : World → Procedure → Placed → Type 0
ClaimHolds world p c = SaidHolds world p (opened 1 c.place p.body) c.claim

-- all claims of the procedure of that number
abbrev pub ClaimsHold : Program → ℕ → Type 0
ClaimsHold u k =
    (p : Procedure)
    → slice_get u.procedures k ≡ Some p
    → Each (ClaimHolds (program_world u) p) (claims_of u p)

-- a condition is one over the names in scope
abbrev pub SaidIsFormed : Program → Scope → Claim → Type 0
SaidIsFormed u scope (Is c text) = is_condition (field_kind u.fields) with_both scope c ≡ true
SaidIsFormed u scope (Apart j k) = ⊤

-- what has to be shown is well formed at its place
abbrev pub ClaimIsFormed : Program → Procedure → Placed → Type 0
ClaimIsFormed u p c = SaidIsFormed u (scope_there p (opened 1 c.place p.body)) c.claim

-- whether a block calls the procedure of that number
abbrev mutual
  pub calls : Block → ℕ → Bool
  calls end k = false
  calls (next a b) k = step_calls a k || calls b k

  pub step_calls : Statement → ℕ → Bool
  step_calls (Assign x is e) k = false
  step_calls (Reduce x is e) k = false
  step_calls (Config f a) k = false
  step_calls Pass k = false
  step_calls (If c a b) k = calls a k || calls b k
  step_calls (For i lo hi b) k = calls b k
  step_calls (Alloc x cell dims memory) k = false
  step_calls (View w x coords) k = false
  step_calls (Call j args) k = k == j

-- from one procedure of the unit to another: the procedure itself, and what it calls, directly or
-- not
pub data LeadsTo (u : Program) : ℕ → ℕ → Type 0 where
  itself : {k : ℕ} → LeadsTo u k k
  by_call :
      {k j i : ℕ} {p : Procedure}
      → slice_get u.procedures k ≡ Some p
      → calls p.body j ≡ true
      → LeadsTo u j i
      → LeadsTo u k i
