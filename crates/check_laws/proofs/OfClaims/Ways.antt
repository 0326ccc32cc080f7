-- From a block of a procedure to the places in it.
use Rattle.std.proofs.Common.{◌≡◌, ℕ, suc, ℤ, ◌+◌, true, false, List, [], ◌∷◌, ◌++◌, Some, option_map, arith, refl, sym, ap, ◌∙◌, subst}
use Rattle.exo_tree.specs.Tree.{Binder, Index, Control, Condition, Statement, If, For, Block, end, next, Procedure}
use Rattle.exo_tree.specs.Calls.{call_arguments}
use Rattle.exo_tree.specs.Context.{Here, After, InLoop, InThen, InElse, fill}
use Rattle.exo_tree.specs.Places.{Branch, Main, Else, Path, Opened, opened_in, opened, path_below}
use Rattle.exo_meaning.specs.Scene.{holds}
use Rattle.exo_meaning.specs.State.{State, on_scene, with_control}
use Rattle.exo_meaning.specs.Calls.{are_apart_at}
use Rattle.exo_meaning.specs.Run.{World, run, step, turn, turns_of}
use Rattle.exo_meaning.specs.Inputs.{IsAdmissible}
use Rattle.exo_meaning.specs.Orders.{Each}
use Rattle.exo_meaning.specs.Units.{ControlName, Scope, with_name, scope_of, scope_after}
use Rattle.meaning_laws.specs.Context.{ComesToTurn, ComesTo}
use Rattle.meaning_laws.specs.Places.{OpenedLaw}
use Rattle.meaning_laws.specs.Sorted.{scope_at}
use Rattle.check_claims.specs.Claim.{Claim, Is, Apart}
use Rattle.check_claims.specs.Claims.{placed_at}
use Rattle.check_laws.specs.Claims.Holding.{SaidHolds, ClaimHolds}
use Rattle.check_laws.proofs.OfClaims.Basics.{append_assoc, each_of}
use Rattle.check_laws.proofs.OfClaims.Seen.{IsHeld, Hold, IsKeptApart}
use Rattle.check_laws.proofs.OfClaims.Kept.{SameNames}

abbrev pub at_step : Branch → ℕ → Path → Path
at_step branch n rest = record { branch = branch; index = n } ∷ rest

pub same_zero : (n : ℕ) → n + 0 ≡ n
same_zero n = omega arith

pub shifted : (n k m : ℕ) → suc n + k ≡ m → n + suc k ≡ m
shifted n k m e = omega arith

pub from_zero : (k m : ℕ) → 0 + k ≡ m → k ≡ m
from_zero k m e = omega arith

pub opened_next : (branch : Branch) (k : ℕ) (rest : Path) (a : Statement) (b : Block) (o : Opened) → opened_in 1 (at_step branch k rest) b ≡ Some o → opened_in 1 (at_step branch (suc k) rest) (next a b) ≡ Some (record { around = After a o.around; piece = o.piece })
opened_next branch k [] a b o e = ap (option_map (λ (o : Opened). record { around = After a o.around; piece = o.piece })) e
opened_next branch k (s ∷ rest) a b o e = ap (option_map (λ (o : Opened). record { around = After a o.around; piece = o.piece })) e

module _ (world : World) (p : Procedure) where
  -- a run on an admissible input comes to the piece at the place in this state, with these names in scope
  pub record Reaches (path : Path) (piece : Block) (scope : Scope) (t : State) : Type 0 where
    pub place : Opened
    pub is_there : opened 1 path p.body ≡ Some place
    pub piece_is : place.piece ≡ piece
    pub scope_is : scope_at place.around (scope_of [] p.params) ≡ scope
    pub start : State
    pub good : IsAdmissible world p start
    pub comes : ComesTo world place.piece place.around start t

  module _ (path : Path) (piece : Block) (scope : Scope) (t : State) (r : Reaches path piece scope t) where
    claim_here : (c : Claim) → ClaimHolds world p (record { place = path; claim = c }) → IsHeld t.scene c × IsKeptApart t.scene (call_arguments piece) c
    claim_here c h = go c (subst (λ o. SaidHolds world p o c) r.is_there h)
      where
        go : (c : Claim) → SaidHolds world p (Some r.place) c → IsHeld t.scene c × IsKeptApart t.scene (call_arguments piece) c
        go (Is c text) h = (h r.start t r.good r.comes, tt)
        go (Apart j k) h = (tt, subst (λ b. are_apart_at t.scene (call_arguments b) j k ≡ true) r.piece_is (h r.start t r.good r.comes))

    pub claims_here : (cs : List Claim) → Each (ClaimHolds world p) (placed_at path cs) → Hold t.scene cs
    claims_here cs h = each_of (ClaimHolds world p) (IsHeld t.scene) (λ c. record { place = path; claim = c }) cs (λ c k. (claim_here c k).0) h

    pub apart_here : (cs : List Claim) → Each (ClaimHolds world p) (placed_at path cs) → Each (IsKeptApart t.scene (call_arguments piece)) cs
    apart_here cs h = each_of (ClaimHolds world p) (IsKeptApart t.scene (call_arguments piece)) (λ c. record { place = path; claim = c }) cs (λ c k. (claim_here c k).1) h

  -- a run that is at the begin of the block in one of these states comes to the places in it
  abbrev pub Leads : Path → Branch → ℕ → Block → Scope → (State → Type 0) → Type 0
  Leads outer branch n b scope At = (k m : ℕ) → n + k ≡ m → (rest : Path) (o : Opened) → opened_in 1 (record { branch = branch; index = k } ∷ rest) b ≡ Some o → (s t : State) → At s → ComesTo world o.piece o.around s t → Reaches (outer ++ record { branch = branch; index = m } ∷ rest) o.piece (scope_at o.around scope) t

  pub leads_here : (outer : Path) (branch : Branch) (n : ℕ) (a : Statement) (b : Block) (scope : Scope) (At : State → Type 0) → Leads outer branch n (next a b) scope At → (s : State) → At s → Reaches (path_below outer branch n) (next a end) scope s
  leads_here outer branch n a b scope At l s h = l 0 n (same_zero n) [] (record { around = Here b; piece = next a end }) refl s s h refl

  -- after a statement
  abbrev pub Later : Statement → (State → Type 0) → State → Type 0
  Later a At t = (s : State) × At s × (step world a s ≡ Some t)

  pub leads_next : (outer : Path) (branch : Branch) (n : ℕ) (a : Statement) (b : Block) (scope : Scope) (At : State → Type 0) → Leads outer branch n (next a b) scope At → Leads outer branch (suc n) b (scope_after a scope) (Later a At)
  leads_next outer branch n a b scope At l k m e rest o is s t h come =
      l (suc k) m (shifted n k m e) rest (record { around = After a o.around; piece = o.piece }) (opened_next branch k rest a b o is) h.0 t h.1 (s, h.2, come)

  -- a place inside the statement at the path
  inside : (outer : Path) (branch inner : Branch) (n k m : ℕ) (rest : Path) (piece : Block) (scope : Scope) (t : State) → 0 + k ≡ m → Reaches (outer ++ at_step branch n (at_step inner k rest)) piece scope t → Reaches (path_below outer branch n ++ at_step inner m rest) piece scope t
  inside outer branch inner n k m rest piece scope t e r =
      subst (λ path. Reaches path piece scope t) (ap (λ i. outer ++ at_step branch n (at_step inner i rest)) (from_zero k m e) ∙ sym (append_assoc outer (at_step branch n []) (at_step inner m rest))) r

  module _ (outer : Path) (branch : Branch) (n : ℕ) (rest : Block) (scope : Scope) (At : State → Type 0) where
    pub leads_then : (c : Condition) (a b : Block) → Leads outer branch n (next (If c a b) rest) scope At → Leads (path_below outer branch n) Main 0 a scope (λ s. At s × (holds s.scene c ≡ true))
    leads_then c a b l k m e path o is s t h come =
        inside outer branch Main n k m path o.piece (scope_at o.around scope) t e (l 0 n (same_zero n) (at_step Main k path) (record { around = InThen c o.around b rest; piece = o.piece }) (ap (option_map (λ (o : Opened). record { around = InThen c o.around b rest; piece = o.piece })) is) s t h.0 (h.1, come))

    pub leads_else : (c : Condition) (a b : Block) → Leads outer branch n (next (If c a b) rest) scope At → Leads (path_below outer branch n) Else 0 b scope (λ s. At s × (holds s.scene c ≡ false))
    leads_else c a b l k m e path o is s t h come =
        inside outer branch Else n k m path o.piece (scope_at o.around scope) t e (l 0 n (same_zero n) (at_step Else k path) (record { around = InElse c a o.around rest; piece = o.piece }) (ap (option_map (λ (o : Opened). record { around = InElse c a o.around rest; piece = o.piece })) is) s t h.0 (h.1, come))

    module _ (i : Binder) (lo hi : Control) (b : Block) where
      -- the first state of a turn
      pub record InTurn (s : State) : Type 0 where
        pub outside : State
        pub at_outside : At outside
        pub turn_is : ℤ
        pub before : State
        pub comes : ComesToTurn (turn i.id (run world b)) (turns_of outside.scene lo hi) outside turn_is before
        pub same : SameNames outside.scene before.scene
        pub state_is : s ≡ on_scene (with_control i.id turn_is) before

      pub leads_loop : OpenedLaw → Leads outer branch n (next (For i lo hi b) rest) scope At → Leads (path_below outer branch n) Main 0 b (with_name scope i (ControlName Index)) InTurn
      leads_loop opened_law l k m e path o is s t h come =
          let body : fill o.around o.piece ≡ b = opened_law 1 (at_step Main k path) b o is in
          let turns : ComesToTurn (turn i.id (run world (fill o.around o.piece))) (turns_of h.outside.scene lo hi) h.outside h.turn_is h.before = subst (λ z. ComesToTurn (turn i.id (run world z)) (turns_of h.outside.scene lo hi) h.outside h.turn_is h.before) (sym body) h.comes in
          inside outer branch Main n k m path o.piece (scope_at o.around (with_name scope i (ControlName Index))) t e (l 0 n (same_zero n) (at_step Main k path) (record { around = InLoop i lo hi o.around rest; piece = o.piece }) (ap (option_map (λ (o : Opened). record { around = InLoop i lo hi o.around rest; piece = o.piece })) is) h.outside t h.at_outside (h.turn_is, h.before, turns, subst (λ z. ComesTo world o.piece o.around z t) h.state_is come))

  -- the body of the procedure, from an admissible input
  pub leads_body : Leads [] Main 0 p.body (scope_of [] p.params) (λ s. IsAdmissible world p s)
  leads_body k m e rest o is s t h come = record {
    place = o;
    is_there = subst (λ i. opened 1 (at_step Main i rest) p.body ≡ Some o) (from_zero k m e) is;
    piece_is = refl;
    scope_is = refl;
    start = s;
    good = h;
    comes = come;
  }
