-- At each state that a run comes to with fields that fit, the call is well formed.
use Rattle.std.proofs.Common.{◌≡◌, ℕ, ℤ, true, List, [], Option, Some, refl, sym, ap, ◌∙◌, subst}
use Rattle.exo_tree.specs.Tree.{Kind, Argument}
use Rattle.exo_tree.specs.Context.{Context, fill}
use Rattle.exo_meaning.specs.State.{State}
use Rattle.exo_meaning.specs.Calls.{Callee}
use Rattle.exo_meaning.specs.Run.{World, run, call_to, unit_world, kinds_of}
use Rattle.exo_meaning.specs.Units.{Scope, scope_of, is_block, is_call, field_kind}
use Rattle.meaning_laws.specs.Live.{live_behind, refield}
use Rattle.meaning_laws.specs.Sound.{IsSound}
use Rattle.meaning_laws.specs.Sorted.{FieldsFit, IsSorted, scope_at}
use Rattle.meaning_laws.proofs.Parts.{then_gives}
use Rattle.meaning_laws.proofs.Substitute.{and_parts}
use Rattle.meaning_laws.proofs.Copies.{sound_law}
use Rattle.meaning_laws.proofs.Sorted.{fits_at_law, unit_good}
use Rattle.place_laws.specs.Scope.Holes.{roots_at}
use Rattle.place_laws.proofs.OfScope.Roots.{names_have_roots}
use Rattle.place_laws.proofs.OfScope.WellAtPlace.{block_at_place}
use Rattle.config_laws.specs.Live.CallFits.{IsVersion}
use Rattle.config_laws.specs.Live.CallVersion.{called, CallVersionLaw}
use Rattle.config_laws.proofs.OfLive.LiveFits.{live_fits}
use Rattle.config_laws.proofs.OfLive.CallFits.{call_fits}
use Rattle.config_laws.proofs.OfLive.UnitCallees.{callees_are_made}

-- ---- the rules at the hole

module _
    (fields : ℕ → Option Kind) (memories : ℕ) (table : ℕ → Option Callee)
    (k : ℕ) (args : List Argument) where
  call_at :
      (c : Context) (scope : Scope) (root : ℕ → ℕ)
      → is_block fields memories table scope root (fill c (called k args)) ≡ true
      → is_call fields (scope_at c scope) (roots_at c root) (table k) args ≡ true
  call_at c scope root ok =
      let there = (block_at_place fields memories table scope root c (called k args) ok).piece in
      (and_parts (is_call fields (scope_at c scope) (roots_at c root) (table k) args) _ there).0

-- ---- the call

one_call : (world : World) (k : ℕ) (args : List Argument) (c : Callee) (s a : State)
    → world.callees k ≡ Some c → run world (called k args) s ≡ Some a
    → call_to (Some c) args s ≡ Some a
one_call world k args c s a e i =
    let p = then_gives (call_to (world.callees k) args s) (λ t. Some t) a i in
    ap (λ o. call_to o args s) (sym e) ∙ p.1 ∙ p.2

with_fields_sorted : (kinds : ℕ → Kind) (scope : Scope) (u : State) (g : ℕ → ℤ)
    → IsSorted kinds scope u → FieldsFit kinds (refield g u) → IsSorted kinds scope (refield g u)
with_fields_sorted kinds scope u g h fit =
    record { buffers = h.buffers; views = h.views; cells = h.cells; fields = fit }

pub call_version : CallVersionLaw
call_version fields memories ps calls c k j args p q one two differing out but forget alike old_ok
    new_ok is_one is_two version exit apart =
    live_fits fields memories ps calls c (called k args) (called j args) p q out but forget
    alike.old alike.new new_ok exit (λ s u good come g fit agree a b i h.
    call_fits fields memories (unit_world (kinds_of fields) ps) (scope_at c (scope_of [] p.params))
    (roots_at c (λ x. x)) one two args differing (λ f. live_behind calls f (called k args) c
    (out f)) (refield g u) refl
    (sound (sound_law (unit_world (kinds_of fields) ps) p (called k args) c s u good come) g)
    (with_fields_sorted (kinds_of fields) (scope_at c (scope_of [] p.params)) u g
    (fits_at_law fields memories ps p c (called k args) old_ok alike.old s u good come) fit)
    (record {
      params = (unit_good fields memories ps old_ok.unit k one is_one).0;
      call = subst (λ o. is_call (field_kind fields) (scope_at c (scope_of [] p.params))
          (roots_at c (λ x. x)) o args ≡ true) is_one (call_at (field_kind fields) memories
          (unit_world (kinds_of fields) ps).callees k args c (scope_of [] p.params) (λ x. x)
          (subst (λ b. is_block (field_kind fields) memories (unit_world (kinds_of fields)
          ps).callees (scope_of [] p.params) (λ x. x) b ≡ true) alike.old old_ok.procedure.body));
      roots = names_have_roots fields memories ps p c (called k args) s u old_ok good come;
    })
    is_version apart a b (one_call (unit_world (kinds_of fields) ps) k args one (refield g u) a
    is_one i) (one_call (unit_world (kinds_of fields) ps) j args two (refield g u) b is_two h))
  where
    sound : {u : State} → IsSound u → (g : ℕ → ℤ) → IsSound (refield g u)
    sound h g = record { tidy = h.tidy; seen = h.seen }

    is_version : IsVersion (unit_world (kinds_of fields) ps) one two differing
    is_version =
        let first = callees_are_made fields memories ps old_ok.unit k one is_one in
        let second = callees_are_made fields memories ps old_ok.unit j two is_two in
        record {
          params = version.params;
          asserts = version.asserts;
          old_above = first.above;
          old_made = first.made;
          new_above = second.above;
          new_made = second.made;
          old_run = first.runs;
          new_run =
              second.runs;
          refines = version.refines;
        }
