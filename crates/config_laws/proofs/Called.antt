-- Calls of versions.
use Rattle.std.proofs.Common.{◌≡◌, ℕ, zero, suc, Bool, true, false, List, [], ◌∷◌}
use Rattle.std.proofs.Common.{◌++◌, Some, option_map, refl, sym, ap, ◌∙◌}
use Rattle.std.proofs.Common.{true≢false}
use Rattle.std.specs.Prelude.{Contains, slice_get}
use Rattle.exo_tree.specs.Tree.{Kind, Procedure}
use Rattle.exo_meaning.specs.Calls.{Callee}
use Rattle.exo_meaning.specs.Run.{world_of, callee_in, callees, kinds_of, unit_world}
use Rattle.meaning_laws.specs.Live.{live_behind}
use Rattle.meaning_laws.specs.UnitFields.{unit_live}
use Rattle.meaning_laws.proofs.UnitFields.{unit_forgets}
use Rattle.config_laws.specs.Live.CallVersion.{called}
use Rattle.config_laws.proofs.OfLive.CallVersion.{call_version}
use Rattle.config_laws.specs.Surely.{surely_behind, unit_surely}
use Rattle.config_laws.specs.FieldRule.{not_again}
use Rattle.config_laws.specs.Differing.{DescendantsMayBeCalled}
use Rattle.config_laws.specs.Holes.{VersionRefines}
use Rattle.config_laws.proofs.Exits.{units_go_by_exit}
use Rattle.config_laws.specs.AtEnd.{lives_at_end}
use Rattle.config_laws.proofs.AtEnd.{at_end, listed_stay_dead}
use Rattle.config_laws.proofs.Derived.{listed}

-- ---- the callees of a unit are its procedures

abbrev procedures_of : List Callee → List Procedure
procedures_of [] = []
procedures_of (c ∷ cs) = c.procedure ∷ procedures_of cs

append_none : (ps : List Procedure) → ps ≡ ps ++ []
append_none [] = refl
append_none (p ∷ ps) = ap (λ z. p ∷ z) (append_none ps)

append_one : (cs : List Callee) (c : Callee) (ps : List Procedure)
    → procedures_of (cs ++ c ∷ []) ++ ps ≡ procedures_of cs ++ c.procedure ∷ ps
append_one [] c ps = refl
append_one (d ∷ cs) c ps = ap (λ z. d.procedure ∷ z) (append_one cs c ps)

all_procedures : (kinds : ℕ → Kind) (above : List Callee) (ps : List Procedure)
    → procedures_of (callees kinds above ps) ≡ procedures_of above ++ ps
all_procedures kinds above [] = append_none (procedures_of above)
all_procedures kinds above (p ∷ ps) =
    all_procedures kinds (above ++ callee_in (world_of kinds above) p ∷ []) ps
    ∙ append_one above (callee_in (world_of kinds above) p) ps

procedure_at : (cs : List Callee) (k : ℕ)
    → slice_get (procedures_of cs) k ≡ option_map (λ (c : Callee). c.procedure) (slice_get cs k)
procedure_at [] zero = refl
procedure_at [] (suc k) = refl
procedure_at (c ∷ cs) zero = refl
procedure_at (c ∷ cs) (suc k) = procedure_at cs k

pub callees_are_procedures : (kinds : ℕ → Kind) (ps : List Procedure) (k : ℕ)
    → slice_get ps k ≡ option_map (λ (c : Callee). c.procedure) ((unit_world kinds ps).callees k)
callees_are_procedures kinds ps k =
    ap (λ l. slice_get l k) (sym (all_procedures kinds [] ps))
    ∙ procedure_at (callees kinds [] ps) k

procedure_of : (kinds : ℕ → Kind) (ps : List Procedure) (k : ℕ) (c : Callee)
    → (unit_world kinds ps).callees k ≡ Some c → slice_get ps k ≡ Some c.procedure
procedure_of kinds ps k c e =
    callees_are_procedures kinds ps k ∙ ap (option_map (λ (c : Callee). c.procedure)) e

-- ---- descendants

pub descendants_may_be_called : DescendantsMayBeCalled
descendants_may_be_called unit os from k c d versions h i j =
    let kinds = kinds_of unit.fields in
    let at_from = procedure_of kinds unit.procedures from c i in
    let at_k = procedure_of kinds unit.procedures k d j in
    let kept = versions from k c.procedure d.procedure h at_from at_k in
    record { params = sym kept.0.0; asserts = sym kept.0.1; refines = kept.1 }

-- ---- the call

pub version_refines : VersionRefines
version_refines fields memories ps c k j args p q one two differ alike old_ok new_ok is_one is_two
    version dead =
    call_version fields memories ps (unit_live ps) c k j args p q one two differ
    (lives_at_end again differ) (not_again again differ) (unit_forgets (kinds_of fields) ps) alike
    old_ok new_ok is_one is_two version (at_end again differ) apart
  where
    again : ℕ → Bool
    again g = surely_behind (unit_surely ps) g c

    dies : (f : ℕ) → Contains differ f
        → live_behind (unit_live ps) f (called k args) c (lives_at_end again differ f) ≡ false
    dies f i =
        listed_stay_dead (unit_live ps) (unit_surely ps) f (called k args) c differ
        (units_go_by_exit ps) (listed differ f i.0 i.1 i.2) (dead f i)

    apart : (f : ℕ)
        → live_behind (unit_live ps) f (called k args) c (lives_at_end again differ f) ≡ true
        → Contains differ f → ⊥
    apart f e i = true≢false (sym e ∙ dies f i)
