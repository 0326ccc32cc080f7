-- The callees of a unit as they are made.
use Rattle.std.proofs.Common.{◌≡◌, ℕ, zero, suc, true, List, [], ◌∷◌, ◌++◌, length, Some, arith}
use Rattle.std.proofs.Common.{refl, sym, ap, ◌∙◌, subst}
use Rattle.std.specs.Prelude.{slice_get, nat_lt}
use Rattle.exo_tree.specs.Tree.{Kind, Procedure, ConfigField}
use Rattle.exo_meaning.specs.Calls.{Callee}
use Rattle.exo_meaning.specs.Run.{World, world_of, callee_in, callees, kinds_of, unit_world}
use Rattle.exo_meaning.specs.Units.{AreProcedures, field_kind}
use Rattle.meaning_laws.proofs.Parts.{none_some, some_injective}
use Rattle.meaning_laws.proofs.Grown.{run_agrees}
use Rattle.meaning_laws.proofs.WellFormed.{calls_are_below}
use Rattle.config_laws.specs.Live.CallVersion.{IsMadeIn, CalleesAreMade}

no_less : (k : ℕ) → nat_lt k 0 ≡ true → ⊥
no_less k h = grind arith

less : (k n : ℕ) → nat_lt (suc k) (suc n) ≡ true → nat_lt k n ≡ true
less k n h = grind arith

more : (k n : ℕ) → nat_lt k n ≡ true → nat_lt (suc k) (suc n) ≡ true
more k n h = grind arith

some : (n : ℕ) → nat_lt 0 (suc n) ≡ true
some n = grind arith

get_first : (xs ys : List Callee) (k : ℕ) → nat_lt k (length xs) ≡ true
    → slice_get (xs ++ ys) k ≡ slice_get xs k
get_first [] ys k h = absurd (no_less k h)
get_first (x ∷ xs) ys zero h = refl
get_first (x ∷ xs) ys (suc k) h = get_first xs ys k (less k (length xs) h)

longer : (xs ys : List Callee) (k : ℕ) → nat_lt k (length xs) ≡ true
    → nat_lt k (length (xs ++ ys)) ≡ true
longer [] ys k h = absurd (no_less k h)
longer (x ∷ xs) ys zero h = some (length (xs ++ ys))
longer (x ∷ xs) ys (suc k) h = more k (length (xs ++ ys)) (longer xs ys k (less k (length xs) h))

-- the table begins with what stands above
begins : (kinds : ℕ → Kind) (above : List Callee) (ps : List Procedure) (k : ℕ)
    → nat_lt k (length above) ≡ true → slice_get (callees kinds above ps) k ≡ slice_get above k
begins kinds above [] k h = refl
begins kinds above (p ∷ ps) k h =
    let one = callee_in (world_of kinds above) p ∷ [] in
    begins kinds (above ++ one) ps k (longer above one k h) ∙ get_first above one k h

module _ (fields : List ConfigField) (memories : ℕ) (table : List Callee) where
  abbrev whole : World
  whole = world_of (kinds_of fields) table

  abbrev AllMade : List Callee → Type 0
  AllMade cs = (k : ℕ) (c : Callee) → slice_get cs k ≡ Some c → IsMadeIn whole c

  all_and : (cs : List Callee) (c : Callee) → AllMade cs → IsMadeIn whole c → AllMade (cs ++ c ∷ [])
  all_and [] c h one zero d e = subst (IsMadeIn whole) (some_injective c d e) one
  all_and [] c h one (suc k) d e = absurd (none_some e)
  all_and (x ∷ cs) c h one zero d e = h zero d e
  all_and (x ∷ cs) c h one (suc k) d e = all_and cs c (λ m. h (suc m)) one k d e

  all_made : (above : List Callee) (ps : List Procedure)
      → callees (kinds_of fields) above ps ≡ table → AllMade above
      → AreProcedures fields memories above ps → AllMade table
  all_made above [] e h u = subst AllMade e h
  all_made above (p ∷ ps) e h u =
      let kinds = kinds_of fields in
      let same = λ (k : ℕ) (i : nat_lt k (length above) ≡ true). sym (begins kinds above (p ∷ ps) k
      i) ∙ ap (λ l. slice_get l k) e in
      let runs = run_agrees kinds (length above) (slice_get above) (slice_get table) same p.body
      (calls_are_below (field_kind fields) memories above p u.0) in
      all_made (above ++ callee_in (world_of kinds above) p ∷ []) ps e
      (all_and above (callee_in (world_of kinds above) p) h
      (record { above = world_of kinds above; made = refl; runs = runs })) u.1

pub callees_are_made : CalleesAreMade
callees_are_made fields memories ps u k c e =
    all_made fields memories (callees (kinds_of fields) [] ps) [] ps refl none u k c e
  where
    none : (k : ℕ) (c : Callee) → slice_get [] k ≡ Some c
        → IsMadeIn (unit_world (kinds_of fields) ps) c
    none zero c e = absurd (none_some e)
    none (suc k) c e = absurd (none_some e)
