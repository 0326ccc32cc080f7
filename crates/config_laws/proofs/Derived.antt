-- Refinement along a derivation.
use Rattle.std.proofs.Common.{◌≡◌, ◌==◌, ◌<◌, ◌≤◌, ◌+◌, ℕ, zero, suc, Bool, true, false, ◌||◌}
use Rattle.std.proofs.Common.{List, [], ◌∷◌, ◌++◌, length, Option, Some, None, refl, sym, ap, ◌∙◌}
use Rattle.std.proofs.Common.{◌⊎◌, inl, inr, subst, true≢false, eqb-true, eq-eqb, arith}
use Rattle.std.specs.Prelude.{Contains, slice_get, slice_index_or, if◌then◌else◌}
use Rattle.std.proofs.Math.Nat.{not-suc-le-zero}
use Rattle.std.proofs.lemmas.List.Elements.{Contains-append_right, Contains-append_cases}
use Rattle.exo_tree.specs.Tree.{Procedure, Program}
use Rattle.exo_meaning.specs.Value.{IsRefinedBy}
use Rattle.exo_meaning.specs.State.{State}
use Rattle.exo_meaning.specs.Run.{World, program_world}
use Rattle.exo_meaning.specs.Inputs.{Refines}
use Rattle.exo_meaning.proofs.Windows.{one_value}
use Rattle.meaning_laws.specs.Chain.{HasHead}
use Rattle.meaning_laws.proofs.Chain.{chain_law}
use Rattle.meaning_laws.proofs.Parts.{some_injective}
use Rattle.meaning_laws.proofs.Refined.{refined_same}
use Rattle.config_state.specs.FieldSets.{fields_from, fields_where}
use Rattle.config_laws.specs.FieldRule.{is_listed}
use Rattle.config_laws.specs.Differing.{Origin, parent_in, step_fields, from_parent, descends}
use Rattle.config_laws.specs.Differing.{fields_since, is_descendant, differing}
use Rattle.config_laws.specs.Differing.{AreVersions, VersionsStand, DescendantsRefine}

-- ---- lists of fields

first : (f : ℕ) (fs : List ℕ) (g : ℕ) → f ≡ g → Contains (f ∷ fs) g
first f fs g e = (0, let less : 0 < length (f ∷ fs) = omega arith in less, e)

later : (f : ℕ) (fs : List ℕ) (g : ℕ) → Contains fs g → Contains (f ∷ fs) g
later f fs g c = Contains-append_right (f ∷ []) fs g c

below : (n count f : ℕ) → f < n + suc count → f < suc n + count
below n count f hi = omega arith

more_than : (n f : ℕ) → n ≤ f → (n ≡ f → ⊥) → suc n ≤ f
more_than n f lo h = omega arith

beyond : (n f : ℕ) → n ≤ f → (n == f) ≡ false → suc n ≤ f
beyond n f lo e = more_than n f lo (λ k. true≢false (sym (eq-eqb n f k) ∙ e))

-- a field from n on that passes the test
among : (n count : ℕ) (test : ℕ → Bool) (f : ℕ) → n ≤ f → f < n + count → test f ≡ true
    → Contains (fields_from n count test) f
among n zero test f lo hi h = absurd (none lo hi)
  where
    none : n ≤ f → f < n + 0 → ⊥
    none lo hi = omega arith
among n (suc count) test f lo hi h =
    go (n == f) refl (test n) refl
    (λ e. among (suc n) count test f (beyond n f lo e) (below n count f hi) h)
  where
    go : (same : Bool) → (n == f) ≡ same → (t : Bool) → test n ≡ t
        → ((n == f) ≡ false → Contains (fields_from (suc n) count test) f)
        → Contains (if t then n ∷ fields_from (suc n) count test
        else fields_from (suc n) count test) f
    go true e true k further = first n (fields_from (suc n) count test) f (eqb-true n f e)
    go true e false k further =
        absurd (true≢false (sym h ∙ ap test (sym (eqb-true n f e)) ∙ k))
    go false e true k further = later n (fields_from (suc n) count test) f (further e)
    go false e false k further = further e

less : (k n : ℕ) → suc k < suc n → k < n
less k n h = omega arith

or_second : (a b : Bool) → b ≡ true → (a || b) ≡ true
or_second true b h = refl
or_second false b h = h

pub listed : (fs : List ℕ) (g k : ℕ) → k < length fs → slice_index_or fs k g ≡ g
    → is_listed g fs ≡ true
listed [] g k h e = absurd (none h)
  where
    none : k < 0 → ⊥
    none h = omega arith
listed (f ∷ fs) g zero h e = ap (λ t. t || is_listed g fs) (eq-eqb g f (sym e))
listed (f ∷ fs) g (suc k) h e =
    or_second (g == f) (is_listed g fs) (listed fs g k (less k (length fs) h) e)

in_unit_order : (count : ℕ) (fs : List ℕ) (f : ℕ) → (Contains fs f → f < count) → Contains fs f
    → Contains (fields_where count (λ g. is_listed g fs)) f
in_unit_order count fs f h c =
    among 0 count (λ g. is_listed g fs) f none (below (h c)) (listed fs f c.0 c.1 c.2)
  where
    none : 0 ≤ f
    none = omega arith

    below : f < count → f < 0 + count
    below h = omega arith

either : {A B C : Type 0} → (A → C) → (B → C) → A ⊎ B → C
either f g (inl a) = f a
either f g (inr b) = g b

-- ---- refinements

refines_itself : (world : World) (p : Procedure) → Refines world p p []
refines_itself world p = record {
  cells = λ s t u good i j b there at.
      subst (λ (z : State). IsRefinedBy (t.cells b at) (z.cells b at)) (one_value t u (sym i ∙ j))
      (refined_same (t.cells b at));
  fields = λ s t u good i j f k.
      ap (λ (z : State). z.scene.fields f) (one_value t u (sym i ∙ j));
}

-- but for more fields
refines_but_for_more : (world : World) (p q : Procedure) (but more : List ℕ)
    → ((f : ℕ) → Contains but f → Contains more f) → Refines world p q but
    → Refines world p q more
refines_but_for_more world p q but more h r = record {
  cells = r.cells;
  fields = λ s t u good i j f k. r.fields s t u good i j f (λ c. k (h f c));
}

-- ---- a derivation

module _ (world : World) (unit : Program) (os : List Origin) (versions : AreVersions world unit os)
    (from : ℕ) (p : Procedure) (is : slice_get unit.procedures from ≡ Some p) where
  abbrev ps : List Procedure
  ps = unit.procedures

  -- what a descendant keeps
  pub record Keeps (k : ℕ) (q : Procedure) (but : List ℕ) : Type 0 where
    pub head : HasHead p q
    pub refines : Refines world p q but

  itself : (k : ℕ) (q : Procedure) → (k == from) ≡ true → slice_get ps k ≡ Some q → Keeps k q []
  itself k q e i =
      let same : p ≡ q = some_injective p q
      (sym is ∙ ap (slice_get ps) (sym (eqb-true k from e)) ∙ i) in
      subst (λ z. Keeps k z []) same
      (record { head = (refl, refl); refines = refines_itself world p })

  keeps : (n k : ℕ) (q : Procedure) → descends ps os from n k ≡ true → slice_get ps k ≡ Some q
      → Keeps k q (fields_since ps os from n k)
  keeps zero k q h i = itself k q h i
  keeps (suc n) k q h i = go (k == from) refl (parent_in os k) refl h (λ j. keeps n j)
    where
      go : (t : Bool) → (k == from) ≡ t → (o : Option ℕ) → parent_in os k ≡ o
          → (t || from_parent false o (descends ps os from n)) ≡ true
          → ((j : ℕ) (r : Procedure) → descends ps os from n j ≡ true → slice_get ps j ≡ Some r
          → Keeps j r (fields_since ps os from n j))
          → Keeps k q (if t then [] else
          from_parent [] o (λ j. fields_since ps os from n j ++ step_fields ps os k))
      go true e o w h up = itself k q e i
      go false e None w h up = absurd (true≢false (sym h))
      go false e (Some j) w h up =
          let one = versions.steps j k q w i in
          let above = up j one.0 h one.1 in
          record {
            head = (above.head.0 ∙ one.2.head.0, above.head.1 ∙ one.2.head.1);
            refines =
                chain_law world p one.0 q (fields_since ps os from n j) (step_fields ps os k)
                above.head (versions.safe j one.0 one.1) above.refines one.2.refines;
          }

  -- each field that differs is one of the unit
  are_fields : (n k f : ℕ) → Contains (fields_since ps os from n k) f → f < length unit.fields
  are_fields zero k f c = absurd (none c.0 c.1)
    where
      none : (i : ℕ) → i < 0 → ⊥
      none i h = omega arith
  are_fields (suc n) k f c = go (k == from) (parent_in os k) c (λ j. are_fields n j f)
    where
      none : (i : ℕ) → i < 0 → ⊥
      none i h = omega arith

      go : (t : Bool) (o : Option ℕ) → Contains (if t then [] else
          from_parent [] o (λ j. fields_since ps os from n j ++ step_fields ps os k)) f
          → ((j : ℕ) → Contains (fields_since ps os from n j) f → f < length unit.fields)
          → f < length unit.fields
      go true o c up = absurd (none c.0 c.1)
      go false None c up = absurd (none c.0 c.1)
      go false (Some j) c up =
          either (up j) (versions.fields k f)
          (Contains-append_cases (fields_since ps os from n j) (step_fields ps os k) f c)

  pub all_keep : (k : ℕ) (q : Procedure) → is_descendant os k from ≡ true → slice_get ps k ≡ Some q
      → Keeps k q (differing unit os k from)
  all_keep k q h i =
      let there = keeps k k q h i in
      let since = fields_since ps os from k k in
      record {
        head = there.head;
        refines = refines_but_for_more world p q since (differing unit os k from)
            (λ f c. in_unit_order (length unit.fields) since f (are_fields k k f) c)
            there.refines;
      }

pub descendants_refine : DescendantsRefine
descendants_refine unit os versions from k p q h i j =
    let kept = all_keep (program_world unit) unit os versions from p i k q h j in
    (kept.head, kept.refines)

-- ---- no versions

no_parent : (k from : ℕ) → is_descendant [] k from ≡ true → (k == from) ≡ true
no_parent zero from h = h
no_parent (suc k) from h = by (suc k == from) h
  where
    by : (t : Bool) → (t || false) ≡ true → t ≡ true
    by true h = refl
    by false h = h

-- where none is a version each procedure stands for itself
pub no_versions : (unit : Program) → VersionsStand unit []
no_versions unit from k p q is i j =
    let same : p ≡ q =
    some_injective p q (sym i ∙ ap (slice_get unit.procedures)
    (sym (eqb-true k from (no_parent k from is))) ∙ j) in
    let world = program_world unit in (
      subst (λ z. HasHead p z) same (refl, refl),
      refines_but_for_more world p q [] (differing unit [] k from)
          (λ f none. absurd (not-suc-le-zero none.1))
          (subst (λ z. Refines world p z []) same (refines_itself world p)),
    )
