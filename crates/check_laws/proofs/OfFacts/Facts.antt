-- What is told of fields at a place, as it is looked up.
use Rattle.std.proofs.Common.{◌≡◌, ◌≤ℤ◌, ℕ, zero, suc, ◌+◌, ◌<◌, ◌≤◌, ℤ, pos, ◌==◌, Bool, true, false, true≢false, cond, List, [], ◌∷◌, length, Option, Some, None, arith, refl, sym, ap, ◌∙◌, subst, eq-eqb, eqb-true}
use Rattle.std.proofs.lemmas.Bool.Decides.{nat_tests}
use Rattle.std.proofs.lemmas.Int.{ints}
use Rattle.exo_tree.specs.Tree.{Kind, Size, Index, Truth, Stride, ConfigField}
use Rattle.exo_meaning.specs.Calls.{truth}
use Rattle.exo_meaning.specs.Scene.{is_set}
use Rattle.exo_meaning.specs.Run.{kinds_of}
use Rattle.exo_meaning.specs.Inputs.{IsOfKind}
use Rattle.exo_meaning.specs.Units as units
use Rattle.exo_meaning.specs.Units.{is_truth, field_kind}
use Rattle.meaning_laws.specs.KnownFields.{FieldValue, AtEntry, Known, UnknownAt, KnownFields}
use Rattle.affine_forms.specs.Atoms.{same_kind}
use Rattle.affine_places.specs.Facts as facts
use Rattle.affine_places.specs.Facts.{FieldFact, fact_of}
use Rattle.check_facts.specs.Contexts.{with_value, facts_from, told}

abbrev pub fact_for : FieldValue → Option facts.Fact
fact_for AtEntry = None
fact_for (Known a) = Some (facts.Known a)
fact_for (UnknownAt path) = Some (facts.UnknownAt path)

apart_from : (m n : ℕ) → m < n → (n == m) ≡ false
apart_from m n h = grind (arith, nat_tests)

with_value_own : (f : ℕ) (v : FieldValue) (rest : List FieldFact) → fact_of rest f ≡ None → fact_of (with_value f v rest) f ≡ fact_for v
with_value_own f AtEntry rest h = h
with_value_own f (Known a) rest h = ap (λ t. cond t (Some (facts.Known a)) (fact_of rest f)) (eq-eqb f f refl)
with_value_own f (UnknownAt path) rest h = ap (λ t. cond t (Some (facts.UnknownAt path)) (fact_of rest f)) (eq-eqb f f refl)

with_value_other : (f g : ℕ) (v : FieldValue) (rest : List FieldFact) → (f == g) ≡ false → fact_of (with_value f v rest) g ≡ fact_of rest g
with_value_other f g AtEntry rest h = refl
with_value_other f g (Known a) rest h = ap (λ t. cond t (Some (facts.Known a)) (fact_of rest g)) h
with_value_other f g (UnknownAt path) rest h = ap (λ t. cond t (Some (facts.UnknownAt path)) (fact_of rest g)) h

none_before : (first count f : ℕ) (known : KnownFields) → f < first → fact_of (facts_from first count known) f ≡ None
none_before first zero f known h = refl
none_before first (suc count) f known h = with_value_other first f (known first) (facts_from (suc first) count known) (apart_from f first h) ∙ none_before (suc first) count f known (omega (arith, h))

fact_there : (count first f : ℕ) (known : KnownFields) → first ≤ f → f < first + count → fact_of (facts_from first count known) f ≡ fact_for (known f)
fact_there zero first f known h k = absurd (omega (arith, h, k))
fact_there (suc count) first f known h k = go (first == f) refl (fact_there count (suc first) f known)
  where
    later : (first == f) ≡ false → suc first ≤ f
    later e = grind (arith, nat_tests, e, h)

    go : (t : Bool) → (first == f) ≡ t → (suc first ≤ f → f < suc first + count → fact_of (facts_from (suc first) count known) f ≡ fact_for (known f)) → fact_of (facts_from first (suc count) known) f ≡ fact_for (known f)
    go true e rest =
        let same = eqb-true first f e in
        subst (λ z. fact_of (facts_from first (suc count) known) z ≡ fact_for (known z)) same (with_value_own first (known first) (facts_from (suc first) count known) (none_before (suc first) count first known (omega arith)))
    go false e rest = with_value_other first f (known first) (facts_from (suc first) count known) e ∙ rest (later e) (omega (arith, k))

-- a field that there is has a number below the count
below : (fields : List ConfigField) (f : ℕ) (kind : Kind) → field_kind fields f ≡ Some kind → f < length fields
below [] f kind h = absurd (no_kind h)
  where
    no_kind : {k : Kind} → None ≡ Some k → ⊥
    no_kind e = cc
below (c ∷ cs) zero kind h = omega arith
below (c ∷ cs) (suc f) kind h = let k = below cs f kind h in omega (arith, k)

pub fact_is : (fields : List ConfigField) (known : KnownFields) (f : ℕ) (kind : Kind) → field_kind fields f ≡ Some kind → fact_of (told fields known) f ≡ fact_for (known f)
fact_is fields known f kind h = fact_there (length fields) zero f known (omega arith) (omega (arith, below fields f kind h))

pub kind_is : (fields : List ConfigField) (f : ℕ) (kind : Kind) → field_kind fields f ≡ Some kind → kinds_of fields f ≡ kind
kind_is [] f kind h = absurd (no_kind h)
  where
    no_kind : {k : Kind} → None ≡ Some k → ⊥
    no_kind e = cc
kind_is (c ∷ cs) zero kind h = same h
  where
    same : {a b : Kind} → Some a ≡ Some b → a ≡ b
    same e = cc
kind_is (c ∷ cs) (suc f) kind h = kind_is cs f kind h

-- a number field has a kind that is not bool
pub number_field : (fields : ℕ → Option Kind) (o : Option Kind) → units.is_number_field fields o ≡ true → (kind : Kind) × (o ≡ Some kind) × (is_truth kind ≡ false)
number_field fields None h = absurd (true≢false (sym h))
number_field fields (Some Size) h = (Size, refl, refl)
number_field fields (Some Index) h = (Index, refl, refl)
number_field fields (Some Truth) h = absurd (true≢false (sym h))
number_field fields (Some Stride) h = (Stride, refl, refl)

pub flag_field : (fields : ℕ → Option Kind) (o : Option Kind) → units.is_flag_field fields o ≡ true → o ≡ Some Truth
flag_field fields None h = absurd (true≢false (sym h))
flag_field fields (Some Size) h = absurd (true≢false (sym h))
flag_field fields (Some Index) h = absurd (true≢false (sym h))
flag_field fields (Some Truth) h = refl
flag_field fields (Some Stride) h = absurd (true≢false (sym h))

-- what a field's kind is, told in two ways
pub kinds_are_kind : (fields : List ConfigField) (f : ℕ) → kinds_of fields f ≡ facts.kind_of fields f
kinds_are_kind [] f = refl
kinds_are_kind (c ∷ cs) zero = refl
kinds_are_kind (c ∷ cs) (suc f) = kinds_are_kind cs f

-- a number of that kind: 1 where the field is of another
abbrev pub fitted : Kind → Kind → ℤ → ℤ
fitted own kind n = cond (same_kind own kind) n (pos 1)

pub fitted_own : (kind : Kind) (n : ℤ) → fitted kind kind n ≡ n
fitted_own Size n = refl
fitted_own Index n = refl
fitted_own Truth n = refl
fitted_own Stride n = refl

pub fitted_fits : (own kind : Kind) (n : ℤ) → IsOfKind own n → IsOfKind kind (fitted own kind n)
fitted_fits Size Size n h = h
fitted_fits Truth Truth n h = h
fitted_fits own Index n h = tt
fitted_fits own Stride n h = tt
fitted_fits Index Size n h = let e : pos 1 ≤ℤ pos 1 = omega (arith, ints) in e
fitted_fits Truth Size n h = let e : pos 1 ≤ℤ pos 1 = omega (arith, ints) in e
fitted_fits Stride Size n h = let e : pos 1 ≤ℤ pos 1 = omega (arith, ints) in e
fitted_fits Size Truth n h = (let e : pos 0 ≤ℤ pos 1 = omega (arith, ints) in e, let e : pos 1 ≤ℤ pos 1 = omega (arith, ints) in e)
fitted_fits Index Truth n h = (let e : pos 0 ≤ℤ pos 1 = omega (arith, ints) in e, let e : pos 1 ≤ℤ pos 1 = omega (arith, ints) in e)
fitted_fits Stride Truth n h = (let e : pos 0 ≤ℤ pos 1 = omega (arith, ints) in e, let e : pos 1 ≤ℤ pos 1 = omega (arith, ints) in e)

pub truth_is_set : (t : Bool) → is_set (truth t) ≡ t
truth_is_set true = refl
truth_is_set false = refl

pub at_least : (kind : Kind) (n : ℤ) → kind ≡ Truth → IsOfKind kind n → pos 0 ≤ℤ n
at_least kind n e h = (subst (λ k. IsOfKind k n) e h).0
