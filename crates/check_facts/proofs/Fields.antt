-- What is known of the fields below a number, one by one.
use Rattle.std.proofs.Common.{◌≡◌, ℕ, zero, suc, ◌+◌, ◌-◌, ◌<◌, ◌≤◌, ◌==◌, Bool, true, false, cond, List, [], arith, refl, sym, ap, subst, ◌∙◌, eqb-true, Result, Ok, Err}
use Rattle.std.specs.Prelude.{OnOk}
use Rattle.std.proofs.lemmas.Bool.Decides.{nat_tests}
use Rattle.exo_meaning.specs.Scene.{updated}
use Rattle.meaning_laws.specs.KnownFields.{FieldValue, KnownFields}
use Rattle.affine_places.specs.Facts.{FieldFact}
use Rattle.check_facts.specs.Contexts.{with_value, facts_from}
use Rattle.check_facts.specs.Walks.{SameBelow}

less : (g k : ℕ) → g < k + 1 → (g == k) ≡ false → g < k
less g k h e = grind (arith, nat_tests)

-- below k it is what is wanted, and from k on what it was
pub record UpTo (k : ℕ) (wanted had now : KnownFields) : Type 0 where
  pub below : (g : ℕ) → g < k → now g ≡ wanted g
  pub above : (g : ℕ) → k ≤ g → now g ≡ had g

pub none_yet : (wanted had : KnownFields) → UpTo 0 wanted had had
none_yet wanted had = record { below = λ g h. absurd (omega arith); above = λ g h. refl }

pub all_done : (count k : ℕ) (wanted had now : KnownFields) → count ≤ k → UpTo k wanted had now → SameBelow count now wanted
all_done count k wanted had now h u = λ g l. u.below g (omega arith)

pub changed_on : (k : ℕ) (wanted had now new : KnownFields) (v : FieldValue) → new ≡ updated now k v → v ≡ wanted k → UpTo k wanted had now → UpTo (k + 1) wanted had new
changed_on k wanted had now new v e w u = record { below = λ g h. below g h (g == k) refl; above = λ g h. above g h (g == k) refl }
  where
    pick : (g : ℕ) (t : Bool) → (g == k) ≡ t → new g ≡ cond t v (now g)
    pick g t q = ap (λ f. f g) e ∙ ap (λ t. cond t v (now g)) q

    below : (g : ℕ) → g < k + 1 → (t : Bool) → (g == k) ≡ t → new g ≡ wanted g
    below g h true q = pick g true q ∙ w ∙ ap wanted (sym (eqb-true g k q))
    below g h false q = pick g false q ∙ u.below g (less g k h q)

    above : (g : ℕ) → k + 1 ≤ g → (t : Bool) → (g == k) ≡ t → new g ≡ had g
    above g h true q = let same : g ≡ k = eqb-true g k q in absurd (omega arith)
    above g h false q = pick g false q ∙ u.above g (omega arith)

pub left_on : (k : ℕ) (wanted had now : KnownFields) → had k ≡ wanted k → UpTo k wanted had now → UpTo (k + 1) wanted had now
left_on k wanted had now e u = record { below = λ g h. below g h (g == k) refl; above = λ g h. u.above g (omega arith) }
  where
    below : (g : ℕ) → g < k + 1 → (t : Bool) → (g == k) ≡ t → now g ≡ wanted g
    below g h true q = let same : g ≡ k = eqb-true g k q in u.above g (omega arith) ∙ ap had same ∙ e ∙ ap wanted (sym same)
    below g h false q = u.below g (less g k h q)

-- one field before the others
pub facts_on : (f count : ℕ) (known : KnownFields) (old : List FieldFact) → 0 < f → f ≤ count → old ≡ facts_from f (count - f) known → with_value (f - 1) (known (f - 1)) old ≡ facts_from (f - 1) (count - (f - 1)) known
facts_on zero count known old l h e = absurd (omega arith)
facts_on (suc g) count known old l h e =
    let one : suc g - 1 ≡ g = omega arith in
    let n : count - g ≡ suc (count - suc g) = omega arith in
    subst (λ m. with_value m (known m) old ≡ facts_from m (count - m) known) (sym one) (ap (with_value g (known g)) e ∙ ap (λ m. facts_from g m known) (sym n))

pub facts_start : (count : ℕ) (known : KnownFields) → [] ≡ facts_from count (count - count) known
facts_start count known = let n : count - count ≡ 0 = omega arith in sym (ap (λ m. facts_from count m known) n)

pub facts_end : (f count : ℕ) (known : KnownFields) (old : List FieldFact) → f ≤ 0 → old ≡ facts_from f (count - f) known → old ≡ facts_from 0 count known
facts_end f count known old h e = let z : f ≡ 0 = omega arith in e ∙ ap (λ m. facts_from m (count - m) known) z ∙ (let n : count - 0 ≡ count = omega arith in ap (λ m. facts_from 0 m known) n)

-- facts of fields that are the same
pub facts_same : (f n count : ℕ) (known other : KnownFields) → f + n ≤ count → SameBelow count known other → facts_from f n known ≡ facts_from f n other
facts_same f zero count known other h s = refl
facts_same f (suc n) count known other h s = ap (λ v. with_value f v (facts_from (suc f) n known)) (s f (omega arith)) ∙ ap (with_value f (other f)) (facts_same (suc f) n count known other (omega arith) s)

-- the same of each field
pub all_same : {A E : Type 0} (r : Result A E) (count : ℕ) (known other : KnownFields) → OnOk r (known ≡ other) → OnOk r (SameBelow count known other)
all_same (Ok x) count known other h = λ f lt. ap (λ k. k f) h
all_same (Err e) count known other h = tt
