-- Broken rules: which decides, and what it means that none is broken.
use Rattle.std.proofs.Common.{◌≡◌, ℕ, Bool, true, false, not, List, [], ◌∷◌, ◌++◌, Option, Some, None, Result, Ok, Err, MatchResult, if◌then◌else◌, refl, ap, sym, subst, ◌∙◌}
use Rattle.std.specs.Result.{IsErrAnd}
use Rattle.exo_meaning.specs.Units.{Named, Scope}
use Rattle.rules_names.specs.declared.fault.Fault.{Fault}
use Rattle.rules_names.specs.declared.fault.Charge.{Charge}
use Rattle.rules_names.specs.Faults.{charged, least, earlier, is_before, or_else, unless}
use Rattle.rules_names.specs.declared.error.TypeKind.TheVariants.{Redefined}
use Rattle.rules_names.specs.Names.{named_in}
use Rattle.exo_types.specs.Refusals.{Refuses}
use Rattle.exo_types.specs.TypeRules.{binder_faults}
use Rattle.exo_types.specs.declared.refusal.Refusal.{Refusal}
use Rattle.exo_types.specs.declared.refusal.Refusal.TheVariants.{Memory, Broken}

-- the first of what is charged
pub first_of : (c : Charge) (fs : List Fault) → c ≡ charged fs → c.first ≡ least fs
unfolding charged
first_of c fs h = ap (λ x. x.first) h

pub refuses_same : (e : Refusal) (a b : Option Fault) → a ≡ b → Refuses e a → Refuses e b
refuses_same Memory a b h r = tt
refuses_same (Broken f) a b h r = sym h ∙ r

-- what the first part breaks decides, and where it breaks nothing the second part does
pub refuses_first : (e : Refusal) (a b : Option Fault) → Refuses e a → Refuses e (or_else a b)
refuses_first Memory a b r = tt
refuses_first (Broken f) a b r = ap (λ o. or_else o b) r

pub refuses_second : (e : Refusal) (a b : Option Fault) → a ≡ None → Refuses e b → Refuses e (or_else a b)
refuses_second Memory a b h r = tt
refuses_second (Broken f) a b h r = ap (λ o. or_else o b) h ∙ r

pub none_of_both : (a b : Option Fault) → a ≡ None → b ≡ None → or_else a b ≡ None
none_of_both a b h k = ap (λ o. or_else o b) h ∙ k

-- nothing is broken where nothing is the first
chosen : (a b : Fault) (t : Bool) → (if t then Some b else Some a) ≡ None → ⊥
chosen a b true h = cc
chosen a b false h = cc

never_none : (f : Fault) (o : Option Fault) → earlier (Some f) o ≡ None → ⊥
never_none f None h = cc
never_none f (Some g) h = chosen f g (is_before g f) h

pub none_broken : (fs : List Fault) → least fs ≡ None → fs ≡ []
none_broken [] h = refl
none_broken (f ∷ fs) h = absurd (never_none f (least fs) h)

pub first_empty : (a b : List Fault) → a ++ b ≡ [] → a ≡ []
first_empty [] b h = refl
first_empty (f ∷ a) b h = cc

free : (o : Option Named) (n : ℕ) → unless (not (elim o [ None ↦ false | Some m ↦ true ])) Redefined n ≡ [] → o ≡ None
free None n h = refl
free (Some m) n h = cc

-- a name that breaks no rule is new
pub is_free : (scope : Scope) (n : ℕ) (x : List ℕ) (more : List Fault) → least (binder_faults scope n x ++ more) ≡ None → named_in scope x ≡ None
is_free scope n x more h = free (named_in scope x) n (first_empty (binder_faults scope n x) more (none_broken (binder_faults scope n x ++ more) h))

-- what a `?` returns
pub exit : {X : Type 0} (P : X → Type 0) (first : Option Fault) (result : Result X Refusal) (e : Refusal) → IsErrAnd result (λ r. r ≡ e) → Refuses e first → MatchResult result P (λ r. Refuses r first)
exit P first (Ok x) e is refuses = absurd is
exit P first (Err r) e is refuses = subst (λ y. Refuses y first) (sym is) refuses

-- what a charge says that was kept or refused
pub kept_none : (c : Charge) (fs : List Fault) → c ≡ charged fs → c.first ≡ None → least fs ≡ None
kept_none c fs h k = sym (first_of c fs h) ∙ k

pub kept_err : (e : Refusal) (c : Charge) (fs : List Fault) → c ≡ charged fs → Refuses e c.first → Refuses e (least fs)
kept_err e c fs h r = refuses_same e c.first (least fs) (first_of c fs h) r
