-- Binders of a procedure, and names that are new.
use Rattle.std.proofs.Common.{◌≡◌, ◌==◌, ◌++◌, ℕ, Bool, true, false, not, ◌||◌, cond, List, [], ◌∷◌, Some, None, refl, sym, ap, ◌∙◌, subst, true≢false, ◌⊎◌, ⊎_elim, inl, inr, eqb-true}
use Rattle.std.specs.Prelude.{⊤}
use Rattle.std.specs.List.{list_any}
use Rattle.exo_tree.specs.Tree.{Binder, Param}
use Rattle.exo_meaning.specs.Units.{Named, Scope, Sort, sort_in, is_text, is_new, with_name, scope_of, param_sort}
use Rattle.c_tree.specs.Names.Words.{Name, same_name}
use Rattle.c_tree.specs.Names.Binders.{param_binders}
use Rattle.c_lowering.specs.Made.Lowered.{NoForm, Forms}
use Rattle.c_unit_laws.specs.Follows.Simulation.{Ground}
use Rattle.c_unit_laws.specs.Follows.Good.{IsAlone, IsFresh, AreNamedApart}
use Rattle.c_unit_laws.proofs.Spelling.{same_self, differ}
use Rattle.c_unit_laws.proofs.Free.{or_false}
use Rattle.c_unit_laws.proofs.Forms.{Stands, Fits}

-- ---- binders in a list

abbrev pub IsIn : Binder → List Binder → Type 0
IsIn b [] = ⊥
IsIn b (c ∷ cs) = (b ≡ c) ⊎ IsIn b cs

abbrev pub AreIn : List Binder → List Binder → Type 0
AreIn [] all = ⊤
AreIn (b ∷ bs) all = IsIn b all × AreIn bs all

pub front_in : (bs cs all : List Binder) → AreIn (bs ++ cs) all → AreIn bs all
front_in [] cs all h = tt
front_in (b ∷ bs) cs all h = (h.0, front_in bs cs all h.1)

pub rear_in : (bs cs all : List Binder) → AreIn (bs ++ cs) all → AreIn cs all
rear_in [] cs all h = h
rear_in (b ∷ bs) cs all h = rear_in bs cs all h.1

more_in : (bs all : List Binder) (y : Binder) → AreIn bs all → AreIn bs (y ∷ all)
more_in [] all y h = tt
more_in (b ∷ bs) all y h = (inr h.0, more_in bs all y h.1)

pub all_in : (bs : List Binder) → AreIn bs bs
all_in [] = tt
all_in (b ∷ bs) = (inl refl, more_in bs bs b (all_in bs))

abbrev pub ScopeIn : Scope → List Binder → Type 0
ScopeIn [] all = ⊤
ScopeIn (n ∷ scope) all = IsIn n.binder all × ScopeIn scope all

pub params_in : (ps : List Param) (scope : Scope) (all : List Binder) → ScopeIn scope all → AreIn (param_binders ps) all → ScopeIn (scope_of scope ps) all
params_in [] scope all h k = h
params_in (p ∷ ps) scope all h k = params_in ps (with_name scope p.binder (param_sort p.kind)) all (k.0, h) k.1

-- what a procedure's binders and fields are called
pub record AreNamed (g : Ground) (all : List Binder) : Type 0 where
  pub apart : (a b : Binder) → IsIn a all → IsIn b all → is_text b.name a.name ≡ false → same_name (g.naming.binder a.id) (g.naming.binder b.id) ≡ false
  pub no_field : (b : Binder) → IsIn b all → (f : ℕ) → g.declared f ≡ true → same_name (g.naming.field f) (g.naming.binder b.id) ≡ false
  pub no_function : (b : Binder) → IsIn b all → (f : Name) → g.function f ≡ true → same_name f (g.naming.binder b.id) ≡ false
  pub alone : (f : ℕ) → g.declared f ≡ true → IsAlone g.naming g.declared f

pub not_true : (b : Bool) → not b ≡ true → b ≡ false
not_true true h = absurd (true≢false (sym h))
not_true false h = refl

pub not_there : (scope : Scope) (i : Binder) → list_any (λ n. (i.id == n.binder.id) || is_text i.name n.binder.name) scope ≡ false → sort_in scope i.id ≡ None
not_there [] i e = refl
not_there (n ∷ scope) i e =
    let parts = or_false _ _ e in
    ap (λ t. cond t (Some n.sort) (sort_in scope i.id)) (or_false _ _ parts.0).0 ∙ not_there scope i parts.1

module _ (g : Ground) (all : List Binder) (names : AreNamed g all) where
  -- ---- a new name

  -- it has another C name than what is in scope
  abbrev IsOther : Scope → Binder → ℕ → Type 0
  IsOther scope i x = (sort_in scope x ≡ None) ⊎ (same_name (g.naming.binder x) (g.naming.binder i.id) ≡ false)

  one_more : (scope : Scope) (n : Named) (i : Binder) → IsIn n.binder all → IsIn i all → is_text i.name n.binder.name ≡ false → (x : ℕ) → IsOther scope i x → IsOther (n ∷ scope) i x
  one_more scope n i h k e x rest = go (x == n.binder.id) refl
    where
      go : (t : Bool) → (x == n.binder.id) ≡ t → (cond t (Some n.sort) (sort_in scope x) ≡ None) ⊎ (same_name (g.naming.binder x) (g.naming.binder i.id) ≡ false)
      go true d = inr (subst (λ y. same_name (g.naming.binder y) (g.naming.binder i.id) ≡ false) (sym (eqb-true x n.binder.id d)) (names.apart n.binder i h k e))
      go false d = rest

  other_names : (scope : Scope) (i : Binder) → ScopeIn scope all → IsIn i all → list_any (λ n. (i.id == n.binder.id) || is_text i.name n.binder.name) scope ≡ false → (x : ℕ) → IsOther scope i x
  other_names [] i h k e x = inl refl
  other_names (n ∷ scope) i h k e x = let p = or_false _ _ e in one_more scope n i h.0 k (or_false _ _ p.0).1 x (other_names scope i h.1 k p.1 x)

  pub fresh : (lanes : ℕ → ℕ) (scope : Scope) (forms : Forms) (i : Binder) → Fits lanes scope forms → ScopeIn scope all → IsIn i all → is_new scope i ≡ true → IsFresh g forms i.id
  fresh lanes scope forms i stand h k e =
      let new = not_true _ e in
      record {
        not_there = subst (λ o. Stands (lanes i.id) o (forms i.id)) (not_there scope i new) (stand i.id);
        other_name = λ x. ⊎_elim (λ d. inl (subst (λ o. Stands (lanes x) o (forms x)) d (stand x))) (λ d. inr d) (other_names scope i h k new x);
        no_field = names.no_field i k;
        no_function = names.no_function i k;
      }

  -- ---- all names in scope

  -- they differ from each other
  abbrev pub AreApart : Scope → Type 0
  AreApart scope = (x y : ℕ) → (sort_in scope x ≡ None) ⊎ ((sort_in scope y ≡ None) ⊎ ((x ≡ y) ⊎ (same_name (g.naming.binder x) (g.naming.binder y) ≡ false)))

  pub apart_first : AreApart []
  apart_first x y = inl refl

  turned : (a b : Name) → same_name a b ≡ false → same_name b a ≡ false
  turned a b h = differ b a (λ e. true≢false (sym (same_self a) ∙ (ap (same_name a) (sym e) ∙ h)))

  pub apart_wider : (scope : Scope) (i : Binder) (sort : Sort) → ScopeIn scope all → IsIn i all → is_new scope i ≡ true → AreApart scope → AreApart (with_name scope i sort)
  apart_wider scope i sort h k e old x y = go (x == i.id) (y == i.id) refl refl
    where
      others : (z : ℕ) → IsOther scope i z
      others z = other_names scope i h k (not_true _ e) z

      go : (s t : Bool) → (x == i.id) ≡ s → (y == i.id) ≡ t → (cond s (Some sort) (sort_in scope x) ≡ None) ⊎ ((cond t (Some sort) (sort_in scope y) ≡ None) ⊎ ((x ≡ y) ⊎ (same_name (g.naming.binder x) (g.naming.binder y) ≡ false)))
      go true true c d = inr (inr (inl (eqb-true x i.id c ∙ sym (eqb-true y i.id d))))
      go true false c d = ⊎_elim (λ n. inr (inl n)) (λ n. inr (inr (inr (subst (λ z. same_name (g.naming.binder z) (g.naming.binder y) ≡ false) (sym (eqb-true x i.id c)) (turned (g.naming.binder y) (g.naming.binder i.id) n))))) (others y)
      go false true c d = ⊎_elim (λ n. inl n) (λ n. inr (inr (inr (subst (λ z. same_name (g.naming.binder x) (g.naming.binder z) ≡ false) (sym (eqb-true y i.id d)) n)))) (others x)
      go false false c d = old x y

  -- what holds of the C name of each binder in scope
  pub of_all : (P : Name → Type 0) → ((b : Binder) → IsIn b all → P (g.naming.binder b.id)) → (scope : Scope) → ScopeIn scope all → (x : ℕ) → (sort_in scope x ≡ None) ⊎ P (g.naming.binder x)
  of_all P each [] h x = inl refl
  of_all P each (n ∷ scope) h x = go (of_all P each scope h.1 x) (x == n.binder.id) refl
    where
      go : (sort_in scope x ≡ None) ⊎ P (g.naming.binder x) → (t : Bool) → (x == n.binder.id) ≡ t → (cond t (Some n.sort) (sort_in scope x) ≡ None) ⊎ P (g.naming.binder x)
      go rest true d = inr (subst (λ y. P (g.naming.binder y)) (sym (eqb-true x n.binder.id d)) (each n.binder h.0))
      go rest false d = rest

  pub named_apart : (lanes : ℕ → ℕ) (scope : Scope) (forms : Forms) → Fits lanes scope forms → ScopeIn scope all → AreApart scope → AreNamedApart g forms
  named_apart lanes scope forms stand h apart = record {
    others = λ x y. ⊎_elim (λ n. inl (none x n)) (λ r. inr (⊎_elim (λ n. inl (none y n)) (λ q. inr q) r)) (apart x y);
    no_field = λ x f d. ⊎_elim (λ n. inl (none x n)) (λ q. inr q) (of_all (λ z. same_name (g.naming.field f) z ≡ false) (λ b i. names.no_field b i f d) scope h x);
    no_function = λ x f d. ⊎_elim (λ n. inl (none x n)) (λ q. inr q) (of_all (λ z. same_name f z ≡ false) (λ b i. names.no_function b i f d) scope h x);
  }
    where
      none : (x : ℕ) → sort_in scope x ≡ None → forms x ≡ NoForm
      none x n = subst (λ o. Stands (lanes x) o (forms x)) n (stand x)
