-- Scopes whose ids are below the next one: a name that is not taken is new, and names are found by their ids.
use Rattle.std.proofs.Common.{◌≡◌, ℕ, ◌≤◌, ◌<◌, ◌==◌, Bool, true, false, not, ◌||◌, List, [], ◌∷◌, Option, Some, None, is_some, refl, sym, ap, ◌∙◌, true≢false, arith, if◌then◌else◌}
use Rattle.std.specs.List.{list_any}
use Rattle.std.specs.Str.{bytes_eq}
use Rattle.std.proofs.lemmas.Bool.Decides.{nat_tests}
use Rattle.std.proofs.lemmas.Slice.Eq.{bytes_eq-Decides}
use Rattle.exo_meaning.specs.Units.{Named, Scope, Sort, ControlName, BufferName, sort_in, is_text, is_new, has_rank}
use Rattle.rules_names.specs.Names.{named_in, sort_of, id_of, id_in}
use Rattle.rules_names.specs.ExpressionRules.{name_faults, rank_faults, is_buffer}
use Rattle.rules_names.specs.Laws.{KeepsIds}
use Rattle.exo_types.specs.TypeRules.{binder, binder_faults}
use Rattle.exo_types_laws.proofs.Unbroken.{nor, negated, not_true, turned, fault_none, unless_none}

-- ---- texts

pub text_turned : (x y : List ℕ) → is_text x y ≡ is_text y x
text_turned x y = by (bytes_eq x y) (bytes_eq y x) refl refl
  where
    by : (t u : Bool) → bytes_eq x y ≡ t → bytes_eq y x ≡ u → bytes_eq x y ≡ bytes_eq y x
    by true u p q = p ∙ sym ((bytes_eq-Decides y x).1 (sym ((bytes_eq-Decides x y).0 p)))
    by false true p q = (bytes_eq-Decides x y).1 (sym ((bytes_eq-Decides y x).0 q)) ∙ sym q
    by false false p q = p ∙ sym q

-- ---- ids below the next one

abbrev pub Below : ℕ → Scope → Type 0
Below id [] = Unit {0}
Below id (n ∷ scope) = (n.binder.id < id) × Below id scope

pub below_up : (id more : ℕ) (scope : Scope) → id ≤ more → Below id scope → Below more scope
below_up id more [] h b = tt
below_up id more (n ∷ scope) h b = (omega (arith, h, b.0), below_up id more scope h b.1)

apart : (id other : ℕ) → other < id → (id == other) ≡ false
apart id other h = grind (arith, nat_tests)

other_name : (n : Named) (scope : Scope) (x : List ℕ) → (t : Bool) → is_text n.binder.name x ≡ t → (if t then Some n else named_in scope x) ≡ None → (is_text n.binder.name x ≡ false) × (named_in scope x ≡ None)
other_name n scope x true p h = cc
other_name n scope x false p h = (p, h)

absent : (id : ℕ) (scope : Scope) (x : List ℕ) → Below id scope → named_in scope x ≡ None → list_any (λ n. (id == n.binder.id) || is_text x n.binder.name) scope ≡ false
absent id [] x b h = refl
absent id (n ∷ scope) x b h =
    let o = other_name n scope x (is_text n.binder.name x) refl h in
    nor (nor (apart id n.binder.id b.0) (text_turned x n.binder.name ∙ o.0)) (absent id scope x b.1 o.1)

pub fresh : (id n : ℕ) (scope : Scope) (x : List ℕ) → Below id scope → binder_faults scope n x ≡ [] → is_new scope (binder id x) ≡ true
fresh id n scope x b h = negated (absent id scope x b (none (named_in scope x) (not_true (is_some (named_in scope x)) (unless_none (not (is_some (named_in scope x))) _ n h))))
  where
    none : (o : Option Named) → is_some o ≡ false → o ≡ None
    none None p = refl
    none (Some m) p = absurd (true≢false p)

-- ---- names and their ids

-- names are found by their ids, and the next binder may get this id
pub record Entered (id : ℕ) (scope : Scope) : Type 0 where
  pub keeps : KeepsIds scope
  pub below : Below id scope

pub later : (id more : ℕ) (scope : Scope) → id ≤ more → Entered id scope → Entered more scope
later id more scope h e = record { keeps = e.keeps; below = below_up id more scope h e.below }

pub nothing : (id : ℕ) → Entered id []
nothing id = record { keeps = record { found = λ x n p. cc }; below = tt }

pub named_kept : (scope : Scope) → KeepsIds scope → (x : List ℕ) (test : Option Sort → Bool) (n : ℕ) → name_faults test (sort_of (named_in scope x)) n ≡ [] → test (sort_in scope (id_in scope x)) ≡ true
named_kept scope keeps x test n h = by (named_in scope x) refl h
  where
    by : (o : Option Named) → named_in scope x ≡ o → name_faults test (sort_of o) n ≡ [] → test (sort_in scope (id_of o)) ≡ true
    by None p h = absurd (fault_none _ n h)
    by (Some m) p h = ap test (keeps.found x m p) ∙ unless_none (test (Some m.sort)) _ n h

same_sort : (scope : Scope) → KeepsIds scope → (x : List ℕ) (test : Option Sort → Bool) (n : ℕ) → name_faults test (sort_of (named_in scope x)) n ≡ [] → sort_of (named_in scope x) ≡ sort_in scope (id_in scope x)
same_sort scope keeps x test n h = by (named_in scope x) refl h
  where
    by : (o : Option Named) → named_in scope x ≡ o → name_faults test (sort_of o) n ≡ [] → sort_of o ≡ sort_in scope (id_of o)
    by None p h = absurd (fault_none _ n h)
    by (Some m) p h = sym (keeps.found x m p)

rank_kept : (sort : Option Sort) (r n : ℕ) → is_buffer sort ≡ true → rank_faults sort r n ≡ [] → has_rank r sort ≡ true
rank_kept None r n b h = cc
rank_kept (Some (ControlName kind)) r n b h = cc
rank_kept (Some (BufferName cell rank dense)) r n b h = turned rank r (unless_none (rank == r) _ n h)

-- a name that is a buffer of that rank
pub buffer_kept : (scope : Scope) → KeepsIds scope → (x : List ℕ) (test : Option Sort → Bool) (r n : ℕ) → ((s : Option Sort) → test s ≡ true → is_buffer s ≡ true) → name_faults test (sort_of (named_in scope x)) n ≡ [] → rank_faults (sort_of (named_in scope x)) r n ≡ [] → has_rank r (sort_in scope (id_in scope x)) ≡ true
buffer_kept scope keeps x test r n only h k =
    rank_kept (sort_in scope (id_in scope x)) r n (only _ (named_kept scope keeps x test n h)) (ap (λ s. rank_faults s r n) (sym (same_sort scope keeps x test n h)) ∙ k)
