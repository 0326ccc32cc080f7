-- What no verdict leaves open has no integer point: the systems that are owed are made of constraints.
use Rattle.std.proofs.Common.{◌≡◌, ℕ, ℤ, pos, zero, suc, List, [], ◌∷◌, ◌++◌, map, length, Option, Some, None, All}
use Rattle.std.proofs.Common.{if◌then◌else◌, refl, sym, ap, ◌∙◌, subst}
use Rattle.std.specs.Prelude.{flat_map}
use Rattle.std.specs.List.{AllByRecursion, position_or_len}
use Rattle.std.proofs.lemmas.List.{length-map}
use Rattle.std.proofs.lemmas.List.Elements.{All-from_recursion}
use Rattle.exo_tree.specs.Tree.{Procedure, Program}
use Rattle.exo_tree.specs.Places.{Path}
use Rattle.exo_meaning.specs.Orders.{Each}
use Rattle.affine_forms.specs.Affine.{Affine, HasNoIntegerPoint}
use Rattle.affine_forms.specs.Atoms.{Atom, Terms, none, term, same_atom}
use Rattle.affine_forms.specs.Formulas.{Constraint, AtLeastZero, IsZero, Formula, cases_of_all}
use Rattle.affine_systems.specs.Systems.{added_at, numbered_onto, numbered, equations_of, rows_of}
use Rattle.affine_systems.specs.Systems.{made_of, nothing, system, failing_cases}
use Rattle.affine_systems.specs.Outcomes.{Owed, owed}
use Rattle.affine_prover.specs.declared.answer.Verdict.{Verdict}
use Rattle.affine_prover.specs.declared.answer.Verdict.TheVariants as verdict
use Rattle.affine_prover.specs.Elimination.{elimination}
use Rattle.affine_prover.specs.Laws.{ShownSystemsHaveNoPoint}
use Rattle.ob_check.specs.Answers.{is_refused}
use Rattle.check_claims.specs.Claim.{Claim, Is, Apart, Placed}
use Rattle.check_claims.specs.Claims.{claims_of}
use Rattle.check_facts.specs.Contexts.{context_of}
use Rattle.exo_effects.specs.Accesses.{Access}
use Rattle.exo_effects.specs.Orders.{Order, no_order}
use Rattle.exo_effects.specs.Conflicts.{against, meeting, clashing, past_these}
use Rattle.exo_effects.specs.Conflicts as conflicts
use Rattle.bounds_check.specs.Obligations.{formula_at, argument_accesses, claim_owed, owed_for, owed_for_all, obligations_of}
use Rattle.unit_check.specs.Checked.{Cause, NotShown, first_open}

-- ---- systems that are made have a coefficient for each variable

length_added : (k : ℕ) (z : ℤ) (cs : List ℤ) → length (added_at k z cs) ≡ length cs
length_added k z [] = refl
length_added zero z (c ∷ cs) = refl
length_added (suc k) z (c ∷ cs) = ap suc (length_added k z cs)

length_onto : (atoms : List Atom) (cs : List ℤ) (ts : Terms) → length (numbered_onto atoms cs ts) ≡ length cs
length_onto atoms cs none = refl
length_onto atoms cs (term c a ts) = length_onto atoms (added_at (position_or_len (same_atom a) atoms) c cs) ts ∙ length_added (position_or_len (same_atom a) atoms) c cs

length_numbered : (atoms : List Atom) (ts : Terms) → length (numbered atoms ts) ≡ length atoms
length_numbered atoms ts = length_onto atoms (map (λ a. pos 0) atoms) ts ∙ length-map atoms (λ a. pos 0)

abbrev IsWide : ℕ → Affine → Type 0
IsWide n r = length r.coefficients ≡ n

wide_equations : (atoms : List Atom) (cs : List Constraint) → AllByRecursion (IsWide (length atoms)) (equations_of atoms cs)
wide_equations atoms [] = tt
wide_equations atoms (AtLeastZero l ∷ cs) = wide_equations atoms cs
wide_equations atoms (IsZero l ∷ cs) = (length_numbered atoms l.terms, wide_equations atoms cs)

wide_rows : (atoms : List Atom) (cs : List Constraint) → AllByRecursion (IsWide (length atoms)) (rows_of atoms cs)
wide_rows atoms [] = tt
wide_rows atoms (AtLeastZero l ∷ cs) = (length_numbered atoms l.terms, wide_rows atoms cs)
wide_rows atoms (IsZero l ∷ cs) = wide_rows atoms cs

-- ---- lists of obligations

-- no system of it has an integer point
abbrev pub IsClosed : Owed → Type 0
IsClosed o = HasNoIntegerPoint o.system

-- its system is made of constraints
abbrev pub IsMade : Owed → Type 0
IsMade o = (cs : List Constraint) × (o.system ≡ system cs)

by_verdict : (v : Verdict) (cause : Cause) (rest : Option Cause) → (if is_refused v then Some cause else rest) ≡ None → (v ≡ verdict.Shown) × (rest ≡ None)
by_verdict verdict.Shown cause rest h = (refl, h)
by_verdict verdict.Open cause rest h = cc
by_verdict verdict.TooMany cause rest h = cc
by_verdict verdict.TooWide cause rest h = cc

pub first_shown : (o : Owed) (os : List Owed) → first_open (o ∷ os) ≡ None → (elimination o.system ≡ verdict.Shown) × (first_open os ≡ None)
first_shown o os h = by_verdict (elimination o.system) (NotShown o.what o.place (elimination o.system)) (first_open os) h

module _ (law : ShownSystemsHaveNoPoint) where
  no_point : (cs : List Constraint) → elimination (system cs) ≡ verdict.Shown → HasNoIntegerPoint (system cs)
  no_point cs h =
      let made = made_of nothing cs in
      let wide = IsWide (length made.atoms) in
      law (system cs) (All-from_recursion wide (equations_of made.atoms made.constraints) (wide_equations made.atoms made.constraints)) (All-from_recursion wide (rows_of made.atoms made.constraints) (wide_rows made.atoms made.constraints)) h

  closed : (o : Owed) → IsMade o → elimination o.system ≡ verdict.Shown → IsClosed o
  closed o is h = subst HasNoIntegerPoint (sym is.1) (no_point is.0 (ap elimination (sym is.1) ∙ h))

  all_closed : (os : List Owed) → Each IsMade os → first_open os ≡ None → AllByRecursion IsClosed os
  all_closed [] is h = tt
  all_closed (o ∷ os) is h =
      let p = first_shown o os h in
      (closed o is.0 p.0, all_closed os is.1 p.1)

  pub none_open_is_closed : (os : List Owed) → Each IsMade os → first_open os ≡ None → All IsClosed os
  none_open_is_closed os is h = All-from_recursion IsClosed os (all_closed os is h)

-- ---- what is made

pub each_both : {A : Type 0} (P : A → Type 0) (xs ys : List A) → Each P xs → Each P ys → Each P (xs ++ ys)
each_both P [] ys h k = k
each_both P (x ∷ xs) ys h k = (h.0, each_both P xs ys h.1 k)

pub made_cases : (what : List ℕ) (place : Path) (css : List (List Constraint)) → Each IsMade (map (owed what place) (map system css))
made_cases what place [] = tt
made_cases what place (cs ∷ css) = ((cs, refl), made_cases what place css)

module _ (ctx : List Formula) (order : Order) (place : Path) (base : ℕ) where
  pub made_pair : (q : Access × Access) → Each IsMade (conflicts.owed_for ctx order place base q)
  made_pair q = made_cases (against q) place (cases_of_all (meeting ctx order base q.0 q.1))

  made_pairs : (qs : List (Access × Access)) → Each IsMade (flat_map (conflicts.owed_for ctx order place base) qs)
  made_pairs [] = tt
  made_pairs (q ∷ qs) = each_both IsMade (conflicts.owed_for ctx order place base q) (flat_map (conflicts.owed_for ctx order place base) qs) (made_pair q) (made_pairs qs)

module _ (u : Program) (p : Procedure) where
  made_claim : (place : Path) (c : Claim) → Each IsMade (claim_owed u p place c)
  made_claim place (Is c text) = made_cases text place (failing_cases (context_of u p place) (formula_at u p place c))
  made_claim place (Apart j k) =
      let xs = argument_accesses u p place j in
      let ys = argument_accesses u p place k in
      made_pairs (context_of u p place) no_order place (past_these (context_of u p place) no_order xs ys) (clashing xs ys)

  made_claims : (cs : List Placed) → Each IsMade (owed_for_all u p cs)
  made_claims [] = tt
  made_claims (c ∷ cs) = each_both IsMade (owed_for u p c) (owed_for_all u p cs) (made_claim c.place c.claim) (made_claims cs)

  pub obligations_are_made : Each IsMade (obligations_of u p)
  obligations_are_made = made_claims (claims_of u p)
