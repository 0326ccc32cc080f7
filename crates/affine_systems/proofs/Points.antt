-- Values of the atoms that keep the constraints are part of a point of the system.
use Rattle.std.proofs.Common.{◌≡◌, ℕ, zero, suc, ◌+◌, ℤ, pos, negsuc, ◌+ℤ◌, ◌-ℤ◌, ◌*ℤ◌, ◌≤ℤ◌, int_le, Bool, true, false, cond, not, ◌&&◌, ◌||◌, List, [], ◌∷◌, ◌++◌, map, length, arith, refl, sym, ap, ap₂, ◌∙◌, subst, true≢false, inl, inr}
use Rattle.std.proofs.lemmas.Int.{ints}
use Rattle.std.proofs.Math.IntN.{zero-*ℤ}
use Rattle.std.specs.List.{AllByRecursion, list_any, position_or_len}
use Rattle.std.specs.Int.{int_div_euclid, is_positive}
use Rattle.exo_tree.specs.Tree.{Kind, Size, Index, Truth, Stride}
use Rattle.exo_meaning.specs.Inputs.{IsOfKind}
use Rattle.affine_forms.specs.Affine.{Affine, Constraints, dot, IsIntegerPoint, HasNoIntegerPoint}
use Rattle.affine_forms.specs.Affine as affine_sums
use Rattle.affine_forms.specs.Atoms.{Atom, Variable, EntryField, UnknownField, OpaqueStride, Quotient, Terms, none, term, Linear, Valuation, atom_value, terms_value, value, same_atom, only, constantly, scaled, subtracted}
use Rattle.affine_forms.specs.Formulas.{Constraint, AtLeastZero, IsZero, moved, negation, is_kept, is_met, all_met, all_kept}
use Rattle.affine_systems.specs.Systems.{Made, stands_in, with_atom, with_atoms, sum_of, with_constraint, with_constraints, quotient_rows, kind_rows, own_rows, explained, all_explained, made_of, added_at, numbered_onto, numbered, affine, equations_of, rows_of, system_of, nothing, system, failing_cases, KeepsKinds}
use Rattle.affine_systems.specs.Laws.{SystemsLaw, ShownLaw, HasPointIn}
use Rattle.affine_forms.proofs.Integers.{add-times}
use Rattle.affine_forms.proofs.Values.{and_parts, int_eq_same, same_value, same_self, subtracted_value, scaled_value, quotient_floor}
use Rattle.affine_systems.proofs.Cases.{moved_value, negation_met, all_cases_met, all_met_append, some_kept}

pub at_least : (a b : ℤ) → int_le a b ≡ true → a ≤ℤ b
at_least a b h = omega (arith, ints)

pub int_le_holds : (a b : ℤ) → a ≤ℤ b → int_le a b ≡ true
int_le_holds a b h = grind (arith, ints)

-- ---- atoms that stand in a list

any_append : (p : Atom → Bool) (xs ys : List Atom) → list_any p (xs ++ ys) ≡ (list_any p xs || list_any p ys)
any_append p [] ys = refl
any_append p (x ∷ xs) ys = ap (λ t. p x || t) (any_append p xs ys) ∙ assoc (p x) (list_any p xs) (list_any p ys)
  where
    assoc : (a b c : Bool) → (a || (b || c)) ≡ ((a || b) || c)
    assoc true b c = refl
    assoc false b c = refl

-- each atom of the first list stands in the second
abbrev pub Grows : List Atom → List Atom → Type 0
Grows xs ys = (a : Atom) → stands_in xs a ≡ true → stands_in ys a ≡ true

or_right : (a b : Bool) → b ≡ true → (a || b) ≡ true
or_right true b h = refl
or_right false b h = h

with_atom_grows : (atoms : List Atom) (a : Atom) → Grows atoms (with_atom atoms a)
with_atom_grows atoms a b h = go (stands_in atoms a)
  where
    go : (t : Bool) → stands_in (cond t atoms (atoms ++ a ∷ [])) b ≡ true
    go true = h
    go false = any_append (same_atom b) atoms (a ∷ []) ∙ ap (λ t. t || list_any (same_atom b) (a ∷ [])) h

with_atom_has : (atoms : List Atom) (a : Atom) → stands_in (with_atom atoms a) a ≡ true
with_atom_has atoms a = go (stands_in atoms a) refl
  where
    go : (t : Bool) → stands_in atoms a ≡ t → stands_in (cond t atoms (atoms ++ a ∷ [])) a ≡ true
    go true e = e
    go false e = any_append (same_atom a) atoms (a ∷ []) ∙ or_right (list_any (same_atom a) atoms) (same_atom a a || false) (ap (λ t. t || false) (same_self a))

with_atoms_grows : (atoms : List Atom) (ts : Terms) → Grows atoms (with_atoms atoms ts)
with_atoms_grows atoms none b h = h
with_atoms_grows atoms (term c a ts) b h = with_atoms_grows (with_atom atoms a) ts b (with_atom_grows atoms a b h)

abbrev pub TermsThere : List Atom → Terms → Type 0
TermsThere atoms none = Unit {0}
TermsThere atoms (term c a ts) = (stands_in atoms a ≡ true) × TermsThere atoms ts

terms_there_grow : (xs ys : List Atom) (ts : Terms) → Grows xs ys → TermsThere xs ts → TermsThere ys ts
terms_there_grow xs ys none g h = tt
terms_there_grow xs ys (term c a ts) g h = (g a h.0, terms_there_grow xs ys ts g h.1)

with_atoms_have : (atoms : List Atom) (ts : Terms) → TermsThere (with_atoms atoms ts) ts
with_atoms_have atoms none = tt
with_atoms_have atoms (term c a ts) = (with_atoms_grows (with_atom atoms a) ts a (with_atom_has atoms a), with_atoms_have (with_atom atoms a) ts)

abbrev pub AllThere : List Atom → List Constraint → Type 0
AllThere atoms [] = Unit {0}
AllThere atoms (c ∷ cs) = TermsThere atoms (sum_of c).terms × AllThere atoms cs

all_there_grow : (xs ys : List Atom) (cs : List Constraint) → Grows xs ys → AllThere xs cs → AllThere ys cs
all_there_grow xs ys [] g h = tt
all_there_grow xs ys (c ∷ cs) g h = (terms_there_grow xs ys (sum_of c).terms g h.0, all_there_grow xs ys cs g h.1)

all_there_end : (atoms : List Atom) (cs : List Constraint) (c : Constraint) → AllThere atoms cs → TermsThere atoms (sum_of c).terms → AllThere atoms (cs ++ c ∷ [])
all_there_end atoms [] c h k = (k, tt)
all_there_end atoms (d ∷ cs) c h k = (h.0, all_there_end atoms cs c h.1 k)

-- ---- the constraints that are made are kept

module _ (v : Valuation) where
  pub record Good (made : Made) : Type 0 where
    pub there : AllThere made.atoms made.constraints
    pub kept : all_kept v made.constraints ≡ true

  kept_end : (cs : List Constraint) (c : Constraint) → all_kept v cs ≡ true → is_kept v c ≡ true → all_kept v (cs ++ c ∷ []) ≡ true
  kept_end [] c h k = ap (λ t. t && true) k
  kept_end (d ∷ cs) c h k = let p = and_parts (is_kept v d) (all_kept v cs) h in ap₂ (λ a b. a && b) p.0 (kept_end cs c p.1 k)

  with_constraint_good : (made : Made) (c : Constraint) → Good made → is_kept v c ≡ true → Good (with_constraint made c)
  with_constraint_good made c g k =
      let atoms = with_atoms made.atoms (sum_of c).terms in
      record {
        there = all_there_end atoms made.constraints c (all_there_grow made.atoms atoms made.constraints (with_atoms_grows made.atoms (sum_of c).terms) g.there) (with_atoms_have made.atoms (sum_of c).terms);
        kept = kept_end made.constraints c g.kept k;
      }

  with_constraints_good : (made : Made) (cs : List Constraint) → Good made → all_kept v cs ≡ true → Good (with_constraints made cs)
  with_constraints_good made [] g k = g
  with_constraints_good made (c ∷ cs) g k = let p = and_parts (is_kept v c) (all_kept v cs) k in with_constraints_good (with_constraint made c) cs (with_constraint_good made c g p.0) p.1

  two_kept : (c d : Constraint) → is_kept v c ≡ true → is_kept v d ≡ true → all_kept v (c ∷ d ∷ []) ≡ true
  two_kept c d h k = ap₂ (λ a b. a && (b && true)) h k

  one_value : (a : Atom) → value v (only a) ≡ atom_value v a
  one_value a = omega (arith, ints)

  kind_rows_kept : (kind : Kind) (f : Linear) → IsOfKind kind (value v f) → all_kept v (kind_rows kind f) ≡ true
  kind_rows_kept Size f h = ap (λ t. t && true) (int_le_holds (pos 0) (value v (moved (pos 1) f)) (omega (arith, ints, moved_value v (pos 1) f, h)))
  kind_rows_kept Index f h = refl
  kind_rows_kept Truth f h = two_kept (AtLeastZero f) (AtLeastZero (subtracted (constantly (pos 1)) f)) (int_le_holds (pos 0) (value v f) h.0) (int_le_holds (pos 0) (value v (subtracted (constantly (pos 1)) f)) (omega (arith, ints, subtracted_value v (constantly (pos 1)) f, h.1)))
  kind_rows_kept Stride f h = refl

  suc_positive : (c : ℕ) → is_positive (pos (suc c)) ≡ true
  suc_positive c = grind (arith, ints)

  -- a quotient is that of its sum, rounded down
  quotient_rows_kept : (e q : Linear) (c : ℤ) → value v q ≡ int_div_euclid (value v e) c → all_kept v (quotient_rows e q c) ≡ true
  quotient_rows_kept e q (pos zero) is = refl
  quotient_rows_kept e q (negsuc c) is = refl
  quotient_rows_kept e q (pos (suc c)) is =
      let g = suc c in
      let floor = quotient_floor (value v e) g (omega arith) in
      let times : pos g *ℤ value v q ≡ pos g *ℤ int_div_euclid (value v e) (pos g) = ap (λ z. pos g *ℤ z) is in
      ap (λ t. all_kept v (cond t (AtLeastZero (subtracted e (scaled (pos g) q)) ∷ AtLeastZero (subtracted (moved (pos 1 -ℤ pos g) (scaled (pos g) q)) e) ∷ []) [])) (suc_positive c) ∙ two_kept (AtLeastZero (subtracted e (scaled (pos g) q))) (AtLeastZero (subtracted (moved (pos 1 -ℤ pos g) (scaled (pos g) q)) e))
      (int_le_holds (pos 0) (value v (subtracted e (scaled (pos g) q))) (omega (arith, ints, subtracted_value v e (scaled (pos g) q), scaled_value v (pos g) q, floor.2, times)))
      (int_le_holds (pos 0) (value v (subtracted (moved (pos 1 -ℤ pos g) (scaled (pos g) q)) e)) (omega (arith, ints, subtracted_value v (moved (pos 1 -ℤ pos g) (scaled (pos g) q)) e, moved_value v (pos 1 -ℤ pos g) (scaled (pos g) q), scaled_value v (pos g) q, floor.1, floor.2, times)))

  module _ (keeps : KeepsKinds v) where
    own_rows_kept : (a : Atom) → all_kept v (own_rows a) ≡ true
    own_rows_kept (Variable x) = refl
    own_rows_kept (EntryField f kind) = kind_rows_kept kind (only (EntryField f kind)) (subst (IsOfKind kind) (sym (one_value (EntryField f kind))) (keeps.entry f kind))
    own_rows_kept (UnknownField f kind path) = kind_rows_kept kind (only (UnknownField f kind path)) (subst (IsOfKind kind) (sym (one_value (UnknownField f kind path))) (keeps.unknown f kind path))
    own_rows_kept (OpaqueStride x k) = refl
    own_rows_kept (Quotient n ts c) = quotient_rows_kept (record { constant = n; terms = ts }) (only (Quotient n ts c)) c (one_value (Quotient n ts c))

    pick_good : (t : Bool) (made other : Made) → Good made → Good other → Good (cond t made other)
    pick_good true made other g h = g
    pick_good false made other g h = h

    mutual
      explained_good : (a : Atom) (made : Made) → Good made → Good (explained a made)
      explained_good (Variable x) made g = g
      explained_good (EntryField f kind) made g = pick_good (stands_in made.atoms (EntryField f kind)) made (with_constraints made (own_rows (EntryField f kind))) g (with_constraints_good made (own_rows (EntryField f kind)) g (own_rows_kept (EntryField f kind)))
      explained_good (UnknownField f kind path) made g = pick_good (stands_in made.atoms (UnknownField f kind path)) made (with_constraints made (own_rows (UnknownField f kind path))) g (with_constraints_good made (own_rows (UnknownField f kind path)) g (own_rows_kept (UnknownField f kind path)))
      explained_good (OpaqueStride x k) made g = g
      explained_good (Quotient n ts c) made g = pick_good (stands_in made.atoms (Quotient n ts c)) made (with_constraints (all_explained ts made) (own_rows (Quotient n ts c))) g (with_constraints_good (all_explained ts made) (own_rows (Quotient n ts c)) (all_explained_good ts made g) (own_rows_kept (Quotient n ts c)))

      all_explained_good : (ts : Terms) (made : Made) → Good made → Good (all_explained ts made)
      all_explained_good none made g = g
      all_explained_good (term c a ts) made g = all_explained_good ts (explained a made) (explained_good a made g)

    made_of_good : (made : Made) (cs : List Constraint) → Good made → all_kept v cs ≡ true → Good (made_of made cs)
    made_of_good made [] g k = g
    made_of_good made (c ∷ cs) g k =
        let p = and_parts (is_kept v c) (all_kept v cs) k in
        let before = all_explained (sum_of c).terms made in
        made_of_good (with_constraint before c) cs (with_constraint_good before c (all_explained_good (sum_of c).terms made g) p.0) p.1

  -- ---- values of numbered sums

  abbrev pub point_of : List Atom → List ℤ
  point_of atoms = map (atom_value v) atoms

  added_at_length : (k : ℕ) (z : ℤ) (cs : List ℤ) → length (added_at k z cs) ≡ length cs
  added_at_length k z [] = refl
  added_at_length zero z (c ∷ cs) = refl
  added_at_length (suc k) z (c ∷ cs) = ap suc (added_at_length k z cs)

  zeros_length : (atoms : List Atom) → length (map (λ a. pos 0) atoms) ≡ length atoms
  zeros_length [] = refl
  zeros_length (a ∷ atoms) = ap suc (zeros_length atoms)

  zeros_dot : (atoms : List Atom) → dot (map (λ a. pos 0) atoms) (point_of atoms) ≡ pos 0
  zeros_dot [] = refl
  zeros_dot (a ∷ atoms) = omega (arith, ints, zeros_dot atoms, zero-*ℤ (atom_value v a))

  added_at_dot : (a : Atom) (z : ℤ) (atoms : List Atom) (cs : List ℤ) → length cs ≡ length atoms → stands_in atoms a ≡ true → dot (added_at (position_or_len (same_atom a) atoms) z cs) (point_of atoms) ≡ (z *ℤ atom_value v a) +ℤ dot cs (point_of atoms)
  added_at_dot a z [] cs e h = absurd (true≢false (sym h))
  added_at_dot a z (b ∷ atoms) [] e h = absurd (omega arith)
  added_at_dot a z (b ∷ atoms) (c ∷ cs) e h = go (added_at_dot a z atoms cs (omega arith)) (same_atom a b) refl h
    where
      go : (stands_in atoms a ≡ true → dot (added_at (position_or_len (same_atom a) atoms) z cs) (point_of atoms) ≡ (z *ℤ atom_value v a) +ℤ dot cs (point_of atoms)) → (t : Bool) → same_atom a b ≡ t → (t || stands_in atoms a) ≡ true → dot (added_at (cond (not t) (1 + position_or_len (same_atom a) atoms) zero) z (c ∷ cs)) (point_of (b ∷ atoms)) ≡ (z *ℤ atom_value v a) +ℤ dot (c ∷ cs) (point_of (b ∷ atoms))
      go rest true f k =
          let is : z *ℤ atom_value v b ≡ z *ℤ atom_value v a = ap (λ y. z *ℤ y) (same_value v a b f) in
          omega (arith, ints, add-times z c (atom_value v b), is)
      go rest false f k =
          let next : 1 + position_or_len (same_atom a) atoms ≡ suc (position_or_len (same_atom a) atoms) = omega arith in
          ap (λ m. dot (added_at m z (c ∷ cs)) (point_of (b ∷ atoms))) next ∙ further (rest k)
        where
          further : dot (added_at (position_or_len (same_atom a) atoms) z cs) (point_of atoms) ≡ (z *ℤ atom_value v a) +ℤ dot cs (point_of atoms) → dot (c ∷ added_at (position_or_len (same_atom a) atoms) z cs) (point_of (b ∷ atoms)) ≡ (z *ℤ atom_value v a) +ℤ dot (c ∷ cs) (point_of (b ∷ atoms))
          further h = omega (arith, ints, h)

  onto_value : (atoms : List Atom) (cs : List ℤ) (ts : Terms) → length cs ≡ length atoms → TermsThere atoms ts → dot (numbered_onto atoms cs ts) (point_of atoms) ≡ dot cs (point_of atoms) +ℤ terms_value v ts
  onto_value atoms cs none e h = omega (arith, ints)
  onto_value atoms cs (term c a ts) e h = omega (arith, ints, onto_value atoms (added_at (position_or_len (same_atom a) atoms) c cs) ts (added_at_length (position_or_len (same_atom a) atoms) c cs ∙ e) h.1, added_at_dot a c atoms cs e h.0)

  numbered_value : (atoms : List Atom) (ts : Terms) → TermsThere atoms ts → dot (numbered atoms ts) (point_of atoms) ≡ terms_value v ts
  numbered_value atoms ts h = omega (arith, ints, onto_value atoms (map (λ a. pos 0) atoms) ts (zeros_length atoms) h, zeros_dot atoms)

  affine_value : (atoms : List Atom) (l : Linear) → TermsThere atoms l.terms → affine_sums.value (affine atoms l) (point_of atoms) ≡ value v l
  affine_value atoms l h = ap (λ z. l.constant +ℤ z) (numbered_value atoms l.terms h)

  equations_hold : (atoms : List Atom) (cs : List Constraint) → AllThere atoms cs → all_kept v cs ≡ true → AllByRecursion (λ e. affine_sums.value e (point_of atoms) ≡ pos 0) (equations_of atoms cs)
  equations_hold atoms [] h k = tt
  equations_hold atoms (AtLeastZero l ∷ cs) h k = equations_hold atoms cs h.1 (and_parts (is_kept v (AtLeastZero l)) (all_kept v cs) k).1
  equations_hold atoms (IsZero l ∷ cs) h k =
      let p = and_parts (is_kept v (IsZero l)) (all_kept v cs) k in
      (affine_value atoms l h.0 ∙ int_eq_same (value v l) (pos 0) p.0, equations_hold atoms cs h.1 p.1)

  rows_hold : (atoms : List Atom) (cs : List Constraint) → AllThere atoms cs → all_kept v cs ≡ true → AllByRecursion (λ r. pos 0 ≤ℤ affine_sums.value r (point_of atoms)) (rows_of atoms cs)
  rows_hold atoms [] h k = tt
  rows_hold atoms (AtLeastZero l ∷ cs) h k =
      let p = and_parts (is_kept v (AtLeastZero l)) (all_kept v cs) k in
      (subst (λ z. pos 0 ≤ℤ z) (sym (affine_value atoms l h.0)) (at_least (pos 0) (value v l) p.0), rows_hold atoms cs h.1 p.1)
  rows_hold atoms (IsZero l ∷ cs) h k = rows_hold atoms cs h.1 (and_parts (is_kept v (IsZero l)) (all_kept v cs) k).1

  point_length : (atoms : List Atom) → length (point_of atoms) ≡ length atoms
  point_length [] = refl
  point_length (a ∷ atoms) = ap suc (point_length atoms)

  good_point : (made : Made) → Good made → IsIntegerPoint (system_of made) (point_of made.atoms)
  good_point made g = record {
    one_each = point_length made.atoms;
    equations_hold = equations_hold made.atoms made.constraints g.there g.kept;
    rows_hold = rows_hold made.atoms made.constraints g.there g.kept;
  }

  module _ (keeps : KeepsKinds v) where
    some_case : (css : List (List Constraint)) → some_kept v css ≡ true → HasPointIn v css
    some_case [] k = true≢false (sym k)
    some_case (cs ∷ css) k = go (some_case css) (all_kept v cs) refl k
      where
        go : (some_kept v css ≡ true → HasPointIn v css) → (t : Bool) → all_kept v cs ≡ t → (t || some_kept v css) ≡ true → HasPointIn v (cs ∷ css)
        go rest true e j = inl (good_point (made_of nothing cs) (made_of_good keeps nothing cs (record { there = tt; kept = refl }) e))
        go rest false e j = inr (rest j)

pub systems_law : SystemsLaw
systems_law v context claim keeps met fails = some_case v keeps (failing_cases context claim) (all_cases_met v (context ++ negation claim ∷ []) ∙ all ∙ ap (λ t. true && (not t && true)) fails)
  where
    all : all_met v (context ++ negation claim ∷ []) ≡ (true && (not (is_met v claim) && true))
    all = all_met_append v context (negation claim ∷ []) ∙ ap₂ (λ a b. a && (b && true)) met (negation_met v claim)

no_point : (v : Valuation) (css : List (List Constraint)) → AllByRecursion HasNoIntegerPoint (map system css) → HasPointIn v css → ⊥
no_point v [] h p = p
no_point v (cs ∷ css) h (inl p) = h.0 (point_of v (made_of nothing cs).atoms) p
no_point v (cs ∷ css) h (inr p) = no_point v css h.1 p

pub shown_law : ShownLaw
shown_law v context claim keeps shown met = go (is_met v claim) refl
  where
    go : (t : Bool) → is_met v claim ≡ t → is_met v claim ≡ true
    go true e = e
    go false e = absurd (no_point v (failing_cases context claim) shown (systems_law v context claim keeps met e))
