-- Rows of constraints that are put last one by one, the equations apart.
use Rattle.std.proofs.Common.{◌≡◌, ℕ, ◌+◌, ◌<◌, ◌≤◌, true, false, ◌&&◌, List, [], ◌∷◌, ◌++◌, map, length, get_or, drop, refl, sym, ap, ap₂, ◌∙◌, true≢false, add-one, append_assoc}
use Rattle.std.specs.Prelude.{nat_lt}
use Rattle.std.specs.List.{list_all}
use Rattle.std.proofs.Math.Seq.{drop-cons}
use Rattle.std.proofs.lemmas.List.{map-append, append-nil, drop_all}
use Rattle.std.proofs.lemmas.List.Folds.{list_all-append}
use Rattle.affine_forms.specs.Affine.{Affine}
use Rattle.affine_forms.specs.Atoms.{Atom}
use Rattle.affine_forms.specs.Bounds.{are_below}
use Rattle.affine_forms.specs.Formulas.{Constraint, AtLeastZero, IsZero}
use Rattle.affine_forms.specs.System.{plain_row}
use Rattle.affine_forms.specs.declared.system.Row.{Row}
use Rattle.affine_systems.specs.Systems.{sum_of, is_equation, affine, equations_of, rows_of}
use Rattle.affine_systems.specs.PlainMade.{plain_stated}
use Rattle.affine_systems.specs.declared.gathering.Stated.{Stated}

pub left_of : (cs : List Stated) (i : ℕ) (s : Stated) → i < length cs → s ≡ get_or cs i s → map plain_stated (drop i cs) ≡ plain_stated s ∷ map plain_stated (drop (i + 1) cs)
left_of cs i s l is = ap (map plain_stated) (drop-cons cs i s l) ∙ ap₂ (λ t k. plain_stated t ∷ map plain_stated (drop k cs)) (sym is) (sym (add-one i))

pub equations_first : (atoms : List Atom) (k : Constraint) (ks : List Constraint) → is_equation k ≡ true → equations_of atoms (k ∷ ks) ≡ affine atoms (sum_of k) ∷ equations_of atoms ks
equations_first atoms (AtLeastZero l) ks e = absurd (true≢false (sym e))
equations_first atoms (IsZero l) ks e = refl

pub equations_past : (atoms : List Atom) (k : Constraint) (ks : List Constraint) → is_equation k ≡ false → equations_of atoms (k ∷ ks) ≡ equations_of atoms ks
equations_past atoms (AtLeastZero l) ks e = refl
equations_past atoms (IsZero l) ks e = absurd (true≢false e)

pub rows_first : (atoms : List Atom) (k : Constraint) (ks : List Constraint) → is_equation k ≡ false → rows_of atoms (k ∷ ks) ≡ affine atoms (sum_of k) ∷ rows_of atoms ks
rows_first atoms (AtLeastZero l) ks e = refl
rows_first atoms (IsZero l) ks e = absurd (true≢false e)

pub rows_past : (atoms : List Atom) (k : Constraint) (ks : List Constraint) → is_equation k ≡ true → rows_of atoms (k ∷ ks) ≡ rows_of atoms ks
rows_past atoms (AtLeastZero l) ks e = absurd (true≢false (sym e))
rows_past atoms (IsZero l) ks e = refl

pub one_put : (n : ℕ) (done : List Row) (r : Row) (a : Affine) (left rest whole : List Affine) → plain_row n r ≡ a → left ≡ a ∷ rest → map (plain_row n) done ++ left ≡ whole → map (plain_row n) (done ++ r ∷ []) ++ rest ≡ whole
one_put n done r a left rest whole e f all =
    ap (λ xs. xs ++ rest) (map-append (plain_row n) done (r ∷ []))
    ∙ append_assoc (map (plain_row n) done) (plain_row n r ∷ []) rest
    ∙ ap (λ x. map (plain_row n) done ++ x ∷ rest) e
    ∙ ap (λ xs. map (plain_row n) done ++ xs) (sym f)
    ∙ all

pub below_put : (n : ℕ) (done : List Row) (r : Row) → are_below n (map (λ r. map (λ t. t.variable) r.terms.items) done) ≡ true → list_all (λ x. nat_lt x n) (map (λ t. t.variable) r.terms.items) ≡ true → are_below n (map (λ r. map (λ t. t.variable) r.terms.items) (done ++ r ∷ [])) ≡ true
below_put n done r h k =
    ap (are_below n) (map-append (λ r. map (λ t. t.variable) r.terms.items) done (r ∷ []))
    ∙ list_all-append (λ xs. list_all (λ x. nat_lt x n) xs) (map (λ r. map (λ t. t.variable) r.terms.items) done) (map (λ t. t.variable) r.terms.items ∷ [])
    ∙ ap₂ (λ a b. a && (b && true)) h k

-- behind the last constraint no row is left
pub all_put : (of : List Constraint → List Affine) (i : ℕ) (cs : List Stated)
    (done : List Affine) {whole : List Affine} → length cs ≤ i → of [] ≡ []
    → done ++ of (map plain_stated (drop i cs)) ≡ whole → done ≡ whole
all_put of i cs done l e all =
    sym (append-nil done)
    ∙ ap (λ xs. done ++ xs) (sym (ap (λ rest. of (map plain_stated rest)) (drop_all i cs l) ∙ e))
    ∙ all
