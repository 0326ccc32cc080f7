-- One more step of the loops that gather constraints.
use Rattle.std.proofs.Common.{◌≡◌, ℕ, zero, suc, ◌+◌, ◌<◌, ◌≤◌, Bool, true, false, cond, not, ◌||◌, List, [], ◌∷◌, map, length, get_or, drop, arith, refl, sym, ap, ◌∙◌, add-one}
use Rattle.affine_forms.specs.Atoms.{Atom, Terms}
use Rattle.affine_forms.specs.Formulas.{Constraint, AtLeastZero, IsZero}
use Rattle.std.proofs.Math.Seq.{drop-cons}
use Rattle.std.specs.List.{list_any, position_or_len}
use Rattle.affine_forms.specs.PlainAtoms.{plain_atom}
use Rattle.affine_forms.specs.declared.atom.Atom.{Atom as RsAtom}
use Rattle.affine_systems.specs.Systems.{Made, with_atoms, equations_of, rows_of}

pub parts_length : (atoms : List Atom) (cs : List Constraint) → length (equations_of atoms cs) + length (rows_of atoms cs) ≡ length cs
parts_length atoms [] = refl
parts_length atoms (AtLeastZero l ∷ cs) = omega (arith, parts_length atoms cs)
parts_length atoms (IsZero l ∷ cs) = omega (arith, parts_length atoms cs)

-- ---- searches

here : (xs : List RsAtom) (k : ℕ) (x : RsAtom) → k < length xs → x ≡ get_or xs k x → map plain_atom (drop k xs) ≡ plain_atom x ∷ map plain_atom (drop (suc k) xs)
here xs k x l is = ap (map plain_atom) (drop-cons xs k x l) ∙ ap (λ y. plain_atom y ∷ map plain_atom (drop (suc k) xs)) (sym is)

past : (xs : List RsAtom) (k : ℕ) → length xs ≤ k → map plain_atom (drop k xs) ≡ []
past [] zero l = refl
past [] (suc k) l = refl
past (x ∷ xs) zero l = absurd (omega arith)
past (x ∷ xs) (suc k) l = past xs k (omega arith)

pub any_here : (p : Atom → Bool) (xs : List RsAtom) (k : ℕ) (x : RsAtom) → k < length xs → x ≡ get_or xs k x → p (plain_atom x) ≡ true → list_any p (map plain_atom (drop k xs)) ≡ true
any_here p xs k x l is h = ap (list_any p) (here xs k x l is) ∙ ap (λ t. t || list_any p (map plain_atom (drop (suc k) xs))) h

pub any_next : (p : Atom → Bool) (xs : List RsAtom) (k : ℕ) (x : RsAtom) → k < length xs → x ≡ get_or xs k x → p (plain_atom x) ≡ false → list_any p (map plain_atom (drop k xs)) ≡ list_any p (map plain_atom (drop (k + 1) xs))
any_next p xs k x l is h = ap (list_any p) (here xs k x l is) ∙ ap (λ t. t || list_any p (map plain_atom (drop (suc k) xs))) h ∙ ap (λ n. list_any p (map plain_atom (drop n xs))) (sym (add-one k))

pub any_end : (p : Atom → Bool) (xs : List RsAtom) (k : ℕ) → length xs ≤ k → list_any p (map plain_atom (drop k xs)) ≡ false
any_end p xs k l = ap (list_any p) (past xs k l)

pub number_here : (p : Atom → Bool) (xs : List RsAtom) (k : ℕ) (x : RsAtom) → k < length xs → x ≡ get_or xs k x → p (plain_atom x) ≡ true → k + position_or_len p (map plain_atom (drop k xs)) ≡ k
number_here p xs k x l is h =
    let e : position_or_len p (map plain_atom (drop k xs)) ≡ 0 = ap (position_or_len p) (here xs k x l is) ∙ ap (λ t. cond (not t) (1 + position_or_len p (map plain_atom (drop (suc k) xs))) zero) h in
    omega (arith, e)

pub number_next : (p : Atom → Bool) (xs : List RsAtom) (k : ℕ) (x : RsAtom) → k < length xs → x ≡ get_or xs k x → p (plain_atom x) ≡ false → k + position_or_len p (map plain_atom (drop k xs)) ≡ (k + 1) + position_or_len p (map plain_atom (drop (k + 1) xs))
number_next p xs k x l is h =
    let e : position_or_len p (map plain_atom (drop k xs)) ≡ 1 + position_or_len p (map plain_atom (drop (suc k) xs)) = ap (position_or_len p) (here xs k x l is) ∙ ap (λ t. cond (not t) (1 + position_or_len p (map plain_atom (drop (suc k) xs))) zero) h in
    let f : position_or_len p (map plain_atom (drop (k + 1) xs)) ≡ position_or_len p (map plain_atom (drop (suc k) xs)) = ap (λ n. position_or_len p (map plain_atom (drop n xs))) (add-one k) in
    omega (arith, e, f)

pub number_end : (p : Atom → Bool) (xs : List RsAtom) (k : ℕ) → k ≡ length xs → k + position_or_len p (map plain_atom (drop k xs)) ≡ length xs
number_end p xs k e =
    let f : position_or_len p (map plain_atom (drop k xs)) ≡ 0 = ap (position_or_len p) (past xs k (omega (arith, e))) in
    omega (arith, e, f)

-- ---- the atoms of a sum

abbrev pub atoms_added : Made → Terms → Made
atoms_added made ts = record made { atoms = with_atoms made.atoms ts }
