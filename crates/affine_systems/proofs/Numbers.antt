-- The numbers that the terms of a sum add to the coefficients of numbered atoms: each of its atoms stands once, so each number is added once.
use Rattle.std.proofs.Common.{◌≡◌, ℕ, zero, suc, ◌+◌, ◌<◌, ◌≤◌, ◌^◌, ℤ, pos, ◌+ℤ◌, Bool, true, false, cond, not, ◌&&◌, List, [], ◌∷◌, map, length, set, get_or, drop, replicate, arith, refl, sym, ap, ap₂, ◌∙◌, true≢false, inl, inr, add-one}
use Rattle.std.proofs.lemmas.Int.{ints}
use Rattle.std.specs.Prelude.{◌⊎◌}
use Rattle.std.specs.List.{list_all, position_or_len}
use Rattle.affine_forms.specs.Atoms.{Atom, Terms, term, same_atom}
use Rattle.affine_forms.specs.Bounds.{is_narrow}
use Rattle.affine_forms.specs.Forms.{is_within}
use Rattle.affine_forms.specs.TermBounds.{is_apart, are_distinct}
use Rattle.affine_forms.proofs.Values.{and_parts}
use Rattle.affine_forms.proofs.Distinct.{apart_alike}
use Rattle.affine_forms.proofs.TermWidths.{within_le, within_from_le}
use Rattle.affine_forms.specs.PlainAtoms.{plain_atom, plain_terms}
use Rattle.affine_forms.specs.declared.atom.Atom.{Atom as RsAtom}
use Rattle.affine_forms.specs.declared.atom.Weighed.{Weighed}
use Rattle.affine_systems.specs.Systems.{added_at}

-- each coefficient is 0, or it is narrow and no term is left to be added to it
abbrev pub HasRoom : Terms → List Atom → List ℤ → Type 0
HasRoom us [] [] = Unit {0}
HasRoom us [] (d ∷ cs) = ⊥
HasRoom us (b ∷ atoms) [] = ⊥
HasRoom us (b ∷ atoms) (d ∷ cs) = ((d ≡ pos 0) ⊎ ((is_within (2 ^ 64) d ≡ true) × (is_apart b us ≡ true))) × HasRoom us atoms cs

pub room_first : (us : Terms) (atoms : List Atom) → HasRoom us atoms (map (λ a. pos 0) atoms)
room_first us [] = tt
room_first us (b ∷ atoms) = (inl refl, room_first us atoms)

one_less : (c d : ℤ) (a b : Atom) (us : Terms) → (d ≡ pos 0) ⊎ ((is_within (2 ^ 64) d ≡ true) × (is_apart b (term c a us) ≡ true)) → (d ≡ pos 0) ⊎ ((is_within (2 ^ 64) d ≡ true) × (is_apart b us ≡ true))
one_less c d a b us (inl e) = inl e
one_less c d a b us (inr k) = inr (k.0, (and_parts (not (same_atom a b)) (is_apart b us) k.1).1)

room_less : (c : ℤ) (a : Atom) (us : Terms) (atoms : List Atom) (cs : List ℤ) → HasRoom (term c a us) atoms cs → HasRoom us atoms cs
room_less c a us [] [] h = tt
room_less c a us [] (d ∷ cs) h = h
room_less c a us (b ∷ atoms) [] h = h
room_less c a us (b ∷ atoms) (d ∷ cs) h = (one_less c d a b us h.0, room_less c a us atoms cs h.1)

pub room_added : (c : ℤ) (a : Atom) (us : Terms) (atoms : List Atom) (cs : List ℤ) → is_within (2 ^ 64) c ≡ true → is_apart a us ≡ true → HasRoom (term c a us) atoms cs → HasRoom us atoms (added_at (position_or_len (same_atom a) atoms) c cs)
room_added c a us [] [] w p h = tt
room_added c a us [] (d ∷ cs) w p h = absurd h
room_added c a us (b ∷ atoms) [] w p h = absurd h
room_added c a us (b ∷ atoms) (d ∷ cs) w p h = go (room_added c a us atoms cs w p h.1) (same_atom a b) refl
  where
    here : same_atom a b ≡ true → (d ≡ pos 0) ⊎ ((is_within (2 ^ 64) d ≡ true) × (is_apart b (term c a us) ≡ true)) → is_within (2 ^ 64) (c +ℤ d) ≡ true
    here e (inl z) = let sum : c +ℤ d ≡ c = omega (arith, ints, z) in ap (is_within (2 ^ 64)) sum ∙ w
    here e (inr k) = absurd (true≢false (sym (and_parts (not (same_atom a b)) (is_apart b us) k.1).0 ∙ ap not e))

    go : HasRoom us atoms (added_at (position_or_len (same_atom a) atoms) c cs) → (t : Bool) → same_atom a b ≡ t → HasRoom us (b ∷ atoms) (added_at (cond (not t) (1 + position_or_len (same_atom a) atoms) zero) c (d ∷ cs))
    go rest true e = (inr (here e h.0, sym (apart_alike a b us e) ∙ p), room_less c a us atoms cs h.1)
    go rest false e = let next : 1 + position_or_len (same_atom a) atoms ≡ suc (position_or_len (same_atom a) atoms) = omega arith in rw next (one_less c d a b us h.0, rest)

pub room_length : (us : Terms) (atoms : List Atom) (cs : List ℤ) → HasRoom us atoms cs → length cs ≡ length atoms
room_length us [] [] h = refl
room_length us [] (d ∷ cs) h = absurd h
room_length us (b ∷ atoms) [] h = absurd h
room_length us (b ∷ atoms) (d ∷ cs) h = ap suc (room_length us atoms cs h.1)

one_narrow : (d : ℤ) (b : Atom) (us : Terms) → (d ≡ pos 0) ⊎ ((is_within (2 ^ 64) d ≡ true) × (is_apart b us ≡ true)) → is_within (2 ^ 64) d ≡ true
one_narrow d b us (inl z) = ap (is_within (2 ^ 64)) z
one_narrow d b us (inr k) = k.0

pub room_at : (us : Terms) (atoms : List Atom) (cs : List ℤ) (k : ℕ) (y : ℤ) → HasRoom us atoms cs → k < length cs → is_within (2 ^ 64) (get_or cs k y) ≡ true
room_at us [] [] k y h l = absurd (omega arith)
room_at us [] (d ∷ cs) k y h l = absurd h
room_at us (b ∷ atoms) [] k y h l = absurd h
room_at us (b ∷ atoms) (d ∷ cs) zero y h l = one_narrow d b us h.0
room_at us (b ∷ atoms) (d ∷ cs) (suc k) y h l = room_at us atoms cs k y h.1 (omega arith)

pub room_narrow : (us : Terms) (atoms : List Atom) (cs : List ℤ) → HasRoom us atoms cs → list_all is_narrow cs ≡ true
room_narrow us [] [] h = refl
room_narrow us [] (d ∷ cs) h = absurd h
room_narrow us (b ∷ atoms) [] h = absurd h
room_narrow us (b ∷ atoms) (d ∷ cs) h = ap₂ (λ s t. s && t) (narrow d (one_narrow d b us h.0)) (room_narrow us atoms cs h.1)
  where
    narrow : (d : ℤ) → is_within (2 ^ 64) d ≡ true → is_narrow d ≡ true
    narrow d h = within_from_le (2 ^ 100) d (omega (arith, within_le (2 ^ 64) d h))

-- ---- one number of a list

pub set_added : (cs : List ℤ) (k : ℕ) (z y : ℤ) → k < length cs → set cs k (z +ℤ get_or cs k y) ≡ added_at k z cs
set_added [] k z y l = absurd (omega arith)
set_added (d ∷ cs) zero z y l = refl
set_added (d ∷ cs) (suc k) z y l = ap (λ r. d ∷ r) (set_added cs k z y (omega arith))

pub added_past : (cs : List ℤ) (k : ℕ) (z : ℤ) → length cs ≤ k → added_at k z cs ≡ cs
added_past [] k z l = refl
added_past (d ∷ cs) zero z l = absurd (omega arith)
added_past (d ∷ cs) (suc k) z l = ap (λ r. d ∷ r) (added_past cs k z (omega arith))

pub get_added : (cs : List ℤ) (k : ℕ) (z y : ℤ) → k < length cs → get_or (added_at k z cs) k y ≡ z +ℤ get_or cs k y
get_added [] k z y l = absurd (omega arith)
get_added (d ∷ cs) zero z y l = refl
get_added (d ∷ cs) (suc k) z y l = get_added cs k z y (omega arith)

pub length_added : (k : ℕ) (z : ℤ) (cs : List ℤ) → length (added_at k z cs) ≡ length cs
length_added k z [] = refl
length_added zero z (c ∷ cs) = refl
length_added (suc k) z (c ∷ cs) = ap suc (length_added k z cs)

-- ---- zeros

pub zeros_are : (xs : List RsAtom) → replicate (length xs) (pos 0) ≡ map (λ a. pos 0) (map plain_atom xs)
zeros_are [] = refl
zeros_are (x ∷ xs) = ap (λ r. pos 0 ∷ r) (zeros_are xs)

-- ---- the atom of each term stands once

pub apart_at : (ws : List Weighed) (k : ℕ) (x : Weighed) → k < length ws → x ≡ get_or ws k x → are_distinct (plain_terms ws) ≡ true → is_apart (plain_atom x.atom) (plain_terms (drop (k + 1) ws)) ≡ true
apart_at [] k x l is h = absurd (omega arith)
apart_at (y ∷ ws) zero x l is h = ap (λ v. is_apart (plain_atom v.atom) (plain_terms ws)) is ∙ (and_parts (is_apart (plain_atom y.atom) (plain_terms ws)) (are_distinct (plain_terms ws)) h).0
apart_at (y ∷ ws) (suc k) x l is h = ap (λ n. is_apart (plain_atom x.atom) (plain_terms (drop n (y ∷ ws)))) (add-one (suc k)) ∙ ap (λ n. is_apart (plain_atom x.atom) (plain_terms (drop n ws))) (sym (add-one k)) ∙ apart_at ws k x (omega arith) is (and_parts (is_apart (plain_atom y.atom) (plain_terms ws)) (are_distinct (plain_terms ws)) h).1

pub get_same : (cs : List ℤ) (k : ℕ) (y z : ℤ) → k < length cs → get_or cs k y ≡ get_or cs k z
get_same [] k y z l = absurd (omega arith)
get_same (d ∷ cs) zero y z l = refl
get_same (d ∷ cs) (suc k) y z l = get_same cs k y z (omega arith)
