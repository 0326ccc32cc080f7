-- The bounds that the sums of the program keep.
use Rattle.std.specs.Prelude.{ℕ, zero, suc, ℤ, pos, ◌+ℤ◌, ◌^◌, Bool, true, false, not, ◌&&◌}
use Rattle.std.specs.Prelude.{if◌then◌else◌, Option, Some, None, option_map}
use Rattle.std.specs.Int.{is_positive}
use Rattle.std.specs.Ordering.{int_eq}
use Rattle.affine_forms.specs.Atoms.{Atom, Variable, EntryField, UnknownField, OpaqueStride}
use Rattle.affine_forms.specs.Atoms.{Quotient, Terms, none, term, same_atom}
use Rattle.affine_forms.specs.Forms.{is_within, are_short}

-- no atom of the sum is that one
abbrev pub is_apart : Atom → Terms → Bool
is_apart a none = true
is_apart a (term c b ts) = not (same_atom b a) && is_apart a ts

-- each atom stands once
abbrev pub are_distinct : Terms → Bool
are_distinct none = true
are_distinct (term c a ts) = is_apart a ts && are_distinct ts

-- no coefficient is 0
abbrev pub are_present : Terms → Bool
are_present none = true
are_present (term c a ts) = not (int_eq c (pos 0)) && are_present ts

-- a quotient is that of a normal form by a literal of at least 1
abbrev pub is_kept_atom : Atom → Bool
is_kept_atom (Variable x) = true
is_kept_atom (EntryField f kind) = true
is_kept_atom (UnknownField f kind path) = true
is_kept_atom (OpaqueStride x k) = true
is_kept_atom (Quotient n ts c) = is_positive c && (is_within (2 ^ 64) n && (are_short ts && (are_distinct ts && are_present ts)))

abbrev pub are_kept : Terms → Bool
are_kept none = true
are_kept (term c a ts) = (is_within (2 ^ 126) c && is_kept_atom a) && are_kept ts

-- one sum after the other
abbrev pub joined_terms : Terms → Terms → Terms
joined_terms none us = us
joined_terms (term c a ts) us = term c a (joined_terms ts us)

-- ---- places

-- the index of the first term that passes the test
abbrev pub first_that : (ℤ → Atom → Bool) → Terms → Option ℕ
first_that test none = None
first_that test (term c a ts) = if test c a then Some 0 else option_map suc (first_that test ts)

-- the coefficient that is sought; None is any
abbrev pub is_wanted : Option ℤ → ℤ → Bool
is_wanted None d = true
is_wanted (Some c) d = int_eq c d

-- a term of that atom, and of that coefficient if one is sought
abbrev pub is_sought : Atom → Option ℤ → ℤ → Atom → Bool
is_sought a wanted d b = same_atom a b && is_wanted wanted d

-- without the term of that index
abbrev pub without_term : ℕ → Terms → Terms
without_term k none = none
without_term zero (term c a ts) = ts
without_term (suc k) (term c a ts) = term c a (without_term k ts)

-- with that added to the coefficient of that index
abbrev pub raised : ℕ → ℤ → Terms → Terms
raised k z none = none
raised zero z (term c a ts) = term (z +ℤ c) a ts
raised (suc k) z (term c a ts) = term c a (raised k z ts)

-- how many terms
abbrev pub count : Terms → ℕ
count none = 0
count (term c a ts) = suc (count ts)

abbrev pub is_none : Terms → Bool
is_none none = true
is_none (term c a ts) = false

-- with a term before it, if that is wanted
abbrev pub term_if : Bool → ℤ → Atom → Terms → Terms
term_if wanted c a ts = if wanted then term c a ts else ts
