-- Bytes of names.
use Rattle.std.proofs.Common.{◌≡◌, ℕ, ◌+◌, ◌<◌, ◌≤◌, Bool, true, List, get_or, take, drop, length, refl, arith}
use Rattle.std.proofs.Common.{add-one, drop-cons, below_more, get_or-take, length-take-le}
use Rattle.std.proofs.lemmas.Bool.Decides.{nat_tests}
use Rattle.std.specs.List.{prefix_len}
use Rattle.text_lexer.specs.Bytes.{goes_on_name}

pub name_ascii : (b : ℕ) → goes_on_name b ≡ true → b < 0x80
name_ascii b is = grind (arith, nat_tests)

pub ascii_more : (bytes : List ℕ) (count : ℕ) → ((k : ℕ) → k < count → get_or bytes k 0 < 0x80) → goes_on_name (get_or bytes count 0) ≡ true → (k : ℕ) → k < count + 1 → get_or bytes k 0 < 0x80
ascii_more bytes count below is = below_more (λ (k : ℕ). get_or bytes k 0 < 0x80) count below (name_ascii (get_or bytes count 0) is)

pub ascii_front : (bytes : List ℕ) (count : ℕ) → count ≤ length bytes → ((k : ℕ) → k < count → get_or bytes k 0 < 0x80) → (k : ℕ) → k < length (take count bytes) → get_or (take count bytes) k 0 < 0x80
ascii_front bytes count within below k less =
    let inside : k < count = omega (arith, less, length-take-le count bytes) in
    rw (get_or-take count bytes k 0 inside) (below k inside)

-- one byte more at the front with which a run goes on
pub run_more : (goes_on : ℕ → Bool) (bytes : List ℕ) (count : ℕ) → count < length bytes →
    goes_on (get_or bytes count 0) ≡ true → prefix_len goes_on bytes ≡ count + prefix_len goes_on (drop count bytes) →
    prefix_len goes_on bytes ≡ count + 1 + prefix_len goes_on (drop (count + 1) bytes)
run_more goes_on bytes count within is so_far =
    let rest : prefix_len goes_on (drop count bytes) ≡ 1 + prefix_len goes_on (drop (count + 1) bytes) =
    rw (drop-cons bytes count 0 within, is, add-one count) refl in
    omega (arith, so_far, rest)
