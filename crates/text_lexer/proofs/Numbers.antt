-- Decimal literals.
use Rattle.std.proofs.Common.{◌≡◌, ℕ, suc, ◌+◌, ◌*◌, ◌-◌, ◌<◌, ◌≤◌, List, [], ◌∷◌, drop, length, get_or}
use Rattle.std.proofs.Common.{arith, refl, sym, ap, add-one, ◌∙◌, drop-cons, le-ltb}
use Rattle.text_lexer.specs.Lexeme.{decimal, literal}
use Rattle.text_lexer.specs.declared.token.Literal.TheVariants.{TooLarge}

-- more digits write no smaller number
pub decimal-le : (n : ℕ) (digits : List ℕ) → n ≤ decimal n digits
decimal-le n [] = omega arith
decimal-le n (d ∷ digits) = omega (arith, decimal-le (n * 10 + (d - 0x30)) digits)

-- one digit more is passed
pub decimal_next : (digits : List ℕ) (value i next : ℕ) → i < length digits →
    decimal 0 digits ≡ decimal value (drop i digits) → next ≡ value * 10 + (get_or digits i 0 - 0x30) →
    decimal 0 digits ≡ decimal next (drop (i + 1) digits)
decimal_next digits value i next h so_far is =
    so_far ∙ ap (decimal value) (drop-cons digits i 0 h)
    ∙ ap (λ (v : ℕ). decimal v (drop (suc i) digits)) (sym is)
    ∙ ap (λ (k : ℕ). decimal next (drop k digits)) (sym (add-one i))

-- the first digits write too large a number already
pub too_large : (digits : List ℕ) (value i next : ℕ) → i < length digits → decimal 0 digits ≡ decimal value (drop i digits) → next ≡ value * 10 + (get_or digits i 0 - 0x30) → 0x80000000 ≤ next → TooLarge ≡ literal digits
too_large digits value i next h so_far is big =
    let e : decimal 0 digits ≡ decimal next (drop (i + 1) digits) = decimal_next digits value i next h so_far is in
    let le : 0x80000000 ≤ decimal 0 digits = omega (arith, e, big, decimal-le next (drop (i + 1) digits)) in
    rw (le-ltb (decimal 0 digits) 0x80000000 le) refl
