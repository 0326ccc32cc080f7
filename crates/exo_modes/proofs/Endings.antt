-- Texts that begin with others.
use Rattle.std.proofs.Common.{◌≡◌, ℕ, ◌<◌, ◌≤◌, false, ◌&&◌, List, [], ◌∷◌, ◌++◌, length, take, drop}
use Rattle.std.proofs.Common.{refl, arith}
use Rattle.exo_meaning.specs.Units.{is_text}

-- a text is the front and the back of another
pub text_parts : (name text ending : List ℕ) → length name ≤ length text → is_text text (name ++ ending) ≡ (is_text (take (length name) text) name && is_text (drop (length name) text) ending)
text_parts [] text ending h = refl
text_parts (x ∷ name) [] ending h = absurd (omega (arith, h))
text_parts (x ∷ name) (y ∷ text) ending h = let e = text_parts name text ending (omega (arith, h)) in grind arith

-- a shorter text is none
pub text_short : (name text ending : List ℕ) → length text < length name → is_text text (name ++ ending) ≡ false
text_short [] text ending h = absurd (omega (arith, h))
text_short (x ∷ name) [] ending h = refl
text_short (x ∷ name) (y ∷ text) ending h = let e = text_short name text ending (omega (arith, h)) in grind arith
