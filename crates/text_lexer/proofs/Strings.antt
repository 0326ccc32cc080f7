-- Parts of strings.
use Rattle.std.proofs.Common.{◌≡◌, ℕ, List, ◌∷◌, refl, sym, ap, ◌∙◌, subst, ne_eqb}
use Rattle.text_lexer.specs.Quoted.{quoted, after_backslash, IsPart}
use Rattle.text_lexer.specs.declared.quoted.Quoted.{Quoted}
use Rattle.text_lexer.specs.declared.quoted.Part.{Part}

-- a part that begins with a backslash
pub part_of_backslash : (quote b : ℕ) (bytes rest : List ℕ) (part : Part) → bytes ≡ b ∷ rest → (b ≡ quote → ⊥) → b ≡ 0x5C → IsPart quote (0x5C ∷ rest) (after_backslash quote rest) part → IsPart quote bytes (quoted quote bytes) part
part_of_backslash quote b bytes rest part front other backslash is =
    let here : bytes ≡ 0x5C ∷ rest = front ∙ ap (λ x. x ∷ rest) backslash in
    let ne : 0x5C ≡ quote → ⊥ = λ e. other (backslash ∙ e) in
    let e : quoted quote (0x5C ∷ rest) ≡ after_backslash quote rest = rw (ne_eqb 0x5C quote ne) refl in
    rw here (subst (λ (q : Quoted). IsPart quote (0x5C ∷ rest) q part) (sym e) is)
