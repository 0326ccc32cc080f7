-- The text of a template is read as one string.
use Rattle.std.proofs.Common.{◌≡◌, inl, inr, ℕ, zero, suc, ◌+◌, ◌-◌, ◌<◌, List, [], ◌∷◌, ◌++◌, flat_map, length, Bool, true, false, cond, eqb, codes, IsAscii, refl, sym, ap, ◌∙◌, append_assoc, arith, subst, length-append}
use Rattle.std.proofs.lemmas.Bool.Decides.{nat_tests}
use Rattle.std.proofs.lemmas.Str.{chars-IsAscii, encode_ascii}
use Rattle.text_lexer.specs.Bytes.{is_printable}
use Rattle.text_lexer.specs.Quoted.{quoted as read, behind}
use Rattle.text_lexer.specs.Lexeme.{string_lexeme}
use Rattle.text_lexer.specs.declared.quoted.Quoted.{Quoted}
use Rattle.text_lexer.specs.declared.quoted.Ending.TheVariants.{Closed}
use Rattle.text_lexer.specs.declared.token.Token.{Token}
use Rattle.text_lexer.specs.declared.token.Token.TheVariants as t
use Rattle.text_show.specs.Layout.{escaped, quoted}
use Rattle.exo_types_laws.specs.Shown.Names.{Each}
use Rattle.exo_types_laws.specs.Shown.Writable.{IsTemplateByte}
use Rattle.exo_types_laws.proofs.OfShown.Bare.{bare, skip}
use Rattle.exo_types_laws.proofs.OfShown.Pieces.{Any, Reads, OneLine, one_line_append}

is_byte : (c n : ℕ) → eqb c n ≡ true → n ≡ c
is_byte c n e = grind (arith, nat_tests, e)

ascii : (c : ℕ) → IsTemplateByte c → c < 0x80
ascii c (inl e) = omega (arith, e)
ascii c (inr e) = grind (arith, nat_tests, e)

ascii_bytes : (x : List ℕ) → Each IsTemplateByte x → IsAscii x
ascii_bytes [] h i = omega arith
ascii_bytes (c ∷ x) h zero = ascii c h.0
ascii_bytes (c ∷ x) h (suc i) = ascii_bytes x h.1 i

plain : (c : ℕ) → IsTemplateByte c → eqb c 10 ≡ false → is_printable c ≡ true
plain c (inl e) other = absurd (grind (arith, nat_tests, e, other))
plain c (inr e) other = e

abbrev spelled_by : ℕ → Bool → Bool → Bool → List ℕ
spelled_by c feed quote backslash = cond feed (codes "\\n") (cond quote (codes "\\\"") (cond backslash (codes "\\\\") (c ∷ [])))

read_plain : (c : ℕ) (x : List ℕ) → eqb c 0x22 ≡ false → eqb c 0x5C ≡ false → is_printable c ≡ true → read 0x22 (c ∷ x) ≡ behind (c ∷ []) 1 (read 0x22 x)
read_plain c x e f g = rw (e, f, g) refl

one_by : (c : ℕ) (feed quote backslash : Bool) (x : List ℕ) → eqb c 10 ≡ feed → eqb c 34 ≡ quote → eqb c 92 ≡ backslash → IsTemplateByte c → read 0x22 (spelled_by c feed quote backslash ++ x) ≡ behind (c ∷ []) (length (spelled_by c feed quote backslash)) (read 0x22 x)
one_by c true quote backslash x e f g h = subst (λ (d : ℕ). read 0x22 (codes "\\n" ++ x) ≡ behind (d ∷ []) 2 (read 0x22 x)) (is_byte c 10 e) refl
one_by c false true backslash x e f g h = subst (λ (d : ℕ). read 0x22 (codes "\\\"" ++ x) ≡ behind (d ∷ []) 2 (read 0x22 x)) (is_byte c 34 f) refl
one_by c false false true x e f g h = subst (λ (d : ℕ). read 0x22 (codes "\\\\" ++ x) ≡ behind (d ∷ []) 2 (read 0x22 x)) (is_byte c 92 g) refl
one_by c false false false x e f g h = read_plain c x f g (plain c h e)

spelled_is : (c : ℕ) → IsTemplateByte c → escaped c ≡ spelled_by c (eqb c 10) (eqb c 34) (eqb c 92)
spelled_is c h = ap (λ (u : List ℕ). cond (eqb c 10) (codes "\\n") (cond (eqb c 34) (codes "\\\"") (cond (eqb c 92) (codes "\\\\") u))) (encode_ascii c (ascii c h))

one_read : (c : ℕ) (x : List ℕ) → IsTemplateByte c → read 0x22 (escaped c ++ x) ≡ behind (c ∷ []) (length (escaped c)) (read 0x22 x)
one_read c x h =
    ap (λ (u : List ℕ). read 0x22 (u ++ x)) (spelled_is c h) ∙ one_by c (eqb c 10) (eqb c 34) (eqb c 92) x refl refl refl h
    ∙ ap (λ (u : List ℕ). behind (c ∷ []) (length u) (read 0x22 x)) (sym (spelled_is c h))

-- the string behind its first quote
read_is : (x rest : List ℕ) → Each IsTemplateByte x → read 0x22 (flat_map escaped x ++ (0x22 ∷ rest)) ≡ record { text = x; width = length (flat_map escaped x) + 1; ending = Closed }
read_is [] rest h = refl
read_is (c ∷ x) rest h =
    let n : length (escaped c) + (length (flat_map escaped x) + 1) ≡ length (escaped c ++ flat_map escaped x) + 1 = omega (arith, length-append (escaped c) (flat_map escaped x)) in
    ap (read 0x22) (append_assoc (escaped c) (flat_map escaped x) (0x22 ∷ rest))
    ∙ one_read c (flat_map escaped x ++ (0x22 ∷ rest)) h.0
    ∙ ap (behind (c ∷ []) (length (escaped c))) (read_is x rest h.1)
    ∙ ap (λ (w : ℕ). record { text = c ∷ x; width = w; ending = Closed }) n

line_by : (c : ℕ) (feed quote backslash : Bool) → eqb c 10 ≡ feed → IsTemplateByte c → OneLine (spelled_by c feed quote backslash)
line_by c true quote backslash e h = (refl, (refl, tt))
line_by c false true backslash e h = (refl, (refl, tt))
line_by c false false true e h = (refl, (refl, tt))
line_by c false false false e h =
    let go : is_printable c ≡ true = plain c h e in
    (grind (arith, nat_tests, go), tt)

escaped_line : (x : List ℕ) → Each IsTemplateByte x → OneLine (flat_map escaped x)
escaped_line [] h = tt
escaped_line (c ∷ x) h = one_line_append (escaped c) (flat_map escaped x) (subst OneLine (sym (spelled_is c h.0)) (line_by c (eqb c 10) (eqb c 34) (eqb c 92) refl h.0)) (escaped_line x h.1)

abbrev first_of : Quoted → List ℕ → List Token
first_of q rest = (string_lexeme q).token ∷ bare ((string_lexeme q).width - 1) rest

quoted_goes : (x rest : List ℕ) → Each IsTemplateByte x → bare 0 (0x22 ∷ (flat_map escaped x ++ (0x22 ∷ rest))) ≡ t.Str x ∷ bare 0 rest
quoted_goes x rest h =
    let y = flat_map escaped x in
    let n : length y + 1 + 1 - 1 ≡ length (y ++ (0x22 ∷ [])) = omega (arith, length-append y (0x22 ∷ [])) in
    ap (λ (q : Quoted). first_of q (y ++ (0x22 ∷ rest))) (read_is x rest h)
    ∙ ap (λ (ts : List Token). t.Str x ∷ ts) (ap (λ (m : ℕ). bare m (y ++ (0x22 ∷ rest))) n ∙ ap (bare (length (y ++ (0x22 ∷ [])))) (sym (append_assoc y (0x22 ∷ []) rest)) ∙ skip (y ++ (0x22 ∷ [])) rest)

pub quoted_reads : (x : List ℕ) → Each IsTemplateByte x → Reads Any (quoted x) (t.Str x ∷ [])
quoted_reads x h =
    subst (λ (cs : List ℕ). Reads Any (codes "\"" ++ flat_map escaped cs ++ codes "\"") (t.Str x ∷ [])) (sym (chars-IsAscii x (ascii_bytes x h)))
    (record {
      line = (refl, one_line_append (flat_map escaped x) (codes "\"") (escaped_line x h) (refl, tt));
      goes = λ rest any. ap (λ (u : List ℕ). bare 0 (0x22 ∷ u)) (append_assoc (flat_map escaped x) (codes "\"") rest) ∙ quoted_goes x rest h;
    })
