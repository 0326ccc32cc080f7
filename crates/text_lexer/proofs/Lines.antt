-- The tokens of a line, lexeme by lexeme.
use Rattle.std.proofs.Common.{◌≡◌, ℕ, zero, suc, ◌+◌, ◌-◌, ◌<◌, ◌≤◌, List, [], ◌∷◌, ◌++◌, true, false, drop, take}
use Rattle.std.proofs.Common.{length, get_or, refl, sym, ap, ◌∙◌, arith}
use Rattle.std.proofs.Common.{eq-eqb, ne_eqb, drop-cons, drop-drop, append_assoc, append-nil, add-zero, add-one}
use Rattle.std.proofs.Common.{take_all, length-drop, length-append}
use Rattle.std.proofs.lemmas.List.{drop_all}
use Rattle.text_lexer.specs.Lexeme.{lexeme_of}
use Rattle.text_lexer.specs.Layout.{at, put, tokens_in, line_tokens, up_to_fault, is_fault}
use Rattle.text_lexer.specs.declared.lexeme.Lexeme.{Lexeme}
use Rattle.text_lexer.specs.declared.place.Placed.{Placed}

-- behind the bytes of a token the others begin
pub tokens_behind : (line column covered : ℕ) (bytes : List ℕ) → tokens_in line column covered bytes ≡ tokens_in line (column + covered) 0 (drop covered bytes)
tokens_behind line column zero bytes = simp add-zero
tokens_behind line column (suc covered) [] = refl
tokens_behind line column (suc covered) (b ∷ rest) =
    tokens_behind line (column + 1) covered rest ∙ ap (λ (c : ℕ). tokens_in line c 0 (drop covered rest)) (omega arith)

-- a token of so many bytes
pub tokens_lexeme : (line start : ℕ) (bytes : List ℕ) (lexeme : Lexeme) → start < length bytes → (get_or bytes start 0 ≡ 0x20 → ⊥) → (get_or bytes start 0 ≡ 0x23 → ⊥) → lexeme ≡ lexeme_of (drop start bytes) → 0 < lexeme.width → tokens_in line (start + 1) 0 (drop start bytes) ≡ put (at line (start + 1)) lexeme.token ∷ tokens_in line (start + lexeme.width + 1) 0 (drop (start + lexeme.width) bytes)
tokens_lexeme line start bytes lexeme within no_blank no_comment is progress =
    let d : drop start bytes ≡ get_or bytes start 0 ∷ drop (suc start) bytes = drop-cons bytes start 0 within in
    let b = get_or bytes start 0 in
    let w = lexeme.width in
    let here : lexeme ≡ lexeme_of (b ∷ drop (suc start) bytes) = is ∙ ap lexeme_of d in
    let one : tokens_in line (start + 1) 0 (b ∷ drop (suc start) bytes) ≡ put (at line (start + 1)) lexeme.token ∷ tokens_in line (start + 1 + 1) (w - 1) (drop (suc start) bytes) =
    rw (ne_eqb b 0x20 no_blank, ne_eqb b 0x23 no_comment, ← here) refl in
    let sums : start + w ≡ suc start + (w - 1) = omega arith in
    let dropped : drop (w - 1) (drop (suc start) bytes) ≡ drop (start + w) bytes = drop-drop (w - 1) (suc start) bytes ∙ ap (λ (k : ℕ). drop k bytes) (sym sums) in
    let columns : start + 1 + 1 + (w - 1) ≡ start + w + 1 = omega arith in
    ap (tokens_in line (start + 1) 0) d ∙ one
    ∙ ap (λ (ts : List Placed). put (at line (start + 1)) lexeme.token ∷ ts)
    (tokens_behind line (start + 1 + 1) (w - 1) (drop (suc start) bytes) ∙ ap (tokens_in line (start + 1 + 1 + (w - 1)) 0) dropped ∙ ap (λ (c : ℕ). tokens_in line c 0 (drop (start + w) bytes)) columns)

-- one token more, which is no fault
pub line_next : (line start : ℕ) (bytes : List ℕ) (lexeme : Lexeme) (done : List Placed) → start < length bytes → (get_or bytes start 0 ≡ 0x20 → ⊥) → (get_or bytes start 0 ≡ 0x23 → ⊥) → lexeme ≡ lexeme_of (drop start bytes) → 0 < lexeme.width → is_fault lexeme.token ≡ false → line_tokens line bytes ≡ done ++ up_to_fault (tokens_in line (start + 1) 0 (drop start bytes)) → line_tokens line bytes ≡ (done ++ (put (at line (start + 1)) lexeme.token ∷ [])) ++ up_to_fault (tokens_in line (start + lexeme.width + 1) 0 (drop (start + lexeme.width) bytes))
line_next line start bytes lexeme done within no_blank no_comment is progress sound so_far =
    let step : tokens_in line (start + 1) 0 (drop start bytes) ≡ put (at line (start + 1)) lexeme.token ∷ tokens_in line (start + lexeme.width + 1) 0 (drop (start + lexeme.width) bytes) =
    tokens_lexeme line start bytes lexeme within no_blank no_comment is progress in
    let cut : up_to_fault (put (at line (start + 1)) lexeme.token ∷ tokens_in line (start + lexeme.width + 1) 0 (drop (start + lexeme.width) bytes)) ≡ put (at line (start + 1)) lexeme.token ∷ up_to_fault (tokens_in line (start + lexeme.width + 1) 0 (drop (start + lexeme.width) bytes)) =
    rw sound refl in
    so_far ∙ ap (λ (ts : List Placed). done ++ ts) (ap up_to_fault step ∙ cut) ∙ sym (append_assoc done (put (at line (start + 1)) lexeme.token ∷ []) (up_to_fault (tokens_in line (start + lexeme.width + 1) 0 (drop (start + lexeme.width) bytes))))

-- a blank
pub line_blank : (line start : ℕ) (bytes : List ℕ) (done : List Placed) → start < length bytes →
    get_or bytes start 0 ≡ 0x20 → line_tokens line bytes ≡ done ++ up_to_fault (tokens_in line (start + 1) 0 (drop start
    bytes)) →
    line_tokens line bytes ≡ done ++ up_to_fault (tokens_in line (start + 1 + 1) 0 (drop (start + 1) bytes))
line_blank line start bytes done within blank so_far =
    let b = get_or bytes start 0 in
    let one : tokens_in line (start + 1) 0 (b ∷ drop (suc start) bytes) ≡ tokens_in line (start + 1 + 1) 0 (drop (suc
    start) bytes) =
    rw (eq-eqb b 0x20 blank) refl in
    so_far ∙ ap (λ (ts : List Placed). done ++ up_to_fault ts)
    (ap (tokens_in line (start + 1) 0) (drop-cons bytes start 0 within) ∙ one
    ∙ ap (λ (n : ℕ). tokens_in line (start + 1 + 1) 0 (drop n bytes)) (sym (add-one start)))

nothing_more : (target done more : List Placed) → target ≡ done ++ up_to_fault more → more ≡ [] → done ≡ target
nothing_more target done more so_far none =
    sym (append-nil done) ∙ ap (λ (ts : List Placed). done ++ up_to_fault ts) (sym none) ∙ sym so_far

-- the end of the line
pub line_past : (line start : ℕ) (bytes : List ℕ) (done : List Placed) → length bytes ≤ start →
    line_tokens line bytes ≡ done ++ up_to_fault (tokens_in line (start + 1) 0 (drop start bytes)) → done ≡ line_tokens
    line bytes
line_past line start bytes done past so_far =
    nothing_more _ done _ so_far (ap (tokens_in line (start + 1) 0) (drop_all start bytes past))

-- a comment
pub line_comment : (line start : ℕ) (bytes : List ℕ) (done : List Placed) → start < length bytes →
    (get_or bytes start 0 ≡ 0x20 → ⊥) → get_or bytes start 0 ≡ 0x23 →
    line_tokens line bytes ≡ done ++ up_to_fault (tokens_in line (start + 1) 0 (drop start bytes)) → done ≡ line_tokens
    line bytes
line_comment line start bytes done within no_blank comment so_far =
    let b = get_or bytes start 0 in
    let one : tokens_in line (start + 1) 0 (b ∷ drop (suc start) bytes) ≡ [] =
    rw (ne_eqb b 0x20 no_blank, eq-eqb b 0x23 comment) refl in
    nothing_more _ done _ so_far (ap (tokens_in line (start + 1) 0) (drop-cons bytes start 0 within) ∙ one)

-- a fault, behind which nothing counts
pub line_fault : (line start : ℕ) (bytes : List ℕ) (lexeme : Lexeme) (done new : List Placed) → start < length bytes →
    (get_or bytes start 0 ≡ 0x20 → ⊥) → (get_or bytes start 0 ≡ 0x23 → ⊥) → lexeme ≡ lexeme_of (drop start bytes) →
    0 < lexeme.width → is_fault lexeme.token ≡ true → new ≡ done ++ (put (at line (start + 1)) lexeme.token ∷ []) →
    line_tokens line bytes ≡ done ++ up_to_fault (tokens_in line (start + 1) 0 (drop start bytes)) → new ≡ line_tokens
    line bytes
line_fault line start bytes lexeme done new within no_blank no_comment is progress faulty pushed so_far =
    let step : tokens_in line (start + 1) 0 (drop start bytes) ≡ put (at line (start + 1)) lexeme.token ∷ tokens_in line (start + lexeme.width + 1) 0 (drop (start + lexeme.width) bytes) =
    tokens_lexeme line start bytes lexeme within no_blank no_comment is progress in
    let cut : up_to_fault (put (at line (start + 1)) lexeme.token ∷ tokens_in line (start + lexeme.width + 1) 0 (drop
    (start + lexeme.width) bytes)) ≡ put (at line (start + 1)) lexeme.token ∷ [] =
    rw faulty refl in
    pushed ∙ ap (λ (ts : List Placed). done ++ ts) (sym cut ∙ ap up_to_fault (sym step)) ∙ sym so_far

-- the bytes from a place on
pub rest_whole : (start : ℕ) (bytes : List ℕ) → take (length bytes - start) (drop start bytes) ≡ drop start bytes
rest_whole start bytes = take_all (length bytes - start) (drop start bytes) (omega (arith, length-drop start bytes))

pub rest_some : (start : ℕ) (bytes : List ℕ) → start < length bytes → 0 < length (take (length bytes - start) (drop
    start bytes))
rest_some start bytes within = rw (rest_whole start bytes) (omega (arith, length-drop start bytes))

pub lexeme_within : (start width : ℕ) (bytes : List ℕ) → start < length bytes →
    width ≤ length (take (length bytes - start) (drop start bytes)) → start + width ≤ length bytes
lexeme_within start width bytes within fits =
    omega (arith, fits, length-drop start bytes, ap length (rest_whole start bytes))

-- at most as many tokens as bytes
pub pushed_few : (done new : List Placed) (p : Placed) (start width : ℕ) → new ≡ done ++ (p ∷ []) → length done ≤
    start →
    0 < width → length new ≤ start + width
pushed_few done new p start width put few progress = rw put (omega (arith, length-append done (p ∷ []), few, progress))

pub blank_few : (done : List Placed) (start : ℕ) → length done ≤ start → length done ≤ start + 1
blank_few done start few = omega arith

pub blank_within : (start : ℕ) (bytes : List ℕ) → start < length bytes → start + 1 ≤ length bytes
blank_within start bytes within = omega arith

pub few_within : (done : List Placed) (start : ℕ) (bytes : List ℕ) → length done ≤ start → start ≤ length bytes →
    length done ≤ length bytes
few_within done start bytes few within = omega arith

pub fault_few : (done new : List Placed) (p : Placed) (start : ℕ) (bytes : List ℕ) → new ≡ done ++ (p ∷ []) →
    length done ≤ start → start < length bytes → length new ≤ length bytes
fault_few done new p start bytes put few within = rw put (omega (arith, length-append done (p ∷ []), few, within))

-- the tokens with the one that is pushed
pub next_whole : (line start : ℕ) (bytes : List ℕ) (lexeme : Lexeme) (done new : List Placed) →
    new ≡ done ++ (put (at line (start + 1)) lexeme.token ∷ []) → start < length bytes →
    (get_or bytes start 0 ≡ 0x20 → ⊥) → (get_or bytes start 0 ≡ 0x23 → ⊥) → lexeme ≡ lexeme_of (drop start bytes) →
    0 < lexeme.width → is_fault lexeme.token ≡ false →
    line_tokens line bytes ≡ done ++ up_to_fault (tokens_in line (start + 1) 0 (drop start bytes)) →
    line_tokens line bytes ≡ new ++ up_to_fault (tokens_in line (start + lexeme.width + 1) 0 (drop (start +
    lexeme.width) bytes))
next_whole line start bytes lexeme done new pushed within no_blank no_comment is progress sound so_far =
    line_next line start bytes lexeme done within no_blank no_comment is progress sound so_far
    ∙ ap (λ (ts : List Placed). ts ++ up_to_fault (tokens_in line (start + lexeme.width + 1) 0 (drop (start +
    lexeme.width) bytes)))
    (sym pushed)
