-- A line that begins where no bracket is open, by its first token.
use Rattle.std.proofs.Common.{◌≡◌, ℕ, ◌+◌, List, [], ◌∷◌, ◌++◌, Bool, true, false, cond, length, refl, sym, ap, ◌∙◌}
use Rattle.std.specs.Prelude.{Some, None, slice_get}
use Rattle.text_lexer.specs.Layout.{Laid, laid, begun, at, line_tokens, is_import, is_foreign, indentation}
use Rattle.text_lexer.specs.Layout.{blocks_at, with_end, brackets_after}
use Rattle.text_lexer.specs.declared.place.Place.{Place}
use Rattle.text_lexer.specs.declared.place.Placed.{Placed}

cond_true : (test : Bool) (one other : Laid) → true ≡ test → cond test one other ≡ one
cond_true true one other is = refl
cond_true false one other is = cc (is)

cond_false : (test : Bool) (one other : Laid) → false ≡ test → cond test one other ≡ other
cond_false true one other is = cc (is)
cond_false false one other is = refl

-- a line whose tokens change no block
abbrev pub unchanged : List ℕ → List Placed → Laid
unchanged blocks tokens = record { placed = tokens; blocks = blocks; brackets = 0 }

-- one whose first token is this, which is no foreign byte
abbrev pub begun_by : List ℕ → Place → List Placed → Placed → Laid
begun_by blocks end tokens first = record {
  placed = indentation first.place.line first.place.column blocks ++ with_end 0 end tokens;
  blocks = blocks_at first.place.column blocks;
  brackets = brackets_after 0 tokens;
}

begun_none : (blocks : List ℕ) (end : Place) (tokens : List Placed) → None ≡ slice_get tokens 0 →
    begun blocks end tokens ≡ unchanged blocks tokens
begun_none blocks end [] is = refl
begun_none blocks end (p ∷ more) is = cc (is)

begun_foreign : (blocks : List ℕ) (end : Place) (tokens : List Placed) (first : Placed) →
    Some first ≡ slice_get tokens 0 → true ≡ is_foreign first.token →
    begun blocks end tokens ≡ unchanged blocks tokens
begun_foreign blocks end [] first is foreign = cc (is)
begun_foreign blocks end (p ∷ more) first is foreign =
    let e : first ≡ p = cc in
    cond_true (is_foreign p.token) _ _ (foreign ∙ ap (λ (q : Placed). is_foreign q.token) e)

begun_some : (blocks : List ℕ) (end : Place) (tokens : List Placed) (first : Placed) →
    Some first ≡ slice_get tokens 0 → false ≡ is_foreign first.token →
    begun blocks end tokens ≡ begun_by blocks end tokens first
begun_some blocks end [] first is known = cc (is)
begun_some blocks end (p ∷ more) first is known =
    let e : first ≡ p = cc in
    cond_false (is_foreign p.token) _ _ (known ∙ ap (λ (q : Placed). is_foreign q.token) e)
    ∙ ap (λ (q : Placed). begun_by blocks end (p ∷ more) q) (sym e)

-- a line that is no import
laid_begun : (line : ℕ) (blocks bytes : List ℕ) (tokens : List Placed) (l : Laid) → false ≡ is_import bytes →
    tokens ≡ line_tokens line bytes → begun blocks (at line (length bytes + 1)) tokens ≡ l →
    laid line blocks 0 bytes ≡ l
laid_begun line blocks bytes tokens l other is gives =
    cond_false (is_import bytes) _ _ other
    ∙ ap (λ (ts : List Placed). begun blocks (at line (length bytes + 1)) ts) (sym is) ∙ gives

-- an import
pub laid_import : (line : ℕ) (blocks bytes : List ℕ) → true ≡ is_import bytes →
    laid line blocks 0 bytes ≡ unchanged blocks []
laid_import line blocks bytes is = cond_true (is_import bytes) _ _ is

-- a line without tokens
pub laid_none : (line : ℕ) (blocks bytes : List ℕ) (tokens read : List Placed) → false ≡ is_import bytes →
    tokens ≡ line_tokens line bytes → read ≡ tokens → None ≡ slice_get read 0 →
    laid line blocks 0 bytes ≡ unchanged blocks tokens
laid_none line blocks bytes tokens read other is same none =
    laid_begun line blocks bytes tokens _ other is
    (begun_none blocks _ tokens (none ∙ ap (λ (ts : List Placed). slice_get ts 0) same))

-- a foreign byte first
pub laid_foreign : (line : ℕ) (blocks bytes : List ℕ) (tokens read : List Placed) (first : Placed) →
    false ≡ is_import bytes → tokens ≡ line_tokens line bytes → read ≡ tokens → Some first ≡ slice_get read 0 →
    true ≡ is_foreign first.token → laid line blocks 0 bytes ≡ unchanged blocks tokens
laid_foreign line blocks bytes tokens read first other is same some foreign =
    laid_begun line blocks bytes tokens _ other is
    (begun_foreign blocks _ tokens first (some ∙ ap (λ (ts : List Placed). slice_get ts 0) same) foreign)

-- another token first
pub laid_some : (line : ℕ) (blocks bytes : List ℕ) (tokens read : List Placed) (first : Placed) →
    false ≡ is_import bytes → tokens ≡ line_tokens line bytes → read ≡ tokens → Some first ≡ slice_get read 0 →
    false ≡ is_foreign first.token →
    laid line blocks 0 bytes ≡ begun_by blocks (at line (length bytes + 1)) tokens first
laid_some line blocks bytes tokens read first other is same some known =
    laid_begun line blocks bytes tokens _ other is
    (begun_some blocks _ tokens first (some ∙ ap (λ (ts : List Placed). slice_get ts 0) same) known)

abbrev pub placed_of : Laid → List Placed
placed_of l = l.placed

abbrev pub blocks_of : Laid → List ℕ
blocks_of l = l.blocks

abbrev pub brackets_of : Laid → ℕ
brackets_of l = l.brackets
