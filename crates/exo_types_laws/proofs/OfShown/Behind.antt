-- A text behind another one, whose last line is ended.
use Rattle.std.proofs.Common.{◌≡◌, ℕ, zero, suc, ◌+◌, ◌-◌, ◌≤◌, ◌<◌, List, [], ◌∷◌, ◌++◌, map, replicate, Bool, true, false, if◌then◌else◌, nat_eq, nat_lt, length, refl, sym, ap, ap₂, ◌∙◌, append_assoc, arith, subst, true≢false, lt-ltb}
use Rattle.std.proofs.lemmas.List.{map-append}
use Rattle.std.proofs.lemmas.Bool.Decides.{nat_tests}
use Rattle.text_lexer.specs.Layout.{at, put, token_of, lines, longer, is_skipped_return, line_tokens, is_fault, is_foreign, up_to_fault, brackets_behind, brackets_after, is_import, innermost, still_open, blocks_at, indentation, line_end, with_end, begun, laid, layout, end_place, Laid}
use Rattle.text_lexer.specs.declared.place.Place.{Place}
use Rattle.text_lexer.specs.declared.place.Placed.{Placed}
use Rattle.text_lexer.specs.declared.token.Token.{Token}
use Rattle.text_lexer.specs.declared.token.Token.TheVariants as t
use Rattle.text_lexer.specs.declared.token.Fault.TheVariants as f
use Rattle.exo_reader.specs.Texts.{tokens_of}
use Rattle.exo_types_laws.specs.Shown.Below.{EndsLine}
use Rattle.exo_types_laws.proofs.OfShown.Rows.{IsSound, open_after, open_is, IsRow, IsLaid, laid_is}
use Rattle.exo_types_laws.proofs.OfShown.Rows.{indent_of, text_out, row, row_after, map_replicate}
use Rattle.exo_types_laws.proofs.OfShown.Rows.{lines_of_row}
use Rattle.exo_types_laws.proofs.OfShown.Sound.{Whole}

-- ---- lines

-- the lines of a text before the last one, which is empty
pub record Lines (text : List ℕ) : Type 0 where
  pub first : List ℕ
  pub more : List (List ℕ)
  pub own : lines text ≡ (first ∷ more) ++ ([] ∷ [])
  pub behind : (rest : List ℕ) → lines (text ++ rest) ≡ (first ∷ more) ++ lines rest

lines_by : (b c : ℕ) (text : List ℕ) (feed skipped : Bool) → nat_eq b 0x0A ≡ feed → is_skipped_return b (c ∷ text) ≡ skipped → Lines (c ∷ text) → Lines (b ∷ c ∷ text)
lines_by b c text true skipped p q l = record {
  first = [];
  more = l.first ∷ l.more;
  own = rw p (ap (λ (ls : List (List ℕ)). [] ∷ ls) l.own);
  behind = λ rest. rw p (ap (λ (ls : List (List ℕ)). [] ∷ ls) (l.behind rest));
}
lines_by b c text false true p q l = record {
  first = l.first;
  more = l.more;
  own = rw (p, q) l.own;
  behind = λ rest. rw (p, q) (l.behind rest);
}
lines_by b c text false false p q l = record {
  first = b ∷ l.first;
  more = l.more;
  own = rw (p, q) (ap (longer b) l.own);
  behind = λ rest. rw (p, q) (ap (longer b) (l.behind rest));
}

pub ended_lines : (b : ℕ) (text : List ℕ) → EndsLine (b ∷ text) → Lines (b ∷ text)
ended_lines b [] h = record {
  first = [];
  more = [];
  own = ap (λ (c : ℕ). lines (c ∷ [])) h;
  behind = λ rest. ap (λ (c : ℕ). lines (c ∷ rest)) h;
}
ended_lines b (c ∷ text) h = lines_by b c text (nat_eq b 0x0A) (is_skipped_return b (c ∷ text)) refl refl (ended_lines c text h)

-- ---- line after line

abbrev AllIndented : List ℕ → Type 0
AllIndented [] = Unit {0}
AllIndented (c ∷ blocks) = (1 < c) × AllIndented blocks

-- what lines give, and what is open behind them
record Ran (line : ℕ) (blocks : List ℕ) (brackets : ℕ) (ls : List (List ℕ)) : Type 0 where
  out : List Placed
  last : ℕ
  open_blocks : List ℕ
  open_brackets : ℕ
  is : (end : Place) (rest : List (List ℕ)) → layout end line blocks brackets (ls ++ rest) ≡ out ++ layout end last open_blocks open_brackets rest
  indented : AllIndented open_blocks
  counted : IsSound (map token_of out) → open_brackets ≡ open_after brackets (map token_of out)

still_by : (column c : ℕ) (blocks : List ℕ) (q : Bool) → AllIndented (c ∷ blocks) → AllIndented (still_open column blocks) → AllIndented (if q then still_open column blocks else c ∷ blocks)
still_by column c blocks true h more = more
still_by column c blocks false h more = h

still_indented : (column : ℕ) (blocks : List ℕ) → AllIndented blocks → AllIndented (still_open column blocks)
still_indented column [] h = tt
still_indented column (c ∷ blocks) h = still_by column c blocks (nat_lt column c) h (still_indented column blocks h.1)

innermost_low : (blocks : List ℕ) → AllIndented blocks → 1 ≤ innermost blocks
innermost_low [] h = omega arith
innermost_low (c ∷ blocks) h = let l : 1 < c = h.0 in omega (arith, l)

blocks_indented : (column : ℕ) (blocks : List ℕ) → AllIndented blocks → AllIndented (blocks_at column blocks)
blocks_indented column blocks h = by (nat_lt (innermost blocks) column) refl
  where
    by : (q : Bool) → nat_lt (innermost blocks) column ≡ q → AllIndented (if q then column ∷ blocks else still_open column blocks)
    by true p = let l = innermost_low blocks h in (grind (arith, nat_tests, p, l), h)
    by false p = still_indented column blocks h

-- line ends, indents, dedents and faults are no brackets
indentation_open : (n line column : ℕ) (blocks : List ℕ) → open_after n (map token_of (indentation line column blocks)) ≡ n
indentation_open n line column blocks = by (nat_lt (innermost blocks) column) (nat_eq (innermost (still_open column blocks)) column)
  where
    dedents : (m : ℕ) → open_after n (map token_of (replicate m (put (at line 1) t.Dedent))) ≡ n
    dedents zero = refl
    dedents (suc m) = dedents m

    by : (q u : Bool) → open_after n (map token_of (if q then put (at line 1) t.Indent ∷ [] else (if u then replicate (length blocks - length (still_open column blocks)) (put (at line 1) t.Dedent) else put (at line 1) (t.Bad f.Indentation) ∷ []))) ≡ n
    by true u = refl
    by false true = dedents (length blocks - length (still_open column blocks))
    by false false = refl

open_append : (n : ℕ) (xs ys : List Token) → open_after n (xs ++ ys) ≡ open_after (open_after n xs) ys
open_append n [] ys = refl
open_append n (x ∷ xs) ys = open_append (brackets_behind n x) xs ys

line_end_open : (n m : ℕ) (end : Place) → open_after n (map token_of (line_end m end)) ≡ n
line_end_open n zero end = refl
line_end_open n (suc m) end = refl

with_end_open : (n : ℕ) (end : Place) (ps : List Placed) → open_after n (map token_of (with_end n end ps)) ≡ brackets_after n ps
with_end_open n end ps =
    ap (open_after n) (map-append token_of ps (line_end (brackets_after n ps) end)) ∙ open_append n (map token_of ps) (map token_of (line_end (brackets_after n ps) end))
    ∙ line_end_open (open_after n (map token_of ps)) (brackets_after n ps) end ∙ sym (open_is n ps)

-- one line
record Steps (l : Laid) (n : ℕ) : Type 0 where
  indented : AllIndented l.blocks
  counted : IsSound (map token_of l.placed) → l.brackets ≡ open_after n (map token_of l.placed)

foreign_fault : (token : Token) → is_foreign token ≡ true → is_fault token ≡ true
foreign_fault (t.Bad fault) e = refl
foreign_fault other e = absurd (true≢false (sym e))

begun_steps : (blocks : List ℕ) (end : Place) (ps : List Placed) → AllIndented blocks → Steps (begun blocks end ps) 0
begun_steps blocks end [] h = record { indented = h; counted = λ s. refl }
begun_steps blocks end (p ∷ more) h = by (is_foreign p.token) refl
  where
    by : (q : Bool) → is_foreign p.token ≡ q → Steps (if q then record { placed = p ∷ more; blocks = blocks; brackets = 0 } else record { placed = indentation p.place.line p.place.column blocks ++ with_end 0 end (p ∷ more); blocks = blocks_at p.place.column blocks; brackets = brackets_after 0 (p ∷ more) }) 0
    by true e = record { indented = h; counted = λ s. absurd (true≢false (sym (foreign_fault p.token e) ∙ s.0)) }
    by false e = record {
      indented = blocks_indented p.place.column blocks h;
      counted = λ s. sym (
          ap (open_after 0) (map-append token_of (indentation p.place.line p.place.column blocks) (with_end 0 end (p ∷ more)))
          ∙ open_append 0 (map token_of (indentation p.place.line p.place.column blocks)) (map token_of (with_end 0 end (p ∷ more)))
          ∙ ap (λ (n : ℕ). open_after n (map token_of (with_end 0 end (p ∷ more)))) (indentation_open 0 p.place.line p.place.column blocks)
          ∙ with_end_open 0 end (p ∷ more));
    }

laid_steps : (line : ℕ) (blocks : List ℕ) (n : ℕ) (bytes : List ℕ) → AllIndented blocks → Steps (laid line blocks n bytes) n
laid_steps line blocks zero bytes h = by (is_import bytes)
  where
    by : (q : Bool) → Steps (if q then record { placed = []; blocks = blocks; brackets = 0 } else begun blocks (at line (length bytes + 1)) (line_tokens line bytes)) 0
    by true = record { indented = h; counted = λ s. refl }
    by false = begun_steps blocks (at line (length bytes + 1)) (line_tokens line bytes) h
laid_steps line blocks (suc n) bytes h = record { indented = h; counted = λ s. sym (with_end_open (suc n) (at line (length bytes + 1)) (line_tokens line bytes)) }

sound_left : (xs ys : List Token) → IsSound (xs ++ ys) → IsSound xs
sound_left [] ys h = tt
sound_left (x ∷ xs) ys h = (h.0, sound_left xs ys h.1)

sound_right : (xs ys : List Token) → IsSound (xs ++ ys) → IsSound ys
sound_right [] ys h = h
sound_right (x ∷ xs) ys h = sound_right xs ys h.1

run : (ls : List (List ℕ)) (line : ℕ) (blocks : List ℕ) (n : ℕ) → AllIndented blocks → Ran line blocks n ls
run [] line blocks n h = record { out = []; last = line; open_blocks = blocks; open_brackets = n; is = λ end rest. refl; indented = h; counted = λ s. refl }
run (bytes ∷ ls) line blocks n h =
    let l = laid line blocks n bytes in
    let step : Steps l n = laid_steps line blocks n bytes h in
    let more = run ls (line + 1) l.blocks l.brackets step.indented in
    record {
      out = l.placed ++ more.out;
      last = more.last;
      open_blocks = more.open_blocks;
      open_brackets = more.open_brackets;
      is = λ end rest. ap (λ (ps : List Placed). l.placed ++ ps) (more.is end rest) ∙ sym (append_assoc l.placed more.out (layout end more.last more.open_blocks more.open_brackets rest));
      indented = more.indented;
      counted = λ s.
          let parts : IsSound (map token_of l.placed ++ map token_of more.out) = subst IsSound (map-append token_of l.placed more.out) s in
          let first : l.brackets ≡ open_after n (map token_of l.placed) = step.counted (sound_left (map token_of l.placed) (map token_of more.out) parts) in
          more.counted (sound_right (map token_of l.placed) (map token_of more.out) parts)
          ∙ ap (λ (m : ℕ). open_after m (map token_of more.out)) first
          ∙ sym (open_append n (map token_of l.placed) (map token_of more.out))
          ∙ ap (open_after n) (sym (map-append token_of l.placed more.out));
    }

-- ---- the end of a text

-- behind its last line, which is empty
tail_open : (end : Place) (line : ℕ) (blocks : List ℕ) (n : ℕ) → open_after n (map token_of (layout end line blocks n ([] ∷ []))) ≡ n
tail_open end line blocks zero = dedents (length blocks)
  where
    dedents : (m : ℕ) → open_after 0 (map token_of (replicate m (put end t.Dedent))) ≡ 0
    dedents zero = refl
    dedents (suc m) = dedents m
tail_open end line blocks (suc n) = dedents (length blocks)
  where
    dedents : (m : ℕ) → open_after (suc n) (map token_of (replicate m (put end t.Dedent))) ≡ suc n
    dedents zero = refl
    dedents (suc m) = dedents m

tail_out : (end : Place) (line : ℕ) (blocks : List ℕ) → map token_of (layout end line blocks 0 ([] ∷ [])) ≡ replicate (length blocks) t.Dedent
tail_out end line blocks = map_replicate (length blocks) (put end t.Dedent)

unfaulted : (ps : List Placed) → IsSound (map token_of (up_to_fault ps)) → up_to_fault ps ≡ ps
unfaulted [] h = refl
unfaulted (p ∷ more) h =
    ap (λ (q : Bool). p ∷ (if q then [] else up_to_fault more)) h.0
    ∙ ap (λ (l : List Placed). p ∷ l) (unfaulted more (subst (λ (q : Bool). IsSound (map token_of (if q then [] else up_to_fault more))) h.0 h.1))

-- ---- a line that ends all blocks

all_closed : (blocks : List ℕ) → AllIndented blocks → still_open 1 blocks ≡ []
all_closed [] h = refl
all_closed (c ∷ blocks) h = let l : 1 < c = h.0 in ap (λ (q : Bool). if q then still_open 1 blocks else c ∷ blocks) (lt-ltb 1 c l) ∙ all_closed blocks h.1

none_opens : (blocks : List ℕ) → AllIndented blocks → nat_lt (innermost blocks) 1 ≡ false
none_opens blocks h = let l = innermost_low blocks h in grind (arith, nat_tests, l)

closes : (blocks : List ℕ) → AllIndented blocks → blocks_at 1 blocks ≡ []
closes blocks h = ap (λ (q : Bool). if q then 1 ∷ blocks else still_open 1 blocks) (none_opens blocks h) ∙ all_closed blocks h

closing : (line : ℕ) (blocks : List ℕ) → AllIndented blocks → map token_of (indentation line 1 blocks) ≡ replicate (length blocks) t.Dedent
closing line blocks h =
    let zero_left : length blocks - 0 ≡ length blocks = omega arith in
    ap (λ (q : Bool). map token_of (if q then put (at line 1) t.Indent ∷ [] else (if nat_eq (innermost (still_open 1 blocks)) 1 then replicate (length blocks - length (still_open 1 blocks)) (put (at line 1) t.Dedent) else put (at line 1) (t.Bad f.Indentation) ∷ []))) (none_opens blocks h)
    ∙ ap (λ (open_ones : List ℕ). map token_of (if nat_eq (innermost open_ones) 1 then replicate (length blocks - length open_ones) (put (at line 1) t.Dedent) else put (at line 1) (t.Bad f.Indentation) ∷ [])) (all_closed blocks h)
    ∙ ap (λ (n : ℕ). map token_of (replicate n (put (at line 1) t.Dedent))) zero_left
    ∙ map_replicate (length blocks) (put (at line 1) t.Dedent)

row_behind : (end : Place) (line : ℕ) (blocks : List ℕ) (text rest : List ℕ) (tokens : List Token) → AllIndented blocks → IsRow text tokens → is_import (indent_of zero ++ text) ≡ false → map token_of (layout end line blocks 0 (lines (row zero text ++ rest))) ≡ replicate (length blocks) t.Dedent ++ text_out end line zero (row zero text ++ rest)
row_behind end line blocks text rest tokens h r import =
    let bytes : List ℕ = indent_of zero ++ text in
    let l : Laid = laid line blocks 0 bytes in
    let before : List Token = replicate (length blocks) t.Dedent in
    let own : IsLaid l (before ++ (tokens ++ (t.NewLine ∷ []))) [] = laid_is line zero text tokens before blocks [] r import (closes blocks h) (closing line blocks h) in
    ap (λ (ls : List (List ℕ)). map token_of (layout end line blocks 0 ls)) (lines_of_row zero text rest tokens r)
    ∙ map-append token_of l.placed (layout end (line + 1) l.blocks l.brackets (lines rest))
    ∙ ap₂ (λ (ts us : List Token). ts ++ us) own.all (ap₂ (λ (bs : List ℕ) (n : ℕ). map token_of (layout end (line + 1) bs n (lines rest))) own.behind own.brackets)
    ∙ append_assoc before (tokens ++ (t.NewLine ∷ [])) (text_out end (line + 1) zero rest)
    ∙ ap (λ (ts : List Token). before ++ ts) (append_assoc tokens (t.NewLine ∷ []) (text_out end (line + 1) zero rest) ∙ sym (row_after end line zero zero text rest tokens r import))

-- ---- two texts

-- the tokens of a text behind another one are behind those of that one
pub behind : (b : ℕ) (above text rest : List ℕ) (tokens first spelled : List Token) → EndsLine (b ∷ above) → tokens_of (b ∷ above) ≡ tokens → Whole tokens → IsRow text first → is_import (indent_of zero ++ text) ≡ false → ((end : Place) (line : ℕ) → text_out end line zero (row zero text ++ rest) ≡ spelled) → (end : Place) → text_out end 1 zero ((b ∷ above) ++ (row zero text ++ rest)) ≡ tokens ++ spelled
behind b above text rest tokens first spelled ends own whole r import out end =
    let l = ended_lines b above ends in
    let ran = run (l.first ∷ l.more) 1 [] 0 tt in
    let place : Place = end_place (b ∷ above) in
    let sound : IsSound (map token_of (up_to_fault (layout place 1 [] 0 (lines (b ∷ above))))) = subst IsSound (sym own) whole.sound in
    let all : map token_of (layout place 1 [] 0 (lines (b ∷ above))) ≡ tokens = ap (map token_of) (sym (unfaulted (layout place 1 [] 0 (lines (b ∷ above))) sound)) ∙ own in
    let tail : List Token = map token_of (layout place ran.last ran.open_blocks ran.open_brackets ([] ∷ [])) in
    let parts : map token_of ran.out ++ tail ≡ tokens =
    sym (map-append token_of ran.out (layout place ran.last ran.open_blocks ran.open_brackets ([] ∷ [])))
    ∙ ap (map token_of) (sym (ran.is place ([] ∷ []))) ∙ ap (λ (ls : List (List ℕ)). map token_of (layout place 1 [] 0 ls)) (sym l.own) ∙ all in
    let left : IsSound (map token_of ran.out) = sound_left (map token_of ran.out) tail (subst IsSound (sym parts) whole.sound) in
    let count : ran.open_brackets ≡ open_after 0 (map token_of ran.out) = ran.counted left in
    let none_open : ran.open_brackets ≡ 0 =
    sym (tail_open place ran.last ran.open_blocks ran.open_brackets)
    ∙ ap (λ (n : ℕ). open_after n tail) count
    ∙ sym (open_append 0 (map token_of ran.out) tail)
    ∙ ap (open_after 0) parts ∙ whole.closed 0 in
    let ended : tail ≡ replicate (length ran.open_blocks) t.Dedent = ap (λ (n : ℕ). map token_of (layout place ran.last ran.open_blocks n ([] ∷ []))) none_open ∙ tail_out place ran.last ran.open_blocks in
    ap (λ (ls : List (List ℕ)). map token_of (layout end 1 [] 0 ls)) (l.behind (row zero text ++ rest))
    ∙ ap (map token_of) (ran.is end (lines (row zero text ++ rest)))
    ∙ map-append token_of ran.out (layout end ran.last ran.open_blocks ran.open_brackets (lines (row zero text ++ rest)))
    ∙ ap (λ (n : ℕ). map token_of ran.out ++ map token_of (layout end ran.last ran.open_blocks n (lines (row zero text ++ rest)))) none_open
    ∙ ap (λ (ts : List Token). map token_of ran.out ++ ts) (row_behind end ran.last ran.open_blocks text rest first ran.indented r import)
    ∙ ap₂ (λ (ts us : List Token). map token_of ran.out ++ (ts ++ us)) (sym ended) (out end ran.last)
    ∙ sym (append_assoc (map token_of ran.out) tail spelled)
    ∙ ap (λ (ts : List Token). ts ++ spelled) parts
