-- The first line of a text.
use Rattle.std.proofs.Common.{◌≡◌, ℕ, suc, ◌+◌, ◌-◌, ◌<◌, List, [], ◌∷◌, ◌++◌, take, drop, length, get_or, Bool, true, false, cond, refl, sym, ap, ◌∙◌, arith, add-one, drop-cons, take-suc, append_assoc, append-nil, eqb, take_all, drop-drop, length-drop}
use Rattle.text_lexer.specs.Layout.{lines, longer, line_end_width, is_skipped_return, end_from}

-- lines whose first one has these bytes more before it
abbrev pub prepend : List ℕ → List (List ℕ) → List (List ℕ)
prepend front [] = front ∷ []
prepend front (line ∷ more) = (front ++ line) ∷ more

pub prepend-longer : (front : List ℕ) (b : ℕ) (more : List (List ℕ)) → prepend front (longer b more) ≡ prepend (front ++ (b ∷ [])) more
prepend-longer front b [] = refl
prepend-longer front b (line ∷ more) = ap (λ (l : List ℕ). l ∷ more) (sym (append_assoc front (b ∷ []) line))

-- the lines behind a byte, by what it is
abbrev behind_byte : (b : ℕ) (rest : List ℕ) (feed skipped : Bool) → List (List ℕ)
behind_byte b rest feed skipped = cond feed ([] ∷ lines rest) (cond skipped (lines rest) (longer b (lines rest)))

abbrev width_by : Bool → Bool → ℕ
width_by feed skipped = cond feed 1 (cond skipped 2 0)

-- a byte with which no line end begins
by_byte : (b : ℕ) (rest : List ℕ) (feed skipped : Bool) → width_by feed skipped ≡ 0 → behind_byte b rest feed skipped ≡ longer b (lines rest)
by_byte b rest true skipped none = absurd (omega (arith, none))
by_byte b rest false true none = absurd (omega (arith, none))
by_byte b rest false false none = refl

lines_byte : (b : ℕ) (rest : List ℕ) → line_end_width (b ∷ rest) ≡ 0 → lines (b ∷ rest) ≡ longer b (lines rest)
lines_byte b rest none = by_byte b rest (eqb b 0x0A) (is_skipped_return b rest) none

pub lines_inside : (count : ℕ) (text : List ℕ) → count < length text → line_end_width (drop count text) ≡ 0 → lines text ≡ prepend (take count text) (lines (drop count text)) → lines text ≡ prepend (take (count + 1) text) (lines (drop (count + 1) text))
lines_inside count text within none whole =
    let d : drop count text ≡ get_or text count 0 ∷ drop (suc count) text = drop-cons text count 0 within in
    let step : lines (drop count text) ≡ longer (get_or text count 0) (lines (drop (suc count) text)) =
    ap lines d ∙ lines_byte (get_or text count 0) (drop (suc count) text) (ap line_end_width (sym d) ∙ none) in
    let longer_take : take (suc count) text ≡ take count text ++ (get_or text count 0 ∷ []) = take-suc text count 0 within in
    whole ∙ ap (prepend (take count text)) step ∙ prepend-longer (take count text) (get_or text count 0) (lines (drop (suc count) text))
    ∙ ap (λ (front : List ℕ). prepend front (lines (drop (suc count) text))) (sym longer_take)
    ∙ ap (λ (k : ℕ). prepend (take k text) (lines (drop k text))) (sym (add-one count))

-- a text has a line
longer-some : (b : ℕ) (more : List (List ℕ)) → longer b more ≡ [] → ⊥
longer-some b [] e = cc (e)
longer-some b (line ∷ more) e = cc (e)

some_by : (b : ℕ) (rest : List ℕ) (feed skipped : Bool) → (lines rest ≡ [] → ⊥) → behind_byte b rest feed skipped ≡ [] → ⊥
some_by b rest true skipped some e = cc (e)
some_by b rest false true some e = some e
some_by b rest false false some e = longer-some b (lines rest) e

pub lines-some : (text : List ℕ) → lines text ≡ [] → ⊥
lines-some [] e = cc (e)
lines-some (b ∷ rest) e = some_by b rest (eqb b 0x0A) (is_skipped_return b rest) (lines-some rest) e

none_by : (more : List (List ℕ)) → (more ≡ [] → ⊥) → more ≡ prepend [] more
none_by [] some = absurd (some refl)
none_by (line ∷ more) some = refl

pub prepend_none : (text : List ℕ) → lines text ≡ prepend [] (lines text)
prepend_none text = none_by (lines text) (lines-some text)

feed_by : (b c : ℕ) (rest : List ℕ) (return feed : Bool) → cond return feed false ≡ true → behind_byte c rest feed (is_skipped_return c rest) ≡ [] ∷ lines rest
feed_by b c rest true true is = refl
feed_by b c rest true false is = cc (is)
feed_by b c rest false feed is = cc (is)

-- a line end that stands first
skipped_lines : (b : ℕ) (rest : List ℕ) → is_skipped_return b rest ≡ true → lines rest ≡ [] ∷ lines (drop 1 rest)
skipped_lines b [] is = cc (is)
skipped_lines b (c ∷ rest) is = feed_by b c rest (eqb b 0x0D) (eqb c 0x0A) is

ended_by : (b : ℕ) (rest : List ℕ) (feed skipped : Bool) → (skipped ≡ true → lines rest ≡ [] ∷ lines (drop 1 rest)) → (width_by feed skipped ≡ 0 → ⊥) → behind_byte b rest feed skipped ≡ [] ∷ lines (drop (width_by feed skipped) (b ∷ rest))
ended_by b rest true skipped behind some = refl
ended_by b rest false true behind some = behind refl
ended_by b rest false false behind some = absurd (some refl)

pub lines_ended : (text : List ℕ) → (line_end_width text ≡ 0 → ⊥) → lines text ≡ [] ∷ lines (drop (line_end_width text) text)
lines_ended [] some = absurd (some refl)
lines_ended (b ∷ rest) some = ended_by b rest (eqb b 0x0A) (is_skipped_return b rest) (skipped_lines b rest) some

whole_part : (count : ℕ) (text : List ℕ) → take (length text - count) (drop count text) ≡ drop count text
whole_part count text = take_all (length text - count) (drop count text) (omega (arith, length-drop count text))

pub line_inside : (count width : ℕ) (text : List ℕ) → count < length text → width ≡ line_end_width (take (length text - count) (drop count text)) → width ≡ 0 → lines text ≡ prepend (take count text) (lines (drop count text)) → lines text ≡ prepend (take (count + 1) text) (lines (drop (count + 1) text))
line_inside count width text within is none whole = lines_inside count text within (ap line_end_width (sym (whole_part count text)) ∙ sym is ∙ none) whole

pub line_ended : (count width : ℕ) (text : List ℕ) → width ≡ line_end_width (take (length text - count) (drop count text)) → (width ≡ 0 → ⊥) → lines text ≡ prepend (take count text) (lines (drop count text)) → lines text ≡ take count text ∷ lines (take (length text - (count + width)) (drop (count + width) text))
line_ended count width text is some whole =
    let here : width ≡ line_end_width (drop count text) = is ∙ ap line_end_width (whole_part count text) in
    let step : lines (drop count text) ≡ [] ∷ lines (drop width (drop count text)) =
    lines_ended (drop count text) (λ e. some (here ∙ e)) ∙ ap (λ (w : ℕ). [] ∷ lines (drop w (drop count text))) (sym here) in
    whole ∙ ap (prepend (take count text)) step
    ∙ ap (λ (l : List ℕ). l ∷ lines (drop width (drop count text))) (append-nil (take count text))
    ∙ ap (λ (r : List ℕ). take count text ∷ lines r) (drop-drop width count text ∙ sym (whole_part (count + width) text))

-- the end of the text, one line on
end_by : (line : ℕ) (bytes : List ℕ) (more : List (List ℕ)) → (more ≡ [] → ⊥) → end_from line (bytes ∷ more) ≡ end_from (line + 1) more
end_by line bytes [] some = absurd (some refl)
end_by line bytes (next ∷ more) some = refl

pub end_next : (line : ℕ) (bytes text next : List ℕ) → lines text ≡ bytes ∷ lines next → end_from line (lines text) ≡ end_from (line + 1) (lines next)
end_next line bytes text next is = ap (end_from line) is ∙ end_by line bytes (lines next) (lines-some next)
