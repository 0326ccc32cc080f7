-- Paths from parts, as the code makes them of steps.
use Rattle.std.proofs.Common.{◌≡◌, ℕ, suc, ◌+◌, ◌-◌, ◌<◌, ◌≤◌, Bool, true, false, List, [], ◌∷◌, ◌++◌, length, map, Option, Some, None, refl, ap, sym, ◌∙◌, arith}
use Rattle.std.proofs.lemmas.List.{length-append, length-map}
use Rattle.std.specs.Prelude.{◌^◌, nat_le, nat_lt, if◌then◌else◌, option_map, option_and_then}
use Rattle.exo_tree.specs.Places.{Step, Path}
use Rattle.exo_tree.specs.declared.place.Step as declared
use Rattle.exo_tree.specs.PlainPlace.{step_taken}
use Rattle.cursor_forward.specs.Shifts.{word, beyond, held}
use Rattle.cursor_forward.specs.Cursors.{owner, earlier, later}
use Rattle.cursor_forward.proofs.Lasts.{beyond_at_end, earlier_at_end, owner_at_end}

held_by : (path : Path) (b : Bool) → nat_le (length path) 32 ≡ b → held path ≡ (if b then Some path else None)
held_by path b e = ap (λ (x : Bool). if x then Some path else None) e

pub is_held : (path : Path) → length path ≤ 32 → held path ≡ Some path
is_held path h =
    let e : nat_le (length path) 32 ≡ true = grind (arith, h) in
    held_by path true e

pub not_held : (path : Path) → 32 < length path → held path ≡ None
not_held path h =
    let e : nat_le (length path) 32 ≡ false = grind (arith, h) in
    held_by path false e

pub joined_held : (up rest : Path) (last : Step) → length up + length rest < 32 → held (up ++ last ∷ rest) ≡ Some (up ++ last ∷ rest)
joined_held up rest last h = is_held (up ++ last ∷ rest) (omega (arith, h, length-append up (last ∷ rest)))

pub joined_not_held : (up rest : Path) (last : Step) → 32 ≤ length up + length rest → held (up ++ last ∷ rest) ≡ None
joined_not_held up rest last h = not_held (up ++ last ∷ rest) (omega (arith, h, length-append up (last ∷ rest)))

no_steps : (to : List declared.Step) → length to ≡ 0 → to ≡ []
no_steps [] h = refl
no_steps (s ∷ to) h = absurd (omega (arith, h))

word_is : (n : ℕ) → n < 2 ^ 32 → word n ≡ Some n
word_is n h =
    let e : nat_lt n (2 ^ 32) ≡ true = grind (arith, h) in
    ap (λ (x : Bool). if x then Some n else None) e

word_passed : (n : ℕ) → 2 ^ 32 ≤ n → word n ≡ None
word_passed n h =
    let e : nat_lt n (2 ^ 32) ≡ false = grind (arith, h) in
    ap (λ (x : Bool). if x then Some n else None) e

pub beyond_nothing : (to : List declared.Step) (k : ℕ) (rest : Path) → length to ≡ 0 → beyond (map step_taken to) k rest ≡ None
beyond_nothing to k rest h = ap (λ (p : List declared.Step). beyond (map step_taken p) k rest) (no_steps to h)

pub beyond_parts : (to up : List declared.Step) (last : declared.Step) (k : ℕ) (rest : Path) → to ≡ up ++ last ∷ [] → last.index + k < 2 ^ 32 → beyond (map step_taken to) k rest ≡ Some (map step_taken up ++ record (step_taken last) { index = last.index + k } ∷ rest)
beyond_parts to up last k rest e h =
    ap (λ (p : List declared.Step). beyond (map step_taken p) k rest) e
    ∙ beyond_at_end up last k rest
    ∙ ap (option_map (λ n. map step_taken up ++ record (step_taken last) { index = n } ∷ rest)) (word_is (last.index + k) h)

pub beyond_passed : (to up : List declared.Step) (last : declared.Step) (k : ℕ) (rest : Path) → to ≡ up ++ last ∷ [] → 2 ^ 32 ≤ last.index + k → beyond (map step_taken to) k rest ≡ None
beyond_passed to up last k rest e h =
    ap (λ (p : List declared.Step). beyond (map step_taken p) k rest) e
    ∙ beyond_at_end up last k rest
    ∙ ap (option_map (λ n. map step_taken up ++ record (step_taken last) { index = n } ∷ rest)) (word_passed (last.index + k) h)

-- a path that leads to another statement of the same block is as long
length_word : (t : Step) (o : Option ℕ) (q : Path) → option_map (λ n. record t { index = n } ∷ []) o ≡ Some q → length q ≡ 1
length_word t None q e = cc
length_word t (Some n) q e =
    let f : record t { index = n } ∷ [] ≡ q = cc in
    ap (λ (p : Path). length p) (sym f)

length_more : (t : Step) (m : ℕ) (o : Option Path) (q : Path) → ((p : Path) → o ≡ Some p → length p ≡ m) → option_map (λ p. t ∷ p) o ≡ Some q → length q ≡ suc m
length_more t m None q h e = cc
length_more t m (Some p) q h e =
    let f : t ∷ p ≡ q = cc in
    ap (λ (r : Path). length r) (sym f) ∙ omega (arith, h p refl)

length_beyond : (to : Path) (k : ℕ) (q : Path) → beyond to k [] ≡ Some q → length q ≡ length to
length_beyond [] k q e = cc
length_beyond (t ∷ []) k q e = length_word t (word (t.index + k)) q e
length_beyond (t ∷ u ∷ to) k q e = length_more t (length (u ∷ to)) (beyond (u ∷ to) k []) q (λ p f. length_beyond (u ∷ to) k p f) e ∙ omega arith

sized : (to : Path) (o : Option Path) → ((q : Path) → o ≡ Some q → length q ≡ length to) → length to ≤ 32 → option_and_then held o ≡ o
sized to None h l = refl
sized to (Some q) h l = is_held q (omega (arith, h q refl, l))

pub later_held : (to : Path) (k : ℕ) → length to ≤ 32 → option_and_then held (beyond to k []) ≡ later k to
later_held to k h = sized to (beyond to k []) (λ q e. length_beyond to k q e) h

pub earlier_nothing : (path : Path) (to : List declared.Step) (k : ℕ) → map step_taken to ≡ path → length to ≡ 0 → earlier k path ≡ None
earlier_nothing path to k e h = ap (earlier k) (sym e) ∙ ap (λ (p : List declared.Step). earlier k (map step_taken p)) (no_steps to h)

pub earlier_parts : (path : Path) (to up : List declared.Step) (last : declared.Step) (k : ℕ) → map step_taken to ≡ path → to ≡ up ++ last ∷ [] → length to ≤ 32 → k ≤ last.index → earlier k path ≡ held (map step_taken up ++ record (step_taken last) { index = last.index - k } ∷ [])
earlier_parts path to up last k e f h i =
    let le : nat_le k last.index ≡ true = grind (arith, i) in
    let made : Path = map step_taken up ++ record (step_taken last) { index = last.index - k } ∷ [] in
    ap (earlier k) (sym e)
    ∙ ap (λ (p : List declared.Step). earlier k (map step_taken p)) f
    ∙ earlier_at_end up last k
    ∙ ap (λ (b : Bool). if b then Some made else None) le
    ∙ sym (is_held made (omega (arith, h, ap (λ (p : List declared.Step). length p) f, length-append up (last ∷ []), length-append (map step_taken up) (record (step_taken last) { index = last.index - k } ∷ []), length-map up step_taken)))

pub earlier_passed : (path : Path) (to up : List declared.Step) (last : declared.Step) (k : ℕ) → map step_taken to ≡ path → to ≡ up ++ last ∷ [] → last.index < k → earlier k path ≡ None
earlier_passed path to up last k e f i =
    let le : nat_le k last.index ≡ false = grind (arith, i) in
    let made : Path = map step_taken up ++ record (step_taken last) { index = last.index - k } ∷ [] in
    ap (earlier k) (sym e)
    ∙ ap (λ (p : List declared.Step). earlier k (map step_taken p)) f
    ∙ earlier_at_end up last k
    ∙ ap (λ (b : Bool). if b then Some made else None) le

pub owner_nothing : (path : Path) (to : List declared.Step) → map step_taken to ≡ path → length to ≡ 0 → owner path ≡ None
owner_nothing path to e h = ap owner (sym e) ∙ ap (λ (p : List declared.Step). owner (map step_taken p)) (no_steps to h)

pub owner_top : (path : Path) (to up : List declared.Step) (last : declared.Step) → map step_taken to ≡ path → to ≡ up ++ last ∷ [] → length up ≡ 0 → owner path ≡ None
owner_top path to up last e f h = ap owner (sym e) ∙ ap (λ (p : List declared.Step). owner (map step_taken p)) (f ∙ ap (λ (u : List declared.Step). u ++ last ∷ []) (no_steps up h))

pub owner_parts : (path : Path) (to up : List declared.Step) (last : declared.Step) → map step_taken to ≡ path → to ≡ up ++ last ∷ [] → 0 < length up → owner path ≡ Some (map step_taken up)
owner_parts path to [] last e f h = absurd (omega (arith, h))
owner_parts path to (t ∷ up) last e f h = ap owner (sym e) ∙ ap (λ (p : List declared.Step). owner (map step_taken p)) f ∙ owner_at_end t up last
