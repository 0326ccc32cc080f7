-- Different binders have different C names, and none has the name of a function or a field.
use Rattle.std.proofs.Common.{◌≡◌, ◌<◌, ◌^◌, ◌==◌, ◌++◌, ℕ, nat_le, Bool, true, false, not, ◌&&◌, ◌||◌, List, [], ◌∷◌, refl, sym, ap, ◌∙◌, arith, true≢false}
use Rattle.std.specs.List.{list_all}
use Rattle.std.specs.Fmt.{decimal}
use Rattle.std.specs.Str.Parse.{AllDigits}
use Rattle.std.proofs.lemmas.Str.Parse.{digit_from_value}
use Rattle.std.proofs.lemmas.Bool.{and_parts}
use Rattle.c_tree.specs.Names.Words.{Name, same_name, is_in, is_own, is_word, type_keywords}
use Rattle.c_tree.specs.Names.Words.{statement_keywords, other_keywords, library_words, exact_types}
use Rattle.c_tree.specs.Names.Words.{least_types, fast_types, greatest_types}
use Rattle.c_tree.specs.Names.Names.{is_reserved, pick, numbered, is_taken, c_name}
use Rattle.c_unit_laws.proofs.Spelling.{Small, differ, numbered_injective, is_own_stem, numbered_open, numbered_own, digits_of, some_digit}
use Rattle.c_unit_laws.proofs.Free.{or_false, room, number_of, number_below, free}

-- ---- no word ends as a numbered name does

abbrev last_of : List ℕ → ℕ
last_of [] = 0
last_of (c ∷ []) = c
last_of (c ∷ (d ∷ rest)) = last_of (d ∷ rest)

-- a line or a digit
abbrev is_mark : ℕ → Bool
is_mark c = (c == 95) || (nat_le 48 c && nat_le c 57)

last_behind : (x : List ℕ) (c : ℕ) (d : List ℕ) → last_of (x ++ c ∷ d) ≡ last_of (c ∷ d)
last_behind [] c d = refl
last_behind (a ∷ []) c d = refl
last_behind (a ∷ (b ∷ x)) c d = last_behind (b ∷ x) c d

digit_last : (c : ℕ) (d : List ℕ) → AllDigits 10 (c ∷ d) → is_mark (last_of (c ∷ d)) ≡ true
digit_last c [] h = let r = digit_from_value c h.0 in grind arith
digit_last c (b ∷ d) h = digit_last b d h.1

unmarked : (words : List Name) → list_all (λ w. not (is_mark (last_of w))) words ≡ true → (y : Name) → is_mark (last_of y) ≡ true → is_in words y ≡ false
unmarked [] h y k = refl
unmarked (w ∷ words) h y k =
    let p = and_parts (not (is_mark (last_of w))) (list_all (λ v. not (is_mark (last_of v))) words) h in
    none (same_name w y) (is_in words y) (differ w y (λ e. not_both (is_mark (last_of w)) p.0 (ap (λ z. is_mark (last_of z)) e ∙ k))) (unmarked words p.1 y k)
  where
    none : (a b : Bool) → a ≡ false → b ≡ false → (a || b) ≡ false
    none false false e f = refl
    none true b e f = absurd (true≢false e)
    none false true e f = absurd (true≢false f)

    not_both : (b : Bool) → not b ≡ true → b ≡ true → ⊥
    not_both true e f = true≢false (sym e)
    not_both false e f = true≢false (sym f)

numbered_marked : (x : Name) (k : ℕ) → Small k → is_mark (last_of (numbered x k)) ≡ true
numbered_marked x k h = go (is_own_stem x) refl
  where
    digits_mark : (d : List ℕ) → AllDigits 10 d → (d ≡ [] → ⊥) → is_mark (last_of (95 ∷ d)) ≡ true
    digits_mark [] a n = absurd (n refl)
    digits_mark (c ∷ d) a n = digit_last c d a

    go : (t : Bool) → is_own_stem x ≡ t → is_mark (last_of (numbered x k)) ≡ true
    go false e = ap (λ y. is_mark (last_of y)) (numbered_open x k e) ∙ ap is_mark (last_behind x 95 (decimal k)) ∙ digits_mark (decimal k) (digits_of k h) (some_digit k h)
    go true e = ap (λ y. is_mark (last_of y)) (numbered_own x k e) ∙ ap is_mark (last_behind (118 ∷ x) 95 (decimal k ++ 95 ∷ []) ∙ last_behind (95 ∷ decimal k) 95 [])

word_if_own : (y : Name) → is_mark (last_of y) ≡ true → is_word y ≡ is_own y
unfolding is_word
word_if_own y h = only (is_own y) _ _ _ _ _ _ _ _ (unmarked type_keywords refl y h) (unmarked statement_keywords refl y h) (unmarked other_keywords refl y h) (unmarked library_words refl y h) (unmarked exact_types refl y h) (unmarked least_types refl y h) (unmarked fast_types refl y h) (unmarked greatest_types refl y h)
  where
    only : (o a b c d e f g i : Bool) → a ≡ false → b ≡ false → c ≡ false → d ≡ false → e ≡ false → f ≡ false → g ≡ false → i ≡ false → (o || (a || b || c) || d || (e || f || g || i)) ≡ o
    only true false false false false false false false false p q r s t u v w = refl
    only false false false false false false false false false p q r s t u v w = refl
    only o true b c d e f g i p q r s t u v w = absurd (true≢false p)
    only o a true c d e f g i p q r s t u v w = absurd (true≢false q)
    only o a b true d e f g i p q r s t u v w = absurd (true≢false r)
    only o a b c true e f g i p q r s t u v w = absurd (true≢false s)
    only o a b c d true f g i p q r s t u v w = absurd (true≢false t)
    only o a b c d e true g i p q r s t u v w = absurd (true≢false u)
    only o a b c d e f true i p q r s t u v w = absurd (true≢false v)
    only o a b c d e f g true p q r s t u v w = absurd (true≢false w)

-- whether a name begins as an own one does not hang on what stands behind its line
open_alike : (x : Name) (d : List ℕ) → is_own (x ++ 95 ∷ d) ≡ is_own_stem x
open_alike [] d = refl
open_alike (a ∷ []) d = refl
open_alike (a ∷ (b ∷ [])) d = refl
open_alike (a ∷ (b ∷ (c ∷ []))) d = refl
open_alike (a ∷ (b ∷ (c ∷ (e ∷ x)))) d = refl

numbered_not_own : (x : Name) (k : ℕ) → is_own (numbered x k) ≡ false
numbered_not_own x k = go (is_own_stem x) refl
  where
    go : (t : Bool) → is_own_stem x ≡ t → is_own (numbered x k) ≡ false
    go false e = ap is_own (numbered_open x k e) ∙ open_alike x (decimal k) ∙ e
    go true e = ap is_own (numbered_own x k e)

-- so no name with a number is a word of C
numbered_no_word : (x : Name) (k : ℕ) → Small k → is_word (numbered x k) ≡ false
numbered_no_word x k h = word_if_own (numbered x k) (numbered_marked x k h) ∙ numbered_not_own x k

module _ (globals binders : List Name) (small : room globals binders < 2 ^ 63) where
  abbrev number_for : Name → ℕ
  number_for = number_of globals binders

  small_number : (x : Name) → Small (number_for x)
  small_number x = let r = number_below (is_taken globals binders) x (room globals binders) 1 in omega arith

  -- nothing has the name of a renamed binder
  renamed : (x : Name) → is_taken globals binders (numbered x (number_for x)) ≡ false
  renamed x = free globals binders x small (numbered_no_word x)

  kept_name : (x : Name) → is_reserved globals x ≡ false → c_name globals binders x ≡ x
  kept_name x h = ap (λ b. pick b (numbered x (number_for x)) x) h

  new_name : (x : Name) → is_reserved globals x ≡ true → c_name globals binders x ≡ numbered x (number_for x)
  new_name x h = ap (λ b. pick b (numbered x (number_for x)) x) h

  renamed_and_kept : (a b : Name) → is_in binders b ≡ true → is_reserved globals b ≡ false → numbered a (number_for a) ≡ b → ⊥
  renamed_and_kept a b i r e =
      true≢false (sym i ∙ ap (is_in binders) (sym e) ∙ (or_false _ (is_in binders (numbered a (number_for a))) (renamed a)).1)

  -- no binder has a word of C for a name
  pub no_word : (x : Name) → is_word (c_name globals binders x) ≡ false
  no_word x = go (is_reserved globals x) refl
    where
      go : (t : Bool) → is_reserved globals x ≡ t → is_word (c_name globals binders x) ≡ false
      go false h = ap is_word (kept_name x h) ∙ (or_false (is_word x) (is_in globals x) h).0
      go true h = ap is_word (new_name x h) ∙ numbered_no_word x (number_for x) (small_number x)

  pub names_apart : (a b : Name) → is_in binders a ≡ true → is_in binders b ≡ true → (a ≡ b → ⊥) → c_name globals binders a ≡ c_name globals binders b → ⊥
  names_apart a b i j n e = go (is_reserved globals a) (is_reserved globals b) refl refl
    where
      go : (s t : Bool) → is_reserved globals a ≡ s → is_reserved globals b ≡ t → ⊥
      go false false h k = n (sym (kept_name a h) ∙ e ∙ kept_name b k)
      go true false h k = renamed_and_kept a b j k (sym (new_name a h) ∙ e ∙ kept_name b k)
      go false true h k = renamed_and_kept b a i h (sym (new_name b k) ∙ sym e ∙ kept_name a h)
      go true true h k = n (numbered_injective a b (number_for a) (number_for b) (small_number a) (small_number b) (sym (new_name a h) ∙ e ∙ new_name b k)).0

  -- no binder has a global name
  pub no_global : (g x : Name) → is_in globals g ≡ true → g ≡ c_name globals binders x → ⊥
  no_global g x i e = go (is_reserved globals x) refl
    where
      go : (t : Bool) → is_reserved globals x ≡ t → ⊥
      go false h = true≢false (sym i ∙ ap (is_in globals) (e ∙ kept_name x h) ∙ (or_false (is_word x) (is_in globals x) h).1)
      go true h =
          let y = numbered x (number_for x) in
          true≢false (sym i ∙ ap (is_in globals) (e ∙ new_name x h) ∙ (or_false (is_word y) (is_in globals y) (or_false (is_reserved globals y) _ (renamed x)).0).1)
