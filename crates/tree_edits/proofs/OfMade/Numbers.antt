-- The number in a name, the numbers that names take, and the least that none takes.
use Rattle.std.proofs.Common.{◌≡◌, ◌≢◌, ◌≤◌, ◌<◌, ◌+◌, ◌-◌, ◌^◌, ◌==◌, ◌&&◌, ◌||◌, ℕ, zero, suc, arith, suc-le-suc}
use Rattle.std.proofs.Common.{Bool, true, false, true≢false, if◌then◌else◌, refl, sym, ap, ap₂, subst, ◌∙◌}
use Rattle.std.proofs.Common.{List, [], ◌∷◌, ◌++◌, length, get_or, set, drop, replicate, slice_get, codes, decimal, nat_eq}
use Rattle.std.proofs.Common.{Option, Some, None, MatchOption, Result, Ok, Err, Bor}
use Rattle.std.proofs.lemmas.Bool.Decides.{Decides-eqb}
use Rattle.std.proofs.lemmas.Fmt.{first_decimal, parse-decimal, decimal-digits_value, decimal_injective}
use Rattle.std.proofs.lemmas.List.{append_assoc, get_or-set_same, get_or-set_other}
use Rattle.std.proofs.lemmas.List.{get_or-replicate, length-replicate, length-set}
use Rattle.std.proofs.lemmas.Slice.Eq.{bytes_eq-Decides}
use Rattle.std.proofs.lemmas.Str.Parse.{IsNumeralModel, numerals_by_value, tells_digits, parse_plain}
use Rattle.std.proofs.lemmas.Str.Pattern.{starts_text}
use Rattle.std.proofs.Math.Seq.{take-append_seam}
use Rattle.std.specs.List.{starts_with}
use Rattle.std.specs.Str.{bytes_eq}
use Rattle.std.specs.Str.Parse.{AllDigits, digits_value, ParsesUnsigned}
use Rattle.std.specs.Str.Pattern.{FindsTextPrefix, StripsPrefix}
use Rattle.exo_meaning.specs.Units.{is_text}
use Rattle.tree_edits.specs.Made.Names.{Name, is_in, numbered, first_free}
use Rattle.tree_edits.specs.Made.Numbers.{is_number, IsNumber, Noted, AllNoted, set_before}

-- ---- texts

text_is : (a b : Name) → is_text a b ≡ true → a ≡ b
text_is a b h = (bytes_eq-Decides a b).0 h

same_text : (a b : Name) → a ≡ b → is_text a b ≡ true
same_text a b h = (bytes_eq-Decides a b).1 h

not_text : (a b : Name) → (a ≡ b → ⊥) → is_text a b ≡ false
not_text a b h = by (is_text a b) refl where
  by : (t : Bool) → is_text a b ≡ t → t ≡ false
  by false p = refl
  by true p = absurd (h (text_is a b p))

-- what stands behind the same front
behind : (x a b : Name) → is_text (x ++ a) (x ++ b) ≡ is_text a b
behind [] a b = refl
behind (c ∷ x) a b = ap (λ t. t && is_text (x ++ a) (x ++ b)) ((Decides-eqb c c).1 refl) ∙ behind x a b

begins : (x rest : Name) → starts_with nat_eq (x ++ rest) x ≡ true
begins x rest = ap (bytes_eq x) (take-append_seam x rest) ∙ (bytes_eq-Decides x x).1 refl

other : (x rest y : Name) → starts_with nat_eq y x ≡ false → is_text (x ++ rest) y ≡ false
other x rest y h = not_text (x ++ rest) y (λ same. true≢false (sym (begins x rest) ∙ ap (λ z. starts_with nat_eq z x) same ∙ h))

pub stripped : (x s : Name) (r : Option (Bor Name)) → MatchOption r (FindsTextPrefix x s None) (λ t. StripsPrefix (FindsTextPrefix x) s t.now) → MatchOption r (starts_with nat_eq s x ≡ false) (λ t. s ≡ x ++ t.now)
stripped x s None h = sym (starts_text false x s h)
stripped x s (Some t) h = h.1.1 ∙ ap (λ z. x ++ z) (sym h.2)

-- ---- numbers in decimal digits

own : IsNumeralModel (AllDigits 10) (digits_value 10)
own = numerals_by_value (AllDigits 10) tells_digits

pub first_none : (text : Name) → None ≡ slice_get text 0 → get_or text 0 0 ≤ 48
first_none [] h = omega arith
first_none (b ∷ text) h = cc

pub first_is : (text : Name) (b : ℕ) → Some b ≡ slice_get text 0 → get_or text 0 0 ≡ b
first_is [] b h = cc
first_is (a ∷ text) b h = cc

-- a text that begins with no digit above 0
pub low : (text : Name) → get_or text 0 0 ≤ 48 → IsNumber decimal text None
low text h k small = not_text (decimal (suc k)) text (λ same. ends same) where
  ends : decimal (suc k) ≡ text → ⊥
  ends same =
      let first = first_decimal (suc k) (omega arith) small in
      let as_well : get_or (decimal (suc k)) 0 0 ≡ get_or text 0 0 = ap (λ z. get_or z 0 0) same in
      omega (arith, first, as_well, h)

err_ok : {E : Type 0} (e : E) (n : ℕ) → Err e ≡ Ok n → ⊥
err_ok e n h = cc

pub not_read : {E : Type 0} (text : Name) (e : E) → ParsesUnsigned 64 10 text (Err e) → IsNumber decimal text None
not_read {E} text e h k small = not_text (decimal (suc k)) text (λ same. err_ok e (suc k) (parse-decimal 64 (suc k) text (Err e) small small (sym same) h))

same_digits : (text : Name) (n k : ℕ) → n < 2 ^ 64 → suc k < 2 ^ 64 → decimal n ≡ text → (b : Bool) → (suc k == n) ≡ b → is_text (decimal (suc k)) text ≡ b
same_digits text n k below small digits true p = same_text (decimal (suc k)) text (ap decimal ((Decides-eqb (suc k) n).0 p) ∙ digits)
same_digits text n k below small digits false p = not_text (decimal (suc k)) text (λ same. true≢false (sym ((Decides-eqb (suc k) n).1 (decimal_injective (suc k) n small below (same ∙ sym digits))) ∙ p))

pub read : (text : Name) (n : ℕ) → ParsesUnsigned {E = Unit {0}} 64 10 text (Ok n) → 48 < get_or text 0 0 → IsNumber decimal text (Some n)
read text n h first k small =
    let parts = parse_plain own {E = Unit {0}} 64 text (Ok n) h (λ e. omega (arith, first, e)) in
    let below : n < 2 ^ 64 = omega (arith, parts.1, parts.0.2) in
    let digits : decimal n ≡ text = ap decimal parts.1 ∙ decimal-digits_value own text parts.0.0 parts.0.1 (λ z. absurd (omega (arith, z, first))) parts.0.2 in
    same_digits text n k below small digits (suc k == n) refl

-- ---- the number in a name

numbered_text : (x name tail : Name) (k : ℕ) → name ≡ x ++ tail → is_text (numbered x k) name ≡ is_text (codes "_" ++ decimal k) tail
numbered_text x name tail k e = ap₂ is_text (append_assoc x (codes "_") (decimal k)) e ∙ behind x (codes "_" ++ decimal k) tail

pub unlike : (x name : Name) → starts_with nat_eq name x ≡ false → IsNumber (numbered x) name None
unlike x name h k small = ap (λ z. is_text z name) (append_assoc x (codes "_") (decimal (suc k))) ∙ other x (codes "_" ++ decimal (suc k)) name h

pub without_line : (x name tail : Name) → name ≡ x ++ tail → starts_with nat_eq tail (codes "_") ≡ false → IsNumber (numbered x) name None
without_line x name tail e h k small = numbered_text x name tail (suc k) e ∙ other (codes "_") (decimal (suc k)) tail h

pub with_digits : (x name tail digits : Name) (r : Option ℕ) → name ≡ x ++ tail → tail ≡ codes "_" ++ digits → IsNumber decimal digits r → IsNumber (numbered x) name r
with_digits x name tail digits r e f h k small = numbered_text x name tail (suc k) e ∙ ap (is_text (codes "_" ++ decimal (suc k))) f ∙ behind (codes "_") (decimal (suc k)) digits ∙ h k small

-- ---- the numbers that are taken

or_false : (b : Bool) → b ≡ (b || false)
or_false true = refl
or_false false = refl

or_true : (b : Bool) → true ≡ (b || true)
or_true true = refl
or_true false = refl

-- a name whose number is none of those of the marks
pub unnoted : (written : ℕ → Name) (name : Name) (marks : List Bool) (number : Option ℕ) → length marks < 2 ^ 64 → IsNumber written name number → ((k : ℕ) → k < length marks → is_number number (suc k) ≡ false) → Noted written name marks marks
unnoted written name marks number few is none = record {
  same_length = refl;
  each = λ k l. or_false (get_or marks k true) ∙ ap (λ t. get_or marks k true || t) (sym (is k (omega arith) ∙ none k l));
}

pub no_number : (marks : List Bool) (k : ℕ) → k < length marks → is_number None (suc k) ≡ false
no_number marks k l = refl

differ_number : (a b : ℕ) → (a ≡ b → ⊥) → (a == b) ≡ false
differ_number a b h = by (a == b) refl where
  by : (t : Bool) → (a == b) ≡ t → t ≡ false
  by false p = refl
  by true p = absurd (h ((Decides-eqb a b).0 p))

pub none_of_them : (marks : List Bool) (n : ℕ) → (0 < n → length marks < n) → (k : ℕ) → k < length marks → is_number (Some n) (suc k) ≡ false
none_of_them marks zero h k l = differ_number (suc k) zero (λ e. omega (arith, e))
none_of_them marks (suc n) h k l = (let past = h (omega arith) in differ_number (suc k) (suc n) (λ e. omega (arith, e, past, l)))

pub noted : (written : ℕ → Name) (name : Name) (marks : List Bool) (n : ℕ) → length marks < 2 ^ 64 → 0 < n → n ≤ length marks → IsNumber written name (Some n) → Noted written name marks (set marks (n - 1) true)
noted written name marks n few first last is = record { same_length = length-set marks (n - 1) true; each = each } where
  by : (k : ℕ) → k < length marks → (b : Bool) → (suc k == n) ≡ b → get_or (set marks (n - 1) true) k true ≡ (get_or marks k true || b)
  by k l true p =
      let e : suc k ≡ n = (Decides-eqb (suc k) n).0 p in
      let here : n - 1 ≡ k = omega (arith, e) in
      ap (λ i. get_or (set marks i true) k true) here ∙ get_or-set_same marks k true true l ∙ or_true (get_or marks k true)
  by k l false p =
      get_or-set_other marks (n - 1) k true true (λ e. true≢false (sym ((Decides-eqb (suc k) n).1 (omega (arith, e, first))) ∙ p))
      ∙ or_false (get_or marks k true)

  each : (k : ℕ) → k < length marks → get_or (set marks (n - 1) true) k true ≡ (get_or marks k true || is_text (written (suc k)) name)
  each k l = by k l (suc k == n) refl ∙ ap (λ t. get_or marks k true || t) (sym (is k (omega (arith, l, few))))

-- on the way: those that are noted, and those that the rest takes
pub record NotedSoFar (written : ℕ → Name) (names rest : List Name) (marks : List Bool) : Type 0 where
  pub one_each : length marks ≡ length names
  pub each : (k : ℕ) → k < length marks → (get_or marks k true || is_in rest (written (suc k))) ≡ is_in names (written (suc k))

pub none_noted : (written : ℕ → Name) (names : List Name) (n : ℕ) → n ≡ length names → NotedSoFar written names names (replicate n false)
none_noted written names n e = record {
  one_each = length-replicate n false ∙ e;
  each = λ k l. (let within : k < n = omega (arith, l, length-replicate n false) in ap (λ t. t || is_in names (written (suc k))) (get_or-replicate n k false true within));
}

associate : (a b c : Bool) → ((a || b) || c) ≡ (a || (b || c))
associate true b c = refl
associate false b c = refl

pub one_noted : (written : ℕ → Name) (names rest more : List Name) (name : Name) (old new : List Bool) → more ≡ name ∷ rest → Noted written name old new → NotedSoFar written names more old → NotedSoFar written names rest new
one_noted written names rest more name old new e h so_far = record {
  one_each = h.same_length ∙ so_far.one_each;
  each = λ k l. (let within : k < length old = omega (arith, l, h.same_length) in
      ap (λ t. t || is_in rest (written (suc k))) (h.each k within)
      ∙ associate (get_or old k true) (is_text (written (suc k)) name) (is_in rest (written (suc k)))
      ∙ ap (λ ns. get_or old k true || is_in ns (written (suc k))) (sym e)
      ∙ so_far.each k within);
}

pub all_noted : (written : ℕ → Name) (names rest : List Name) (marks : List Bool) → rest ≡ [] → NotedSoFar written names rest marks → AllNoted written names marks
all_noted written names rest marks e so_far = record {
  one_each = so_far.one_each;
  each = λ k l. or_false (get_or marks k true) ∙ ap (λ ns. get_or marks k true || is_in ns (written (suc k))) (sym e) ∙ so_far.each k l;
}

-- ---- the least that is not taken

one_taken : (taken : List Name) (x : Name) (n m k : ℕ) (b : Bool) → is_in taken (numbered x (suc k)) ≡ b → first_free taken x n (suc (suc k)) ≡ suc (suc k + m) → first_free taken x (suc n) (suc k) ≡ suc (k + (if b then suc m else zero))
one_taken taken x n m k true p later = ap (λ t. if t then first_free taken x n (suc (suc k)) else suc k) p ∙ later ∙ (let same : suc (suc k + m) ≡ suc (k + suc m) = omega arith in same)
one_taken taken x n m k false p later = ap (λ t. if t then first_free taken x n (suc (suc k)) else suc k) p ∙ (let same : suc k ≡ suc (k + zero) = omega arith in same)

least_from : (taken : List Name) (x : Name) (marks : List Bool) (k : ℕ) → ((j : ℕ) → j < length marks → get_or marks j true ≡ is_in taken (numbered x (suc (k + j)))) → first_free taken x (length marks) (suc k) ≡ suc (k + set_before marks)
least_from taken x [] k h = omega arith
least_from taken x (b ∷ bs) k h =
    let here : k + zero ≡ k = omega arith in
    let there : (j : ℕ) → k + suc j ≡ suc k + j = λ j. omega arith in
    let first : zero < suc (length bs) = omega arith in
    let later : (j : ℕ) → j < length bs → get_or bs j true ≡ is_in taken (numbered x (suc (suc k + j))) =
    λ j l. h (suc j) (suc-le-suc l) ∙ ap (λ n. is_in taken (numbered x (suc n))) (there j) in
    one_taken taken x (length bs) (set_before bs) k b
    (sym (h zero first ∙ ap (λ n. is_in taken (numbered x (suc n))) here))
    (least_from taken x bs (suc k) later)

pub least : (taken : List Name) (x : Name) (marks : List Bool) → AllNoted (numbered x) taken marks → first_free taken x (length taken) 1 ≡ set_before marks + 1
least taken x marks h =
    ap (λ n. first_free taken x n 1) (sym h.one_each)
    ∙ least_from taken x marks zero (λ j l. h.each j l ∙ (let same : j ≡ zero + j = omega arith in ap (λ n. is_in taken (numbered x (suc n))) same))
    ∙ (let same : suc (zero + set_before marks) ≡ set_before marks + 1 = omega arith in same)
