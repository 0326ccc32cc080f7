-- A name with a number behind it is a name.
use Rattle.std.proofs.Common.{◌≡◌, ℕ, zero, suc, ◌<◌, ◌/◌, ◌%◌, ◌==◌, Bool, true, false}
use Rattle.std.proofs.Common.{List, [], ◌∷◌, ◌++◌, Option, Some, None, refl, sym, ap, ◌∙◌, arith}
use Rattle.std.proofs.Common.{append_assoc, subst}
use Rattle.std.proofs.lemmas.Bool.Decides.{nat_tests}
use Rattle.std.proofs.Common.{if◌then◌else◌, codes, decimal}
use Rattle.std.proofs.lemmas.Slice.Eq.{bytes_eq-Decides}
use Rattle.std.specs.Str.{bytes_eq}
use Rattle.std.specs.Fmt.{digits, digits_onto, digit_glyph}
use Rattle.text_lexer.specs.Bytes.{goes_on_name}
use Rattle.text_lexer.specs.Lexeme.{word_of}
use Rattle.text_lexer.specs.declared.token.Word.{Word}
use Rattle.text_lexer.specs.declared.token.Word.TheVariants as w
use Rattle.exo_types_laws.specs.Shown.Names.{IsName, AreNameBytes, BeginsName, Each}
use Rattle.tree_edits.specs.Made.Names.{numbered}

-- ---- digits

more_bytes : (x y : List ℕ) → AreNameBytes x → AreNameBytes y → AreNameBytes (x ++ y)
more_bytes [] y h k = k
more_bytes (b ∷ x) y h k = (h.0, more_bytes x y h.1 k)

-- what holds of each digit holds of all of a number
digits_each : (P : ℕ → Type 0) → ((d : ℕ) → d < 10 → P (digit_glyph false d)) → (k n : ℕ)
    → (acc : List ℕ) → Each P acc → Each P (digits_onto k 10 false n acc)
digits_each P each zero n acc h = h
digits_each P each (suc k) n acc h =
    let own : Each P (digit_glyph false (n % 10) ∷ acc) = (each (n % 10) (omega arith), h) in
    by (n / 10 == 0) own (digits_each P each k (n / 10) (digit_glyph false (n % 10) ∷ acc) own)
  where
    by : (t : Bool) → Each P (digit_glyph false (n % 10) ∷ acc)
        → Each P (digits_onto k 10 false (n / 10) (digit_glyph false (n % 10) ∷ acc))
        → Each P (if t then digit_glyph false (n % 10) ∷ acc
        else digits_onto k 10 false (n / 10) (digit_glyph false (n % 10) ∷ acc))
    by true one other = one
    by false one other = other

pub decimal_each : (P : ℕ → Type 0) → ((d : ℕ) → d < 10 → P (digit_glyph false d)) → (n : ℕ)
    → Each P (decimal n)
unfolding digits
decimal_each P each n = digits_each P each 64 n [] tt

abbrev GoesOn : ℕ → Type 0
GoesOn b = goes_on_name b ≡ true

all_go_on : (l : List ℕ) → Each GoesOn l → AreNameBytes l
all_go_on [] h = tt
all_go_on (b ∷ l) h = (h.0, all_go_on l h.1)

glyph : (d : ℕ) → d < 10 → goes_on_name (digit_glyph false d) ≡ true
glyph d l = grind (arith, nat_tests)

pub decimal_named : (n : ℕ) → AreNameBytes (decimal n)
decimal_named n = all_go_on (decimal n) (decimal_each GoesOn glyph n)

-- ---- no word

-- the words of the grammar
abbrev words : List (List ℕ)
words =
    codes "and"
    ∷ codes "assert"
    ∷ codes "class"
    ∷ codes "def"
    ∷ codes "else"
    ∷ codes "for"
    ∷ codes "from"
    ∷ codes "if"
    ∷ codes "import"
    ∷ codes "in"
    ∷ codes "or"
    ∷ codes "pass"
    ∷ codes "relu"
    ∷ codes "select"
    ∷ codes "seq"
    ∷ codes "stride"
    ∷ codes "True"
    ∷ codes "False"
    ∷ []

-- a text that a test tells from each of them
module _ (test : List ℕ → Bool) (text : List ℕ) (fails : test text ≡ false) where
  pub differs : (w : List ℕ) → test w ≡ true → bytes_eq text w ≡ false
  differs w h = by (bytes_eq text w) refl
    where
      by : (t : Bool) → bytes_eq text w ≡ t → t ≡ false
      by true e = sym h ∙ ap test (sym ((bytes_eq-Decides text w).0 e)) ∙ fails
      by false e = refl

  skipped : (word : List ℕ) (w : Word) (rest : Option Word) → test word ≡ true → rest ≡ None
      → (if bytes_eq text word then Some w else rest) ≡ None
  skipped word w rest h k =
      ap (λ (t : Bool). if t then Some w else rest) (differs word h) ∙ k

  pub no_word : Each (λ (w : List ℕ). test w ≡ true) words → word_of text ≡ None
  no_word h =
      skipped (codes "and") w.And _ h.0
      (skipped (codes "assert") w.Assert _ h.1.0
      (skipped (codes "class") w.Class _ h.1.1.0
      (skipped (codes "def") w.Def _ h.1.1.1.0
      (skipped (codes "else") w.Else _ h.1.1.1.1.0
      (skipped (codes "for") w.For _ h.1.1.1.1.1.0
      (skipped (codes "from") w.From _ h.1.1.1.1.1.1.0
      (skipped (codes "if") w.If _ h.1.1.1.1.1.1.1.0
      (skipped (codes "import") w.Import _ h.1.1.1.1.1.1.1.1.0
      (skipped (codes "in") w.In _ h.1.1.1.1.1.1.1.1.1.0
      (skipped (codes "or") w.Or _ h.1.1.1.1.1.1.1.1.1.1.0
      (skipped (codes "pass") w.Pass _ h.1.1.1.1.1.1.1.1.1.1.1.0
      (skipped (codes "relu") w.Relu _ h.1.1.1.1.1.1.1.1.1.1.1.1.0
      (skipped (codes "select") w.Select _ h.1.1.1.1.1.1.1.1.1.1.1.1.1.0
      (skipped (codes "seq") w.Seq _ h.1.1.1.1.1.1.1.1.1.1.1.1.1.1.0
      (skipped (codes "stride") w.Stride _ h.1.1.1.1.1.1.1.1.1.1.1.1.1.1.1.0
      (skipped (codes "True") w.True _ h.1.1.1.1.1.1.1.1.1.1.1.1.1.1.1.1.0
      (skipped (codes "False") w.False _ h.1.1.1.1.1.1.1.1.1.1.1.1.1.1.1.1.1.0 refl)))))))))))))))))

-- ---- none has a `_`

abbrev has_no_bar : List ℕ → Bool
has_no_bar [] = true
has_no_bar (b ∷ more) = if b == 95 then false else has_no_bar more

has_bar : (x more : List ℕ) → has_no_bar (x ++ 95 ∷ more) ≡ false
has_bar [] more = refl
has_bar (b ∷ x) more = by (b == 95) (has_bar x more)
  where
    by : (t : Bool) → has_no_bar (x ++ 95 ∷ more) ≡ false
        → (if t then false else has_no_bar (x ++ 95 ∷ more)) ≡ false
    by true h = refl
    by false h = h

-- ---- the name

begins : (x y : List ℕ) → BeginsName x → BeginsName (x ++ y)
begins [] y h = absurd h
begins (b ∷ x) y h = h

no_other : (x more : List ℕ) → BeginsName x → bytes_eq (x ++ 95 ∷ more) (codes "_") ≡ false
no_other [] more h = absurd h
no_other (b ∷ x) more h = by (bytes_eq (b ∷ x ++ 95 ∷ more) (codes "_")) refl
  where
    longer : (y : List ℕ) → b ∷ y ++ 95 ∷ more ≡ 95 ∷ [] → ⊥
    longer [] e = cc
    longer (c ∷ y) e = cc

    by : (t : Bool) → bytes_eq (b ∷ x ++ 95 ∷ more) (codes "_") ≡ t → t ≡ false
    by true e = absurd (longer x ((bytes_eq-Decides (b ∷ x ++ 95 ∷ more) (codes "_")).0 e))
    by false e = refl

-- whatever begins as a name, a word too
pub numbered_named : (x : List ℕ) (k : ℕ) → BeginsName x → AreNameBytes x → IsName (numbered x k)
numbered_named x k first all =
    subst IsName (sym (append_assoc x (95 ∷ []) (decimal k))) (record {
      begins = begins x (95 ∷ decimal k) first;
      bytes = more_bytes x (95 ∷ decimal k) all (refl, decimal_named k);
      some = no_other x (decimal k) first;
      free =
          no_word has_no_bar (x ++ 95 ∷ decimal k) (has_bar x (decimal k))
          (refl, (refl, (refl, (refl, (refl, (refl, (refl, (refl, (refl, (refl, (refl, (refl, (refl, (refl, (refl, (refl, (refl, (refl, tt))))))))))))))))));
    })

pub numbered_is_name : (x : List ℕ) (k : ℕ) → IsName x → IsName (numbered x k)
numbered_is_name x k is = numbered_named x k is.begins is.bytes
