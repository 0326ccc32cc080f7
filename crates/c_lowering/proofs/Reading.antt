-- Reading a template, character by character.
use Rattle.std.proofs.Common.{◌≡◌, ◌<◌, ◌≤◌, ◌+◌, ◌/◌, ◌%◌, ℕ, ◌==◌, Bool, true, false, if◌then◌else◌, List, [], ◌∷◌, ◌++◌, length, map, string_bytes, refl, sym, ap, ◌∙◌, subst, arith, append_assoc, append-nil}
use Rattle.std.specs.Prelude.{⊤}
use Rattle.std.proofs.lemmas.Bool.{eqb-true}
use Rattle.exo_meaning.specs.Units.{Plain, Opened, Closed, InHole}
use Rattle.c_lowering.specs.Made.Lowered.{Hole, Bytes, InBraces}
use Rattle.c_lowering.specs.Made.LoweredUnit.{with_byte, holes_from}
use Rattle.c_lowering.specs.PlainHole.{plain_hole}
use Rattle.c_lowering.specs.Reader.{behind, left_from, IsPast}
use Rattle.c_lowering.specs.declared.templates.Reader.{Reader}
use Rattle.c_lowering.specs.declared.templates.Place.{Place}
use Rattle.c_lowering.specs.declared.templates.Place.TheVariants as places
use lib.Utf8.{encode, encodes}
use lib.Dec.{ltb}
use mathlib.Core.Bool.{cond}

-- ---- bytes of a character

abbrev pub AreNot : ℕ → List ℕ → Type 0
AreNot n [] = ⊤
AreNot n (b ∷ bs) = ((b == n) ≡ false) × AreNot n bs

differ : (b n : ℕ) → (b ≡ n → ⊥) → (b == n) ≡ false
differ b n h = here (b == n) refl
  where
    here : (t : Bool) → (b == n) ≡ t → t ≡ false
    here true e = absurd (h (eqb-true b n e))
    here false e = refl

larger : (b n : ℕ) → n < 128 → 128 ≤ b → (b == n) ≡ false
larger b n h k = differ b n (λ e. absurd (omega arith))

-- a character that is not that ASCII character has no byte of it
pub no_byte : (c n : ℕ) → n < 128 → (c ≡ n → ⊥) → AreNot n (encode c)
unfolding encode
no_byte c n h k = here (ltb c 128) refl
  where
    next_larger : (m : ℕ) → (128 + m == n) ≡ false
    next_larger m = larger (128 + m) n h (omega arith)

    here : (t : Bool) → ltb c 128 ≡ t → AreNot n (cond t (c ∷ []) (cond (ltb c 2048) ((192 + c / 64) ∷ (128 + c % 64) ∷ []) (cond (ltb c 65536) ((224 + c / 4096) ∷ (128 + (c / 64) % 64) ∷ (128 + c % 64) ∷ []) ((240 + c / 262144) ∷ (128 + (c / 4096) % 64) ∷ (128 + (c / 64) % 64) ∷ (128 + c % 64) ∷ []))))
    here true e = (differ c n k, tt)
    here false e = two (ltb c 2048) (ltb c 65536)
      where
        two : (s t : Bool) → AreNot n (cond s ((192 + c / 64) ∷ (128 + c % 64) ∷ []) (cond t ((224 + c / 4096) ∷ (128 + (c / 64) % 64) ∷ (128 + c % 64) ∷ []) ((240 + c / 262144) ∷ (128 + (c / 4096) % 64) ∷ (128 + (c / 64) % 64) ∷ (128 + c % 64) ∷ [])))
        two true t = (larger (192 + c / 64) n h (omega arith), (next_larger (c % 64), tt))
        two false true = (larger (224 + c / 4096) n h (omega arith), (next_larger ((c / 64) % 64), (next_larger (c % 64), tt)))
        two false false = (larger (240 + c / 262144) n h (omega arith), (next_larger ((c / 4096) % 64), (next_larger ((c / 64) % 64), (next_larger (c % 64), tt))))

pub first_byte : (c : ℕ) → (b : ℕ) × (bs : List ℕ) × (encode c ≡ b ∷ bs)
unfolding encode
first_byte c = here (ltb c 128) (ltb c 2048) (ltb c 65536)
  where
    here : (s t u : Bool) → (b : ℕ) × (bs : List ℕ) × (cond s (c ∷ []) (cond t ((192 + c / 64) ∷ (128 + c % 64) ∷ []) (cond u ((224 + c / 4096) ∷ (128 + (c / 64) % 64) ∷ (128 + c % 64) ∷ []) ((240 + c / 262144) ∷ (128 + (c / 4096) % 64) ∷ (128 + (c / 64) % 64) ∷ (128 + c % 64) ∷ []))) ≡ b ∷ bs)
    here true t u = (c, [], refl)
    here false true u = (192 + c / 64, (128 + c % 64) ∷ [], refl)
    here false false true = (224 + c / 4096, (128 + (c / 64) % 64) ∷ (128 + c % 64) ∷ [], refl)
    here false false false = (240 + c / 262144, (128 + (c / 4096) % 64) ∷ (128 + (c / 64) % 64) ∷ (128 + c % 64) ∷ [], refl)

-- ---- texts in front of parts

pub behind_more : (a b : List ℕ) (hs : List Hole) → behind (a ++ b) hs ≡ behind a (behind b hs)
behind_more [] b hs = refl
behind_more (c ∷ a) b hs = ap (with_byte c) (behind_more a b hs)

single_end : (c : ℕ) (text : List ℕ) → behind (c ∷ text) [] ≡ Bytes (c ∷ text) ∷ []
single_end c [] = refl
single_end c (d ∷ text) = ap (with_byte c) (single_end d text)

single_name : (c : ℕ) (text name : List ℕ) (hs : List Hole) → behind (c ∷ text) (InBraces name ∷ hs) ≡ Bytes (c ∷ text) ∷ InBraces name ∷ hs
single_name c [] name hs = refl
single_name c (d ∷ text) name hs = ap (with_byte c) (single_name d text name hs)

-- a name ends the text
pub behind_name : (text name : List ℕ) (hs : List Hole) → behind text (InBraces name ∷ hs) ≡ behind text [] ++ InBraces name ∷ hs
behind_name [] name hs = refl
behind_name (c ∷ text) name hs = single_name c text name hs ∙ ap (λ l. l ++ InBraces name ∷ hs) (sym (single_end c text))

pub text_alone : (text : List ℕ) → (length text == 0) ≡ false → behind text [] ≡ Bytes text ∷ []
text_alone [] h = cc
text_alone (c ∷ text) h = single_end c text

-- ---- what is read

text_read : (bs rest : List ℕ) → AreNot 123 bs → AreNot 125 bs → holes_from Plain (bs ++ rest) ≡ behind bs (holes_from Plain rest)
text_read [] rest h k = refl
text_read (b ∷ bs) rest h k =
    ap (λ t. if t then holes_from Opened (bs ++ rest) else (if b == 125 then holes_from Closed (bs ++ rest) else with_byte b (holes_from Plain (bs ++ rest)))) h.0
    ∙ ap (λ t. if t then holes_from Closed (bs ++ rest) else with_byte b (holes_from Plain (bs ++ rest))) k.0
    ∙ ap (with_byte b) (text_read bs rest h.1 k.1)

name_read : (name bs rest : List ℕ) → AreNot 125 bs → holes_from (InHole name) (bs ++ rest) ≡ holes_from (InHole (name ++ bs)) rest
name_read name [] rest k = ap (λ n. holes_from (InHole n) rest) (sym (append-nil name))
name_read name (b ∷ bs) rest k =
    ap (λ t. if t then InBraces name ∷ holes_from Plain (bs ++ rest) else holes_from (InHole (name ++ b ∷ [])) (bs ++ rest)) k.0
    ∙ name_read (name ++ b ∷ []) bs rest k.1
    ∙ ap (λ n. holes_from (InHole n) rest) (append_assoc name (b ∷ []) bs)

opened_read : (bs rest : List ℕ) (b : ℕ) (more : List ℕ) → bs ≡ b ∷ more → AreNot 123 bs → AreNot 125 bs → holes_from Opened (bs ++ rest) ≡ holes_from (InHole bs) rest
opened_read [] rest b more e h k = cc
opened_read (c ∷ bs) rest b more e h k =
    ap (λ t. if t then with_byte c (holes_from Plain (bs ++ rest)) else (if c == 125 then [] else holes_from (InHole (c ∷ [])) (bs ++ rest))) h.0
    ∙ ap (λ t. if t then [] else holes_from (InHole (c ∷ [])) (bs ++ rest)) k.0
    ∙ name_read (c ∷ []) bs rest k.1

closed_read : (bs rest : List ℕ) (b : ℕ) (more : List ℕ) → bs ≡ b ∷ more → AreNot 125 bs → holes_from Closed (bs ++ rest) ≡ []
closed_read [] rest b more e k = cc
closed_read (c ∷ bs) rest b more e k = ap (λ t. if t then with_byte c (holes_from Plain (bs ++ rest)) else []) k.0

-- one character, where it is no brace

pub plain_character : (c : ℕ) (rest : List ℕ) → (c ≡ 123 → ⊥) → (c ≡ 125 → ⊥) → holes_from Plain (encode c ++ rest) ≡ behind (encode c) (holes_from Plain rest)
plain_character c rest h k = text_read (encode c) rest (no_byte c 123 (omega arith) h) (no_byte c 125 (omega arith) k)

pub name_character : (name : List ℕ) (c : ℕ) (rest : List ℕ) → (c ≡ 125 → ⊥) → holes_from (InHole name) (encode c ++ rest) ≡ holes_from (InHole (name ++ encode c)) rest
name_character name c rest k = name_read name (encode c) rest (no_byte c 125 (omega arith) k)

pub first_of_name : (c : ℕ) (rest : List ℕ) → (c ≡ 123 → ⊥) → (c ≡ 125 → ⊥) → holes_from Opened (encode c ++ rest) ≡ holes_from (InHole (encode c)) rest
first_of_name c rest h k = let b = first_byte c in opened_read (encode c) rest b.0 b.1 b.2 (no_byte c 123 (omega arith) h) (no_byte c 125 (omega arith) k)

pub lone_brace : (c : ℕ) (rest : List ℕ) → (c ≡ 125 → ⊥) → holes_from Closed (encode c ++ rest) ≡ []
lone_brace c rest k = let b = first_byte c in closed_read (encode c) rest b.0 b.1 b.2 (no_byte c 125 (omega arith) k)

-- ---- steps

-- with more text behind the parts
pub past_text : (bytes more : List ℕ) (old new : Reader) → new.parts.items ≡ old.parts.items → string_bytes new.text ≡ string_bytes old.text ++ more → ((rest : List ℕ) → left_from old.place (string_bytes old.name) (bytes ++ rest) ≡ behind more (left_from new.place (string_bytes new.name) rest)) → IsPast bytes old new
past_text bytes more old new same text h rest =
    let left = left_from new.place (string_bytes new.name) rest in
    ap (λ l. map plain_hole old.parts.items ++ behind (string_bytes old.text) l) (h rest)
    ∙ ap (λ l. map plain_hole old.parts.items ++ l) (sym (behind_more (string_bytes old.text) more left))
    ∙ ap (λ t. map plain_hole old.parts.items ++ behind t left) (sym text)
    ∙ ap (λ ps. map plain_hole ps ++ behind (string_bytes new.text) left) (sym same)

brace_opened : (rest : List ℕ) → holes_from Opened (encode 123 ++ rest) ≡ behind (encode 123) (holes_from Plain rest)
unfolding encode
brace_opened rest = refl

brace_closed : (rest : List ℕ) → holes_from Closed (encode 125 ++ rest) ≡ behind (encode 125) (holes_from Plain rest)
unfolding encode
brace_closed rest = refl

name_closed : (name rest : List ℕ) → holes_from (InHole name) (encode 125 ++ rest) ≡ InBraces name ∷ holes_from Plain rest
unfolding encode
name_closed name rest = refl

-- what is left, at a place that is known
at_place : (r : Reader) (place : Place) (rest : List ℕ) → r.place ≡ place → left_from r.place (string_bytes r.name) rest ≡ left_from place (string_bytes r.name) rest
at_place r place rest e = ap (λ p. left_from p (string_bytes r.name) rest) e

pub plain_step : (old new : Reader) (c : ℕ) → (c ≡ 123 → ⊥) → (c ≡ 125 → ⊥) → old.place ≡ places.Plain → new.place ≡ places.Plain → new.parts.items ≡ old.parts.items → string_bytes new.text ≡ string_bytes old.text ++ encode c → IsPast (encode c) old new
plain_step old new c h k from to same text =
    past_text (encode c) (encode c) old new same text
    (λ rest. at_place old places.Plain (encode c ++ rest) from ∙ plain_character c rest h k ∙ ap (behind (encode c)) (sym (at_place new places.Plain rest to)))

pub brace_step : (old new : Reader) (c : ℕ) → c ≡ 123 → old.place ≡ places.Opened → new.place ≡ places.Plain → new.parts.items ≡ old.parts.items → string_bytes new.text ≡ string_bytes old.text ++ encode c → IsPast (encode c) old new
brace_step old new c is from to same text =
    past_text (encode c) (encode c) old new same text
    (λ rest. at_place old places.Opened (encode c ++ rest) from ∙ subst (λ d. holes_from Opened (encode d ++ rest) ≡ behind (encode d) (holes_from Plain rest)) (sym is) (brace_opened rest) ∙ ap (behind (encode c)) (sym (at_place new places.Plain rest to)))

pub closed_step : (old new : Reader) (c : ℕ) → c ≡ 125 → old.place ≡ places.Closed → new.place ≡ places.Plain → new.parts.items ≡ old.parts.items → string_bytes new.text ≡ string_bytes old.text ++ encode c → IsPast (encode c) old new
closed_step old new c is from to same text =
    past_text (encode c) (encode c) old new same text
    (λ rest. at_place old places.Closed (encode c ++ rest) from ∙ subst (λ d. holes_from Closed (encode d ++ rest) ≡ behind (encode d) (holes_from Plain rest)) (sym is) (brace_closed rest) ∙ ap (behind (encode c)) (sym (at_place new places.Plain rest to)))

-- ---- with the same text

past_same : (bytes : List ℕ) (old new : Reader) → new.parts.items ≡ old.parts.items → string_bytes new.text ≡ string_bytes old.text → ((rest : List ℕ) → left_from old.place (string_bytes old.name) (bytes ++ rest) ≡ left_from new.place (string_bytes new.name) rest) → IsPast bytes old new
past_same bytes old new same text h = past_text bytes [] old new same (text ∙ sym (append-nil (string_bytes old.text))) h

pub lone_step : (old new : Reader) (c : ℕ) → (c ≡ 125 → ⊥) → old.place ≡ places.Closed → new.place ≡ places.Ended → new.parts.items ≡ old.parts.items → string_bytes new.text ≡ string_bytes old.text → IsPast (encode c) old new
lone_step old new c k from to same text =
    past_same (encode c) old new same text
    (λ rest. at_place old places.Closed (encode c ++ rest) from ∙ lone_brace c rest k ∙ sym (at_place new places.Ended rest to))

pub name_begins : (old new : Reader) (c : ℕ) → (c ≡ 123 → ⊥) → (c ≡ 125 → ⊥) → old.place ≡ places.Opened → new.place ≡ places.InName → new.parts.items ≡ old.parts.items → string_bytes new.text ≡ string_bytes old.text → string_bytes new.name ≡ encode c → IsPast (encode c) old new
name_begins old new c h k from to same text name =
    past_same (encode c) old new same text
    (λ rest. at_place old places.Opened (encode c ++ rest) from ∙ first_of_name c rest h k ∙ ap (λ n. holes_from (InHole n) rest) (sym name) ∙ sym (at_place new places.InName rest to))

pub name_step : (old new : Reader) (c : ℕ) → (c ≡ 125 → ⊥) → old.place ≡ places.InName → new.place ≡ places.InName → new.parts.items ≡ old.parts.items → string_bytes new.text ≡ string_bytes old.text → string_bytes new.name ≡ string_bytes old.name ++ encode c → IsPast (encode c) old new
name_step old new c k from to same text name =
    past_same (encode c) old new same text
    (λ rest. at_place old places.InName (encode c ++ rest) from ∙ name_character (string_bytes old.name) c rest k ∙ ap (λ n. holes_from (InHole n) rest) (sym name) ∙ sym (at_place new places.InName rest to))

-- the text and then the name become parts
pub name_ends : (old new : Reader) (parts : List Hole) → old.place ≡ places.InName → new.place ≡ places.Plain → parts ≡ map plain_hole old.parts.items ++ behind (string_bytes old.text) [] → map plain_hole new.parts.items ≡ parts ++ InBraces (string_bytes old.name) ∷ [] → string_bytes new.text ≡ [] → IsPast (encode 125) old new
name_ends old new parts from to first second none rest =
    let name = string_bytes old.name in
    let left = holes_from Plain rest in
    let done = map plain_hole old.parts.items in
    ap (λ l. done ++ behind (string_bytes old.text) l) (at_place old places.InName (encode 125 ++ rest) from ∙ name_closed name rest)
    ∙ ap (λ l. done ++ l) (behind_name (string_bytes old.text) name left)
    ∙ sym (append_assoc done (behind (string_bytes old.text) []) (InBraces name ∷ left))
    ∙ ap (λ l. l ++ InBraces name ∷ left) (sym first)
    ∙ sym (append_assoc parts (InBraces name ∷ []) left)
    ∙ ap (λ l. l ++ left) (sym second)
    ∙ ap (λ t. map plain_hole new.parts.items ++ behind t left) (sym none)
    ∙ ap (λ l. map plain_hole new.parts.items ++ behind (string_bytes new.text) l) (sym (at_place new places.Plain rest to))

-- ---- all characters

pub one_more : (cs : List ℕ) (c : ℕ) (rest : List ℕ) → encodes (cs ++ c ∷ []) ++ rest ≡ encodes cs ++ (encode c ++ rest)
one_more [] c rest = ap (λ l. l ++ rest) (append-nil (encode c))
one_more (d ∷ cs) c rest = append_assoc (encode d) (encodes (cs ++ c ∷ [])) rest ∙ ap (λ l. encode d ++ l) (one_more cs c rest) ∙ sym (append_assoc (encode d) (encodes cs) (encode c ++ rest))
