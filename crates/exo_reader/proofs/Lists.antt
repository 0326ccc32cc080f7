-- Lists that loops read.
use Rattle.std.proofs.Common.{◌≡◌, ◌≤◌, ◌<◌, List, [], ◌∷◌, ◌++◌, Option, Some, Bool, true, false, length}
use Rattle.std.proofs.Common.{refl, sym, ap, ◌∙◌, append_assoc, subst, arith, map, ◌⊎◌, inl, inr}
use Rattle.std.proofs.lemmas.List.{length-append, append-nil}
use Rattle.text_phrases.specs.Limits.{Limits, in_depth, in_length, syntax, too_long}
use Rattle.text_phrases.specs.Phrase.{first, Phrase, Taken, Refused}
use Rattle.text_phrases.specs.Sequence.{AllFit, spell_all, then, many, exactly}
use Rattle.text_phrases.specs.Commas.{spell_more, commas}
use Rattle.text_phrases.specs.Answers.{Refuses}
use Rattle.text_phrases.specs.declared.Refusal.{Refusal}
use Rattle.text_phrases.specs.declared.Refusal.TheVariants.{Syntax, TooLong}
use Rattle.text_phrases.proofs.Phrases.{keeps_all}
use Rattle.text_phrases.proofs.Exits.{refuses_along}
use Rattle.text_phrases.proofs.Sequences.{Back, Step, step_taken, Items, items_none, items_next}
use Rattle.text_phrases.proofs.Sequences.{items_done, items_refused, Apart, taken_exactly}
use Rattle.text_phrases.proofs.Commas.{CommaApart, Commas, commas_none, commas_next, commas_refused, commas_full, commas_done, commas_trailing}
use Rattle.text_phrases.proofs.Joints.{Joint, now, later, both, whole_err}
use Rattle.text_lexer.specs.declared.token.Token.{Token}
use Rattle.text_lexer.specs.declared.token.Token.TheVariants.{Sign, Dedent}
use Rattle.text_lexer.specs.declared.token.Sign.TheVariants.{Close, Comma}
use Rattle.exo_reader.specs.Parts.{Is, some_of, EnclosedFit, spell_enclosed, enclosed}

pub map_snoc : {A B : Type 0} (f : A → B) (list : List A) (s : A) → map f (list ++ (s ∷ [])) ≡ map f list ++ (f s ∷ [])
map_snoc f [] s = refl
map_snoc f (t ∷ list) s = ap (λ w. f t ∷ w) (map_snoc f list s)

-- one or more of a phrase

abbrev pub some_rest : {T : Type 0} → Phrase Token T → (Option Token → Type 0) → Phrase Token (T × List T)
some_rest P ends = then P (many P ends)

back_some : {T : Type 0} (P : Phrase Token T) (ends : Option Token → Type 0) (limits : Limits) (other : List T) (x y : List Token) → (some_of P ends).Fits limits other → ends (first y) → x ≡ spell_all P other ++ y → Back (some_rest P ends) (λ p. p.0 ∷ p.1) limits other x y
back_some P ends limits [] x y fits follows equal = absurd fits.1
back_some P ends limits (s ∷ rest) x y fits follows equal = record { tree = (s, rest); fits = (fits.0.0, fits.0.1); is = refl; equal = equal; follows = follows }

step_some : {T : Type 0} (P : Phrase Token T) (ends : Option Token → Type 0) (tokens : List Token) → Step (some_of P ends) (some_rest P ends) (λ p. p.0 ∷ p.1) tokens tokens
step_some P ends tokens = record {
  front = [];
  split = refl;
  fits = λ limits s fits. ((fits.0, fits.1), tt);
  spelled = λ s. refl;
  back = λ limits other x y same fits follows equal. back_some P ends limits other x y fits follows equal;
}

some_may : {T : Type 0} (P : Phrase Token T) (ends : Option Token → Type 0) → Apart P ends → (limits : Limits) (q : List T) (y : List Token) → AllFit P limits q → ends (first y) → P.Follows (first (spell_all P q ++ y))
some_may P ends apart limits [] y fits follows = apart.last (first y) follows
some_may P ends apart limits (t ∷ ts) y fits follows = subst (λ w. P.Follows (first w)) (sym (append_assoc (P.spell t) (spell_all P ts) y)) (apart.next limits t (spell_all P ts ++ y) fits.0)

some_joint : {T : Type 0} (P : Phrase Token T) (ends : Option Token → Type 0) → Apart P ends → Joint P (many P ends)
some_joint P ends apart = record { may = record { may = λ limits q y fits follows. some_may P ends apart limits q y fits follows }; some = []; fits = λ limits. tt }

-- one or more are read
pub record Some_read {X T : Type 0} (P : Phrase Token T) (ends : Option Token → Type 0) (plain : X → T) (tokens : List Token) (list : List X) (rest : List Token) : Type 0 where
  pub head : X
  pub tail : List X
  pub middle : List Token
  pub is : list ≡ head ∷ tail
  pub taken : Taken P tokens (plain head) middle
  pub items : Items P ends middle (map plain tail) rest

pub some_first : {X T : Type 0} (P : Phrase Token T) (ends : Option Token → Type 0) (plain : X → T) (tokens rest : List Token) (s : X) → Taken P tokens (plain s) rest → Some_read P ends plain tokens (s ∷ []) rest
some_first P ends plain tokens rest s taken = record { head = s; tail = []; middle = rest; is = refl; taken = taken; items = items_none P ends rest }

pub some_next : {X T : Type 0} (P : Phrase Token T) (ends : Option Token → Type 0) (plain : X → T) (tokens rest after : List Token) (list : List X) (s : X) → Apart P ends → Some_read P ends plain tokens list rest → Taken P rest (plain s) after → Some_read P ends plain tokens (list ++ (s ∷ [])) after
some_next {T = T} P ends plain tokens rest after list s apart begun taken = record {
  head = begun.head;
  tail = begun.tail ++ (s ∷ []);
  middle = begun.middle;
  is = ap (λ w. w ++ (s ∷ [])) begun.is;
  taken = begun.taken;
  items = subst (λ (w : List T). Items P ends begun.middle w after) (sym (map_snoc plain begun.tail s)) (items_next P ends begun.middle rest after (map plain begun.tail) (plain s) apart begun.items taken);
}

pub some_done : {X T : Type 0} (P : Phrase Token T) (ends : Option Token → Type 0) (plain : X → T) (tokens rest : List Token) (list : List X) → Apart P ends → Some_read P ends plain tokens list rest → ends (first rest) → Taken (some_of P ends) tokens (map plain list) rest
some_done {T = T} P ends plain tokens rest list apart begun ended =
    subst (λ (b : List T). Taken (some_of P ends) tokens b rest) (sym (ap (map plain) begun.is))
    (step_taken (some_of P ends) (some_rest P ends) (λ p. p.0 ∷ p.1) tokens tokens rest (plain begun.head, map plain begun.tail) (step_some P ends tokens)
    (both (some_joint P ends apart) begun.taken (items_done P ends begun.middle rest (map plain begun.tail) begun.items
    (λ limits s y fits same. apart.begins limits s y fits (subst ends same ended)))))

pub some_err_first : {T : Type 0} (P : Phrase Token T) (ends : Option Token → Type 0) (tokens : List Token) (e : Refusal) → Apart P ends → Refuses P tokens e → Refuses (some_of P ends) tokens e
some_err_first P ends tokens e apart refuses = whole_err (some_of P ends) (some_rest P ends) (λ p. p.0 ∷ p.1) tokens tokens e (step_some P ends tokens) (now (some_joint P ends apart) tokens e refuses)

pub some_err : {X T : Type 0} (P : Phrase Token T) (ends : Option Token → Type 0) (plain : X → T) (tokens rest : List Token) (list : List X) (e : Refusal) → Apart P ends → Some_read P ends plain tokens list rest → (ends (first rest) → ⊥) → Refuses P rest e → Refuses (some_of P ends) tokens e
some_err P ends plain tokens rest list e apart begun unended refuses =
    whole_err (some_of P ends) (some_rest P ends) (λ p. p.0 ∷ p.1) tokens tokens e (step_some P ends tokens)
    (later (some_joint P ends apart) begun.taken e
    (refuses_along P rest (many P ends) begun.middle e
    (λ cause last refused. items_refused P ends begun.middle rest (map plain begun.tail) last apart begun.items unended refused)
    refuses))

-- lines of a block

ended : {T : Type 0} (P : Phrase Token T) → Joint (some_of P (Is Dedent)) (exactly (Dedent ∷ []))
ended P = record { may = record { may = λ limits q y fits follows. refl }; some = tt; fits = λ limits. tt }

-- what stands before a line: none was read, or some and the block goes on
abbrev pub Lines_read : {X T : Type 0} → Phrase Token T → (X → T) → List Token → List X → List Token → Type 0
Lines_read P plain tokens list rest =
    ((list ≡ []) × (tokens ≡ rest)) ⊎ (Some_read P (Is Dedent) plain tokens list rest ×
    (first rest ≡ Some Dedent → ⊥))

lines_some :
    {X T : Type 0} (P : Phrase Token T) (plain : X → T) (tokens rest after : List Token) (list : List X) (s : X)
    → Apart P (Is Dedent) → Lines_read P plain tokens list rest → Taken P rest (plain s) after → Some_read P
    (Is Dedent) plain tokens (list ++ (s ∷ [])) after
lines_some P plain tokens rest after list s apart (inl none) taken =
    rw (none.0, none.1) (some_first P (Is Dedent) plain rest after s taken)
lines_some P plain tokens rest after list s apart (inr some) taken =
    some_next P (Is Dedent) plain tokens rest after list s apart some.0 taken

-- one more line is read
pub lines_more :
    {X T : Type 0} (P : Phrase Token T) (plain : X → T) (tokens rest after : List Token) (list : List X) (s : X)
    → Apart P (Is Dedent) → Lines_read P plain tokens list rest → Taken P rest (plain s) after →
    (first after ≡ Some Dedent → ⊥) → Lines_read P plain tokens (list ++ (s ∷ [])) after
lines_more P plain tokens rest after list s apart begun taken goes =
    inr (lines_some P plain tokens rest after list s apart begun taken, goes)

-- the last line is read
pub lines_done :
    {X T : Type 0} (P : Phrase Token T) (plain : X → T) (tokens rest after behind : List Token) (list : List X)
    (s : X) → Apart P (Is Dedent) → Lines_read P plain tokens list rest → Taken P rest (plain s) after → after ≡
    Dedent ∷ behind → Taken (then (some_of P (Is Dedent)) (exactly (Dedent ∷ []))) tokens
    (map plain (list ++ (s ∷ [])), tt) behind
lines_done P plain tokens rest after behind list s apart begun taken ends =
    both (ended P) (some_done P (Is Dedent) plain tokens after (list ++ (s ∷ [])) apart
    (lines_some P plain tokens rest after list s apart begun taken) (ap first ends))
    (taken_exactly (Dedent ∷ []) after behind ends)

-- a line is refused
pub lines_err :
    {X T : Type 0} (P : Phrase Token T) (plain : X → T) (tokens rest : List Token) (list : List X) (e : Refusal)
    → Apart P (Is Dedent) → Lines_read P plain tokens list rest → Refuses P rest e → Refuses
    (then (some_of P (Is Dedent)) (exactly (Dedent ∷ []))) tokens e
lines_err P plain tokens rest list e apart (inl none) refuses =
    rw none.1 (now (ended P) rest e (some_err_first P (Is Dedent) rest e apart refuses))
lines_err P plain tokens rest list e apart (inr some) refuses =
    now (ended P) tokens e (some_err P (Is Dedent) plain tokens rest list e apart some.0 some.1 refuses)

-- what is left behind some lines is not longer
pub lines_shorter :
    {X T : Type 0} (P : Phrase Token T) (plain : X → T) (tokens rest : List Token) (list : List X) → Lines_read
    P plain tokens list rest → length rest ≤ length tokens
lines_shorter P plain tokens rest list (inl none) = omega (arith, ap length none.1)
lines_shorter P plain tokens rest list (inr some) =
    omega (
      arith,
      ap length some.0.taken.whole,
      length-append (P.spell (plain some.0.head)) some.0.middle,
      ap length some.0.items.whole,
      length-append (spell_all P (map plain some.0.tail)) rest,
    )

-- items between parentheses

abbrev pub item_rest : {T : Type 0} → Phrase Token T → (List T → Type 0) → Phrase Token (List T × Bool)
item_rest P Short = commas P (Sign Comma) Short (Is (Sign Close))

abbrev pub items_of : {T : Type 0} → Phrase Token T → (List T → Type 0) → Phrase Token (T × (List T × Bool))
items_of P Short = then P (item_rest P Short)

abbrev pub made : {T : Type 0} → T × (List T × Bool) → List T × Bool
made p = (p.0 ∷ p.1.0, p.1.1)

-- what an item between parentheses is like
pub record Enclosable {T : Type 0} (P : Phrase Token T) (Short : List T → Type 0) : Type 0 where
  pub begins : (limits : Limits) (t : T) (y : List Token) → P.Fits limits t → first (P.spell t ++ y) ≡ Some (Sign Close) → ⊥
  pub comma : P.Follows (Some (Sign Comma))
  pub close : P.Follows (Some (Sign Close))
  pub short : Short []

pub enclosed_apart : {T : Type 0} (P : Phrase Token T) (Short : List T → Type 0) → Enclosable P Short → CommaApart P (Sign Comma) (Is (Sign Close))
enclosed_apart P Short can = record {
  comma_goes_on = λ ends. cc (ends);
  comma_follows = can.comma;
  begins = λ limits t y fits ends. can.begins limits t y fits ends;
  last = λ o ends. subst P.Follows (sym ends) can.close;
}

back_enclosed : {T : Type 0} (P : Phrase Token T) (Short : List T → Type 0) (limits : Limits) (tokens : List Token) (list : List T) (trailing : Bool) (x y : List Token) → (first tokens ≡ Some (Sign Close) → ⊥) → first tokens ≡ first x → EnclosedFit P Short limits list trailing → first y ≡ Some (Sign Close) → x ≡ spell_enclosed P list trailing ++ y → Back (items_of P Short) made limits (list, trailing) x y
back_enclosed P Short limits tokens [] true x y unclosed same fits follows equal = absurd fits
back_enclosed P Short limits tokens [] false x y unclosed same fits follows equal = absurd (unclosed (same ∙ ap first equal ∙ follows))
back_enclosed P Short limits tokens (a ∷ more) trailing x y unclosed same fits follows equal =
    record { tree = (a, (more, trailing)); fits = fits; is = refl; equal = equal; follows = follows }

step_enclosed : {T : Type 0} (P : Phrase Token T) (Short : List T → Type 0) (tokens : List Token) → (first tokens ≡ Some (Sign Close) → ⊥) → Step (enclosed P Short) (items_of P Short) made tokens tokens
step_enclosed P Short tokens unclosed = record {
  front = [];
  split = refl;
  fits = λ limits s fits. fits;
  spelled = λ s. refl;
  back = λ limits other x y same fits follows equal. back_enclosed P Short limits tokens other.0 other.1 x y unclosed same fits follows equal;
}

more_may : {T : Type 0} (P : Phrase Token T) (Short : List T → Type 0) → Enclosable P Short → (q : List T) (b : Bool) (y : List Token) → first y ≡ Some (Sign Close) → P.Follows (first (spell_more P (Sign Comma) q b ++ y))
more_may P Short can [] true y follows = can.comma
more_may P Short can [] false y follows = subst P.Follows (sym follows) can.close
more_may P Short can (t ∷ ts) b y follows = can.comma

enclosed_joint : {T : Type 0} (P : Phrase Token T) (Short : List T → Type 0) → Enclosable P Short → Joint P (item_rest P Short)
enclosed_joint P Short can = record {
  may = record { may = λ limits q y fits follows. more_may P Short can q.0 q.1 y follows };
  some = ([], false);
  fits = λ limits. (tt, keeps_all limits tt can.short tt);
}

none_only : {T : Type 0} (P : Phrase Token T) (Short : List T → Type 0) (limits : Limits) (tokens : List Token) (list : List T) (trailing : Bool) (x y : List Token) → Enclosable P Short → first tokens ≡ Some (Sign Close) → first tokens ≡ first x → EnclosedFit P Short limits list trailing → x ≡ spell_enclosed P list trailing ++ y → ◌≡◌ {A = List T × Bool} (list, trailing) ([], false)
none_only P Short limits tokens [] true x y can close same fits equal = absurd fits
none_only P Short limits tokens [] false x y can close same fits equal = refl
none_only P Short limits tokens (a ∷ more) trailing x y can close same fits equal =
    absurd (can.begins limits a (spell_more P (Sign Comma) more trailing ++ y) fits.0 (sym (ap first (equal ∙ append_assoc (P.spell a) (spell_more P (Sign Comma) more trailing) y)) ∙ sym same ∙ close))

pub enclosed_none : {T : Type 0} (P : Phrase Token T) (Short : List T → Type 0) (tokens : List Token) → Enclosable P Short → first tokens ≡ Some (Sign Close) → Taken (enclosed P Short) tokens ([], false) tokens
enclosed_none P Short tokens can close = record {
  fits = λ limits. tt;
  whole = refl;
  only = λ limits other x y same fits follows equal. none_only P Short limits tokens other.0 other.1 x y can close same fits equal;
}

-- some items are read
pub record Enclosed_read {X T : Type 0} (P : Phrase Token T) (Short : List T → Type 0) (plain : X → T) (tokens : List Token) (list : List X) (rest : List Token) : Type 0 where
  pub head : X
  pub tail : List X
  pub middle : List Token
  pub is : list ≡ head ∷ tail
  pub unclosed : first tokens ≡ Some (Sign Close) → ⊥
  pub short : Short (map plain tail)
  pub taken : Taken P tokens (plain head) middle
  pub items : Commas P (Sign Comma) (Is (Sign Close)) middle (map plain tail) rest

pub enclosed_first : {X T : Type 0} (P : Phrase Token T) (Short : List T → Type 0) (plain : X → T) (tokens rest : List Token) (p : X) → Enclosable P Short → (first tokens ≡ Some (Sign Close) → ⊥) → Taken P tokens (plain p) rest → Enclosed_read P Short plain tokens (p ∷ []) rest
enclosed_first P Short plain tokens rest p can unclosed taken =
    record { head = p; tail = []; middle = rest; is = refl; unclosed = unclosed; short = can.short; taken = taken; items = commas_none P (Sign Comma) (Is (Sign Close)) rest }

-- one more item is short too
abbrev pub Room : {X T : Type 0} → (List T → Type 0) → (X → T) → List X → Type 0
Room {X = X} {T = T} Short plain list = (head : X) (tail : List X) (t : T) → list ≡ head ∷ tail → Short (map plain tail ++ (t ∷ []))

pub enclosed_next : {X T : Type 0} (P : Phrase Token T) (Short : List T → Type 0) (plain : X → T) (tokens rest after found : List Token) (list : List X) (p : X) → Enclosable P Short → Room Short plain list → Enclosed_read P Short plain tokens list rest → rest ≡ Sign Comma ∷ after → Taken P after (plain p) found → Enclosed_read P Short plain tokens (list ++ (p ∷ [])) found
enclosed_next {T = T} P Short plain tokens rest after found list p can room begun comma taken = record {
  head = begun.head;
  tail = begun.tail ++ (p ∷ []);
  middle = begun.middle;
  is = ap (λ w. w ++ (p ∷ [])) begun.is;
  unclosed = begun.unclosed;
  short = subst Short (sym (map_snoc plain begun.tail p)) (room begun.head begun.tail (plain p) begun.is);
  taken = begun.taken;
  items = subst (λ (w : List T). Commas P (Sign Comma) (Is (Sign Close)) begun.middle w found) (sym (map_snoc plain begun.tail p))
      (commas_next P (Sign Comma) (Is (Sign Close)) begun.middle after found (map plain begun.tail) (plain p) (enclosed_apart P Short can)
      (subst (Commas P (Sign Comma) (Is (Sign Close)) begun.middle (map plain begun.tail)) comma begun.items) taken);
}

enclosed_whole : {X T : Type 0} (P : Phrase Token T) (Short : List T → Type 0) (plain : X → T) (tokens rest : List Token) (list : List X) (trailing : Bool) → Enclosable P Short → (begun : Enclosed_read P Short plain tokens list rest) → (last : List Token) → Taken (item_rest P Short) begun.middle (map plain begun.tail, trailing) last → Taken (enclosed P Short) tokens (map plain list, trailing) last
enclosed_whole {T = T} P Short plain tokens rest list trailing can begun last taken =
    subst (λ (b : List T). Taken (enclosed P Short) tokens (b, trailing) last) (sym (ap (map plain) begun.is))
    (step_taken (enclosed P Short) (items_of P Short) made tokens tokens last (plain begun.head, (map plain begun.tail, trailing)) (step_enclosed P Short tokens begun.unclosed) (both (enclosed_joint P Short can) begun.taken taken))

pub enclosed_done : {X T : Type 0} (P : Phrase Token T) (Short : List T → Type 0) (plain : X → T) (tokens rest : List Token) (list : List X) → Enclosable P Short → Enclosed_read P Short plain tokens list rest → (first rest ≡ Some (Sign Comma) → ⊥) → Taken (enclosed P Short) tokens (map plain list, false) rest
enclosed_done P Short plain tokens rest list can begun uncommaed =
    enclosed_whole P Short plain tokens rest list false can begun rest (commas_done P (Sign Comma) Short (Is (Sign Close)) begun.middle rest (map plain begun.tail) begun.items begun.short uncommaed)

pub enclosed_trailing : {X T : Type 0} (P : Phrase Token T) (Short : List T → Type 0) (plain : X → T) (tokens rest after : List Token) (list : List X) → Enclosable P Short → Enclosed_read P Short plain tokens list rest → rest ≡ Sign Comma ∷ after → first after ≡ Some (Sign Close) → Taken (enclosed P Short) tokens (map plain list, true) after
enclosed_trailing P Short plain tokens rest after list can begun comma ends =
    enclosed_whole P Short plain tokens rest list true can begun after (commas_trailing P (Sign Comma) Short (Is (Sign Close)) begun.middle after (map plain begun.tail) (enclosed_apart P Short can)
    (subst (Commas P (Sign Comma) (Is (Sign Close)) begun.middle (map plain begun.tail)) comma begun.items) begun.short ends)

pub enclosed_err_first : {T : Type 0} (P : Phrase Token T) (Short : List T → Type 0) (tokens : List Token) (e : Refusal) → Enclosable P Short → (first tokens ≡ Some (Sign Close) → ⊥) → Refuses P tokens e → Refuses (enclosed P Short) tokens e
enclosed_err_first P Short tokens e can unclosed refuses = whole_err (enclosed P Short) (items_of P Short) made tokens tokens e (step_enclosed P Short tokens unclosed) (now (enclosed_joint P Short can) tokens e refuses)

-- a refusal behind the first item
enclosed_later : {X T : Type 0} (P : Phrase Token T) (Short : List T → Type 0) (plain : X → T) (tokens rest : List Token) (list : List X) (e : Refusal) → Enclosable P Short → (begun : Enclosed_read P Short plain tokens list rest) → Refuses (item_rest P Short) begun.middle e → Refuses (enclosed P Short) tokens e
enclosed_later P Short plain tokens rest list e can begun refuses =
    whole_err (enclosed P Short) (items_of P Short) made tokens tokens e (step_enclosed P Short tokens begun.unclosed)
    (later (enclosed_joint P Short can) begun.taken e refuses)

pub enclosed_err : {X T : Type 0} (P : Phrase Token T) (Short : List T → Type 0) (plain : X → T) (tokens rest after : List Token) (list : List X) (e : Refusal) → Enclosable P Short → Room Short plain list → Enclosed_read P Short plain tokens list rest → rest ≡ Sign Comma ∷ after → (first after ≡ Some (Sign Close) → ⊥) → Refuses P after e → Refuses (enclosed P Short) tokens e
enclosed_err P Short plain tokens rest after list e can room begun comma goes refuses =
    enclosed_later P Short plain tokens rest list e can begun
    (refuses_along P after (item_rest P Short) begun.middle e
    (λ cause last refused. commas_refused P (Sign Comma) Short (Is (Sign Close)) begun.middle after (map plain begun.tail) last (enclosed_apart P Short can)
    (subst (Commas P (Sign Comma) (Is (Sign Close)) begun.middle (map plain begun.tail)) comma begun.items) (λ t. room begun.head begun.tail t begun.is) goes refused)
    refuses)

same_split : (a b c d : List Token) → a ++ b ≡ c ++ d → length b ≡ length d → (a ≡ c) × (b ≡ d)
same_split [] b [] d equal same = (refl, equal)
same_split [] b (e ∷ c) d equal same = absurd (omega (arith, ap length equal, length-append c d, same))
same_split (e ∷ a) b [] d equal same = absurd (omega (arith, ap length equal, length-append a b, same))
same_split (e ∷ a) b (f ∷ c) d equal same =
    let head : e ≡ f = cc (equal) in
    let more : a ++ b ≡ c ++ d = cc (equal) in
    let tail : (a ≡ c) × (b ≡ d) = same_split a b c d more same in
    (ap (λ t. t ∷ a) head ∙ ap (λ l. f ∷ l) tail.0, tail.1)

trailing : {T : Type 0} (P : Phrase Token T) (list : List T) → spell_more P (Sign Comma) list true ≡ spell_more P (Sign Comma) list false ++ (Sign Comma ∷ [])
trailing P [] = refl
trailing P (t ∷ ts) = ap (λ w. Sign Comma ∷ (P.spell t ++ w)) (trailing P ts) ∙ ap (λ w. Sign Comma ∷ w) (sym (append_assoc (P.spell t) (spell_more P (Sign Comma) ts false) (Sign Comma ∷ [])))

abbrev any : {T : Type 0} → List T → Type 0
any list = Unit {0}

-- no item begins behind the comma, whether there is room for one or not
commas_wrong : {T : Type 0} (P : Phrase Token T) (Short : List T → Type 0) (tokens after : List Token) (list : List T) → CommaApart P (Sign Comma) (Is (Sign Close)) → Commas P (Sign Comma) (Is (Sign Close)) tokens list (Sign Comma ∷ after) → Short list → (first after ≡ Some (Sign Close) → ⊥) → Refused P syntax after (length after) → Refused (item_rest P Short) syntax tokens (length after)
commas_wrong P Short tokens after list apart items short unclosed refused =
    let front : List Token = spell_more P (Sign Comma) list false ++ (Sign Comma ∷ []) in
    let whole : tokens ≡ front ++ after = items.whole ∙ sym (append_assoc (spell_more P (Sign Comma) list false) (Sign Comma ∷ []) after) in
    let free : Refused (item_rest P any) syntax tokens (length after) =
    commas_refused P (Sign Comma) any (Is (Sign Close)) tokens after list (length after) apart items (λ t. tt) unclosed refused in
    let split : (front ≡ free.before) × (after ≡ free.rest) = same_split front after free.before free.rest (sym whole ∙ free.whole) (sym free.count) in
    record {
      before = front;
      rest = after;
      whole = whole;
      count = refl;
      begins = record { tree = (list, true); more = []; fits = λ limits. (items.all limits, keeps_all limits tt short tt); spelled = append-nil front ∙ sym (trailing P list) };
      goes = tt;
      stuck = λ others x y same fits follows equal. free.stuck others x y (ap first (sym split.1) ∙ same) fits follows (ap (λ b. b ++ x) (sym split.0) ∙ equal);
    }

pub enclosed_wrong : {X T : Type 0} (P : Phrase Token T) (Short : List T → Type 0) (plain : X → T) (tokens rest after : List Token) (list : List X) → Enclosable P Short → Enclosed_read P Short plain tokens list rest → rest ≡ Sign Comma ∷ after → (first after ≡ Some (Sign Close) → ⊥) → Refused P syntax after (length after) → Refused (enclosed P Short) syntax tokens (length after)
enclosed_wrong P Short plain tokens rest after list can begun comma unclosed refused =
    enclosed_later P Short plain tokens rest list (Syntax (length after)) can begun
    (commas_wrong P Short begun.middle after (map plain begun.tail) (enclosed_apart P Short can) (subst (Commas P (Sign Comma) (Is (Sign Close)) begun.middle (map plain begun.tail)) comma begun.items) begun.short unclosed refused)

-- an item begins behind the comma, but there is no room for one
pub enclosed_full : {X T : Type 0} (P : Phrase Token T) (Short : List T → Type 0) (plain : X → T) (tokens rest after more : List Token) (list : List X) (t : T) (token : Token) → Enclosable P Short → (begun : Enclosed_read P Short plain tokens list rest) → rest ≡ Sign Comma ∷ after → (first after ≡ Some (Sign Close) → ⊥) → first after ≡ Some token → P.Fits in_depth t → P.spell t ≡ token ∷ more → ((t : T) (ts : List T) (y : List Token) → P.Fits in_length t → first after ≡ first (P.spell t ++ y) → Short (map plain begun.tail ++ (t ∷ ts)) → ⊥) → Refused (enclosed P Short) too_long tokens (length after)
enclosed_full P Short plain tokens rest after more list t token can begun comma unclosed next fits spelled over =
    enclosed_later P Short plain tokens rest list (TooLong (length after)) can begun
    (commas_full P (Sign Comma) Short (Is (Sign Close)) begun.middle after more (map plain begun.tail) t token (enclosed_apart P Short can)
    (subst (Commas P (Sign Comma) (Is (Sign Close)) begun.middle (map plain begun.tail)) comma begun.items) begun.short unclosed next fits spelled over)

-- what stands before an item: none was read, or some and a comma
abbrev pub Items_read :
    {X T : Type 0} → Phrase Token T → (List T → Type 0) → (X → T) → List Token → List X → Bool → List Token → Type 0
Items_read P Short plain tokens list comma rest =
    ((list ≡ []) × (comma ≡ false) × (tokens ≡ rest)) ⊎ (Enclosed_read P Short plain tokens list
    (Sign Comma ∷ rest) × (comma ≡ true))

items_some :
    {X T : Type 0} (P : Phrase Token T) (Short : List T → Type 0) (plain : X → T)
    (tokens rest found : List Token) (list : List X) (comma : Bool) (p : X) → Enclosable P Short → Room Short
    plain list → Items_read P Short plain tokens list comma rest → (first rest ≡ Some (Sign Close) → ⊥) → Taken
    P rest (plain p) found → Enclosed_read P Short plain tokens (list ++ (p ∷ [])) found
items_some P Short plain tokens rest found list comma p can room (inl none) goes taken =
    rw (none.0, none.2) (enclosed_first P Short plain rest found p can goes taken)
items_some P Short plain tokens rest found list comma p can room (inr some) goes taken =
    enclosed_next P Short plain tokens (Sign Comma ∷ rest) rest found list p can room some.0 refl taken

-- one more item and a comma are read
pub items_more :
    {X T : Type 0} (P : Phrase Token T) (Short : List T → Type 0) (plain : X → T)
    (tokens rest found after : List Token) (list : List X) (comma : Bool) (p : X) → Enclosable P Short → Room
    Short plain list → Items_read P Short plain tokens list comma rest → (first rest ≡ Some (Sign Close) → ⊥) →
    Taken P rest (plain p) found → found ≡ Sign Comma ∷ after → Items_read P Short plain tokens
    (list ++ (p ∷ [])) true after
items_more P Short plain tokens rest found after list comma p can room begun goes taken here =
    inr (rw (sym here) (items_some P Short plain tokens rest found list comma p can room begun goes taken), refl)

-- the last item is read, with no comma behind it
pub items_last :
    {X T : Type 0} (P : Phrase Token T) (Short : List T → Type 0) (plain : X → T)
    (tokens rest found : List Token) (list : List X) (comma : Bool) (p : X) → Enclosable P Short → Room Short
    plain list → Items_read P Short plain tokens list comma rest → (first rest ≡ Some (Sign Close) → ⊥) → Taken
    P rest (plain p) found → (first found ≡ Some (Sign Comma) → ⊥) → Taken (enclosed P Short) tokens
    (map plain (list ++ (p ∷ [])), false) found
items_last P Short plain tokens rest found list comma p can room begun goes taken none =
    enclosed_done P Short plain tokens found (list ++ (p ∷ [])) can
    (items_some P Short plain tokens rest found list comma p can room begun goes taken) none

-- the list ends with a comma, or is empty
pub items_ended :
    {X T : Type 0} (P : Phrase Token T) (Short : List T → Type 0) (plain : X → T) (tokens rest : List Token)
    (list : List X) (comma : Bool) → Enclosable P Short → Items_read P Short plain tokens list comma rest →
    first rest ≡ Some (Sign Close) → Taken (enclosed P Short) tokens (map plain list, comma) rest
items_ended P Short plain tokens rest list comma can (inl none) ends =
    rw (none.0, none.1, none.2) (enclosed_none P Short rest can ends)
items_ended P Short plain tokens rest list comma can (inr some) ends =
    rw some.1 (enclosed_trailing P Short plain tokens (Sign Comma ∷ rest) rest list can some.0 refl ends)

-- an item is refused
pub items_err :
    {X T : Type 0} (P : Phrase Token T) (Short : List T → Type 0) (plain : X → T) (tokens rest : List Token)
    (list : List X) (comma : Bool) (e : Refusal) → Enclosable P Short → Room Short plain list → Items_read P
    Short plain tokens list comma rest → (first rest ≡ Some (Sign Close) → ⊥) → Refuses P rest e → Refuses
    (enclosed P Short) tokens e
items_err P Short plain tokens rest list comma e can room (inl none) goes refuses =
    rw none.2 (enclosed_err_first P Short rest e can goes refuses)
items_err P Short plain tokens rest list comma e can room (inr some) goes refuses =
    enclosed_err P Short plain tokens (Sign Comma ∷ rest) rest list e can room some.0 refl goes refuses

-- what is left behind an item and a comma is shorter
pub comma_shorter :
    {T : Type 0} (P : Phrase Token T) (tokens found after : List Token) (t : T) → Taken P tokens t found → found
    ≡ Sign Comma ∷ after → length after < length tokens
comma_shorter P tokens found after t taken here =
    omega (arith, ap length taken.whole, length-append (P.spell t) found, ap length here)

-- any number of a phrase

pub many_next : {X T : Type 0} (P : Phrase Token T) (ends : Option Token → Type 0) (plain : X → T) (tokens rest after : List Token) (list : List X) (s : X) → Apart P ends → Items P ends tokens (map plain list) rest → Taken P rest (plain s) after → Items P ends tokens (map plain (list ++ (s ∷ []))) after
many_next {T = T} P ends plain tokens rest after list s apart items taken =
    subst (λ (w : List T). Items P ends tokens w after) (sym (map_snoc plain list s)) (items_next P ends tokens rest after (map plain list) (plain s) apart items taken)

pub many_err : {T : Type 0} (P : Phrase Token T) (ends : Option Token → Type 0) (tokens rest : List Token) (list : List T) (e : Refusal) → Apart P ends → Items P ends tokens list rest → (ends (first rest) → ⊥) → Refuses P rest e → Refuses (many P ends) tokens e
many_err P ends tokens rest list e apart items unended refuses =
    refuses_along P rest (many P ends) tokens e (λ cause last refused. items_refused P ends tokens rest list last apart items unended refused) refuses
