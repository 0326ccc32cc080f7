-- Neighbouring strings.
use Rattle.std.proofs.Common.{◌≡◌, ℕ, ◌+◌, ◌<◌, ◌≤◌, List, [], ◌∷◌, ◌++◌, Option, Some, length, refl, sym, ap, ◌∙◌, append_assoc, subst, arith}
use Rattle.std.proofs.lemmas.List.{length-append}
use Rattle.text_phrases.specs.Limits.{Limits, Cause, syntax, too_long}
use Rattle.text_phrases.specs.Phrase.{first, Phrase, Taken, Refused}
use Rattle.text_phrases.specs.Sequence.{spell_all, carried, several}
use Rattle.text_phrases.proofs.Phrases.{keeps_all, keeps_map, goes_along}
use Rattle.text_phrases.proofs.Sequences.{Items, items_next, Apart, all_append, spell_all-append, several_done, several_full}
use Rattle.text_lexer.specs.declared.token.Token.{Token}
use Rattle.text_lexer.specs.declared.token.Token.TheVariants.{Str}
use Rattle.exo_reader.specs.Parts.{HasSome}
use Rattle.exo_reader.specs.Items.{joined, NoString, FewBytes, neighbours}

abbrev pub piece : Phrase Token (List ℕ)
piece = carried Str

abbrev pub pieces_phrase : Phrase Token (List (List ℕ))
pieces_phrase = several piece FewBytes NoString

pub one_string : (limits : Limits) → neighbours.Fits limits ([] ∷ [])
one_string limits = (((tt, tt), keeps_all limits tt (omega arith) tt), tt)

pub joined_length : (xs ys : List (List ℕ)) → length (joined (xs ++ ys)) ≡ length (joined xs) + length (joined ys)
joined_length [] ys = omega arith
joined_length (x ∷ xs) ys = omega (arith, length-append x (joined (xs ++ ys)), length-append x (joined xs), joined_length xs ys)

-- one more piece
pub joined_snoc : (xs : List (List ℕ)) (x : List ℕ) → length (joined (xs ++ (x ∷ []))) ≡ length (joined xs) + length x
joined_snoc xs x = omega (arith, joined_length xs (x ∷ []), length-append x [])

pub pieces_apart : Apart piece NoString
pieces_apart = record { begins = λ limits x y fits ends. ends; next = λ limits x y fits. tt; last = λ o ends. tt }

no_piece : (rest : List Token) (x : List ℕ) (y : List Token) → ((z : List ℕ) → first rest ≡ Some (Str z) → ⊥) → first rest ≡ first (piece.spell x ++ y) → ⊥
no_piece rest x y none same = none x same

pub pieces_taken : (tokens rest : List Token) (list : List (List ℕ)) → Items piece NoString tokens list rest → FewBytes list → HasSome list → ((z : List ℕ) → first rest ≡ Some (Str z) → ⊥) → Taken neighbours tokens list rest
pieces_taken tokens rest list items few some none =
    let taken : Taken pieces_phrase tokens list rest = several_done piece FewBytes NoString tokens rest list items few (λ limits x y fits same. no_piece rest x y none same) in
    record {
      fits = λ limits. (taken.fits limits, some);
      whole = taken.whole;
      only = λ limits other x y same fits follows equal. taken.only limits other x y same fits.0 follows equal;
    }

has_some : (before more : List Token) (t : Token) (list : List (List ℕ)) → before ++ (t ∷ more) ≡ spell_all piece list → HasSome list
has_some before more t [] spelled = absurd (omega (arith, ap length spelled, length-append before (t ∷ more)))
has_some before more t (x ∷ list) spelled = tt

some_snoc : (list : List (List ℕ)) (x : List ℕ) → HasSome (list ++ (x ∷ []))
some_snoc [] x = tt
some_snoc (y ∷ list) x = tt

empty_last : (list : List (List ℕ)) → FewBytes list → FewBytes (list ++ ([] ∷ []))
empty_last list few = omega (arith, few, joined_snoc list [])

neighbours_refused : {cause : Cause} (tokens : List Token) (last : ℕ) → Refused pieces_phrase cause tokens last → Refused neighbours cause tokens last
neighbours_refused {cause = cause} tokens last refused = record {
  before = refused.before;
  rest = refused.rest;
  whole = refused.whole;
  count = refused.count;
  begins = record {
    tree = refused.begins.tree ++ ([] ∷ []);
    more = refused.begins.more ++ (Str [] ∷ []);
    fits = λ limits.
        ((all_append piece limits refused.begins.tree ([] ∷ []) (refused.begins.fits limits).0 (tt, tt), keeps_map limits (λ u. u) (empty_last refused.begins.tree) (λ u. u) (refused.begins.fits limits).1), some_snoc refused.begins.tree []);
    spelled = sym (append_assoc refused.before refused.begins.more (Str [] ∷ [])) ∙ ap (λ s. s ++ (Str [] ∷ [])) refused.begins.spelled ∙ sym (spell_all-append piece refused.begins.tree ([] ∷ []));
  };
  goes = goes_along pieces_phrase neighbours cause refused.before refused.rest refused.before refused.rest
      (λ limits on. record { tree = on.tree; token = on.token; more = on.more; next = on.next; fits = (on.fits, has_some refused.before on.more on.token on.tree on.spelled); spelled = on.spelled }) refused.goes;
  stuck = λ other x y same fits follows equal. refused.stuck other x y same fits.0 follows equal;
}

string_there : (rest after : List Token) (x : List ℕ) → rest ≡ Str x ∷ after → NoString (first rest) → ⊥
string_there rest after x is none = subst (λ (o : Option Token). NoString o) (ap first is) none

too_many : (list ts : List (List ℕ)) (t x : List ℕ) → t ≡ x → 1024 < length (joined list) + length x → FewBytes (list ++ (t ∷ ts)) → ⊥
too_many list ts t x same long few = omega (arith, few, long, ap length same, joined_length list (t ∷ ts), length-append t (joined ts))

pub pieces_full : (tokens rest after : List Token) (list : List (List ℕ)) (x : List ℕ) → Items piece NoString tokens list rest → FewBytes list → rest ≡ Str x ∷ after → 1024 < length (joined list) + length x → Refused neighbours too_long tokens (length rest)
pieces_full tokens rest after list x items few is long =
    neighbours_refused tokens (length rest)
    (several_full piece FewBytes NoString tokens rest [] list x (Str x) items few (string_there rest after x is) (ap first is) tt refl
    (λ t ts y fits same few. let e : Some (Str x) ≡ Some (Str t) = sym (ap first is) ∙ same in let f : Str x ≡ Str t = cc (e) in let g : t ≡ x = cc (f) in too_many list ts t x g long few))

no_pieces : (tokens : List Token) (other : List (List ℕ)) (y : List Token) → ((z : List ℕ) → first tokens ≡ Some (Str z) → ⊥) → HasSome other → first tokens ≡ first (spell_all piece other ++ y) → ⊥
no_pieces tokens [] y none some same = some
no_pieces tokens (x ∷ more) y none some same = none x same

refused_none : (tokens rest : List Token) → tokens ≡ rest → ((z : List ℕ) → first rest ≡ Some (Str z) → ⊥) → Refused neighbours syntax tokens (length rest)
refused_none tokens rest whole none = record {
  before = [];
  rest = rest;
  whole = whole;
  count = refl;
  begins = record { tree = [] ∷ []; more = Str [] ∷ []; fits = one_string; spelled = refl };
  goes = tt;
  stuck = λ other x y same fits follows equal. no_pieces rest other y none fits.1 (same ∙ ap first equal);
}

pub pieces_none : (tokens rest : List Token) (list : List (List ℕ)) → Items piece NoString tokens list rest → length list ≡ 0 → ((z : List ℕ) → first rest ≡ Some (Str z) → ⊥) → Refused neighbours syntax tokens (length rest)
pieces_none tokens rest [] items empty none = refused_none tokens rest items.whole none
pieces_none tokens rest (x ∷ list) items empty none = absurd (omega (arith, empty))

pub some_by : (list : List (List ℕ)) → 1 ≤ length list → HasSome list
some_by [] long = absurd (omega (arith, long))
some_by (x ∷ list) long = tt

taken_piece : (rest after : List Token) (x : List ℕ) → rest ≡ Str x ∷ after → Taken piece rest x after
taken_piece rest after x whole = record {
  fits = λ limits. tt;
  whole = whole;
  only = λ limits other u v same fits follows equal. let e : Str x ≡ Str other = cc (equal) in let f : x ≡ other = cc (e) in sym f;
}

pub pieces_next : (tokens rest after : List Token) (list : List (List ℕ)) (x : List ℕ) → Items piece NoString tokens list rest → rest ≡ Str x ∷ after → Items piece NoString tokens (list ++ (x ∷ [])) after
pieces_next tokens rest after list x items whole = items_next piece NoString tokens rest after list x pieces_apart items (taken_piece rest after x whole)
