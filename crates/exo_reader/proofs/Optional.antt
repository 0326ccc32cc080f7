-- A list that stands as a phrase says, or nothing where it is empty.
use Rattle.std.proofs.Common.{◌≡◌, ℕ, List, [], ◌++◌, Option, Some, sym, ap, ◌∙◌, ◌⊎◌, inl, inr}
use Rattle.text_phrases.specs.Limits.{Limits, unlimited, Cause, passed}
use Rattle.text_phrases.specs.Phrase.{first, Phrase, Taken, Refused}
use Rattle.text_phrases.specs.Answers.{Refuses}
use Rattle.text_phrases.specs.declared.Refusal.{Refusal}
use Rattle.text_phrases.proofs.Phrases.{first_append, goes_along}
use Rattle.text_phrases.proofs.Exits.{refuses_along}
use Rattle.text_lexer.specs.declared.token.Token.{Token}

-- the list is of the phrase, and spelled alike
pub record Alike {T : Type 0} (P W : Phrase Token (List T)) (limits : Limits) (list : List T) : Type 0 where
  pub part : P.Fits limits list
  pub whole : W.Fits limits list
  pub spelled : W.spell list ≡ P.spell list

-- the whole is the part, which begins with a token, or nothing
pub record Optional {T : Type 0} (token : Token) (P W : Phrase Token (List T)) : Type 0 where
  pub begins : (limits : Limits) (list : List T) (y : List Token) → P.Fits limits list → first (P.spell list ++ y) ≡ Some token
  pub some : (limits : Limits) (list : List T) → P.Fits limits list → Alike P W limits list
  pub other : (limits : Limits) (list : List T) → W.Fits limits list → (list ≡ []) ⊎ Alike P W limits list
  pub none : (limits : Limits) → W.Fits limits []
  pub nothing : W.spell [] ≡ []
  pub ends : (o : Option Token) → W.Follows o → o ≡ Some token → ⊥
  pub always : (o : Option Token) → P.Follows o

pub nothing_taken : {T : Type 0} {token : Token} {P W : Phrase Token (List T)} → Optional token P W → (tokens : List Token) → (first tokens ≡ Some token → ⊥) → Taken W tokens [] tokens
nothing_taken {token = token} {P = P} {W = W} can tokens missing = record {
  fits = can.none;
  whole = ap (λ s. s ++ tokens) (sym can.nothing);
  only = λ limits other x y same fits follows equal.
      elim (can.other limits other fits) as (λ _. other ≡ []) [
        | inl empty ↦ empty
        | inr alike ↦
            (let e : x ≡ P.spell other ++ y = ap (λ s. s ++ x) (sym can.nothing) ∙ equal ∙ ap (λ s. s ++ y) alike.spelled in
            absurd (missing (same ∙ ap first e ∙ can.begins limits other y alike.part)))
      ];
}

-- another reading is of the part, where the token stands first
alike_of : {T : Type 0} {token : Token} {P W : Phrase Token (List T)} → Optional token P W → (limits : Limits) (other : List T) (x y : List Token) → first x ≡ Some token → W.Fits limits other → W.Follows (first y) → x ≡ W.spell other ++ y → Alike P W limits other
alike_of {P = P} {W = W} can limits other x y here fits follows equal =
    elim (can.other limits other fits) as (λ _. Alike P W limits other) [
      | inl empty ↦ absurd (can.ends (first y) follows (sym (ap first (equal ∙ ap (λ l. W.spell l ++ y) empty ∙ ap (λ s. s ++ y) can.nothing)) ∙ here))
      | inr alike ↦ alike
    ]

pub something_taken : {T : Type 0} {token : Token} {P W : Phrase Token (List T)} → Optional token P W → (tokens rest : List Token) (list : List T) → Taken P tokens list rest → Taken W tokens list rest
something_taken {P = P} {W = W} can tokens rest list taken =
    let spelled : W.spell list ≡ P.spell list = (can.some unlimited list (taken.fits unlimited)).spelled in
    record {
      fits = λ limits. (can.some limits list (taken.fits limits)).whole;
      whole = taken.whole ∙ ap (λ s. s ++ rest) (sym spelled);
      only = λ limits other x y same fits follows equal.
          let e : P.spell list ++ x ≡ W.spell other ++ y = ap (λ s. s ++ x) (sym spelled) ∙ equal in
          let alike : Alike P W limits other = alike_of can limits other (P.spell list ++ x) y (can.begins limits list x (taken.fits limits)) fits follows e in
          taken.only limits other x y same alike.part (can.always (first y)) (e ∙ ap (λ s. s ++ y) alike.spelled);
    }

something_refused : {T : Type 0} {token : Token} {P W : Phrase Token (List T)} → Optional token P W → {cause : Cause} (tokens : List Token) (last : ℕ) → first tokens ≡ Some token → Refused P cause tokens last → Refused W cause tokens last
something_refused {P = P} {W = W} can {cause = cause} tokens last opened refused = record {
  before = refused.before;
  rest = refused.rest;
  whole = refused.whole;
  count = refused.count;
  begins = record {
    tree = refused.begins.tree;
    more = refused.begins.more;
    fits = λ limits. (can.some limits refused.begins.tree (refused.begins.fits limits)).whole;
    spelled = refused.begins.spelled ∙ sym (can.some unlimited refused.begins.tree (refused.begins.fits unlimited)).spelled;
  };
  goes = goes_along P W cause refused.before refused.rest refused.before refused.rest
      (λ limits on. record {
        tree = on.tree;
        token = on.token;
        more = on.more;
        next = on.next;
        fits = (can.some limits on.tree on.fits).whole;
        spelled = on.spelled ∙ sym (can.some limits on.tree on.fits).spelled;
      }) refused.goes;
  stuck = λ other x y same fits follows equal.
      let here : first tokens ≡ first (refused.before ++ x) = ap first refused.whole ∙ first_append refused.before refused.rest x same in
      let alike : Alike P W (passed cause) other = alike_of can (passed cause) other (refused.before ++ x) y (sym here ∙ opened) fits follows equal in
      refused.stuck other x y same alike.part (can.always (first y)) (equal ∙ ap (λ s. s ++ y) alike.spelled);
}

pub something_err : {T : Type 0} {token : Token} {P W : Phrase Token (List T)} → Optional token P W → (tokens : List Token) (e : Refusal) → first tokens ≡ Some token → Refuses P tokens e → Refuses W tokens e
something_err {P = P} {W = W} can tokens e opened refuses = refuses_along P tokens W tokens e (λ cause last refused. something_refused can tokens last opened refused) refuses
