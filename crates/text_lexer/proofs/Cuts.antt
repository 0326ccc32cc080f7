-- Tokens up to a fault.
use Rattle.std.proofs.Common.{◌≡◌, ℕ, zero, suc, ◌+◌, List, [], ◌∷◌, ◌++◌, replicate, Bool, true, false, cond, length, refl, sym, ap, ◌∙◌, append_assoc, append-nil, map}
use Rattle.std.specs.Prelude.{Option, Some, None, MatchOption}
use Rattle.std.proofs.Common.{Result}
use Rattle.std.specs.Result.{OnOk}
use Rattle.std.proofs.lemmas.List.{map-append}
use Rattle.std.proofs.lemmas.Result.{IfOk-weaker}
use denote.Ref.{Bor}
use Rattle.text_lexer.specs.Layout.{at, line_tokens, one_line, line_lexed, put, place_of, token_of, is_fault, is_sound, up_to_fault, text_end, layout, laid, lines}
use Rattle.text_lexer.proofs.FirstLine.{lines-some}
use Rattle.text_lexer.specs.declared.place.Place.{Place}
use Rattle.text_lexer.specs.declared.place.Placed.{Placed}
use Rattle.text_lexer.specs.declared.token.Token.{Token}
use Rattle.text_lexer.specs.declared.token.Token.TheVariants.{Dedent, NewLine}

sound_by : (p : Placed) (more ys : List Placed) (fault : Bool) → (is_sound more ≡ true → up_to_fault (more ++ ys) ≡ more ++ up_to_fault ys) → cond fault false (is_sound more) ≡ true → p ∷ cond fault [] (up_to_fault (more ++ ys)) ≡ p ∷ (more ++ up_to_fault ys)
sound_by p more ys true goes is = cc (is)
sound_by p more ys false goes is = ap (λ (ts : List Placed). p ∷ ts) (goes is)

-- without a fault in the first tokens, all are kept and the cut is in the others
pub cut_sound : (xs ys : List Placed) → is_sound xs ≡ true → up_to_fault (xs ++ ys) ≡ xs ++ up_to_fault ys
cut_sound [] ys is = refl
cut_sound (p ∷ more) ys is = sound_by p more ys (is_fault p.token) (cut_sound more ys) is

faulty_by : (p : Placed) (more ys : List Placed) (fault : Bool) → (is_sound more ≡ false → up_to_fault (more ++ ys) ≡ up_to_fault more) → cond fault false (is_sound more) ≡ false → p ∷ cond fault [] (up_to_fault (more ++ ys)) ≡ p ∷ cond fault [] (up_to_fault more)
faulty_by p more ys true goes is = refl
faulty_by p more ys false goes is = ap (λ (ts : List Placed). p ∷ ts) (goes is)

-- with one, the others do not count
pub cut_faulty : (xs ys : List Placed) → is_sound xs ≡ false → up_to_fault (xs ++ ys) ≡ up_to_fault xs
cut_faulty [] ys is = cc (is)
cut_faulty (p ∷ more) ys is = faulty_by p more ys (is_fault p.token) (cut_faulty more ys) is

dedents : (n : ℕ) (end : Place) → up_to_fault (replicate n (put end Dedent)) ≡ replicate n (put end Dedent)
dedents zero end = refl
dedents (suc n) end = ap (λ (ts : List Placed). put end Dedent ∷ ts) (dedents n end)

-- the end of a text has no fault
pub cut_end : (end : Place) (blocks : List ℕ) (brackets : ℕ) → up_to_fault (text_end end blocks brackets) ≡ text_end end blocks brackets
cut_end end blocks zero = dedents (length blocks) end
cut_end end blocks (suc n) = ap (λ (ts : List Placed). put end NewLine ∷ ts) (dedents (length blocks) end)

-- the first line and the others
pub record Parted (ls : List (List ℕ)) (bytes : List ℕ) : Type 0 where
  pub more : List (List ℕ)
  pub is : ls ≡ bytes ∷ more

pub parted : (o : Option (Bor (List ℕ))) (ls : List (List ℕ)) (bytes : List ℕ) → MatchOption o (ls ≡ bytes ∷ []) (λ rest. ls ≡ bytes ∷ lines rest.now) → Parted ls bytes
parted None ls bytes is = record { more = []; is = is }
parted (Some rest) ls bytes is = record { more = lines rest.now; is = is }

pub parted_last : (o : Option (Bor (List ℕ))) (ls : List (List ℕ)) (bytes : List ℕ) → MatchOption o (ls ≡ bytes ∷ []) (λ rest. ls ≡ bytes ∷ lines rest.now) → ((x : Bor (List ℕ)) → o ≡ Some x → ⊥) → ls ≡ bytes ∷ []
parted_last None ls bytes is none = is
parted_last (Some rest) ls bytes is none = absurd (none rest refl)

-- a line with a fault ends the tokens
pub lay_faulty : (target placed given cut new : List Placed) (end : Place) (line : ℕ) (blocks : List ℕ) (brackets : ℕ) (bytes : List ℕ) (ls : List (List ℕ)) → Parted ls bytes → target ≡ placed ++ up_to_fault (layout end line blocks brackets ls) → given ≡ (laid line blocks brackets bytes).placed → cut ≡ up_to_fault given → is_sound given ≡ false → new ≡ placed ++ cut → new ≡ target
lay_faulty target placed given cut new end line blocks brackets bytes ls part whole is was faulty put =
    let all : up_to_fault (layout end line blocks brackets ls) ≡ up_to_fault (laid line blocks brackets bytes).placed =
    ap (λ (l : List (List ℕ)). up_to_fault (layout end line blocks brackets l)) part.is
    ∙ cut_faulty (laid line blocks brackets bytes).placed (layout end (line + 1) (laid line blocks brackets bytes).blocks (laid line blocks brackets bytes).brackets part.more) (ap is_sound (sym is) ∙ faulty) in
    put ∙ ap (λ (ts : List Placed). placed ++ ts) (was ∙ ap up_to_fault is ∙ sym all) ∙ sym whole

-- without one the others follow
pub lay_next : (target placed given cut new : List Placed) (end : Place) (line : ℕ) (blocks after : List ℕ) (brackets left : ℕ) (bytes : List ℕ) (ls more : List (List ℕ)) → ls ≡ bytes ∷ more → target ≡ placed ++ up_to_fault (layout end line blocks brackets ls) → given ≡ (laid line blocks brackets bytes).placed → after ≡ (laid line blocks brackets bytes).blocks → left ≡ (laid line blocks brackets bytes).brackets → cut ≡ up_to_fault given → is_sound given ≡ true → new ≡ placed ++ cut → target ≡ new ++ up_to_fault (layout end (line + 1) after left more)
lay_next target placed given cut new end line blocks after brackets left bytes ls more part whole is is_after is_left was sound put =
    let s : is_sound (laid line blocks brackets bytes).placed ≡ true = ap is_sound (sym is) ∙ sound in
    let kept : up_to_fault (laid line blocks brackets bytes).placed ≡ (laid line blocks brackets bytes).placed =
    ap up_to_fault (sym (append-nil (laid line blocks brackets bytes).placed)) ∙ cut_sound (laid line blocks brackets bytes).placed [] s ∙ append-nil (laid line blocks brackets bytes).placed in
    let all : up_to_fault (layout end line blocks brackets ls) ≡ cut ++ up_to_fault (layout end (line + 1) after left more) =
    ap (λ (l : List (List ℕ)). up_to_fault (layout end line blocks brackets l)) part
    ∙ cut_sound (laid line blocks brackets bytes).placed (layout end (line + 1) (laid line blocks brackets bytes).blocks (laid line blocks brackets bytes).brackets more) s
    ∙ ap (λ (ts : List Placed). ts ++ up_to_fault (layout end (line + 1) (laid line blocks brackets bytes).blocks (laid line blocks brackets bytes).brackets more)) (sym kept ∙ ap up_to_fault (sym is) ∙ sym was)
    ∙ ap (λ (b : List ℕ). cut ++ up_to_fault (layout end (line + 1) b (laid line blocks brackets bytes).brackets more)) (sym is_after)
    ∙ ap (λ (n : ℕ). cut ++ up_to_fault (layout end (line + 1) after n more)) (sym is_left) in
    whole ∙ ap (λ (ts : List Placed). placed ++ ts) all
    ∙ sym (append_assoc placed cut (up_to_fault (layout end (line + 1) after left more)))
    ∙ ap (λ (ts : List Placed). ts ++ up_to_fault (layout end (line + 1) after left more)) (sym put)

-- behind the last line the text ends
pub lay_last : (target placed last new : List Placed) (end : Place) (line : ℕ) (blocks : List ℕ) (brackets : ℕ) → target ≡ placed ++ up_to_fault (layout end line blocks brackets []) → last ≡ text_end end blocks brackets → new ≡ placed ++ last → new ≡ target
lay_last target placed last new end line blocks brackets whole is put =
    put ∙ ap (λ (ts : List Placed). placed ++ ts) (is ∙ sym (cut_end end blocks brackets)) ∙ sym whole

-- a text of one line
more_by : (bytes : List ℕ) (more : List (List ℕ)) → (more ≡ [] → ⊥) → up_to_fault (line_tokens 1 bytes ++ (put (at 1 (length bytes + 1)) NewLine ∷ [])) ≡ one_line (bytes ∷ more)
more_by bytes [] some = absurd (some refl)
more_by bytes (next ∷ more) some = refl

pub one_more : (text bytes next : List ℕ) → lines text ≡ bytes ∷ lines next → up_to_fault (line_tokens 1 bytes ++ (put (at 1 (length bytes + 1)) NewLine ∷ [])) ≡ line_lexed text
one_more text bytes next is = more_by bytes (lines next) (lines-some next) ∙ ap one_line (sym is)

-- ---- tokens and places apart

-- of what is wanted the first ones have these tokens and these places, and the others follow
pub record Kept (target : List Placed) (ts : List Token) (ps : List Place) (more : List Placed) : Type 0 where
  pub placed : List Placed
  pub tokens : ts ≡ map token_of placed
  pub places : ps ≡ map place_of placed
  pub whole : target ≡ placed ++ more

pub kept_none : (target : List Placed) (ts : List Token) (ps : List Place) → ts ≡ [] → ps ≡ [] → Kept target ts ps target
kept_none target ts ps no_tokens no_places = record { placed = []; tokens = no_tokens; places = no_places; whole = refl }

-- some more are given
pub kept_more : (target given more rest : List Placed) (ts us : List Token) (ps qs : List Place) → Kept target ts ps more → us ≡ ts ++ map token_of given → qs ≡ ps ++ map place_of given → ((placed : List Placed) → target ≡ placed ++ more → target ≡ (placed ++ given) ++ rest) → Kept target us qs rest
kept_more target given more rest ts us ps qs kept tokens places goes = record {
  placed = kept.placed ++ given;
  tokens = tokens ∙ ap (λ (w : List Token). w ++ map token_of given) kept.tokens ∙ sym (map-append token_of kept.placed given);
  places = places ∙ ap (λ (w : List Place). w ++ map place_of given) kept.places ∙ sym (map-append place_of kept.placed given);
  whole = goes kept.placed kept.whole;
}

-- all are given
pub kept_all : (target given more : List Placed) (ts us : List Token) (ps qs : List Place) → Kept target ts ps more → us ≡ ts ++ map token_of given → qs ≡ ps ++ map place_of given → ((placed : List Placed) → target ≡ placed ++ more → placed ++ given ≡ target) → (us ≡ map token_of target) × (qs ≡ map place_of target)
kept_all target given more ts us ps qs kept tokens places goes =
    let last : Kept target us qs [] = kept_more target given more [] ts us ps qs kept tokens places (λ placed whole. sym (goes placed whole) ∙ sym (append-nil (placed ++ given))) in
    let whole : last.placed ≡ target = sym (append-nil last.placed) ∙ sym last.whole in
    (last.tokens ∙ ap (map token_of) whole, last.places ∙ ap (map place_of) whole)

-- all are given by a call that may fail
pub kept_ok : {A E : Type 0} (r : Result A E) (target given more : List Placed) (ts us : List Token) (ps qs : List Place) →
    Kept target ts ps more → OnOk r ((us ≡ ts ++ map token_of given) × (qs ≡ ps ++ map place_of given)) →
    ((placed : List Placed) → target ≡ placed ++ more → placed ++ given ≡ target) →
    OnOk r ((us ≡ map token_of target) × (qs ≡ map place_of target))
kept_ok r target given more ts us ps qs kept put goes =
    IfOk-weaker r (λ x. (us ≡ ts ++ map token_of given) × (qs ≡ ps ++ map place_of given))
    (λ x. (us ≡ map token_of target) × (qs ≡ map place_of target))
    (λ x all. kept_all target given more ts us ps qs kept all.0 all.1 goes) put
