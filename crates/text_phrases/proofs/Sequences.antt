-- Phrases made of phrases, read from the left.
use Rattle.std.proofs.Common.{◌≡◌, ℕ, List, [], ◌∷◌, ◌++◌, Option, Some, None, length, refl, sym, ap, ◌∙◌, append_assoc, subst}
use Rattle.std.proofs.lemmas.List.{append_cancel_left, append-nil}
use Rattle.text_phrases.specs.Limits.{Limits, in_depth, in_length, Cause, passed, syntax, too_long, too_large}
use Rattle.text_phrases.specs.Phrase.{first, Phrase, Taken, GoesOn, Refused}
use Rattle.text_phrases.specs.Sequence.{exactly, then, AllFit, spell_all, many, several, MaybeFits, maybe, carried_short, carried_small, then_by}
use Rattle.text_phrases.proofs.Phrases.{first_append, taken_rest, goes_along, keeps_all}

-- the other reading goes on by a part
pub record Back {A T S : Type 0} (part : Phrase A S) (build : S → T) (limits : Limits) (other : T) (x y : List A) : Type 0 where
  pub tree : S
  pub fits : part.Fits limits tree
  pub is : other ≡ build tree
  pub equal : x ≡ part.spell tree ++ y
  pub follows : part.Follows (first y)

-- behind the tokens that were read, what is left of the whole phrase is the part
pub record Step {A T S : Type 0} (whole : Phrase A T) (part : Phrase A S) (build : S → T) (tokens after : List A) : Type 0 where
  pub front : List A
  pub split : tokens ≡ front ++ after
  pub fits : (limits : Limits) (s : S) → part.Fits limits s → whole.Fits limits (build s)
  pub spelled : (s : S) → whole.spell (build s) ≡ front ++ part.spell s
  pub back : (limits : Limits) (other : T) (x y : List A) → first after ≡ first x → whole.Fits limits other → whole.Follows (first y) → front ++ x ≡ whole.spell other ++ y → Back part build limits other x y

pub step_taken : {A T S : Type 0} (whole : Phrase A T) (part : Phrase A S) (build : S → T) (tokens after rest : List A) (s : S) → Step whole part build tokens after → Taken part after s rest → Taken whole tokens (build s) rest
step_taken whole part build tokens after rest s step taken = record {
  fits = λ limits. step.fits limits s (taken.fits limits);
  whole = step.split ∙ ap (λ w. step.front ++ w) taken.whole ∙ sym (append_assoc step.front (part.spell s) rest) ∙ ap (λ w. w ++ rest) (sym (step.spelled s));
  only = λ limits other x y same fits follows equal.
      let here : first after ≡ first (part.spell s ++ x) = ap first taken.whole ∙ first_append (part.spell s) rest x same in
      let back : Back part build limits other (part.spell s ++ x) y =
      step.back limits other (part.spell s ++ x) y here fits follows (sym (append_assoc step.front (part.spell s) x) ∙ ap (λ w. w ++ x) (sym (step.spelled s)) ∙ equal) in
      back.is ∙ ap build (taken.only limits back.tree x y same back.fits back.follows back.equal);
}

-- where a part goes on behind a front, the whole does
goes_behind : {A T S : Type 0} (whole : Phrase A T) (part : Phrase A S) (build : S → T) (front before rest : List A) (limits : Limits) → ((s : S) → part.Fits limits s → whole.Fits limits (build s)) → ((s : S) → whole.spell (build s) ≡ front ++ part.spell s) → GoesOn part limits before rest → GoesOn whole limits (front ++ before) rest
goes_behind whole part build front before rest limits fits spelled goes = record {
  tree = build goes.tree;
  token = goes.token;
  more = goes.more;
  next = goes.next;
  fits = fits goes.tree goes.fits;
  spelled = append_assoc front before (goes.token ∷ goes.more) ∙ ap (λ w. front ++ w) goes.spelled ∙ sym (spelled goes.tree);
}

-- the same where some phrase stands behind the part
goes_before : {A T S : Type 0} (whole : Phrase A T) (part : Phrase A S) (build : S → T) (before rest behind : List A) (limits : Limits) → ((s : S) → part.Fits limits s → whole.Fits limits (build s)) → ((s : S) → whole.spell (build s) ≡ part.spell s ++ behind) → GoesOn part limits before rest → GoesOn whole limits before rest
goes_before whole part build before rest behind limits fits spelled goes = record {
  tree = build goes.tree;
  token = goes.token;
  more = goes.more ++ behind;
  next = goes.next;
  fits = fits goes.tree goes.fits;
  spelled = sym (append_assoc before (goes.token ∷ goes.more) behind) ∙ ap (λ w. w ++ behind) goes.spelled ∙ sym (spelled goes.tree);
}

pub step_refused : {A T S : Type 0} (whole : Phrase A T) (part : Phrase A S) (build : S → T) {cause : Cause} (tokens after : List A) (last : ℕ) → Step whole part build tokens after → Refused part cause after last → Refused whole cause tokens last
step_refused whole part build {cause = cause} tokens after last step refused = record {
  before = step.front ++ refused.before;
  rest = refused.rest;
  whole = step.split ∙ ap (λ w. step.front ++ w) refused.whole ∙ sym (append_assoc step.front refused.before refused.rest);
  count = refused.count;
  begins = record {
    tree = build refused.begins.tree;
    more = refused.begins.more;
    fits = λ limits. step.fits limits refused.begins.tree (refused.begins.fits limits);
    spelled = append_assoc step.front refused.before refused.begins.more ∙ ap (λ w. step.front ++ w) refused.begins.spelled ∙ sym (step.spelled refused.begins.tree);
  };
  goes = goes_along part whole cause refused.before refused.rest (step.front ++ refused.before) refused.rest (λ limits goes. goes_behind whole part build step.front refused.before refused.rest limits (step.fits limits) step.spelled goes) refused.goes;
  stuck = λ other x y same fits follows equal.
      let here : first after ≡ first (refused.before ++ x) = ap first refused.whole ∙ first_append refused.before refused.rest x same in
      let back : Back part build (passed cause) other (refused.before ++ x) y =
      step.back (passed cause) other (refused.before ++ x) y here fits follows (sym (append_assoc step.front refused.before x) ∙ equal) in
      refused.stuck back.tree x y same back.fits back.follows back.equal;
}

-- steps one after another
pub step_step : {A T S R : Type 0} (whole : Phrase A T) (part : Phrase A S) (rest : Phrase A R) (build : S → T) (make : R → S) (tokens after later : List A) → Step whole part build tokens after → Step part rest make after later → Step whole rest (λ r. build (make r)) tokens later
step_step whole part rest build make tokens after later one two = record {
  front = one.front ++ two.front;
  split = one.split ∙ ap (λ w. one.front ++ w) two.split ∙ sym (append_assoc one.front two.front later);
  fits = λ limits r fits. one.fits limits (make r) (two.fits limits r fits);
  spelled = λ r. one.spelled (make r) ∙ ap (λ w. one.front ++ w) (two.spelled r) ∙ sym (append_assoc one.front two.front (rest.spell r));
  back = λ limits other x y same fits follows equal.
      let here : first after ≡ first (two.front ++ x) = ap first two.split ∙ first_append two.front later x same in
      let outer : Back part build limits other (two.front ++ x) y = one.back limits other (two.front ++ x) y here fits follows (sym (append_assoc one.front two.front x) ∙ equal) in
      let inner : Back rest make limits outer.tree x y = two.back limits outer.tree x y same outer.fits outer.follows (outer.equal) in
      record { tree = inner.tree; fits = inner.fits; is = outer.is ∙ ap build inner.is; equal = inner.equal; follows = inner.follows };
}

-- what the second phrase begins with may stand behind the first
pub record Before {A T S : Type 0} (P : Phrase A T) (Q : Phrase A S) : Type 0 where
  pub may : (limits : Limits) (q : S) (y : List A) → Q.Fits limits q → Q.Follows (first y) → P.Follows (first (Q.spell q ++ y))

pub step_then : {A T S : Type 0} (P : Phrase A T) (Q : Phrase A S) (tokens after : List A) (t : T) → Before P Q → Taken P tokens t after → Step (then P Q) Q (λ q. (t, q)) tokens after
step_then P Q tokens after t before taken = record {
  front = P.spell t;
  split = taken.whole;
  fits = λ limits q fits. (taken.fits limits, fits);
  spelled = λ q. refl;
  back = λ limits other x y same fits follows equal.
      let e : P.spell t ++ x ≡ P.spell other.0 ++ (Q.spell other.1 ++ y) = equal ∙ append_assoc (P.spell other.0) (Q.spell other.1) y in
      let may : P.Follows (first (Q.spell other.1 ++ y)) = before.may limits other.1 y fits.1 follows in
      record {
        tree = other.1;
        fits = fits.1;
        is = ap (λ u. (u, other.1)) (taken.only limits other.0 x (Q.spell other.1 ++ y) same fits.0 may e);
        equal = taken_rest taken limits other.0 x (Q.spell other.1 ++ y) same fits.0 may e;
        follows = follows;
      };
}

pub refused_then : {A T S : Type 0} (P : Phrase A T) (Q : Phrase A S) {cause : Cause} (tokens : List A) (last : ℕ) (some : S) → ((limits : Limits) → Q.Fits limits some) → Before P Q → Refused P cause tokens last → Refused (then P Q) cause tokens last
refused_then P Q {cause = cause} tokens last some some_fits before refused = record {
  before = refused.before;
  rest = refused.rest;
  whole = refused.whole;
  count = refused.count;
  begins = record {
    tree = (refused.begins.tree, some);
    more = refused.begins.more ++ Q.spell some;
    fits = λ limits. (refused.begins.fits limits, some_fits limits);
    spelled = sym (append_assoc refused.before refused.begins.more (Q.spell some)) ∙ ap (λ w. w ++ Q.spell some) refused.begins.spelled;
  };
  goes = goes_along P (then P Q) cause refused.before refused.rest refused.before refused.rest
      (λ limits goes. goes_before (then P Q) P (λ p. (p, some)) refused.before refused.rest (Q.spell some) limits (λ p fits. (fits, some_fits limits)) (λ p. refl) goes) refused.goes;
  stuck = λ other x y same fits follows equal.
      refused.stuck other.0 x (Q.spell other.1 ++ y) same fits.0 (before.may (passed cause) other.1 y fits.1 follows) (equal ∙ append_assoc (P.spell other.0) (Q.spell other.1) y);
}

pub taken_exactly : {A : Type 0} (words tokens rest : List A) → tokens ≡ words ++ rest → Taken (exactly words) tokens tt rest
taken_exactly words tokens rest whole = record { fits = λ limits. tt; whole = whole; only = λ limits other x y same fits follows equal. refl }

pub refused_exactly : {A : Type 0} (front words tokens rest : List A) (word : A) → tokens ≡ front ++ rest → (first rest ≡ Some word → ⊥) → Refused (exactly (front ++ (word ∷ words))) syntax tokens (length rest)
refused_exactly front words tokens rest word whole none = record {
  before = front;
  rest = rest;
  whole = whole;
  count = refl;
  begins = record { tree = tt; more = word ∷ words; fits = λ limits. tt; spelled = refl };
  goes = tt;
  stuck = λ other x y same fits follows equal.
      none (same ∙ ap first (append_cancel_left front x (word ∷ (words ++ y)) (equal ∙ append_assoc front (word ∷ words) y)));
}

-- the others are these and more
pub record Longer {A T : Type 0} (P : Phrase A T) (limits : Limits) (list others : List T) : Type 0 where
  pub more : List T
  pub all : AllFit P limits more
  pub is : others ≡ list ++ more

-- many of a phrase, some of them read
pub record Items {A T : Type 0} (P : Phrase A T) (ends : Option A → Type 0) (tokens : List A) (list : List T) (rest : List A) : Type 0 where
  pub all : (limits : Limits) → AllFit P limits list
  pub whole : tokens ≡ spell_all P list ++ rest
  pub only : (limits : Limits) (others : List T) (x y : List A) → first rest ≡ first x → AllFit P limits others → ends (first y) → spell_all P list ++ x ≡ spell_all P others ++ y → Longer P limits list others

-- an item never begins like an end, and what follows an item may
pub record Apart {A T : Type 0} (P : Phrase A T) (ends : Option A → Type 0) : Type 0 where
  pub begins : (limits : Limits) (t : T) (y : List A) → P.Fits limits t → ends (first (P.spell t ++ y)) → ⊥
  pub next : (limits : Limits) (t : T) (y : List A) → P.Fits limits t → P.Follows (first (P.spell t ++ y))
  pub last : (o : Option A) → ends o → P.Follows o

pub spell_all-append : {A T : Type 0} (P : Phrase A T) (xs ys : List T) → spell_all P (xs ++ ys) ≡ spell_all P xs ++ spell_all P ys
spell_all-append P [] ys = refl
spell_all-append P (x ∷ xs) ys = ap (λ w. P.spell x ++ w) (spell_all-append P xs ys) ∙ sym (append_assoc (P.spell x) (spell_all P xs) (spell_all P ys))

pub all_append : {A T : Type 0} (P : Phrase A T) (limits : Limits) (xs ys : List T) → AllFit P limits xs → AllFit P limits ys → AllFit P limits (xs ++ ys)
all_append P limits [] ys all more = more
all_append P limits (x ∷ xs) ys all more = (all.0, all_append P limits xs ys all.1 more)

pub items_none : {A T : Type 0} (P : Phrase A T) (ends : Option A → Type 0) (tokens : List A) → Items P ends tokens [] tokens
items_none P ends tokens = record { all = λ limits. tt; whole = refl; only = λ limits others x y same all follows equal. record { more = others; all = all; is = refl } }

-- what remains of the other reading, behind these items
longer_equal : {A T : Type 0} (P : Phrase A T) (list more others : List T) (x y : List A) → others ≡ list ++ more → spell_all P list ++ x ≡ spell_all P others ++ y → x ≡ spell_all P more ++ y
longer_equal P list more others x y is equal =
    append_cancel_left (spell_all P list) x (spell_all P more ++ y)
    (equal ∙ ap (λ o. spell_all P o ++ y) is ∙ ap (λ w. w ++ y) (spell_all-append P list more) ∙ append_assoc (spell_all P list) (spell_all P more) y)

follows_all : {A T : Type 0} (P : Phrase A T) (ends : Option A → Type 0) (limits : Limits) (ts : List T) (y : List A) → Apart P ends → AllFit P limits ts → ends (first y) → P.Follows (first (spell_all P ts ++ y))
follows_all P ends limits [] y apart all follows = apart.last (first y) follows
follows_all P ends limits (t ∷ ts) y apart all follows = subst (λ w. P.Follows (first w)) (sym (append_assoc (P.spell t) (spell_all P ts) y)) (apart.next limits t (spell_all P ts ++ y) all.0)

longer_next : {A T : Type 0} (P : Phrase A T) (ends : Option A → Type 0) (limits : Limits) (tokens rest after : List A) (list : List T) (t : T) (others more : List T) (x y : List A) → Apart P ends → Taken P rest t after → first after ≡ first x → ends (first y) → AllFit P limits more → others ≡ list ++ more → P.spell t ++ x ≡ spell_all P more ++ y → Longer P limits (list ++ (t ∷ [])) others
longer_next P ends limits tokens rest after list t others [] x y apart taken same follows all is equal =
    absurd (apart.begins limits t x (taken.fits limits) (subst (λ w. ends (first w)) (sym equal) follows))
longer_next P ends limits tokens rest after list t others (m ∷ ms) x y apart taken same follows all is equal =
    let alike : m ≡ t = taken.only limits m x (spell_all P ms ++ y) same all.0 (follows_all P ends limits ms y apart all.1 follows) (equal ∙ append_assoc (P.spell m) (spell_all P ms) y) in
    record { more = ms; all = all.1; is = is ∙ ap (λ u. list ++ (u ∷ ms)) alike ∙ sym (append_assoc list (t ∷ []) ms) }

one : {A T : Type 0} (P : Phrase A T) (list : List T) (t : T) → spell_all P list ++ P.spell t ≡ spell_all P (list ++ (t ∷ []))
one P list t = ap (λ w. spell_all P list ++ w) (sym (append-nil (P.spell t))) ∙ sym (spell_all-append P list (t ∷ []))

pub items_next : {A T : Type 0} (P : Phrase A T) (ends : Option A → Type 0) (tokens rest after : List A) (list : List T) (t : T) → Apart P ends → Items P ends tokens list rest → Taken P rest t after → Items P ends tokens (list ++ (t ∷ [])) after
items_next P ends tokens rest after list t apart items taken = record {
  all = λ limits. all_append P limits list (t ∷ []) (items.all limits) (taken.fits limits, tt);
  whole = items.whole ∙ ap (λ w. spell_all P list ++ w) taken.whole ∙ sym (append_assoc (spell_all P list) (P.spell t) after) ∙ ap (λ w. w ++ after) (one P list t);
  only = λ limits others x y same all follows equal.
      let shifted : spell_all P list ++ (P.spell t ++ x) ≡ spell_all P others ++ y = sym (append_assoc (spell_all P list) (P.spell t) x) ∙ ap (λ w. w ++ x) (one P list t) ∙ equal in
      let here : first rest ≡ first (P.spell t ++ x) = ap first taken.whole ∙ first_append (P.spell t) after x same in
      let longer : Longer P limits list others = items.only limits others (P.spell t ++ x) y here all follows shifted in
      longer_next P ends limits tokens rest after list t others longer.more x y apart taken same follows longer.all longer.is (longer_equal P list longer.more others (P.spell t ++ x) y longer.is shifted);
}

no_more : {A T : Type 0} (P : Phrase A T) (limits : Limits) (list others more : List T) (rest x y : List A) → ((limits : Limits) (t : T) (y : List A) → P.Fits limits t → first rest ≡ first (P.spell t ++ y) → ⊥) → first rest ≡ first x → AllFit P limits more → others ≡ list ++ more → x ≡ spell_all P more ++ y → others ≡ list
no_more P limits list others [] rest x y none same all is equal = is ∙ append-nil list
no_more P limits list others (m ∷ ms) rest x y none same all is equal =
    absurd (none limits m (spell_all P ms ++ y) all.0 (same ∙ ap first (equal ∙ append_assoc (P.spell m) (spell_all P ms) y)))

-- these are all, since no item begins with what stands behind them
all_read : {A T : Type 0} (P : Phrase A T) (ends : Option A → Type 0) (tokens rest : List A) (list : List T) → Items P ends tokens list rest → ((limits : Limits) (t : T) (y : List A) → P.Fits limits t → first rest ≡ first (P.spell t ++ y) → ⊥) → (limits : Limits) (others : List T) (x y : List A) → first rest ≡ first x → AllFit P limits others → ends (first y) → spell_all P list ++ x ≡ spell_all P others ++ y → others ≡ list
all_read P ends tokens rest list items none limits others x y same all follows equal =
    let longer : Longer P limits list others = items.only limits others x y same all follows equal in
    no_more P limits list others longer.more rest x y none same longer.all longer.is (longer_equal P list longer.more others x y longer.is equal)

pub items_done : {A T : Type 0} (P : Phrase A T) (ends : Option A → Type 0) (tokens rest : List A) (list : List T) → Items P ends tokens list rest → ((limits : Limits) (t : T) (y : List A) → P.Fits limits t → first rest ≡ first (P.spell t ++ y) → ⊥) → Taken (many P ends) tokens list rest
items_done P ends tokens rest list items none = record { fits = items.all; whole = items.whole; only = all_read P ends tokens rest list items none }

pub several_done : {A T : Type 0} (P : Phrase A T) (Short : List T → Type 0) (ends : Option A → Type 0) (tokens rest : List A) (list : List T) → Items P ends tokens list rest → Short list → ((limits : Limits) (t : T) (y : List A) → P.Fits limits t → first rest ≡ first (P.spell t ++ y) → ⊥) → Taken (several P Short ends) tokens list rest
several_done P Short ends tokens rest list items short none = record {
  fits = λ limits. (items.all limits, keeps_all limits tt short tt);
  whole = items.whole;
  only = λ limits others x y same fits follows equal. all_read P ends tokens rest list items none limits others x y same fits.0 follows equal;
}

no_next : {A T : Type 0} (P : Phrase A T) (ends : Option A → Type 0) {cause : Cause} (rest : List A) (more : List T) (x y : List A) (last : ℕ) → Apart P ends → (ends (first rest) → ⊥) → (refused : Refused P cause rest last) → first rest ≡ first (refused.before ++ x) → first refused.rest ≡ first x → ends (first y) → AllFit P (passed cause) more → refused.before ++ x ≡ spell_all P more ++ y → ⊥
no_next P ends rest [] x y last apart unended refused here same follows all equal = unended (subst ends (sym (here ∙ ap first equal)) follows)
no_next P ends {cause = cause} rest (m ∷ ms) x y last apart unended refused here same follows all equal =
    refused.stuck m x (spell_all P ms ++ y) same all.0 (follows_all P ends (passed cause) ms y apart all.1 follows) (equal ∙ append_assoc (P.spell m) (spell_all P ms) y)

-- an item behind these is refused, so no list goes on
stuck_items : {A T : Type 0} (P : Phrase A T) (ends : Option A → Type 0) {cause : Cause} (tokens rest : List A) (list : List T) (last : ℕ) → Apart P ends → Items P ends tokens list rest → (ends (first rest) → ⊥) → (refused : Refused P cause rest last) → (others : List T) (x y : List A) → first refused.rest ≡ first x → AllFit P (passed cause) others → ends (first y) → (spell_all P list ++ refused.before) ++ x ≡ spell_all P others ++ y → ⊥
stuck_items P ends {cause = cause} tokens rest list last apart items unended refused others x y same all follows equal =
    let shifted : spell_all P list ++ (refused.before ++ x) ≡ spell_all P others ++ y = sym (append_assoc (spell_all P list) refused.before x) ∙ equal in
    let here : first rest ≡ first (refused.before ++ x) = ap first refused.whole ∙ first_append refused.before refused.rest x same in
    let longer : Longer P (passed cause) list others = items.only (passed cause) others (refused.before ++ x) y here all follows shifted in
    no_next P ends rest longer.more x y last apart unended refused here same follows longer.all (longer_equal P list longer.more others (refused.before ++ x) y longer.is shifted)

pub items_refused : {A T : Type 0} (P : Phrase A T) (ends : Option A → Type 0) {cause : Cause} (tokens rest : List A) (list : List T) (last : ℕ) → Apart P ends → Items P ends tokens list rest → (ends (first rest) → ⊥) → Refused P cause rest last → Refused (many P ends) cause tokens last
items_refused P ends {cause = cause} tokens rest list last apart items unended refused = record {
  before = spell_all P list ++ refused.before;
  rest = refused.rest;
  whole = items.whole ∙ ap (λ w. spell_all P list ++ w) refused.whole ∙ sym (append_assoc (spell_all P list) refused.before refused.rest);
  count = refused.count;
  begins = record {
    tree = list ++ (refused.begins.tree ∷ []);
    more = refused.begins.more;
    fits = λ limits. all_append P limits list (refused.begins.tree ∷ []) (items.all limits) (refused.begins.fits limits, tt);
    spelled = append_assoc (spell_all P list) refused.before refused.begins.more ∙ ap (λ w. spell_all P list ++ w) refused.begins.spelled ∙ one P list refused.begins.tree;
  };
  goes = goes_along P (many P ends) cause refused.before refused.rest (spell_all P list ++ refused.before) refused.rest
      (λ limits goes. goes_behind (many P ends) P (λ t. list ++ (t ∷ [])) (spell_all P list) refused.before refused.rest limits (λ t fits. all_append P limits list (t ∷ []) (items.all limits) (fits, tt)) (λ t. sym (one P list t)) goes) refused.goes;
  stuck = stuck_items P ends tokens rest list last apart items unended refused;
}

-- the list has room for one more, whatever it is
pub several_refused : {A T : Type 0} (P : Phrase A T) (Short : List T → Type 0) (ends : Option A → Type 0) {cause : Cause} (tokens rest : List A) (list : List T) (last : ℕ) → Apart P ends → Items P ends tokens list rest → ((t : T) → Short (list ++ (t ∷ []))) → (ends (first rest) → ⊥) → Refused P cause rest last → Refused (several P Short ends) cause tokens last
several_refused P Short ends {cause = cause} tokens rest list last apart items room unended refused = record {
  before = spell_all P list ++ refused.before;
  rest = refused.rest;
  whole = items.whole ∙ ap (λ w. spell_all P list ++ w) refused.whole ∙ sym (append_assoc (spell_all P list) refused.before refused.rest);
  count = refused.count;
  begins = record {
    tree = list ++ (refused.begins.tree ∷ []);
    more = refused.begins.more;
    fits = λ limits. (all_append P limits list (refused.begins.tree ∷ []) (items.all limits) (refused.begins.fits limits, tt), keeps_all limits tt (room refused.begins.tree) tt);
    spelled = append_assoc (spell_all P list) refused.before refused.begins.more ∙ ap (λ w. spell_all P list ++ w) refused.begins.spelled ∙ one P list refused.begins.tree;
  };
  goes = goes_along P (several P Short ends) cause refused.before refused.rest (spell_all P list ++ refused.before) refused.rest
      (λ limits goes. goes_behind (several P Short ends) P (λ t. list ++ (t ∷ [])) (spell_all P list) refused.before refused.rest limits (λ t fits. (all_append P limits list (t ∷ []) (items.all limits) (fits, tt), keeps_all limits tt (room t) tt)) (λ t. sym (one P list t)) goes) refused.goes;
  stuck = λ others x y same fits follows equal. stuck_items P ends tokens rest list last apart items unended refused others x y same fits.0 follows equal;
}

no_room : {A T : Type 0} (P : Phrase A T) (Short : List T → Type 0) (ends : Option A → Type 0) (rest : List A) (list others more : List T) (x y : List A) → ((t : T) (ts : List T) (y : List A) → P.Fits in_length t → first rest ≡ first (P.spell t ++ y) → Short (list ++ (t ∷ ts)) → ⊥) → (ends (first rest) → ⊥) → first rest ≡ first x → ends (first y) → AllFit P in_length more → Short others → others ≡ list ++ more → x ≡ spell_all P more ++ y → ⊥
no_room P Short ends rest list others [] x y over unended same follows all short is equal = unended (subst ends (sym (same ∙ ap first equal)) follows)
no_room P Short ends rest list others (m ∷ ms) x y over unended same follows all short is equal =
    over m ms (spell_all P ms ++ y) all.0 (same ∙ ap first (equal ∙ append_assoc (P.spell m) (spell_all P ms) y)) (subst Short is short)

-- an item begins with the next token, but no list with it is short
pub several_full : {A T : Type 0} (P : Phrase A T) (Short : List T → Type 0) (ends : Option A → Type 0) (tokens rest more : List A) (list : List T) (t : T) (token : A) → Items P ends tokens list rest → Short list → (ends (first rest) → ⊥) → first rest ≡ Some token → P.Fits in_depth t → P.spell t ≡ token ∷ more → ((t : T) (ts : List T) (y : List A) → P.Fits in_length t → first rest ≡ first (P.spell t ++ y) → Short (list ++ (t ∷ ts)) → ⊥) → Refused (several P Short ends) too_long tokens (length rest)
several_full P Short ends tokens rest more list t token items short unended next fits spelled over = record {
  before = spell_all P list;
  rest = rest;
  whole = items.whole;
  count = refl;
  begins = record { tree = list; more = []; fits = λ limits. (items.all limits, keeps_all limits tt short tt); spelled = append-nil (spell_all P list) };
  goes = record {
    tree = list ++ (t ∷ []);
    token = token;
    more = more;
    next = next;
    fits = (all_append P in_depth list (t ∷ []) (items.all in_depth) (fits, tt), tt);
    spelled = ap (λ w. spell_all P list ++ w) (sym spelled) ∙ one P list t;
  };
  stuck = λ others x y same fits follows equal.
      let longer : Longer P in_length list others = items.only in_length others x y same fits.0 follows equal in
      no_room P Short ends rest list others longer.more x y over unended same follows longer.all fits.1.1 longer.is (longer_equal P list longer.more others x y longer.is equal);
}

-- the phrase or nothing

back_maybe : {A T : Type 0} (P : Phrase A T) (ends : Option A → Type 0) (limits : Limits) (tokens : List A) (other : Option T) (x y : List A) → ((o : Option A) → ends o → P.Follows o) → (ends (first tokens) → ⊥) → first tokens ≡ first x → MaybeFits P limits other → ends (first y) → x ≡ (maybe P ends).spell other ++ y → Back P Some limits other x y
back_maybe P ends limits tokens None x y may unended same fits follows equal = absurd (unended (subst ends (sym (same ∙ ap first equal)) follows))
back_maybe P ends limits tokens (Some t) x y may unended same fits follows equal =
    record { tree = t; fits = fits; is = refl; equal = equal; follows = may (first y) follows }

-- where what stands first is no end, the phrase stands there
pub step_maybe : {A T : Type 0} (P : Phrase A T) (ends : Option A → Type 0) (tokens : List A) → ((o : Option A) → ends o → P.Follows o) → (ends (first tokens) → ⊥) → Step (maybe P ends) P Some tokens tokens
step_maybe P ends tokens may unended = record {
  front = [];
  split = refl;
  fits = λ limits t fits. fits;
  spelled = λ t. refl;
  back = λ limits other x y same fits follows equal. back_maybe P ends limits tokens other x y may unended same fits follows equal;
}

nothing_only : {A T : Type 0} (P : Phrase A T) (ends : Option A → Type 0) (limits : Limits) (tokens : List A) (other : Option T) (x y : List A) → ((limits : Limits) (t : T) (y : List A) → P.Fits limits t → first tokens ≡ first (P.spell t ++ y) → ⊥) → first tokens ≡ first x → MaybeFits P limits other → x ≡ (maybe P ends).spell other ++ y → other ≡ None
nothing_only P ends limits tokens None x y none same fits equal = refl
nothing_only P ends limits tokens (Some t) x y none same fits equal = absurd (none limits t y fits (same ∙ ap first equal))

pub taken_nothing : {A T : Type 0} (P : Phrase A T) (ends : Option A → Type 0) (tokens : List A) → ((limits : Limits) (t : T) (y : List A) → P.Fits limits t → first tokens ≡ first (P.spell t ++ y) → ⊥) → Taken (maybe P ends) tokens None tokens
taken_nothing P ends tokens none = record {
  fits = λ limits. tt;
  whole = refl;
  only = λ limits other x y same fits follows equal. nothing_only P ends limits tokens other x y none same fits equal;
}

-- tokens with a value that may be too long

pub taken_short : {A T : Type 0} (token : T → A) (Short : T → Type 0) (rest : List A) (x : T) → ((a b : T) → token a ≡ token b → a ≡ b) → Short x → Taken (carried_short token Short) (token x ∷ rest) x rest
taken_short token Short rest x injective short = record {
  fits = λ limits. keeps_all limits tt short tt;
  whole = refl;
  only = λ limits other u v same fits follows equal. let e : token other ≡ token x = cc in injective other x e;
}

pub refused_short : {A T : Type 0} (token : T → A) (Short : T → Type 0) (rest : List A) (x some : T) → ((a b : T) → token a ≡ token b → a ≡ b) → Short some → (Short x → ⊥) → Refused (carried_short token Short) too_long (token x ∷ rest) (length (token x ∷ rest))
refused_short token Short rest x some injective short long = record {
  before = [];
  rest = token x ∷ rest;
  whole = refl;
  count = refl;
  begins = record { tree = some; more = token some ∷ []; fits = λ limits. keeps_all limits tt short tt; spelled = refl };
  goes = record { tree = x; token = token x; more = []; next = refl; fits = tt; spelled = refl };
  stuck = λ other u v same fits follows equal.
      let e : Some (token x) ≡ Some (token other) = same ∙ ap first equal in
      let alike : token x ≡ token other = cc (e) in
      long (subst Short (sym (injective x other alike)) fits.1);
}

-- no such token stands first
pub refused_other : {A T : Type 0} (token : T → A) (Short : T → Type 0) (tokens : List A) (some : T) → Short some → ((x : T) → first tokens ≡ Some (token x) → ⊥) → Refused (carried_short token Short) syntax tokens (length tokens)
refused_other token Short tokens some short none = record {
  before = [];
  rest = tokens;
  whole = refl;
  count = refl;
  begins = record { tree = some; more = token some ∷ []; fits = λ limits. keeps_all limits tt short tt; spelled = refl };
  goes = tt;
  stuck = λ other u v same fits follows equal. none other (same ∙ ap first equal);
}

pub taken_small : {A T : Type 0} (token : T → A) (Small : T → Type 0) (rest : List A) (x : T) → ((a b : T) → token a ≡ token b → a ≡ b) → Small x → Taken (carried_small token Small) (token x ∷ rest) x rest
taken_small token Small rest x injective small = record {
  fits = λ limits. keeps_all limits tt tt small;
  whole = refl;
  only = λ limits other u v same fits follows equal. let e : token other ≡ token x = cc in injective other x e;
}

pub refused_large : {A T : Type 0} (token : T → A) (Small : T → Type 0) (rest : List A) (x some : T) → ((a b : T) → token a ≡ token b → a ≡ b) → Small some → (Small x → ⊥) → Refused (carried_small token Small) too_large (token x ∷ rest) (length (token x ∷ rest))
refused_large token Small rest x some injective small large = record {
  before = [];
  rest = token x ∷ rest;
  whole = refl;
  count = refl;
  begins = record { tree = some; more = token some ∷ []; fits = λ limits. keeps_all limits tt tt small; spelled = refl };
  goes = record { tree = x; token = token x; more = []; next = refl; fits = (tt, tt); spelled = refl };
  stuck = λ other u v same fits follows equal.
      let e : Some (token x) ≡ Some (token other) = same ∙ ap first equal in
      let alike : token x ≡ token other = cc (e) in
      large (subst Small (sym (injective x other alike)) fits.2);
}

pub refused_else : {A T : Type 0} (token : T → A) (Small : T → Type 0) (tokens : List A) (some : T) → Small some → ((x : T) → first tokens ≡ Some (token x) → ⊥) → Refused (carried_small token Small) syntax tokens (length tokens)
refused_else token Small tokens some small none = record {
  before = [];
  rest = tokens;
  whole = refl;
  count = refl;
  begins = record { tree = some; more = token some ∷ []; fits = λ limits. keeps_all limits tt tt small; spelled = refl };
  goes = tt;
  stuck = λ other u v same fits follows equal. none other (same ∙ ap first equal);
}

-- a phrase that depends on the one before it

-- what the second phrase begins with may stand behind the first, and there is one behind each
pub record JointBy {A T S : Type 0} (P : Phrase A T) (Q : T → Phrase A S) (ends : Option A → Type 0) : Type 0 where
  pub may : (limits : Limits) (t : T) (q : S) (y : List A) → (Q t).Fits limits q → ends (first y) → P.Follows (first ((Q t).spell q ++ y))
  pub follows : (t : T) (o : Option A) → ends o → (Q t).Follows o
  pub some : S
  pub fits : (limits : Limits) (t : T) → P.Fits limits t → (Q t).Fits limits some

pub step_then_by : {A T S : Type 0} (P : Phrase A T) (Q : T → Phrase A S) (ends : Option A → Type 0) (tokens after : List A) (t : T) → JointBy P Q ends → Taken P tokens t after → Step (then_by P Q ends) (Q t) (λ q. (t, q)) tokens after
step_then_by P Q ends tokens after t joint taken = record {
  front = P.spell t;
  split = taken.whole;
  fits = λ limits q fits. (taken.fits limits, fits);
  spelled = λ q. refl;
  back = λ limits other x y same fits follows equal.
      let e : P.spell t ++ x ≡ P.spell other.0 ++ ((Q other.0).spell other.1 ++ y) = equal ∙ append_assoc (P.spell other.0) ((Q other.0).spell other.1) y in
      let may : P.Follows (first ((Q other.0).spell other.1 ++ y)) = joint.may limits other.0 other.1 y fits.1 follows in
      let alike : other.0 ≡ t = taken.only limits other.0 x ((Q other.0).spell other.1 ++ y) same fits.0 may e in
      record {
        tree = other.1;
        fits = subst (λ u. (Q u).Fits limits other.1) alike fits.1;
        is = ap (λ u. (u, other.1)) alike;
        equal = taken_rest taken limits other.0 x ((Q other.0).spell other.1 ++ y) same fits.0 may e ∙ ap (λ u. (Q u).spell other.1 ++ y) alike;
        follows = joint.follows t (first y) follows;
      };
}

pub refused_then_by : {A T S : Type 0} (P : Phrase A T) (Q : T → Phrase A S) (ends : Option A → Type 0) {cause : Cause} (tokens : List A) (last : ℕ) → JointBy P Q ends → Refused P cause tokens last → Refused (then_by P Q ends) cause tokens last
refused_then_by P Q ends {cause = cause} tokens last joint refused = record {
  before = refused.before;
  rest = refused.rest;
  whole = refused.whole;
  count = refused.count;
  begins = record {
    tree = (refused.begins.tree, joint.some);
    more = refused.begins.more ++ (Q refused.begins.tree).spell joint.some;
    fits = λ limits. (refused.begins.fits limits, joint.fits limits refused.begins.tree (refused.begins.fits limits));
    spelled = sym (append_assoc refused.before refused.begins.more ((Q refused.begins.tree).spell joint.some)) ∙ ap (λ w. w ++ (Q refused.begins.tree).spell joint.some) refused.begins.spelled;
  };
  goes = goes_along P (then_by P Q ends) cause refused.before refused.rest refused.before refused.rest
      (λ limits goes. record {
        tree = (goes.tree, joint.some);
        token = goes.token;
        more = goes.more ++ (Q goes.tree).spell joint.some;
        next = goes.next;
        fits = (goes.fits, joint.fits limits goes.tree goes.fits);
        spelled = sym (append_assoc refused.before (goes.token ∷ goes.more) ((Q goes.tree).spell joint.some)) ∙ ap (λ w. w ++ (Q goes.tree).spell joint.some) goes.spelled;
      }) refused.goes;
  stuck = λ other x y same fits follows equal.
      refused.stuck other.0 x ((Q other.0).spell other.1 ++ y) same fits.0 (joint.may (passed cause) other.0 other.1 y fits.1 follows) (equal ∙ append_assoc (P.spell other.0) ((Q other.0).spell other.1) y);
}
