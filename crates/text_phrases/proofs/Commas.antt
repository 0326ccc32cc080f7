-- Lists with commas, read from the left.
use Rattle.std.proofs.Common.{◌≡◌, ℕ, List, [], ◌∷◌, ◌++◌, Option, Some, Bool, true, false, length, refl, sym, ap, ◌∙◌, append_assoc, subst}
use Rattle.std.proofs.lemmas.List.{append_cancel_left, append-nil}
use Rattle.text_phrases.specs.Limits.{Limits, in_depth, in_length, Cause, passed, too_long, Keeps}
use Rattle.text_phrases.specs.Phrase.{first, Phrase, Taken, Refused}
use Rattle.text_phrases.specs.Sequence.{AllFit}
use Rattle.text_phrases.specs.Commas.{spell_more, commas, ListingFits, spell_listing, listing}
use Rattle.text_phrases.proofs.Phrases.{first_append, taken_rest, goes_along, keeps_all}
use Rattle.text_phrases.proofs.Sequences.{Longer, all_append}

pub record CommaApart {A T : Type 0} (P : Phrase A T) (comma : A) (ends : Option A → Type 0) : Type 0 where
  pub comma_goes_on : ends (Some comma) → ⊥
  pub comma_follows : P.Follows (Some comma)
  pub begins : (limits : Limits) (t : T) (y : List A) → P.Fits limits t → ends (first (P.spell t ++ y)) → ⊥
  pub last : (o : Option A) → ends o → P.Follows o

-- some items are read, each behind a comma
pub record Commas {A T : Type 0} (P : Phrase A T) (comma : A) (ends : Option A → Type 0) (tokens : List A) (list : List T) (rest : List A) : Type 0 where
  pub all : (limits : Limits) → AllFit P limits list
  pub whole : tokens ≡ spell_more P comma list false ++ rest
  pub only : (limits : Limits) (others : List T) (trailing : Bool) (x y : List A) → first rest ≡ first x → AllFit P limits others → ends (first y) → spell_more P comma list false ++ x ≡ spell_more P comma others trailing ++ y → Longer P limits list others

more_append : {A T : Type 0} (P : Phrase A T) (comma : A) (xs ys : List T) (b : Bool) → spell_more P comma (xs ++ ys) b ≡ spell_more P comma xs false ++ spell_more P comma ys b
more_append P comma [] ys b = refl
more_append P comma (x ∷ xs) ys b = ap (λ w. comma ∷ (P.spell x ++ w)) (more_append P comma xs ys b) ∙ ap (λ w. comma ∷ w) (sym (append_assoc (P.spell x) (spell_more P comma xs false) (spell_more P comma ys b)))

pub commas_none : {A T : Type 0} (P : Phrase A T) (comma : A) (ends : Option A → Type 0) (tokens : List A) → Commas P comma ends tokens [] tokens
commas_none P comma ends tokens = record { all = λ limits. tt; whole = refl; only = λ limits others b x y same all follows equal. record { more = others; all = all; is = refl } }

left_over : {A T : Type 0} (P : Phrase A T) (comma : A) (list more others : List T) (b : Bool) (x y : List A) → others ≡ list ++ more → spell_more P comma list false ++ x ≡ spell_more P comma others b ++ y → x ≡ spell_more P comma more b ++ y
left_over P comma list more others b x y is equal =
    append_cancel_left (spell_more P comma list false) x (spell_more P comma more b ++ y)
    (equal ∙ ap (λ o. spell_more P comma o b ++ y) is ∙ ap (λ w. w ++ y) (more_append P comma list more b) ∙ append_assoc (spell_more P comma list false) (spell_more P comma more b) y)

follows_more : {A T : Type 0} (P : Phrase A T) (comma : A) (ends : Option A → Type 0) (ts : List T) (b : Bool) (y : List A) → CommaApart P comma ends → ends (first y) → P.Follows (first (spell_more P comma ts b ++ y))
follows_more P comma ends [] true y apart follows = apart.comma_follows
follows_more P comma ends [] false y apart follows = apart.last (first y) follows
follows_more P comma ends (t ∷ ts) b y apart follows = apart.comma_follows

-- an item behind a comma, in another reading
pub record Item {A T : Type 0} (P : Phrase A T) (comma : A) (limits : Limits) (list others : List T) (trailing : Bool) (w y : List A) : Type 0 where
  pub item : T
  pub more : List T
  pub fits : P.Fits limits item
  pub all : AllFit P limits more
  pub is : others ≡ list ++ (item ∷ more)
  pub equal : w ≡ P.spell item ++ (spell_more P comma more trailing ++ y)

item_by : {A T : Type 0} (P : Phrase A T) (comma : A) (ends : Option A → Type 0) (limits : Limits) (list others more : List T) (b : Bool) (w y : List A) → CommaApart P comma ends → (ends (first w) → ⊥) → ends (first y) → AllFit P limits more → others ≡ list ++ more → comma ∷ w ≡ spell_more P comma more b ++ y → Item P comma limits list others b w y
item_by P comma ends limits list others [] true w y apart goes follows all is equal =
    absurd (let e : w ≡ y = cc in goes (subst (λ v. ends (first v)) (sym e) follows))
item_by P comma ends limits list others [] false w y apart goes follows all is equal =
    absurd (apart.comma_goes_on (subst (λ v. ends (first v)) (sym equal) follows))
item_by P comma ends limits list others (m ∷ ms) b w y apart goes follows all is equal =
    let e : w ≡ (P.spell m ++ spell_more P comma ms b) ++ y = cc in
    record { item = m; more = ms; fits = all.0; all = all.1; is = is; equal = e ∙ append_assoc (P.spell m) (spell_more P comma ms b) y }

item_of : {A T : Type 0} (P : Phrase A T) (comma : A) (ends : Option A → Type 0) (limits : Limits) (tokens after : List A) (list others : List T) (b : Bool) (w y : List A) → CommaApart P comma ends → Commas P comma ends tokens list (comma ∷ after) → (ends (first w) → ⊥) → AllFit P limits others → ends (first y) → spell_more P comma list false ++ (comma ∷ w) ≡ spell_more P comma others b ++ y → Item P comma limits list others b w y
item_of P comma ends limits tokens after list others b w y apart items goes all follows equal =
    let longer : Longer P limits list others = items.only limits others b (comma ∷ w) y refl all follows equal in
    item_by P comma ends limits list others longer.more b w y apart goes follows longer.all longer.is (left_over P comma list longer.more others b (comma ∷ w) y longer.is equal)

single : {A T : Type 0} (P : Phrase A T) (comma : A) (list : List T) (t : T) (r : List A) → spell_more P comma list false ++ (comma ∷ (P.spell t ++ r)) ≡ spell_more P comma (list ++ (t ∷ [])) false ++ r
single P comma list t r =
    ap (λ w. spell_more P comma list false ++ (comma ∷ (w ++ r))) (sym (append-nil (P.spell t)))
    ∙ sym (append_assoc (spell_more P comma list false) (comma ∷ (P.spell t ++ [])) r)
    ∙ ap (λ w. w ++ r) (sym (more_append P comma list (t ∷ []) false))

pub commas_next : {A T : Type 0} (P : Phrase A T) (comma : A) (ends : Option A → Type 0) (tokens after rest : List A) (list : List T) (t : T) → CommaApart P comma ends → Commas P comma ends tokens list (comma ∷ after) → Taken P after t rest → Commas P comma ends tokens (list ++ (t ∷ [])) rest
commas_next P comma ends tokens after rest list t apart items taken = record {
  all = λ limits. all_append P limits list (t ∷ []) (items.all limits) (taken.fits limits, tt);
  whole = items.whole ∙ ap (λ w. spell_more P comma list false ++ (comma ∷ w)) taken.whole ∙ single P comma list t rest;
  only = λ limits others b x y same all follows equal.
      let found : Item P comma limits list others b (P.spell t ++ x) y =
      item_of P comma ends limits tokens after list others b (P.spell t ++ x) y apart items (λ e. apart.begins limits t x (taken.fits limits) e) all follows (single P comma list t x ∙ equal) in
      let alike : found.item ≡ t = taken.only limits found.item x (spell_more P comma found.more b ++ y) same found.fits (follows_more P comma ends found.more b y apart follows) found.equal in
      record { more = found.more; all = found.all; is = found.is ∙ ap (λ u. list ++ (u ∷ found.more)) alike ∙ sym (append_assoc list (t ∷ []) found.more) };
}

-- the list has room for one more, whatever it is
pub commas_refused : {A T : Type 0} (P : Phrase A T) (comma : A) (Short : List T → Type 0) (ends : Option A → Type 0) {cause : Cause} (tokens after : List A) (list : List T) (last : ℕ) → CommaApart P comma ends → Commas P comma ends tokens list (comma ∷ after) → ((t : T) → Short (list ++ (t ∷ []))) → (ends (first after) → ⊥) → Refused P cause after last → Refused (commas P comma Short ends) cause tokens last
commas_refused P comma Short ends {cause = cause} tokens after list last apart items room goes refused = record {
  before = spell_more P comma list false ++ (comma ∷ refused.before);
  rest = refused.rest;
  whole = items.whole ∙ ap (λ w. spell_more P comma list false ++ (comma ∷ w)) refused.whole ∙ sym (append_assoc (spell_more P comma list false) (comma ∷ refused.before) refused.rest);
  count = refused.count;
  begins = record {
    tree = (list ++ (refused.begins.tree ∷ []), false);
    more = refused.begins.more;
    fits = λ limits. (all_append P limits list (refused.begins.tree ∷ []) (items.all limits) (refused.begins.fits limits, tt), keeps_all limits tt (room refused.begins.tree) tt);
    spelled = append_assoc (spell_more P comma list false) (comma ∷ refused.before) refused.begins.more
        ∙ ap (λ w. spell_more P comma list false ++ (comma ∷ w)) (refused.begins.spelled ∙ sym (append-nil (P.spell refused.begins.tree)))
        ∙ sym (more_append P comma list (refused.begins.tree ∷ []) false);
  };
  goes = goes_along P (commas P comma Short ends) cause refused.before refused.rest (spell_more P comma list false ++ (comma ∷ refused.before)) refused.rest
      (λ limits on. record {
        tree = (list ++ (on.tree ∷ []), false);
        token = on.token;
        more = on.more;
        next = on.next;
        fits = (all_append P limits list (on.tree ∷ []) (items.all limits) (on.fits, tt), keeps_all limits tt (room on.tree) tt);
        spelled = append_assoc (spell_more P comma list false) (comma ∷ refused.before) (on.token ∷ on.more)
            ∙ ap (λ w. spell_more P comma list false ++ (comma ∷ w)) (on.spelled ∙ sym (append-nil (P.spell on.tree)))
            ∙ sym (more_append P comma list (on.tree ∷ []) false);
      }) refused.goes;
  stuck = λ others x y same fits follows equal.
      let shifted : spell_more P comma list false ++ (comma ∷ (refused.before ++ x)) ≡ spell_more P comma others.0 others.1 ++ y = sym (append_assoc (spell_more P comma list false) (comma ∷ refused.before) x) ∙ equal in
      let here : first after ≡ first (refused.before ++ x) = ap first refused.whole ∙ first_append refused.before refused.rest x same in
      let found : Item P comma (passed cause) list others.0 others.1 (refused.before ++ x) y =
      item_of P comma ends (passed cause) tokens after list others.0 others.1 (refused.before ++ x) y apart items (λ e. goes (subst ends (sym here) e)) fits.0 follows shifted in
      refused.stuck found.item x (spell_more P comma found.more others.1 ++ y) same found.fits (follows_more P comma ends found.more others.1 y apart follows) found.equal;
}

-- An item begins with the next token behind a comma, but no list with it is short; the comma may be the last one.
pub commas_full : {A T : Type 0} (P : Phrase A T) (comma : A) (Short : List T → Type 0) (ends : Option A → Type 0) (tokens after more : List A) (list : List T) (t : T) (token : A) → CommaApart P comma ends → Commas P comma ends tokens list (comma ∷ after) → Short list → (ends (first after) → ⊥) → first after ≡ Some token → P.Fits in_depth t → P.spell t ≡ token ∷ more → ((t : T) (ts : List T) (y : List A) → P.Fits in_length t → first after ≡ first (P.spell t ++ y) → Short (list ++ (t ∷ ts)) → ⊥) → Refused (commas P comma Short ends) too_long tokens (length after)
commas_full P comma Short ends tokens after more list t token apart items short goes next fits spelled over =
    let single : spell_more P comma list true ≡ spell_more P comma list false ++ (comma ∷ []) = ap (λ l. spell_more P comma l true) (sym (append-nil list)) ∙ more_append P comma list [] true in
    record {
      before = spell_more P comma list false ++ (comma ∷ []);
      rest = after;
      whole = items.whole ∙ sym (append_assoc (spell_more P comma list false) (comma ∷ []) after);
      count = refl;
      begins = record { tree = (list, true); more = []; fits = λ limits. (items.all limits, keeps_all limits tt short tt); spelled = append-nil (spell_more P comma list false ++ (comma ∷ [])) ∙ sym single };
      goes = record {
        tree = (list ++ (t ∷ []), false);
        token = token;
        more = more;
        next = next;
        fits = (all_append P in_depth list (t ∷ []) (items.all in_depth) (fits, tt), tt);
        spelled = append_assoc (spell_more P comma list false) (comma ∷ []) (token ∷ more)
            ∙ ap (λ w. spell_more P comma list false ++ (comma ∷ w)) (sym spelled ∙ sym (append-nil (P.spell t)))
            ∙ sym (more_append P comma list (t ∷ []) false);
      };
      stuck = λ others x y same fits follows equal.
          let shifted : spell_more P comma list false ++ (comma ∷ x) ≡ spell_more P comma others.0 others.1 ++ y = sym (append_assoc (spell_more P comma list false) (comma ∷ []) x) ∙ equal in
          let found : Item P comma in_length list others.0 others.1 x y =
          item_of P comma ends in_length tokens after list others.0 others.1 x y apart items (λ e. goes (subst ends (sym same) e)) fits.0 follows shifted in
          over found.item found.more (spell_more P comma found.more others.1 ++ y) found.fits (same ∙ ap first found.equal) (subst Short found.is fits.1.1);
    }

done_by : {A T : Type 0} (P : Phrase A T) (comma : A) (list others more : List T) (b : Bool) (rest x y : List A) → (first rest ≡ Some comma → ⊥) → first rest ≡ first x → others ≡ list ++ more → x ≡ spell_more P comma more b ++ y → (others ≡ list) × (b ≡ false)
done_by P comma list others [] false rest x y none same is equal = (is ∙ append-nil list, refl)
done_by P comma list others [] true rest x y none same is equal = absurd (none (same ∙ ap first equal))
done_by P comma list others (m ∷ ms) b rest x y none same is equal = absurd (none (same ∙ ap first equal))

pub commas_done : {A T : Type 0} (P : Phrase A T) (comma : A) (Short : List T → Type 0) (ends : Option A → Type 0) (tokens rest : List A) (list : List T) → Commas P comma ends tokens list rest → Short list → (first rest ≡ Some comma → ⊥) → Taken (commas P comma Short ends) tokens (list, false) rest
commas_done P comma Short ends tokens rest list items short none = record {
  fits = λ limits. (items.all limits, keeps_all limits tt short tt);
  whole = items.whole;
  only = λ limits others x y same fits follows equal.
      let longer : Longer P limits list others.0 = items.only limits others.0 others.1 x y same fits.0 follows equal in
      let both : (others.0 ≡ list) × (others.1 ≡ false) = done_by P comma list others.0 longer.more others.1 rest x y none same longer.is (left_over P comma list longer.more others.0 others.1 x y longer.is equal) in
      ap (λ l. (l, others.1)) both.0 ∙ ap (λ b. (list, b)) both.1;
}

trailing_by : {A T : Type 0} (P : Phrase A T) (comma : A) (ends : Option A → Type 0) (limits : Limits) (list others more : List T) (b : Bool) (x y : List A) → CommaApart P comma ends → ends (first x) → ends (first y) → AllFit P limits more → others ≡ list ++ more → comma ∷ x ≡ spell_more P comma more b ++ y → (others ≡ list) × (b ≡ true)
trailing_by P comma ends limits list others [] true x y apart here follows all is equal = (is ∙ append-nil list, refl)
trailing_by P comma ends limits list others [] false x y apart here follows all is equal = absurd (apart.comma_goes_on (subst (λ v. ends (first v)) (sym equal) follows))
trailing_by P comma ends limits list others (m ∷ ms) b x y apart here follows all is equal =
    let e : x ≡ (P.spell m ++ spell_more P comma ms b) ++ y = cc in
    absurd (apart.begins limits m (spell_more P comma ms b ++ y) all.0 (subst (λ v. ends (first v)) (e ∙ append_assoc (P.spell m) (spell_more P comma ms b) y) here))

pub commas_trailing : {A T : Type 0} (P : Phrase A T) (comma : A) (Short : List T → Type 0) (ends : Option A → Type 0) (tokens after : List A) (list : List T) → CommaApart P comma ends → Commas P comma ends tokens list (comma ∷ after) → Short list → ends (first after) → Taken (commas P comma Short ends) tokens (list, true) after
commas_trailing {A = A} P comma Short ends tokens after list apart items short here =
    let true_spelling : spell_more P comma list true ≡ spell_more P comma list false ++ (comma ∷ []) = ap (λ l. spell_more P comma l true) (sym (append-nil list)) ∙ more_append P comma list [] true in
    let shift : (r : List A) → spell_more P comma list false ++ (comma ∷ r) ≡ spell_more P comma list true ++ r =
    λ r. sym (append_assoc (spell_more P comma list false) (comma ∷ []) r) ∙ ap (λ w. w ++ r) (sym true_spelling) in
    record {
      fits = λ limits. (items.all limits, keeps_all limits tt short tt);
      whole = items.whole ∙ shift after;
      only = λ limits others x y same fits follows equal.
          let e : spell_more P comma list false ++ (comma ∷ x) ≡ spell_more P comma others.0 others.1 ++ y = shift x ∙ equal in
          let longer : Longer P limits list others.0 = items.only limits others.0 others.1 (comma ∷ x) y refl fits.0 follows e in
          let both : (others.0 ≡ list) × (others.1 ≡ true) =
          trailing_by P comma ends limits list others.0 longer.more others.1 x y apart (subst ends same here) follows longer.all longer.is (left_over P comma list longer.more others.0 others.1 (comma ∷ x) y longer.is e) in
          ap (λ l. (l, others.1)) both.0 ∙ ap (λ b. (list, b)) both.1;
    }

-- one item or more

-- the first item and some others are read
pub record Listed {A T : Type 0} (P : Phrase A T) (comma : A) (ends : Option A → Type 0) (tokens : List A) (list : List T) (rest : List A) : Type 0 where
  pub head : T
  pub tail : List T
  pub middle : List A
  pub is : list ≡ head ∷ tail
  pub taken : Taken P tokens head middle
  pub items : Commas P comma ends middle tail rest

pub listed_first : {A T : Type 0} (P : Phrase A T) (comma : A) (ends : Option A → Type 0) (tokens rest : List A) (t : T) → Taken P tokens t rest → Listed P comma ends tokens (t ∷ []) rest
listed_first P comma ends tokens rest t taken = record { head = t; tail = []; middle = rest; is = refl; taken = taken; items = commas_none P comma ends rest }

pub listed_next : {A T : Type 0} (P : Phrase A T) (comma : A) (ends : Option A → Type 0) (tokens rest after found : List A) (list : List T) (t : T) → CommaApart P comma ends → Listed P comma ends tokens list rest → rest ≡ comma ∷ after → Taken P after t found → Listed P comma ends tokens (list ++ (t ∷ [])) found
listed_next P comma ends tokens rest after found list t apart listed here taken = record {
  head = listed.head;
  tail = listed.tail ++ (t ∷ []);
  middle = listed.middle;
  is = ap (λ w. w ++ (t ∷ [])) listed.is;
  taken = listed.taken;
  items = commas_next P comma ends listed.middle after found listed.tail t apart (subst (Commas P comma ends listed.middle listed.tail) here listed.items) taken;
}

-- the items of another reading are the first one and those behind it
pub record Others {A T : Type 0} (P : Phrase A T) (comma : A) (Short : List T → Type 0) (limits : Limits) (head : T) (others : List T) (x y : List A) : Type 0 where
  pub tail : List T
  pub is : others ≡ head ∷ tail
  pub all : AllFit P limits tail
  pub short : Keeps limits (Unit {0}) (Short (head ∷ tail)) (Unit {0})
  pub equal : x ≡ spell_more P comma tail false ++ y

others_of : {A T : Type 0} (P : Phrase A T) (comma : A) (Short : List T → Type 0) (ends : Option A → Type 0) (limits : Limits) (tokens middle : List A) (head : T) (others : List T) (x y : List A) → CommaApart P comma ends → Taken P tokens head middle → first middle ≡ first x → ListingFits P Short limits others → ends (first y) → P.spell head ++ x ≡ spell_listing P comma others ++ y → Others P comma Short limits head others x y
others_of P comma Short ends limits tokens middle head [] x y apart taken same fits follows equal = absurd fits
others_of P comma Short ends limits tokens middle head (t ∷ ts) x y apart taken same fits follows equal =
    let e : P.spell head ++ x ≡ P.spell t ++ (spell_more P comma ts false ++ y) = equal ∙ append_assoc (P.spell t) (spell_more P comma ts false) y in
    let may : P.Follows (first (spell_more P comma ts false ++ y)) = follows_more P comma ends ts false y apart follows in
    let alike : t ≡ head = taken.only limits t x (spell_more P comma ts false ++ y) same fits.0 may e in
    record {
      tail = ts;
      is = ap (λ h. h ∷ ts) alike;
      all = fits.1;
      short = subst (λ h. Keeps limits (Unit {0}) (Short (h ∷ ts)) (Unit {0})) alike fits.2;
      equal = taken_rest taken limits t x (spell_more P comma ts false ++ y) same fits.0 may e;
    }

-- the first token behind the first item, in another reading
first_middle : {A T : Type 0} (P : Phrase A T) (comma : A) (list : List T) (middle rest x : List A) → middle ≡ spell_more P comma list false ++ rest → first rest ≡ first x → first middle ≡ first (spell_more P comma list false ++ x)
first_middle P comma list middle rest x whole same = ap first whole ∙ first_append (spell_more P comma list false) rest x same

whole_listed : {A T : Type 0} (P : Phrase A T) (comma : A) (ends : Option A → Type 0) (tokens list_rest : List A) (list : List T) → (listed : Listed P comma ends tokens list list_rest) → tokens ≡ spell_listing P comma list ++ list_rest
whole_listed P comma ends tokens rest list listed =
    listed.taken.whole ∙ ap (λ w. P.spell listed.head ++ w) listed.items.whole ∙ sym (append_assoc (P.spell listed.head) (spell_more P comma listed.tail false) rest)
    ∙ ap (λ l. spell_listing P comma l ++ rest) (sym listed.is)

fits_listed : {A T : Type 0} (P : Phrase A T) (comma : A) (Short : List T → Type 0) (ends : Option A → Type 0) (limits : Limits) (tokens rest : List A) (list : List T) → Listed P comma ends tokens list rest → Short list → ListingFits P Short limits list
fits_listed P comma Short ends limits tokens rest list listed short =
    subst (ListingFits P Short limits) (sym listed.is) (listed.taken.fits limits, listed.items.all limits, keeps_all limits tt (subst Short listed.is short) tt)

pub listing_done : {A T : Type 0} (P : Phrase A T) (comma : A) (Short : List T → Type 0) (ends : Option A → Type 0) (tokens rest : List A) (list : List T) → CommaApart P comma ends → Listed P comma ends tokens list rest → Short list → (first rest ≡ Some comma → ⊥) → Taken (listing P comma Short ends) tokens list rest
listing_done P comma Short ends tokens rest list apart listed short none = record {
  fits = λ limits. fits_listed P comma Short ends limits tokens rest list listed short;
  whole = whole_listed P comma ends tokens rest list listed;
  only = λ limits others x y same fits follows equal.
      let e : P.spell listed.head ++ (spell_more P comma listed.tail false ++ x) ≡ spell_listing P comma others ++ y =
      sym (append_assoc (P.spell listed.head) (spell_more P comma listed.tail false) x) ∙ ap (λ l. spell_listing P comma l ++ x) (sym listed.is) ∙ equal in
      let here : first listed.middle ≡ first (spell_more P comma listed.tail false ++ x) = first_middle P comma listed.tail listed.middle rest x listed.items.whole same in
      let found : Others P comma Short limits listed.head others (spell_more P comma listed.tail false ++ x) y =
      others_of P comma Short ends limits tokens listed.middle listed.head others (spell_more P comma listed.tail false ++ x) y apart listed.taken here fits follows e in
      let longer : Longer P limits listed.tail found.tail = listed.items.only limits found.tail false x y same found.all follows found.equal in
      let both : (found.tail ≡ listed.tail) × (false ≡ false) = done_by P comma listed.tail found.tail longer.more false rest x y none same longer.is (left_over P comma listed.tail longer.more found.tail false x y longer.is found.equal) in
      found.is ∙ ap (λ ts. listed.head ∷ ts) both.0 ∙ sym listed.is;
}

stuck_first : {A T : Type 0} (P : Phrase A T) (comma : A) (Short : List T → Type 0) (ends : Option A → Type 0) {cause : Cause} (tokens : List A) (last : ℕ) → CommaApart P comma ends → (refused : Refused P cause tokens last) → (others : List T) (x y : List A) → first refused.rest ≡ first x → ListingFits P Short (passed cause) others → ends (first y) → refused.before ++ x ≡ spell_listing P comma others ++ y → ⊥
stuck_first P comma Short ends tokens last apart refused [] x y same fits follows equal = fits
stuck_first P comma Short ends tokens last apart refused (t ∷ ts) x y same fits follows equal =
    refused.stuck t x (spell_more P comma ts false ++ y) same fits.0 (follows_more P comma ends ts false y apart follows) (equal ∙ append_assoc (P.spell t) (spell_more P comma ts false) y)

-- the first item is refused
pub listing_refused_first : {A T : Type 0} (P : Phrase A T) (comma : A) (Short : List T → Type 0) (ends : Option A → Type 0) {cause : Cause} (tokens : List A) (last : ℕ) → CommaApart P comma ends → ((t : T) → Short (t ∷ [])) → Refused P cause tokens last → Refused (listing P comma Short ends) cause tokens last
listing_refused_first P comma Short ends {cause = cause} tokens last apart room refused = record {
  before = refused.before;
  rest = refused.rest;
  whole = refused.whole;
  count = refused.count;
  begins = record {
    tree = refused.begins.tree ∷ [];
    more = refused.begins.more;
    fits = λ limits. (refused.begins.fits limits, tt, keeps_all limits tt (room refused.begins.tree) tt);
    spelled = refused.begins.spelled ∙ sym (append-nil (P.spell refused.begins.tree));
  };
  goes = goes_along P (listing P comma Short ends) cause refused.before refused.rest refused.before refused.rest
      (λ limits on. record {
        tree = on.tree ∷ [];
        token = on.token;
        more = on.more;
        next = on.next;
        fits = (on.fits, tt, keeps_all limits tt (room on.tree) tt);
        spelled = on.spelled ∙ sym (append-nil (P.spell on.tree));
      }) refused.goes;
  stuck = λ others x y same fits follows equal. stuck_first P comma Short ends tokens last apart refused others x y same fits follows equal;
}

listing_longer : {A T : Type 0} (P : Phrase A T) (comma : A) (list : List T) (head : T) (tail : List T) (t : T) → list ≡ head ∷ tail → spell_listing P comma (list ++ (t ∷ [])) ≡ spell_listing P comma list ++ (comma ∷ P.spell t)
listing_longer P comma list head tail t is =
    ap (λ l. spell_listing P comma (l ++ (t ∷ []))) is
    ∙ ap (λ w. P.spell head ++ w) (more_append P comma tail (t ∷ []) false)
    ∙ ap (λ w. P.spell head ++ (spell_more P comma tail false ++ (comma ∷ w))) (append-nil (P.spell t))
    ∙ sym (append_assoc (P.spell head) (spell_more P comma tail false) (comma ∷ P.spell t))
    ∙ ap (λ l. spell_listing P comma l ++ (comma ∷ P.spell t)) (sym is)

fits_longer : {A T : Type 0} (P : Phrase A T) (comma : A) (Short : List T → Type 0) (ends : Option A → Type 0) (limits : Limits) (tokens rest : List A) (list : List T) (t : T) → Listed P comma ends tokens list rest → P.Fits limits t → Keeps limits (Unit {0}) (Short (list ++ (t ∷ []))) (Unit {0}) → ListingFits P Short limits (list ++ (t ∷ []))
fits_longer P comma Short ends limits tokens rest list t listed fits short =
    subst (λ l. ListingFits P Short limits (l ++ (t ∷ []))) (sym listed.is)
    (listed.taken.fits limits, all_append P limits listed.tail (t ∷ []) (listed.items.all limits) (fits, tt), subst (λ l. Keeps limits (Unit {0}) (Short (l ++ (t ∷ []))) (Unit {0})) listed.is short)

-- where no comma stands last, an item stands behind each one
item_plain : {A T : Type 0} (P : Phrase A T) (comma : A) (ends : Option A → Type 0) (limits : Limits) (list others more : List T) (w y : List A) → CommaApart P comma ends → ends (first y) → AllFit P limits more → others ≡ list ++ more → comma ∷ w ≡ spell_more P comma more false ++ y → Item P comma limits list others false w y
item_plain P comma ends limits list others [] w y apart follows all is equal = absurd (apart.comma_goes_on (subst (λ v. ends (first v)) (sym equal) follows))
item_plain P comma ends limits list others (m ∷ ms) w y apart follows all is equal =
    let e : w ≡ (P.spell m ++ spell_more P comma ms false) ++ y = cc in
    record { item = m; more = ms; fits = all.0; all = all.1; is = is; equal = e ∙ append_assoc (P.spell m) (spell_more P comma ms false) y }

-- another reading of what begins with the items and a comma has an item behind them
item_listed : {A T : Type 0} (P : Phrase A T) (comma : A) (Short : List T → Type 0) (ends : Option A → Type 0) (limits : Limits) (tokens rest after : List A) (list others : List T) (w y : List A) → CommaApart P comma ends → (listed : Listed P comma ends tokens list rest) → rest ≡ comma ∷ after → ListingFits P Short limits others → ends (first y) → spell_listing P comma list ++ (comma ∷ w) ≡ spell_listing P comma others ++ y → (tail : List T) × (others ≡ listed.head ∷ tail) × Keeps limits (Unit {0}) (Short (listed.head ∷ tail)) (Unit {0}) × Item P comma limits listed.tail tail false w y
item_listed P comma Short ends limits tokens rest after list others w y apart listed here fits follows equal =
    let e : P.spell listed.head ++ (spell_more P comma listed.tail false ++ (comma ∷ w)) ≡ spell_listing P comma others ++ y =
    sym (append_assoc (P.spell listed.head) (spell_more P comma listed.tail false) (comma ∷ w)) ∙ ap (λ l. spell_listing P comma l ++ (comma ∷ w)) (sym listed.is) ∙ equal in
    let items : Commas P comma ends listed.middle listed.tail (comma ∷ after) = subst (Commas P comma ends listed.middle listed.tail) here listed.items in
    let ahead : first listed.middle ≡ first (spell_more P comma listed.tail false ++ (comma ∷ w)) = first_middle P comma listed.tail listed.middle (comma ∷ after) (comma ∷ w) items.whole refl in
    let found : Others P comma Short limits listed.head others (spell_more P comma listed.tail false ++ (comma ∷ w)) y =
    others_of P comma Short ends limits tokens listed.middle listed.head others (spell_more P comma listed.tail false ++ (comma ∷ w)) y apart listed.taken ahead fits follows e in
    let longer : Longer P limits listed.tail found.tail = items.only limits found.tail false (comma ∷ w) y refl found.all follows found.equal in
    (found.tail, found.is, found.short, item_plain P comma ends limits listed.tail found.tail longer.more w y apart follows longer.all longer.is (left_over P comma listed.tail longer.more found.tail false (comma ∷ w) y longer.is found.equal))

-- an item behind a comma is refused, and the list has room for one more
pub listing_refused : {A T : Type 0} (P : Phrase A T) (comma : A) (Short : List T → Type 0) (ends : Option A → Type 0) {cause : Cause} (tokens rest after : List A) (list : List T) (last : ℕ) → CommaApart P comma ends → Listed P comma ends tokens list rest → rest ≡ comma ∷ after → ((t : T) → Short (list ++ (t ∷ []))) → Refused P cause after last → Refused (listing P comma Short ends) cause tokens last
listing_refused {T = T} P comma Short ends {cause = cause} tokens rest after list last apart listed here room refused = record {
  before = spell_listing P comma list ++ (comma ∷ refused.before);
  rest = refused.rest;
  whole = whole_listed P comma ends tokens rest list listed ∙ ap (λ w. spell_listing P comma list ++ w) here ∙ ap (λ w. spell_listing P comma list ++ (comma ∷ w)) refused.whole ∙ sym (append_assoc (spell_listing P comma list) (comma ∷ refused.before) refused.rest);
  count = refused.count;
  begins = record {
    tree = list ++ (refused.begins.tree ∷ []);
    more = refused.begins.more;
    fits = λ limits. fits_longer P comma Short ends limits tokens rest list refused.begins.tree listed (refused.begins.fits limits) (keeps_all limits tt (room refused.begins.tree) tt);
    spelled = append_assoc (spell_listing P comma list) (comma ∷ refused.before) refused.begins.more
        ∙ ap (λ w. spell_listing P comma list ++ (comma ∷ w)) refused.begins.spelled
        ∙ sym (listing_longer P comma list listed.head listed.tail refused.begins.tree listed.is);
  };
  goes = goes_along P (listing P comma Short ends) cause refused.before refused.rest (spell_listing P comma list ++ (comma ∷ refused.before)) refused.rest
      (λ limits on. record {
        tree = list ++ (on.tree ∷ []);
        token = on.token;
        more = on.more;
        next = on.next;
        fits = fits_longer P comma Short ends limits tokens rest list on.tree listed on.fits (keeps_all limits tt (room on.tree) tt);
        spelled = append_assoc (spell_listing P comma list) (comma ∷ refused.before) (on.token ∷ on.more)
            ∙ ap (λ w. spell_listing P comma list ++ (comma ∷ w)) on.spelled
            ∙ sym (listing_longer P comma list listed.head listed.tail on.tree listed.is);
      }) refused.goes;
  stuck = λ others x y same fits follows equal.
      let found : (tail : List T) × (others ≡ listed.head ∷ tail) × Keeps (passed cause) (Unit {0}) (Short (listed.head ∷ tail)) (Unit {0}) × Item P comma (passed cause) listed.tail tail false (refused.before ++ x) y =
      item_listed P comma Short ends (passed cause) tokens rest after list others (refused.before ++ x) y apart listed here fits follows
      (sym (append_assoc (spell_listing P comma list) (comma ∷ refused.before) x) ∙ equal) in
      refused.stuck found.3.item x (spell_more P comma found.3.more false ++ y) same found.3.fits (follows_more P comma ends found.3.more false y apart follows) found.3.equal;
}

over_full : {A T : Type 0} (P : Phrase A T) (comma : A) (Short : List T → Type 0) (ends : Option A → Type 0) (head : T) (tail more others : List T) (rest after x y : List A) → CommaApart P comma ends → rest ≡ comma ∷ after → first rest ≡ first x → ((t : T) (ts : List T) → Short (head ∷ (tail ++ (t ∷ ts))) → ⊥) → ends (first y) → Short (head ∷ others) → others ≡ tail ++ more → x ≡ spell_more P comma more false ++ y → ⊥
over_full P comma Short ends head tail [] others rest after x y apart here same over follows short is equal =
    apart.comma_goes_on (subst ends (sym (sym (ap first here) ∙ same ∙ ap first equal)) follows)
over_full P comma Short ends head tail (m ∷ ms) others rest after x y apart here same over follows short is equal =
    over m ms (subst (λ o. Short (head ∷ o)) is short)

-- A comma stands behind the items, but no list with one more is short; some item keeps the limits of depth.
pub listing_full : {A T : Type 0} (P : Phrase A T) (comma : A) (Short : List T → Type 0) (ends : Option A → Type 0) (tokens rest after : List A) (list : List T) (t : T) → CommaApart P comma ends → Listed P comma ends tokens list rest → rest ≡ comma ∷ after → Short list → P.Fits in_depth t → ((t : T) (ts : List T) → Short (list ++ (t ∷ ts)) → ⊥) → Refused (listing P comma Short ends) too_long tokens (length rest)
listing_full P comma Short ends tokens rest after list t apart listed here short fits over = record {
  before = spell_listing P comma list;
  rest = rest;
  whole = whole_listed P comma ends tokens rest list listed;
  count = refl;
  begins = record { tree = list; more = []; fits = λ limits. fits_listed P comma Short ends limits tokens rest list listed short; spelled = append-nil (spell_listing P comma list) };
  goes = record {
    tree = list ++ (t ∷ []);
    token = comma;
    more = P.spell t;
    next = ap first here;
    fits = fits_longer P comma Short ends in_depth tokens rest list t listed fits tt;
    spelled = sym (listing_longer P comma list listed.head listed.tail t listed.is);
  };
  stuck = λ others x y same fits follows equal.
      let e : P.spell listed.head ++ (spell_more P comma listed.tail false ++ x) ≡ spell_listing P comma others ++ y =
      sym (append_assoc (P.spell listed.head) (spell_more P comma listed.tail false) x) ∙ ap (λ l. spell_listing P comma l ++ x) (sym listed.is) ∙ equal in
      let ahead : first listed.middle ≡ first (spell_more P comma listed.tail false ++ x) = first_middle P comma listed.tail listed.middle rest x listed.items.whole same in
      let found : Others P comma Short in_length listed.head others (spell_more P comma listed.tail false ++ x) y =
      others_of P comma Short ends in_length tokens listed.middle listed.head others (spell_more P comma listed.tail false ++ x) y apart listed.taken ahead fits follows e in
      let longer : Longer P in_length listed.tail found.tail = listed.items.only in_length found.tail false x y same found.all follows found.equal in
      over_full P comma Short ends listed.head listed.tail longer.more found.tail rest after x y apart here same (λ u us s. over u us (subst (λ l. Short (l ++ (u ∷ us))) (sym listed.is) s)) follows found.short.1 longer.is
      (left_over P comma listed.tail longer.more found.tail false x y longer.is found.equal);
}
