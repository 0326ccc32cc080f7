-- What an entry that goes to the front changes: for another key nothing, and where the key goes there later, nothing at all.
use Rattle.std.proofs.Common.{◌≡◌, Bool, true, false, cond, List, [], ◌∷◌, Option, Some, None, refl, sym, ap, ◌∙◌}
use Rattle.std.specs.Option.{option_map_or}
use Rattle.std.specs.Map.{lookup_entry, remove_entry}
use Rattle.lru.specs.LruCache.{promoted}
use Rattle.lru.proofs.CallerLemmas.{Contains-lookup_entry}

-- a key that passes u does not pass t
abbrev pub IsApart : {K : Type 0} → (K → Bool) → (K → Bool) → Type 0
IsApart {K} t u = (k : K) → u k ≡ true → t k ≡ false

module _ {K V : Type 0} where
  kept_entry : (t u : K → Bool) → IsApart t u → (es : List (K × V)) → lookup_entry t (remove_entry u es) ≡ lookup_entry t es
  kept_entry t u apart [] = refl
  kept_entry t u apart (e ∷ es) = by (u e.0) refl (kept_entry t u apart es) where
    by : (b : Bool) → u e.0 ≡ b → lookup_entry t (remove_entry u es) ≡ lookup_entry t es → lookup_entry t (cond b es (e ∷ remove_entry u es)) ≡ cond (t e.0) (Some e) (lookup_entry t es)
    by true h rest = sym (ap (λ c. cond c (Some e) (lookup_entry t es)) (apart e.0 h))
    by false h rest = ap (λ o. cond (t e.0) (Some e) o) rest

  either_order : (t u : K → Bool) → IsApart t u → (es : List (K × V)) → remove_entry t (remove_entry u es) ≡ remove_entry u (remove_entry t es)
  either_order t u apart [] = refl
  either_order t u apart (e ∷ es) = by (u e.0) (t e.0) refl refl (either_order t u apart es) where
    by : (b c : Bool) → u e.0 ≡ b → t e.0 ≡ c → remove_entry t (remove_entry u es) ≡ remove_entry u (remove_entry t es) → remove_entry t (cond b es (e ∷ remove_entry u es)) ≡ remove_entry u (cond c es (e ∷ remove_entry t es))
    by true true h k rest = let off = apart e.0 h in cc
    by true false h k rest = sym (ap (λ b. cond b (remove_entry t es) (e ∷ remove_entry u (remove_entry t es))) h)
    by false true h k rest = ap (λ c. cond c (remove_entry u es) (e ∷ remove_entry t (remove_entry u es))) k
    by false false h k rest =
        ap (λ c. cond c (remove_entry u es) (e ∷ remove_entry t (remove_entry u es))) k
        ∙ ap (λ r. e ∷ r) rest
        ∙ sym (ap (λ b. cond b (remove_entry t es) (e ∷ remove_entry u (remove_entry t es))) h)

  none_removed : (t : K → Bool) (es : List (K × V)) → lookup_entry t es ≡ None → remove_entry t es ≡ es
  none_removed t [] h = refl
  none_removed t (e ∷ es) h = by (t e.0) h (none_removed t es) where
    by : (b : Bool) → cond b (Some e) (lookup_entry t es) ≡ None → (lookup_entry t es ≡ None → remove_entry t es ≡ es) → cond b es (e ∷ remove_entry t es) ≡ e ∷ es
    by true g rest = cc
    by false g rest = ap (λ r. e ∷ r) (rest g)

  -- but for where the first entry lies whose key passes, they are the same
  pub record AreAlike (t : K → Bool) (xs ys : List (K × V)) : Type 0 where
    pub found : lookup_entry t xs ≡ lookup_entry t ys
    pub others : remove_entry t xs ≡ remove_entry t ys

  pub promoted-alike : (t : K → Bool) (xs ys : List (K × V)) → AreAlike t xs ys → promoted t xs ≡ promoted t ys
  promoted-alike t xs ys alike = by (lookup_entry t xs) (lookup_entry t ys) refl refl where
    by : (o q : Option (K × V)) → lookup_entry t xs ≡ o → lookup_entry t ys ≡ q → option_map_or (λ e. e ∷ remove_entry t xs) o xs ≡ option_map_or (λ e. e ∷ remove_entry t ys) q ys
    by None None h k = sym (none_removed t xs h) ∙ alike.others ∙ none_removed t ys k
    by None (Some f) h k = let found = alike.found in cc
    by (Some e) None h k = let found = alike.found in cc
    by (Some e) (Some f) h k =
        let found = alike.found in
        let same : e ≡ f = cc in
        λ i. same i ∷ alike.others i

  pub alike-promoted : (t : K → Bool) (es : List (K × V)) → AreAlike t (promoted t es) es
  alike-promoted t es = by (lookup_entry t es) refl where
    by : (o : Option (K × V)) → lookup_entry t es ≡ o → AreAlike t (option_map_or (λ e. e ∷ remove_entry t es) o es) es
    by None h = record { found = refl; others = refl }
    by (Some e) h =
        let passes : t e.0 ≡ true = (Contains-lookup_entry t es e h).1 in
        record {
          found = ap (λ b. cond b (Some e) (lookup_entry t (remove_entry t es))) passes ∙ sym h;
          others = ap (λ b. cond b (remove_entry t es) (e ∷ remove_entry t (remove_entry t es))) passes;
        }

  -- an entry that goes to the front, of a key that does not pass
  before_all : (t u : K → Bool) → IsApart t u → (es : List (K × V)) (e : K × V) → t e.0 ≡ false → (lookup_entry t (e ∷ remove_entry u es) ≡ lookup_entry t es) × (remove_entry t (e ∷ remove_entry u es) ≡ e ∷ remove_entry u (remove_entry t es))
  before_all t u apart es e off = (
    ap (λ b. cond b (Some e) (lookup_entry t (remove_entry u es))) off ∙ kept_entry t u apart es,
    ap (λ b. cond b (remove_entry u es) (e ∷ remove_entry t (remove_entry u es))) off ∙ ap (λ r. e ∷ r) (either_order t u apart es),
  )

  pub others-alike : (t u : K → Bool) → IsApart t u → IsApart u t → (xs ys : List (K × V)) → AreAlike t xs ys → AreAlike t (promoted u xs) (promoted u ys)
  others-alike t u apart back xs ys alike = by (lookup_entry u xs) (lookup_entry u ys) refl refl where
    same : lookup_entry u xs ≡ lookup_entry u ys
    same = sym (kept_entry u t back xs) ∙ ap (lookup_entry u) alike.others ∙ kept_entry u t back ys

    by : (o q : Option (K × V)) → lookup_entry u xs ≡ o → lookup_entry u ys ≡ q → AreAlike t (option_map_or (λ e. e ∷ remove_entry u xs) o xs) (option_map_or (λ e. e ∷ remove_entry u ys) q ys)
    by None None h k = alike
    by None (Some f) h k = let found = same in cc
    by (Some e) None h k = let found = same in cc
    by (Some e) (Some f) h k =
        let found = same in
        let is : e ≡ f = cc in
        let off : t e.0 ≡ false = apart e.0 (Contains-lookup_entry u xs e h).1 in
        let also : t f.0 ≡ false = apart f.0 (Contains-lookup_entry u ys f k).1 in
        let first = before_all t u apart xs e off in
        let second = before_all t u apart ys f also in
        record {
          found = first.0 ∙ alike.found ∙ sym second.0;
          others = first.1 ∙ (λ i. is i ∷ remove_entry u (alike.others i)) ∙ sym second.1;
        }
