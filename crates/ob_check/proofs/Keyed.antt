-- The words on the entries of a cache, where another key stands for each key.
use Rattle.std.proofs.Common.{◌≡◌, ℕ, ◌-◌, Bool, true, false, cond, ◌||◌, List, [], ◌∷◌, map, take, Option, Some, None, refl, sym, ap, ◌∙◌}
use Rattle.std.specs.Prelude.{option_map, is_some}
use Rattle.std.specs.Option.{option_map_or}
use Rattle.std.specs.Map.{lookup, lookup_entry, remove_entry}
use Rattle.std.proofs.lemmas.List.{take-map}
use Rattle.lru.specs.LruCache.{lru_cache, promoted, put_entries}

module _ {K J V : Type 0} (f : K → J) (eq : K → K → Bool) (test : J → J → Bool) (same : (j k : K) → eq j k ≡ test (f j) (f k)) where
  abbrev pub keyed : K × V → J × V
  keyed e = (f e.0, e.1)

  pub lookup-keyed : (k : K) (es : List (K × V)) → lookup (test (f k)) (map keyed es) ≡ lookup (eq k) es
  lookup-keyed k [] = refl
  lookup-keyed k (e ∷ es) = ap (λ b. cond b (Some e.1) (lookup (test (f k)) (map keyed es))) (sym (same k e.0)) ∙ ap (λ o. cond (eq k e.0) (Some e.1) o) (lookup-keyed k es)

  lookup_entry-keyed : (k : K) (es : List (K × V)) → lookup_entry (test (f k)) (map keyed es) ≡ option_map keyed (lookup_entry (eq k) es)
  lookup_entry-keyed k [] = refl
  lookup_entry-keyed k (e ∷ es) = ap (λ b. cond b (Some (keyed e)) (lookup_entry (test (f k)) (map keyed es))) (sym (same k e.0)) ∙ by (eq k e.0) (lookup_entry-keyed k es) where
    by : (b : Bool) → lookup_entry (test (f k)) (map keyed es) ≡ option_map keyed (lookup_entry (eq k) es) → cond b (Some (keyed e)) (lookup_entry (test (f k)) (map keyed es)) ≡ option_map keyed (cond b (Some e) (lookup_entry (eq k) es))
    by true rest = refl
    by false rest = rest

  remove_entry-keyed : (k : K) (es : List (K × V)) → remove_entry (test (f k)) (map keyed es) ≡ map keyed (remove_entry (eq k) es)
  remove_entry-keyed k [] = refl
  remove_entry-keyed k (e ∷ es) = ap (λ b. cond b (map keyed es) (keyed e ∷ remove_entry (test (f k)) (map keyed es))) (sym (same k e.0)) ∙ by (eq k e.0) (remove_entry-keyed k es) where
    by : (b : Bool) → remove_entry (test (f k)) (map keyed es) ≡ map keyed (remove_entry (eq k) es) → cond b (map keyed es) (keyed e ∷ remove_entry (test (f k)) (map keyed es)) ≡ map keyed (cond b es (e ∷ remove_entry (eq k) es))
    by true rest = refl
    by false rest = ap (λ r. keyed e ∷ r) rest

  pub promoted-keyed : (k : K) (es : List (K × V)) → promoted (test (f k)) (map keyed es) ≡ map keyed (promoted (eq k) es)
  promoted-keyed k es = ap (λ o. option_map_or (λ e. e ∷ remove_entry (test (f k)) (map keyed es)) o (map keyed es)) (lookup_entry-keyed k es) ∙ by (lookup_entry (eq k) es) where
    by : (o : Option (K × V)) → option_map_or (λ e. e ∷ remove_entry (test (f k)) (map keyed es)) (option_map keyed o) (map keyed es) ≡ map keyed (option_map_or (λ e. e ∷ remove_entry (eq k) es) o es)
    by None = refl
    by (Some e) = ap (λ rest. keyed e ∷ rest) (remove_entry-keyed k es)

  pub put_entries-keyed : (k : K) (v : V) (n : ℕ) (es : List (K × V)) → put_entries test (lru_cache (map keyed es) n) (f k) v ≡ map keyed (put_entries eq (lru_cache es n) k v)
  put_entries-keyed k v n es = ap (λ o. option_map_or (λ e. (e.0, v) ∷ remove_entry (test (f k)) (map keyed es)) o ((f k, v) ∷ take (n - 1) (map keyed es))) (lookup_entry-keyed k es) ∙ by (lookup_entry (eq k) es) where
    by : (o : Option (K × V)) → option_map_or (λ e. (e.0, v) ∷ remove_entry (test (f k)) (map keyed es)) (option_map keyed o) ((f k, v) ∷ take (n - 1) (map keyed es)) ≡ map keyed (option_map_or (λ e. (e.0, v) ∷ remove_entry (eq k) es) o ((k, v) ∷ take (n - 1) es))
    by None = ap (λ rest. (f k, v) ∷ rest) (take-map keyed (n - 1) es)
    by (Some e) = ap (λ rest. (f e.0, v) ∷ rest) (remove_entry-keyed k es)

-- ---- what is there stays there when an entry goes to the front

swapped : (a b c : Bool) → (a || (b || c)) ≡ (b || (a || c))
swapped true true c = refl
swapped true false c = refl
swapped false b c = refl

module _ {K V : Type 0} where
  any_key : (K → Bool) → List (K × V) → Bool
  any_key t [] = false
  any_key t (e ∷ es) = t e.0 || any_key t es

  none_by_any : (t : K → Bool) (es : List (K × V)) (b : Bool) → any_key t es ≡ b → is_some (lookup t es) ≡ b
  unfolding any_key
  none_by_any t [] b h = h
  none_by_any t (e ∷ es) b h = by (t e.0) h (none_by_any t es b) where
    by : (c : Bool) → (c || any_key t es) ≡ b → (any_key t es ≡ b → is_some (lookup t es) ≡ b) → is_some (cond c (Some e.1) (lookup t es)) ≡ b
    by true g rest = g
    by false g rest = rest g

  any-removed : (t u : K → Bool) (es : List (K × V)) (e : K × V) → lookup_entry u es ≡ Some e → (t e.0 || any_key t (remove_entry u es)) ≡ any_key t es
  unfolding any_key
  any-removed t u [] e h = cc
  any-removed t u (x ∷ xs) e h = by (u x.0) h (any-removed t u xs e) where
    by : (c : Bool) → cond c (Some x) (lookup_entry u xs) ≡ Some e → (lookup_entry u xs ≡ Some e → (t e.0 || any_key t (remove_entry u xs)) ≡ any_key t xs) → (t e.0 || any_key t (cond c xs (x ∷ remove_entry u xs))) ≡ any_key t (x ∷ xs)
    by true g rest = let same : x ≡ e = cc in ap (λ y. t y.0 || any_key t xs) (sym same)
    by false g rest = swapped (t e.0) (t x.0) (any_key t (remove_entry u xs)) ∙ ap (λ r. t x.0 || r) (rest g)

  any-promoted : (t u : K → Bool) (es : List (K × V)) → any_key t (promoted u es) ≡ any_key t es
  unfolding any_key
  any-promoted t u es = by (lookup_entry u es) refl where
    by : (o : Option (K × V)) → lookup_entry u es ≡ o → any_key t (option_map_or (λ e. e ∷ remove_entry u es) o es) ≡ any_key t es
    by None h = refl
    by (Some e) h = any-removed t u es e h

  pub lookup-promoted : (t u : K → Bool) (es : List (K × V)) → is_some (lookup t (promoted u es)) ≡ is_some (lookup t es)
  lookup-promoted t u es = none_by_any t (promoted u es) (any_key t es) (any-promoted t u es) ∙ sym (none_by_any t es (any_key t es) refl)
