-- What holds of each entry of a cache, as its entries change.
use Rattle.std.proofs.Common.{◌≡◌, inl, inr, Bool, true, List, [], ◌∷◌, Contains, All, sym, subst}
use Rattle.std.specs.Prelude.{reverse}
use Rattle.std.specs.List.{AllByRecursion}
use Rattle.std.proofs.lemmas.List.{reverse-append}
use Rattle.std.proofs.lemmas.List.Elements.{All-contains, All-push, All-from_recursion, recursion_from_All}
use Rattle.lru.specs.LruCache.{LruCache, promoted, put_entries}
use Rattle.lru.proofs.CallerLemmas.{Contains-promoted, Contains-put_entries}
use Rattle.ob_check.proofs.Lists.{All-from_contains}

module _ {K V : Type 0} (P : K × V → Type 0) where
  pub All-promoted : (test : K → Bool) (es : List (K × V)) → All P es → All P (promoted test es)
  All-promoted test es all = All-from_contains P (promoted test es) (λ e h. All-contains P es e all (Contains-promoted test es e h))

  -- the pair that is put has the new value, under the new key or under one that equals it
  pub All-put : (eq : K → K → Bool) (c : LruCache K V) (k : K) (v : V) → All P c.entries → P (k, v) → ((j : K) → eq k j ≡ true → P (j, v)) → All P (put_entries eq c k v)
  All-put eq c k v all new same = All-from_contains P (put_entries eq c k v) by where
    by : (e : K × V) → Contains (put_entries eq c k v) e → P e
    by e h = elim (Contains-put_entries eq c k v e h) [
      | inl was ↦ All-contains P c.entries e all was
      | inr put ↦ subst (λ w. P (e.0, w)) (sym put.0) (elim put.1 [
        | inl at ↦ subst (λ j. P (j, v)) (sym at) new
        | inr at ↦ same e.0 at.2
      ])
    ]

module _ {X : Type 0} (P : X → Type 0) where
  All-reverse_each : (xs : List X) → AllByRecursion P xs → All P (reverse xs)
  All-reverse_each [] h = All-from_recursion P [] tt
  All-reverse_each (x ∷ xs) h = subst (All P) (sym (reverse-append (x ∷ []) xs)) (All-push P (reverse xs) x (All-reverse_each xs h.1) h.0)

  pub All-reverse : (xs : List X) → All P xs → All P (reverse xs)
  All-reverse xs h = All-reverse_each xs (recursion_from_All P xs h)
