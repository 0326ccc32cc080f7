-- Lists of fields, one part after the other.
use Rattle.std.proofs.Common.{◌≡◌, ◌==◌, ◌<◌, ◌≤◌, ◌+◌, ℕ, Bool, false, ◌||◌, List, [], ◌∷◌, ◌++◌, length, get_or}
use Rattle.std.proofs.Common.{sym, ap, ◌∙◌, subst, take, add-one}
use Rattle.std.proofs.lemmas.List.{drop_all, map-append, take_all}
use Rattle.std.proofs.Math.Seq.{take-suc}
use Rattle.std.specs.Prelude.{map, drop}
use Rattle.exo_tree.specs.declared.number.FieldId.{FieldId}
use Rattle.config_state.proofs.Sets.{drop_item}
use Rattle.config_laws.specs.FieldRule.{is_listed}
use Rattle.config_live.specs.Listed.{Listed}
use Rattle.config_live.proofs.Truths.{or_none, or_more}

pub put_last : (list : List ℕ) (g f : ℕ)
    → is_listed f (list ++ g ∷ []) ≡ (is_listed f list || f == g)
put_last [] g f = or_none (f == g)
put_last (h ∷ list) g f =
    ap (λ x. (f == h) || x) (put_last list g f) ∙ sym (or_more (f == h) (is_listed f list) (f == g))

pub listed_last : (list : List ℕ) (g : ℕ) → Listed (λ f. f == g) list (list ++ g ∷ [])
listed_last list g = record { each = put_last list g }

pub listed_push : (old inside new : List ℕ) (g : ℕ) → inside ≡ old → new ≡ inside ++ g ∷ []
    → Listed (λ f. f == g) old new
listed_push old inside new g e d =
    subst (λ z. Listed (λ f. f == g) z new) e
    (subst (λ z. Listed (λ f. f == g) inside z) (sym d) (listed_last inside g))

pub listed_as : (test other : ℕ → Bool) (old new : List ℕ)
    → ((f : ℕ) → test f ≡ other f) → Listed test old new → Listed other old new
listed_as test other old new same h = record {
  each = λ f. h.each f ∙ ap (λ t. is_listed f old || t) (same f);
}

pub listed_none : (list : List ℕ) → Listed (λ f. false) list list
listed_none list = record { each = λ f. sym (or_none (is_listed f list)) }

pub listed_then : (test more : ℕ → Bool) (old mid new : List ℕ)
    → Listed test old mid → Listed more mid new → Listed (λ f. test f || more f) old new
listed_then test more old mid new h k = record {
  each = λ f.
      k.each f ∙ ap (λ t. t || more f) (h.each f)
      ∙ or_more (is_listed f old) (test f) (more f);
}

-- ---- the items of a slice one after the other

module _ {X A : Type 0} (plain : X → A) (whole : List A → ℕ → Bool) (one : A → ℕ → Bool)
    (split : (a : A) (as' : List A) (f : ℕ) → whole (a ∷ as') f ≡ (one a f || whole as' f)) where
  pub items_listed : (xs : List X) (k : ℕ) (d : X) (list mid new : List ℕ)
      → k < length xs → d ≡ get_or xs k d
      → Listed (one (plain d)) list mid
      → Listed (whole (map plain (drop (k + 1) xs))) mid new
      → Listed (whole (map plain (drop k xs))) list new
  items_listed xs k d list mid new l i h j =
      listed_as (λ f. one (plain d) f || whole (map plain (drop (k + 1) xs)) f)
      (whole (map plain (drop k xs))) list new
      (λ f. sym (split (plain d) (map plain (drop (k + 1) xs)) f)
      ∙ ap (λ ys. whole (map plain ys) f) (sym (drop_item xs k d l i)))
      (listed_then (one (plain d)) (whole (map plain (drop (k + 1) xs))) list mid new h j)

pub items_done : {X A : Type 0} (plain : X → A) (whole : List A → ℕ → Bool)
    → ((f : ℕ) → whole [] f ≡ false)
    → (xs : List X) (k : ℕ) (list : List ℕ) → length xs ≤ k
    → Listed (whole (map plain (drop k xs))) list list
items_done plain whole none xs k list h =
    listed_as (λ f. false) (whole (map plain (drop k xs))) list list
    (λ f. sym (none f) ∙ ap (λ ys. whole (map plain ys) f) (sym (drop_all k xs h)))
    (listed_none list)

-- ---- numbers of fields

-- so many numbers, and the next one
pub numbers_on : (fields : List FieldId) (k : ℕ) (d : FieldId) (old new : List ℕ) → k < length fields
    → old ≡ map (λ (f : FieldId). f.0) (take k fields) → new ≡ old ++ (get_or fields k d).0 ∷ []
    → new ≡ map (λ (f : FieldId). f.0) (take (k + 1) fields)
numbers_on fields k d old new l h e =
    e
    ∙ ap (λ ns. ns ++ (get_or fields k d).0 ∷ []) h
    ∙ sym (ap (λ n. map (λ (f : FieldId). f.0) (take n fields)) (add-one k)
    ∙ ap (map (λ (f : FieldId). f.0)) (take-suc fields k d l)
    ∙ map-append (λ (f : FieldId). f.0) (take k fields) (get_or fields k d ∷ []))

pub numbers_all : (fields : List FieldId) (k : ℕ) (ns : List ℕ) → length fields ≤ k
    → ns ≡ map (λ (f : FieldId). f.0) (take k fields) → ns ≡ map (λ (f : FieldId). f.0) fields
numbers_all fields k ns l h = h ∙ ap (map (λ (f : FieldId). f.0)) (take_all k fields l)
