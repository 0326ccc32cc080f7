-- A list parted at those that stand at a path, and the others in their place.
use Rattle.std.proofs.Common.{◌≡◌, ℕ, suc, ◌+◌, ◌<◌, Bool, true, false, not, cond, ◌||◌, List, []}
use Rattle.std.proofs.Common.{◌∷◌}
use Rattle.std.proofs.Common.{◌++◌, map, length, take, drop, if◌then◌else◌, append_assoc, refl, sym}
use Rattle.std.proofs.Common.{ap, ap₂}
use Rattle.std.proofs.Common.{◌∙◌, subst, arith}
use Rattle.std.specs.List.{list_any, position_or_len}
use Rattle.std.specs.Prelude.{Option, Some, None, IfSome}
use Rattle.std.proofs.lemmas.List.{take-map, drop-map, length-map}
use Rattle.exo_tree.specs.Places.{Path}
use Rattle.affine_systems.specs.Limits.{are_within}
use Rattle.affine_systems.specs.Outcomes.{Owed, plain_obligation}
use Rattle.affine_systems.specs.declared.obligation.Obligation.{Obligation}
use Rattle.schedule_laws.specs.Owed.Stores.{stands_at, behind_those, with_others_there}
use Rattle.schedule_run.specs.Spliced.{IsSpliced}

next : (n : ℕ) → 1 + n ≡ suc n
next n = omega arith

module _ (path : Path) where
  abbrev pub before : List Owed → ℕ
  before os = position_or_len (stands_at path) os

  abbrev pub there : List Owed → ℕ
  there os = position_or_len (λ o. not (stands_at path o)) os

  behind : (os : List Owed) → behind_those path os ≡ drop (there os) os
  behind [] = refl
  behind (o ∷ os) = by (stands_at path o) (behind os)
    where
      by : (t : Bool) → behind_those path os ≡ drop (there os) os
          → (if t then behind_those path os else o ∷ os)
          ≡ drop (cond (not (not t)) (1 + there os) 0) (o ∷ os)
      by true h = h ∙ ap (λ n. drop n (o ∷ os)) (sym (next (there os)))
      by false h = refl

  any_there : (os : List Owed) → before os < length os → list_any (stands_at path) os ≡ true
  any_there [] h = absurd (omega (arith, h))
  any_there (o ∷ os) h = by (stands_at path o) h (any_there os)
    where
      by : (t : Bool) → cond (not t) (1 + before os) 0 < suc (length os)
          → (before os < length os → list_any (stands_at path) os ≡ true)
          → (t || list_any (stands_at path) os) ≡ true
      by true h rest = refl
      by false h rest = rest (omega (arith, h))

  parted : (own os : List Owed) → before os < length os
      → with_others_there path own os
      ≡ take (before os) os ++ (own ++ behind_those path (drop (before os) os))
  parted own [] h = absurd (omega (arith, h))
  parted own (o ∷ os) h = by (stands_at path o) refl h (parted own os)
    where
      at_first : (t : Bool) → stands_at path o ≡ t → t ≡ true
          → behind_those path os ≡ behind_those path (o ∷ os)
      at_first t e k = sym (ap (λ b. if b then behind_those path os else o ∷ os) (e ∙ k))

      by : (t : Bool) → stands_at path o ≡ t → cond (not t) (1 + before os) 0 < suc (length os)
          → (before os < length os → with_others_there path own os
          ≡ take (before os) os ++ (own ++ behind_those path (drop (before os) os)))
          → (if t then own ++ behind_those path os else o ∷ with_others_there path own os)
          ≡ take (cond (not t) (1 + before os) 0) (o ∷ os)
          ++ (own ++ behind_those path (drop (cond (not t) (1 + before os) 0) (o ∷ os)))
      by true e h rest = ap (λ l. own ++ l) (at_first true e refl)
      by false e h rest =
          ap (λ l. o ∷ l) (rest (omega (arith, h)))
          ∙ ap (λ n. take n (o ∷ os) ++ (own ++ behind_those path (drop n (o ∷ os))))
          (sym (next (before os)))

  module _ (own kept front there' behind' made : List Obligation) where
    abbrev plain : List Obligation → List Owed
    plain os = map plain_obligation os

    pub is_spliced : (first count : ℕ) → first ≡ before (plain kept) → first < length kept
        → front ≡ take first kept → there' ≡ drop first kept → count ≡ there (plain there')
        → behind' ≡ drop count there' → are_within (plain made) ≡ true
        → plain made ≡ (plain front ++ plain own) ++ plain behind'
        → IsSpliced path (plain own) (plain kept) (plain made)
    is_spliced first count at less f t n b within is =
        let shorter : before (plain kept) < length (plain kept) =
        subst (λ k. k < length (plain kept)) at
        (subst (λ l. first < l) (sym (length-map kept plain_obligation)) less) in
        let fronts : plain front ≡ take (before (plain kept)) (plain kept) =
        ap plain f ∙ sym (take-map plain_obligation first kept)
        ∙ ap (λ k. take k (plain kept)) at in
        let theres : plain there' ≡ drop (before (plain kept)) (plain kept) =
        ap plain t ∙ sym (drop-map plain_obligation first kept)
        ∙ ap (λ k. drop k (plain kept)) at in
        let behinds : plain behind' ≡ behind_those path (drop (before (plain kept)) (plain kept)) =
        ap plain b ∙ sym (drop-map plain_obligation count there')
        ∙ ap (λ k. drop k (plain there')) n ∙ sym (behind (plain there'))
        ∙ ap (behind_those path) theres in
        record {
          some = any_there (plain kept) shorter;
          within = within;
          is =
              is ∙ append_assoc (plain front) (plain own) (plain behind')
              ∙ (λ i. fronts i ++ (plain own ++ behinds i))
              ∙ sym (parted (plain own) (plain kept) shorter);
        }

pub both_some : {X : Type 0} (o : Option X) {P Q R : X → Type 0} → IfSome o P → IfSome o Q
    → ((x : X) → P x → Q x → R x) → IfSome o R
both_some None p q f = tt
both_some (Some x) p q f = f x p q
