-- The fields of steps, one after the other.
use Rattle.std.proofs.Common.{◌≡◌, ◌==◌, ◌<◌, ◌+◌, ℕ, zero, suc, Bool, true, false, ◌&&◌, ◌||◌, if◌then◌else◌}
use Rattle.std.proofs.Common.{List, [], ◌∷◌, ◌++◌, length, get_or, Option, Some, None, refl, sym, ap, ◌∙◌, subst, arith}
use Rattle.std.specs.Prelude.{not, drop, map, option_map, slice_get, replicate}
use Rattle.exo_tree.specs.Tree.{Block, Procedure}
use Rattle.exo_tree.specs.Places.{Path}
use Rattle.config_state.specs.FieldSets.{contains, Marked, fields_where}
use Rattle.config_state.proofs.Sets.{drop_item, marked_same, marked_then, marked_none, fields_same}
use Rattle.config_laws.specs.Differing.{parent_in, step_fields, fields_since, from_parent}
use Rattle.config_laws.specs.Differing as law
use Rattle.config_laws.specs.FieldRule.{Side, is_listed, not_again, surely_from, fields_at_end}
use Rattle.config_live.specs.declared.origins.Origin.{Origin}
use Rattle.config_live.specs.Origins.{of_parent, origin}
use Rattle.config_live.proofs.Truths.{or_swap}
use Rattle.config_live.proofs.Ways.{length_none, none_in}

-- ---- a list gone over

left_then : (set : List Bool) (f d : ℕ) (more : Bool)
    → (((f == d) && not (contains set d)) || (more && not (contains set f)))
    ≡ (((f == d) || more) && not (contains set f))
left_then set f d more = go (f == d) refl
  where
    absorb : (a b : Bool) → (a || (b && a)) ≡ a
    absorb true b = refl
    absorb false true = refl
    absorb false false = refl

    same_number : (f == d) ≡ true → f ≡ d
    same_number e = grind arith

    go : (t : Bool) → (f == d) ≡ t
        → ((t && not (contains set d)) || (more && not (contains set f)))
        ≡ ((t || more) && not (contains set f))
    go true e =
        ap (λ x. not (contains set x) || (more && not (contains set f))) (sym (same_number e))
        ∙ absorb (not (contains set f)) more
    go false e = refl

pub left_next : (list : List ℕ) (k d : ℕ) (written old mid new : List Bool)
    → k < length list → d ≡ get_or list k d
    → Marked (λ f. (f == d) && not (contains written d)) old mid
    → Marked (λ f. is_listed f (drop (k + 1) list) && not (contains written f)) mid new
    → Marked (λ f. is_listed f (drop k list) && not (contains written f)) old new
left_next list k d written old mid new l i h j =
    marked_same
    (λ f. ((f == d) && not (contains written d)) || (is_listed f (drop (k + 1) list) && not (contains written f)))
    (λ f. is_listed f (drop k list) && not (contains written f)) old new
    (λ f m. left_then written f d (is_listed f (drop (k + 1) list))
    ∙ ap (λ x. is_listed f x && not (contains written f)) (sym (drop_item list k d l i)))
    (marked_then (λ f. (f == d) && not (contains written d))
    (λ f. is_listed f (drop (k + 1) list) && not (contains written f)) old mid new h j)

-- ---- the fields of a step

same_number : (f g : ℕ) → (f == g) ≡ true → f ≡ g
same_number f g e = grind arith

one_kept : (written : ℕ → Bool) (f g : ℕ) (more : Bool) (t : Bool) → (f == g) ≡ t → written g ≡ false
    → (t || (more && not (written f))) ≡ ((t || more) && not (written f))
one_kept written f g more true e w =
    sym (ap (λ x. not (written x)) (same_number f g e) ∙ ap not w)
one_kept written f g more false e w = refl

one_gone : (written : ℕ → Bool) (f g : ℕ) (more : Bool) (t : Bool) → (f == g) ≡ t → written g ≡ true
    → (more && not (written f)) ≡ ((t || more) && not (written f))
one_gone written f g more true e w =
    out more (written f) (ap written (same_number f g e) ∙ w)
  where
    out : (a b : Bool) → b ≡ true → (a && not b) ≡ not b
    out true b e = refl
    out false true e = refl
    out false false e = absurd (cc e)
one_gone written f g more false e w = refl

listed_one : (written : ℕ → Bool) (g f : ℕ) (fs : List ℕ)
    → is_listed f (not_again written fs) ≡ (is_listed f fs && not (written f))
    → (t : Bool) → written g ≡ t
    → is_listed f (if t then not_again written fs else g ∷ not_again written fs)
    ≡ ((f == g || is_listed f fs) && not (written f))
listed_one written g f fs rest true w =
    rest ∙ one_gone written f g (is_listed f fs) (f == g) refl w
listed_one written g f fs rest false w =
    ap (λ x. (f == g) || x) rest ∙ one_kept written f g (is_listed f fs) (f == g) refl w

listed_left : (written : ℕ → Bool) (fs : List ℕ) (f : ℕ)
    → is_listed f (not_again written fs) ≡ (is_listed f fs && not (written f))
listed_left written [] f = refl
listed_left written (g ∷ fs) f =
    listed_one written g f fs (listed_left written fs f) (written g) refl

pub step_marked : (ps : List Procedure) (body : Block) (place : Path) (side : Side) (fs : List ℕ)
    (written old new : List Bool)
    → ((f : ℕ) → f < length old → contains written f ≡ surely_from ps body place side f)
    → Marked (λ f. is_listed f fs && not (contains written f)) old new
    → Marked (λ f. is_listed f (fields_at_end ps body place side fs)) old new
step_marked ps body place side fs written old new same h =
    marked_same (λ f. is_listed f fs && not (contains written f))
    (λ f. is_listed f (fields_at_end ps body place side fs)) old new
    (λ f l. ap (λ x. is_listed f fs && not x) (same f l)
    ∙ sym (listed_left (surely_from ps body place side) fs f))
    h

-- ---- the steps one after the other

listed_both : (xs ys : List ℕ) (f : ℕ) → is_listed f (xs ++ ys) ≡ (is_listed f xs || is_listed f ys)
listed_both [] ys f = refl
listed_both (x ∷ xs) ys f = ap (λ z. (f == x) || z) (listed_both xs ys f) ∙ associate (f == x) (is_listed f xs) (is_listed f ys)
  where
    associate : (a b c : Bool) → (a || (b || c)) ≡ ((a || b) || c)
    associate true b c = refl
    associate false b c = refl

module _ (ps : List Procedure) (os : List law.Origin) (from : ℕ) where
  abbrev since : ℕ → ℕ → ℕ → Bool
  since n k f = is_listed f (fields_since ps os from n k)

  since_step : (n k j f : ℕ) → (k == from) ≡ false → parent_in os k ≡ Some j
      → since (suc n) k f ≡ (is_listed f (step_fields ps os k) || since n j f)
  since_step n k j f away e =
      ap (λ t. is_listed f (if t then [] else from_parent [] (parent_in os k) (λ j. fields_since ps os from n j ++ step_fields ps os k))) away
      ∙ ap (λ x. is_listed f (from_parent [] x (λ j. fields_since ps os from n j ++ step_fields ps os k))) e
      ∙ listed_both (fields_since ps os from n j) (step_fields ps os k) f
      ∙ or_swap (since n j f) (is_listed f (step_fields ps os k))

  pub since_on : (n k j : ℕ) (old mid new : List Bool)
      → (k == from) ≡ false → parent_in os k ≡ Some j
      → Marked (λ f. is_listed f (step_fields ps os k)) old mid
      → Marked (since n j) mid new
      → Marked (since (suc n) k) old new
  since_on n k j old mid new away e h i =
      marked_same (λ f. is_listed f (step_fields ps os k) || since n j f) (since (suc n) k) old new
      (λ f l. sym (since_step n k j f away e))
      (marked_then (λ f. is_listed f (step_fields ps os k)) (since n j) old mid new h i)

  pub none_left : (k : ℕ) (set : List Bool) → Marked (since zero k) set set
  none_left k set = marked_none set

  pub at_from : (n k : ℕ) (set : List Bool) → (k == from) ≡ true → Marked (since n k) set set
  at_from zero k set e = marked_none set
  at_from (suc n) k set e =
      marked_same (λ f. false) (since (suc n) k) set set
      (λ f l. sym (ap (λ t. is_listed f (if t then [] else from_parent [] (parent_in os k) (λ j. fields_since ps os from n j ++ step_fields ps os k))) e))
      (marked_none set)

  pub at_root : (n k : ℕ) (set : List Bool) → parent_in os k ≡ None → Marked (since n k) set set
  at_root zero k set e = marked_none set
  at_root (suc n) k set e =
      marked_same (λ f. false) (since (suc n) k) set set
      (λ f l. sym (root (k == from) f)) (marked_none set)
    where
      root : (t : Bool) (f : ℕ)
          → is_listed f (if t then [] else from_parent [] (parent_in os k) (λ j. fields_since ps os from n j ++ step_fields ps os k)) ≡ false
      root true f = refl
      root false f = ap (λ x. is_listed f (from_parent [] x (λ j. fields_since ps os from n j ++ step_fields ps os k))) e

-- ---- the fields of a step, by what is there

module _ (ps : List Procedure) (os : List law.Origin) (k : ℕ) where
  abbrev fields_of : Option law.Origin → Option Procedure → List ℕ
  fields_of None q = []
  fields_of (Some o) None = []
  fields_of (Some o) (Some q) = fields_at_end ps q.body o.place o.side o.fields

  fields_are : (o : Option law.Origin) (q : Option Procedure)
      → slice_get os k ≡ o → slice_get ps k ≡ q → step_fields ps os k ≡ fields_of o q
  fields_are None q e d =
      ap (λ (x : Option law.Origin). elim x as (λ x. List ℕ) [
        | None ↦ []
        | Some o ↦ elim (slice_get ps k) as (λ y. List ℕ) [
          | None ↦ []
          | Some q ↦ fields_at_end ps q.body o.place o.side o.fields
        ]
      ]) e
  fields_are (Some o) None e d =
      ap (λ (x : Option law.Origin). elim x as (λ x. List ℕ) [
        | None ↦ []
        | Some o ↦ elim (slice_get ps k) as (λ y. List ℕ) [
          | None ↦ []
          | Some q ↦ fields_at_end ps q.body o.place o.side o.fields
        ]
      ]) e
      ∙ ap (λ (y : Option Procedure). elim y as (λ y. List ℕ) [
        | None ↦ []
        | Some q ↦ fields_at_end ps q.body o.place o.side o.fields
      ]) d
  fields_are (Some o) (Some q) e d =
      ap (λ (x : Option law.Origin). elim x as (λ x. List ℕ) [
        | None ↦ []
        | Some o ↦ elim (slice_get ps k) as (λ y. List ℕ) [
          | None ↦ []
          | Some q ↦ fields_at_end ps q.body o.place o.side o.fields
        ]
      ]) e
      ∙ ap (λ (y : Option Procedure). elim y as (λ y. List ℕ) [
        | None ↦ []
        | Some q ↦ fields_at_end ps q.body o.place o.side o.fields
      ]) d

  pub no_origin : (set : List Bool) → slice_get os k ≡ None
      → Marked (λ f. is_listed f (step_fields ps os k)) set set
  no_origin set e =
      subst (λ z. Marked (λ f. is_listed f z) set set)
      (sym (fields_are None (slice_get ps k) e refl)) (marked_none set)

  pub no_procedure : (o : law.Origin) (set : List Bool)
      → slice_get os k ≡ Some o → slice_get ps k ≡ None
      → Marked (λ f. is_listed f (step_fields ps os k)) set set
  no_procedure o set e d =
      subst (λ z. Marked (λ f. is_listed f z) set set) (sym (fields_are (Some o) None e d))
      (marked_none set)

  pub both_there : (o : law.Origin) (q : Procedure) (old new : List Bool)
      → slice_get os k ≡ Some o → slice_get ps k ≡ Some q
      → Marked (λ f. is_listed f (fields_at_end ps q.body o.place o.side o.fields)) old new
      → Marked (λ f. is_listed f (step_fields ps os k)) old new
  both_there o q old new e d h =
      subst (λ z. Marked (λ f. is_listed f z) old new) (sym (fields_are (Some o) (Some q) e d)) h

-- ---- an origin that is there

pub origin_at : (xs : List Origin) (k : ℕ) (o : Origin) → k < length xs → o ≡ get_or xs k o
    → slice_get (map origin xs) k ≡ Some (origin o)
origin_at [] k o l e = absurd (omega arith)
origin_at (x ∷ xs) zero o l e = ap (λ z. Some (origin z)) (sym e)
origin_at (x ∷ xs) (suc k) o l e = origin_at xs k o (omega arith) e

-- the parent of a version that is there
pub parent_at : (xs : List Origin) (k : ℕ) (o : Origin) (x : Option ℕ) → k < length xs
    → o ≡ get_or xs k o → option_map of_parent o.parent ≡ x → x ≡ parent_in (map origin xs) k
parent_at xs k o x l i e =
    sym e
    ∙ sym (ap (λ (z : Option law.Origin). elim z [ None ↦ None | Some o ↦ o.parent ])
    (origin_at xs k o l i))

-- ---- the fields of a set that was empty

pub in_order : (n : ℕ) (test : ℕ → Bool) (new : List Bool)
    → Marked test (replicate n false) new
    → fields_where (length new) (contains new) ≡ fields_where n test
in_order n test new h =
    ap (λ m. fields_where m (contains new)) (h.same_length ∙ length_none n)
    ∙ fields_same zero n (contains new) test
    (λ f l. h.each f (let e = length_none n in omega arith) ∙ ap (λ x. x || test f) (none_in n f))
