-- Lists gone over field by field.
use Rattle.std.proofs.Common.{◌≡◌, ◌==◌, ◌<◌, ◌≤◌, ◌+◌, ℕ, zero, suc, Bool, true, false, ◌&&◌, ◌||◌, List, [], ◌∷◌, length, get_or}
use Rattle.std.proofs.Common.{refl, sym, ap, ◌∙◌, subst, arith}
use Rattle.std.proofs.lemmas.List.{drop_all}
use Rattle.std.specs.Prelude.{drop, not}
use Rattle.config_state.specs.FieldSets.{contains, Changed}
use Rattle.config_state.proofs.Sets.{drop_item}
use Rattle.config_laws.specs.FieldRule.{is_listed}
use Rattle.config_live.specs.declared.way.Way.{Way}
use Rattle.config_live.specs.Listed.{Listed}
use Rattle.config_live.specs.Ways.{nothing, Went, Goes}
use Rattle.config_live.proofs.Truths.{and_all}
use Rattle.config_live.proofs.Listed.{listed_as, listed_then, listed_none}
use Rattle.config_live.proofs.Ways.{went_as, went_none, reads_then, goes_as, goes_none, goes_then}

-- what stands at a place that is there does not go by what is answered elsewhere
at_any : (xs : List ℕ) (k a b : ℕ) → k < length xs → get_or xs k a ≡ get_or xs k b
at_any [] k a b l = absurd (omega arith)
at_any (x ∷ xs) zero a b l = refl
at_any (x ∷ xs) (suc k) a b l = at_any xs k a b (omega arith)

pub at_place : (xs : List ℕ) (k : ℕ) → k < length xs
    → get_or xs k 0 ≡ get_or xs k (get_or xs k 0)
at_place xs k l = at_any xs k 0 (get_or xs k 0) l

-- the next field of a list and those behind it
next_listed : (list : List ℕ) (k f : ℕ) (d : ℕ) → k < length list → d ≡ get_or list k d
    → is_listed f (drop k list) ≡ ((f == d) || is_listed f (drop (k + 1) list))
next_listed list k f d l i = ap (is_listed f) (drop_item list k d l i)

none_left : (list : List ℕ) (k f : ℕ) → length list ≤ k → is_listed f (drop k list) ≡ false
none_left list k f l = ap (is_listed f) (drop_all k list l)

-- ---- reads

pub read_next : (list : List ℕ) (k d : ℕ) (old mid new : Way) → k < length list → d ≡ get_or list k d
    → Went (λ f. f == d) nothing old mid
    → Went (λ f. is_listed f (drop (k + 1) list)) nothing mid new
    → Went (λ f. is_listed f (drop k list)) nothing old new
read_next list k d old mid new l i h j =
    went_as (λ f. (f == d) || is_listed f (drop (k + 1) list)) (λ f. is_listed f (drop k list))
    nothing nothing old new (λ f. sym (next_listed list k f d l i)) (λ f. refl)
    (reads_then (λ f. f == d) (λ f. is_listed f (drop (k + 1) list)) nothing old mid new h j)

pub read_end : (list : List ℕ) (k : ℕ) (way : Way) → length list ≤ k
    → Went (λ f. is_listed f (drop k list)) nothing way way
read_end list k way l =
    went_as nothing (λ f. is_listed f (drop k list)) nothing nothing way way
    (λ f. sym (none_left list k f l)) (λ f. refl) (went_none way)

-- ---- writes

pub write_next : (list : List ℕ) (k d : ℕ) (old mid new : Way) (had more has : List ℕ)
    → k < length list → d ≡ get_or list k d
    → Goes nothing (λ f. f == d) old mid had more
    → Goes nothing (λ f. is_listed f (drop (k + 1) list)) mid new more has
    → Goes nothing (λ f. is_listed f (drop k list)) old new had has
write_next list k d old mid new had more has l i h j =
    goes_as (λ f. false || (false && not (f == d))) nothing
    (λ f. (f == d) || is_listed f (drop (k + 1) list)) (λ f. is_listed f (drop k list))
    old new had has (λ f. refl) (λ f. sym (next_listed list k f d l i))
    (goes_then nothing (λ f. f == d) nothing (λ f. is_listed f (drop (k + 1) list))
    old mid new had more has h j)

pub write_end : (list : List ℕ) (k : ℕ) (way : Way) (had : List ℕ) → length list ≤ k
    → Goes nothing (λ f. is_listed f (drop k list)) way way had had
write_end list k way had l =
    goes_as nothing nothing nothing (λ f. is_listed f (drop k list)) way way had had
    (λ f. refl) (λ f. sym (none_left list k f l)) (goes_none way had)

-- ---- fields that are taken out of a set

out_then : (held same more : Bool)
    → ((held && not same) && not more) ≡ (held && not (same || more))
out_then true true more = refl
out_then true false more = refl
out_then false same more = refl

pub out_next : (list : List ℕ) (k d : ℕ) (old mid new : List Bool) → k < length list → d ≡ get_or list k d
    → Changed (λ f held. held && not (f == d)) old mid
    → Changed (λ f held. held && not (is_listed f (drop (k + 1) list))) mid new
    → Changed (λ f held. held && not (is_listed f (drop k list))) old new
out_next list k d old mid new l i h j = record {
  same_length = j.same_length ∙ h.same_length;
  each = λ f m.
      j.each f (subst (λ n. f < n) (sym h.same_length) m)
      ∙ ap (λ x. x && not (is_listed f (drop (k + 1) list))) (h.each f m)
      ∙ out_then (contains old f) (f == d) (is_listed f (drop (k + 1) list))
      ∙ ap (λ x. contains old f && not x) (sym (next_listed list k f d l i));
}

pub out_end : (list : List ℕ) (k : ℕ) (set : List Bool) → length list ≤ k
    → Changed (λ f held. held && not (is_listed f (drop k list))) set set
out_end list k set l = record {
  same_length = refl;
  each = λ f m.
      sym (ap (λ x. contains set f && not x) (none_left list k f l) ∙ and_all (contains set f));
}

-- ---- fields that are kept

both_in : (f d : ℕ) (more : Bool) (set : List Bool)
    → (((f == d) && contains set d) || (more && contains set f)) ≡ (((f == d) || more) && contains set f)
both_in f d more set = go (f == d) refl
  where
    go : (t : Bool) → (f == d) ≡ t
        → ((t && contains set d) || (more && contains set f)) ≡ ((t || more) && contains set f)
    go true e =
        ap (λ x. contains set x || (more && contains set f)) (sym (same_number e))
        ∙ absorb (contains set f) more
      where
        same_number : (f == d) ≡ true → f ≡ d
        same_number e = grind arith

        absorb : (a b : Bool) → (a || (b && a)) ≡ a
        absorb true b = refl
        absorb false true = refl
        absorb false false = refl
    go false e = refl

pub keep_next : (list : List ℕ) (k d : ℕ) (set : List Bool) (old mid new : List ℕ)
    → k < length list → d ≡ get_or list k d
    → Listed (λ f. (f == d) && contains set d) old mid
    → Listed (λ f. is_listed f (drop (k + 1) list) && contains set f) mid new
    → Listed (λ f. is_listed f (drop k list) && contains set f) old new
keep_next list k d set old mid new l i h j =
    listed_as
    (λ f. ((f == d) && contains set d) || (is_listed f (drop (k + 1) list) && contains set f))
    (λ f. is_listed f (drop k list) && contains set f) old new
    (λ f. both_in f d (is_listed f (drop (k + 1) list)) set
    ∙ ap (λ x. x && contains set f) (sym (next_listed list k f d l i)))
    (listed_then (λ f. (f == d) && contains set d)
    (λ f. is_listed f (drop (k + 1) list) && contains set f) old mid new h j)

pub keep_end : (list : List ℕ) (k : ℕ) (set : List Bool) (old : List ℕ) → length list ≤ k
    → Listed (λ f. is_listed f (drop k list) && contains set f) old old
keep_end list k set old l =
    listed_as (λ f. false) (λ f. is_listed f (drop k list) && contains set f) old old
    (λ f. sym (ap (λ x. x && contains set f) (none_left list k f l))) (listed_none old)
