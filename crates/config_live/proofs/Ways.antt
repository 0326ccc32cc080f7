-- Ways one after the other.
use Rattle.std.proofs.Common.{◌≡◌, ℕ, zero, suc, Bool, false, ◌&&◌, ◌||◌, List, [], length}
use Rattle.std.proofs.Common.{refl, sym, ap, ap₂, ◌∙◌, arith}
use Rattle.std.specs.Prelude.{not, replicate}
use Rattle.config_state.specs.FieldSets.{contains, Changed}
use Rattle.config_laws.specs.FieldRule.{is_listed}
use Rattle.config_live.specs.declared.way.Way.{Way}
use Rattle.config_live.specs.Ways.{nothing, IsField, Went, Goes, IsStart}
use Rattle.config_live.proofs.Truths.{or_none, and_all, or_more, read_then, added_then, taken_back, up_to}

pub still_field : (reads writes : ℕ → Bool) (old new : Way) (f : ℕ)
    → Went reads writes old new → IsField old f → IsField new f
still_field reads writes old new f h i = record {
  of_read = let e = h.same_read in let l = i.of_read in omega arith;
  of_written = let e = h.same_written in let l = i.of_written in omega arith;
}

pub went_then : (r v s w : ℕ → Bool) (old mid new : Way)
    → Went r v old mid → Went s w mid new
    → Went (λ f. r f || (s f && not (v f))) (λ f. v f || w f) old new
went_then r v s w old mid new h k = record {
  same_read = k.same_read ∙ h.same_read;
  same_written = k.same_written ∙ h.same_written;
  read = λ f i.
      k.read f (still_field r v old mid f h i)
      ∙ ap₂ (λ x y. x || (s f && not y)) (h.read f i) (h.written f i)
      ∙ read_then (contains old.read f) (r f) (s f) (v f) (contains old.written f);
  written = λ f i.
      k.written f (still_field r v old mid f h i)
      ∙ ap (λ x. x || w f) (h.written f i)
      ∙ or_more (contains old.written f) (v f) (w f);
  listed = λ l. k.listed (h.listed l);
}

pub went_as : (r s v w : ℕ → Bool) (old new : Way)
    → ((f : ℕ) → r f ≡ s f) → ((f : ℕ) → v f ≡ w f)
    → Went r v old new → Went s w old new
went_as r s v w old new e d h = record {
  same_read = h.same_read;
  same_written = h.same_written;
  read = λ f i. h.read f i ∙ ap (λ x. contains old.read f || (x && not (contains old.written f))) (e f);
  written = λ f i. h.written f i ∙ ap (λ x. contains old.written f || x) (d f);
  listed = h.listed;
}

pub went_none : (way : Way) → Went nothing nothing way way
went_none way = record {
  same_read = refl;
  same_written = refl;
  read = λ f i. sym (or_none (contains way.read f));
  written = λ f i. sym (or_none (contains way.written f));
  listed = λ l. l;
}

-- where nothing is written in the first part
pub reads_then : (r s w : ℕ → Bool) (old mid new : Way)
    → Went r nothing old mid → Went s w mid new → Went (λ f. r f || s f) w old new
reads_then r s w old mid new h k =
    went_as (λ f. r f || (s f && not false)) (λ f. r f || s f) (λ f. false || w f) w old new
    (λ f. ap (λ x. r f || x) (and_all (s f))) (λ f. refl)
    (went_then r nothing s w old mid new h k)

pub goes_then : (r v s w : ℕ → Bool) (old mid new : Way) (added more most : List ℕ)
    → Goes r v old mid added more → Goes s w mid new more most
    → Goes (λ f. r f || (s f && not (v f))) (λ f. v f || w f) old new added most
goes_then r v s w old mid new added more most h k = record {
  went = went_then r v s w old mid new h.went k.went;
  added = λ f i.
      k.added f (still_field r v old mid f h.went i)
      ∙ ap₂ (λ x y. x || (w f && not y)) (h.added f i) (h.went.written f i)
      ∙ added_then (is_listed f added) (v f) (w f) (contains old.written f);
}

pub goes_as : (r s v w : ℕ → Bool) (old new : Way) (added more : List ℕ)
    → ((f : ℕ) → r f ≡ s f) → ((f : ℕ) → v f ≡ w f)
    → Goes r v old new added more → Goes s w old new added more
goes_as r s v w old new added more e d h = record {
  went = went_as r s v w old new e d h.went;
  added = λ f i.
      h.added f i ∙ ap (λ x. is_listed f added || (x && not (contains old.written f))) (d f);
}

pub went_goes : (r : ℕ → Bool) (old new : Way) (added : List ℕ)
    → Went r nothing old new → Goes r nothing old new added added
went_goes r old new added h = record { went = h; added = λ f i. sym (or_none (is_listed f added)) }

pub goes_none : (way : Way) (added : List ℕ) → Goes nothing nothing way way added added
goes_none way added = went_goes nothing way way added (went_none way)

pub reads_goes : (r s w : ℕ → Bool) (old mid new : Way) (added more : List ℕ)
    → Went r nothing old mid → Goes s w mid new added more
    → Goes (λ f. r f || s f) w old new added more
reads_goes r s w old mid new added more h k =
    goes_as (λ f. r f || (s f && not false)) (λ f. r f || s f) (λ f. false || w f) w old new added more
    (λ f. ap (λ x. r f || x) (and_all (s f))) (λ f. refl)
    (goes_then r nothing s w old mid new added added more (went_goes r old mid added h) k)

-- ---- what is newly written is taken back

pub goes_back : (r w : ℕ → Bool) (old new : Way) (more : List ℕ) (left : List Bool)
    → Goes r w old new [] more
    → Changed (λ f held. held && not (is_listed f more)) new.written left
    → Went r nothing old (record new { written = left })
goes_back r w old new more left h c = record {
  same_read = h.went.same_read;
  same_written = c.same_length ∙ h.went.same_written;
  read = h.went.read;
  written = λ f i.
      c.each f (let e = h.went.same_written in let l = i.of_written in omega arith)
      ∙ ap₂ (λ x y. x && not y) (h.went.written f i) (h.added f i)
      ∙ taken_back (w f) (contains old.written f);
  listed = h.went.listed;
}

-- ---- writes that differ in what was written before

pub goes_up : (r v w : ℕ → Bool) (old new : Way) (had has : List ℕ)
    → ((f : ℕ) → IsField old f
    → (v f && not (contains old.written f)) ≡ (w f && not (contains old.written f)))
    → Goes r v old new had has → Goes r w old new had has
goes_up r v w old new had has e h = record {
  went = record {
    same_read = h.went.same_read;
    same_written = h.went.same_written;
    read = h.went.read;
    written = λ f i. h.went.written f i ∙ up_to (contains old.written f) (v f) (w f) (e f i);
    listed = h.went.listed;
  };
  added = λ f i. h.added f i ∙ ap (λ x. is_listed f had || x) (e f i);
}

-- ---- the beginning

pub length_none : (n : ℕ) → length (replicate n false) ≡ n
length_none zero = refl
length_none (suc n) = ap suc (length_none n)

pub none_in : (n f : ℕ) → contains (replicate n false) f ≡ false
none_in zero f = refl
none_in (suc n) zero = refl
none_in (suc n) (suc f) = none_in n f

pub start : (n : ℕ) (way : Way) → way.read ≡ replicate n false → way.written ≡ replicate n false
    → way.reads ≡ [] → IsStart n way
start n way r w e = record {
  all_read = ap length r ∙ length_none n;
  all_written = ap length w ∙ length_none n;
  none_read = λ f l. ap (λ s. contains s f) r ∙ none_in n f;
  none_written = λ f l. ap (λ s. contains s f) w ∙ none_in n f;
  none_listed = e;
}
