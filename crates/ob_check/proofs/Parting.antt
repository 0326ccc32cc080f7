-- What is known of a list of obligations, with one part more.
use Rattle.std.proofs.Common.{◌≡◌, ℕ, suc, ◌+◌, Bool, true, false, cond, not, List, [], ◌∷◌, ◌++◌, map, length, Option, Some, None, All, refl, sym, ap, ◌∙◌, subst, arith, length-append}
use Rattle.std.specs.Prelude.{fold, filter, slice_get}
use Rattle.std.specs.List.{position_or_len}
use Rattle.std.proofs.lemmas.List.{map-append, length-map}
use Rattle.std.proofs.lemmas.List.Elements.{All-append, filter-append}
use Rattle.std.proofs.lemmas.List.Sums.{fold-append}
use Rattle.affine_forms.specs.Affine.{Constraints, HasNoIntegerPoint}
use Rattle.affine_forms.specs.System.{plain_system}
use Rattle.affine_systems.specs.declared.obligation.Obligation.{Obligation}
use Rattle.affine_prover.specs.declared.answer.Verdict.{Verdict}
use Rattle.affine_prover.specs.Elimination.{elimination}
use Rattle.ob_check.specs.declared.answer.Answer.{Answer}
use Rattle.ob_check.specs.declared.answer.Answer.TheVariants.{AllShown, First}
use Rattle.ob_check.specs.declared.cache.Cache.{Cache}
use Rattle.ob_check.specs.declared.parts.Parts.{Parts}
use Rattle.ob_check.specs.declared.pending.Pending.{Pending}
use Rattle.ob_check.specs.Systems.{systems_of}
use Rattle.ob_check.specs.Held.{held}
use Rattle.ob_check.specs.Parts.{AreTaken, ArePending}
use Rattle.ob_check.specs.Entries.{asked, is_missing}
use Rattle.ob_check.specs.Answers.{is_refused, answer_at, answer_of, joined_answer, ShownHasNoPoint}
use Rattle.ob_check.proofs.Holding.{is_missing-asked}

-- ---- the verdicts that wait

pub is_missing-all_asked : (ss : List Constraints) (es : List (Constraints × Verdict)) (s : Constraints) → is_missing (fold asked es ss) s ≡ is_missing es s
is_missing-all_asked [] es s = refl
is_missing-all_asked (t ∷ ss) es s = is_missing-all_asked ss (asked es t) s ∙ is_missing-asked es t s

filter-same : {X : Type 0} (p q : X → Bool) → ((x : X) → p x ≡ q x) → (xs : List X) → filter p xs ≡ filter q xs
filter-same p q same [] = refl
filter-same p q same (x ∷ xs) = ap (λ b. cond b (x ∷ filter p xs) (filter p xs)) (same x) ∙ ap (λ r. cond (q x) (x ∷ r) r) (filter-same p q same xs)

pub more_pending : (es : List (Constraints × Verdict)) (ss ts : List Constraints) (p q : Pending) → ArePending (filter (is_missing es) ss) p → ((ms : List Constraints) → ArePending ms p → ArePending (ms ++ filter (is_missing (fold asked es ss)) ts) q) → ArePending (filter (is_missing es) (ss ++ ts)) q
more_pending es ss ts p q was put =
    let same = filter-same (is_missing (fold asked es ss)) (is_missing es) (is_missing-all_asked ss es) ts in
    subst (λ ms. ArePending ms q)
    (ap (λ ms. filter (is_missing es) ss ++ ms) same ∙ sym (filter-append (is_missing es) ss ts))
    (put (filter (is_missing es) ss) was)

pub more_asked : (es before after : List (Constraints × Verdict)) (ss ts : List Constraints) → before ≡ fold asked es ss → after ≡ fold asked before ts → after ≡ fold asked es (ss ++ ts)
more_asked es before after ss ts was is = is ∙ ap (λ m. fold asked m ts) was ∙ sym (fold-append asked es ss ts)

-- ---- the answer

abbrev later : Answer → Answer
later a = joined_answer 1 AllShown a

answer-first : (v : Verdict) (vs : List Verdict) → is_refused v ≡ true → answer_of (v ∷ vs) ≡ First 0 v
answer-first v vs h = ap (λ b. let i = cond (not b) (1 + position_or_len is_refused vs) 0 in answer_at i (slice_get (v ∷ vs) i)) h

answer-later : (v : Verdict) (vs : List Verdict) → is_refused v ≡ false → answer_of (v ∷ vs) ≡ later (answer_of vs)
answer-later v vs h =
    ap (λ b. let i = cond (not b) (1 + position_or_len is_refused vs) 0 in answer_at i (slice_get (v ∷ vs) i)) h
    ∙ ap (λ i. answer_at i (slice_get (v ∷ vs) i)) (next (position_or_len is_refused vs))
    ∙ by (position_or_len is_refused vs) (slice_get vs (position_or_len is_refused vs))
  where
    next : (n : ℕ) → 1 + n ≡ suc n
    next n = omega arith

    by : (n : ℕ) (o : Option Verdict) → answer_at (suc n) o ≡ later (answer_at n o)
    by n None = refl
    by n (Some w) = ap (λ k. First k w) (omega arith)

later-joined : (n : ℕ) (a b : Answer) → joined_answer (suc n) (later a) b ≡ later (joined_answer n a b)
later-joined n AllShown AllShown = refl
later-joined n AllShown (First i v) = ap (λ k. First k v) (omega arith)
later-joined n (First i v) b = refl

joined-none : (b : Answer) → b ≡ joined_answer 0 AllShown b
joined-none AllShown = refl
joined-none (First i v) = ap (λ k. First k v) (omega arith)

answer-append : (vs ws : List Verdict) → joined_answer (length vs) (answer_of vs) (answer_of ws) ≡ answer_of (vs ++ ws)
answer-append [] ws = sym (joined-none (answer_of ws))
answer-append (v ∷ vs) ws = by (is_refused v) refl (answer-append vs ws) where
  by : (b : Bool) → is_refused v ≡ b → joined_answer (length vs) (answer_of vs) (answer_of ws) ≡ answer_of (vs ++ ws) → joined_answer (suc (length vs)) (answer_of (v ∷ vs)) (answer_of ws) ≡ answer_of (v ∷ (vs ++ ws))
  by true h rest = ap (λ a. joined_answer (suc (length vs)) a (answer_of ws)) (answer-first v vs h) ∙ sym (answer-first v (vs ++ ws) h)
  by false h rest =
      ap (λ a. joined_answer (suc (length vs)) a (answer_of ws)) (answer-later v vs h)
      ∙ later-joined (length vs) (answer_of vs) (answer_of ws)
      ∙ ap later rest
      ∙ sym (answer-later v (vs ++ ws) h)

pub more_exact : (e : Constraints → Verdict) (ss ts : List Constraints) (n : ℕ) (a b c : Answer) → n ≡ length ss → a ≡ answer_of (map e ss) → b ≡ answer_of (map e ts) → c ≡ joined_answer n a b → c ≡ answer_of (map e (ss ++ ts))
more_exact e ss ts n a b c count first second is =
    is
    ∙ ap (λ k. joined_answer k a b) (count ∙ sym (lengths ss))
    ∙ ap (λ x. joined_answer (length (map e ss)) x b) first
    ∙ ap (joined_answer (length (map e ss)) (answer_of (map e ss))) second
    ∙ answer-append (map e ss) (map e ts)
    ∙ ap answer_of (sym (map-append e ss ts))
  where
    lengths : (ss : List Constraints) → length (map e ss) ≡ length ss
    lengths ss = length-map ss e

pub more_shown : (ss ts : List Constraints) (n : ℕ) (a b c : Answer) → ShownHasNoPoint ss a → ShownHasNoPoint ts b → c ≡ joined_answer n a b → ShownHasNoPoint (ss ++ ts) c
more_shown ss ts n a b c first second is all = by a b first second (sym is ∙ all) where
  by : (a b : Answer) → ShownHasNoPoint ss a → ShownHasNoPoint ts b → joined_answer n a b ≡ AllShown → All HasNoIntegerPoint (ss ++ ts)
  by AllShown AllShown f s h = All-append HasNoIntegerPoint ss ts (f refl) (s refl)
  by AllShown (First i v) f s h = cc
  by (First i v) d f s h = cc

-- ---- one part more

pub one_more : (part : List Obligation) (before after n : ℕ) → n ≡ length part → after ≡ before + n → after ≡ before + length (systems_of part)
one_more part before after n h is = is ∙ ap (λ k. before + k) (h ∙ sym (length-map part (λ o. plain_system o.system)))

pub taken : (es : List (Constraints × Verdict)) (ss ts : List Constraints) (c d : Cache) (p q : Parts) (a : Answer) → AreTaken es ss c p → held d ≡ fold asked (held c) ts → ((ms : List Constraints) → ArePending ms p.pending → ArePending (ms ++ filter (is_missing (held c)) ts) q.pending) → q.count ≡ p.count + length ts → q.answer ≡ joined_answer p.count p.answer a → a ≡ answer_of (map elimination ts) → ShownHasNoPoint ts a → AreTaken es (ss ++ ts) d q
taken es ss ts c d p q a h looked pended counted joined exact shown = record {
  looked_up = more_asked es (held c) (held d) ss ts h.looked_up looked;
  pending = more_pending es ss ts p.pending q.pending h.pending (λ ms was. subst (λ m. ArePending (ms ++ filter (is_missing m) ts) q.pending) h.looked_up (pended ms was));
  count = counted ∙ ap (λ k. k + length ts) h.count ∙ sym (length-append ss ts);
  exact = more_exact elimination ss ts p.count p.answer a q.answer h.count h.exact exact joined;
  shown = more_shown ss ts p.count p.answer a q.answer h.shown shown joined;
}

-- ---- the parts of one list behind those of another

nothing_asked : (ss : List Constraints) → fold asked [] ss ≡ []
nothing_asked [] = refl
nothing_asked (s ∷ ss) = nothing_asked ss

pub appended : (ss ts : List Constraints) (c d : Cache) (p q r : Parts)
    → AreTaken [] ss c p → AreTaken [] ts d q
    → ((xs ys : List Constraints)
    → ArePending xs p.pending
    → ArePending ys q.pending
    → ArePending (xs ++ ys) r.pending)
    → r.count ≡ p.count + q.count
    → r.answer ≡ joined_answer p.count p.answer q.answer
    → AreTaken [] (ss ++ ts) c r
appended ss ts c d p q r h k pended counted joined = record {
  looked_up = h.looked_up ∙ nothing_asked ss ∙ sym (nothing_asked (ss ++ ts));
  pending =
      subst (λ ms. ArePending ms r.pending) (sym (filter-append (is_missing []) ss ts))
      (pended (filter (is_missing []) ss) (filter (is_missing []) ts) h.pending k.pending);
  count =
      counted
      ∙ ap (λ n. n + q.count) h.count
      ∙ ap (λ n. length ss + n) k.count
      ∙ sym (length-append ss ts);
  exact =
      more_exact elimination ss ts p.count p.answer q.answer r.answer h.count h.exact k.exact joined;
  shown = more_shown ss ts p.count p.answer q.answer r.answer h.shown k.shown joined;
}
