-- Where nothing of two lists is open, nothing of either is; and what is owed for a step is made of
-- constraints.
use Rattle.std.proofs.Common.{◌≡◌, ℕ, Bool, true, false, List, [], ◌∷◌, ◌++◌, Option, Some, None}
use Rattle.std.proofs.Common.{if◌then◌else◌, refl, ap, ◌∙◌, subst}
use Rattle.exo_tree.specs.Places.{Path}
use Rattle.affine_forms.specs.Formulas.{Formula}
use Rattle.affine_systems.specs.Systems.{failing_cases}
use Rattle.affine_systems.specs.Outcomes.{Owed}
use Rattle.affine_prover.specs.declared.answer.Verdict.{Verdict}
use Rattle.affine_prover.specs.declared.answer.Verdict.TheVariants as verdict
use Rattle.affine_prover.specs.Elimination.{elimination}
use Rattle.ob_check.specs.Answers.{is_refused}
use Rattle.check_facts.specs.Contexts.{context_of, context_fits}
use Rattle.exo_effects.specs.Accesses.{Access, accesses_of}
use Rattle.exo_effects.specs.Orders.{Order, order_of}
use Rattle.exo_effects.specs.Limits.{are_within, unless_refused}
use Rattle.exo_effects.specs.Conflicts as conflicts
use Rattle.exo_effects.specs.Conflicts.{Fault, ManySystems, Listing, Refuses, pair_fault}
use Rattle.exo_effects.specs.Conflicts.{past_these, clashing}
use Rattle.exo_meaning.specs.Orders.{Each}
use Rattle.unit_check.specs.Checked.{NotShown, first_open}
use Rattle.unit_check.proofs.Made.{IsMade, first_shown, each_both, made_cases, made_pair}
use Rattle.cursor_forward.specs.Causes.{FormFault, TooManySystems}
use Rattle.step_rules.specs.Rule.{Tried, Got, Target, Need, Says, Apart}
use Rattle.step_rules.specs.Owing.{claim_of, fact_text, owed_for, need_fault, refused}
use Rattle.step_rules.specs.Owing.{owed_behind, owed_needs, listed}

-- ---- two lists, one behind the other

none_open : (o : Owed) (os : List Owed) → elimination o.system ≡ verdict.Shown
    → first_open os ≡ None → first_open (o ∷ os) ≡ None
none_open o os h k =
    ap (λ (v : Verdict). if is_refused v then Some (NotShown o.what o.place v) else first_open os) h ∙ k

pub first_none : (xs ys : List Owed) → first_open (xs ++ ys) ≡ None → first_open xs ≡ None
first_none [] ys h = refl
first_none (x ∷ xs) ys h =
    let p = first_shown x (xs ++ ys) h in
    none_open x xs p.0 (first_none xs ys p.1)

pub second_none : (xs ys : List Owed) → first_open (xs ++ ys) ≡ None → first_open ys ≡ None
second_none [] ys h = h
second_none (x ∷ xs) ys h = second_none xs ys (first_shown x (xs ++ ys) h).1

-- what is listed of conflicts, behind what is owed already
module _ (fits : Bool) (ctx : List Formula) (order : Order) (place : Path) (base : ℕ) where
  made_unless : (f : Option Fault) (within : Bool) (rest : Listing) → Each IsMade (listed rest)
      → Each IsMade (listed (unless_refused Refuses ManySystems f within rest))
  made_unless (Some fault) within rest is = tt
  made_unless None true rest is = is
  made_unless None false rest is = tt

  made_pairs : (ps : List (Access × Access)) (os : List Owed) → Each IsMade os
      → Each IsMade (listed (conflicts.owed_behind fits ctx order place base os ps))
  made_pairs [] os is = is
  made_pairs (p ∷ ps) os is =
      let more = os ++ conflicts.owed_for ctx order place base p in
      made_unless (pair_fault fits ctx order place base p) (are_within more)
      (conflicts.owed_behind fits ctx order place base more ps)
      (made_pairs ps more
      (each_both IsMade os (conflicts.owed_for ctx order place base p) is
      (made_pair ctx order place base p)))

module _ (t : Target) where
  made_need : (n : Need) → Each IsMade (owed_for t n)
  made_need (Says path fact) =
      made_cases (fact_text t fact) path
      (failing_cases (context_of t.unit t.proc path) (claim_of t path fact))
  made_need (Apart path k) =
      let ctx = context_of t.unit t.proc path in
      let order = order_of k.first.loops k.second.loops k.order in
      let xs = accesses_of t.unit t.proc k.first.path k.first.count in
      let ys = accesses_of t.unit t.proc k.second.path k.second.count in
      made_pairs (context_fits t.unit t.proc path) ctx order path (past_these ctx order xs ys) (clashing xs ys) [] tt

  unrefused : (f : Option FormFault) (within : Bool) (rest : Tried (List Owed)) (must : List Owed)
      → unless_refused refused TooManySystems f within rest ≡ Got must → rest ≡ Got must
  unrefused (Some fault) within rest must h = cc
  unrefused None true rest must h = h
  unrefused None false rest must h = cc

  same_list : (os must : List Owed) → Got os ≡ Got must → os ≡ must
  same_list os must h = cc

  made_behind : (os : List Owed) (needs : List Need) (must : List Owed) → Each IsMade os
      → owed_behind t os needs ≡ Got must → Each IsMade must
  made_behind os [] must is h = subst (Each IsMade) (same_list os must h) is
  made_behind os (n ∷ ns) must is h =
      made_behind (os ++ owed_for t n) ns must
      (each_both IsMade os (owed_for t n) is (made_need n))
      (unrefused (need_fault t n) (are_within (os ++ owed_for t n))
      (owed_behind t (os ++ owed_for t n) ns) must h)

  pub needs_are_made : (needs : List Need) (must : List Owed) → owed_needs t needs ≡ Got must
      → Each IsMade must
  needs_are_made needs must h = made_behind [] needs must tt h
