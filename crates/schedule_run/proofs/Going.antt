-- How lines go on, and how `?` hands on why one is refused.
use Rattle.std.proofs.Common.{◌≡◌, ◌<◌, ◌≤◌, ◌+◌, ℕ, zero, suc, List, [], ◌∷◌, map, drop, length, get_or}
use Rattle.std.proofs.Common.{refl, sym, ap, ◌∙◌, subst, arith, add-one}
use Rattle.std.specs.Prelude.{Result, Ok, Err}
use Rattle.std.specs.Result.{IsErrAnd}
use Rattle.std.proofs.lemmas.Result.{err_from_is_err_and}
use Rattle.schedule_text.specs.Tree as tree
use Rattle.schedule_calls.specs.Requests.{Request}
use Rattle.schedule_calls.specs.Readings.{Asks}
use Rattle.schedule_calls.specs.Answers.{IsAnswer}
use Rattle.schedule_calls.specs.declared.request.LineFault.{LineFault}
use Rattle.schedule_calls.specs.declared.request.LineFault.TheVariants as fault
use Rattle.schedule_laws.specs.Operators.Operators.{act_of}
use Rattle.schedule_run.proofs.Plans.{says}
use Rattle.schedule_laws.specs.Versions.Versions.{Versions}
use Rattle.schedule_laws.specs.Versions.Lines.{Why, UnknownOperator, BadArguments, Act, Faulty, Progress, Went, Refused, performed, Outcome, Stopped}
use Rattle.schedule_run.specs.Runs.{IsAct, asked, unknown, bad, LinesRun, stops, goes}
use Rattle.schedule_run.specs.Planned.{Made, Not}
use Rattle.schedule_run.specs.PlainWhy.{Says, why_of_line}
use Rattle.schedule_run.specs.Outcomes.{Makes, Performs, RunsLine}
use Rattle.schedule_run.specs.declared.why.Why as memory

pub made_failed : {T X : Type 0} (plain : X → T) (made : Made T) (r : Result X memory.Why)
    (w : memory.Why) → IsErrAnd r (λ x. x ≡ w) → Says (λ y. made ≡ Not y) w → Makes plain made r
made_failed plain made r w h s =
    let p = err_from_is_err_and r h in
    subst (Makes plain made) (sym p.1)
    (subst (λ (x : memory.Why). Says (λ y. made ≡ Not y) x) (sym p.2) s)

pub performed_failed : {X : Type 0} (progress : Progress) (new : Versions) (r : Result X memory.Why)
    (w : memory.Why) → IsErrAnd r (λ x. x ≡ w) → Says (λ y. progress ≡ Refused y) w
    → Performs progress new r
performed_failed progress new r w h s =
    let p = err_from_is_err_and r h in
    subst (Performs progress new) (sym p.1)
    (subst (λ (x : memory.Why). Says (λ y. progress ≡ Refused y) x) (sym p.2) s)

pub dropped : {A B : Type 0} (f : A → B) (xs : List A) (k : ℕ) (x : A) → x ≡ get_or xs k x
    → k < length xs → drop k (map f xs) ≡ f x ∷ drop (k + 1) (map f xs)
dropped f [] k x e h = absurd (none k h)
  where
    none : (k : ℕ) → k < 0 → ⊥
    none k h = omega arith
dropped f (y ∷ xs) zero x e h = ap (λ z. f z ∷ map f xs) (sym e)
dropped f (y ∷ xs) (suc k) x e h =
    dropped f xs k x e (less (length xs) h) ∙ ap (λ n. f x ∷ drop n (map f (y ∷ xs))) (moved k)
  where
    less : (n : ℕ) → suc k < suc n → k < n
    less n h = omega arith

    moved : (k : ℕ) → suc (k + 1) ≡ suc k + 1
    moved k = omega arith

module _ (k : ℕ) (lines : List tree.Line) (line : tree.Line) (v : Versions)
    (here : drop k lines ≡ line ∷ drop (k + 1) lines) where
  pub goes_on : (w : Versions) (end : Outcome)
      → (a : Act) × IsAct line a × (performed v a ≡ Went w)
      → LinesRun (k + 1) (drop (k + 1) lines) w end
      → LinesRun k (drop k lines) v end
  goes_on w end a rest =
      subst (λ l. LinesRun k l v end) (sym here)
      (goes k line (drop (k + 1) lines) v w a.0 end a.1 a.2
      (subst (λ n. LinesRun n (drop (k + 1) lines) w end) (add-one k) rest))

  pub stops_here : (why : Why) → (a : Act) × IsAct line a × (performed v a ≡ Refused why)
      → LinesRun k (drop k lines) v (Stopped k why)
  stops_here why a =
      subst (λ l. LinesRun k l v (Stopped k why)) (sym here)
      (stops k line (drop (k + 1) lines) v a.0 why a.1 a.2)

pub past_all : {A B : Type 0} (f : A → B) (xs : List A) (k : ℕ) → length xs ≤ k
    → drop k (map f xs) ≡ []
past_all f [] zero h = refl
past_all f [] (suc k) h = refl
past_all f (x ∷ xs) zero h = absurd (none (length xs) h)
  where
    none : (n : ℕ) → suc n ≤ 0 → ⊥
    none n h = omega arith
past_all f (x ∷ xs) (suc k) h = past_all f xs k (less (length xs) h)
  where
    less : (n : ℕ) → suc n ≤ suc k → n ≤ k
    less n h = omega arith

-- ---- one line

abbrev Refuses : tree.Line → Versions → Why → Type 0
Refuses line v why = (a : Act) × IsAct line a × (performed v a ≡ Refused why)

refuses : (line : tree.Line) (r : Request) (v : Versions) → Asks line r → (why : Why)
    → performed v (act_of r) ≡ Refused why → Refuses line v why
refuses line r v h why p = (act_of r, asked line r h, p)

pub asked_runs : {X : Type 0} (line : tree.Line) (r : Request) (v new : Versions)
    (result : Result X memory.Why) → Asks line r → Performs (performed v (act_of r)) new result
    → RunsLine line v new result
asked_runs line r v new (Ok x) h p = (act_of r, asked line r h, p)
asked_runs line r v new (Err e) h p =
    says (λ y. performed v (act_of r) ≡ Refused y) (Refuses line v) (refuses line r v h) e p

unasked : (line : tree.Line) (v : Versions) (f : LineFault) → IsAnswer line (Err f)
    → Says (Refuses line v) (why_of_line f)
unasked line v fault.UnknownOperator h = (Faulty UnknownOperator, unknown line h, refl)
unasked line v fault.BadArguments h = (Faulty BadArguments, bad line h.0 h.1, refl)

pub unasked_runs : (line : tree.Line) (v : Versions) (f : LineFault) (e : memory.Why)
    → e ≡ why_of_line f → IsAnswer line (Err f) → Says (Refuses line v) e
unasked_runs line v f e is h =
    subst (λ (x : memory.Why). Says (Refuses line v) x) (sym is) (unasked line v f h)

-- the rest of a run
pub refused_runs : (k : ℕ) (lines : List tree.Line) (line : tree.Line) (first v : Versions)
    (all : List tree.Line) (e : memory.Why) → drop k lines ≡ line ∷ drop (k + 1) lines
    → ((end : Outcome) → LinesRun k (drop k lines) v end → LinesRun 0 all first end)
    → Says (Refuses line v) e → Says (λ why. LinesRun 0 all first (Stopped k why)) e
refused_runs k lines line first v all e here rest h =
    says (Refuses line v) (λ why. LinesRun 0 all first (Stopped k why))
    (λ why a. rest (Stopped k why) (stops_here k lines line v here why a)) e h
