-- A line asks one thing, and lines come to one end.
use Rattle.std.proofs.Common.{◌≡◌, ℕ, suc, List, true≢false, refl, sym, ap, ◌∙◌, subst}
use Rattle.schedule_text.specs.Tree as tree
use Rattle.schedule_calls.specs.Answers.{LinesAskOnce}
use Rattle.schedule_laws.specs.Versions.Versions.{Versions}
use Rattle.schedule_laws.specs.Versions.Lines.{Why, Act, Went, Refused, performed, Outcome, Stopped}
use Rattle.schedule_laws.specs.Operators.Operators.{act_of}
use Rattle.schedule_run.specs.Runs.{IsAct, asked, unknown, bad, LinesRun, ends, stops, goes}
use Rattle.schedule_run.specs.Laws.{LinesRunOnce}

pub went_same : {v w : Versions} → Went v ≡ Went w → v ≡ w
went_same h = cc

refused_same : {v w : Why} → Refused v ≡ Refused w → v ≡ w
refused_same h = cc

pub refused_went : {why : Why} {w : Versions} → Refused why ≡ Went w → ⊥
refused_went h = cc

module _ (once : LinesAskOnce) where
  act_once : (line : tree.Line) (a b : Act) → IsAct line a → IsAct line b → a ≡ b
  act_once _ _ _ (asked line r h) (asked _ s k) = ap act_of (once.request line r s h k)
  act_once _ _ _ (asked line r h) (unknown _ k) = absurd (once.unknown line r k h)
  act_once _ _ _ (asked line r h) (bad _ i k) = absurd (k r h)
  act_once _ _ _ (unknown line h) (asked _ s k) = absurd (once.unknown line s h k)
  act_once _ _ _ (unknown line h) (unknown _ k) = refl
  act_once _ _ _ (unknown line h) (bad _ i k) = absurd (true≢false (sym h ∙ i))
  act_once _ _ _ (bad line i h) (asked _ s k) = absurd (h s k)
  act_once _ _ _ (bad line i h) (unknown _ k) = absurd (true≢false (sym k ∙ i))
  act_once _ _ _ (bad line i h) (bad _ j k) = refl

  end_once : (k : ℕ) (lines : List tree.Line) (v : Versions) (a b : Outcome) → LinesRun k lines v a
      → LinesRun k lines v b → a ≡ b
  end_once _ _ _ _ _ (ends k v) (ends _ _) = refl
  end_once _ _ _ _ _ (stops k line more v a why is h) (stops _ _ _ _ b other js i) =
      ap (Stopped k) (refused_same (sym h ∙ ap (performed v) (act_once line a b is js) ∙ i))
  end_once _ _ _ _ _ (stops k line more v a why is h) (goes _ _ _ _ w b end js i rest) =
      absurd (refused_went (sym h ∙ ap (performed v) (act_once line a b is js) ∙ i))
  end_once _ _ _ _ _ (goes k line more v w a end is h rest) (stops _ _ _ _ b other js i) =
      absurd (refused_went (sym i ∙ ap (performed v) (act_once line b a js is) ∙ h))
  end_once _ _ _ _ _ (goes k line more v w a end is h rest) (goes _ _ _ _ x b other js i again) =
      let same : x ≡ w = went_same (sym i ∙ ap (performed v) (act_once line b a js is) ∙ h) in
      end_once (suc k) more w end other rest
      (subst (λ z. LinesRun (suc k) more z other) same again)

  pub lines_run_once : LinesRunOnce
  lines_run_once = record { act = act_once; end = end_once }
