-- What calls of operators plan, one question after the other.
use Rattle.std.proofs.Common.{◌≡◌, ℕ, List, [], ◌∷◌, refl, sym, ap, ◌∙◌, subst, Bool, true, false}
use Rattle.std.specs.Prelude.{◌&&◌, if◌then◌else◌, Option, Some, None}
use Rattle.std.specs.Option.{is_some}
use Rattle.exo_tree.specs.Tree.{ConfigField, Procedure}
use Rattle.cursor_forward.specs.Cursors.{Cursor}
use Rattle.cursor_forward.specs.Proposals.{Plan}
use Rattle.step_rules.specs.Rule.{Tried, Target, Rule}
use Rattle.step_rules.specs.Rule as step
use Rattle.step_rules.specs.Answer.{then_try, proposed}
use Rattle.schedule_calls.specs.Requests.{Asked}
use Rattle.schedule_laws.specs.Versions.Versions.{Versions}
use Rattle.schedule_laws.specs.Versions.Places.{Sought, Got, Lost, then_seek, sought}
use Rattle.schedule_laws.specs.Versions.Lines.{Why, UnknownName, target, Ruled, Call, all_sought}
use Rattle.schedule_laws.specs.Operators.Places.{statement_in}
use Rattle.schedule_laws.specs.Operators.Arguments.{number_or}
use Rattle.schedule_laws.specs.Operators.Calls.{ruled_at, place_call, statement_call, numbered_call}
use Rattle.schedule_run.specs.Planned as plans
use Rattle.schedule_run.specs.Planned.{Made, Not, then_make, as_found, as_tried, planned_by, planned}
use Rattle.schedule_run.specs.Planned.{place_at, if_known}
use Rattle.schedule_run.specs.PlainWhy.{Says}
use Rattle.schedule_run.specs.declared.why.Why as memory
use Rattle.schedule_run.proofs.Plans.{says, not_got, got_same, got_not, not_same}

-- ---- one after the other

pub then_not : {A B : Type 0} (m : Made A) (next : A → Made B) (w : Why) → m ≡ Not w
    → then_make m next ≡ Not w
then_not (plans.Got x) next w h = absurd (not_got h)
then_not (Not u) next w h = ap (λ w. Not w) (not_same u w h)

pub then_got : {A B : Type 0} (m : Made A) (next : A → Made B) (x : A) → m ≡ plans.Got x
    → then_make m next ≡ next x
then_got (plans.Got y) next x h = ap next (got_same h)
then_got (Not u) next x h = absurd (got_not h)

pub known_true : (b : Bool) → if_known b ≡ plans.Got tt → b ≡ true
known_true true h = refl
known_true false h = absurd (got_not h)

-- two questions, one after the other

pub both_known : (a b : Bool) → if_known a ≡ plans.Got tt → if_known b ≡ plans.Got tt
    → if_known (a && b) ≡ plans.Got tt
both_known true b h k = k
both_known false b h k = h

pub first_unknown : (a b : Bool) (e : memory.Why) → Says (λ w. if_known a ≡ Not w) e
    → Says (λ w. if_known (a && b) ≡ Not w) e
first_unknown true b e h =
    says (λ w. if_known true ≡ Not w) (λ w. if_known b ≡ Not w) (λ w i. absurd (not_got i)) e h
first_unknown false b e h = h

pub second_unknown : (a b : Bool) → if_known a ≡ plans.Got tt → (e : memory.Why)
    → Says (λ w. if_known b ≡ Not w) e → Says (λ w. if_known (a && b) ≡ Not w) e
second_unknown true b h e k = k
second_unknown false b h e k = absurd (got_not h)

-- ---- what a call plans at a place, one question after the other

module _ {T : Type 0} (v : Versions) (k : ℕ) (p : Procedure) (named : Versions → Bool) (at : Asked)
    (stands : Cursor → Tried T) (rule : Versions → Target → T → Ruled) where
  abbrev pub asked : Call
  asked = place_call named at stands rule

  -- by a rule where it is ruled
  abbrev pub made_by : Target → T → Made Plan
  made_by t x = as_tried (proposed (rule v t x).rule t (rule v t x).at)

  abbrev made_there : T → Made Plan
  made_there = made_by (target v k p)

  by_place : (place : Tried T)
      → then_make (as_tried (then_try place (λ x. step.Got (rule v (target v k p) x))))
      (λ r. as_tried (proposed r.rule (target v k p) r.at))
      ≡ then_make (as_tried place) made_there
  by_place (step.Got x) = refl
  by_place (step.Not cause) = refl

  by_cursor : (s : Sought Cursor)
      → then_make (as_found (then_seek s (λ c. Got (c ∷ [])))) (planned_by v k p asked)
      ≡ then_make (then_make (as_found s) (λ c. as_tried (stands c))) made_there
  by_cursor (Lost m) = refl
  by_cursor (Got c) = by_place (stands c)

  named_is : (b : Bool) (made all : Made Plan) → made ≡ all
      → (if b then made else Not UnknownName) ≡ then_make (if_known b) (λ x. all)
  named_is true made all h = h
  named_is false made all h = refl

  asked_is : planned v k p asked
      ≡ then_make (if_known (named v)) (λ x. then_make (place_at v k at stands) made_there)
  asked_is = named_is (named v) _ _ (by_cursor (sought v k at))

  pub asked_unknown : (e : memory.Why) → Says (λ w. if_known (named v) ≡ Not w) e
      → Says (λ w. planned v k p asked ≡ Not w) e
  asked_unknown e h =
      says (λ w. if_known (named v) ≡ Not w) (λ w. planned v k p asked ≡ Not w)
      (λ w i.
      asked_is ∙ then_not (if_known (named v)) (λ x. then_make (place_at v k at stands) made_there) w i) e h

  known_then : if_known (named v) ≡ plans.Got tt
      → planned v k p asked ≡ then_make (place_at v k at stands) made_there
  known_then known =
      asked_is
      ∙ then_got (if_known (named v)) (λ x. then_make (place_at v k at stands) made_there) tt known

  pub asked_lost : if_known (named v) ≡ plans.Got tt → (e : memory.Why)
      → Says (λ w. place_at v k at stands ≡ Not w) e → Says (λ w. planned v k p asked ≡ Not w) e
  asked_lost known e h =
      says (λ w. place_at v k at stands ≡ Not w) (λ w. planned v k p asked ≡ Not w)
      (λ w i. known_then known ∙ then_not (place_at v k at stands) made_there w i) e h

  -- in a target that is the version of that number
  pub asked_there : (t : Target) → t ≡ target v k p → if_known (named v) ≡ plans.Got tt → (x : T)
      → place_at v k at stands ≡ plans.Got x → planned v k p asked ≡ made_by t x
  asked_there t same known x h =
      known_then known ∙ then_got (place_at v k at stands) made_there x h
      ∙ ap (λ (t : Target). made_by t x) (sym same)

-- a test of the fields of a target is one of those of the versions
pub known_in : (v : Versions) (k : ℕ) (p : Procedure) (t : Target) → t ≡ target v k p
    → (test : List ConfigField → Bool) → if_known (test t.unit.fields) ≡ plans.Got tt
    → if_known (test v.unit.fields) ≡ plans.Got tt
known_in v k p t same test h =
    subst (λ (t : Target). if_known (test t.unit.fields) ≡ plans.Got tt) same h

pub unknown_in : (v : Versions) (k : ℕ) (p : Procedure) (t : Target) → t ≡ target v k p
    → (test : List ConfigField → Bool) (e : memory.Why)
    → Says (λ w. if_known (test t.unit.fields) ≡ Not w) e
    → Says (λ w. if_known (test v.unit.fields) ≡ Not w) e
unknown_in v k p t same test e h =
    subst (λ (t : Target). Says (λ w. if_known (test t.unit.fields) ≡ Not w) e) same h

-- ---- by the number of what is named

module _ (v : Versions) (k : ℕ) (p : Procedure) (number : Versions → Option ℕ) (at : Asked)
    (r : ℕ → Rule) where
  abbrev ruled : Option ℕ → List Cursor → Tried Ruled
  ruled o cs = ruled_at statement_in (λ path. record { rule = r (number_or o); at = path }) cs

  abbrev by_number : Option ℕ → Made Plan
  by_number o =
      if is_some o
      then then_make (as_found (all_sought v k (at ∷ []))) (λ cs.
      then_make (as_tried (ruled o cs)) (λ r. as_tried (proposed r.rule (target v k p) r.at)))
      else Not UnknownName

  pub numbered_there : (n : ℕ) → number v ≡ Some n
      → planned v k p (numbered_call number at r) ≡ planned v k p (statement_call at (r n))
  numbered_there n h = ap by_number h

  pub numbered_lost : number v ≡ None → planned v k p (numbered_call number at r) ≡ Not UnknownName
  numbered_lost h = ap by_number h
