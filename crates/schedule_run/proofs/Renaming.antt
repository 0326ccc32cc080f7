-- What is made of a version by giving it another name, and what it owes.
use Rattle.std.proofs.Common.{◌≡◌, ◌+◌, ◌++◌, ℕ, zero, true, true≢false, not, List, [], ◌∷◌, Option}
use Rattle.std.proofs.Common.{Some, None}
use Rattle.std.proofs.Common.{refl, sym, ap, ◌∙◌, subst, arith}
use Rattle.std.specs.Prelude.{slice_get}
use Rattle.std.proofs.lemmas.Bool.{and_parts}
use Rattle.exo_tree.specs.Tree.{Block, end, next, Procedure, Program}
use Rattle.exo_tree.specs.Context.{Here, fill}
use Rattle.exo_meaning.specs.Units.{is_empty, is_short, IsUnit}
use Rattle.affine_systems.specs.declared.obligation.Obligation.{Obligation}
use Rattle.cursor_forward.specs.Causes.{Cause}
use Rattle.cursor_forward.specs.Proposals.{Plan}
use Rattle.cursor_forward.specs.Shifts.{at_index}
use Rattle.tree_edits.specs.Made.Ids.{next_id}
use Rattle.tree_edits.specs.Made.Names.{named_copies}
use Rattle.tree_edits.specs.Made.Passes.{or_pass}
use Rattle.tree_laws.specs.Findings.Versions.{ProcedureLaw, with_version}
use Rattle.tree_findings.specs.Classes.{both}
use Rattle.tree_findings.specs.Findings.{findings_of_body, findings_of_version}
use Rattle.step_rules.specs.Rule.{Got, Rule, Spot, Tried}
use Rattle.step_rules.specs.Owing.{findings_of_needs, shape_alone}
use Rattle.step_rules.specs.Answer.{body_with, broken, plan, result, spot, unless}
use Rattle.proc_laws.specs.Expression.Rename.{rename_rule}
use Rattle.schedule_laws.specs.Owed.Names.{OwnNamesStay}
use Rattle.schedule_laws.specs.Owed.Renamed.{OwesTheSame, renamed, RenamedOwesTheSame}
use Rattle.schedule_laws.specs.Versions.Versions.{Versions, version_at}
use Rattle.schedule_laws.specs.Versions.Lines.{target}
use Rattle.schedule_laws.specs.Operators.Calls.{procedure_call}
use Rattle.schedule_run.specs.Planned as plans
use Rattle.schedule_run.specs.Planned.{as_tried, planned, planned_on}
use Rattle.schedule_run.specs.Running.{AreKept}
use Rattle.schedule_run.proofs.Plans.{got_not, got_same}

unless_got : (o : Option Cause) (rest : Tried Plan) (m : Plan)
    → as_tried (unless o rest) ≡ plans.Got m → as_tried rest ≡ plans.Got m
unless_got None rest m h = h
unless_got (Some cause) rest m h = absurd (got_not h)

-- a body that is not empty is not changed where nothing is put before it
stays : (b : Block) → not (is_empty b) ≡ true → fill (Here b) (or_pass (Here b) end) ≡ b
stays end h = absurd (true≢false (sym h))
stays (next a b) h = refl

none_behind : (n : ℕ) → n + 0 ≡ n
none_behind n = omega arith

kept_as : (os : List Obligation) (u v : Program) (p q : Procedure) → OwesTheSame u p v q
    → AreKept os u p → AreKept os v q
kept_as os u v p q same kept = (same.fault ∙ kept.0, kept.1 ∙ sym same.owed)

module _ (law : RenamedOwesTheSame) (names : OwnNamesStay) (keeps : ProcedureLaw) (v : Versions)
    (k : ℕ)
    (name : List ℕ) (is : IsUnit v.unit) where
  module _ (p : Procedure) (there : version_at v k ≡ Some p) where
    abbrev r : Rule
    r = rename_rule name

    abbrev before_all : Spot
    before_all =
        spot (target v k p) (record { path = at_index 0; count = 0 })
        (record { around = Here p.body; piece = end })

    abbrev made : Procedure
    made = result r before_all (next_id p) end

    -- nothing else is tested: of the result as it is made, and then of its names and limits
    abbrev shape : Option Cause
    shape =
        broken (shape_alone (both (findings_of_body v.unit p.params (body_with before_all end))
        (findings_of_needs (target v k p) [])))

    abbrev limits : Option Cause
    limits = broken (findings_of_version v.unit (next_id p) made)

    abbrev answer : Tried Plan
    answer = Got (plan r before_all (next_id p) end [])

    plan_is : (m : Plan) → planned v k p (procedure_call r) ≡ plans.Got m
        → plan r before_all (next_id p) end [] ≡ m
    plan_is m h = got_same (unless_got limits answer m
        (unless_got shape (unless limits answer) m h))

    filled : not (is_empty p.body) ≡ true
    filled =
        (and_parts (not (is_empty p.body)) (is_short p.body) (keeps v.unit k p is there).filled).0

    body_is : made.body ≡ p.body
    body_is =
        (λ i. named_copies p (none_behind (next_id p) i) (stays p.body filled i))
        ∙ names v.unit k p is there

    made_is : made ≡ renamed name p
    made_is = λ i. record p { name = name; body = body_is i }

    pub renames : (os : List Obligation) → AreKept os v.unit p → (m : Plan)
        → planned v k p (procedure_call r) ≡ plans.Got m
        → AreKept os (with_version v.unit m.proc) m.proc
    renames os kept m h =
        let is_made : m.proc ≡ renamed name p =
        ap (λ (m : Plan). m.proc) (sym (plan_is m h)) ∙ made_is in
        subst (λ q. AreKept os (with_version v.unit q) q) (sym is_made)
        (kept_as os v.unit (with_version v.unit (renamed name p)) p (renamed name p)
        (law v.unit k p name is there) kept)

  pub renamed_owes : (os : List Obligation)
      → ((p : Procedure) → version_at v k ≡ Some p → AreKept os v.unit p)
      → (o : Option Procedure) → version_at v k ≡ o → (m : Plan)
      → planned_on v k (procedure_call (rename_rule name)) o ≡ plans.Got m
      → AreKept os (with_version v.unit m.proc) m.proc
  renamed_owes os kept None there m h = absurd (got_not h)
  renamed_owes os kept (Some p) there m h = renames p there os (kept p there) m h
