-- What a proposal was made of.
use Rattle.std.proofs.Common.{◌≡◌, ◌&&◌, Bool, true, false, List, Option, Some, None, refl}
use Rattle.std.proofs.Common.{if◌then◌else◌}
use Rattle.exo_tree.specs.Tree.{Block}
use Rattle.exo_tree.specs.Places.{Path, Opened, opened}
use Rattle.affine_systems.specs.Outcomes.{Owed}
use Rattle.tree_findings.specs.declared.findings.Findings.{Findings}
use Rattle.tree_findings.specs.Classes.{both, all_kept}
use Rattle.tree_findings.specs.Findings.{findings_of_body, findings_of_version}
use Rattle.tree_edits.specs.Made.Ids.{next_id}
use Rattle.cursor_forward.specs.Causes.{Cause, WrongShape, OutOfScope, NameTaken, LimitPassed}
use Rattle.cursor_forward.specs.Proposals.{Plan}
use Rattle.step_rules.specs.Rule.{Tried, Got, Not, Target, Piece, Spot, AsMade, Simplified, Rule}
use Rattle.step_rules.specs.Owing.{shape_alone, owed_needs, findings_of_needs}
use Rattle.step_rules.specs.Answer.{then_try, unless, opened_or_wrong, broken}
use Rattle.step_rules.specs.Answer.{body_with, result, plan, answered, spot, proposed}

pub then_got : {T U : Type 0} (t : Tried T) (next : T → Tried U) (y : U) → then_try t next ≡ Got y
    → (x : T) × (t ≡ Got x) × (next x ≡ Got y)
then_got (Got x) next y h = (x, refl, h)
then_got (Not cause) next y h = cc

pub unless_got : {T : Type 0} (o : Option Cause) (rest : Tried T) (y : T)
    → unless o rest ≡ Got y → (o ≡ None) × (rest ≡ Got y)
unless_got None rest y h = (refl, h)
unless_got (Some cause) rest y h = cc

pub opened_got : (o : Option Opened) (p : Opened) → opened_or_wrong o ≡ Got p → o ≡ Some p
opened_got None p h = cc
opened_got (Some o) p h = cc

pub unbroken : {T : Type 0} (f : Findings) (rest : Tried T) (y : T)
    → unless (broken f) rest ≡ Got y → (all_kept f ≡ true) × (rest ≡ Got y)
unbroken {T} f rest y h = by f.rules f.scope f.names f.limits h
  where
    by : (a b c d : Bool)
        → unless (if a then (if b then (if c then (if d then None else Some LimitPassed) else Some
        NameTaken) else Some OutOfScope) else Some WrongShape) rest ≡ Got y
        → (((a && b) && (c && d)) ≡ true) × (rest ≡ Got y)
    by true true true true h = (refl, h)
    by true true true false h = cc
    by true true false d h = cc
    by true false c d h = cc
    by false b c d h = cc

same_plan : {m n : Plan} → Got m ≡ Got n → m ≡ n
same_plan h = cc

module _ (r : Rule) where
  -- from its spot on
  pub record IsAnswer (s : Spot) (m : Plan) : Type 0 where
    pub plain : Block
    pub draft : Block
    pub must : List Owed
    pub made : r.draft s AsMade (next_id s.target.proc) ≡ Got plain
    pub formed :
        all_kept (shape_alone (both (findings_of_body s.target.unit s.target.proc.params
        (body_with s plain)) (findings_of_needs s.target (r.needs s)))) ≡ true
    pub allowed : r.refusal s ≡ None
    pub drafted : r.draft s Simplified (next_id s.target.proc) ≡ Got draft
    pub owes : owed_needs s.target (r.needs s) ≡ Got must
    pub kept :
        all_kept (findings_of_version s.target.unit (next_id s.target.proc)
        (result r s (next_id s.target.proc) draft)) ≡ true
    pub is : plan r s (next_id s.target.proc) draft must ≡ m

  pub answer_of : (s : Spot) (m : Plan) → answered r s ≡ Got m → IsAnswer s m
  answer_of s m h =
      let base = next_id s.target.proc in
      let needed = findings_of_needs s.target (r.needs s) in
      let a = then_got (r.draft s AsMade base) _ m h in
      let shape = shape_alone (both (findings_of_body s.target.unit s.target.proc.params
      (body_with s a.0)) needed) in
      let b = unbroken shape _ m a.2 in
      let c = unless_got (r.refusal s) _ m b.1 in
      let d = then_got (r.draft s Simplified base) _ m c.1 in
      let e = then_got (owed_needs s.target (r.needs s)) _ m d.2 in
      let whole = findings_of_version s.target.unit base (result r s base d.0) in
      let f = unbroken whole _ m e.2 in
      record {
        plain = a.0;
        draft = d.0;
        must = e.0;
        made = a.1;
        formed = b.0;
        allowed = c.0;
        drafted = d.1;
        owes = e.1;
        kept = f.0;
        is = same_plan f.1;
      }

  -- and the whole
  pub record IsProposal (t : Target) (at : Path) (m : Plan) : Type 0 where
    pub piece : Piece
    pub o : Opened
    pub chosen : r.piece t at ≡ Got piece
    pub opens : opened piece.count piece.path t.proc.body ≡ Some o
    pub answer : IsAnswer (spot t piece o) m

  pub proposal_of : (t : Target) (at : Path) (m : Plan) → proposed r t at ≡ Got m
      → IsProposal t at m
  proposal_of t at m h =
      let a = then_got (r.piece t at) _ m h in
      let place = opened a.0.count a.0.path t.proc.body in
      let b = then_got (opened_or_wrong place) _ m a.2 in
      record {
        piece = a.0;
        o = b.0;
        chosen = a.1;
        opens = opened_got place b.0 b.1;
        answer = answer_of (spot t a.0 b.0) m b.2;
      }
