-- How a proposal comes about.
use Rattle.std.proofs.Common.{◌≡◌, ◌≤◌, ℕ, Bool, true, false, List, Option}
use Rattle.std.proofs.Common.{Some, None, refl, sym, ap, ◌∙◌, true≢false, arith}
use Rattle.std.proofs.Math.Path.{fun_ext}
use Rattle.exo_tree.specs.Tree.{Statement, Block, end, next, Procedure}
use Rattle.exo_tree.specs.Places.{Path, Opened, parted, opened}
use Rattle.meaning_laws.proofs.Parts.{none_some, some_injective}
use Rattle.place_laws.specs.Scope.SamePlace.{start_of}
use Rattle.place_laws.proofs.OfScope.SamePlace.{same_place}
use Rattle.config_laws.specs.Surely.{surely_behind, unit_surely}
use Rattle.config_laws.specs.FieldRule.{Cause, Tried, Got, Not, then_try, Piece, Side, FieldRule}
use Rattle.config_laws.specs.FieldRule.{Proposed, opened_or_wrong, unless, with_fields, proposed}
use Rattle.config_laws.specs.FieldRule.{gap, surely_from, not_again, refused_if}

-- ---- answers

abbrev got : {T : Type 0} → Tried T → Bool
got (Got t) = true
got (Not cause) = false

pub not_got : {T : Type 0} {t : T} {cause : Cause} → Not cause ≡ Got t → ⊥
not_got e = true≢false (sym (ap got e))

abbrev got_or : {T : Type 0} → T → Tried T → T
got_or d (Got t) = t
got_or d (Not cause) = d

pub got_injective : {T : Type 0} (a b : T) → Got a ≡ Got b → a ≡ b
got_injective a b e = ap (got_or a) e

try_gives : {T U : Type 0} (x : Tried T) (f : T → Tried U) (u : U) → then_try x f ≡ Got u
    → (t : T) × (x ≡ Got t) × (f t ≡ Got u)
try_gives (Got t) f u e = (t, refl, e)
try_gives (Not cause) f u e = absurd (not_got e)

unless_gives : {T : Type 0} (o : Option Cause) (t u : T) → unless o t ≡ Got u
    → (o ≡ None) × (t ≡ u)
unless_gives None t u e = (refl, got_injective t u e)
unless_gives (Some cause) t u e = absurd (not_got e)

opened_gives : (o : Option Opened) (p : Opened) → opened_or_wrong o ≡ Got p → o ≡ Some p
opened_gives None p e = absurd (not_got e)
opened_gives (Some o) p e = ap Some (got_injective o p e)

-- nothing was refused
pub passed : (t : Bool) (cause : Cause) → refused_if t cause ≡ None → t ≡ false
passed true cause e = absurd (none_some (sym e))
passed false cause e = refl

pub record IsProposed (rule : FieldRule) (p : Procedure) (at : Path) (m : Proposed) : Type 0 where
  pub piece : Piece
  pub opens : Opened
  pub made : Block
  pub shape : rule.piece p at ≡ Got piece
  pub there : opened piece.count piece.path p.body ≡ Some opens
  pub drafted : rule.draft p opens ≡ Got made
  pub accepted : rule.refusal p opens ≡ None
  pub result : with_fields rule p piece opens made ≡ m

pub is_proposed : (rule : FieldRule) (p : Procedure) (at : Path) (m : Proposed)
    → proposed rule p at ≡ Got m → IsProposed rule p at m
is_proposed rule p at m e =
    let piece = try_gives (rule.piece p at) _ m e in
    let opens = try_gives (opened_or_wrong (opened piece.0.count piece.0.path p.body)) _ m
    piece.2 in
    let made = try_gives (rule.draft p opens.0) _ m opens.2 in
    let last = unless_gives (rule.refusal p opens.0)
    (with_fields rule p piece.0 opens.0 made.0) m made.2 in
    record {
      piece = piece.0;
      opens = opens.0;
      made = made.0;
      shape = piece.1;
      there = opened_gives (opened piece.0.count piece.0.path p.body) opens.0 opens.1;
      drafted = made.1;
      accepted = last.0;
      result = last.1;
    }

-- ---- what is opened

none_in : (b : Block) (p : Block × Block) → parted 0 b ≡ Some p → p.0 ≡ end
none_in b p e = sym (ap (λ (q : Block × Block). q.0) (some_injective (end, b) p e))

pub opened_none : (path : Path) (body : Block) (o : Opened) → opened 0 path body ≡ Some o
    → o.piece ≡ end
opened_none path body o e =
    let s = same_place 0 0 path body o least e in
    ap (λ (z : Opened). z.piece) (some_injective o (start_of o s.0) (sym e ∙ s.1.there))
    ∙ none_in o.piece s.0 s.1.parts
  where
    least : 0 ≤ 0
    least = omega arith

-- one statement
pub record IsOne (b : Block) : Type 0 where
  pub statement : Statement
  pub same : b ≡ next statement end

one_in : (b : Block) (p : Block × Block) → parted 1 b ≡ Some p → IsOne p.0
one_in end p e = absurd (none_some e)
one_in (next a b) p e =
    record {
      statement = a;
      same = sym (ap (λ (q : Block × Block). q.0) (some_injective (next a end, b) p e));
    }

pub opened_one : (path : Path) (body : Block) (o : Opened) → opened 1 path body ≡ Some o
    → IsOne o.piece
opened_one path body o e =
    let s = same_place 1 1 path body o least e in
    let one = one_in o.piece s.0 s.1.parts in
    record {
      statement = one.statement;
      same =
          ap (λ (z : Opened). z.piece) (some_injective o (start_of o s.0) (sym e ∙ s.1.there))
          ∙ one.same;
    }
  where
    least : 1 ≤ 1
    least = omega arith

-- ---- fields at the end

pub from_point : (ps : List Procedure) (body : Block) (at : Path) (side : Side) (f : ℕ)
    (o : Opened) → opened 0 (gap at side) body ≡ Some o
    → surely_from ps body at side f ≡ surely_behind (unit_surely ps) f o.around
from_point ps body at side f o e =
    ap (λ (z : Option Opened). elim z as (λ z. Bool) [
      | None ↦ false
      | Some o ↦ surely_behind (unit_surely ps) f o.around
    ]) e

pub fields_same : (v w : ℕ → Bool) (fs : List ℕ) → ((f : ℕ) → v f ≡ w f)
    → not_again v fs ≡ not_again w fs
fields_same v w fs h = ap (λ z. not_again z fs) (fun_ext h)
