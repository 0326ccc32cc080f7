-- What the cache holds behind a step, a line and lines.
use Rattle.std.proofs.Common.{◌≡◌, ◌+◌, ℕ, List, [], ◌∷◌, ◌++◌, drop, Some, refl, sym, ap, ◌∙◌, subst}
use Rattle.std.specs.Prelude.{Result, Ok, Err, OnOk}
use Rattle.affine_forms.specs.Affine.{Constraints}
use Rattle.affine_systems.specs.Outcomes.{Owed}
use Rattle.affine_prover.specs.declared.answer.Verdict.{Verdict}
use Rattle.ob_check.specs.Entries.{discharged}
use Rattle.unit_check.specs.Cached.{systems_in, discharged_all}
use Rattle.cursor_forward.specs.Proposals.{Plan}
use Rattle.schedule_text.specs.Tree as tree
use Rattle.schedule_calls.specs.Requests.{Request}
use Rattle.schedule_calls.specs.Readings.{Asks}
use Rattle.schedule_laws.specs.Operators.Operators.{act_of}
use Rattle.schedule_laws.specs.Versions.Versions.{Versions, version_of}
use Rattle.schedule_laws.specs.Versions.Lines.{Apply, Call, performed}
use Rattle.schedule_run.specs.Runs.{asked}
use Rattle.schedule_run.specs.Planned.{Got, planned_of}
use Rattle.schedule_run.specs.Outcomes.{Performs}
use Rattle.schedule_run.specs.Cached.{lists_for, lists_made, lists_called, lists_of, LinesOwe, no_line, one_line}
use Rattle.schedule_run.specs.Cached.{LineCached, LinesCached}
use Rattle.schedule_run.specs.declared.why.Why.{Why}

abbrev Entries : Type 0
Entries = List (Constraints × Verdict)

pub only_ok : {A E P : Type 0} (r : Result A E) → P → OnOk r P
only_ok (Ok x) p = p
only_ok (Err e) p = tt

-- ---- a step

pub two_lists : (es now new : Entries) (must owed os : List Owed) → now ≡ discharged es (systems_in must)
    → new ≡ discharged now (systems_in owed) → owed ≡ os → new ≡ discharged_all es (must ∷ os ∷ [])
two_lists es now new must owed os first second same =
    second
    ∙ ap (λ held. discharged held (systems_in owed)) first
    ∙ ap (λ l. discharged (discharged es (systems_in must)) (systems_in l)) same

-- a plan that is made owes its lists
pub lists_are : (v : Versions) (name of : List ℕ) (call : Call) (k : ℕ) (m : Plan) → version_of v of ≡ Some k
    → planned_of v call k ≡ Got m → lists_of v (Apply name of call) ≡ lists_for v m
lists_are v name of call k m there plan = ap (lists_called v call) there ∙ ap (lists_made v) plan

-- ---- a line

pub asked_cached : {X : Type 0} (line : tree.Line) (r : Request) (v new : Versions) (result : Result X Why)
    (before after : Entries) → Asks line r → Performs (performed v (act_of r)) new result
    → OnOk result (after ≡ discharged_all before (lists_of v (act_of r)))
    → OnOk result (LineCached line v new before after)
asked_cached line r v new (Ok x) before after h p c = (act_of r, asked line r h, p, c)
asked_cached line r v new (Err e) before after h p c = tt

-- ---- lines

lists_apart : (es : Entries) (xs ys : List (List Owed))
    → discharged_all es (xs ++ ys) ≡ discharged_all (discharged_all es xs) ys
lists_apart es [] ys = refl
lists_apart es (x ∷ xs) ys = lists_apart (discharged es (systems_in x)) xs ys

-- whatever lines from some on discharge, all lines discharge it behind what those before them do
abbrev pub RestCached : List tree.Line → Versions → Entries → List tree.Line → Versions → Entries → Type 0
RestCached all first es lines v now =
    (rest : List (List Owed)) → LinesOwe lines v rest
    → (lists : List (List Owed)) × LinesOwe all first lists
    × (discharged_all es lists ≡ discharged_all now rest)

pub none_dropped : {A : Type 0} (xs : List A) → drop 0 xs ≡ xs
none_dropped [] = refl
none_dropped (x ∷ xs) = refl

pub first_cached : (all : List tree.Line) (first v : Versions) (es : Entries) → v ≡ first
    → RestCached all first es (drop 0 all) v es
first_cached all first v es same rest h =
    let own = subst (λ l. LinesOwe l v rest) (none_dropped all) h in
    (rest, subst (λ w. LinesOwe all w rest) same own, refl)

pub line_behind : (all : List tree.Line) (first : Versions) (es : Entries) (k : ℕ) (lines : List tree.Line)
    (line : tree.Line) (v w : Versions) (now new : Entries) → drop k lines ≡ line ∷ drop (k + 1) lines
    → RestCached all first es (drop k lines) v now → LineCached line v w now new
    → RestCached all first es (drop (k + 1) lines) w new
line_behind all first es k lines line v w now new here before (a, is, went, held) rest h =
    let own = lists_of v a in
    let owe : LinesOwe (drop k lines) v (own ++ rest) =
    subst (λ l. LinesOwe l v (own ++ rest)) (sym here) (one_line line (drop (k + 1) lines) v w a rest is went h) in
    let so_far = before (own ++ rest) owe in
    (so_far.0, so_far.1, so_far.2 ∙ lists_apart now own rest ∙ ap (λ e. discharged_all e rest) (sym held))

pub lines_cached : (all : List tree.Line) (first : Versions) (es : Entries) (lines : List tree.Line) (v : Versions)
    (now : Entries) → lines ≡ [] → RestCached all first es lines v now → LinesCached all first es now
lines_cached all first es lines v now none h =
    let so_far = h [] (subst (λ l. LinesOwe l v []) (sym none) (no_line v)) in
    (so_far.0, so_far.1, sym so_far.2)
