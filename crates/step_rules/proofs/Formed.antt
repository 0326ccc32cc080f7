-- What a body keeps is kept where its hole is.
use Rattle.std.proofs.Common.{◌≡◌, ℕ, Bool, true, false, ◌&&◌, Option, not, refl}
use Rattle.std.proofs.Common.{if◌then◌else◌}
use Rattle.exo_tree.specs.Tree.{Kind, Index, Statement, Pass, If, For, Block, end, next, joined}
use Rattle.exo_tree.specs.Context.{Context, Here, After, InLoop, InThen, InElse, fill, rest_of}
use Rattle.exo_meaning.specs.Calls.{Callee}
use Rattle.exo_meaning.specs.Run.{roots_after}
use Rattle.exo_meaning.specs.Units.{Scope, ControlName, with_name, is_empty, is_short, plainly}
use Rattle.exo_meaning.specs.Units.{with_fields}
use Rattle.meaning_laws.proofs.Substitute.{and_parts}
use Rattle.place_laws.specs.Scope.Holes.{roots_at}
use Rattle.tree_findings.specs.declared.findings.Findings.{Findings}
use Rattle.tree_findings.specs.Classes.{fine, both, rule, limit, all_kept}
use Rattle.tree_findings.specs.Findings.{found_in_binder, findings_of_control}
use Rattle.tree_findings.specs.Findings.{findings_of_condition}
use Rattle.tree_findings.specs.Findings.{findings_of_statement, findings_of_block, scope_behind}
use Rattle.tree_edits.specs.Made.Passes.{or_pass, is_alone}
use Rattle.step_rules.specs.Owing.{shape_alone}
use Rattle.step_rules.specs.Lawful.{found_scope_at}
use Rattle.step_rules.proofs.Found.{and_true}

abbrev pub HasShape : Findings → Type 0
HasShape f = all_kept (shape_alone f) ≡ true

pub shape_parts : (f g : Findings) → HasShape (both f g) → HasShape f × HasShape g
shape_parts f g h =
    let a = and_parts ((f.rules && g.rules) && (f.scope && g.scope)) (true && true) h in
    let b = and_parts (f.rules && g.rules) (f.scope && g.scope) a.0 in
    let r = and_parts f.rules g.rules b.0 in
    let s = and_parts f.scope g.scope b.1 in
    (and_true (and_true r.0 s.0) refl, and_true (and_true r.1 s.1) refl)

module _ (fields : ℕ → Option Kind) (memories : ℕ) (callees : ℕ → Option Callee) where
  abbrev found : Scope → (ℕ → ℕ) → Block → Findings
  found = findings_of_block fields memories callees

  abbrev found_step : Scope → (ℕ → ℕ) → Statement → Findings
  found_step = findings_of_statement fields memories callees

  pub formed_at : (c : Context) (b : Block) (scope : Scope) (root : ℕ → ℕ)
      → HasShape (found scope root (fill c b))
      → HasShape (found (found_scope_at c scope) (roots_at c root) (joined b (rest_of c)))
  formed_at (Here rest) b scope root h = h
  formed_at (After a c) b scope root h =
      formed_at c b (scope_behind a scope) (roots_after a root)
      (shape_parts (found_step scope root a)
      (found (scope_behind a scope) (roots_after a root) (fill c b)) h).1
  formed_at (InLoop i lo hi c rest) b scope root h =
      let body = fill c b in
      let inner = with_name scope i (ControlName Index) in
      let bounds =
      both (findings_of_control fields plainly scope lo) (findings_of_control fields plainly scope hi) in
      let last = both (limit (is_short body)) (found inner root body) in
      let p = shape_parts (found_step scope root (For i lo hi body)) (found scope root rest) h in
      let q = shape_parts (both (found_in_binder scope i) (rule (not (is_empty body))))
      (both bounds last) p.0 in
      let r = shape_parts bounds last q.1 in
      let t = shape_parts (limit (is_short body)) (found inner root body) r.1 in
      formed_at c b inner root t.1
  formed_at (InThen test c other rest) b scope root h =
      let body = fill c b in
      let head =
      both (findings_of_condition fields with_fields scope test) (rule (not (is_empty body))) in
      let one = both (limit (is_short body)) (found scope root body) in
      let two = both (limit (is_short other)) (found scope root other) in
      let p = shape_parts (found_step scope root (If test body other)) (found scope root rest) h in
      let q = shape_parts head (both one two) p.0 in
      let r = shape_parts one two q.1 in
      let t = shape_parts (limit (is_short body)) (found scope root body) r.0 in
      formed_at c b scope root t.1
  formed_at (InElse test other c rest) b scope root h =
      let body = fill c b in
      let head =
      both (findings_of_condition fields with_fields scope test) (rule (not (is_empty other))) in
      let one = both (limit (is_short other)) (found scope root other) in
      let two = both (limit (is_short body)) (found scope root body) in
      let p = shape_parts (found_step scope root (If test other body)) (found scope root rest) h in
      let q = shape_parts head (both one two) p.0 in
      let r = shape_parts one two q.1 in
      let t = shape_parts (limit (is_short body)) (found scope root body) r.1 in
      formed_at c b scope root t.1

  -- a `pass` does not matter
  pub passed_formed : (scope : Scope) (root : ℕ → ℕ) (c : Context) (b rest : Block)
      → HasShape (found scope root (joined (or_pass c b) rest))
      → HasShape (found scope root (joined b rest))
  passed_formed scope root c (next a b) rest h = by (is_alone c) h
    where
      by : (t : Bool)
          → HasShape (found scope root (joined (if t && false then next Pass end else next a b)
          rest))
          → HasShape (found scope root (next a (joined b rest)))
      by true h = h
      by false h = h
  passed_formed scope root c end rest h = by (is_alone c) h
    where
      by : (t : Bool)
          → HasShape (found scope root (joined (if t && true then next Pass end else end) rest))
          → HasShape (found scope root rest)
      by true h = (shape_parts fine (found scope root rest) h).1
      by false h = h
