-- What a walk has found, and what is left.
use Rattle.std.proofs.Common.{◌≡◌, ℕ, ◌≤◌, List, [], ◌∷◌, length, take, Option, refl, ap, sym, ◌∙◌, arith}
use Rattle.exo_tree.specs.Tree.{Kind, Statement, block}
use Rattle.exo_meaning.specs.Calls.{Callee}
use Rattle.exo_meaning.specs.Run.{roots_after}
use Rattle.exo_modes.specs.Aliases.{roots_in}
use Rattle.exo_modes.proofs.Walks.{kept_on}
use Rattle.tree_findings.specs.declared.findings.Findings.{Findings}
use Rattle.tree_findings.specs.declared.walk.ScopeWalk.{ScopeWalk}
use Rattle.tree_findings.specs.Classes.{fine, both}
use Rattle.tree_findings.specs.Findings.{scope_behind, findings_of_block, findings_of_statement}
use Rattle.tree_findings.specs.Seen.{scope_in}
use Rattle.tree_findings.specs.Walked.{walk_scope, walk_roots, Walked, IsBack}
use Rattle.tree_findings.proofs.Joined.{both_fine, both_turned}
use Rattle.tree_findings.proofs.Scopes.{taken_all}

-- on the way through a block: what is found so far with what is found in the rest is all, and what was known before is kept
pub record OnWay (kinds : ℕ → Option Kind) (memories : ℕ) (callees : ℕ → Option Callee) (first now : ScopeWalk) (found : Findings) (ss rest : List Statement) : Type 0 where
  pub all : both found (findings_of_block kinds memories callees (walk_scope now) (walk_roots now) (block rest)) ≡ findings_of_block kinds memories callees (walk_scope first) (walk_roots first) (block ss)
  pub entries : take (length first.entries.items) now.entries.items ≡ first.entries.items
  pub aliases : take (length first.aliases.items) now.aliases.items ≡ first.aliases.items
  pub many : length first.entries.items ≤ length now.entries.items
  pub more : length first.aliases.items ≤ length now.aliases.items

module _ (kinds : ℕ → Option Kind) (memories : ℕ) (callees : ℕ → Option Callee) where
  abbrev there : ScopeWalk → Statement → Findings
  there w a = findings_of_statement kinds memories callees (walk_scope w) (walk_roots w) a

  pub begun : (w : ScopeWalk) (ss : List Statement) → OnWay kinds memories callees w w fine ss ss
  begun w ss = record { all = refl; entries = taken_all w.entries.items; aliases = taken_all w.aliases.items; many = omega arith; more = omega arith }

  pub gone_on : (first now after : ScopeWalk) (found one : Findings) (ss left rest : List Statement) (a : Statement)
      → OnWay kinds memories callees first now found ss left → left ≡ a ∷ rest → one ≡ there now a → Walked now after a
      → OnWay kinds memories callees first after (both found one) ss rest
  gone_on first now after found one ss left rest a way is made walked =
      let e = kept_on (length first.entries.items) now.entries.items after.entries.items first.entries.items way.entries way.many walked.entries in
      let l = kept_on (length first.aliases.items) now.aliases.items after.aliases.items first.aliases.items way.aliases way.more walked.aliases in
      record {
        all = both_turned found one (findings_of_block kinds memories callees (walk_scope after) (walk_roots after) (block rest))
            ∙ (λ i. both found (both (made i) (findings_of_block kinds memories callees (walked.scope i) (walked.roots i) (block rest))))
            ∙ ap (λ ts. both found (findings_of_block kinds memories callees (walk_scope now) (walk_roots now) (block ts))) (sym is)
            ∙ way.all;
        entries = e.0;
        aliases = l.0;
        many = e.1;
        more = l.1;
      }

  pub gone : (first now : ScopeWalk) (found : Findings) (ss left : List Statement) → OnWay kinds memories callees first now found ss left → left ≡ []
      → found ≡ findings_of_block kinds memories callees (walk_scope first) (walk_roots first) (block ss)
  gone first now found ss left way none =
      sym (both_fine found)
      ∙ ap (λ ts. both found (findings_of_block kinds memories callees (walk_scope now) (walk_roots now) (block ts))) (sym none)
      ∙ way.all

-- nothing is bound
pub stays : (v w : ScopeWalk) (a : Statement) → IsBack v w → scope_behind a (walk_scope v) ≡ walk_scope v → roots_after a (walk_roots v) ≡ walk_roots v → Walked v w a
stays v w a back s r = record {
  scope = ap (λ es. scope_in es) back.entries ∙ sym s;
  roots = ap (λ as'. roots_in as') back.aliases ∙ sym r;
  entries = ap (take (length v.entries.items)) back.entries ∙ taken_all v.entries.items;
  aliases = ap (take (length v.aliases.items)) back.aliases ∙ taken_all v.aliases.items;
}

pub unmoved : (w : ScopeWalk) → IsBack w w
unmoved w = record { entries = refl; aliases = refl }
