-- What names, entries and sizes of this crate say.
use Rattle.std.specs.Prelude.{ℕ, ◌==◌, ◌||◌, Bool, List, [], ◌∷◌, Option}
use Rattle.exo_tree.specs.PlainBinder.{binding}
use Rattle.exo_tree.specs.Tree.{Kind, Binder}
use Rattle.exo_meaning.specs.Units.{Named, Scope, is_text, field_kind}
use Rattle.exo_modes.specs.Sorts.{sort_meant}
use Rattle.tree_findings.specs.declared.scope.ScopeEntry.{ScopeEntry}
use Rattle.tree_findings.specs.declared.name.ScopeNames.{ScopeNames}

-- ---- scopes

abbrev pub named : ScopeEntry → Named
named e = record { binder = binding e.binder.now; sort = sort_meant e.sort }

-- the names of these entries before a scope: the last one is the innermost
abbrev pub scope_among : List ScopeEntry → Scope → Scope
scope_among [] scope = scope
scope_among (e ∷ es) scope = scope_among es (named e ∷ scope)

abbrev pub scope_in : List ScopeEntry → Scope
scope_in es = scope_among es []

-- the binder has the id or the name of another
abbrev pub clash : Binder → Named → Bool
clash x n = (x.id == n.binder.id) || is_text x.name n.binder.name

-- ---- names at a place

abbrev pub kinds_seen : ScopeNames → ℕ → Option Kind
kinds_seen names = field_kind names.fields.now

abbrev pub scope_seen : ScopeNames → Scope
scope_seen names = scope_in names.entries.now
