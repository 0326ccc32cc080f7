-- What is found of a tree: whether it keeps the rules, the scopes, the names and the limits.
use Rattle.std.specs.Prelude.{Bool, true, false, ◌&&◌, if◌then◌else◌, List, [], ◌∷◌, Option, None, Some}
use Rattle.exo_meaning.specs.Units.{Sort}
use Rattle.tree_findings.specs.declared.findings.Findings.{Findings}

-- all is kept
abbrev pub fine : Findings
fine = record { rules = true; scope = true; names = true; limits = true }

-- what both keep
abbrev pub both : Findings → Findings → Findings
both f g =
    record {
      rules = f.rules && g.rules;
      scope = f.scope && g.scope;
      names = f.names && g.names;
      limits = f.limits && g.limits;
    }

abbrev pub all_of : {A : Type 0} → (A → Findings) → List A → Findings
all_of found [] = fine
all_of found (a ∷ rest) = both (found a) (all_of found rest)

-- ---- one test

abbrev pub rule : Bool → Findings
rule kept = record fine { rules = kept }

abbrev pub limit : Bool → Findings
limit kept = record fine { limits = kept }

abbrev pub new_name : Bool → Findings
new_name is_new = record fine { names = is_new }

-- a use of a name: one that is not in scope breaks no rule
abbrev pub use_of : (Option Sort → Bool) → Option Sort → Findings
use_of suits None = record fine { scope = false }
use_of suits (Some sort) = rule (suits (Some sort))

-- ---- the answer

abbrev pub all_kept : Findings → Bool
all_kept f = (f.rules && f.scope) && (f.names && f.limits)

-- the rules of blocks, but for the names of binders
abbrev pub all_but_names : Findings → Bool
all_but_names f = (f.rules && f.scope) && f.limits

-- what stands for the first class that is broken, in the order of refusals
abbrev pub first_broken : {C : Type 0} → C → C → C → C → Findings → Option C
first_broken of_rules of_scope of_names of_limits f =
    if f.rules then
    (if f.scope then
    (if f.names then
    (if f.limits then None else Some of_limits)
    else Some of_names)
    else Some of_scope)
    else Some of_rules
