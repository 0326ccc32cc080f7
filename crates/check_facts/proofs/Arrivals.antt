-- The context of a place: of what the procedure begins with, and of the way.
use Rattle.std.proofs.Common.{◌≡◌, ℕ, zero, suc, List, [], ◌∷◌, ◌++◌, length, map, Option, Some, None, arith, refl, sym, ap, ◌∙◌, subst, Result, Ok, Err, IsErrAnd}
use Rattle.exo_tree.specs.Tree.{Block}
use Rattle.exo_tree.specs.Places.{Branch, Main, Else, Step, Path, Opened, into, past, opened, opened_in}
use Rattle.exo_tree.specs.PlainPlace.{step_taken}
use Rattle.exo_tree.specs.declared.place.Step as taken
use Rattle.exo_tree.specs.PlainProcedure.{procedure}
use Rattle.exo_tree.specs.PlainUnit.{program}
use Rattle.meaning_laws.specs.KnownFields.{at_entry}
use Rattle.affine_forms.specs.declared.error.FormError.{FormError}
use Rattle.affine_forms.specs.Formulas.{Formula}
use Rattle.affine_forms.specs.Outcomes.{IsWide}
use Rattle.affine_places.specs.Facts.{FieldFact}
use Rattle.check_facts.specs.Contexts.{formulas, all_fit, facts_at, facts_from, known_at_place, context_fits, ContextMade}
use Rattle.check_facts.specs.Walks.{telling_of, head_facts, round_facts, place_of}
use Rattle.check_facts.specs.declared.basis.Basis.{Basis}
use Rattle.check_facts.proofs.Adding.{Came}
use Rattle.check_facts.proofs.Openings.{here}

-- ---- the place

pub opened_first : (s : Step) (path : Path) (b : Block) (o : Opened) → opened 1 (s ∷ path) b ≡ Some o → opened_in 1 (s ∷ path) b ≡ Some o
opened_first s path b o e = go s.branch e
  where
    go : (t : Branch) → elim t [ Main ↦ opened_in 1 (s ∷ path) b | Else ↦ None ] ≡ Some o → opened_in 1 (s ∷ path) b ≡ Some o
    go Main h = h
    go Else h = cc

-- the branch of the first step is not looked at
pub any_branch : (s t : Step) (path : Path) (b : Block) → s.index ≡ t.index → opened_in 1 (s ∷ path) b ≡ opened_in 1 (t ∷ path) b
any_branch s t [] b e = ap (λ n. past n here b) e
any_branch s t (u ∷ path) b e = ap (λ n. past n (into u.branch (opened_in 1 (u ∷ path))) b) e

pub no_steps : (steps : List taken.Step) (path : Path) → length steps ≡ 0 → map step_taken steps ≡ path → path ≡ []
no_steps [] path h e = sym e
no_steps (s ∷ steps) path h e = absurd (omega arith)

-- each field has its value at entry
pub none_told : (f count : ℕ) → facts_from f count at_entry ≡ []
none_told f zero = refl
none_told f (suc count) = none_told (suc f) count

-- ---- the context

facts_parts : (g : Basis) (o : Option Opened) → facts_at (program g.unit.now) (procedure g.proc.now) o ≡ head_facts (procedure g.proc.now) ++ round_facts (telling_of g) o
facts_parts g None = refl
facts_parts g (Some o) = refl

pub context_refused : (r : Result (List Formula × List FieldFact) FormError) (e : FormError) (g : Basis) (path : Path) → IsErrAnd r (λ x. x ≡ e) → IsWide e (all_fit (program g.unit.now) (procedure g.proc.now) (head_facts (procedure g.proc.now) ++ round_facts (telling_of g) (place_of path g))) → ContextMade r (program g.unit.now) (procedure g.proc.now) path
context_refused (Ok t) e g path is w = absurd is
context_refused (Err x) e g path is w = subst (λ y. IsWide y (context_fits (program g.unit.now) (procedure g.proc.now) path)) (sym is) (subst (λ es. IsWide e (all_fit (program g.unit.now) (procedure g.proc.now) es)) (sym (facts_parts g (place_of path g))) w)

pub context_made : (g : Basis) (path : Path) (context : List Formula) (facts : List FieldFact) → Came g (head_facts (procedure g.proc.now) ++ round_facts (telling_of g) (place_of path g)) [] context → facts ≡ facts_from zero g.count (known_at_place (program g.unit.now) (procedure g.proc.now) (place_of path g)) → ContextMade (Ok (context, facts)) (program g.unit.now) (procedure g.proc.now) path
context_made g path context facts came made =
    let parts = facts_parts g (place_of path g) in (
      ap (all_fit (program g.unit.now) (procedure g.proc.now)) parts ∙ came.0,
      (
        came.1 ∙ ap (formulas (program g.unit.now) (procedure g.proc.now)) (sym parts),
        made ∙ ap (λ n. facts_from zero n (known_at_place (program g.unit.now) (procedure g.proc.now) (place_of path g))) g.counted,
      ),
    )
