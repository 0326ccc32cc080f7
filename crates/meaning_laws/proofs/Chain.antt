-- Refinement along a derivation.
use Rattle.std.proofs.Common.{◌≡◌, Option, Some, None, refl, sym, ap, ◌∙◌, subst, true≢false}
use Rattle.std.specs.Prelude.{IsSome}
use Rattle.std.proofs.lemmas.List.Elements.{Contains-append_left, Contains-append_right}
use Rattle.exo_tree.specs.Tree.{Procedure}
use Rattle.exo_meaning.specs.State.{State}
use Rattle.exo_meaning.specs.Calls.{all_hold}
use Rattle.exo_meaning.specs.Run.{World}
use Rattle.exo_meaning.specs.Inputs.{IsAdmissible, run_procedure, AreArguments, is_buffer_of}
use Rattle.meaning_laws.specs.Chain.{HasHead, ChainLaw}
use Rattle.meaning_laws.proofs.Refined.{refined_on}

given : {A : Type 0} (o : Option A) → IsSome o → (a : A) × (o ≡ Some a)
given None h = absurd (true≢false (sym h))
given (Some a) h = (a, refl)

head_admissible : (world : World) (p q : Procedure) → HasHead p q → (s : State) → IsAdmissible world p s → IsAdmissible world q s
head_admissible world p q h s good = record {
  arguments = subst (AreArguments s.scene) h.0 good.arguments;
  no_others = λ x k. good.no_others x (ap (is_buffer_of x) h.0 ∙ k);
  cells = good.cells;
  tidy = good.tidy;
  fields = good.fields;
  asserts = ap (all_hold s.scene) (sym h.1) ∙ good.asserts;
}

pub chain_law : ChainLaw
chain_law world p q r but more head safe first second = record {
  cells = λ s t u good i j b there at.
      let good' = head_admissible world p q head s good in
      let m = given (run_procedure world q s) (safe s good') in
      refined_on (t.cells b at) (m.0.cells b at) (u.cells b at) (first.cells s t m.0 good i m.1 b there at) (second.cells s m.0 u good' m.1 j b there at);
  fields = λ s t u good i j f k.
      let good' = head_admissible world p q head s good in
      let m = given (run_procedure world q s) (safe s good') in
      first.fields s t m.0 good i m.1 f (λ c. k (Contains-append_left but more f c)) ∙ second.fields s m.0 u good' m.1 j f (λ c. k (Contains-append_right but more f c));
}
