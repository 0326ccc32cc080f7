-- The rule that exchanges sides is lawful.
use Rattle.std.proofs.Common.{◌≡◌, ℕ, ◌+ℤ◌, Bool, true, false, List, Option, Some, None, option_map, refl}
use Rattle.std.proofs.Common.{sym, ap, ◌∙◌, subst, if◌then◌else◌}
use Rattle.std.specs.Prelude.{nat_lt, option_and_then}
use Rattle.exo_tree.specs.Tree.{Control, Datum, Statement, Assign, Reduce, Config, Pass, If, For}
use Rattle.exo_tree.specs.Tree.{Alloc, View, Call, end, next}
use Rattle.exo_meaning.specs.Scene.{then_do}
use Rattle.exo_meaning.specs.Value.{Value, on_two}
use Rattle.exo_meaning.specs.State.{State, value, place, put}
use Rattle.exo_meaning.specs.Run.{World, run, step}
use Rattle.cursor_forward.specs.Search.Patterns.{ExprPattern}
use Rattle.tree_edits.specs.Made.Passes.{or_pass}
use Rattle.cursor_forward.specs.Shifts.{stays}
use Rattle.cursor_forward.specs.Forwards.{bone, Carries}
use Rattle.step_rules.specs.Lawful.{around, old, world_of, same, IsLawful, IsCarrying}
use Rattle.step_rules.specs.Shapes.{alone_in}
use Rattle.step_rules.proofs.Shapes.{made_of, alone_is, one_stays}
use Rattle.proc_laws.specs.Expression.Exchange.{Operation, matches, exchanged}
use Rattle.proc_laws.specs.Expression.Commute.{operation_of, commuted_by, commuted, commuted_statement}
use Rattle.proc_laws.specs.Expression.Commute.{commuted_alone, commute_rule}
use Rattle.proc_laws.proofs.OfExpression.Exchange.{values_kept}

-- what is found behind what is found
pub both_found : {T U : Type 0} (o : Option T) (f : T → Option U) (y : U)
    → option_and_then f o ≡ Some y → (x : T) × (o ≡ Some x) × (f x ≡ Some y)
both_found None f y h = cc
both_found (Some x) f y h = (x, refl, h)

-- what an image is of
pub image_of : {T U : Type 0} (f : T → U) (o : Option T) (y : U) → option_map f o ≡ Some y
    → (x : T) × (o ≡ Some x) × (f x ≡ y)
image_of f None y h = cc
image_of f (Some x) y h = (x, refl, cc)

commuted_value : (x : ExprPattern) (s : State) (e d : Datum) → commuted x e ≡ Some d
    → value s d ≡ value s e
commuted_value x s e d h =
    let o = both_found (operation_of x.form) (commuted_by x.nth e) d h in
    by o.0 (nat_lt x.nth (matches o.0 e)) o.2
  where
    by : (o : Operation) (t : Bool) → (if t then Some (exchanged o e x.nth) else None) ≡ Some d
        → value s d ≡ value s e
    by o true k = let is : exchanged o e x.nth ≡ d = cc in
        ap (value s) (sym is) ∙ values_kept o s e x.nth
    by o false k = cc

-- a store, and a reduction, by the value of the right side
abbrev assigned : ℕ → List Control → Option Value → State → Option State
assigned y is v s = then_do (place s.scene y is) (λ p. then_do v (λ w. put s (λ old. w) p))

abbrev reduced : ℕ → List Control → Option Value → State → Option State
reduced y is v s =
    then_do (place s.scene y is) (λ p. then_do v (λ w. put s (λ old. on_two ◌+ℤ◌ old w) p))

commuted_step : (world : World) (x : ExprPattern) (s : State) (a b : Statement)
    → commuted_statement x a ≡ Some b → step world a s ≡ step world b s
commuted_step world x s (Assign y is e) b h =
    let i = image_of (Assign y is) (commuted x e) b h in
    ap (λ v. assigned y is v s) (sym (commuted_value x s e i.0 i.1))
    ∙ ap (λ c. step world c s) i.2
commuted_step world x s (Reduce y is e) b h =
    let i = image_of (Reduce y is) (commuted x e) b h in
    ap (λ v. reduced y is v s) (sym (commuted_value x s e i.0 i.1))
    ∙ ap (λ c. step world c s) i.2
commuted_step world x s (Config f a) b h = cc
commuted_step world x s Pass b h = cc
commuted_step world x s (If c a d) b h = cc
commuted_step world x s (For i lo hi d) b h = cc
commuted_step world x s (Alloc y cell dims memory) b h = cc
commuted_step world x s (View y z coords) b h = cc
commuted_step world x s (Call k args) b h = cc

pub commute_is_lawful : (x : ExprPattern) → IsLawful (commute_rule x)
commute_is_lawful x = record {
  replaces = λ a is versions met. same (λ first u good come stands.
      let d = made_of (commuted_alone x (old a.spot)) (λ b. next b end) a.draft is.drafted in
      let found = both_found (alone_in (old a.spot)) (commuted_statement x) d.of d.found in
      ap (λ b. run (world_of a.spot) b u) (alone_is (old a.spot) found.0 found.1)
      ∙ ap (λ o. then_do o (run (world_of a.spot) end))
      (commuted_step (world_of a.spot) x u found.0 d.of found.2)
      ∙ ap (λ b. run (world_of a.spot) b u) d.made);
}

-- ---- the statement stays

commuted_bone : (x : ExprPattern) (a b : Statement) → commuted_statement x a ≡ Some b
    → bone a ≡ bone b
commuted_bone x (Assign y is e) b h = ap bone (image_of (Assign y is) (commuted x e) b h).2
commuted_bone x (Reduce y is e) b h = ap bone (image_of (Reduce y is) (commuted x e) b h).2
commuted_bone x (Config f a) b h = cc
commuted_bone x Pass b h = cc
commuted_bone x (If c a d) b h = cc
commuted_bone x (For i lo hi d) b h = cc
commuted_bone x (Alloc y cell dims memory) b h = cc
commuted_bone x (View y z coords) b h = cc
commuted_bone x (Call k args) b h = cc

pub commute_is_carrying : (x : ExprPattern) → IsCarrying (commute_rule x)
commute_is_carrying x = record {
  carries = λ a is.
      let d = made_of (commuted_alone x (old a.spot)) (λ b. next b end) a.draft is.drafted in
      let found = both_found (alone_in (old a.spot)) (commuted_statement x) d.of d.found in
      subst (λ b. Carries (stays 1) b (or_pass (around a.spot) a.draft))
      (sym (alone_is (old a.spot) found.0 found.1))
      (subst (λ b. Carries (stays 1) (next found.0 end) (or_pass (around a.spot) b)) d.made
      (one_stays (around a.spot) found.0 d.of (commuted_bone x found.0 d.of found.2)));
  apart = λ a is. refl;
}
