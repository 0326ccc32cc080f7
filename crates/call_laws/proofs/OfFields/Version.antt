-- The rule that calls a version is lawful, and carries the call.
use Rattle.std.proofs.Common.{◌≡◌, ◌≤◌, ◌+◌, ℕ, zero, suc, Bool, true, false, List, ◌∷◌, Option}
use Rattle.std.proofs.Common.{Some, None, refl, sym, ap, ◌∙◌, subst, if◌then◌else◌, arith, lt-ltb}
use Rattle.std.specs.Prelude.{length, nat_lt}
use Rattle.std.specs.List.{list_all}
use Rattle.exo_tree.specs.Tree.{Argument, Statement, Assign, Reduce, Config, Pass, If, For, Alloc}
use Rattle.exo_tree.specs.Tree.{View, Call, Block, end, next}
use Rattle.exo_tree.specs.Context.{Here}
use Rattle.exo_tree.specs.Places.{first_of}
use Rattle.exo_tree.specs.Renaming.{binders}
use Rattle.config_state.specs.FieldSets.{fields_from}
use Rattle.config_laws.specs.FieldRule as config
use Rattle.config_laws.specs.CallEqv.{version_called, version_fields, call_eqv}
use Rattle.config_laws.proofs.Rules.{call_eqv_refines}
use Rattle.tree_edits.specs.Made.Passes.{or_pass}
use Rattle.cursor_forward.specs.Forwards.{Carries}
use Rattle.step_rules.specs.Rule.{Target}
use Rattle.step_rules.specs.Lawful.{Site, IsSite, around, old, IsLawful, IsCarrying}
use Rattle.step_rules.proofs.Found.{and_true}
use Rattle.step_rules.proofs.Shapes.{or_pass_next}
use Rattle.call_laws.specs.Fields.FieldRules.{are_fields, moved_to, version_rule}
use Rattle.call_laws.proofs.OfFields.Stand.{tried_of, field_rules_are_lawful}

-- ---- fields that differ are the unit's

below_all : (n count m : ℕ) (test : ℕ → Bool) → n + count ≤ m
    → list_all (λ f. nat_lt f m) (fields_from n count test) ≡ true
below_all n zero m test h = refl
below_all n (suc count) m test h =
    by (test n) (below_all (suc n) count m test (omega (arith, h)))
  where
    first : nat_lt n m ≡ true
    first = lt-ltb n m (omega (arith, h))

    by : (t : Bool) → list_all (λ f. nat_lt f m) (fields_from (suc n) count test) ≡ true
        → list_all (λ f. nat_lt f m)
        (if t then n ∷ fields_from (suc n) count test else fields_from (suc n) count test) ≡ true
    by true rest = and_true first rest
    by false rest = rest

pub version_fields_there : (t : Target) (j : ℕ) (o : Option Statement)
    → are_fields t (version_fields t.unit t.origins j o) ≡ true
version_fields_there t j (Some (Call k args)) =
    below_all 0 (length t.unit.fields) (length t.unit.fields) _ (omega arith)
version_fields_there t j None = refl
version_fields_there t j (Some (Config f e)) = refl
version_fields_there t j (Some (Assign x is e)) = refl
version_fields_there t j (Some (Reduce x is e)) = refl
version_fields_there t j (Some Pass) = refl
version_fields_there t j (Some (If c a b)) = refl
version_fields_there t j (Some (For i lo hi b)) = refl
version_fields_there t j (Some (Alloc x cell dims memory)) = refl
version_fields_there t j (Some (View w x coords)) = refl

-- ---- what is drafted

-- the draft is a call, and so is the first statement of the piece
pub record IsCall (j : ℕ) (piece made : Block) : Type 0 where
  pub number : ℕ
  pub args : List Argument
  pub rest : Block
  pub was : piece ≡ next (Call number args) rest
  pub is : made ≡ next (Call j args) end

module _ (t : Target) (j : ℕ) where
  abbrev called_by : Block → config.Tried Block
  called_by b = version_called t.unit t.origins j (first_of b)

  pub call_made : (b made : Block) → called_by b ≡ config.Got made → IsCall j b made
  call_made (next (Call k args) b) made h =
      record { number = k; args = args; rest = b; was = refl; is = cc }
  call_made end made h = cc
  call_made (next (Config f e) b) made h = cc
  call_made (next (Assign x is e) b) made h = cc
  call_made (next (Reduce x is e) b) made h = cc
  call_made (next Pass b) made h = cc
  call_made (next (If c a d) b) made h = cc
  call_made (next (For i lo hi d) b) made h = cc
  call_made (next (Alloc x cell dims memory) b) made h = cc
  call_made (next (View w x coords) b) made h = cc

is_call : (j : ℕ) (a : Site) → IsSite (version_rule j) a → IsCall j (old a.spot) a.draft
is_call j a is =
    let t = a.spot.target in
    let d = tried_of (called_by t j (old a.spot)) (λ b. b) a.draft is.drafted in
    call_made t j (old a.spot) a.draft (d.1 ∙ ap config.Got d.2)

-- ---- the rule

pub version_is_lawful : (j : ℕ) → IsLawful (version_rule j)
version_is_lawful j =
    field_rules_are_lawful (λ (t : Target). call_eqv t.unit t.origins j)
    (λ t versions. call_eqv_refines t.unit t.origins j versions)
    (λ a is. record {
      binders = ap binders (is_call j a is).is;
      fields = version_fields_there a.spot.target j (first_of (old a.spot));
    })

pub version_is_carrying : (j : ℕ) → IsCarrying (version_rule j)
version_is_carrying j = record {
  carries = λ a is. (
      let d = is_call j a is in
      subst (λ b. Carries (moved_to (Some 0)) b (or_pass (around a.spot) a.draft)) (sym d.was)
      (subst (λ b. Carries (moved_to (Some 0)) (next (Call d.number d.args) d.rest) b)
      (sym (ap (or_pass (around a.spot)) d.is ∙ or_pass_next (around a.spot) (Call j d.args) end)) (
        record {
          was = record { around = Here d.rest; piece = next (Call d.number d.args) end };
          is = record { around = Here end; piece = next (Call j d.args) end };
          before = refl;
          after = refl;
          alike = refl;
        },
        tt,
      ))
      );
  apart = λ a is. refl;
}
