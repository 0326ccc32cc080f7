-- What a callee with fresh ids has of what a call asks for that is inlined.
use Rattle.std.specs.Prelude.{◌≡◌, ℕ, nat_lt, true, false, List, Option}
use Rattle.std.specs.List.{list_all}
use Rattle.exo_tree.specs.Tree.{Kind, Argument, Procedure}
use Rattle.exo_tree.specs.Context.{rest_of}
use Rattle.exo_meaning.specs.Calls.{Callee}
use Rattle.exo_meaning.specs.Unseen.{in_block as mentions}
use Rattle.exo_meaning.specs.Units.{IsProcedure, bound_ids}
use Rattle.meaning_laws.specs.Copies.{IsFree}
use Rattle.meaning_laws.specs.Scoped.{has_binder}
use Rattle.inplace_laws.specs.CallInPlace.{AreDistinct, no_name}
use Rattle.inplace_laws.specs.InPlace.{makes}
use Rattle.inplace_laws.specs.Inline.{inlined, is_param, not_own}
use Rattle.inplace_laws.specs.Uses.{in_block as uses}
use Rattle.match_laws.specs.Inline.FreshCallee.{is_new}
use Rattle.match_laws.specs.Inline.InlineRule.{with_fresh_ids}
use Rattle.step_rules.specs.Rule.{Spot}
use Rattle.step_rules.specs.Lawful.{IsSpot, IsFormedHere, around}

-- all of `IsInlinable` that is about names; own names are those with the new numbers
pub record HasNewNames (s : Spot) (base : ℕ) (callee : Procedure) (args : List Argument)
    : Type 0 where
  pub names :
      uses (not_own (is_new base callee)) no_name (with_fresh_ids base callee).body ≡ false
  pub params :
      (x : ℕ)
      → is_param (with_fresh_ids base callee) x ≡ true
      → (is_new base callee x ≡ true) × (makes (with_fresh_ids base callee).body x ≡ false)
  pub distinct : AreDistinct (with_fresh_ids base callee).params
  pub free : (x : ℕ) → is_new base callee x ≡ true → IsFree s.target.proc (around s) x
  pub others :
      let q = with_fresh_ids base callee in
      (x : ℕ)
      → is_new base callee x ≡ false
      → (is_param q x ≡ false) × (has_binder (inlined q.params args q.body) x ≡ false)
  pub gone :
      let q = with_fresh_ids base callee in
      mentions (is_param q) (inlined q.params args q.body) ≡ false
  pub rest : mentions (is_new base callee) (rest_of (around s)) ≡ false

abbrev pub NewNames : Type 0
NewNames =
    (fields : ℕ → Option Kind) (memories : ℕ) (callees : ℕ → Option Callee)
    (s : Spot) (base : ℕ) (callee : Procedure) (args : List Argument)
    → let q = with_fresh_ids base callee in
    IsSpot s
    → list_all (λ x. nat_lt x base) (bound_ids s.target.proc) ≡ true
    → IsProcedure fields memories callees callee
    → IsFormedHere s (inlined q.params args q.body)
    → HasNewNames s base callee args
