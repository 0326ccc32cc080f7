-- The uses of a piece, statement by statement.
use Rattle.std.proofs.Common.{◌≡◌, ◌<◌, ◌+◌, ◌-◌, ℕ, suc, List, [], ◌∷◌, ◌++◌, take, drop}
use Rattle.std.proofs.Common.{append_assoc, Bool, true, false, sym, ap, ◌∙◌, arith}
use Rattle.std.proofs.lemmas.List.{append-nil}
use Rattle.std.specs.Prelude.{slice_range}
use Rattle.exo_tree.specs.Tree.{Condition, Statement, If, Block, block}
use Rattle.meaning_laws.specs.Facts.{Fact, Holds, Fails, is_plain_condition, with_fact}
use Rattle.exo_effects.specs.Uses as uses
use Rattle.exo_effects.specs.Uses.{Use, in_branch, past_statement}
use Rattle.exo_effects.specs.Parts.{passed_inside}
use Rattle.exo_effects.specs.declared.inside.Inside.{Inside}
use Rattle.exo_effects.specs.declared.inside.EffectSite.{EffectSite}
use Rattle.exo_effects.specs.PlainParts.{parts_in}
use Rattle.exo_effects.specs.declared.guards.Guard.{Guard}
use Rattle.exo_effects.specs.PlainGuards.{facts_of, all_facts}
use Rattle.exo_effects.specs.PlainUses.{variables_of, all_variables}
use Rattle.exo_effects.specs.PlainWalk.{inside_of, step_uses, block_uses, guarded, IsLeft}
use Rattle.exo_effects.proofs.Names.{parts_by}

-- ---- part of a list

range_next : {X : Type 0} (xs : List X) (k to : ℕ) (x : X) → k < to → drop k xs ≡ x ∷ drop (k + 1) xs
    → slice_range xs k to ≡ x ∷ slice_range xs (k + 1) to
range_next xs k to x l e = ap (take (to - k)) e ∙ ap (λ n. take n (x ∷ drop (k + 1) xs)) (one_less k to l)
  where
    one_less : (k to : ℕ) → k < to → to - k ≡ suc (to - (k + 1))
    one_less k to l = omega arith

-- ---- where a statement stands

-- the names and the guards tell it
pub same_inside : (old new : Inside) → IsLeft old new → inside_of new ≡ inside_of old
same_inside old new h = λ i. record {
  parts = parts_by (h.0 i);
  own = all_variables (h.1 i);
  round = all_facts (h.1 i);
}

-- behind a statement of the piece
pub passed_by : (old left new : Inside) (a : Statement)
    → IsLeft old left → new.guards.items ≡ left.guards.items
    → parts_in new.parts ≡ passed_inside a (parts_in left.parts)
    → inside_of new ≡ past_statement a (inside_of old)
passed_by old left new a h g p = λ i. record {
  parts = (p ∙ ap (λ names. passed_inside a (parts_by names)) h.0) i;
  own = all_variables ((g ∙ h.1) i);
  round = all_facts ((g ∙ h.1) i);
}

pub same_guards : (first old left : Inside) → IsLeft old left → old.guards.items ≡ first.guards.items
    → left.guards.items ≡ first.guards.items
same_guards first old left h e = h.1 ∙ e

-- ---- branches

-- a branch whose condition says something, or not
in_branch_by : (says : Bool) (guard : Guard) (fact : Fact) (at : uses.Inside)
    → variables_of guard ≡ [] → facts_of guard ≡ fact ∷ []
    → guarded says guard at ≡ record at { round = at.round ++ with_fact says fact [] }
in_branch_by true guard fact at v f = λ i. record {
  parts = at.parts;
  own = (ap (λ z. at.own ++ z) v ∙ append-nil at.own) i;
  round = at.round ++ f i;
}
in_branch_by false guard fact at v f = λ i. record {
  parts = at.parts;
  own = at.own;
  round = sym (append-nil at.round) i;
}

-- ---- what is put so far, and what is left

module _ (s : EffectSite) where
  pub walked_on : (out new whole : List Use) (at after : uses.Inside) (a : Statement) (xs : List Statement) (k to : ℕ)
      → k < to → drop k xs ≡ a ∷ drop (k + 1) xs
      → new ≡ out ++ step_uses s at a → after ≡ past_statement a at
      → out ++ block_uses s at (block (slice_range xs k to)) ≡ whole
      → new ++ block_uses s after (block (slice_range xs (k + 1) to)) ≡ whole
  walked_on out new whole at after a xs k to l d n p w =
      ap (λ z. z ++ block_uses s after (block (slice_range xs (k + 1) to))) n
      ∙ ap (λ z. (out ++ step_uses s at a) ++ block_uses s z (block (slice_range xs (k + 1) to))) p
      ∙ append_assoc out (step_uses s at a) (block_uses s (past_statement a at) (block (slice_range xs (k + 1) to)))
      ∙ ap (λ z. out ++ block_uses s at (block z)) (sym (range_next xs k to a l d))
      ∙ w

  -- two lists of uses, one behind the other
  put_two : (old middle new first second : List Use)
      → middle ≡ old ++ first → new ≡ middle ++ second → new ≡ old ++ (first ++ second)
  put_two old middle new first second e f = f ∙ ap (λ z. z ++ second) e ∙ append_assoc old first second

  -- both branches of a condition
  pub branched : (old middle new : List Use) (at after : uses.Inside) (says : Bool) (holds fails : Guard)
      (c : Condition) (a b : Block)
      → says ≡ is_plain_condition c
      → after ≡ at
      → middle ≡ old ++ block_uses s (guarded says holds at) a
      → new ≡ middle ++ block_uses s (guarded says fails after) b
      → variables_of holds ≡ [] → facts_of holds ≡ Holds c ∷ []
      → variables_of fails ≡ [] → facts_of fails ≡ Fails c ∷ []
      → new ≡ old ++ step_uses s at (If c a b)
  branched old middle new at after says holds fails c a b e same m n hv hf fv ff =
      put_two old middle new (block_uses s (in_branch c (Holds c) at) a) (block_uses s (in_branch c (Fails c) at) b)
      (m ∙ ap (λ z. old ++ block_uses s z a) (in_branch_by says holds (Holds c) at hv hf ∙ ap (λ z. record at { round = at.round ++ with_fact z (Holds c) [] }) e))
      (n ∙ ap (λ z. middle ++ block_uses s z b) (ap (guarded says fails) same ∙ in_branch_by says fails (Fails c) at fv ff ∙ ap (λ z. record at { round = at.round ++ with_fact z (Fails c) [] }) e))
