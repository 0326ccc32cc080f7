-- Obligations of which those at a path stand together, with others in place of these.
use Rattle.std.proofs.Common.{◌≡◌, ◌||◌, ◌++◌, true, false, List, [], ◌∷◌}
use Rattle.std.proofs.Common.{refl, ap, ◌∙◌, subst}
use Rattle.std.specs.Prelude.{if◌then◌else◌}
use Rattle.std.specs.List.{list_any}
use Rattle.std.proofs.lemmas.Bool.{both_ways}
use Rattle.exo_tree.specs.Tree.{Procedure, Program}
use Rattle.exo_tree.specs.Places.{Path, same_path}
use Rattle.exo_meaning.specs.Orders.{Each}
use Rattle.affine_systems.specs.Systems.{systems, systems_of}
use Rattle.affine_systems.specs.Outcomes.{Owed, owed}
use Rattle.check_claims.specs.Claim.{Claim, Is, Apart, Placed}
use Rattle.check_facts.specs.Contexts.{context_of}
use Rattle.exo_effects.specs.Conflicts as conflict
use Rattle.exo_effects.specs.Conflicts.{clashing, past_these, meeting, against}
use Rattle.exo_effects.specs.Orders.{no_order}
use Rattle.bounds_check.specs.Obligations.{formula_at, argument_accesses, claim_owed, owed_for, owed_for_all}
use Rattle.schedule_laws.specs.Owed.Stores.{stands_at, behind_those, with_others_there}
use Rattle.schedule_laws.proofs.OfOwed.Each.{each_join, each_mapped, each_flat}

-- ---- what is owed for a claim stands where the claim does

module _ (u : Program) (p : Procedure) (P : Path → Type 0) where
  abbrev Stands : Owed → Type 0
  Stands o = P o.place

  claim_stands : (path : Path) (c : Claim) → P path → Each Stands (claim_owed u p path c)
  claim_stands path (Is c text) h =
      each_mapped Stands (owed text path) (systems (context_of u p path) (formula_at u p path c)) (λ s. h)
  claim_stands path (Apart j k) h =
      let ctx = context_of u p path in
      let xs = argument_accesses u p path j in
      let ys = argument_accesses u p path k in
      let base = past_these ctx no_order xs ys in
      each_flat Stands (conflict.owed_for ctx no_order path base) (clashing xs ys)
      (λ pair. each_mapped Stands (owed (against pair) path)
      (systems_of (meeting ctx no_order base pair.0 pair.1)) (λ s. h))

  pub all_stand : (cs : List Placed) → Each (λ c. P c.place) cs → Each Stands (owed_for_all u p cs)
  all_stand [] h = tt
  all_stand (c ∷ cs) h =
      each_join Stands (owed_for u p c) (owed_for_all u p cs) (claim_stands c.place c.claim h.0)
      (all_stand cs h.1)

-- ---- others in place of those

module _ (path : Path) where
  abbrev pub IsThere : Owed → Type 0
  IsThere o = same_path o.place path ≡ true

  abbrev pub IsNotThere : Owed → Type 0
  IsNotThere o = same_path o.place path ≡ false

  none_there : (os : List Owed) → Each IsNotThere os → list_any (stands_at path) os ≡ false
  none_there [] h = refl
  none_there (o ∷ os) h = ap (λ t. t || list_any (stands_at path) os) h.0 ∙ none_there os h.1

  back_stays : (os : List Owed) → Each IsNotThere os → behind_those path os ≡ os
  back_stays [] h = refl
  back_stays (o ∷ os) h = ap (λ t. if t then behind_those path os else o ∷ os) h.0

  past_middle : (mid back : List Owed) → Each IsThere mid → Each IsNotThere back
      → behind_those path (mid ++ back) ≡ back
  past_middle [] back g h = back_stays back h
  past_middle (o ∷ mid) back g h =
      ap (λ t. if t then behind_those path (mid ++ back) else o ∷ (mid ++ back)) g.0
      ∙ past_middle mid back g.1 h

  at_middle : (others mid back : List Owed) → Each IsThere mid → Each IsNotThere back
      → list_any (stands_at path) (mid ++ back) ≡ true
      → with_others_there path others (mid ++ back) ≡ others ++ back
  at_middle others [] back g h any =
      absurd (both_ways (list_any (stands_at path) back) (none_there back h) any)
  at_middle others (o ∷ mid) back g h any =
      ap (λ t. if t then others ++ behind_those path (mid ++ back)
      else o ∷ with_others_there path others (mid ++ back)) g.0
      ∙ ap (λ (os : List Owed). others ++ os) (past_middle mid back g.1 h)

  pub middle_replaced : (others front mid back : List Owed) → Each IsNotThere front → Each IsThere mid
      → Each IsNotThere back → list_any (stands_at path) (front ++ (mid ++ back)) ≡ true
      → with_others_there path others (front ++ (mid ++ back)) ≡ front ++ (others ++ back)
  middle_replaced others [] mid back f g h any = at_middle others mid back g h any
  middle_replaced others (o ∷ front) mid back f g h any =
      let os = front ++ (mid ++ back) in
      ap (λ t. if t then others ++ behind_those path os else o ∷ with_others_there path others os) f.0
      ∙ ap (λ (os : List Owed). o ∷ os) (middle_replaced others front mid back f.1 g h
      (subst (λ t. (t || list_any (stands_at path) os) ≡ true) f.0 any))
