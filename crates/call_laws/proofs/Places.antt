-- What names see wherever a run comes to.
use Rattle.std.proofs.Common.{◌≡◌, ℕ, zero, Bool, true, false, [], length, Option, Some, None}
use Rattle.std.proofs.Common.{IsSome, refl, sym, ◌∙◌, subst, true≢false}
use Rattle.exo_tree.specs.Tree.{Block, Procedure, Program}
use Rattle.exo_tree.specs.Context.{Context, fill}
use Rattle.exo_tree.specs.Places.{Main}
use Rattle.exo_meaning.specs.Scene.{Seen}
use Rattle.exo_meaning.specs.State.{State}
use Rattle.exo_meaning.specs.Run.{program_world}
use Rattle.exo_meaning.specs.Inputs.{is_buffer_of}
use Rattle.exo_meaning.specs.Units.{sort_in, has_dimension, scope_of, field_kind, is_block}
use Rattle.meaning_laws.specs.Scoped.{is_param, is_scoped}
use Rattle.meaning_laws.specs.Sound.{on_way, IsUnbound}
use Rattle.meaning_laws.specs.KnownFields.{at_entry}
use Rattle.meaning_laws.specs.PlaceFacts.{in_scope}
use Rattle.meaning_laws.proofs.Copies.{unbound_law}
use Rattle.meaning_laws.proofs.Made.{made_law}
use Rattle.meaning_laws.proofs.WellFormed.{well_scoped}
use Rattle.affine_places.specs.Roots.{Rooted, roots_of, has_extents}
use Rattle.affine_places.specs.Laws.{IsMade}
use Rattle.affine_places.proofs.WellFormed.{well_formed_is_affine}
use Rattle.check_facts.specs.Contexts.{telling}
use Rattle.check_laws.proofs.OfFacts.Truths.{parts, one_of, neither, none_some, some_injective}
use Rattle.check_laws.proofs.OfFacts.Rooted.{Agrees, ParamsAgree, block_is_told, params_are_told}
use Rattle.check_laws.proofs.OfFacts.Standing.{Names, NameStands, params_stand, way_stands}
use Rattle.check_laws.proofs.OfFacts.Told.{is_rooted, dimension_is_buffer, buffer_has_sort}
use Rattle.check_laws.proofs.OfFacts.Told.{named_params, names_at, Covers, around}
use Rattle.check_laws.proofs.OfFacts.Told.{params_are_covered}
use Rattle.call_laws.specs.Places.{IsThere, scope_in, PlacesStand}

pub params_named : (p : Procedure) → Names (is_param p) (scope_of [] p.params)
params_named p x h =
    one_of (is_buffer_of x p.params) false (named_params p.params [] x h) (λ k. k)
    (λ k. absurd (true≢false (sym k)))

-- what a well-formed procedure says of its own names
pub record Own (p : Procedure) : Type 0 where
  pub scoped : is_scoped (is_param p) p.body ≡ true
  pub body : Agrees (roots_of p) p.body
  pub params : ParamsAgree (roots_of p) p.params
  pub extents : has_extents p ≡ true

module _ (u : Program) (p : Procedure) (c : Context) (old : Block) (t : State)
    (there : IsThere u p c old t) where
  pub own : Own p
  own =
      let keeps = there.may.procedure in
      let callees = (program_world u).callees in
      let scoped = (well_scoped (field_kind u.fields) (length u.memories) callees p keeps).0 in
      record {
        scoped = scoped;
        body = block_is_told p scoped keeps.distinct;
        params = params_are_told p keeps.distinct;
        extents = (parts (has_extents p) _
            (well_formed_is_affine (field_kind u.fields) (length u.memories) callees p keeps)).0;
      }

  -- the rules of the body, with the hole
  pub keeps_rules_there : is_block (field_kind u.fields) (length u.memories)
      (program_world u).callees (scope_of [] p.params) (λ y. y) (fill c old) ≡ true
  keeps_rules_there =
      subst (λ b. is_block (field_kind u.fields) (length u.memories) (program_world u).callees
      (scope_of [] p.params) (λ y. y) b ≡ true) there.body there.may.procedure.body

  -- a name in scope stands for what the table says
  pub name_stands : (x : ℕ) → in_scope p c x ≡ true
      → NameStands there.first.scene (in_scope p c) t.scene x (roots_of p x)
  name_stands x bound =
      let fields = field_kind u.fields in
      let memories = length u.memories in
      let world = program_world u in
      let keeps = there.may.procedure in
      let first = there.first in
      let scope = scope_of [] p.params in
      let n = made_law fields memories world.callees world p c old first t keeps there.body
      there.good there.comes in
      way_stands fields memories world.callees (roots_of p) first.scene t.scene old c (is_param p)
      scope (λ y. y) (params_named p) keeps_rules_there
      (subst (λ b. is_scoped (is_param p) b ≡ true) there.body own.scoped)
      (subst (Agrees (roots_of p)) there.body own.body) n.made
      (params_stand fields memories world.callees (roots_of p) first.scene t.scene (is_param p)
      p.params [] (λ y j. absurd (true≢false (sym j))) (λ y j. j) keeps.params own.params
      there.good.arguments (λ y j. (n.params y j).control)
      (λ y j. ((n.params y j).buffers, (n.params y j).views))) x bound

  -- and another stands for nothing
  pub name_unbound : (x : ℕ) → in_scope p c x ≡ false → IsUnbound t x
  name_unbound x none =
      let q = neither (is_param p x) (on_way c x) none in
      unbound_law (program_world u) p old c there.first t there.good there.comes x (q.0, q.1)

  -- buffers in scope have roots
  covers : Covers u.fields (roots_of p) (scope_of [] p.params) (scope_in p c)
  covers =
      let scope = scope_of [] p.params in
      (around u.fields (roots_of p) scope (length u.memories) (program_world u).callees
      (telling u p) old c [] Main zero at_entry scope (λ y. y) keeps_rules_there
      (subst (Agrees (roots_of p)) there.body own.body)
      (params_are_covered u.fields (roots_of p) p.params own.params)).covers

  pub made_there : (x : ℕ) (seen : Seen) → t.scene.views x ≡ Some seen
      → (r : Rooted) × (roots_of p x ≡ Some r) × IsMade t.scene r seen
  made_there x seen e = go (in_scope p c x) refl
    where
      of_root : (o : Option Rooted) → roots_of p x ≡ o
          → NameStands there.first.scene (in_scope p c) t.scene x o
          → (r : Rooted) × (roots_of p x ≡ Some r) × IsMade t.scene r seen
      of_root None i h = absurd (none_some (sym h ∙ e))
      of_root (Some r) i h =
          (r, i, subst (IsMade t.scene r) (some_injective h.0 seen (sym h.1 ∙ e)) h.2.made)

      go : (b : Bool) → in_scope p c x ≡ b
          → (r : Rooted) × (roots_of p x ≡ Some r) × IsMade t.scene r seen
      go true i = of_root (roots_of p x) refl (name_stands x i)
      go false i = absurd (none_some (sym (name_unbound x i).views ∙ e))

  seen_there : (x k : ℕ) → has_dimension k (sort_in (scope_in p c) x) ≡ true
      → IsSome (t.scene.views x)
  seen_there x k h =
      let buffer = dimension_is_buffer k (sort_in (scope_in p c) x) h in
      of_root (roots_of p x) (covers.buffers x buffer)
      (name_stands x (names_at c (is_param p) (scope_of [] p.params) (params_named p) x
      (buffer_has_sort (sort_in (scope_in p c) x) buffer)))
    where
      of_root : (o : Option Rooted) → is_rooted o ≡ true
          → NameStands there.first.scene (in_scope p c) t.scene x o → IsSome (t.scene.views x)
      of_root None i h = absurd (true≢false (sym i))
      of_root (Some r) i h = subst IsSome (sym h.1) refl

pub places_stand : PlacesStand
places_stand u p c old t there =
    record { made = made_there u p c old t there; seen = seen_there u p c old t there }
