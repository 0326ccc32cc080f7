-- Each buffer name in scope sees a part of its root, wherever a run comes to.
use Rattle.std.proofs.Common.{◌≡◌, ℕ, Bool, true, false, ◌||◌, [], Option, Some, None, option_map, refl, sym, ap, ◌∙◌, subst}
use Rattle.std.specs.Prelude.{length}
use Rattle.exo_tree.specs.Tree.{Procedure, Program}
use Rattle.exo_tree.specs.Context.{fill}
use Rattle.exo_tree.specs.Places.{Opened}
use Rattle.exo_meaning.specs.Scene.{Seen, Scene}
use Rattle.exo_meaning.specs.State.{State}
use Rattle.exo_meaning.specs.Run.{program_world}
use Rattle.exo_meaning.specs.Inputs.{IsAdmissible, is_buffer_of}
use Rattle.exo_meaning.specs.Units.{Scope, sort_in, scope_of, field_kind, is_block}
use Rattle.meaning_laws.specs.Context.{ComesTo}
use Rattle.meaning_laws.specs.Sound.{on_way}
use Rattle.meaning_laws.specs.Scoped.{is_param, is_scoped}
use Rattle.meaning_laws.specs.Sorted.{MayRun, scope_at}
use Rattle.meaning_laws.proofs.Made.{made_law}
use Rattle.meaning_laws.proofs.WellFormed.{well_scoped}
use Rattle.affine_places.specs.Roots.{Rooted, Roots, roots_of}
use Rattle.check_laws.proofs.OfFacts.Rooted.{Agrees, block_is_told, params_are_told}
use Rattle.check_laws.proofs.OfFacts.Standing.{has_sort, Names, NameStands, params_stand, way_stands}
use Rattle.check_laws.proofs.OfFacts.Told.{named_params, names_at}
use Rattle.check_laws.proofs.OfClaims.Basics.{none_some, some_injective, no_test}

-- what a name in scope sees is a part of its root
abbrev pub SeesRoots : Roots → Scope → Scene → Type 0
SeesRoots table scope scene =
    (x : ℕ) (seen : Seen)
    → has_sort (sort_in scope x) ≡ true
    → scene.views x ≡ Some seen
    → option_map (λ (r : Rooted). r.root) (table x) ≡ Some seen.buffer

stands_rooted : (first u : Scene) (bound : ℕ → Bool) (x : ℕ) (o : Option Rooted) (seen : Seen)
    → NameStands first bound u x o → u.views x ≡ Some seen
    → option_map (λ (r : Rooted). r.root) o ≡ Some seen.buffer
stands_rooted first u bound x None seen h e = absurd (none_some (sym h ∙ e))
stands_rooted first u bound x (Some r) seen h e =
    let same : h.0 ≡ seen = some_injective h.0 seen (sym h.1 ∙ e) in
    ap (λ b. Some b) (sym h.2.made.root ∙ ap (λ (z : Seen). z.buffer) same)

either_false : (t : Bool) → (t || false) ≡ true → t ≡ true
either_false true h = refl
either_false false h = h

module _ (u : Program) (p : Procedure) (may : MayRun u.fields (length u.memories) u.procedures p) where
  abbrev names : Scope
  names = scope_of [] p.params

  params_named : Names (is_param p) names
  params_named x h = either_false (is_buffer_of x p.params) (named_params p.params [] x h)

  pub roots_seen : (o : Opened) (s t : State)
      → p.body ≡ fill o.around o.piece
      → IsAdmissible (program_world u) p s
      → ComesTo (program_world u) o.piece o.around s t
      → SeesRoots (roots_of p) (scope_at o.around names) t.scene
  roots_seen o s t here good come x seen h e =
      let fields = field_kind u.fields in
      let memories = length u.memories in
      let callees = (program_world u).callees in
      let keeps = may.procedure in
      let scoped = (well_scoped fields memories callees p keeps).0 in
      let made = made_law fields memories callees (program_world u) p o.around o.piece s t keeps here good come in
      let params = params_stand fields memories callees (roots_of p) s.scene t.scene (is_param p) p.params []
      (λ y j. no_test j) (λ y j. j) keeps.params (params_are_told p keeps.distinct) good.arguments
      (λ y j. (made.params y j).control) (λ y j. ((made.params y j).buffers, (made.params y j).views)) in
      let stand = way_stands fields memories callees (roots_of p) s.scene t.scene o.piece o.around (is_param p) names (λ y. y) params_named
      (subst (λ b. is_block fields memories callees names (λ y. y) b ≡ true) here keeps.body)
      (subst (λ b. is_scoped (is_param p) b ≡ true) here scoped)
      (subst (Agrees (roots_of p)) here (block_is_told p scoped keeps.distinct))
      made.made params in
      stands_rooted s.scene t.scene (λ y. is_param p y || on_way o.around y) x (roots_of p x) seen
      (stand x (names_at o.around (is_param p) names params_named x h)) e
