-- Loops whose turns all do the same, at a place of a well-formed procedure.
use Rattle.std.proofs.Common.{◌≡◌, ℕ, Bool, true, false, true≢false, Option, Some, None, refl}
use Rattle.std.proofs.Common.{sym, ◌∙◌, subst}
use Rattle.std.specs.Prelude.{IsSome}
use Rattle.exo_tree.specs.Tree.{For, end, next}
use Rattle.exo_meaning.specs.Scene.{then_do}
use Rattle.exo_meaning.specs.Run.{step, kinds_of, unit_world}
use Rattle.exo_meaning.specs.Inputs.{is_buffer_of}
use Rattle.exo_meaning.proofs.Frame.{or_parts}
use Rattle.meaning_laws.specs.Sound.{on_way}
use Rattle.meaning_laws.specs.Copies.{IsFree}
use Rattle.meaning_laws.proofs.Copies.{sound_law, unbound_law}
use Rattle.place_laws.specs.Scope.Roots.{own_roots_at}
use Rattle.place_laws.proofs.OfScope.Roots.{names_have_roots}
use Rattle.place_laws.specs.Order.RemoveLoop.{is_outside, RemoveLoopAtLaw}
use Rattle.place_laws.proofs.OfOrder.Unread.{unread_fields_are_dead}
use Rattle.place_laws.proofs.OfOrder.Repeat.{loops_are_removed}

then_some : {A : Type 0} (o : Option A) → then_do o (λ a. Some a) ≡ o
then_some None = refl
then_some (Some a) = refl

pub loops_are_removed_at : RemoveLoopAtLaw
loops_are_removed_at fields memories ps p c i lo hi b s u may is less good come =
    let world = unit_world (kinds_of fields) ps in
    let old = next (For i lo hi b) end in
    let gone = λ (x : ℕ) (h : IsFree p c x). (unbound_law world p old c s u good come x h).buffers
    in
    then_some (step world (For i lo hi b) u)
    ∙ loops_are_removed fields memories ps (own_roots_at c) i lo hi b u (record {
      unit = may.unit;
      sound = sound_law world p old c s u good come;
      roots = names_have_roots fields memories ps p c old s u may good come;
      reduces = λ y h. is.reduces y (outside y h (is_outside p c y) refl);
      reads = λ y h. is.reads y (outside y h (is_outside p c y) refl);
      dead = λ f h. unread_fields_are_dead ps f b (is.unread f h);
    }) is.lacks (gone i.id is.fresh) (less s u good come)
  where
    outside : (y : ℕ) → IsSome (u.scene.buffers y) → (t : Bool) → is_outside p c y ≡ t → t ≡ true
    outside y h true e = refl
    outside y h false e = absurd (true≢false
        (sym (subst IsSome (unbound_law (unit_world (kinds_of fields) ps) p
        (next (For i lo hi b) end) c s u good come y
        (or_parts (is_buffer_of y p.params) (on_way c y) e)).buffers h)))
