-- The simplifier of made indices keeps their numbers.
use Rattle.std.proofs.Common.{◌≡◌, ℤ, pos, ◌+ℤ◌, ◌*ℤ◌, Bool, true, false, cond, refl, arith}
use Rattle.std.proofs.lemmas.Int.{ints}
use Rattle.exo_meaning.specs.Scene.{Scene, number}
use Rattle.affine_forms.specs.Forms.{is_affine}
use Rattle.affine_forms.specs.Laws.{ReadsAt}
use Rattle.match_laws.specs.Simplify.Simplified.{simplified, values_in}
use Rattle.match_laws.proofs.OfSimplify.Simplified.{simplified_law}
use Rattle.buffer_laws.specs.MadeIndices.{as_themselves}
use Rattle.buffer_laws.specs.MadeIndices.{MadeSimplerLaw}
use Rattle.affine_places.specs.Roots.{variables}

itself : (n : ℤ) → pos 0 +ℤ ((pos 1 *ℤ n) +ℤ pos 0) ≡ n
itself n = omega (arith, ints)

reads : (scene : Scene) → ReadsAt variables (values_in scene) as_themselves scene
reads scene = record {
  variables = λ x h. itself (scene.control x);
  fields = λ f h. itself (scene.fields f);
  strides = λ x d h. itself ((values_in scene).stride x d);
}

pub made_simpler_law : MadeSimplerLaw
made_simpler_law e scene plain = go (is_affine variables e) refl
  where
    go : (t : Bool) → is_affine variables e ≡ t
        → number scene (cond t (simplified as_themselves e) e) ≡ number scene e
    go true h = simplified_law variables as_themselves scene e (reads scene) h
    go false h = refl
