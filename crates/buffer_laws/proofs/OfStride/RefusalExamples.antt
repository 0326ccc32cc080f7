-- The call that is given x[3:5] uses no stride of x and no other name of its buffer, and neither
-- does the one that is given a part of the staged buffer.
use Rattle.std.proofs.Common.{◌≡◌, false, true≢false, [], refl, sym}
use Rattle.exo_meaning.specs.Run.{kinds_of}
use Rattle.exo_meaning.specs.Scene.{updated}
use Rattle.exo_meaning.specs.Unseen.{in_block as mentions}
use Rattle.buffer_laws.specs.Staging.Alone.{has_root}
use Rattle.buffer_laws.specs.Staging.Converted.{converted}
use Rattle.buffer_laws.proofs.OfStaging.ReadsOn.{other}
use Rattle.buffer_laws.specs.Stride.Strides.{stride_seen, uses_strides}
use Rattle.buffer_laws.proofs.OfStride.NamesOn.{names_on_law}
use Rattle.buffer_laws.proofs.OfStride.PassedExamples.{world, unit, setting, middle}
use Rattle.buffer_laws.proofs.OfStride.StridesOn.{strides_on_law}

no_strides : uses_strides world.callees (stride_seen (kinds_of []) unit) (updated (λ y. y) 2 2)
    (converted 2 0 middle setting) 2 ≡ false
no_strides = strides_on_law world.callees (stride_seen (kinds_of []) unit) (λ y. y) 2 0 middle
    setting refl refl (λ y k. other y 2 k) refl refl

no_names : mentions (has_root (updated (λ y. y) 2 2) 0) (converted 2 0 middle setting) ≡ false
no_names = names_on_law (λ y. y) 2 0 middle setting refl refl
    (λ y k. absurd (true≢false (sym k))) refl refl refl
