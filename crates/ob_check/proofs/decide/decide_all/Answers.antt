use Rattle.std.proofs.Common.{map, get_or, ◌∙◌, ap, arith, rules}
use Rattle.affine_forms.specs.System.{plain_system}
use Rattle.ob_check.specs.Systems.{system_known, known_in}
use Rattle.ob_check.proofs.Chunks.{all_chunks, if_both, known_by}
use Rattle.ob_check.proofs.decide.decide_all.Goals as goal

pub returns : goal.returns
returns g c =
    let rs = c.in_ok-chunks.chunks.items in
    if_both c.joined.result c.joined.ensures.joined c.joined.ensures.all (λ v is all.
    ap (map system_known) is
    ∙ all_chunks known_in system_known (λ s. plain_system s.now) c.chunk_size-size.result c.args.systems.now rs c.joined.result
    (λ n h. let at = (c.in_ok-chunks.ensures.each n c.joined.result (omega arith)).1 in
    known_by system_known _ (get_or rs n c.joined.result) (all n c.joined.result h) at.call ∙ ap (map (λ s. plain_system s.now)) at.argument_is.value)
    (omega (arith, c.chunk_size-size.ensures)) (search rules))
