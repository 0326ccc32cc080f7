use Rattle.std.proofs.lemmas.Int.{to_z-of_z}
use Rattle.std.specs.Int.{w64, w128}
use Rattle.affine_forms.proofs.TermWidths.{within_64, fits_64}
use Rattle.affine_forms.proofs.linear.Draft.multiple.Goals as goal

pub scaled-requires : goal.scaled-requires
scaled-requires c =
    let f64 = c.ranges.by in
    rw (to_z-of_z w64 c.args.by f64, to_z-of_z w128 c.args.by (fits_64 c.args.by f64)) (within_64 c.args.by f64)
