use Rattle.std.proofs.Common.{◌≡◌, length, IfOk, ap, ◌∙◌, subst}
use Rattle.std.proofs.lemmas.List.{length-map}
use Rattle.exo_tree.specs.Tree.{block}
use Rattle.exo_tree.specs.PlainUnit.{program}
use Rattle.exo_modes.specs.Aliases.{roots_in}
use Rattle.piece_modes.specs.Strides.Seen.{block_sees}
use Rattle.piece_modes.specs.Strides.PlainTable.{rows}
use Rattle.piece_modes.proofs.OfStrides.Rows.{whole_is_first, whole_sees}
use Rattle.piece_modes.proofs.strides.table.is_stride_used.Goals as goal

pub block_sees-requires : goal.block_sees-requires
block_sees-requires c =
    whole_is_first (program c.args.unit.now) (rows c.deref.result.now) (ap rows c.deref.ensures.value ∙ c.requires)

pub returns-clause-used : goal.returns-clause-used
returns-clause-used c =
    let u = program c.args.unit.now in
    let rs = c.deref.result.now in
    let n = length rs in
    let root = roots_in c.args.aliases.now.items in
    let x = c.args.x.0 in
    let b = block c.args.b.now in
    let buffer = c.root-buffer.ensures ∙ ap (λ xs. roots_in xs x) c.deref-2.ensures.value in
    let same = ap (λ y. block_sees u n root b y) buffer ∙ whole_sees u (rows rs) (ap rows c.deref.ensures.value ∙ c.requires) n (length-map rs (λ v. v.items)) root x b in
    subst (λ z. IfOk c.block_sees.result (λ r. r ≡ z)) same c.block_sees.ensures.sees
