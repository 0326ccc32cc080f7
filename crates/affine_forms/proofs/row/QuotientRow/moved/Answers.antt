use Rattle.std.proofs.Common.{◌∙◌, ap, map, length, List, rules}
use Rattle.std.specs.Int.{w64, w128}
use Rattle.std.specs.Int.RustNames.{FitsSigned}
use Rattle.std.proofs.lemmas.List.{take_all}
use Rattle.std.proofs.lemmas.Int.{to_z-of_z}
use Rattle.affine_forms.specs.Tables as plain
use Rattle.affine_forms.specs.Tables.{moved_share}
use Rattle.affine_forms.specs.PlainTables.{plain_share, plain_shares}
use Rattle.affine_forms.proofs.RowLists.{grown, share_earlier, moved_all}
use Rattle.affine_forms.proofs.row.QuotientRow.moved.Goals as goal

pub moved-requires : goal.moved-requires
moved-requires c = share_earlier (length c.args.numbers.now) c.deref-s-items.result.now c.args.self.now.terms.items c.loop-s.s-index c.s-item.result c.deref-s-items.ensures.value c.loop-s-test.true c.s-item.is c.requires

pub loop-s-preserved : goal.loop-s-preserved
loop-s-preserved c = rw c.in_ok-push.ensures.items (grown plain_share (λ s. moved_share c.args.numbers.now (plain_share s)) _ c.deref-s-items.result.now c.loop-s.s-index _ c.s-item.result c.loop-s.invariant c.loop-s-test.true c.s-item.is c.in_ok-moved.ensures)

pub returns : goal.returns
returns c =
    let wide : FitsSigned w128 c.args.self.now.constant = search rules in
    let fits : FitsSigned w64 c.args.self.now.by = search rules in
    let terms = c.loop-s.invariant ∙ ap (map (λ s. moved_share c.args.numbers.now (plain_share s))) (take_all c.loop-s.s-index c.deref-s-items.result.now c.loop-s-test.false ∙ c.deref-s-items.ensures.value) ∙ moved_all c.args.numbers.now c.args.self.now.terms.items in
    let made : List plain.Share → plain.QuotientRow = λ ts. record { constant = c.args.self.now.constant; terms = ts; by = c.args.self.now.by } in
    rw (to_z-of_z w128 c.args.self.now.constant wide, to_z-of_z w64 c.args.self.now.by fits) (ap made terms)
