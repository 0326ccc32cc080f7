use Rattle.std.proofs.Common.{◌≡◌, ◌∙◌, suc, sym, ap, subst, map, drop, true, false, cond}
use Rattle.exo_tree.specs.PlainControl.{control}
use Rattle.affine_forms.specs.Atoms.{OpaqueStride, only}
use Rattle.affine_forms.specs.Outcomes.{Formed}
use Rattle.affine_forms.specs.Strides.{is_one_open, product_form, product_fits, all_keep_rules}
use Rattle.affine_forms.proofs.LaterExtents.{later_is, rules_drop, formed_where}
use Rattle.affine_forms.proofs.stride.dense_stride.Goals as goal

pub extent_product-requires : goal.extent_product-requires
extent_product-requires g c = ap all_keep_rules (later_is c.args.extents.now c.args.k c.requires.inside) ∙ rules_drop (suc c.args.k) (map control c.args.extents.now) c.requires.rules

pub returns-then-is_one_open : goal.returns-then-is_one_open
returns-then-is_one_open g c =
    let at = g.R.Reader.reading c.args.reader.now in
    let is = later_is c.args.extents.now c.args.k c.requires.inside in
    let es = drop (suc c.args.k) (map control c.args.extents.now) in
    let open_is : is_one_open es ≡ true = ap is_one_open (sym is) ∙ sym c.is_one_open.ensures ∙ c.if-is_one_open.true in
    formed_where c.extent_product.result (is_one_open es) (product_fits at es) (product_form at es) (only (OpaqueStride c.args.root.0 c.args.k)) open_is (subst (λ xs. Formed c.extent_product.result (product_fits at xs) (product_form at xs)) is c.extent_product.ensures)

pub returns-in_ok-l : goal.returns-in_ok-l
returns-in_ok-l g c =
    let at = g.R.Reader.reading c.args.reader.now in
    let is = later_is c.args.extents.now c.args.k c.requires.inside in
    let es = drop (suc c.args.k) (map control c.args.extents.now) in
    let shut : is_one_open es ≡ false = ap is_one_open (sym is) ∙ sym c.is_one_open.ensures ∙ c.if-is_one_open.false in
    (ap (λ t. cond t (product_fits at es) true) shut, c.in_ok-l.ensures ∙ sym (ap (λ t. cond t (product_form at es) (only (OpaqueStride c.args.root.0 c.args.k))) shut))
