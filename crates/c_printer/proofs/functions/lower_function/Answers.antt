use Rattle.std.proofs.Common.{◌≡◌, ◌∙◌, ap, ap₂, map, string_bytes}
use Rattle.exo_tree.specs.Tree.{block}
use Rattle.exo_tree.specs.PlainProcedure.{procedure}
use Rattle.exo_tree.specs.PlainUnit.{program}
use Rattle.c_tree.specs.Names.Binders.{c_names}
use Rattle.c_tree.specs.CTree.{cblock}
use Rattle.c_lowering.specs.Made.Lowered.{block_of}
use Rattle.c_lowering.specs.Made.LoweredUnit.{naming_in, formals_of}
use Rattle.c_tree.specs.Plain.{plain_param}
use Rattle.c_lowering.specs.Made.Lowered.{param_forms}
use Rattle.c_printer.proofs.functions.lower_function.Goals as goal

pub returns : goal.returns
returns c =
    let unit = program c.args.unit.now in
    let p = c.args.p.now in
    let table = c_names c.args.globals.now (procedure p) in
    let name : string_bytes c.in_ok-name.name ≡ p.name = c.in_ok-name.ensures.ok ∙ c.as_str.ensures in
    let params : map plain_param c.in_ok-params.params.items ≡ formals_of (naming_in unit table) p.params = c.in_ok-params.ensures ∙ ap₂ (λ t ps. formals_of (naming_in unit t) ps) c.in_ok-binders.ensures c.as_slice.ensures in
    let body : cblock c.in_ok-body.body ≡ block_of (naming_in unit table) (param_forms p.params) (block p.body) = c.in_ok-body.ensures ∙ ap (λ t. block_of (naming_in unit t) (param_forms p.params) (block p.body)) c.in_ok-binders.ensures in
    λ i. record { name = name i; formals = params i; body = body i }
