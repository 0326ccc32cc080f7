use Rattle.std.proofs.Common.{◌<◌, ◌≤◌, option_map, length, map, ap, sym, ◌∙◌, arith}
use Rattle.std.proofs.lemmas.List.{length-map}
use Rattle.std.specs.Option.{option_copied}
use Rattle.exo_tree.specs.PlainParam.{parameter}
use Rattle.exo_tree.specs.PlainArgument.{argument}
use Rattle.exo_tree.specs.PlainProcedure.{procedure}
use Rattle.exo_modes.specs.Marks.{together, argument_marks}
use Rattle.exo_modes.specs.Aliases.{roots_in}
use Rattle.exo_modes.specs.Seen.{row_says, rows_say}
use Rattle.exo_modes.proofs.Unions.{nothing_more}
use Rattle.exo_modes.proofs.Callees.{call_above, call_below, call_nowhere, modes_of_read}
use Rattle.exo_modes.proofs.Walks.{made_of}
use Rattle.exo_modes.proofs.walk.mark_call.Goals as goal

pub returns-then-above-index : goal.returns-then-above-index
returns-then-above-index c =
    let row = row_says c.args.row.now in
    let h : length (rows_say c.args.above.now.rows.now) ≤ c.args.k.0 = omega (arith, c.if-above-index.true, length-map c.args.above.now.rows.now row_says) in
    sym (nothing_more row) ∙ ap (together row) (sym (call_below c.args.above.now.procs.now (rows_say c.args.above.now.rows.now) c.args.k.0 (roots_in c.args.aliases.now) c.args.args.now h))

pub returns-in-None : goal.returns-in-None
returns-in-None c =
    let row = row_says c.args.row.now in
    let h : c.args.k.0 < length (rows_say c.args.above.now.rows.now) = omega (arith, c.if-above-index.false, length-map c.args.above.now.rows.now row_says) in
    let none = sym c.get.ensures ∙ ap (λ o. option_map procedure (option_copied o)) c.in-None.is in
    sym (nothing_more row) ∙ ap (together row) (sym (call_nowhere c.args.above.now.procs.now (rows_say c.args.above.now.rows.now) c.args.k.0 (roots_in c.args.aliases.now) c.args.args.now h none))

pub returns-in-Some : goal.returns-in-Some
returns-in-Some c =
    let row = row_says c.args.row.now in
    let root = roots_in c.args.aliases.now in
    let ps = c.args.above.now.procs.now in
    let rows = c.args.above.now.rows.now in
    let k = c.args.k.0 in
    let p = c.in-Some.p.now in
    let callee = c.index-above-index.result in
    let h : k < length rows = omega (arith, c.if-above-index.false) in
    let said : k < length (rows_say rows) = omega (arith, h, length-map rows row_says) in
    let found = sym c.get.ensures ∙ ap (λ o. option_map procedure (option_copied o)) c.in-Some.is in
    let given = modes_of_read row_says rows k callee c.index-above-index.is h in
    made_of c.mark_arguments.result (λ f. f) (row_says c.mark_arguments.new.row) _ _
    c.mark_arguments.ensures
    (ap (λ r. together row (argument_marks (row_says r) root (map parameter c.as_slice.result.now)
    (map argument c.as_slice-in-Some.result.now))) (sym c.index-above-index.is)
    ∙ ap (together row) (λ i. argument_marks (row_says callee) root (c.as_slice.ensures i)
    (c.as_slice-in-Some.ensures i))
    ∙ ap (λ f. together row (argument_marks f root p.params c.args.args.now)) (sym given)
    ∙ ap (together row)
    (sym (call_above ps (rows_say rows) k root c.args.args.now (procedure p) said found)))
