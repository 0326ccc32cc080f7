use Rattle.std.proofs.Common.{Some, ◌<◌, ◌≤◌, option_map, length, refl, ap, sym, ◌∙◌, arith}
use Rattle.std.proofs.lemmas.List.{length-map}
use Rattle.std.specs.Option.{option_copied}
use Rattle.exo_tree.specs.PlainProcedure.{procedure}
use Rattle.exo_modes.specs.Seen.{row_writes, rows_write}
use Rattle.exo_types.specs.Seen.{signature}
use Rattle.exo_types.proofs.Signatures.{signed, found_signature, no_row, no_procedure, get_read}
use Rattle.exo_types.proofs.context.Context.callee.Goals as goal

pub returns-then-self-number : goal.returns-then-self-number
returns-then-self-number c =
    let h : length (rows_write c.args.self.now.above.rows.now) ≤ c.args.number = omega (arith, c.if-self-number.true, length-map c.args.self.now.above.rows.now row_writes) in
    sym (no_row c.args.self.now.above.procs.now (rows_write c.args.self.now.above.rows.now) c.args.number h)

pub returns-in_err-procedure : goal.returns-in_err-procedure
returns-in_err-procedure c =
    let none = sym c.get.ensures ∙ ap (λ o. option_map procedure (option_copied o)) c.in_err-procedure.was in
    ap (option_map signature) c.from_residual.ensures ∙ sym (no_procedure c.args.self.now.above.procs.now (rows_write c.args.self.now.above.rows.now) c.args.number none)

pub returns : goal.returns
returns c =
    let h : c.args.number < length c.args.self.now.above.rows.now = omega (arith, c.if-self-number.false) in
    let found = sym c.get.ensures ∙ ap (λ o. option_map procedure (option_copied o)) c.in_ok-procedure.was in
    let given = get_read row_writes c.args.self.now.above.rows.now c.args.number c.index-self-number.result (rows_write c.args.self.now.above.rows.now) refl c.index-self-number.is h in
    ap (λ r. Some (signed (procedure c.in_ok-procedure.procedure.now) (row_writes r))) (sym c.index-self-number.is)
    ∙ sym (found_signature c.args.self.now.above.procs.now (rows_write c.args.self.now.above.rows.now) c.args.number (procedure c.in_ok-procedure.procedure.now) _ found given)
