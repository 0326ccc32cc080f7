use Rattle.std.proofs.Common.{◌∷◌, [], ◌++◌, false, sym, subst}
use Rattle.std.specs.Prelude.{replicate}
use Rattle.exo_tree.specs.PlainProcedure.{procedure}
use Rattle.meaning_laws.specs.Fields.{writes_field}
use Rattle.config_state.specs.FieldSets.{Marked, in_table}
use Rattle.schedule_run.specs.Running.{AreWrites}
use Rattle.schedule_run.proofs.Lists.{on_ok}
use Rattle.schedule_run.proofs.Writing.{more_writes}
use Rattle.schedule_run.proofs.writes.add_writes.Goals as goal

pub returns : goal.returns
returns c =
    let n = c.args.fields in
    let p = procedure c.args.p.now in
    let table = c.args.table.now in
    let set = c.add_written.new.set in
    let marked : Marked (λ f. writes_field (in_table table) f p.body) (replicate n false) set =
    subst (λ s. Marked (λ f. writes_field (in_table table) f p.body) s set) c.in_ok-set.ensures
    c.add_written.ensures in
    on_ok c.push.result
    (λ pushed ps are.
    subst (AreWrites n (ps ++ p ∷ [])) (sym pushed) (more_writes n ps p table set marked are))
    c.push.ensures.pushed
