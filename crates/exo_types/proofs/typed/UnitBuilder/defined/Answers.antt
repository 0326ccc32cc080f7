use Rattle.std.proofs.Common.{ap, refl}
use Rattle.exo_modes.specs.Seen.{rows_write}
use Rattle.exo_types.specs.declared.context.Context.{Context}
use Rattle.exo_types.specs.Walks.{signatures_by}
use Rattle.exo_reader.specs.Views.{plain_definition}
use Rattle.exo_types.proofs.Broken.{exit}
use Rattle.exo_types.proofs.Added.{here_refused, here_made}
use Rattle.exo_types.proofs.Procedures.{few_memories, few_procedures}
use Rattle.exo_types.proofs.typed.UnitBuilder.defined.Goals as goal

pub definition_of-requires : goal.definition_of-requires
definition_of-requires c =
    let d = plain_definition c.args.definition.now in
    record {
      ids = c.requires.few.ids;
      tokens = c.requires.places.tokens;
      few = c.requires.places.few;
      memories = few_memories c.args.self.now c.args.places.now c.args.n d c.requires.agrees c.requires.few c.requires.places;
      procedures = few_procedures c.args.self.now c.args.places.now c.args.n d c.requires.agrees c.requires.few c.requires.places;
    }

pub returns-in_err-made-clause-made : goal.returns-in_err-made-clause-made
returns-in_err-made-clause-made c = λ above s.
    let t = c.args.self.now in
    let context : Context = record {
      alloc = c.args.alloc;
      places = c.args.places;
      fields = record { ref_ptr = (0, 0); now = t.fields };
      memories = record { ref_ptr = (0, 0); now = t.memories };
      procedures = record { ref_ptr = (0, 0); now = t.procedures };
      above = record { procs = record { ref_ptr = (0, 0); now = t.unit.procs }; rows = c.deref.result };
    } in
    exit _ _ _ _ c.from_residual.ensures.1
    (here_refused t above c.requires.agrees s context c.args.places.now c.args.n (plain_definition c.args.definition.now) _
    (record { all_places = refl; fields = refl; memories = refl; procedures = refl; signatures = ap (λ r. signatures_by c.args.self.now.unit.procs (rows_write r)) c.deref.ensures.value })
    c.in_err-made.ensures)

pub returns-clause-made : goal.returns-clause-made
returns-clause-made c = λ above s.
    here_made c.args.self.now above c.requires.agrees s _ c.args.places.now c.args.template c.args.n _ (plain_definition c.args.definition.now)
    (record { all_places = refl; fields = refl; memories = refl; procedures = refl; signatures = ap (λ r. signatures_by c.args.self.now.unit.procs (rows_write r)) c.deref.ensures.value })
    c.in_ok-made.ensures
