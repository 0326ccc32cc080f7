use Rattle.schedule_laws.proofs.OfOperators.Lawful.{operators_are_lawful}
use Rattle.schedule_laws.proofs.operators.laws.operators_are_lawful.Goals as goal

pub returns : goal.returns
returns c =
    operators_are_lawful c.told_fields_are_there.ensures
    (record {
      reorder_loops = c.reorders_are_lawful.ensures;
      divide = λ d outer inner. c.divisions_are_lawful.ensures d;
      cut = c.cuts_are_lawful.ensures;
      join = c.joined_loops_are_lawful.ensures;
      mult = λ name is. c.multiplications_are_lawful.ensures name;
      shift = c.shifts_are_lawful.ensures;
      fission = c.fissions_are_lawful.ensures;
      fuse = c.fusions_are_lawful.ensures;
      unroll = c.unrolled_loops_are_lawful.ensures;
      remove = c.removed_loops_are_lawful.ensures;
      lift = c.lifted_scopes_are_lawful.ensures;
      specialize = c.specialized_blocks_are_lawful.ensures;
      empty_loop = c.empty_loops_are_lawful.ensures;
      keep = c.kept_branches_are_lawful.ensures;
      reorder_statements = c.exchanged_statements_are_lawful.ensures;
      commute = c.exchanges_are_lawful.ensures;
      delete_pass = c.deleted_passes_are_lawful.ensures;
      rename = λ name is. c.names_are_lawful.ensures name;
      memory = c.memories_are_lawful.ensures;
      delete_buffer = c.deletions_are_lawful.ensures;
      lift_alloc = c.lifted_allocations_are_lawful.ensures;
      expand = c.expansions_are_lawful.ensures;
      bind = λ f k name is. c.bindings_are_lawful.ensures f k name;
      stage = λ count w is. c.stagings_are_lawful.ensures count w;
      inline_window = c.inlined_windows_are_lawful.ensures;
      inline = c.inlined_calls_are_lawful.ensures;
      replace = c.replacements_are_lawful.ensures;
      simplify = c.simplifications_are_lawful.ensures;
      write_field = c.writes_are_lawful.ensures;
      delete_field = c.deletions_are_lawful-2.ensures;
      bind_field = c.bindings_are_lawful-2.ensures;
      version = c.versions_are_lawful.ensures;
    })
