-- The plain form of an allocation.
use Rattle.exo_tree.specs.PlainBinder.{binding, cell_type}
use Rattle.buffer_laws.specs.Buffers.{Buffer}
use Rattle.buffer_rewrites.specs.declared.allocations.AllocAt.{AllocAt}

abbrev pub plain_alloc : AllocAt → Buffer
plain_alloc x = record {
  binder = binding x.binder.now;
  cell = cell_type x.cell;
  dims = x.dims.now;
  memory = x.memory.0;
}
