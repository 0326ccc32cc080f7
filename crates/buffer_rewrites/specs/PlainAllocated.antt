-- The plain form of an allocation with what follows it.
use Rattle.std.specs.Prelude.{drop}
use Rattle.exo_tree.specs.Tree.{block}
use Rattle.alloc_laws.specs.Expanding.{Allocated}
use Rattle.buffer_rewrites.specs.PlainAlloc.{plain_alloc}
use Rattle.buffer_rewrites.specs.declared.found.AllocatedAt.{AllocatedAt}

abbrev pub plain_allocated : AllocatedAt → Allocated
plain_allocated x = record {
  buffer = plain_alloc x.buffer;
  rest = block (drop 1 x.block.now);
}
