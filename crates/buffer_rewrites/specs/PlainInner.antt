-- The plain forms of a loop or a branch, and of an allocation in it.
use Rattle.std.specs.Prelude.{suc, take, drop, Some, None}
use Rattle.exo_tree.specs.Tree.{For, If, block}
use Rattle.exo_tree.specs.PlainControl.{condition}
use Rattle.step_targets.specs.PlainLoop.{plain_loop}
use Rattle.alloc_laws.specs.Lifting.{Inner, Lifting}
use Rattle.buffer_rewrites.specs.PlainAlloc.{plain_alloc}
use Rattle.buffer_rewrites.specs.declared.inners.InnerAt.{InnerAt}
use Rattle.buffer_rewrites.specs.declared.inners.InnerAt.TheVariants.{OfLoop, OfMain, OfElse}
use Rattle.buffer_rewrites.specs.declared.found.LiftingAt.{LiftingAt}

abbrev pub plain_inner : InnerAt → Inner
plain_inner (OfLoop l) = record {
  block = (plain_loop l).body;
  put = λ d. For (plain_loop l).binder (plain_loop l).lo (plain_loop l).hi d;
  other = None;
}
plain_inner (OfMain c a b) = record {
  block = block a.now;
  put = λ d. If (condition c.now) d (block b.now);
  other = Some (block b.now);
}
plain_inner (OfElse c a b) = record {
  block = block b.now;
  put = λ d. If (condition c.now) (block a.now) d;
  other = Some (block a.now);
}

abbrev pub plain_lifting : LiftingAt → Lifting
plain_lifting l = record {
  inner = plain_inner l.inner;
  before = block (take l.index l.block.now);
  buffer = plain_alloc l.buffer;
  behind = block (drop (suc l.index) l.block.now);
}
