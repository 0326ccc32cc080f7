use Rattle.std.proofs.Common.{◌∙◌, ◌++◌, [], ◌∷◌, ap, arith}
use Rattle.c_tree.specs.CTree.{Free, cblock}
use Rattle.c_lowering.specs.Naming.{naming_of}
use Rattle.c_lowering.proofs.Frames.{freed_more, all_freed}
use Rattle.c_lowering.proofs.blocks.put_frees.Goals as goal

pub loop-k-preserved : goal.loop-k-preserved
loop-k-preserved c = freed_more (naming_of c.args.names.now) c.args.buffers.now c.loop-k.k _ c.loop-k.made c.push.new.self _ (omega arith) (c.in_ok-push.ensures.pushed ∙ ap (λ x. c.loop-k.made ++ Free x ∷ []) c.in_ok-name.ensures) c.loop-k.invariant

pub returns : goal.returns
returns c = all_freed (naming_of c.args.names.now) c.args.buffers.now c.loop-k.k (cblock c.loop-k.made) _ (omega arith) c.loop-k.invariant
