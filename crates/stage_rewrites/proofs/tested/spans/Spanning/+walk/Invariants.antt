use Rattle.std.proofs.Common.{◌≡◌, drop, map}
use Rattle.exo_tree.specs.Tree.{block}
use Rattle.exo_tree.specs.PlainControl.{control, coordinate}
use Rattle.alloc_laws.specs.Goes.Fits.{has_spans}
use Rattle.stage_rewrites.proofs.tested.spans.Spanning.+walk.Given as goal

abbrev pub invariant-block_spans-loop-k : goal.invariant-block_spans-loop-k
invariant-block_spans-loop-k l =
    let spans =
    has_spans l.self.root.0 (map control l.self.dims.now) (map coordinate l.self.coords.now) in
    spans (block l.b) ≡ spans (block (drop l.k l.b))
