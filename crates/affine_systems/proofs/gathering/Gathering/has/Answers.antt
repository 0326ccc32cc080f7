use Rattle.std.proofs.Common.{◌∙◌, sym}
use Rattle.affine_forms.specs.Atoms.{same_atom}
use Rattle.affine_forms.specs.PlainAtoms.{plain_atom}
use Rattle.affine_systems.proofs.Gathered.{any_here, any_next, any_end}
use Rattle.affine_systems.proofs.gathering.Gathering.has.Goals as goal

pub returns-then-branch : goal.returns-then-branch
returns-then-branch c = sym (c.loop-other.invariant ∙ any_here (same_atom (plain_atom c.args.atom.now)) _ c.loop-other.other-index c.other-item.result c.loop-other-test.true c.other-item.is (sym c.in_ok-same.ensures ∙ c.if-branch.true))

pub loop-other-preserved : goal.loop-other-preserved
loop-other-preserved c = c.loop-other.invariant ∙ any_next (same_atom (plain_atom c.args.atom.now)) _ c.loop-other.other-index c.other-item.result c.loop-other-test.true c.other-item.is (sym c.in_ok-same.ensures ∙ c.if-branch.false)

pub returns : goal.returns
returns c = sym (c.loop-other.invariant ∙ any_end (same_atom (plain_atom c.args.atom.now)) _ c.loop-other.other-index c.loop-other-test.false)
