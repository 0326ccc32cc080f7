use Rattle.std.proofs.Common.{◌∙◌, sym, arith}
use Rattle.affine_forms.specs.Atoms.{same_atom}
use Rattle.affine_forms.specs.PlainAtoms.{plain_atom}
use Rattle.affine_systems.proofs.Gathered.{number_here, number_next, number_end}
use Rattle.affine_systems.proofs.numbering.number_of.Goals as goal

pub returns-then-branch : goal.returns-then-branch
returns-then-branch c = sym (c.loop-k.invariant.place ∙ number_here (same_atom (plain_atom c.args.atom.now)) c.args.atoms.now c.loop-k.k c.index-atoms-k.result c.loop-k-test.true c.index-atoms-k.is (sym c.in_ok-same.ensures ∙ c.if-branch.true))

pub loop-k-preserved : goal.loop-k-preserved
loop-k-preserved c = record {
  place = c.loop-k.invariant.place ∙ number_next (same_atom (plain_atom c.args.atom.now)) c.args.atoms.now c.loop-k.k c.index-atoms-k.result c.loop-k-test.true c.index-atoms-k.is (sym c.in_ok-same.ensures ∙ c.if-branch.false);
  inside = omega (arith, c.loop-k-test.true);
}

pub returns : goal.returns
returns c = sym (c.loop-k.invariant.place ∙ number_end (same_atom (plain_atom c.args.atom.now)) c.args.atoms.now c.loop-k.k (omega (arith, c.loop-k-test.false, c.loop-k.invariant.inside)))
