use Rattle.std.proofs.Common.{sym}
use Rattle.affine_forms.proofs.TermLists.{joined_none}
use Rattle.affine_forms.proofs.atom.Terms.push_if.Goals as goal

pub returns-else-wanted : goal.returns-else-wanted
returns-else-wanted c = rw c.if-wanted.false (sym (joined_none c.args.self.now))
