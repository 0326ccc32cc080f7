use Rattle.std.proofs.Common.{◌≡◌, ◌+◌, ◌*◌, ◌^◌, true, drop}
use Rattle.affine_forms.specs.Atoms.{terms_added}
use Rattle.affine_forms.specs.Forms.{are_within}
use Rattle.affine_forms.specs.PlainAtoms.{plain_terms}
use Rattle.affine_forms.proofs.atom.Terms.add.Given as goal

abbrev pub invariant-loop-w : goal.invariant-loop-w
invariant-loop-w l = record { sum : terms_added l.self (plain_terms (drop l.w-index l.w-items)) ≡ terms_added l.fn.self l.other; room : are_within (2 ^ 64 * (l.w-index + 1)) l.self ≡ true }
