-- Codes and plain forms of facts.
use Rattle.std.specs.Prelude.{◌≡◌, ℕ}
use Rattle.std.specs.Coded.{Coded, coded_ℕ, coded×, code_by}
use Rattle.std.proofs.Common.{ap, arith, refl}
use base.Stored.{Gv, gnum, gcons}
use Rattle.exo_tree.specs.Codes.{argument_code}
use Rattle.exo_tree.specs.CodeParts.{right, tag}
use Rattle.affine_forms.specs.AtomCodes.{code_path, same_path}
use Rattle.affine_places.specs.Facts.{Fact, Known, UnknownAt, FieldFact}

abbrev pub code_fact : Fact → Gv
code_fact (Known a) = gcons (gnum 0) (argument_code.code a)
code_fact (UnknownAt p) = gcons (gnum 1) (code_path p)

pub same_fact : (s t : Fact) → code_fact s ≡ code_fact t → s ≡ t
same_fact (Known a) (Known b) p = ap Known (argument_code.inj a b (ap right p))
same_fact (UnknownAt p) (UnknownAt q) e = ap UnknownAt (same_path p q (ap right e))
same_fact _ _ p = let e = ap tag p in absurd (omega arith)

abbrev pub fact_code : Coded Fact
fact_code = record { code = code_fact; inj = same_fact }

abbrev pub entry_code : Coded FieldFact
entry_code = code_by (ℕ × Fact) (coded× coded_ℕ fact_code) (λ e. (e.field, e.fact)) (λ p. record { field = p.0; fact = p.1 }) (λ _. refl)
