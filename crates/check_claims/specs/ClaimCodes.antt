-- The codes of claims.
use Rattle.std.specs.Prelude.{◌≡◌, ℕ}
use Rattle.std.specs.Coded.{Coded, coded×, coded_ℕ}
use Rattle.std.proofs.Common.{ap, arith}
use base.Stored.{Gv, gnum, gcons}
use Rattle.exo_tree.specs.Tree.{Condition}
use Rattle.exo_tree.specs.CodeParts.{right, tag}
use Rattle.exo_tree.specs.Codes.{condition_code, name_code}
use Rattle.text_show.specs.Layout.{Text}
use Rattle.check_claims.specs.Claim.{Claim, Is, Apart}

abbrev pub quoted_code : Coded (Condition × Text)
quoted_code = coded× condition_code name_code

abbrev pub pair_code : Coded (ℕ × ℕ)
pair_code = coded× coded_ℕ coded_ℕ

abbrev pub claim_of : Claim → Gv
claim_of (Is c text) = gcons (gnum 0) (quoted_code.code (c, text))
claim_of (Apart j k) = gcons (gnum 1) (pair_code.code (j, k))

pub same_claim : (s t : Claim) → claim_of s ≡ claim_of t → s ≡ t
same_claim (Is a v) (Is b w) p =
    let q = quoted_code.inj (a, v) (b, w) (ap right p) in λ i. Is (q i).0 (q i).1
same_claim (Apart i j) (Apart k l) p =
    let q = pair_code.inj (i, j) (k, l) (ap right p) in λ n. Apart (q n).0 (q n).1
same_claim _ _ p = let e = ap tag p in absurd (omega arith)

abbrev pub claim_code : Coded Claim
claim_code = record { code = claim_of; inj = same_claim }
