-- What a step makes is a procedure of the unit.
use Rattle.std.proofs.Common.{◌≡◌, ◌^◌, ◌+◌, ℕ, nat_lt, nat_le, true, not, ◌&&◌, List, [], ◌∷◌, length, refl, ap, ap₂, ◌∙◌, arith}
use Rattle.std.specs.List.{list_all}
use Rattle.std.proofs.lemmas.Bool.{and_parts, leb-true, ltb-true, lt-ltb}
use Rattle.exo_tree.specs.Tree.{Param}
use Rattle.exo_tree.specs.Nodes.{nodes_in}
use Rattle.exo_meaning.specs.Run.{program_world}
use Rattle.exo_meaning.specs.Units.{scope_of, is_empty, is_short, is_condition, with_both, are_params, is_template, bound_ids, are_distinct, levels, field_kind}
use Rattle.tree_findings.specs.Classes.{both, rule, limit}
use Rattle.tree_findings.specs.Findings.{is_small_body, findings_of_block, findings_of_body}
use Rattle.tree_laws.specs.Findings.Versions.{IsProcedureOf, FoundIsProcedure, KeptLaw}
use Rattle.tree_laws.proofs.OfFindings.Parts.{kept_parts, split}
use Rattle.tree_laws.proofs.OfFindings.Blocks.{block_obeys, block_is}
use Rattle.tree_laws.proofs.OfFindings.Versions.{procedure_law, version_law}

below : (x m n : ℕ) → nat_lt x m ≡ true → nat_le m n ≡ true → nat_lt x n ≡ true
below x m n h k = lt-ltb x n (omega (arith, ltb-true x m h, leb-true m n k))

all_below : (m n : ℕ) → nat_le m n ≡ true → (xs : List ℕ) → list_all (λ x. nat_lt x m) xs ≡ true → list_all (λ x. nat_lt x n) xs ≡ true
all_below m n k [] h = refl
all_below m n k (x ∷ xs) h =
    let p = and_parts (nat_lt x m) (list_all (λ y. nat_lt y m) xs) h in
    let first = below x m n p.0 k in
    let rest = all_below m n k xs p.1 in
    λ i. first i && rest i

pub found_is_procedure : FoundIsProcedure
found_is_procedure unit k base p q is there head kept room =
    let old : IsProcedureOf unit p = procedure_law unit k p is there in
    let fields = field_kind unit.fields in
    let callees = (program_world unit).callees in
    let scope = scope_of [] q.params in
    let inside = findings_of_block fields (length unit.memories) callees scope (λ x. x) q.body in
    let all = kept_parts (both (findings_of_body unit q.params q.body) (limit (list_all (λ x. nat_lt x (base + 65536)) (bound_ids q)))) kept in
    let parts = split (findings_of_body unit q.params q.body) (limit (list_all (λ x. nat_lt x (base + 65536)) (bound_ids q))) all.0 in
    let body = split (both (rule (not (is_empty q.body))) (rule (are_distinct (bound_ids q))))
    (both (limit (is_short q.body && is_small_body q.body)) inside) parts.0 in
    let head_parts = split (rule (not (is_empty q.body))) (rule (are_distinct (bound_ids q))) body.0 in
    let block = split (limit (is_short q.body && is_small_body q.body)) inside body.1 in
    let names : inside.names ≡ true = (and_parts inside.names true all.1).0 in
    let small = and_parts (is_short q.body) (is_small_body q.body) block.0.limits in
    let path = and_parts (nat_lt (levels q.body) 33) (nat_lt (nodes_in q.body) 65537) small.1 in
    let filled : not (is_empty q.body) ≡ true = head_parts.0.rules in
    let short = small.0 in
    let obeyed = block_obeys fields (length unit.memories) callees scope (λ x. x) q.body block.1 in
    record {
      params = ap (are_params fields (length unit.memories) []) head.params ∙ old.params;
      asserts = ap₂ (λ (ps : List Param) as'. list_all (is_condition fields with_both (scope_of [] ps)) as') head.params head.asserts ∙ old.asserts;
      body = block_is fields (length unit.memories) callees scope (λ x. x) q.body block.1 names obeyed;
      filled = λ i. filled i && short i;
      ids = all_below (base + 65536) (2 ^ 31) room (bound_ids q) parts.1.limits;
      distinct = head_parts.1.rules;
      paths = path.0;
      template = ap₂ is_template head.params head.template ∙ old.template;
    }

pub kept_law : KeptLaw
kept_law unit k base p q is there head kept room more =
    version_law unit q is more (found_is_procedure unit k base p q is there head kept room)
