-- What is found in `for i in seq(0, n): x[i] = 1`, where `n` is a size and `x` has n cells, and in
-- the same with one thing changed.
use Rattle.std.proofs.Common.{◌≡◌, ◌^◌, ℕ, pos, true, false, List, [], ◌∷◌, Option, None, refl, codes}
use Rattle.exo_tree.specs.Tree.{I32, Kind, Size, Control, Lit, Var, Mul, Div, Lt, Const, Assign, For}
use Rattle.exo_tree.specs.Tree.{Block, end, next, Param, ControlParam, TensorParam}
use Rattle.exo_meaning.specs.Calls.{Callee}
use Rattle.exo_meaning.specs.Units.{scope_of, plainly, with_fields, is_control, is_condition, is_block}
use Rattle.tree_findings.specs.declared.findings.Findings.{Findings}
use Rattle.tree_findings.specs.Classes.{fine}
use Rattle.tree_findings.specs.Findings.{findings_of_block}
use Rattle.tree_findings.specs.Obeys.{obeys}
use Rattle.tree_laws.proofs.OfFindings.Expressions.{control_law, condition_law}
use Rattle.tree_laws.proofs.OfFindings.Blocks.{obeys_law, exact_law}

abbrev no_fields : ℕ → Option Kind
no_fields f = None

abbrev no_callees : ℕ → Option Callee
no_callees k = None

abbrev params : List Param
params =
    record { binder = record { id = 0; name = codes "n" }; kind = ControlParam Size }
    ∷ record { binder = record { id = 1; name = codes "x" }; kind = TensorParam I32 (Var 0 ∷ []) 0 }
    ∷ []

-- the loop with that name for its variable, these bounds and that index
abbrev loop : List ℕ → Control → Control → Control → Block
loop name hi at lo = next (For (record { id = 2; name = name }) lo hi (next (Assign 1 (at ∷ []) (Const (pos 1))) end)) end

abbrev found : Block → Findings
found b = findings_of_block no_fields 1 no_callees (scope_of [] params) (λ x. x) b

nothing : found (loop (codes "i") (Var 0) (Var 2) (Lit (pos 0))) ≡ fine
nothing = refl

so_it_is_a_block : is_block no_fields 1 no_callees (scope_of [] params) (λ x. x) (loop (codes "i") (Var 0) (Var 2) (Lit (pos 0))) ≡ true
so_it_is_a_block = exact_law no_fields 1 no_callees (scope_of [] params) (λ x. x) (loop (codes "i") (Var 0) (Var 2) (Lit (pos 0))) refl

-- a name that is not in scope breaks no rule
unknown : found (loop (codes "i") (Var 0) (Var 7) (Lit (pos 0))) ≡ record fine { scope = false }
unknown = refl

taken : found (loop (codes "n") (Var 0) (Var 2) (Lit (pos 0))) ≡ record fine { names = false }
taken = refl

not_affine : found (loop (codes "i") (Mul (Var 0) (Var 0)) (Var 2) (Lit (pos 0))) ≡ record fine { rules = false }
not_affine = refl

too_large : found (loop (codes "i") (Var 0) (Var 2) (Lit (pos (2 ^ 31)))) ≡ record fine { limits = false }
too_large = refl

-- n / 2 keeps the rules of a bound, and n / 2 < n those of a condition
abbrev half : Control
half = Div (Var 0) (pos 2)

so_it_is_a_control : is_control no_fields plainly (scope_of [] params) half ≡ true
so_it_is_a_control = control_law no_fields plainly (scope_of [] params) half refl

so_it_is_a_condition : is_condition no_fields with_fields (scope_of [] params) (Lt half (Var 0)) ≡ true
so_it_is_a_condition = condition_law no_fields with_fields (scope_of [] params) (Lt half (Var 0)) refl

-- a loop over a name that is taken keeps all rules but the one on names
so_it_obeys : obeys no_fields 1 no_callees (scope_of [] params) (λ x. x) (loop (codes "n") (Var 0) (Var 2) (Lit (pos 0))) ≡ true
so_it_obeys = obeys_law no_fields 1 no_callees (scope_of [] params) (λ x. x) (loop (codes "n") (Var 0) (Var 2) (Lit (pos 0))) refl

and_is_no_block : is_block no_fields 1 no_callees (scope_of [] params) (λ x. x) (loop (codes "n") (Var 0) (Var 2) (Lit (pos 0))) ≡ false
and_is_no_block = refl
