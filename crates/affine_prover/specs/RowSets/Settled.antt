-- Rows that normalizing leaves as they are, so that a stage need not look at them again.
use Rattle.std.specs.Prelude.{◌≡◌, false, not, if◌then◌else◌, List, [], ◌∷◌, map, Option, Some, None}
use Rattle.std.specs.List.{AllByRecursion, filter, fold, list_any}
use Rattle.affine_forms.specs.Affine.{Affine}
use Rattle.affine_prover.specs.RowSets.Rows.{gcd_of, same_list, tightened, joined, is_constant}
use Rattle.affine_prover.specs.RowSets.Rows.{is_false}

-- the gcd of the coefficients is 1
abbrev pub IsTight : Affine → Type 0
IsTight r = gcd_of r.coefficients ≡ 1

-- the two rows have different coefficients
abbrev pub DiffersFrom : Affine → Affine → Type 0
DiffersFrom r s = same_list r.coefficients s.coefficients ≡ false

-- no two of the rows have the same coefficients
abbrev pub AreDifferent : List Affine → Type 0
AreDifferent [] = Unit {0}
AreDifferent (r ∷ rs) = AllByRecursion (DiffersFrom r) rs × AreDifferent rs

-- each row is tight, and no two have the same coefficients: normalizing leaves them as they are
abbrev pub AreSettled : List Affine → Type 0
AreSettled rows = AllByRecursion IsTight rows × AreDifferent rows

-- further rows tightened and merged behind rows that are kept, without those that hold everywhere, or None where one of them cannot hold
unfoldable pub normalized_onto : List Affine → List Affine → Option (List Affine)
normalized_onto kept rows =
    let tight = map tightened rows in
    if list_any is_false tight then None else Some (fold joined kept (filter (λ r. not (is_constant r)) tight))
