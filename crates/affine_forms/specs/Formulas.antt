-- What is known and what is claimed of control values, as formulas over atoms.
use Rattle.std.specs.Prelude.{ℕ, ℤ, pos, negsuc, ◌-ℤ◌, Bool, true, ◌&&◌, ◌||◌, int_le, int_lt}
use Rattle.std.specs.Prelude.{◌^◌, ◌-◌, List, [], ◌∷◌, ◌++◌, map}
use Rattle.std.specs.List.{flat_map}
use Rattle.std.specs.Ordering.{int_eq}
use Rattle.exo_tree.specs.Tree.{Condition, True, False, Flag, FieldFlag, Lt, Le, Gt, Ge, Eq, And}
use Rattle.exo_tree.specs.Tree.{Or}
use Rattle.affine_forms.specs.Atoms.{Linear, Valuation, value, Variable, only, constantly, scaled}
use Rattle.affine_forms.specs.Atoms.{subtracted}
use Rattle.affine_forms.specs.Forms.{Reading, normal, without_zeros, Allowed, anything, is_affine}
use Rattle.affine_forms.specs.Forms.{is_writable}

pub data Constraint : Type 0 where
  AtLeastZero IsZero : Linear → Constraint

pub data Formula : Type 0 where
  Says : Constraint → Formula
  Both Either : Formula → Formula → Formula

-- ---- of control expressions

abbrev pub row : Linear → Formula
row l = Says (AtLeastZero l)

-- l less a number
abbrev pub moved : ℤ → Linear → Linear
moved n l = record l { constant = l.constant -ℤ n }

-- one form less another, without the terms that cancel
abbrev pub difference : Linear → Linear → Linear
difference k l = without_zeros (subtracted k l)

abbrev pub less : Linear → Linear → Formula
less a b = row (moved (pos 1) (difference b a))

abbrev pub at_most : Linear → Linear → Formula
at_most a b = row (difference b a)

abbrev pub equal : Linear → Linear → Formula
equal a b = Says (IsZero (difference a b))

-- ---- of conditions

-- what stands for each variable and each field of kind bool
pub record Flags : Type 0 where
  pub variable : ℕ → Formula
  pub field : ℕ → Formula

abbrev pub own_flag : ℕ → Formula
own_flag x = row (moved (pos 1) (only (Variable x)))

abbrev pub formula : Reading → Flags → Condition → Formula
formula at flags True = row (constantly (pos 0))
formula at flags False = row (constantly (negsuc 0))
formula at flags (Flag x) = flags.variable x
formula at flags (FieldFlag f) = flags.field f
formula at flags (Lt a b) = less (normal at a) (normal at b)
formula at flags (Le a b) = at_most (normal at a) (normal at b)
formula at flags (Gt a b) = less (normal at b) (normal at a)
formula at flags (Ge a b) = at_most (normal at b) (normal at a)
formula at flags (Eq a b) = equal (normal at a) (normal at b)
formula at flags (And c d) = Both (formula at flags c) (formula at flags d)
formula at flags (Or c d) = Either (formula at flags c) (formula at flags d)

-- the same of conditions, with the names and fields of kind bool that may stand in them
pub record AllowedFlags : Type 0 where
  pub numbers : Allowed
  pub variable : ℕ → Bool
  pub field : ℕ → Bool

abbrev pub is_affine_condition : AllowedFlags → Condition → Bool
is_affine_condition may True = true
is_affine_condition may False = true
is_affine_condition may (Flag x) = may.variable x
is_affine_condition may (FieldFlag f) = may.field f
is_affine_condition may (Lt a b) = is_affine may.numbers a && is_affine may.numbers b
is_affine_condition may (Le a b) = is_affine may.numbers a && is_affine may.numbers b
is_affine_condition may (Gt a b) = is_affine may.numbers a && is_affine may.numbers b
is_affine_condition may (Ge a b) = is_affine may.numbers a && is_affine may.numbers b
is_affine_condition may (Eq a b) = is_affine may.numbers a && is_affine may.numbers b
is_affine_condition may (And c d) = is_affine_condition may c && is_affine_condition may d
is_affine_condition may (Or c d) = is_affine_condition may c && is_affine_condition may d

-- ---- what does not hold

abbrev pub denied : Constraint → Formula
denied (AtLeastZero l) = row (moved (pos 1) (scaled (negsuc 0) l))
denied (IsZero l) = Either (row (moved (pos 1) (scaled (negsuc 0) l))) (row (moved (pos 1) l))

abbrev pub negation : Formula → Formula
negation (Says c) = denied c
negation (Both f g) = Either (negation f) (negation g)
negation (Either f g) = Both (negation f) (negation g)

-- ---- truth

abbrev pub is_kept : Valuation → Constraint → Bool
is_kept v (AtLeastZero l) = int_le (pos 0) (value v l)
is_kept v (IsZero l) = int_eq (value v l) (pos 0)

abbrev pub is_met : Valuation → Formula → Bool
is_met v (Says c) = is_kept v c
is_met v (Both f g) = is_met v f && is_met v g
is_met v (Either f g) = is_met v f || is_met v g

abbrev pub all_met : Valuation → List Formula → Bool
all_met v [] = true
all_met v (f ∷ fs) = is_met v f && all_met v fs

abbrev pub all_kept : Valuation → List Constraint → Bool
all_kept v [] = true
all_kept v (c ∷ cs) = is_kept v c && all_kept v cs

-- ---- cases

-- each case of the first with each of the second
abbrev pub product : List (List Constraint) → List (List Constraint) → List (List Constraint)
product xs ys = flat_map (λ x. map (λ y. x ++ y) ys) xs

abbrev pub cases : Formula → List (List Constraint)
cases (Says c) = (c ∷ []) ∷ []
cases (Both f g) = product (cases f) (cases g)
cases (Either f g) = cases f ++ cases g

abbrev pub cases_of_all : List Formula → List (List Constraint)
cases_of_all [] = [] ∷ []
cases_of_all (f ∷ fs) = product (cases f) (cases_of_all fs)

-- ---- widths

-- the constant of a row is at least -2^64 and less than 2^64, so that of its negation is too
abbrev pub is_row_constant : ℤ → Bool
is_row_constant k = int_le (negsuc (2 ^ 64 - 1)) k && int_lt k (pos (2 ^ 64))

-- the normal forms of all sides can be written down, and so can what stands for its fields
abbrev pub is_writable_condition : Reading → (ℕ → Bool) → Condition → Bool
is_writable_condition at fits True = true
is_writable_condition at fits False = true
is_writable_condition at fits (Flag x) = true
is_writable_condition at fits (FieldFlag f) = fits f
is_writable_condition at fits (Lt a b) = is_writable at a && is_writable at b
is_writable_condition at fits (Le a b) = is_writable at a && is_writable at b
is_writable_condition at fits (Gt a b) = is_writable at b && is_writable at a
is_writable_condition at fits (Ge a b) = is_writable at b && is_writable at a
is_writable_condition at fits (Eq a b) = is_writable at a && is_writable at b
is_writable_condition at fits (And c d) = is_writable_condition at fits c && is_writable_condition at fits d
is_writable_condition at fits (Or c d) = is_writable_condition at fits c && is_writable_condition at fits d

-- each side of a comparison keeps the rules
abbrev pub condition_keeps_rules : Condition → Bool
condition_keeps_rules c = is_affine_condition (record { numbers = anything; variable = λ x. true; field = λ f. true }) c
