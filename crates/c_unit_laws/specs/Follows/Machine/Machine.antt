-- The C machine: what it holds, and what its expressions give.
use Rattle.std.specs.Prelude.{ℕ, zero, suc, ℤ, pos, negsuc, neg_ℤ, ◌+ℤ◌, ◌-ℤ◌, ◌*ℤ◌, int_lt, int_le}
use Rattle.std.specs.Prelude.{◌==◌, Bool, true, false, not, ◌&&◌, if◌then◌else◌, List, [], ◌∷◌}
use Rattle.std.specs.Prelude.{Option, Some, None}
use Rattle.std.specs.Int.{int_div_euclid, int_rem_euclid}
use Rattle.std.specs.Ordering.{int_eq}
use Rattle.exo_tree.specs.Tree.{Cell, I32}
use Rattle.exo_meaning.specs.Value.{Value, Undefined, Number, wrap}
use Rattle.exo_meaning.specs.Units.{same_cell}
pub use Rattle.c_tree.specs.Names.Words.{same_name}
use Rattle.c_tree.specs.CTree.{Name, Number64, Literal, Named, StrideIn, Opposite, Sum, Difference}
use Rattle.c_tree.specs.CTree.{Product, Quotient, Remainder, Test, Always, Never, IsSet, Less}
use Rattle.c_tree.specs.CTree.{LessEqual, More, MoreEqual, Equal, Both, Either, CellRef, InArray}
use Rattle.c_tree.specs.CTree.{InWindow, Number32, Literal32, Read32, Opposite32, Relu32, Sum32}
use Rattle.c_tree.specs.CTree.{Difference32, Product32, Select32}

-- done, fault, or an allocation for which there is no store
pub data Outcome (A : Type 0) : Type 0 where
  Done : A → Outcome A
  Fault NoStore : Outcome A

abbrev pub after : {A B : Type 0} → Outcome A → (A → Outcome B) → Outcome B
after (Done a) f = f a
after Fault f = Fault
after NoStore f = NoStore

abbrev pub where_good : {A : Type 0} → Bool → Outcome A → Outcome A
where_good true o = o
where_good false o = Fault

-- ---- what the machine holds

pub record Pointer : Type 0 where
  pub object : ℕ
  pub offset : ℤ

-- what a name stands for
pub data Thing : Type 0 where
  IsNumber : ℤ → Thing
  IsField IsFunction : Thing
  IsArray : Pointer → Thing
  IsVectors : Pointer → ℕ → Thing
  IsWindow : Pointer → List ℤ → Thing

pub record Object : Type 0 where
  pub cell : Cell
  pub size : ℤ
  pub heap : Bool

-- all but the contents of cells; objects are numbered by depth, and those from `free` on are not
-- there yet
pub record Setting : Type 0 where
  pub names : Name → Option Thing
  pub objects : ℕ → Option Object
  pub free : ℕ
  pub fields : Name → ℤ

pub record Machine : Type 0 where
  pub setting : Setting
  pub contents : ℕ → ℤ → Value

abbrev pub named : {A : Type 0} → (Name → A) → Name → A → Name → A
named f x a y = if same_name y x then a else f y

abbrev pub with_thing : Name → Thing → Setting → Setting
with_thing x t s = record s { names = named s.names x (Some t) }

-- what is declared stands for nothing yet where its own first value is computed
abbrev pub hiding : Name → Setting → Setting
hiding x s = record s { names = named s.names x None }

-- ---- 64-bit numbers

abbrev pub fits64 : ℤ → Bool
fits64 z = int_le (negsuc 9223372036854775807) z && int_le z (pos 9223372036854775807)

abbrev pub checked : ℤ → Outcome ℤ
checked z = where_good (fits64 z) (Done z)

abbrev pub number_under : (Name → ℤ) → Name → Option Thing → Outcome ℤ
number_under fields x (Some (IsNumber n)) = Done n
number_under fields x (Some IsField) = Done (fields x)
number_under fields x _ = Fault

-- that of the number k; a fault where there are not so many
abbrev pub stride_in : List ℤ → ℕ → Outcome ℤ
stride_in [] k = Fault
stride_in (t ∷ ts) zero = Done t
stride_in (t ∷ ts) (suc k) = stride_in ts k

abbrev pub stride_under : Option Thing → ℕ → Outcome ℤ
stride_under (Some (IsWindow p strides)) k = stride_in strides k
stride_under _ k = Fault

-- both sides, and then an operation whose result must fit
abbrev pub on_both : (ℤ → ℤ → ℤ) → Outcome ℤ → Outcome ℤ → Outcome ℤ
on_both f o p = after o (λ m. after p (λ n. checked (f m n)))

abbrev pub number64 : Setting → Number64 → Outcome ℤ
number64 s (Literal n) = checked n
number64 s (Named x) = number_under s.fields x (s.names x)
number64 s (StrideIn w k) = stride_under (s.names w) k
number64 s (Opposite a) = after (number64 s a) (λ m. checked (neg_ℤ m))
number64 s (Sum a b) = on_both ◌+ℤ◌ (number64 s a) (number64 s b)
number64 s (Difference a b) = on_both ◌-ℤ◌ (number64 s a) (number64 s b)
number64 s (Product a b) = on_both ◌*ℤ◌ (number64 s a) (number64 s b)
number64 s (Quotient a c) =
    where_good (int_le (pos 1) c) (after (number64 s a) (λ m. checked (int_div_euclid m c)))
number64 s (Remainder a c) =
    where_good (int_le (pos 1) c) (after (number64 s a) (λ m. checked (int_rem_euclid m c)))

abbrev pub all_numbers64 : Setting → List Number64 → Outcome (List ℤ)
all_numbers64 s [] = Done []
all_numbers64 s (a ∷ rest) =
    after (number64 s a) (λ n. after (all_numbers64 s rest) (λ ns. Done (n ∷ ns)))

-- ---- tests

abbrev pub compared : (ℤ → ℤ → Bool) → Outcome ℤ → Outcome ℤ → Outcome Bool
compared f o p = after o (λ m. after p (λ n. Done (f m n)))

-- the right side is not looked at where the left decides
abbrev pub unless_false : Bool → Outcome Bool → Outcome Bool
unless_false true o = o
unless_false false o = Done false

abbrev pub unless_true : Bool → Outcome Bool → Outcome Bool
unless_true true o = Done true
unless_true false o = o

abbrev pub test : Setting → Test → Outcome Bool
test s Always = Done true
test s Never = Done false
test s (IsSet x) = after (number_under s.fields x (s.names x)) (λ n. Done (not (int_eq n (pos 0))))
test s (Less a b) = compared int_lt (number64 s a) (number64 s b)
test s (LessEqual a b) = compared int_le (number64 s a) (number64 s b)
test s (More a b) = compared (λ m n. int_lt n m) (number64 s a) (number64 s b)
test s (MoreEqual a b) = compared (λ m n. int_le n m) (number64 s a) (number64 s b)
test s (Equal a b) = compared int_eq (number64 s a) (number64 s b)
test s (Both a b) = after (test s a) (λ t. unless_false t (test s b))
test s (Either a b) = after (test s a) (λ t. unless_true t (test s b))

-- ---- cells

abbrev pub moved : Pointer → ℤ → Pointer
moved p k = record p { offset = p.offset +ℤ k }

abbrev pub in_object : Option Object → ℤ → Bool
in_object None k = false
in_object (Some o) k = int_le (pos 0) k && int_lt k o.size

abbrev pub inside : Setting → Pointer → Outcome Pointer
inside s p = where_good (in_object (s.objects p.object) p.offset) (Done p)

-- a cell of an array, a cell under a window, and the first cell of a vector
abbrev pub from_array : Option Thing → ℤ → Outcome Pointer
from_array (Some (IsArray p)) k = Done (moved p k)
from_array _ k = Fault

abbrev pub from_window : Option Thing → ℤ → Outcome Pointer
from_window (Some (IsWindow p strides)) k = Done (moved p k)
from_window _ k = Fault

abbrev pub from_elements : Option Thing → ℤ → Outcome Pointer
from_elements (Some (IsVectors p lanes)) k = Done (moved p (k *ℤ pos lanes))
from_elements held k = from_array held k

-- where a cell lies; a fault where that is in no object
abbrev pub spot_by : (Option Thing → ℤ → Outcome Pointer) → Setting → CellRef → Outcome Pointer
spot_by from s (InArray x off) = after (number64 s off) (λ k. after (from (s.names x) k) (inside s))
spot_by from s (InWindow w off) =
    after (number64 s off) (λ k. after (from_window (s.names w) k) (inside s))

abbrev pub spot : Setting → CellRef → Outcome Pointer
spot = spot_by from_array

-- an object of cells of that type is there
abbrev pub holds_cells : Option Object → Cell → Bool
holds_cells None cell = false
holds_cells (Some o) cell = same_cell o.cell cell

-- a cell of that type
abbrev pub typed_spot : Cell → Setting → CellRef → Outcome Pointer
typed_spot cell s ref =
    after (spot s ref) (λ p. where_good (holds_cells (s.objects p.object) cell) (Done p))

abbrev pub is_spot : Pointer → ℕ → ℤ → Bool
is_spot p o k = (o == p.object) && int_eq k p.offset

abbrev pub with_change : (ℕ → ℤ → Value) → Pointer → (Value → Value) → ℕ → ℤ → Value
with_change contents p f o k = if is_spot p o k then f (contents o k) else contents o k

-- ---- unsigned 32-bit numbers

abbrev pub unsigned : ℤ → ℤ
unsigned z = int_rem_euclid z (pos 4294967296)

abbrev pub with_one : (ℤ → ℤ) → Value → Value
with_one f Undefined = Undefined
with_one f (Number m) = Number (unsigned (f m))

abbrev pub with_two : (ℤ → ℤ → ℤ) → Value → Value → Value
with_two f Undefined v = Undefined
with_two f (Number m) Undefined = Undefined
with_two f (Number m) (Number n) = Number (unsigned (f m n))

abbrev pub with_four : (ℤ → ℤ → ℤ → ℤ → ℤ) → Value → Value → Value → Value → Value
with_four f Undefined v y z = Undefined
with_four f (Number k) Undefined y z = Undefined
with_four f (Number k) (Number l) Undefined z = Undefined
with_four f (Number k) (Number l) (Number m) Undefined = Undefined
with_four f (Number k) (Number l) (Number m) (Number n) = Number (unsigned (f k l m n))

-- `exo_relu` and `exo_select`
abbrev pub relu32 : ℤ → ℤ
relu32 x = if int_lt (pos 0) (wrap I32 x) then x else pos 0

abbrev pub select32 : ℤ → ℤ → ℤ → ℤ → ℤ
select32 x v y z = if int_lt (wrap I32 x) (wrap I32 v) then y else z

-- `(uint32_t)CELL`
abbrev pub as_unsigned : Value → Value
as_unsigned = with_one (λ n. n)

-- A literal is one of data, and so below 2 ^ 32, where `nu` is of this type. A read asks for no
-- type of cell as a store does: a name stands for an array or a window of its own type.
abbrev pub number32 : Machine → Number32 → Outcome Value
number32 m (Literal32 n) = Done (Number (unsigned n))
number32 m (Read32 ref) =
    after (spot m.setting ref) (λ p. Done (as_unsigned (m.contents p.object p.offset)))
number32 m (Opposite32 a) = after (number32 m a) (λ u. Done (with_one (λ x. pos 0 -ℤ x) u))
number32 m (Relu32 a) = after (number32 m a) (λ u. Done (with_one relu32 u))
number32 m (Sum32 a b) =
    after (number32 m a) (λ u. after (number32 m b) (λ v. Done (with_two ◌+ℤ◌ u v)))
number32 m (Difference32 a b) =
    after (number32 m a) (λ u. after (number32 m b) (λ v. Done (with_two ◌-ℤ◌ u v)))
number32 m (Product32 a b) =
    after (number32 m a) (λ u. after (number32 m b) (λ v. Done (with_two ◌*ℤ◌ u v)))
number32 m (Select32 a b c d) =
    after (number32 m a) (λ x. after (number32 m b) (λ v.
    after (number32 m c) (λ y. after (number32 m d) (λ z. Done (with_four select32 x v y z)))))
