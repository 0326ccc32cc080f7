-- Closed runs at the ends of what numbers, cells and scopes hold.
use Rattle.std.specs.Prelude.{◌≡◌, ℤ, pos, negsuc, [], ◌∷◌, codes}
use Rattle.exo_tree.specs.Tree.{I8, I32}
use Rattle.exo_meaning.specs.Value.{Value, Undefined, Number}
use Rattle.c_tree.specs.CTree.{Name, Single, Number64, Literal, Named, Opposite, Sum, Difference}
use Rattle.c_tree.specs.CTree.{Product, Quotient, Less, InArray, Number32, Literal32, Read32}
use Rattle.c_tree.specs.CTree.{Opposite32, Relu32, Sum32, Product32, Select32, CStatement, Store}
use Rattle.c_tree.specs.CTree.{AddTo, Branch, Loop, Array, Malloc, CBlock, stop, first}
use Rattle.c_unit_laws.specs.Follows.Machine.Machine.{Outcome, Done, Fault}
use Rattle.c_unit_laws.specs.Follows.Machine.Examples.{computed, x, w, first_cell, called, hold}

-- ---- control numbers

-- -2^63, which no literal is
abbrev pub least : Number64
least = Difference (Opposite (Literal (pos 9223372036854775807))) (Literal (pos 1))

pub record NumbersHave64Bits : Type 0 where
  pub greatest : computed (Literal (pos 9223372036854775807)) ≡ Done (pos 9223372036854775807)
  pub past_greatest : computed (Literal (pos 9223372036854775808)) ≡ Fault
  pub doubled : computed (Product (Literal (pos 4611686018427387904)) (Literal (pos 2))) ≡ Fault
  pub least_is : computed least ≡ Done (negsuc 9223372036854775807)
  pub past_least : computed (Difference least (Literal (pos 1))) ≡ Fault
  pub opposite : computed (Opposite least) ≡ Fault
  pub halved : computed (Quotient least (pos 2)) ≡ Done (negsuc 4611686018427387903)

-- ---- data

-- what `x[0] = (T)E;` leaves in an array of a cell
abbrev pub leaves32 : Number32 → Outcome Value
leaves32 e =
    first_cell
    (first (Array (Single I32) x (pos 1)) (first (Store I32 (InArray x (Literal (pos 0))) e) stop))

abbrev pub greatest32 : Number32
greatest32 = Literal32 (pos 2147483647)

pub record CellsHave32Bits : Type 0 where
  -- 2147483647 + 1 is -2147483648
  pub sum : leaves32 (Sum32 greatest32 (Literal32 (pos 1))) ≡ Done (Number (negsuc 2147483647))
  -- 65536 * 65536 is 0
  pub product :
      leaves32 (Product32 (Literal32 (pos 65536)) (Literal32 (pos 65536))) ≡ Done (Number (pos 0))
  pub opposite : leaves32 (Opposite32 (Literal32 (pos 1))) ≡ Done (Number (negsuc 0))
  -- -1 is below 0, though its bits are those of the greatest unsigned number
  pub relu : leaves32 (Relu32 (Opposite32 (Literal32 (pos 1)))) ≡ Done (Number (pos 0))
  pub select :
      leaves32 (Select32 (Opposite32 (Literal32 (pos 1))) (Literal32 (pos 0)) (Literal32 (pos 7))
      (Literal32 (pos 8)))
      ≡ Done (Number (pos 7))
  -- an undefined cell makes what is computed of it undefined
  pub undefined :
      leaves32 (Product32 (Literal32 (pos 0)) (Read32 (InArray x (Literal (pos 0)))))
      ≡ Done Undefined
  -- a cell of 8 bits takes what is added to it as such a number
  pub added :
      first_cell (first (Array (Single I8) x (pos 1))
      (first (Store I8 (InArray x (Literal (pos 0))) (Literal32 (pos 100)))
      (first (AddTo I8 (InArray x (Literal (pos 0))) (Literal32 (pos 100))) stop)))
      ≡ Done (Number (negsuc 55))

-- ---- cells of the caller, of which there are six that hold 1 to 6

abbrev pub i : Name
i = codes "i"

-- for (int64_t i = 0LL; i < HI; i++) { x[(exo_div((i - 5LL), 4LL) + 2LL)] = (int32_t)9u; }
abbrev pub quotients : ℤ → CBlock
quotients hi =
    first (Loop i (Literal (pos 0)) (Literal hi)
    (first
    (Store I32
    (InArray x (Sum (Quotient (Difference (Named i) (Literal (pos 5))) (pos 4)) (Literal (pos 2))))
    (Literal32 (pos 9))) stop)) stop

pub record CellsOfTheCaller : Type 0 where
  -- i - 5 is from -5 to 2, and so the indices are from 0 to 2
  pub three : called (quotients (pos 8)) ≡ hold (pos 9 ∷ pos 9 ∷ pos 9 ∷ pos 4 ∷ pos 5 ∷ pos 6 ∷ [])
  pub none : called (quotients (pos 0)) ≡ hold (pos 1 ∷ pos 2 ∷ pos 3 ∷ pos 4 ∷ pos 5 ∷ pos 6 ∷ [])
  -- at 21 turns the last one is in the seventh cell
  pub behind : called (quotients (pos 22)) ≡ Fault

-- ---- scopes

-- if (cond) { DECLARATION }, and then a store
abbrev pub in_branch : CStatement → CBlock → CBlock
in_branch a rest =
    first (Branch (Less (Literal (pos 0)) (Literal (pos 1))) (first a stop) stop) rest

abbrev pub put : Name → CBlock
put y = first (Store I32 (InArray y (Literal (pos 0))) (Literal32 (pos 9))) stop

pub record ScopesEnd : Type 0 where
  -- an array of the branch hides the caller's there, and not behind it
  pub hidden :
      called (in_branch (Array (Single I32) x (pos 1)) (put x))
      ≡ hold (pos 9 ∷ pos 2 ∷ pos 3 ∷ pos 4 ∷ pos 5 ∷ pos 6 ∷ [])
  pub gone : called (in_branch (Array (Single I32) w (pos 1)) (put w)) ≡ Fault
  pub heap_gone : called (in_branch (Malloc (Single I32) w (Literal (pos 1))) (put w)) ≡ Fault
