-- Expressions and blocks that are simplified, and the laws at small ones.
use Rattle.std.proofs.Common.{◌≡◌, ℕ, ℤ, pos, ◌+ℤ◌, ◌*ℤ◌, Bool, true, false, true≢false, []}
use Rattle.std.proofs.Common.{◌∷◌, None, refl, ap, subst, arith}
use Rattle.std.proofs.lemmas.Int.{ints}
use Rattle.exo_tree.specs.Tree.{Binder, I32, Index, Control, Lit, Var, Field, StrideOf, Neg, Add}
use Rattle.exo_tree.specs.Tree.{Sub}
use Rattle.exo_tree.specs.Tree.{Mul, Div, Mod, Const, TensorParam, Procedure, Statement}
use Rattle.exo_tree.specs.Tree.{Assign, Reduce, Config, Pass, If, For, Alloc, View, Call, Block}
use Rattle.exo_tree.specs.Tree.{end}
use Rattle.exo_tree.specs.Tree.{next}
use Rattle.exo_tree.specs.Context.{Context, Here, After, InLoop, InThen, InElse, fill}
use Rattle.exo_meaning.specs.Scene.{Scene, number}
use Rattle.exo_meaning.specs.State.{State}
use Rattle.exo_meaning.specs.Run.{World, run, unit_world}
use Rattle.exo_meaning.specs.Inputs.{Refines}
use Rattle.affine_forms.specs.Atoms.{Variable, EntryField, OpaqueStride, only, value}
use Rattle.affine_forms.specs.Forms.{Reading, Allowed, normal}
use Rattle.affine_forms.specs.Laws.{ReadsAt}
use Rattle.inplace_laws.specs.Along.{SameAlong}
use Rattle.match_laws.specs.Simplify.Simplified.{simplified, written, values_in}
use Rattle.match_laws.specs.Simplify.SameControls.{OfStatement, OfEach, HasSameNumber, in_block}
use Rattle.match_laws.specs.Simplify.SimplifiedBlocks.{simplified_block, simplified_procedure, standing}
use Rattle.match_laws.specs.Simplify.SimplifiedBlocks.{IsRead}
use Rattle.match_laws.proofs.OfSimplify.Simplified.{written_law, simplified_law}
use Rattle.match_laws.proofs.OfSimplify.SameControls.{same_controls_along}
use Rattle.match_laws.proofs.OfSimplify.SimplifiedBlocks.{simplified_along, simplified_run_law}
use Rattle.match_laws.proofs.OfSimplify.SimplifiedBlocks.{simplify_refines}

-- each variable, field and stride is read as itself
abbrev own : Reading
own = record {
  variable = λ x. only (Variable x);
  field = λ f. only (EntryField f Index);
  stride = λ x k. only (OpaqueStride x k);
  field_fits = λ f. true;
  stride_fits = λ x k. true;
}

abbrev number_of : ℕ → Control
number_of n = Lit (pos n)

-- ---- the variables i, j, k

abbrev i : Control
i = Var 0

abbrev j : Control
j = Var 1

abbrev k : Control
k = Var 2

zero_goes : simplified own (Add (number_of 0) i) ≡ i
zero_goes = refl

the_variable_first : simplified own (Sub (number_of 7) i) ≡ Add (Neg i) (number_of 7)
the_variable_first = refl

the_constant_last : simplified own (Add (number_of 1) k) ≡ Add k (number_of 1)
the_constant_last = refl

offsets_cancel : simplified own (Sub (Add (Mul (number_of 8) i) j) j) ≡ Mul (number_of 8) i
offsets_cancel = refl

-- N - 1 stays, and 2 * (0 + 3) is 6
ends_stay : simplified own (Sub k (number_of 1)) ≡ Sub k (number_of 1)
ends_stay = refl

turns_are_numbers : simplified own (Mul (number_of 2) (Add (number_of 0) (number_of 3)))
    ≡ number_of 6
turns_are_numbers = refl

-- 8 * i + 8
tiles_stay : simplified own (Add (Mul (number_of 8) i) (number_of 8))
    ≡ Add (Mul (number_of 8) i) (number_of 8)
tiles_stay = refl

nothing_is_left : simplified own (Sub k k) ≡ number_of 0
nothing_is_left = refl

below_zero : simplified own (Sub (number_of 2) (number_of 5)) ≡ Neg (number_of 3)
below_zero = refl

-- 3 * j - 2 * k - 2 * j - 1
terms_join : simplified own (Sub (Sub (Sub (Mul (number_of 3) j) (Mul (number_of 2) k))
    (Mul (number_of 2) j)) (number_of 1)) ≡ Sub (Sub j (Mul (number_of 2) k)) (number_of 1)
terms_join = refl

-- 3 * j - 2 * k - 5 * j + 5
a_negative_one_first : simplified own (Add (Sub (Sub (Mul (number_of 3) j)
    (Mul (number_of 2) k)) (Mul (number_of 5) j)) (number_of 5))
    ≡ Add (Sub (Mul (Neg (number_of 2)) j) (Mul (number_of 2) k)) (number_of 5)
a_negative_one_first = refl

whole_quotients_go : simplified own (Div (Mul (number_of 4) i) (pos 4)) ≡ i
whole_quotients_go = refl

-- a quotient stays, with its operand simplified
quotients_stay : simplified own (Add (Mod (Add (number_of 0) i) (pos 8)) (Sub (number_of 1) k))
    ≡ Add (Mod i (pos 8)) (Add (Neg k) (number_of 1))
quotients_stay = refl

fields_and_strides : simplified own (Add (StrideOf 3 1) (Add (Field 0) (StrideOf 3 1)))
    ≡ Add (Mul (number_of 2) (StrideOf 3 1)) (Field 0)
fields_and_strides = refl

-- for i in seq(0, 0 + 4): A[0 + i, 8 - 1] = 5
abbrev binder : ℕ → Binder
binder n = record { id = n; name = [] }

abbrev filled : Control → Control → Control → Block
filled n a b = next (For (binder 0) (number_of 0) n
    (next (Assign 4 (a ∷ b ∷ []) (Const (pos 5))) end)) end

fill_is_simplified : simplified_block own
    (filled (Add (number_of 0) (number_of 4)) (Add (number_of 0) i)
    (Sub (number_of 8) (number_of 1)))
    ≡ filled (number_of 4) i (number_of 7)
fill_is_simplified = refl

-- ---- the laws

itself : (n : ℤ) → pos 0 +ℤ ((pos 1 *ℤ n) +ℤ pos 0) ≡ n
itself n = omega (arith, ints)

reads : (may : Allowed) (scene : Scene) → ReadsAt may (values_in scene) own scene
reads may scene = record {
  variables = λ x h. itself (scene.control x);
  fields = λ f h. itself (scene.fields f);
  strides = λ x d h. itself ((values_in scene).stride x d);
}

same_seven : (scene : Scene)
    → number scene (simplified own (Sub (number_of 7) i)) ≡ number scene (Sub (number_of 7) i)
same_seven scene =
    simplified_law (standing scene) own scene (Sub (number_of 7) i) (reads (standing scene) scene)
    refl

written_seven : (scene : Scene) → number scene (written (normal own (Sub (number_of 7) i)))
    ≡ value (values_in scene) (normal own (Sub (number_of 7) i))
written_seven scene = written_law scene (normal own (Sub (number_of 7) i)) refl

-- x[7 - i] = 5
abbrev store : Statement
store = Assign 4 (Sub (number_of 7) i ∷ []) (Const (pos 5))

abbrev alone : Block
alone = next store end

abbrev is_end : Block → Bool
is_end end = true
is_end (next a b) = false

abbrev first_of : Block → Statement
first_of end = store
first_of (next a b) = a

abbrev rest_after : Block → Block
rest_after end = end
rest_after (next a b) = b

abbrev is_store : Statement → Bool
is_store (Assign x is e) = true
is_store (Reduce x is e) = false
is_store (Config f a) = false
is_store Pass = false
is_store (If c a b) = false
is_store (For x lo hi b) = false
is_store (Alloc x cell dims memory) = false
is_store (View w x cs) = false
is_store (Call p args) = false

never_end : (c : Context) (d : Statement) → is_end (fill c (next d end)) ≡ false
never_end (Here rest) d = refl
never_end (After a c) d = refl
never_end (InLoop x lo hi c rest) d = refl
never_end (InThen t c other rest) d = refl
never_end (InElse t other c rest) d = refl

-- the only statement is the store
only_store : (c : Context) (d : Statement) → alone ≡ fill c (next d end) → store ≡ d
only_store (Here rest) d same = ap first_of same
only_store (After a c) d same =
    absurd (true≢false (subst (λ b. true ≡ b) (never_end c d)
    (ap (λ b. is_end (rest_after b)) same)))
only_store (InLoop x lo hi c rest) d same =
    absurd (true≢false (ap (λ b. is_store (first_of b)) same))
only_store (InThen t c other rest) d same =
    absurd (true≢false (ap (λ b. is_store (first_of b)) same))
only_store (InElse t other c rest) d same =
    absurd (true≢false (ap (λ b. is_store (first_of b)) same))

abbrev world : World
world = unit_world (λ f. Index) []

all_read : (s : State) → OfEach world (IsRead own) alone s
all_read s c d u same come =
    subst (λ e. OfStatement (IsRead own u.scene) e) (only_store c d same)
    (((reads (standing u.scene) u.scene, refl), tt), tt)

numbers_stay : (s : State) → OfEach world (HasSameNumber (simplified own)) alone s
numbers_stay s c d u same come =
    subst (λ e. OfStatement (HasSameNumber (simplified own) u.scene) e) (only_store c d same)
    ((same_seven u.scene, tt), tt)

along : (s : State) → SameAlong world alone (in_block (simplified own) alone) s
along s = same_controls_along world (simplified own) alone s (numbers_stay s)

simplified_store : (s : State) → SameAlong world alone (simplified_block own alone) s
simplified_store s = simplified_along world own alone s (all_read s)

same_run : (s : State) → run world alone s ≡ run world (simplified_block own alone) s
same_run s = simplified_run_law world own alone s (all_read s)

-- x: i32[8]
abbrev p : Procedure
p = record {
  name = [];
  params = (record { binder = binder 4; kind = TensorParam I32 (number_of 8 ∷ []) 0 }) ∷ [];
  asserts = [];
  body = alone;
  template = None;
}

refined : Refines world p (simplified_procedure own p) []
refined = simplify_refines world own p (λ s good. all_read s)
