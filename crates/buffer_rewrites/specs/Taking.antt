-- What a walk does that takes a part of an expression out.
use Rattle.std.specs.Prelude.{◌≡◌, ℕ, Bool, true, false}
use Rattle.exo_tree.specs.Tree.{Datum, Const, Read, Negated, Relu, Plus, Minus, Times, Select}
use Rattle.buffer_laws.specs.Bound.{filled}
use Rattle.alloc_laws.specs.Bind.Binding.{Form, is_read, is_sum, is_difference, is_product}
use Rattle.alloc_laws.specs.Bind.Binding.{Sought, Found, Left}

-- the expression itself is one of those that are looked for
abbrev pub is_one : Form → Datum → Bool
is_one f (Const n) = false
is_one f (Read y is) = is_read f y
is_one f (Negated a) = false
is_one f (Relu a) = false
is_one f (Plus a b) = is_sum f
is_one f (Minus a b) = is_difference f
is_one f (Times a b) = is_product f
is_one f (Select a b c d) = false

-- where the part is there, it and the one that was held change places; else all stays, and so many
-- are left to be passed over
abbrev pub TakesSo : Sought → Datum → Datum → Bool → ℕ → Datum → Datum → Type 0
TakesSo (Found p) e held true left new now = (new ≡ filled p.hole held) × (now ≡ p.datum)
TakesSo (Found p) e held false left new now = true ≡ false
TakesSo (Left k) e held true left new now = true ≡ false
TakesSo (Left k) e held false left new now = (left ≡ k) × (new ≡ e) × (now ≡ held)

pub record Takes (s : Sought) (e held : Datum) (took : Bool) (left : ℕ) (new now : Datum) :
    Type 0 where
  pub so : TakesSo s e held took left new now
