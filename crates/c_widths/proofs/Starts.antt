-- The names of a valid input are within the bounds of parameters.
use Rattle.std.proofs.Common.{◌≡◌, ◌≤◌, ◌-◌, ◌^◌, ℕ, ℤ, pos, negsuc, neg_ℤ, ◌≤ℤ◌, ◌==◌, Bool, true, false, if◌then◌else◌, List, [], ◌∷◌, refl, sym, subst, arith, true≢false, unsigned_abs, eqb-true}
use Rattle.std.proofs.lemmas.Int.{ints}
use Rattle.exo_tree.specs.Tree.{Size, Index, Truth, Stride, Param, ParamKind, ControlParam, TensorParam, WindowParam}
use Rattle.exo_meaning.specs.Scene.{Scene}
use Rattle.exo_meaning.specs.Inputs.{HasBounds, AreBounded}
use Rattle.c_widths.specs.Widths.{most_of_param, most_of}
use Rattle.c_widths.specs.Laws.{controls, StartLaw}
use Rattle.exo_meaning.specs.Units.{is_control_param}

-- ---- control parameters

kind_within : (scene : Scene) (x : ℕ) (kind : ParamKind) → HasBounds scene x kind → is_control_param kind ≡ true → unsigned_abs (scene.control x) ≤ most_of_param kind
kind_within scene x (ControlParam Size) b h = size_within (scene.control x) b.0 b.1
  where
    size_within : (z : ℤ) → pos 1 ≤ℤ z → z ≤ℤ pos (2 ^ 31 - 1) → unsigned_abs z ≤ 2 ^ 31 - 1
    size_within (pos n) l u = omega (arith, ints)
    size_within (negsuc n) l u = absurd (omega (arith, ints))
kind_within scene x (ControlParam Index) b h = index_within (scene.control x) b.0 b.1
  where
    index_within : (z : ℤ) → neg_ℤ (pos (2 ^ 31 - 1)) ≤ℤ z → z ≤ℤ pos (2 ^ 31 - 1) → unsigned_abs z ≤ 2 ^ 31 - 1
    index_within (pos n) l u = omega (arith, ints)
    index_within (negsuc n) l u = omega (arith, ints)
kind_within scene x (ControlParam Truth) b h = truth_within (scene.control x) b.0 b.1
  where
    truth_within : (z : ℤ) → pos 0 ≤ℤ z → z ≤ℤ pos 1 → unsigned_abs z ≤ 2 ^ 31 - 1
    truth_within (pos n) l u = omega (arith, ints)
    truth_within (negsuc n) l u = absurd (omega (arith, ints))
kind_within scene x (ControlParam Stride) b h = stride_small (scene.control x) b.0 b.1
  where
    stride_small : (z : ℤ) → pos 0 ≤ℤ z → z ≤ℤ pos (2 ^ 48) → unsigned_abs z ≤ 2 ^ 48
    stride_small (pos n) l u = omega (arith, ints)
    stride_small (negsuc n) l u = absurd (omega (arith, ints))
kind_within scene x (TensorParam cell dims memory) b h = absurd (true≢false (sym h))
kind_within scene x (WindowParam cell dims memory) b h = absurd (true≢false (sym h))

controls_within : (scene : Scene) (ps : List Param) → AreBounded scene ps → (x : ℕ) → controls ps x ≡ true → unsigned_abs (scene.control x) ≤ most_of ps x
controls_within scene [] b x h = absurd (true≢false (sym h))
controls_within scene (p ∷ ps) b x h = here (controls_within scene ps b.1 x) (x == p.binder.id) refl h
  where
    here : (controls ps x ≡ true → unsigned_abs (scene.control x) ≤ most_of ps x) → (t : Bool) → (x == p.binder.id) ≡ t → (if t then is_control_param p.kind else controls ps x) ≡ true → unsigned_abs (scene.control x) ≤ (if t then most_of_param p.kind else most_of ps x)
    here later true e g = subst (λ y. unsigned_abs (scene.control y) ≤ most_of_param p.kind) (sym (eqb-true x p.binder.id e)) (kind_within scene p.binder.id p.kind b.0 g)
    here later false e g = later g

-- ---- fields

field_within : (z : ℤ) → neg_ℤ (pos (2 ^ 48)) ≤ℤ z → z ≤ℤ pos (2 ^ 48) → unsigned_abs z ≤ 2 ^ 48
field_within (pos n) l u = omega (arith, ints)
field_within (negsuc n) l u = omega (arith, ints)

pub starts_within : StartLaw
starts_within world p s valid = record {
  control = controls_within s.scene p.params valid.bounded;
  fields = λ f. field_within (s.scene.fields f) (valid.fields f).0 (valid.fields f).1;
  strides = valid.strides;
}
