-- Control expressions written out from their normal forms.
use Rattle.std.specs.Prelude.{◌≡◌, ℕ, suc, ◌==◌, ℤ, pos, negsuc, Bool, true, false, ◌&&◌, not}
use Rattle.std.specs.Prelude.{if◌then◌else◌}
use Rattle.exo_tree.specs.Tree.{Control, Lit, Var, Field, StrideOf, Neg, Add, Sub, Mul, Div, Mod}
use Rattle.exo_meaning.specs.Scene.{Scene, number, stride_at}
use Rattle.affine_forms.specs.Atoms.{Atom, Variable, EntryField, UnknownField, OpaqueStride}
use Rattle.affine_forms.specs.Atoms.{Quotient, Terms, none, term, Linear, Valuation, value}
use Rattle.affine_forms.specs.Forms.{Reading, Allowed, is_affine, normal}
use Rattle.affine_forms.specs.Laws.{ReadsAt}

-- ---- sums without quotients as expressions

abbrev pub is_quotient : Atom → Bool
is_quotient (Variable x) = false
is_quotient (EntryField f kind) = false
is_quotient (UnknownField f kind path) = false
is_quotient (OpaqueStride x k) = false
is_quotient (Quotient n ts c) = true

abbrev pub is_without_quotients : Terms → Bool
is_without_quotients none = true
is_without_quotients (term c a ts) = not (is_quotient a) && is_without_quotients ts

-- a negative number is the negation of a literal
abbrev pub literal : ℤ → Control
literal (pos n) = Lit (pos n)
literal (negsuc n) = Neg (Lit (pos (suc n)))

-- an atom as an expression; a quotient is none, and is not asked for
abbrev pub atom_written : Atom → Control
atom_written (Variable x) = Var x
atom_written (EntryField f kind) = Field f
atom_written (UnknownField f kind path) = Field f
atom_written (OpaqueStride x k) = StrideOf x k
atom_written (Quotient n ts c) = literal n

-- c * v, or v for 1
abbrev pub weighed : ℕ → Control → Control
weighed c v = if c == 1 then v else Mul (Lit (pos c)) v

-- the first term: also -v, and -c * v
abbrev pub first_written : ℤ → Control → Control
first_written (pos c) v = weighed c v
first_written (negsuc c) v = if c == 0 then Neg v else Mul (Neg (Lit (pos (suc c)))) v

-- a later term is added or subtracted
abbrev pub term_joined : Control → ℤ → Control → Control
term_joined e (pos c) v = Add e (weighed c v)
term_joined e (negsuc c) v = Sub e (weighed (suc c) v)

abbrev pub terms_joined : Control → Terms → Control
terms_joined e none = e
terms_joined e (term c a ts) = terms_joined (term_joined e c (atom_written a)) ts

-- the constant stands behind the terms, where it is not 0
abbrev pub constant_joined : Control → ℤ → Control
constant_joined e (pos n) = if n == 0 then e else Add e (Lit (pos n))
constant_joined e (negsuc n) = Sub e (Lit (pos (suc n)))

abbrev pub sum_written : ℤ → Terms → Control
sum_written n none = literal n
sum_written n (term c a ts) =
    constant_joined (terms_joined (first_written c (atom_written a)) ts) n

abbrev pub written : Linear → Control
written l = sum_written l.constant l.terms

-- ---- simplified expressions

-- the normal form written out, where it has no quotient
abbrev pub written_or : Linear → Control → Control
written_or l e = if is_without_quotients l.terms then written l else e

-- else an expression keeps its top operator, and its operands are simplified
abbrev pub simplified : Reading → Control → Control
simplified at (Lit n) = written_or (normal at (Lit n)) (Lit n)
simplified at (Var x) = written_or (normal at (Var x)) (Var x)
simplified at (Field f) = written_or (normal at (Field f)) (Field f)
simplified at (StrideOf x k) = written_or (normal at (StrideOf x k)) (StrideOf x k)
simplified at (Neg a) = written_or (normal at (Neg a)) (Neg (simplified at a))
simplified at (Add a b) =
    written_or (normal at (Add a b)) (Add (simplified at a) (simplified at b))
simplified at (Sub a b) =
    written_or (normal at (Sub a b)) (Sub (simplified at a) (simplified at b))
simplified at (Mul a b) =
    written_or (normal at (Mul a b)) (Mul (simplified at a) (simplified at b))
simplified at (Div a c) = written_or (normal at (Div a c)) (Div (simplified at a) c)
simplified at (Mod a c) = written_or (normal at (Mod a c)) (Mod (simplified at a) c)

-- ---- numbers

-- each atom has the number that it has in the scene, where it is written out
abbrev pub values_in : Scene → Valuation
values_in scene = record {
  variable = λ x. scene.control x;
  entry = λ f kind. scene.fields f;
  unknown = λ f kind path. scene.fields f;
  stride = λ x k. stride_at scene (scene.views x) k;
}

abbrev pub WrittenLaw : Type 0
WrittenLaw =
    (scene : Scene) (l : Linear)
    → is_without_quotients l.terms ≡ true
    → number scene (written l) ≡ value (values_in scene) l

-- where what is read for variables, fields and strides has their numbers
abbrev pub SimplifiedLaw : Type 0
SimplifiedLaw =
    (may : Allowed) (at : Reading) (scene : Scene) (e : Control)
    → ReadsAt may (values_in scene) at scene
    → is_affine may e ≡ true
    → number scene (simplified at e) ≡ number scene e
