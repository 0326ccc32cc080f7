-- The law of calls in place, at a call.
use Rattle.std.proofs.Common.{◌≡◌, ℕ, ℤ, pos, ◌==◌, Bool, true, false, not, cond, ◌||◌, List, [], ◌∷◌, Option, Some, None, IsSome, option_map, refl, sym, ap, ◌∙◌, subst, true≢false, eqb-true}
use Rattle.exo_tree.specs.Tree.{Binder, I8, Size, Index, Lit, Var, Const, Span, Argument, ControlArg, Window, ControlParam, WindowParam, Procedure, Assign, For, end, next}
use Rattle.exo_meaning.specs.Value.{Value, Undefined, Number}
use Rattle.exo_meaning.specs.Scene.{Shape, Seen, Range}
use Rattle.exo_meaning.specs.State.{State, scoped, on_scene}
use Rattle.exo_meaning.specs.Calls.{Given, GivenNumber, GivenView, all_given, entered, returned}
use Rattle.exo_meaning.specs.Run.{World, run, callee_in, world_of, call_to}
use Rattle.std.specs.Int.{int_wrap}
use Rattle.exo_meaning.proofs.Windows.{none_is_some, one_value}
use Rattle.inplace_laws.specs.CallInPlace.{bound, MayRunInPlace}
use Rattle.inplace_laws.proofs.CallInPlace.{call_in_place}

abbrev pub binder : ℕ → Binder
binder n = record { id = n; name = [] }

-- def q(n: size, w: [i8][n]): for i in seq(0, n): w[i] = 5
abbrev pub q : Procedure
q = record {
  name = [];
  template = None;
  params = record { binder = binder 0; kind = ControlParam Size } ∷ record { binder = binder 1; kind = WindowParam I8 (Var 0 ∷ []) 0 } ∷ [];
  asserts = [];
  body = next (For (binder 2) (Lit (pos 0)) (Var 0) (next (Assign 1 (Var 2 ∷ []) (Const (pos 5))) end)) end;
}

abbrev pub world : World
world = world_of (λ f. Index) []

abbrev pub four : Shape
four = record { cell = I8; dims = pos 4 ∷ []; strides = pos 1 ∷ [] }

abbrev pub all_of : Seen
all_of = record { buffer = 10; sides = Range (pos 0) (pos 4) ∷ [] }

-- a buffer x of four cells, number 10
abbrev pub s : State
s = record {
  scene = record { control = λ x. pos 0; buffers = λ b. cond (b == 10) (Some four) None; views = λ x. cond (x == 10) (Some all_of) None; fields = λ f. pos 0 };
  cells = λ b at. Undefined;
}

-- q(2, x[1:3])
abbrev pub args : List Argument
args = ControlArg (Lit (pos 2)) ∷ Window 10 (Span (Lit (pos 1)) (Lit (pos 3)) ∷ []) ∷ []

abbrev pub part : Seen
part = record { buffer = 10; sides = Range (pos 1) (pos 2) ∷ [] }

abbrev gs : List Given
gs = GivenNumber (pos 2) ∷ GivenView part ∷ []

abbrev hidden : ℕ → Bool
hidden x = not ((x == 0) || ((x == 1) || (x == 2)))

not_ten : (x : ℕ) → hidden x ≡ false → (t : Bool) → (x == 10) ≡ t → t ≡ false
not_ten x k false e = refl
not_ten x k true e = absurd (true≢false (sym (ap hidden (eqb-true x 10 e)) ∙ k))

given_is : all_given s.scene args ≡ Some gs
given_is = refl

pub may : MayRunInPlace hidden world q gs s
may = record {
  sound = record { tidy = λ b e at. refl; seen = λ x z e. there x z (x == 10) e };
  names = refl;
  unbound = λ x k. record {
    control = refl;
    buffers = ap (λ t. cond t (Some four) None) (not_ten x k (x == 10) refl);
    views = ap (λ t. cond t (Some all_of) None) (not_ten x k (x == 10) refl);
  };
  params = λ x k. (shown (x == 0) (x == 1) (x == 2) k, refl);
  distinct = (refl, (refl, tt));
  types = (tt, ((four, refl, refl), tt));
}
  where
    there : (x : ℕ) (z : Seen) (t : Bool) → cond t (Some all_of) None ≡ Some z → IsSome (s.scene.buffers z.buffer)
    there x z true e = subst (λ (o : Seen). IsSome (s.scene.buffers o.buffer)) (one_value all_of z e) refl
    there x z false e = absurd (none_is_some e)

    shown : (a b c : Bool) → (a || (b || false)) ≡ true → not (a || (b || c)) ≡ false
    shown true b c k = refl
    shown false true c k = refl
    shown false false c k = absurd (true≢false (sym k))

    second : (b : ℕ) (z : Seen) (t r : Bool) → (b == 1) ≡ r → cond {A = Option Seen} t None (cond {A = Option Seen} r (Some part) None) ≡ Some z → b ≡ 1
    second b z true r k e = absurd (none_is_some e)
    second b z false true k e = eqb-true b 1 k
    second b z false false k e = absurd (none_is_some e)

-- the copying call stores 5 in x[2] and leaves x[3]
abbrev cell_after : Option State → ℤ → Option Value
cell_after o i = option_map (λ (t : State). t.cells 10 (i ∷ [])) o

copies : (inner : State) → entered q.params gs s ≡ Some inner → option_map (returned (callee_in world q) gs s) (run world q.body inner) ≡ scoped (λ t. run world q.body (on_scene (bound q.params gs) t)) s
copies inner e = call_in_place hidden world q args gs s inner may refl given_is e

in_x2 : cell_after (scoped (λ t. run world q.body (on_scene (bound q.params gs) t)) s) (pos 2) ≡ Some (Number (pos 5))
unfolding int_wrap
in_x2 = refl

in_x3 : cell_after (call_to (Some (callee_in world q)) args s) (pos 3) ≡ Some Undefined
unfolding int_wrap
in_x3 = refl

by_copies : cell_after (call_to (Some (callee_in world q)) args s) (pos 2) ≡ Some (Number (pos 5))
unfolding int_wrap
by_copies = refl
