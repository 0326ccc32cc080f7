-- What is known where a shape is found.
use Rattle.std.proofs.Common.{◌≡◌, Bool, true, false, ◌&&◌, Option, Some, None, refl, sym, ap}
use Rattle.std.proofs.Common.{subst, if◌then◌else◌}
use Rattle.exo_tree.specs.Tree.{Statement, Pass, Block, end, next}
use Rattle.exo_tree.specs.Context.{Context, Here}
use Rattle.tree_edits.specs.Made.Passes.{or_pass, is_alone}
use Rattle.cursor_forward.specs.Forwards.{bone, more, none, Carries}
use Rattle.cursor_forward.specs.Shifts.{stays}
use Rattle.step_rules.specs.Rule.{Got}
use Rattle.step_rules.specs.Shapes.{tried, alone_in}

-- what something was made of
pub record IsMadeOf {T U : Type 0} (o : Option T) (make : T → U) (y : U) : Type 0 where
  pub of : T
  pub found : o ≡ Some of
  pub made : make of ≡ y

pub made_of : {T U : Type 0} (o : Option T) (make : T → U) (y : U) → tried o make ≡ Got y
    → IsMadeOf o make y
made_of None make y h = cc
made_of (Some x) make y h = record { of = x; found = refl; made = cc }

pub alone_is : (b : Block) (a : Statement) → alone_in b ≡ Some a → b ≡ next a end
alone_is end a h = cc
alone_is (next b end) a h = cc
alone_is (next b (next c rest)) a h = cc

-- ---- shifts

pub or_pass_next : (c : Context) (a : Statement) (b : Block) → or_pass c (next a b) ≡ next a b
or_pass_next c a b = by (is_alone c)
  where
    by : (t : Bool) → (if t && false then next Pass end else next a b) ≡ next a b
    by true = refl
    by false = refl

-- one statement stays where it is, with what is below it
pub one_stays : (c : Context) (a b : Statement) → bone a ≡ bone b
    → Carries (stays 1) (next a end) (or_pass c (next b end))
one_stays c a b h =
    subst (Carries (stays 1) (next a end)) (sym (or_pass_next c b end)) (
      record {
        was = record { around = Here end; piece = next a end };
        is = record { around = Here end; piece = next b end };
        before = refl;
        after = refl;
        alike = ap (λ x. more x none) h;
      },
      tt,
    )
