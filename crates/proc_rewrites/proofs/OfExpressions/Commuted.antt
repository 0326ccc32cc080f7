-- What is answered where a match is found, and where none is.
use Rattle.std.proofs.Common.{◌≡◌, ℕ, ◌+◌, ◌<◌, Bool, true, false, Option, Some, None, refl, sym, ap, ◌∙◌}
use Rattle.std.proofs.Common.{if◌then◌else◌, arith}
use Rattle.std.proofs.lemmas.Bool.Decides.{nat_tests}
use Rattle.std.specs.Prelude.{nat_lt, option_map, option_and_then}
use Rattle.exo_tree.specs.Tree.{Datum, Block, end}
use Rattle.exo_tree.specs.Places.{Path, Opened, opened}
use Rattle.cursor_forward.specs.Search.Patterns.{ExprPattern}
use Rattle.cursor_forward.specs.Causes.{Cause, WrongShape}
use Rattle.step_rules.specs.Rule.{Got, Not, Target}
use Rattle.step_rules.specs.Shapes.{tried, one_statement}
use Rattle.step_driver.specs.Outcomes.{RefusedBy}
use Rattle.step_driver.specs.Spots.{or_nothing, spot_at}
use Rattle.proc_laws.specs.Expression.Exchange.{Operation, matches, exchanged}
use Rattle.proc_laws.specs.Expression.Commute.{operation_of, commuted_by, commuted}
use Rattle.proc_rewrites.specs.Expressions.Exchanging.{Exchanges}

-- ---- what is made of what is found

pub tried_as : {T U : Type 0} (o : Option T) (make : T → U) (x : T) → tried o (λ a. a) ≡ Got x
    → tried o make ≡ Got (make x)
tried_as None make x h = cc
tried_as (Some a) make x h = let same : a ≡ x = cc in ap (λ b. Got (make b)) same

pub refused_as : {T U : Type 0} (o : Option T) (make : T → U) (why : Option Cause)
    → RefusedBy (tried o (λ a. a)) why → RefusedBy (tried o make) why
refused_as o make None h = tt
refused_as None make (Some cause) h = let same : WrongShape ≡ cause = cc in ap Not same
refused_as (Some a) make (Some cause) h = cc

-- what was found, by what was made
pub found_again : {T U V : Type 0} (o : Option T) (make : T → U) (other : V) (y : U) → tried o make ≡ Got y
    → tried o (λ a. other) ≡ Got other
found_again None make other y h = cc
found_again (Some a) make other y h = refl

pub tried_map : {T U : Type 0} (o : Option T) (make : T → U)
    → tried (option_map make o) (λ a. a) ≡ tried o make
tried_map None make = refl
tried_map (Some a) make = refl

-- ---- one statement

there : {T : Type 0} (read : Block → Option T) (o : Option Opened) → read end ≡ None
    → option_and_then (λ (p : Opened). read p.piece) o ≡ read (or_nothing o).piece
there read None h = sym h
there read (Some p) h = refl

pub one_tried : {T : Type 0} (read : Block → Option T) (t : Target) (at : Path) → read end ≡ None
    → one_statement read t at
    ≡ tried (read (spot_at t (record { path = at; count = 1 })).opened.piece) (λ x. record { path = at; count = 1 })
one_tried read t at h =
    ap (λ o. tried o (λ x. record { path = at; count = 1 })) (there read (opened 1 at t.proc.body) h)

-- ---- right sides

module _ (x : ExprPattern) (e : Datum) where
  pub commuted_none : None ≡ operation_of x.form → tried (commuted x e) (λ d. d) ≡ Not WrongShape
  commuted_none h = ap (λ o. tried (option_and_then (commuted_by x.nth e) o) (λ d. d)) (sym h)

  module _ (o : Operation) (found : Some o ≡ operation_of x.form) where
    by_operation : (t : Bool) → nat_lt x.nth (matches o e) ≡ t
        → tried (commuted x e) (λ d. d) ≡ tried (if t then Some (exchanged o e x.nth) else None) (λ d. d)
    by_operation t h =
        ap (λ p. tried (option_and_then (commuted_by x.nth e) p) (λ d. d)) (sym found)
        ∙ ap (λ (u : Bool). tried (if u then Some (exchanged o e x.nth) else None) (λ d. d)) h

    below : (k n : ℕ) → k < n → nat_lt k n ≡ true
    below k n h = grind (arith, nat_tests)

    not_below : (k n m : ℕ) → k ≡ n + m → nat_lt k n ≡ false
    not_below k n m h = grind (arith, nat_tests)

    pub commuted_found : (left : ℕ) (d : Datum) → Exchanges o x.nth e true left d
        → tried (commuted x e) (λ d. d) ≡ Got d
    commuted_found left d h =
        by_operation true (below x.nth (matches o e) h.0) ∙ ap Got (sym h.1)

    pub commuted_not : (left : ℕ) (d : Datum) → Exchanges o x.nth e false left d
        → tried (commuted x e) (λ d. d) ≡ Not WrongShape
    commuted_not left d h = by_operation false (not_below x.nth (matches o e) left h.0)
