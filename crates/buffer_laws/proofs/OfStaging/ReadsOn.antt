-- A block that writes nothing of a window's buffer, with another buffer in its place.
use Rattle.std.proofs.Common.{◌≡◌, ◌==◌, ◌||◌, ◌&&◌, cond, ℕ, Bool, true, false, true≢false, List}
use Rattle.std.proofs.Common.{[], ◌∷◌, Option, Some, None, refl, sym, ap, ◌∙◌, eqb-true}
use Rattle.std.proofs.Common.{eq-eqb}
use Rattle.exo_tree.specs.Tree.{Coord, Argument, ControlArg, ConditionArg, Whole}
use Rattle.exo_tree.specs.Tree.{Window, Param, Statement, Assign, Reduce, Config, Pass, If, For}
use Rattle.exo_tree.specs.Tree.{Alloc, View, Call, Block, end, next}
use Rattle.exo_meaning.specs.Scene.{updated}
use Rattle.exo_meaning.specs.Calls.{Callee}
use Rattle.exo_meaning.specs.Run.{World, writes, step_writes, roots_after, is_root, call_writes}
use Rattle.exo_meaning.specs.Run.{call_to_writes}
use Rattle.exo_meaning.specs.Unseen.{in_control, in_controls, in_condition, in_datum, in_coords}
use Rattle.exo_meaning.specs.Unseen.{in_argument, in_arguments, in_statement, in_block as mentions}
use Rattle.exo_meaning.proofs.Frame.{or_parts, updated_other}
use Rattle.meaning_laws.specs.Scoped.{has_binder, step_has_binder}
use Rattle.meaning_laws.proofs.Scoped.{both_false}
use Rattle.buffer_laws.specs.Staging.Converted.{name_on, converted, converted_statement}
use Rattle.buffer_laws.specs.Staging.Converted.{converted_argument, converted_arguments}
use Rattle.buffer_laws.specs.Staging.Readers.{ReadsOnLaw}

pub other : (m n : ℕ) → (m == n) ≡ false → (n == m) ≡ false
other m n h = go (n == m) refl
  where
    go : (t : Bool) → (n == m) ≡ t → t ≡ false
    go false e = refl
    go true e = absurd (true≢false (sym (eq-eqb m n (sym (eqb-true n m e))) ∙ h))

module _ (world : World) (a x : ℕ) (coords : List Coord) (rx : ℕ) where
  abbrev pub is_new : ℕ → Bool
  is_new y = y == a

  abbrev pub on_a : ℕ → ℕ
  on_a = name_on a x coords

  -- what is no part of x's buffer is none of a
  abbrev pub Keeps : (ℕ → ℕ) → (ℕ → ℕ) → Type 0
  Keeps root new =
      (y : ℕ) → (y == a) ≡ false → (rx == root y) ≡ false → (a == new (on_a y)) ≡ false

  -- a bound name is none of the two
  named : (z : ℕ) → (z == a) ≡ false → (z == x) ≡ false → (y : ℕ) → (on_a y == z) ≡ (y == z)
  named z k l y = go (y == x) refl
    where
      go : (t : Bool) → (y == x) ≡ t → (cond t a y == z) ≡ (y == z)
      go false e = refl
      go true e = other z a k ∙ sym (ap (λ n. n == z) (eqb-true y x e) ∙ other z x l)

  module _ (root new : ℕ → ℕ) (keeps : Keeps root new) where
    argument_on : (g : Argument) → in_argument is_new g ≡ false → is_root root rx g ≡ false
        → is_root new a (converted_argument a x coords g) ≡ false
    argument_on (ControlArg e) k h = refl
    argument_on (ConditionArg c) k h = refl
    argument_on (Whole y) k h = keeps y k h
    argument_on (Window y ds) k h = keeps y (or_parts (is_new y) (in_coords is_new ds) k).0 h

    pub call_on : (w : ℕ → Bool) (ps : List Param) (gs : List Argument)
        → in_arguments is_new gs ≡ false → call_writes w root rx ps gs ≡ false
        → call_writes w new a ps (converted_arguments a x coords gs) ≡ false
    call_on w [] gs k h = refl
    call_on w (p ∷ ps) [] k h = refl
    call_on w (p ∷ ps) (g ∷ gs) k h =
        let l = or_parts (in_argument is_new g) (in_arguments is_new gs) k in
        let m = or_parts (w p.binder.id && is_root root rx g) (call_writes w root rx ps gs) h in
        both_false (w p.binder.id && is_root new a (converted_argument a x coords g))
        (call_writes w new a ps (converted_arguments a x coords gs)) (one (w p.binder.id) g l.0 m.0)
        (call_on w ps gs l.1 m.1)
      where
        one : (t : Bool) (g : Argument) → in_argument is_new g ≡ false
            → (t && is_root root rx g) ≡ false
            → (t && is_root new a (converted_argument a x coords g)) ≡ false
        one false g k h = refl
        one true g k h = argument_on g k h

    called_on : (o : Option Callee) (gs : List Argument) → in_arguments is_new gs ≡ false
        → call_to_writes o root rx gs ≡ false
        → call_to_writes o new a (converted_arguments a x coords gs) ≡ false
    called_on None gs k h = refl
    called_on (Some c) gs k h = call_on c.writes c.procedure.params gs k h

    pub after : (s : Statement) → in_statement is_new s ≡ false → step_has_binder s x ≡ false
        → Keeps (roots_after s root) (roots_after (converted_statement a x coords s) new)
    after (Assign y is d) k h = keeps
    after (Reduce y is d) k h = keeps
    after (Config f g) k h = keeps
    after Pass k h = keeps
    after (If c b d) k h = keeps
    after (For i lo hi b) k h = keeps
    after (Call n gs) k h = keeps
    after (Alloc z cell dims memory) k h = λ y l m.
        let is = or_parts (is_new z.id) (in_controls is_new dims) k in
        ap (λ t. a == cond t z.id (new (on_a y))) (named z.id is.0 (other x z.id h) y)
        ∙ go y l (y == z.id) (other z.id a is.0) m
      where
        go : (y : ℕ) → (y == a) ≡ false → (t : Bool) → (a == z.id) ≡ false
            → (rx == cond t z.id (root y)) ≡ false → (a == cond t z.id (new (on_a y))) ≡ false
        go y l true n g = n
        go y l false n g = keeps y l g
    after (View w v ds) k h = λ y l m.
        let is = or_parts (is_new w.id) (is_new v || in_coords is_new ds) k in
        ap (λ t. a == cond t (new (on_a v)) (new (on_a y))) (named w.id is.0 (other x w.id h) y)
        ∙ go y l (y == w.id) (or_parts (is_new v) (in_coords is_new ds) is.1).0 m
      where
        go : (y : ℕ) → (y == a) ≡ false → (t : Bool) → (v == a) ≡ false
            → (rx == cond t (root v) (root y)) ≡ false
            → (a == cond t (new (on_a v)) (new (on_a y))) ≡ false
        go y l true n g = keeps v n g
        go y l false n g = keeps y l g

  mutual
    block_on : (b : Block) (root new : ℕ → ℕ) → Keeps root new → mentions is_new b ≡ false
        → has_binder b x ≡ false → writes world root b rx ≡ false
        → writes world new (converted a x coords b) a ≡ false
    block_on end root new keeps k h w = refl
    block_on (next s b) root new keeps k h w =
        let m = or_parts (in_statement is_new s) (mentions is_new b) k in
        let n = or_parts (step_has_binder s x) (has_binder b x) h in
        let v = or_parts (step_writes world root s rx) (writes world (roots_after s root) b rx) w in
        both_false (step_writes world new (converted_statement a x coords s) a)
        (writes world (roots_after (converted_statement a x coords s) new) (converted a x coords b)
        a) (step_on s root new keeps m.0 n.0 v.0)
        (block_on b (roots_after s root) (roots_after (converted_statement a x coords s) new)
        (after root new keeps s m.0 n.0) m.1 n.1 v.1)

    step_on : (s : Statement) (root new : ℕ → ℕ) → Keeps root new → in_statement is_new s ≡ false
        → step_has_binder s x ≡ false → step_writes world root s rx ≡ false
        → step_writes world new (converted_statement a x coords s) a ≡ false
    step_on (Assign y is d) root new keeps k h w =
        keeps y (or_parts (is_new y) (in_controls is_new is || in_datum is_new d) k).0 w
    step_on (Reduce y is d) root new keeps k h w =
        keeps y (or_parts (is_new y) (in_controls is_new is || in_datum is_new d) k).0 w
    step_on (Config f g) root new keeps k h w = refl
    step_on Pass root new keeps k h w = refl
    step_on (If c b d) root new keeps k h w =
        let m = or_parts (in_condition is_new c) (mentions is_new b || mentions is_new d) k in
        let p = or_parts (mentions is_new b) (mentions is_new d) m.1 in
        let n = or_parts (has_binder b x) (has_binder d x) h in
        let v = or_parts (writes world root b rx) (writes world root d rx) w in
        both_false (writes world new (converted a x coords b) a)
        (writes world new (converted a x coords d) a) (block_on b root new keeps p.0 n.0 v.0)
        (block_on d root new keeps p.1 n.1 v.1)
    step_on (For i lo hi b) root new keeps k h w =
        let m = or_parts (is_new i.id)
        (in_control is_new lo || (in_control is_new hi || mentions is_new b)) k in
        let p = or_parts (in_control is_new lo) (in_control is_new hi || mentions is_new b) m.1 in
        let q = or_parts (in_control is_new hi) (mentions is_new b) p.1 in
        block_on b root new keeps q.1 (or_parts (x == i.id) (has_binder b x) h).1 w
    step_on (Alloc z cell dims memory) root new keeps k h w =
        other z.id a (or_parts (is_new z.id) (in_controls is_new dims) k).0
    step_on (View v y ds) root new keeps k h w = refl
    step_on (Call n gs) root new keeps k h w = called_on root new keeps (world.callees n) gs k w

pub reads_on_law : ReadsOnLaw
reads_on_law world root a x coords b new bound roots quiet =
    block_on world a x coords (root x) b root (updated root a a) first new bound quiet
  where
    first : (y : ℕ) → (y == a) ≡ false → (root x == root y) ≡ false
        → (a == updated root a a (name_on a x coords y)) ≡ false
    first y k h = go (y == x) refl
      where
        go : (t : Bool) → (y == x) ≡ t → (a == updated root a a (cond t a y)) ≡ false
        go true e = absurd (true≢false (sym (eq-eqb (root x) (root y)
            (ap root (sym (eqb-true y x e)))) ∙ h))
        go false e = ap (λ n. a == n) (updated_other root a a y k) ∙ roots y k
