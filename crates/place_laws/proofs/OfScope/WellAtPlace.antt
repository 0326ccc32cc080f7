-- The rules of blocks at a place.
use Rattle.std.proofs.Common.{◌≡◌, ℕ, Bool, true, not, ◌&&◌, [], Option, refl, ap₂, subst}
use Rattle.exo_tree.specs.Tree.{Kind, Index, For, If, Block, end, next, joined, Procedure}
use Rattle.exo_tree.specs.Context.{Context, Here, After, InLoop, InThen, InElse, fill, rest_of}
use Rattle.exo_meaning.specs.Calls.{Callee}
use Rattle.exo_meaning.specs.Run.{roots_after}
use Rattle.exo_meaning.specs.Units.{Scope, ControlName, is_new, with_name, with_fields, plainly}
use Rattle.exo_meaning.specs.Units.{is_control, is_condition, scope_after, is_empty, is_short}
use Rattle.exo_meaning.specs.Units.{is_block, is_statement, scope_of, IsProcedure}
use Rattle.meaning_laws.specs.Sorted.{scope_at}
use Rattle.meaning_laws.proofs.Substitute.{and_parts}
use Rattle.place_laws.specs.Scope.Holes.{roots_at}
use Rattle.place_laws.specs.Scope.WellAtPlace.{branches_fit, BlockAtPlace, BlockPutAtPlace, WellAtPlace}
use Rattle.place_laws.specs.Scope.WellAtPlace.{WellPutAtPlace}

both : (a b : Bool) → a ≡ true → b ≡ true → (a && b) ≡ true
both a b h k = ap₂ (λ u v. u && v) h k

module _ (fields : ℕ → Option Kind) (memories : ℕ) (callees : ℕ → Option Callee) where
  rest_keeps : (scope : Scope) (root : ℕ → ℕ) (c : Context) (old : Block)
      → is_block fields memories callees scope root (fill c old) ≡ true
      → is_block fields memories callees (scope_at c scope) (roots_at c root)
      (joined old (rest_of c)) ≡ true
  rest_keeps scope root (Here rest) old ok = ok
  rest_keeps scope root (After a c) old ok = rest_keeps (scope_after a scope) (roots_after a root) c
      old (and_parts (is_statement fields memories callees scope root a) _ ok).1
  rest_keeps scope root (InLoop i lo hi c rest) old ok =
      let o = and_parts (is_statement fields memories callees scope root (For i lo hi (fill c old)))
      _ ok in
      let p = and_parts (is_new scope i) _ o.0 in
      let q = and_parts (is_control fields plainly scope lo && is_control fields plainly scope hi) _
      p.1 in
      rest_keeps (with_name scope i (ControlName Index)) root c old
      (and_parts (not (is_empty (fill c old)) && is_short (fill c old)) _ q.1).1
  rest_keeps scope root (InThen t c other rest) old ok =
      let o = and_parts (is_statement fields memories callees scope root (If t (fill c old) other))
      _ ok in
      let p = and_parts (is_condition fields with_fields scope t) _ o.0 in
      let q = and_parts (not (is_empty (fill c old)) && (is_short (fill c old) && is_short other)) _
      p.1 in
      rest_keeps scope root c old (and_parts (is_block fields memories callees scope root
      (fill c old)) _ q.1).0
  rest_keeps scope root (InElse t other c rest) old ok =
      let o = and_parts (is_statement fields memories callees scope root (If t other (fill c old)))
      _ ok in
      let p = and_parts (is_condition fields with_fields scope t) _ o.0 in
      let q = and_parts (not (is_empty other) && (is_short other && is_short (fill c old))) _ p.1 in
      rest_keeps scope root c old (and_parts (is_block fields memories callees scope root other) _
      q.1).1

  pub first_keeps : (scope : Scope) (root : ℕ → ℕ) (a b : Block)
      → is_block fields memories callees scope root (joined a b) ≡ true
      → is_block fields memories callees scope root a ≡ true
  first_keeps scope root end b ok = refl
  first_keeps scope root (next x a) b ok =
      let p = and_parts (is_statement fields memories callees scope root x) _ ok in
      both (is_statement fields memories callees scope root x) (is_block fields memories callees
      (scope_after x scope) (roots_after x root) a) p.0 (first_keeps (scope_after x scope)
      (roots_after x root) a b p.1)

  pub block_at_place : BlockAtPlace fields memories callees
  block_at_place scope root c old ok = let k =
      rest_keeps scope root c old ok in record {
        block = k;
        piece = first_keeps (scope_at c scope)
            (roots_at c root) old (rest_of c) k;
      }

  pub block_put : BlockPutAtPlace fields memories callees
  block_put scope root (Here rest) old new ok fit put = put
  block_put scope root (After a c) old new ok fit put =
      let p = and_parts (is_statement fields memories callees scope root a) _ ok in
      both (is_statement fields memories callees scope root a) (is_block fields memories callees
      (scope_after a scope) (roots_after a root) (fill c new)) p.0
      (block_put (scope_after a scope) (roots_after a root) c old new p.1 fit put)
  block_put scope root (InLoop i lo hi c rest) old new ok fit put =
      let f = and_parts (not (is_empty (fill c new)) && is_short (fill c new)) (branches_fit c new)
      fit in
      let o = and_parts (is_statement fields memories callees scope root (For i lo hi (fill c old)))
      _ ok in
      let p = and_parts (is_new scope i) _ o.0 in
      let q = and_parts (is_control fields plainly scope lo && is_control fields plainly scope hi) _
      p.1 in
      let r = and_parts (not (is_empty (fill c old)) && is_short (fill c old)) _ q.1 in
      let new_body = block_put (with_name scope i (ControlName Index)) root c old new r.1 f.1 put in
      both (is_statement fields memories callees scope root (For i lo hi (fill c new)))
      (is_block fields memories callees scope root rest) (both (is_new scope i) _ p.0
      (both (is_control fields plainly scope lo && is_control fields plainly scope hi) _ q.0
      (both (not (is_empty (fill c new)) && is_short (fill c new)) _ f.0 new_body))) o.1
  block_put scope root (InThen t c other rest) old new ok fit put =
      let f = and_parts (not (is_empty (fill c new)) && is_short (fill c new)) (branches_fit c new)
      fit in
      let g = and_parts (not (is_empty (fill c new))) (is_short (fill c new)) f.0 in
      let o = and_parts (is_statement fields memories callees scope root (If t (fill c old) other))
      _ ok in
      let p = and_parts (is_condition fields with_fields scope t) _ o.0 in
      let q = and_parts (not (is_empty (fill c old)) && (is_short (fill c old) && is_short other)) _
      p.1 in
      let r = and_parts (is_block fields memories callees scope root (fill c old)) _ q.1 in
      let w = and_parts (not (is_empty (fill c old))) (is_short (fill c old) && is_short other)
      q.0 in
      let v = and_parts (is_short (fill c old)) (is_short other) w.1 in
      let new_body = block_put scope root c old new r.0 f.1 put in
      both (is_statement fields memories callees scope root (If t (fill c new) other))
      (is_block fields memories callees scope root rest)
      (both (is_condition fields with_fields scope t) _ p.0 (both (not (is_empty (fill c new))
      && (is_short (fill c new) && is_short other)) _ (both (not (is_empty (fill c new)))
      (is_short (fill c new) && is_short other) g.0 (both (is_short (fill c new))
      (is_short other) g.1 v.1)) (both (is_block fields memories callees scope root
      (fill c new)) _ new_body r.1))) o.1
  block_put scope root (InElse t other c rest) old new ok fit put =
      let f = and_parts (is_short (fill c new)) (branches_fit c new) fit in
      let o = and_parts (is_statement fields memories callees scope root (If t other (fill c old)))
      _ ok in
      let p = and_parts (is_condition fields with_fields scope t) _ o.0 in
      let q = and_parts (not (is_empty other) && (is_short other && is_short (fill c old))) _ p.1 in
      let r = and_parts (is_block fields memories callees scope root other) _ q.1 in
      let w = and_parts (not (is_empty other)) (is_short other && is_short (fill c old)) q.0 in
      let v = and_parts (is_short other) (is_short (fill c old)) w.1 in
      let new_body = block_put scope root c old new r.1 f.1 put in
      both (is_statement fields memories callees scope root (If t other (fill c new)))
      (is_block fields memories callees scope root rest)
      (both (is_condition fields with_fields scope t) _ p.0
      (both (not (is_empty other) && (is_short other && is_short (fill c new))) _
      (both (not (is_empty other)) (is_short other && is_short (fill c new)) w.0
      (both (is_short other) (is_short (fill c new)) v.0 f.0))
      (both (is_block fields memories callees scope root other) _ r.0 new_body))) o.1

-- the rules on the body, where the hole is
body_keeps : (fields : ℕ → Option Kind) (memories : ℕ) (callees : ℕ → Option Callee) (p : Procedure)
    (c : Context) (old : Block) → IsProcedure fields memories callees p → p.body ≡ fill c old
    → is_block fields memories callees (scope_of [] p.params) (λ x. x) (fill c old) ≡ true
body_keeps fields memories callees p c old ok e =
    subst (λ b. is_block fields memories callees (scope_of [] p.params) (λ x. x) b ≡ true) e ok.body

pub well_at_place : WellAtPlace
well_at_place fields memories callees p c old ok e =
    block_at_place fields memories callees (scope_of [] p.params) (λ x. x) c old
    (body_keeps fields memories callees p c old ok e)

pub well_put : WellPutAtPlace
well_put fields memories callees p c old new ok e fit put =
    block_put fields memories callees (scope_of [] p.params) (λ x. x) c old new
    (body_keeps fields memories callees p c old ok e) fit put
