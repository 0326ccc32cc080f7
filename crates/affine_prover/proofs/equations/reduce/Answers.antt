use Rattle.std.proofs.Common.{◌≡◌, true, false, cond, not, ◌||◌, List, [], ◌∷◌, ◌++◌, map, length, arith, ap, sym, ◌∙◌}
use Rattle.std.specs.List.{filter, list_any}
use Rattle.std.proofs.lemmas.List.{map-id, map_push, append-nil}
use Rattle.std.proofs.lemmas.List.Elements.{filter-append}
use Rattle.std.proofs.lemmas.List.Folds.{list_any-append}
use Rattle.affine_forms.specs.Affine.{Affine}
use Rattle.std.proofs.lemmas.Iterator.Adapters.{YieldsList-from_vec}
use Rattle.std.proofs.lemmas.Iterator.Consumers.{YieldsList-turn, YieldsList-end}
use Rattle.affine_prover.specs.RowSets.Rows.{tightened, is_constant, is_impossible}
use Rattle.affine_prover.proofs.OfRowSets.Normalizing.{impossible_at, reduced-none, reduced-some}
use Rattle.affine_prover.proofs.equations.reduce.Goals as goal

pub returns-then-is_impossible : goal.returns-then-is_impossible
returns-then-is_impossible c =
    let e = YieldsList-from_vec c.args.equations.items c.into_iter-e-iterator.ensures.into_iter_gives.0 (omega (arith, c.into_iter-e-iterator.ensures.into_iter_gives.1, c.args.equations.ok.0)) in
    let t = YieldsList-turn e c.loop-e.yielded c.loop-e.e-iterator c.loop-e.yielded_by c.next.result c.next.new.self c.in-Some.e c.in-Some.is c.next.ensures.steps in
    reduced-none c.args.equations.items (impossible_at c.args.equations.items (length c.loop-e.yielded) c.in-Some.e t.0 t.1 (sym c.is_impossible.ensures ∙ c.if-is_impossible.true))

pub returns : goal.returns
returns c =
    let e = YieldsList-from_vec c.args.equations.items c.into_iter-e-iterator.ensures.into_iter_gives.0 (omega (arith, c.into_iter-e-iterator.ensures.into_iter_gives.1, c.args.equations.ok.0)) in
    let t = YieldsList-end e c.loop-e.yielded c.loop-e.e-iterator c.loop-e.yielded_by c.next.result c.next.new.self c.in-None.is c.next.ensures.steps in
    let whole = sym (map-id c.loop-e.yielded) ∙ t.0 in
    reduced-some c.args.equations.items c.loop-e.kept.items
    (c.loop-e.invariant.made ∙ ap (λ es. filter (λ e. not (is_constant e)) (map tightened es)) whole)
    (ap (list_any is_impossible) (sym whole) ∙ c.loop-e.invariant.possible)

-- one more equation, without variables
passed-next :
    (yielded kept : List Affine) (e : Affine) → is_constant (tightened e) ≡ true → is_impossible e ≡ false
    → kept ≡ filter (λ e. not (is_constant e)) (map tightened yielded) → list_any is_impossible yielded ≡ false
    → (kept ≡ filter (λ e. not (is_constant e)) (map tightened (yielded ++ e ∷ [])))
    × (list_any is_impossible (yielded ++ e ∷ []) ≡ false)
passed-next yielded kept e flat so made possible =
    let ts = map tightened yielded in
    let all = filter (λ e. not (is_constant e)) ts in (
      made ∙ sym (ap (filter (λ e. not (is_constant e))) (map_push tightened yielded e)
          ∙ filter-append (λ e. not (is_constant e)) ts (tightened e ∷ [])
          ∙ ap (λ b. all ++ cond (not b) (tightened e ∷ []) []) flat ∙ append-nil all),
      list_any-append is_impossible yielded (e ∷ []) ∙ ap (λ b. b || (is_impossible e || false)) possible
          ∙ ap (λ b. b || false) so,
    )

-- one more equation, with variables
kept-next :
    (yielded kept next : List Affine) (e : Affine) → is_constant (tightened e) ≡ false → is_impossible e ≡ false
    → kept ≡ filter (λ e. not (is_constant e)) (map tightened yielded) → list_any is_impossible yielded ≡ false
    → next ≡ kept ++ tightened e ∷ []
    → (next ≡ filter (λ e. not (is_constant e)) (map tightened (yielded ++ e ∷ [])))
    × (list_any is_impossible (yielded ++ e ∷ []) ≡ false)
kept-next yielded kept next e moves so made possible is =
    let ts = map tightened yielded in
    let all = filter (λ e. not (is_constant e)) ts in (
      is ∙ ap (λ es. es ++ tightened e ∷ []) made
          ∙ sym (ap (filter (λ e. not (is_constant e))) (map_push tightened yielded e)
          ∙ filter-append (λ e. not (is_constant e)) ts (tightened e ∷ [])
          ∙ ap (λ b. all ++ cond (not b) (tightened e ∷ []) []) moves),
      list_any-append is_impossible yielded (e ∷ []) ∙ ap (λ b. b || (is_impossible e || false)) possible
          ∙ ap (λ b. b || false) so,
    )

pub loop-e-preserved : goal.loop-e-preserved
loop-e-preserved c =
    let flat = ap is_constant (sym c.tighten.ensures) ∙ sym c.is_constant.ensures ∙ c.if-not-is_constant.false in
    let both = passed-next c.loop-e.yielded c.loop-e.kept.items c.in-Some.e flat
    (sym c.is_impossible.ensures ∙ c.if-is_impossible.false) c.loop-e.invariant.made c.loop-e.invariant.possible in
    record { made = both.0; possible = both.1 }

pub loop-e-preserved-in-Continue-1 : goal.loop-e-preserved-in-Continue-1
loop-e-preserved-in-Continue-1 c =
    let moves = ap is_constant (sym c.tighten.ensures) ∙ sym c.is_constant.ensures ∙ c.if-not-is_constant.true in
    let both = kept-next c.loop-e.yielded c.loop-e.kept.items c.push.new.self.items c.in-Some.e moves
    (sym c.is_impossible.ensures ∙ c.if-is_impossible.false) c.loop-e.invariant.made c.loop-e.invariant.possible
    (c.in_ok-push.ensures.items ∙ ap (λ e. c.loop-e.kept.items ++ e ∷ []) c.tighten.ensures) in
    record { made = both.0; possible = both.1 }
