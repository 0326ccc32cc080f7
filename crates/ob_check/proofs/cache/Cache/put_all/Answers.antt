use Rattle.std.proofs.Common.{◌≡◌, ◌≤◌, List, ◌∷◌, All, length, sym, ap, ◌∙◌, subst, arith}
use Rattle.std.specs.Prelude.{fold}
use Rattle.std.proofs.lemmas.List.Elements.{All-from_recursion, recursion_from_All}
use Rattle.std.proofs.lemmas.Map.Iter.{rest_more, rest_all}
use Rattle.affine_forms.specs.declared.system.System.{System}
use Rattle.affine_prover.specs.declared.answer.Verdict.{Verdict}
use Rattle.ob_check.specs.Entries.{put_back}
use Rattle.ob_check.specs.Held.{held}
use Rattle.ob_check.proofs.Entries.{All-reverse}
use Rattle.ob_check.proofs.Holding.{as_held}
use Rattle.ob_check.proofs.Keeping.{kept-by_pending, AreApart-held, length-held, reverse-held}
use Rattle.ob_check.proofs.Truths.{IsTrueEntry, IsSmallEntry}
use Rattle.ob_check.proofs.cache.Cache.put_all.Goals as goal

first_of : (P : System × Verdict → Type 0) (es fs : List (System × Verdict)) (e : System × Verdict) → es ≡ e ∷ fs → All P es → P e
first_of P es fs e is all = (recursion_from_All P (e ∷ fs) (subst (All P) is all)).0

rest_of : (P : System × Verdict → Type 0) (es fs : List (System × Verdict)) (e : System × Verdict) → es ≡ e ∷ fs → All P es → All P fs
rest_of P es fs e is all = All-from_recursion P fs (recursion_from_All P (e ∷ fs) (subst (All P) is all)).1

pub loop-system-init : goal.loop-system-init
loop-system-init c =
    let from = c.into_iter-system-iterator.ensures.into_iter_gives.0 in
    let es = c.args.other.verdicts.entries in
    record {
      are_true = subst (All IsTrueEntry) (sym from) (All-reverse IsTrueEntry es c.args.other.all_true);
      are_small = subst (All IsSmallEntry) (sym from) (All-reverse IsSmallEntry es c.args.other.all_small);
      put = ap (λ fs. fold put_back (held c.args.self.now) (as_held fs)) from ∙ ap (fold put_back (held c.args.self.now)) (reverse-held es);
    }

pub put_back-requires-clause-is_true : goal.put_back-requires-clause-is_true
put_back-requires-clause-is_true c =
    let left = rest_more (λ x. x) c.loop-system.system-iterator c.next.new.self c.next.result (c.in-Some.system, c.in-Some.verdict) c.in-Some.is c.next.ensures.steps in
    first_of IsTrueEntry c.loop-system.system-iterator c.next.new.self (c.in-Some.system, c.in-Some.verdict) left c.loop-system.invariant.are_true

pub put_back-requires-clause-small : goal.put_back-requires-clause-small
put_back-requires-clause-small c =
    let left = rest_more (λ x. x) c.loop-system.system-iterator c.next.new.self c.next.result (c.in-Some.system, c.in-Some.verdict) c.in-Some.is c.next.ensures.steps in
    first_of IsSmallEntry c.loop-system.system-iterator c.next.new.self (c.in-Some.system, c.in-Some.verdict) left c.loop-system.invariant.are_small

pub loop-system-preserved : goal.loop-system-preserved
loop-system-preserved c =
    let now = c.loop-system.system-iterator in
    let more = c.next.new.self in
    let left = rest_more (λ x. x) c.loop-system.system-iterator c.next.new.self c.next.result (c.in-Some.system, c.in-Some.verdict) c.in-Some.is c.next.ensures.steps in
    record {
      are_true = rest_of IsTrueEntry now more (c.in-Some.system, c.in-Some.verdict) left c.loop-system.invariant.are_true;
      are_small = rest_of IsSmallEntry now more (c.in-Some.system, c.in-Some.verdict) left c.loop-system.invariant.are_small;
      put = ap (λ es. fold put_back es (as_held more)) c.in_ok-put_back.ensures ∙ ap (λ es. fold put_back (held c.loop-system.self) (as_held es)) (sym left) ∙ c.loop-system.invariant.put;
    }

pub returns : goal.returns
returns c = λ ss is.
    let none = rest_all (λ x. x) c.loop-system.system-iterator c.next.new.self c.next.result c.in-None.is c.next.ensures.steps in
    let es = c.args.self.now.verdicts.entries in
    let few : length (held c.args.self.now) ≤ 1024 = omega (arith, length-held es, c.len.ensures.valid.1, c.args.self.now.capacity) in
    sym (ap (λ fs. fold put_back (held c.loop-system.self) (as_held fs)) none)
    ∙ c.loop-system.invariant.put
    ∙ kept-by_pending (held c.args.self.now) (held c.args.other) ss (AreApart-held es c.len.ensures.valid.0) few is
