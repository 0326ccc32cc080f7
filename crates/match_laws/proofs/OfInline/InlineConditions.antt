-- A callee of the unit, with other ids, may be inlined.
use Rattle.std.proofs.Common.{◌≡◌, Bool, true, false, not, ◌∷◌, ◌++◌, Some, refl, sym, ap, ◌∙◌}
use Rattle.std.proofs.Common.{true≢false}
use Rattle.exo_meaning.specs.Run.{call_to, callee_in, unit_world}
use Rattle.meaning_laws.proofs.Copies.{sound_law, unbound_law}
use Rattle.inplace_laws.specs.Above.{size}
use Rattle.inplace_laws.specs.Inline.{IsWider}
use Rattle.inplace_laws.proofs.Above.{above_law}
use Rattle.match_laws.proofs.RenamedCallee.{renamed_callee}
use Rattle.match_laws.specs.Inline.InlineConditions.{InlineConditions}

is_own : (t : Bool) → not t ≡ false → t ≡ true
is_own true h = refl
is_own false h = absurd (true≢false h)

pub inline_conditions : InlineConditions
inline_conditions kinds before callee after r own p c old args may there = record {
  callee = λ s. ap (λ o. call_to o args s) unit.1
      ∙ sym (renamed_callee r (unit_world kinds before) callee args s);
  wider = unit.0;
  call = λ s u good come gs e. record {
    sound = sound_law (unit_world kinds (before ++ callee ∷ after)) p old c s u good come;
    names = may.names;
    unbound = λ x k. unbound_law (unit_world kinds (before ++ callee ∷ after)) p old c s u good
        come x (may.free x (is_own (own x) k));
    params = λ x k. (ap not (may.params x k).0, (may.params x k).1);
    distinct = may.distinct;
    types = there s u good come gs e;
  };
  takes = may.takes;
  free = may.free;
  others = may.others;
  gone = may.gone;
  rest = may.rest;
}
  where
    unit : IsWider (unit_world kinds before) (unit_world kinds (before ++ callee ∷ after))
        × ((unit_world kinds (before ++ callee ∷ after)).callees (size before)
        ≡ Some (callee_in (unit_world kinds before) callee))
    unit = above_law kinds before callee after
