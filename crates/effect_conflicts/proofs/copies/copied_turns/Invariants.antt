use Rattle.std.proofs.Common.{◌≡◌, ◌++◌, ◌^◌, map, drop}
use Rattle.std.specs.List.{list_all}
use Rattle.exo_effects.specs.Conflicts.{re_turn, turns_apart, variables_of}
use Rattle.effect_conflicts.specs.PlainCopies.{plain_turn, plain_copied, turn_fits}
use Rattle.effect_conflicts.proofs.copies.copied_turns.Given as goal

abbrev pub invariant-loop-t : goal.invariant-loop-t
invariant-loop-t l = record {
  fits : list_all turn_fits l.turns ≡ list_all turn_fits (drop l.t-index l.turns);
  made : map plain_copied l.made.items ++ map (re_turn (turns_apart (2 ^ 31) l.side (variables_of (map plain_turn l.turns)))) (map plain_turn (drop l.t-index l.turns)) ≡ map (re_turn (turns_apart (2 ^ 31) l.side (variables_of (map plain_turn l.turns)))) (map plain_turn l.turns);
}
