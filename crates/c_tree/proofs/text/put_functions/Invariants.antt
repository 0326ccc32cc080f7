-- What is written and what is left make the whole.
use Rattle.std.proofs.Common.{◌≡◌, [], ◌++◌, drop, map, string_bytes}
use Rattle.c_tree.specs.CText.{each, margin, function_text}
use Rattle.c_tree.specs.Plain.{plain_function}
use Rattle.c_tree.proofs.text.put_functions.Given as goal

abbrev pub invariant-loop-f : goal.invariant-loop-f
invariant-loop-f l = string_bytes l.out ++ each (λ f. margin [] ++ function_text f) (map plain_function (drop l.f-index l.functions)) ≡ string_bytes l.initial.out ++ each (λ f. margin [] ++ function_text f) (map plain_function l.functions)
