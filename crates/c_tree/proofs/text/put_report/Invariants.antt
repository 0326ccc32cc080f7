-- What is written and what is left make the whole.
use Rattle.std.proofs.Common.{◌≡◌, ◌++◌, drop, map, string_bytes}
use Rattle.c_tree.specs.CText.{each, report_text}
use Rattle.c_tree.specs.Plain.{plain_line}
use Rattle.c_tree.proofs.text.put_report.Given as goal

abbrev pub invariant-loop-r : goal.invariant-loop-r
invariant-loop-r l = string_bytes l.out ++ each report_text (map plain_line (drop l.r-index l.report)) ≡ string_bytes l.initial.out ++ each report_text (map plain_line l.report)
