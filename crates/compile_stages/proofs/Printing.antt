-- What the last stages make, and why they stop.
use Rattle.std.proofs.Common.{◌≡◌, ℕ, List, Option, Some, None, option_map, refl, sym, ap, ◌∙◌, subst, IfSome}
use Rattle.memory_kinds.specs.declared.error.KindError.{KindError}
use Rattle.c_tree.specs.CText.{text_of}
use Rattle.c_lowering.specs.Made.LoweredUnit.{lowered}
use Rattle.c_printer.specs.Refusals.{too_wide, name_clash, Refuses}
use Rattle.c_printer.specs.declared.report.LowerError.{LowerError}
use Rattle.c_printer.specs.declared.report.LowerError.TheVariants as lower
use Rattle.compile_stages.specs.Printings.{memory_fault}
use Rattle.compile_stages.specs.Stops.{Stop}
use Rattle.compile_stages.specs.Stages.{Stage, Passed, Stopped, Made, then_do, if_kept, if_narrow, named, if_named, text, lowered_text, printed}
use Rattle.compile_stages.specs.Stopping.{stop_of}

-- what keeps the rules on memories is lowered
pub kept_goes : (m : Made) → memory_fault m.program m.what ≡ None → printed m ≡ lowered_text m
kept_goes m is = ap (λ (o : Option (ℕ × KindError)). then_do (if_kept m o) lowered_text) is

-- what is narrow is asked for its names
narrow_goes : (m : Made) → too_wide m.program m.what ≡ None → lowered_text m ≡ then_do (named m) text
narrow_goes m is = ap (λ (o : Option ℕ). then_do (if_narrow m o) (λ b. then_do (named b) text)) is

named_goes : (m : Made) → name_clash m.program m.what ≡ None → then_do (named m) text ≡ text m
named_goes m is = ap (λ (o : Option (List ℕ)). then_do (if_named m o) text) is

pub text_is : (m : Made) (out : List ℕ) → too_wide m.program m.what ≡ None → name_clash m.program m.what ≡ None
    → out ≡ text_of (lowered m.program m.what) → Passed out ≡ lowered_text m
text_is m out is_narrow is_named is = ap Passed is ∙ sym (narrow_goes m is_narrow ∙ named_goes m is_named)

pub stop_is : (m : Made) (e : LowerError) (why : Option Stop) → Refuses m.program m.what e → why ≡ stop_of m.program e
    → IfSome (option_map Stopped why) (λ s. s ≡ lowered_text m)
stop_is m e why refuses is = subst (λ (o : Option Stop). IfSome (option_map Stopped o) (λ s. s ≡ lowered_text m)) (sym is) (go e refuses)
  where
    go : (e : LowerError) → Refuses m.program m.what e → IfSome (option_map Stopped (stop_of m.program e)) (λ s. s ≡ lowered_text m)
    go (lower.TooWide k) wide = sym (ap (λ (o : Option ℕ). then_do (if_narrow m o) (λ b. then_do (named b) text)) wide)
    go (lower.NameClash name) clash = sym (narrow_goes m clash.0 ∙ ap (λ (o : Option (List ℕ)). then_do (if_named m o) text) clash.1)
    go lower.Memory t = tt
