-- The program ends with the answer where nothing failed.
use Rattle.std.proofs.Common.{◌≡◌, ℕ, ◌⊎◌, inl, inr, ⊎_elim, List, Option, Some, refl, subst, IfSome}
use Rattle.exo_cli.specs.declared.status.Status.{Status}
use Rattle.exo_cli.specs.declared.status.Status.TheVariants.{Ok, Refused, Usage, ReadFault, WriteFault, Memory}
use Rattle.exo_cli.specs.Outside.Outside.{Folder, with_more}
use Rattle.compile_stages.specs.Stages.{EndsAreOne}
use Rattle.exo_cli.specs.Answer.{Answer, status_of, for_out, for_err}
use Rattle.exo_cli.specs.Work.{Answers, Moment, EndsAreComplete}
use Rattle.exo_cli.proofs.Unique.{answers_are_unique}

abbrev EndsWith : Moment → Moment → Status → Answer → Type 0
EndsWith before after status answer =
    (status ≡ status_of answer) × (after.out ≡ with_more before.out (for_out answer)) × (after.err ≡ with_more before.err (for_err answer))

-- what is told of one answer is told of each
of_each : EndsAreOne → (words : List (List ℕ)) (before after : Moment) (status : Status) (files : Folder) (answer : Answer) → before.told ≡ Some files → Answers words files answer
    → IfSome before.told (λ files. (a : Answer) × Answers words files a × (status ≡ status_of a) × (after.out ≡ with_more before.out (for_out a)) × (after.err ≡ with_more before.err (for_err a)))
    → EndsWith before after status answer
of_each one_end words before after status files answer told answers h =
    let one = subst (λ (o : Option Folder). IfSome o (λ files. (a : Answer) × Answers words files a × (status ≡ status_of a) × (after.out ≡ with_more before.out (for_out a)) × (after.err ≡ with_more before.err (for_err a)))) told h in
    subst (λ a. EndsWith before after status a) (answers_are_unique one_end words files one.0 answer one.1 answers) (one.2, one.3, one.4)

pub ends_are_complete : EndsAreOne → EndsAreComplete
ends_are_complete one_end words before after Memory files answer ends told answers read out err = inl refl
ends_are_complete one_end words before after ReadFault files answer ends told answers read out err = absurd (read (ends.read_fault refl).1.rose)
ends_are_complete one_end words before after WriteFault files answer ends told answers read out err =
    absurd (⊎_elim (λ h. out h.0.rose) (λ h. err h.0.rose) (ends.write_fault refl).1)
ends_are_complete one_end words before after Ok files answer ends told answers read out err =
    inr (of_each one_end words before after Ok files answer told answers (ends.told (λ e. cc) (λ e. cc) (λ e. cc)))
ends_are_complete one_end words before after Refused files answer ends told answers read out err =
    inr (of_each one_end words before after Refused files answer told answers (ends.told (λ e. cc) (λ e. cc) (λ e. cc)))
ends_are_complete one_end words before after Usage files answer ends told answers read out err =
    inr (of_each one_end words before after Usage files answer told answers (ends.told (λ e. cc) (λ e. cc) (λ e. cc)))
