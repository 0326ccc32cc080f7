use Rattle.text_phrases.proofs.Exits.{exit}
use Rattle.text_phrases.proofs.Sequences.{step_taken}
use Rattle.text_phrases.proofs.Joints.{whole_err, now, later, both}
use Rattle.exo_reader.proofs.Items.{step_instruction, instr1, instr2, instr3}
use Rattle.exo_reader.proofs.item.read_instruction.Goals as goal

pub returns-in_err-before_strings : goal.returns-in_err-before_strings
returns-in_err-before_strings c = exit _ _ _ _ _ _ c.from_residual.ensures.1 (whole_err _ _ _ _ _ _ (step_instruction _) (now instr1 _ _ c.in_err-before_strings.ensures))

pub returns-in_err-template : goal.returns-in_err-template
returns-in_err-template c = exit _ _ _ _ _ _ c.from_residual-in_err-template.ensures.1 (whole_err _ _ _ _ _ _ (step_instruction _) (later instr1 c.in_ok-before_strings.ensures _ (now instr2 _ _ c.in_err-template.ensures)))

pub returns-in_err-before_def : goal.returns-in_err-before_def
returns-in_err-before_def c = exit _ _ _ _ _ _ c.from_residual-in_err-before_def.ensures.1 (whole_err _ _ _ _ _ _ (step_instruction _) (later instr1 c.in_ok-before_strings.ensures _ (later instr2 c.in_ok-template.ensures _ (now instr3 _ _ c.in_err-before_def.ensures))))

pub returns-in_err-made : goal.returns-in_err-made
returns-in_err-made c = exit _ _ _ _ _ _ c.from_residual-in_err-made.ensures.1 (whole_err _ _ _ _ _ _ (step_instruction _) (later instr1 c.in_ok-before_strings.ensures _ (later instr2 c.in_ok-template.ensures _ (later instr3 c.in_ok-before_def.ensures _ c.in_err-made.ensures))))

pub returns : goal.returns
returns c = step_taken _ _ _ _ _ _ _ (step_instruction _) (both instr1 c.in_ok-before_strings.ensures (both instr2 c.in_ok-template.ensures (both instr3 c.in_ok-before_def.ensures c.in_ok-made.ensures)))
