use Rattle.schedule_text.proofs.OfPatterns.Names.{reads_name, reads_no_name}
use Rattle.schedule_text.proofs.patterns.name.read_name.Goals as goal

pub returns-in-Name : goal.returns-in-Name
returns-in-Name c = reads_name _ _ _ _ c.in-Ok.ensures.value c.in-Name.is c.read_found.ensures

pub returns : goal.returns
returns c = rw (c.error_in.ensures, c.kind_at.ensures) (reads_no_name c.args.bytes.now _ c.in-Ok.ensures.value c.in_default-token.not-Name)
