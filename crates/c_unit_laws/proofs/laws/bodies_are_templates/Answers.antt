use Rattle.c_unit_laws.proofs.Bodies.{bodies_are_templates}
use Rattle.c_unit_laws.proofs.laws.bodies_are_templates.Goals as goal

pub returns : goal.returns
returns c = bodies_are_templates
