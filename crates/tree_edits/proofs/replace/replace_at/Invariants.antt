use Rattle.tree_edits.proofs.replace.replace_at.Given as goal

abbrev pub ghosts-replaced_from : goal.ghosts-replaced_from
ghosts-replaced_from a = record { name = a.blank.name; parts = a.blank.parts }
