use Rattle.std.proofs.Common.{◌≡◌, drop}
use Rattle.exo_cli.specs.Outside.Outside.{content_of}
use Rattle.exo_cli.specs.Outside.Memory.{folder_of}
use Rattle.exo_cli.proofs.outside.memory.find_file.Given as goal

abbrev pub invariant-loop-file : goal.invariant-loop-file
invariant-loop-file l = content_of (folder_of (drop l.file-index l.files)) l.name ≡ content_of (folder_of l.files) l.name
