use Rattle.std.proofs.Common.{[], codes, map, string_bytes}
use Rattle.c_tree.specs.CText.{margin, each, include_text, helpers}
use Rattle.c_tree.proofs.Appends.{five}
use Rattle.c_tree.proofs.text.put_preamble.Goals as goal

pub returns : goal.returns
returns c =
    five (string_bytes c.args.out.now) (margin (codes "#include <stdint.h>")) (margin (codes "#include <stdlib.h>")) (each include_text (map string_bytes c.args.headers.now)) (margin []) helpers _ _ _ _ _
    c.in_ok-put_margin.ensures c.in_ok-put_margin-2.ensures c.in_ok-put_includes.ensures c.in_ok-put_margin-3.ensures c.in_ok-put_helpers.ensures
