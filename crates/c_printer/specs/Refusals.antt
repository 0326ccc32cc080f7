-- When procedures have no C.
use Rattle.std.specs.Prelude.{◌≡◌, ℕ, List, Option, Some, None, ⊤}
use Rattle.exo_tree.specs.Tree.{Program}
use Rattle.c_tree.specs.Names.Words.{Name}
use Rattle.c_tree.specs.Names.Clash.{first_clash}
use Rattle.c_widths.specs.Raises.{widest}
use Rattle.c_lowering.specs.Made.LoweredUnit.{Printing, is_listed, counts, global_names}
use Rattle.c_printer.specs.declared.report.LowerError.{LowerError}
use Rattle.c_printer.specs.declared.report.LowerError.TheVariants.{TooWide, NameClash, Memory}

-- the greatest number of a procedure that counts and in whose own tree a magnitude passes its bound
abbrev pub too_wide : Program → List Printing → Option ℕ
too_wide program what = widest program (is_listed what) (counts program what)

-- the first name of a function, or then of a field, that C cannot keep
abbrev pub name_clash : Program → List Printing → Option Name
name_clash program what = first_clash (global_names program what)

-- what each refusal means; widths come before names
abbrev pub Refuses : Program → List Printing → LowerError → Type 0
Refuses program what (TooWide k) = too_wide program what ≡ Some k.0
Refuses program what (NameClash x) =
    (too_wide program what ≡ None) × (name_clash program what ≡ Some x)
Refuses program what Memory = ⊤
