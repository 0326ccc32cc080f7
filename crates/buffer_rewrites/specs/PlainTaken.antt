-- The plain forms of an assignment or a reduction, and of an expression with a part taken out.
use Rattle.std.specs.Prelude.{ℕ, Bool, true, false, List, [], Option, Some, None, option_map}
use Rattle.exo_tree.specs.Tree.{Control, Datum, Read, Statement, Assign, Reduce, For}
use Rattle.exo_tree.specs.PlainDatum.{datum}
use Rattle.buffer_laws.specs.Bound.{filled}
use Rattle.alloc_laws.specs.Bind.Binding.{Form, Part, Store, sought, part_found}
use Rattle.buffer_rewrites.specs.declared.parts.Parted as declared
use Rattle.buffer_rewrites.specs.declared.stores.StoreAt.{StoreAt}

-- the expression with a name in the place of a part, and the part
pub record Parted : Type 0 where
  pub whole : Datum
  pub part : Datum

abbrev pub plain_parted : declared.Parted → Parted
plain_parted p = record { whole = datum p.whole; part = datum p.part }

abbrev pub parted_by : ℕ → Part → Parted
parted_by x p = record { whole = filled p.hole (Read x []); part = p.datum }

-- what is stored in the cells of a name, or added to them
pub record Storing : Type 0 where
  pub reduces : Bool
  pub target : ℕ
  pub indices : List Control
  pub right : Datum

abbrev pub storing_in : Statement → Option Storing
storing_in (Assign y is e) =
    Some (record { reduces = false; target = y; indices = is; right = e })
storing_in (Reduce y is e) = Some (record { reduces = true; target = y; indices = is; right = e })
storing_in _ = None

abbrev pub plain_storing : StoreAt → Storing
plain_storing s = record {
  reduces = s.reduces;
  target = s.target.0;
  indices = s.indices.now;
  right = datum s.right.now;
}

-- with the part of a number
abbrev pub with_part : Form → ℕ → Storing → Option Store
with_part f k s =
    option_map
    (λ p. record { reduces = s.reduces; target = s.target; indices = s.indices; part = p })
    (part_found (sought f s.right k))
