-- A shown procedure, read and typed below items that hold what it names, is itself again, but
-- for the ids of its binders. That its
-- text is read as its source tree stands in Laws; this says what that tree stands for.
use Rattle.std.specs.Prelude.{◌≡◌, ℕ, Bool, true, false, List, [], ◌∷◌, ◌++◌, length, map, Some}
use Rattle.std.specs.Prelude.{None, slice_get}
pub use Rattle.exo_tree.specs.Calls.{calls, is_call_of}
use Rattle.exo_tree.specs.Tree.{Statement, Assign, Reduce, Config, Pass, If, For, Alloc, View, Call}
use Rattle.exo_tree.specs.Tree.{Block, end, next}
use Rattle.exo_tree.specs.Tree.{ParamKind, ControlParam, TensorParam, WindowParam, Param, Procedure}
use Rattle.exo_tree.specs.Tree.{Program}
use Rattle.exo_meaning.specs.Renaming.{Renaming, re_condition, re_block}
pub use Rattle.exo_meaning.specs.Renaming.{re_kind, re_param}
use Rattle.exo_meaning.specs.Calls.{Callee}
use Rattle.exo_meaning.specs.Run.{program_world}
use Rattle.exo_meaning.specs.Units.{IsUnit}
use Rattle.exo_reader.specs.Source.{Item}
use Rattle.exo_types.specs.ArgumentRules.{Signature, signature_of}
use Rattle.exo_types.specs.UnitRules.{Above, nothing_above, signatures, after_item, after_items}
use Rattle.exo_types.specs.UnitRules.{item_fault, unit_fault, is_given}
use Rattle.exo_types_laws.specs.Shown.Written.{written}
use Rattle.exo_types_laws.specs.Shown.Writable.{IsWritable}

-- ---- other numbers of procedures

module _ (to : ℕ → ℕ) where
  abbrev mutual
    pub re_calls : Block → Block
    re_calls end = end
    re_calls (next a b) = next (re_call a) (re_calls b)

    pub re_call : Statement → Statement
    re_call (Assign x is e) = Assign x is e
    re_call (Reduce x is e) = Reduce x is e
    re_call (Config f a) = Config f a
    re_call Pass = Pass
    re_call (If c a b) = If c (re_calls a) (re_calls b)
    re_call (For i lo hi b) = For i lo hi (re_calls b)
    re_call (Alloc x cell dims memory) = Alloc x cell dims memory
    re_call (View w x coords) = View w x coords
    re_call (Call k args) = Call (to k) args

-- with other ids, and other numbers of what it calls
abbrev pub re_procedure : Renaming → (ℕ → ℕ) → Procedure → Procedure
re_procedure r to p = record {
  name = p.name;
  params = map (re_param r) p.params;
  asserts = map (re_condition r) p.asserts;
  body = re_calls to (re_block r p.body);
  template = p.template;
}

-- ---- what is called

-- arguments of the one are arguments of the other
abbrev pub SameKind : ParamKind → ParamKind → Type 0
SameKind (ControlParam a) (ControlParam b) = a ≡ b
SameKind (TensorParam a ds m) (TensorParam b es n) = (a ≡ b) × (length ds ≡ length es)
SameKind (WindowParam a ds m) (WindowParam b es n) = (a ≡ b) × (length ds ≡ length es)
SameKind a b = ⊥

-- and what is done to them is the same
abbrev pub AreAlike : (ℕ → Bool) → (ℕ → Bool) → List Param → List Param → Type 0
AreAlike writes others [] [] = Unit {0}
AreAlike writes others [] (q ∷ qs) = ⊥
AreAlike writes others (p ∷ ps) [] = ⊥
AreAlike writes others (p ∷ ps) (q ∷ qs) =
    SameKind p.kind q.kind
    × (writes p.binder.id ≡ others q.binder.id)
    × AreAlike writes others ps qs

-- what a call asks of the one it asks of the other
abbrev pub IsAlike : Signature → Signature → Type 0
IsAlike a b = AreAlike a.writes b.writes a.params b.params

-- the procedure of that number has the callee's name, which no other has, and is called like it
pub record IsFound (above : Above) (k : ℕ) (q : Callee) : Type 0 where
  pub other : Procedure
  pub there : slice_get above.program.procedures k ≡ Some other
  pub named : other.name ≡ q.procedure.name
  pub once :
      (j : ℕ) (o : Procedure)
      → slice_get above.program.procedures j ≡ Some o
      → o.name ≡ q.procedure.name
      → j ≡ k
  pub signature : Signature
  pub here : slice_get (signatures above) k ≡ Some signature
  pub alike : IsAlike signature (signature_of q)

-- What stands above holds what a procedure of a program names: the same fields and memories, and
-- what it calls, maybe under other numbers and with other ids. The procedure's own name is free.
pub record HoldsWhatIsNamed (above : Above) (program : Program) (p : Procedure) : Type 0 where
  pub fields : above.program.fields ≡ program.fields
  pub memories : above.program.memories ≡ program.memories
  pub to : ℕ → ℕ
  pub called :
      (k : ℕ) (q : Callee)
      → calls k p.body ≡ true
      → (program_world program).callees k ≡ Some q
      → IsFound above (to k) q
  pub free : is_given above.program p.name ≡ false

-- the item keeps all rules, and stands for the procedure with other ids, which calls what has these
-- numbers above
pub record StandsFor (above : Above) (i : Item) (to : ℕ → ℕ) (p : Procedure) : Type 0 where
  pub keeps : (n : ℕ) → item_fault above n i ≡ None
  pub ids : Renaming
  pub same :
      (after_item above i).program.procedures
      ≡ above.program.procedures ++ re_procedure ids to p ∷ []

-- below items that hold what it names, the source tree of a shown procedure stands for the
-- procedure
abbrev pub ShownIsTheSame : Type 0
ShownIsTheSame =
    (program : Program) (k : ℕ) (p : Procedure) (items : List Item)
    → IsUnit program
    → slice_get program.procedures k ≡ Some p
    → IsWritable program p
    → unit_fault items ≡ None
    → (holds : HoldsWhatIsNamed (after_items nothing_above items) program p)
    → StandsFor (after_items nothing_above items) (written program p) holds.to p
