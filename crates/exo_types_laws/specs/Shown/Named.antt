-- Units whose names are all of the grammar, with templates that a text can hold.
use Rattle.exo_tree.specs.Tree.{Statement, Assign, Reduce, Config, Pass, If, For, Alloc, View, Call}
use Rattle.exo_tree.specs.Tree.{Block, end, next, Param, Procedure, ConfigField, MemoryKind}
use Rattle.exo_tree.specs.Tree.{Program}
use Rattle.exo_types_laws.specs.Shown.Names.{IsName, Each}
use Rattle.exo_types_laws.specs.Shown.Writable.{IsTemplate}

-- each binder has a name of the grammar
abbrev mutual
  pub IsNamedStatement : Statement → Type 0
  IsNamedStatement (Assign x is e) = Unit {0}
  IsNamedStatement (Reduce x is e) = Unit {0}
  IsNamedStatement (Config f a) = Unit {0}
  IsNamedStatement Pass = Unit {0}
  IsNamedStatement (If c a b) = IsNamedBlock a × IsNamedBlock b
  IsNamedStatement (For i lo hi b) = IsName i.name × IsNamedBlock b
  IsNamedStatement (Alloc x cell dims memory) = IsName x.name
  IsNamedStatement (View w x coords) = IsName w.name
  IsNamedStatement (Call k args) = Unit {0}

  pub IsNamedBlock : Block → Type 0
  IsNamedBlock end = Unit {0}
  IsNamedBlock (next s more) = IsNamedStatement s × IsNamedBlock more

abbrev pub IsNamedParam : Param → Type 0
IsNamedParam p = IsName p.binder.name

pub record IsNamedProcedure (p : Procedure) : Type 0 where
  pub name : IsName p.name
  pub params : Each IsNamedParam p.params
  pub body : IsNamedBlock p.body
  pub template : IsTemplate p.template

abbrev pub IsNamedField : ConfigField → Type 0
IsNamedField f = IsName f.config × IsName f.name

abbrev pub IsNamedMemory : MemoryKind → Type 0
IsNamedMemory m = IsName m.name

pub record AreNamed (program : Program) : Type 0 where
  pub procedures : Each IsNamedProcedure program.procedures
  pub fields : Each IsNamedField program.fields
  pub memories : Each IsNamedMemory program.memories
