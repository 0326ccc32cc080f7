-- Source trees without where they lie in memory.
use Rattle.std.specs.Prelude.{ℕ, List, map, Bool}
use Rattle.text_expressions.specs.Views.{tree_of}
use Rattle.text_lexer.specs.declared.token.Literal.TheVariants.{Value}
use Rattle.exo_reader.specs.Source as tree
use Rattle.exo_reader.specs.Source.{Coordinate, Argument, TypeName, Statement, block_of, Form}
use Rattle.exo_reader.specs.Source.{Parameter, Definition, ConfigField, Setting, Attribute, Item}
use Rattle.exo_reader.specs.declared.source.SourceCoord.{SourceCoord}
use Rattle.exo_reader.specs.declared.source.SourceCoord.TheVariants.{Point, Span}
use Rattle.exo_reader.specs.declared.source.SourceArg.{SourceArg}
use Rattle.exo_reader.specs.declared.source.SourceArg.TheVariants as a
use Rattle.exo_reader.specs.declared.source.SourceArgs.{SourceArgs}
use Rattle.exo_reader.specs.declared.source.SourceWindow.{SourceWindow}
use Rattle.exo_reader.specs.declared.source.SourceKind.{SourceKind}
use Rattle.exo_reader.specs.declared.source.SourceKind.TheVariants.{Stride, Named}
use Rattle.exo_reader.specs.declared.source.SourceStmt.{SourceStmt}
use Rattle.exo_reader.specs.declared.source.SourceStmt.TheOpen.{SourceStmt-F, Pass, If, For, Alloc}
use Rattle.exo_reader.specs.declared.source.SourceStmt.TheOpen.{Call, Config, Assign, Reduce, View}
use Rattle.exo_reader.specs.declared.source.SourceStmt.TheFolds.{fold-SourceStmt}
use Rattle.exo_reader.specs.declared.source.SourceType.{SourceType}
use Rattle.exo_reader.specs.declared.source.SourceType.TheVariants as f
use Rattle.exo_reader.specs.declared.source.SourceParam.{SourceParam}
use Rattle.exo_reader.specs.declared.source.SourceParams.{SourceParams}
use Rattle.exo_reader.specs.declared.source.SourceDef.{SourceDef}
use Rattle.exo_reader.specs.declared.source.SourceField.{SourceField}
use Rattle.exo_reader.specs.declared.source.SourceValue.{SourceValue}
use Rattle.exo_reader.specs.declared.source.SourceValue.TheVariants.{Strings, Int, Yes, No}
use Rattle.exo_reader.specs.declared.source.SourceAttribute.{SourceAttribute}
use Rattle.exo_reader.specs.declared.source.SourceItem.{SourceItem}
use Rattle.exo_reader.specs.declared.source.SourceItem.TheVariants.{Procedure, Instruction}
use Rattle.exo_reader.specs.declared.source.SourceItem.TheVariants.{Configuration, Memory}

abbrev pub plain_coordinate : SourceCoord → Coordinate
plain_coordinate (Point e) = tree.point (tree_of e)
plain_coordinate (Span a b) = tree.span (tree_of a) (tree_of b)

abbrev pub plain_argument : SourceArg → Argument
plain_argument (a.Value e) = tree.value (tree_of e)
plain_argument (a.Window x cs) = tree.window x (map plain_coordinate cs.items)

abbrev pub plain_arguments : SourceArgs → List Argument × Bool
plain_arguments l = (map plain_argument l.items.items, l.trailing)

abbrev pub plain_window : SourceWindow → List ℕ × List Coordinate
plain_window w = (w.name, map plain_coordinate w.coords.items)

abbrev pub plain_kind : SourceKind → TypeName
plain_kind Stride = tree.stride
plain_kind (Named x) = tree.named x

-- a statement, with those in it in their places
abbrev pub statement_step : SourceStmt-F Statement → Statement
statement_step Pass = tree.pass
statement_step (If c a b) = tree.branch (tree_of c) (block_of a.items) (block_of b.items)
statement_step (For i low high a) = tree.loop i (tree_of low) (tree_of high) (block_of a.items)
statement_step (Alloc x kind ds m) = tree.allocate x (plain_kind kind) (map tree_of ds.items) m
statement_step (Call f l) = tree.call f (map plain_argument l.items.items) l.trailing
statement_step (Config c f e) = tree.configure c f (tree_of e)
statement_step (Assign x ds e) = tree.assign x (map tree_of ds.items) (tree_of e)
statement_step (Reduce x ds e) = tree.reduce x (map tree_of ds.items) (tree_of e)
statement_step (View y x cs) = tree.view y x (map plain_coordinate cs.items)

abbrev pub plain_statement : SourceStmt → Statement
plain_statement = fold-SourceStmt Statement statement_step

abbrev pub plain_form : SourceType → Form
plain_form (f.Plain kind ds) = tree.plain (plain_kind kind) (map tree_of ds.items)
plain_form (f.Window kind ds) = tree.strided (plain_kind kind) (map tree_of ds.items)

abbrev pub plain_parameter : SourceParam → Parameter
plain_parameter p = record { name = p.name; form = plain_form p.form; memory = p.memory }

abbrev pub plain_parameters : SourceParams → List Parameter × Bool
plain_parameters l = (map plain_parameter l.items.items, l.trailing)

abbrev pub plain_definition : SourceDef → Definition
plain_definition p = record {
  name = p.name;
  params = map plain_parameter p.params.items.items;
  trailing = p.params.trailing;
  asserts = map tree_of p.asserts.items;
  body = map plain_statement p.body.items;
}

abbrev pub plain_field : SourceField → ConfigField
plain_field f = record { name = f.name; kind = plain_kind f.kind }

abbrev pub plain_setting : SourceValue → Setting
plain_setting (Strings pieces) = tree.strings pieces.items
plain_setting (Int n) = tree.int (Value n)
plain_setting Yes = tree.yes
plain_setting No = tree.no

abbrev pub plain_attribute : SourceAttribute → Attribute
plain_attribute a = record { name = a.name; value = plain_setting a.value }

abbrev pub plain_item : SourceItem → Item
plain_item (Procedure p) = tree.procedure (plain_definition p)
plain_item (Instruction template p) = tree.instruction template.items (plain_definition p)
plain_item (Configuration x list) = tree.configuration x (map plain_field list.items)
plain_item (Memory x list) = tree.memory x (map plain_attribute list.items)
