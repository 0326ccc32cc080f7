use Rattle.std.proofs.Common.{ℕ, Bool, List, arith, refl, ap}
use Rattle.exo_tree.specs.declared.data.DataExpr.{DataExpr}
use Rattle.exo_tree.specs.declared.data.DataExpr.TheViews.{size-DataExpr, sized-Neg, sized-Relu, sized-Add}
use Rattle.exo_tree.specs.declared.data.DataExpr.TheViews.{sized-Sub, sized-Mul, sized-Select}
use Rattle.exo_tree.specs.PlainDatum.{datum}
use Rattle.inplace_laws.specs.CallInPlace.{no_name}
use Rattle.inplace_laws.specs.Uses.{in_datum}
use Rattle.buffer_laws.specs.Staging.Alone.{has_root}
use Rattle.exo_modes.specs.Aliases.{roots_in}
use Rattle.exo_modes.specs.declared.aliases.Alias.{Alias}
use Rattle.piece_modes.proofs.Found.{at_node, by_same, or_then, or_else, first_has, rest_has}
use Rattle.piece_modes.proofs.strides.expressions.+datum_uses.Goals as goal

abbrev uses : List Alias → ℕ → DataExpr → Bool
uses items y e = in_datum no_name (has_root (roots_in items) y) (datum e)

pub datum_uses-requires : goal.datum_uses-requires
datum_uses-requires t c =
    let v = c.in-Neg in
    let part = ap size-DataExpr c.deref.ensures in
    (omega (arith, part, ap size-DataExpr v.is, sized-Neg v.a), tt)

pub datum_uses-requires-in-Relu : goal.datum_uses-requires-in-Relu
datum_uses-requires-in-Relu t c =
    let v = c.in-Relu in
    let part = ap size-DataExpr c.deref-in-Relu.ensures in
    (omega (arith, part, ap size-DataExpr v.is, sized-Relu v.a), tt)

pub datum_uses-requires-in-Add : goal.datum_uses-requires-in-Add
datum_uses-requires-in-Add t c =
    let v = c.in-Add in
    let part = ap size-DataExpr c.deref-in-Add.ensures in
    (omega (arith, part, ap size-DataExpr v.is, sized-Add v.a v.b), tt)

pub datum_uses-requires-else-datum_uses : goal.datum_uses-requires-else-datum_uses
datum_uses-requires-else-datum_uses t c =
    let v = c.in-Add in
    let part = ap size-DataExpr c.deref-else-datum_uses.ensures in
    (omega (arith, part, ap size-DataExpr v.is, sized-Add v.a v.b), tt)

pub datum_uses-requires-in-Sub : goal.datum_uses-requires-in-Sub
datum_uses-requires-in-Sub t c =
    let v = c.in-Sub in
    let part = ap size-DataExpr c.deref-in-Sub.ensures in
    (omega (arith, part, ap size-DataExpr v.is, sized-Sub v.a v.b), tt)

pub datum_uses-requires-else-datum_uses-2 : goal.datum_uses-requires-else-datum_uses-2
datum_uses-requires-else-datum_uses-2 t c =
    let v = c.in-Sub in
    let part = ap size-DataExpr c.deref-else-datum_uses-2.ensures in
    (omega (arith, part, ap size-DataExpr v.is, sized-Sub v.a v.b), tt)

pub datum_uses-requires-in-Mul : goal.datum_uses-requires-in-Mul
datum_uses-requires-in-Mul t c =
    let v = c.in-Mul in
    let part = ap size-DataExpr c.deref-in-Mul.ensures in
    (omega (arith, part, ap size-DataExpr v.is, sized-Mul v.a v.b), tt)

pub datum_uses-requires-else-datum_uses-3 : goal.datum_uses-requires-else-datum_uses-3
datum_uses-requires-else-datum_uses-3 t c =
    let v = c.in-Mul in
    let part = ap size-DataExpr c.deref-else-datum_uses-3.ensures in
    (omega (arith, part, ap size-DataExpr v.is, sized-Mul v.a v.b), tt)

pub datum_uses-requires-in-Select : goal.datum_uses-requires-in-Select
datum_uses-requires-in-Select t c =
    let v = c.in-Select in
    let part = ap size-DataExpr c.deref-in-Select.ensures in
    (omega (arith, part, ap size-DataExpr v.is, sized-Select v.a v.b v.c v.d), tt)

pub datum_uses-requires-else-datum_uses-4 : goal.datum_uses-requires-else-datum_uses-4
datum_uses-requires-else-datum_uses-4 t c =
    let v = c.in-Select in
    let part = ap size-DataExpr c.deref-else-datum_uses-4.ensures in
    (omega (arith, part, ap size-DataExpr v.is, sized-Select v.a v.b v.c v.d), tt)

pub datum_uses-requires-else-datum_uses-5 : goal.datum_uses-requires-else-datum_uses-5
datum_uses-requires-else-datum_uses-5 t c =
    let v = c.in-Select in
    let part = ap size-DataExpr c.deref-else-datum_uses-5.ensures in
    (omega (arith, part, ap size-DataExpr v.is, sized-Select v.a v.b v.c v.d), tt)

pub datum_uses-requires-else-datum_uses-6 : goal.datum_uses-requires-else-datum_uses-6
datum_uses-requires-else-datum_uses-6 t c =
    let v = c.in-Select in
    let part = ap size-DataExpr c.deref-else-datum_uses-6.ensures in
    (omega (arith, part, ap size-DataExpr v.is, sized-Select v.a v.b v.c v.d), tt)

pub returns-in-Neg : goal.returns-in-Neg
returns-in-Neg t c =
    let f = uses c.args.aliases.now c.args.y in
    at_node f c.in-Neg.is (by_same f c.deref.ensures c.datum_uses.ensures)

pub returns-in-Relu : goal.returns-in-Relu
returns-in-Relu t c =
    let f = uses c.args.aliases.now c.args.y in
    at_node f c.in-Relu.is (by_same f c.deref-in-Relu.ensures c.datum_uses-in-Relu.ensures)

pub returns-then-datum_uses : goal.returns-then-datum_uses
returns-then-datum_uses t c =
    let f = uses c.args.aliases.now c.args.y in
    first_has f _ c.in-Add.is refl c.if-datum_uses.true c.deref-in-Add.ensures
    c.datum_uses-in-Add.ensures

pub returns-else-datum_uses : goal.returns-else-datum_uses
returns-else-datum_uses t c =
    let f = uses c.args.aliases.now c.args.y in
    rest_has f c.in-Add.is refl c.if-datum_uses.false c.deref-in-Add.ensures
    c.datum_uses-in-Add.ensures
    (by_same f c.deref-else-datum_uses.ensures c.datum_uses-else-datum_uses.ensures)

pub returns-then-datum_uses-2 : goal.returns-then-datum_uses-2
returns-then-datum_uses-2 t c =
    let f = uses c.args.aliases.now c.args.y in
    first_has f _ c.in-Sub.is refl c.if-datum_uses-2.true c.deref-in-Sub.ensures
    c.datum_uses-in-Sub.ensures

pub returns-else-datum_uses-2 : goal.returns-else-datum_uses-2
returns-else-datum_uses-2 t c =
    let f = uses c.args.aliases.now c.args.y in
    rest_has f c.in-Sub.is refl c.if-datum_uses-2.false c.deref-in-Sub.ensures
    c.datum_uses-in-Sub.ensures
    (by_same f c.deref-else-datum_uses-2.ensures c.datum_uses-else-datum_uses-2.ensures)

pub returns-then-datum_uses-3 : goal.returns-then-datum_uses-3
returns-then-datum_uses-3 t c =
    let f = uses c.args.aliases.now c.args.y in
    first_has f _ c.in-Mul.is refl c.if-datum_uses-3.true c.deref-in-Mul.ensures
    c.datum_uses-in-Mul.ensures

pub returns-else-datum_uses-3 : goal.returns-else-datum_uses-3
returns-else-datum_uses-3 t c =
    let f = uses c.args.aliases.now c.args.y in
    rest_has f c.in-Mul.is refl c.if-datum_uses-3.false c.deref-in-Mul.ensures
    c.datum_uses-in-Mul.ensures
    (by_same f c.deref-else-datum_uses-3.ensures c.datum_uses-else-datum_uses-3.ensures)

pub returns-then-datum_uses-4 : goal.returns-then-datum_uses-4
returns-then-datum_uses-4 t c =
    let f = uses c.args.aliases.now c.args.y in
    first_has f _ c.in-Select.is refl c.if-datum_uses-4.true c.deref-in-Select.ensures
    c.datum_uses-in-Select.ensures

pub returns-then-datum_uses-5 : goal.returns-then-datum_uses-5
returns-then-datum_uses-5 t c =
    let f = uses c.args.aliases.now c.args.y in
    rest_has f c.in-Select.is refl c.if-datum_uses-4.false c.deref-in-Select.ensures
    c.datum_uses-in-Select.ensures
    (or_then _ c.if-datum_uses-5.true
    (by_same f c.deref-else-datum_uses-4.ensures c.datum_uses-else-datum_uses-4.ensures))

pub returns-then-datum_uses-6 : goal.returns-then-datum_uses-6
returns-then-datum_uses-6 t c =
    let f = uses c.args.aliases.now c.args.y in
    rest_has f c.in-Select.is refl c.if-datum_uses-4.false c.deref-in-Select.ensures
    c.datum_uses-in-Select.ensures
    (or_else c.if-datum_uses-5.false
    (by_same f c.deref-else-datum_uses-4.ensures c.datum_uses-else-datum_uses-4.ensures)
    (or_then _ c.if-datum_uses-6.true
    (by_same f c.deref-else-datum_uses-5.ensures c.datum_uses-else-datum_uses-5.ensures)))

pub returns-else-datum_uses-6 : goal.returns-else-datum_uses-6
returns-else-datum_uses-6 t c =
    let f = uses c.args.aliases.now c.args.y in
    rest_has f c.in-Select.is refl c.if-datum_uses-4.false c.deref-in-Select.ensures
    c.datum_uses-in-Select.ensures
    (or_else c.if-datum_uses-5.false
    (by_same f c.deref-else-datum_uses-4.ensures c.datum_uses-else-datum_uses-4.ensures)
    (or_else c.if-datum_uses-6.false
    (by_same f c.deref-else-datum_uses-5.ensures c.datum_uses-else-datum_uses-5.ensures)
    (by_same f c.deref-else-datum_uses-6.ensures c.datum_uses-else-datum_uses-6.ensures)))
