-- The rules of operators on buffers give names of the grammar.
use Rattle.std.proofs.Common.{◌≡◌, ℕ, Bool, true, false, List, [], ◌∷◌, Some, ap}
use Rattle.std.proofs.Common.{◌∙◌, subst}
use Rattle.exo_tree.specs.Tree.{Control, Argument, Window, At, Statement, Assign, Reduce, Config}
use Rattle.exo_tree.specs.Tree.{Pass, If, For, Alloc, View}
use Rattle.exo_tree.specs.Tree.{Call, Block, end, next, joined}
use Rattle.exo_tree.specs.Places.{Branch, Main, Else}
use Rattle.inplace_laws.specs.Windows.{in_block, in_statement}
use Rattle.exo_types_laws.specs.Shown.Names.{IsName}
use Rattle.exo_types_laws.specs.Shown.Named.{IsNamedStatement, IsNamedBlock}
use Rattle.buffer_laws.specs.Bound.{stores}
use Rattle.buffer_laws.specs.Buffers.{Buffer, allocation, only_buffer, in_memory}
use Rattle.buffer_laws.specs.Expanded.{expanded}
use Rattle.buffer_laws.specs.Lifted.{with_buffer_in}
use Rattle.step_rules.specs.Lawful.{scope_here}
use Rattle.step_rules.proofs.Shapes.{made_of}
use Rattle.schedule_laws.specs.Names.Rules.{IsNaming}
use Rattle.alloc_laws.specs.Allocations.{alloc_of, memory_rule, delete_rule}
use Rattle.alloc_laws.specs.Expanding.{Allocated, expandable, expand_rule}
use Rattle.alloc_laws.specs.Lifting.{Inner, inner_of, lifting_of, lifted, lift_rule}
use Rattle.alloc_laws.proofs.Memory.{alloc_is}
use Rattle.alloc_laws.proofs.Lifting.{lifting_is}
use Rattle.alloc_laws.proofs.Expanding.{expandable_is}
use Rattle.alloc_laws.specs.Bind.Binding.{Form, storing, bound_store, bind_rule}
use Rattle.tree_edits.specs.Made.Passes.{or_one_pass}

pub memory_names : (m : ℕ) → IsNaming (memory_rule m)
memory_names m = record {
  name = λ p h. h;
  draft = λ s how base made unit proc piece h.
      let d = made_of (alloc_of s.opened.piece) (λ x. only_buffer (in_memory m x)) made h in
      subst IsNamedBlock d.made
      (subst IsNamedBlock (alloc_is s.opened.piece d.of d.found) piece);
}

pub delete_names : IsNaming delete_rule
delete_names = record {
  name = λ p h. h;
  draft = λ s how base made unit proc piece h.
      let d = made_of (alloc_of s.opened.piece) (λ x. end) made h in subst IsNamedBlock d.made tt;
}

-- ---- a lifted allocation

without : (before : Block) (x : Buffer) (behind : Block)
    → IsNamedBlock (with_buffer_in before x behind)
    → IsName x.binder.name × IsNamedBlock (joined before behind)
without end x behind h = h
without (next a b) x behind h = let r = without b x behind h.1 in (r.0, (h.0, r.1))

passed : (b : Block) → IsNamedBlock b → IsNamedBlock (or_one_pass b)
passed end h = (tt, tt)
passed (next a b) h = h

some_same : {A : Type 0} {a b : A} → Some a ≡ Some b → a ≡ b
some_same e = cc

lifted_named : (branch : Branch) (round : Statement) (i : Inner) → inner_of branch round ≡ Some i
    → (before : Block) (x : Buffer) (behind : Block) → i.block ≡ with_buffer_in before x behind
    → IsNamedStatement round
    → IsName x.binder.name × IsNamedStatement (i.put (or_one_pass (joined before behind)))
lifted_named branch (Assign y js e) i h before x behind parts named = cc
lifted_named branch (Reduce y js e) i h before x behind parts named = cc
lifted_named branch (Config f g) i h before x behind parts named = cc
lifted_named branch Pass i h before x behind parts named = cc
lifted_named Main (If c a b) i h before x behind parts named =
    let same = some_same h in
    let w = without before x behind (subst IsNamedBlock (ap (λ (z : Inner). z.block) same ∙ parts) named.0) in (
      w.0,
      subst (λ (z : Inner). IsNamedStatement (z.put (or_one_pass (joined before behind)))) same
          (passed (joined before behind) w.1, named.1),
    )
lifted_named Else (If c a b) i h before x behind parts named =
    let same = some_same h in
    let w = without before x behind (subst IsNamedBlock (ap (λ (z : Inner). z.block) same ∙ parts) named.1) in (
      w.0,
      subst (λ (z : Inner). IsNamedStatement (z.put (or_one_pass (joined before behind)))) same
          (named.0, passed (joined before behind) w.1),
    )
lifted_named Main (For j lo hi b) i h before x behind parts named =
    let same = some_same h in
    let w = without before x behind (subst IsNamedBlock (ap (λ (z : Inner). z.block) same ∙ parts) named.1) in (
      w.0,
      subst (λ (z : Inner). IsNamedStatement (z.put (or_one_pass (joined before behind)))) same
          (named.0, passed (joined before behind) w.1),
    )
lifted_named Else (For j lo hi b) i h before x behind parts named = cc
lifted_named branch (Alloc y cell ds memory) i h before x behind parts named = cc
lifted_named branch (View w y coords) i h before x behind parts named = cc
lifted_named branch (Call f args) i h before x behind parts named = cc

pub lift_alloc_names : (branch : Branch) (k : ℕ) → IsNaming (lift_rule branch k)
lift_alloc_names branch k = record {
  name = λ p h. h;
  draft = λ s how base made unit proc piece h.
      let d = made_of (lifting_of branch k s.opened.piece) lifted made h in
      let l = d.of in
      let r = lifting_is branch k s.opened.piece l d.found in
      let w =
      lifted_named branch r.round l.inner r.inner l.before l.buffer l.behind r.parts
      (subst IsNamedBlock r.is piece).0 in
      subst IsNamedBlock d.made (w.0, (w.1, tt));
}

-- ---- another dimension

module _ (x : ℕ) (v : Argument) where
  mutual
    pub at_named : (b : Block) → IsNamedBlock b → IsNamedBlock (in_block x v b)
    at_named end h = tt
    at_named (next a b) h = (statement_named a h.0, at_named b h.1)

    statement_named : (a : Statement) → IsNamedStatement a → IsNamedStatement (in_statement x v a)
    statement_named (Assign y is e) h = tt
    statement_named (Reduce y is e) h = tt
    statement_named (Config f a) h = tt
    statement_named Pass h = tt
    statement_named (If c a b) h = (at_named a h.0, at_named b h.1)
    statement_named (For i lo hi b) h = (h.0, at_named b h.1)
    statement_named (Alloc y cell dims memory) h = h
    statement_named (View w y coords) h = h
    statement_named (Call k args) h = tt

pub expand_names : (size e : Control) → IsNaming (expand_rule size e)
expand_names size e = record {
  name = λ p h. h;
  draft = λ s how base made unit proc piece h.
      let make : Allocated → Block = λ y. expanded size e y.buffer y.rest in
      let d = made_of (expandable s.opened.piece) make made h in
      let was = subst IsNamedBlock (expandable_is s.opened.piece d.of d.found).is piece in
      subst IsNamedBlock d.made (was.0, at_named d.of.buffer.binder.id (Window d.of.buffer.binder.id (At e ∷ [])) d.of.rest was.1);
}

-- ---- a stored part

stores_named : (reduces : Bool) (y : ℕ) (is : List Control) (e : _)
    → IsNamedStatement (stores reduces y is e)
stores_named true y is e = tt
stores_named false y is e = tt

pub bind_names : (f : Form) (k : ℕ) (name : List ℕ) → IsName name → IsNaming (bind_rule f k name)
bind_names f k name is = record {
  name = λ p h. h;
  draft = λ s how base made unit proc piece h.
      let d = made_of (storing f k s.opened.piece) (bound_store (scope_here s) name base) made h in
      subst IsNamedBlock d.made (is, (tt, (stores_named d.of.reduces d.of.target d.of.indices _, tt)));
}
