-- Blocks with names of the grammar, in parts and with other binders.
use Rattle.std.proofs.Common.{◌==◌, ℕ, nat_lt, Bool, true, false, ◌&&◌, ◌||◌, List, [], ◌∷◌}
use Rattle.std.proofs.Common.{length, if◌then◌else◌}
use Rattle.exo_tree.specs.Tree.{Binder, Statement, Assign, Reduce, Config, Pass, If, For, Alloc}
use Rattle.exo_tree.specs.Tree.{View, Call, Block, end, next, joined}
use Rattle.exo_tree.specs.Context.{Context, Here, After, InLoop, InThen, InElse, fill}
use Rattle.exo_tree.specs.Mapped.{Leaves, mapped_statement, mapped_block}
use Rattle.exo_types_laws.specs.Shown.Names.{IsName, Each}
use Rattle.exo_types_laws.specs.Shown.Named.{IsNamedStatement, IsNamedBlock}
use Rattle.exo_types_laws.proofs.OfShown.Each.{each_more}
use Rattle.tree_edits.specs.Made.Passes.{or_pass, is_alone}
use Rattle.tree_edits.specs.Made.Names.{Naming, free_name, first_free, name_given, with_binder}
use Rattle.tree_edits.specs.Made.Names.{Tops, tops, name_statement, name_statements, closed}
use Rattle.tree_edits.specs.Made.Names.{named_by}
use Rattle.tree_edits.specs.Made.Names.{with_names, first_naming, is_in}
use Rattle.schedule_laws.specs.Names.Rules.{CopiesAreNamed}
use Rattle.schedule_laws.proofs.OfNames.Numbered.{numbered_is_name}

-- ---- parts

pub joined_named : (a b : Block) → IsNamedBlock a → IsNamedBlock b → IsNamedBlock (joined a b)
joined_named end b h k = k
joined_named (next s a) b h k = (h.0, joined_named a b h.1 k)

front_named : (a b : Block) → IsNamedBlock (joined a b) → IsNamedBlock a
front_named end b h = tt
front_named (next s a) b h = (h.0, front_named a b h.1)

back_named : (a b : Block) → IsNamedBlock (joined a b) → IsNamedBlock b
back_named end b h = h
back_named (next s a) b h = back_named a b h.1

-- ---- a block in a hole

pub in_hole : (c : Context) (a : Block) → IsNamedBlock (fill c a) → IsNamedBlock a
in_hole (Here rest) a h = front_named a rest h
in_hole (After s c) a h = in_hole c a h.1
in_hole (InLoop i lo hi c rest) a h = in_hole c a h.0.1
in_hole (InThen test c other rest) a h = in_hole c a h.0.0
in_hole (InElse test other c rest) a h = in_hole c a h.0.1

pub filled_named : (c : Context) (a b : Block) → IsNamedBlock (fill c a) → IsNamedBlock b
    → IsNamedBlock (fill c b)
filled_named (Here rest) a b h k = joined_named b rest k (back_named a rest h)
filled_named (After s c) a b h k = (h.0, filled_named c a b h.1 k)
filled_named (InLoop i lo hi c rest) a b h k = ((h.0.0, filled_named c a b h.0.1 k), h.1)
filled_named (InThen test c other rest) a b h k = ((filled_named c a b h.0.0 k, h.0.1), h.1)
filled_named (InElse test other c rest) a b h k = ((h.0.0, filled_named c a b h.0.1 k), h.1)

pub or_pass_named : (c : Context) (b : Block) → IsNamedBlock b → IsNamedBlock (or_pass c b)
or_pass_named c (next s b) h = by (is_alone c)
  where
    by : (t : Bool) → IsNamedBlock (if t && false then next Pass end else next s b)
    by true = h
    by false = h
or_pass_named c end h = by (is_alone c)
  where
    by : (t : Bool) → IsNamedBlock (if t && true then next Pass end else end)
    by true = (tt, tt)
    by false = tt

-- ---- other binders

-- binders with names of the grammar get such names
abbrev pub KeepsNames : Leaves → Type 0
KeepsNames leaves = (x : Binder) → IsName x.name → IsName (leaves.binder x).name

module _ (leaves : Leaves) (keeps : KeepsNames leaves) where
  mutual
    statement_named : (a : Statement) → IsNamedStatement a
        → IsNamedStatement (mapped_statement leaves a)
    statement_named (Assign x is e) h = tt
    statement_named (Reduce x is e) h = tt
    statement_named (Config f a) h = tt
    statement_named Pass h = tt
    statement_named (If c a b) h = (mapped_named a h.0, mapped_named b h.1)
    statement_named (For i lo hi b) h = (keeps i h.0, mapped_named b h.1)
    statement_named (Alloc x cell dims memory) h = keeps x h
    statement_named (View w x coords) h = keeps w h
    statement_named (Call k args) h = tt

    pub mapped_named : (b : Block) → IsNamedBlock b → IsNamedBlock (mapped_block leaves b)
    mapped_named end h = tt
    mapped_named (next a b) h = (statement_named a h.0, mapped_named b h.1)

-- ---- copies

abbrev IsNamedBinder : Binder → Type 0
IsNamedBinder x = IsName x.name

by_given : (given : List Binder) → Each IsNamedBinder given → (x : Binder) → IsName x.name
    → IsName (named_by given x).name
by_given [] h x k = k
by_given (y ∷ given) h x k = by (x.id == y.id) (by_given given h.1 x k)
  where
    by : (t : Bool) → IsName (named_by given x).name
        → IsName (if t then record x { name = y.name } else named_by given x).name
    by true other = h.0
    by false other = other

module _ (copies : ℕ) where
  given_named : (top : List (List ℕ)) (n : Naming) (x : Binder) → IsName x.name
      → IsName (name_given copies top n x)
  given_named top n x h =
      by (nat_lt x.id copies) (is_in n.scope x.name || is_in top x.name)
      (numbered_is_name x.name (first_free n.taken x.name (length n.taken) 1) h)
    where
      by : (own bound : Bool) → IsName (free_name n.taken x.name)
          → IsName (if own then x.name else (if bound then free_name n.taken x.name else x.name))
      by true bound free = h
      by false true free = free
      by false false free = h

  abbrev AreGiven : Naming → Type 0
  AreGiven n = Each IsNamedBinder n.given

  with_given : (top : List (List ℕ)) (n : Naming) (x : Binder) → AreGiven n → IsName x.name
      → AreGiven (with_binder copies top n x)
  with_given top n x h k =
      each_more IsNamedBinder n.given (record { id = x.id; name = name_given copies top n x } ∷ []) h
      (given_named top n x k, tt)

  mutual
    statements_given : (top : Tops) (n : Naming) (b : Block) → AreGiven n
        → IsNamedBlock b → AreGiven (name_statements copies top n b)
    statements_given top n end h k = h
    statements_given top n (next a b) h k =
        statements_given top (name_statement copies top n a) b (statement_given top n a h k.0) k.1

    statement_given : (top : Tops) (n : Naming) (a : Statement) → AreGiven n
        → IsNamedStatement a → AreGiven (name_statement copies top n a)
    statement_given top n (Assign x is e) h k = h
    statement_given top n (Reduce x is e) h k = h
    statement_given top n (Config f a) h k = h
    statement_given top n Pass h k = h
    statement_given top n (If c a b) h k =
        let one = name_statements copies (tops copies a) n a in
        statements_given (tops copies b) (closed n one) b
        (statements_given (tops copies a) n a h k.0) k.1
    statement_given top n (For i lo hi b) h k =
        statements_given (tops copies b) (with_binder copies top.all n i) b
        (with_given top.all n i h k.0) k.1
    statement_given top n (Alloc x cell dims memory) h k = with_given top.own n x h k
    statement_given top n (View w x coords) h k = with_given top.own n w h k
    statement_given top n (Call i args) h k = h

pub copies_are_named : CopiesAreNamed
copies_are_named p copies b h =
    let top = tops copies b in
    let given = (name_statements copies top (first_naming p) b).given in
    mapped_named (with_names given)
    (by_given given (statements_given copies top (first_naming p) b tt h)) b h
