-- The names of copies. A binder of a copy keeps its name where no binder of that name is in scope
-- at its place and none that it could meet stands at the top level of its own block: for a loop
-- each allocation and view that stands there, for an allocation or a view those of no copy.
-- Otherwise it gets the name with the least number that no binder has.
use Rattle.std.specs.Prelude.{ℕ, zero, suc, nat_lt, ◌==◌, Bool, ◌||◌, if◌then◌else◌}
use Rattle.std.specs.Prelude.{List, [], ◌∷◌, ◌++◌, length, map, codes, decimal}
use Rattle.std.specs.Prelude.{Option, Some, None}
use Rattle.std.specs.List.{list_any}
use Rattle.exo_tree.specs.Tree.{Binder, Param, Statement, Assign, Reduce, Config, Pass, If, For}
use Rattle.exo_tree.specs.Tree.{Alloc, View, Call, Block, end, next, Procedure}
use Rattle.exo_tree.specs.Mapped.{Leaves, unchanged, mapped_block}
use Rattle.exo_meaning.specs.Units.{is_text}

abbrev pub Name : Type 0
Name = List ℕ

abbrev pub is_in : List Name → Name → Bool
is_in names x = list_any (is_text x) names

-- ---- names with numbers

-- `x_k`
abbrev pub numbered : Name → ℕ → Name
numbered x k = x ++ codes "_" ++ decimal k

-- the first number from k on whose name is not taken, of at most so many
abbrev pub first_free : List Name → Name → ℕ → ℕ → ℕ
first_free taken x zero k = k
first_free taken x (suc n) k =
    if is_in taken (numbered x k) then first_free taken x n (suc k) else k

-- the name with the least number from 1 on that is not taken; each taken name has one number
abbrev pub free_name : List Name → Name → Name
free_name taken x = numbered x (first_free taken x (length taken) 1)

-- ---- the names of a procedure

abbrev mutual
  pub binder_names : Block → List Name
  binder_names end = []
  binder_names (next a b) = names_below a ++ binder_names b

  pub names_below : Statement → List Name
  names_below (Assign x is e) = []
  names_below (Reduce x is e) = []
  names_below (Config f a) = []
  names_below Pass = []
  names_below (If c a b) = binder_names a ++ binder_names b
  names_below (For i lo hi b) = i.name ∷ binder_names b
  names_below (Alloc x cell dims memory) = x.name ∷ []
  names_below (View w x coords) = w.name ∷ []
  names_below (Call k args) = []

abbrev pub names_of : List Param → List Name
names_of ps = map (λ q. q.binder.name) ps

abbrev pub param_names : Procedure → List Name
param_names p = names_of p.params

-- ---- the names of copies

-- on the way through a block: the names in scope, those that are taken, and the binders so far with
-- the names that they are given
pub record Naming : Type 0 where
  pub scope : List Name
  pub taken : List Name
  pub given : List Binder

-- behind a block its names are not in scope
abbrev pub closed : Naming → Naming → Naming
closed before after = record after { scope = before.scope }

-- ---- the top level of a block

-- the name of a binder that is none of a copy, where copies have ids from the given one on; where
-- none is given, of any binder
abbrev pub own_name : Option ℕ → Binder → List Name
own_name None x = x.name ∷ []
own_name (Some copies) x = if nat_lt x.id copies then x.name ∷ [] else []

-- what a statement leaves to its block
abbrev pub top_name : Option ℕ → Statement → List Name
top_name copies (Alloc x cell dims memory) = own_name copies x
top_name copies (View w x coords) = own_name copies w
top_name copies _ = []

abbrev pub top_names : Option ℕ → Block → List Name
top_names copies end = []
top_names copies (next a b) = top_name copies a ++ top_names copies b

-- the names of the allocations and views that are of no copy, and of all
pub record Tops : Type 0 where
  pub own : List Name
  pub all : List Name

abbrev pub tops : ℕ → Block → Tops
tops copies b = record { own = top_names (Some copies) b; all = top_names None b }

-- copies: the first id of a binder of a copy
module _ (copies : ℕ) where
  -- top: the names that it gives its own up for, beside those in scope
  abbrev pub name_given : List Name → Naming → Binder → Name
  name_given top n x =
      if nat_lt x.id copies then x.name
      else (if is_in n.scope x.name || is_in top x.name then free_name n.taken x.name else x.name)

  abbrev pub with_binder : List Name → Naming → Binder → Naming
  with_binder top n x =
      let name = name_given top n x in
      record {
        scope = n.scope ++ name ∷ [];
        taken = n.taken ++ name ∷ [];
        given = n.given ++ record { id = x.id; name = name } ∷ [];
      }

  abbrev mutual
    pub name_statements : Tops → Naming → Block → Naming
    name_statements top n end = n
    name_statements top n (next a b) = name_statements top (name_statement top n a) b

    pub name_statement : Tops → Naming → Statement → Naming
    name_statement top n (Assign x is e) = n
    name_statement top n (Reduce x is e) = n
    name_statement top n (Config f a) = n
    name_statement top n Pass = n
    name_statement top n (If c a b) =
        closed n (
        name_statements (tops copies b) (closed n (name_statements (tops copies a) n a)) b)
    name_statement top n (For i lo hi b) =
        closed n (name_statements (tops copies b) (with_binder top.all n i) b)
    name_statement top n (Alloc x cell dims memory) = with_binder top.own n x
    name_statement top n (View w x coords) = with_binder top.own n w
    name_statement top n (Call k args) = n

-- a binder with the name that it is given
abbrev pub named_by : List Binder → Binder → Binder
named_by [] x = x
named_by (y ∷ given) x = if x.id == y.id then record x { name = y.name } else named_by given x

abbrev pub with_names : List Binder → Leaves
with_names given = record unchanged { binder = named_by given }

-- the first names that are taken are those of the old procedure
abbrev pub first_naming : Procedure → Naming
first_naming p =
    record {
      scope = param_names p;
      taken = param_names p ++ binder_names p.body;
      given = [];
    }

-- a new body of the procedure, with names for its copies, whose binders have ids from `copies` on
abbrev pub named_copies : Procedure → ℕ → Block → Block
named_copies p copies b =
    let top = tops copies b in
    mapped_block (with_names (name_statements copies top (first_naming p) b).given) b
