-- What stands in the place of an assignment or a reduction of which a part is stored before it.
use Rattle.std.proofs.Common.{◌≡◌, ℕ, List, [], ◌∷◌, ◌++◌, Option, Some, None, refl, sym, ap}
use Rattle.std.proofs.Common.{◌∙◌, append_assoc}
use Rattle.std.specs.Prelude.{option_map, option_and_then}
use Rattle.exo_tree.specs.Tree.{Cell, Statement, Assign, Reduce, Config, Pass, If}
use Rattle.exo_tree.specs.Tree.{For}
use Rattle.exo_tree.specs.Tree.{Alloc, View, Call, Block, end, next, block, joined}
use Rattle.exo_tree.specs.Places.{Path, Opened, opened}
use Rattle.exo_meaning.specs.Units.{Scope}
use Rattle.cursor_forward.specs.Causes.{Cause, WrongShape}
use Rattle.buffer_laws.specs.Buffers.{only_buffer}
use Rattle.buffer_laws.specs.Bound.{stores, bound_cell}
use Rattle.alloc_laws.specs.Bind.Binding.{Form, Part, cells_in, part_found, sought, store_of}
use Rattle.alloc_laws.specs.Bind.Binding.{storing, one_cell, bound_store}
use Rattle.step_rules.specs.Rule.{Got, Not, Target, Piece}
use Rattle.step_rules.specs.Shapes.{alone_in, tried, one_statement}
use Rattle.step_driver.specs.Needs.Outcomes.{RefusedBy}
use Rattle.step_driver.specs.Spots.{or_nothing, spot_at}
use Rattle.step_targets.proofs.Made.{joined_blocks}
use Rattle.buffer_rewrites.specs.PlainTaken.{Parted, parted_by, Storing, storing_in, with_part}
use Rattle.place_laws.specs.Order.Statements.{one as alone}

-- ---- what is made

pub stored_behind : (head more all : List Statement) (a b : Statement) → more ≡ head ++ a ∷ []
    → all ≡ more ++ b ∷ []
    → block all ≡ joined (block head) (next a (alone b))
stored_behind head more all a b h k =
    ap block
    (k ∙ ap (λ (xs : List Statement). xs ++ b ∷ []) h ∙ append_assoc head (a ∷ []) (b ∷ []))
    ∙ joined_blocks head (a ∷ b ∷ [])

-- ---- what is found

store_is : (f : Form) (k : ℕ) (a : Statement)
    → store_of f k a ≡ option_and_then (with_part f k) (storing_in a)
store_is f k (Assign y is e) = refl
store_is f k (Reduce y is e) = refl
store_is f k (Config g a) = refl
store_is f k Pass = refl
store_is f k (If c a b) = refl
store_is f k (For i lo hi b) = refl
store_is f k (Alloc x cell dims memory) = refl
store_is f k (View w x coords) = refl
store_is f k (Call n args) = refl

storing_is : (f : Form) (k : ℕ) (b : Block)
    → storing f k b ≡ option_and_then (with_part f k) (option_and_then storing_in (alone_in b))
storing_is f k b = by (alone_in b)
  where
    by : (x : Option Statement)
        → option_and_then (store_of f k) x
        ≡ option_and_then (with_part f k) (option_and_then storing_in x)
    by None = refl
    by (Some a) = store_is f k a

module _ (f : Form) (k : ℕ) (b : Block) (scope : Scope) (name : List ℕ) (x : ℕ) where
  pub nothing_stored : None ≡ option_and_then storing_in (alone_in b)
      → tried (storing f k b) (bound_store scope name x) ≡ Not WrongShape
  nothing_stored h =
      ap (λ o. tried o (bound_store scope name x))
      (storing_is f k b ∙ ap (option_and_then (with_part f k)) (sym h))

  module _ (w : Storing) (there : Some w ≡ option_and_then storing_in (alone_in b)) where
    abbrev found : Option Part
    found = part_found (sought f w.right k)

    asked : tried (storing f k b) (bound_store scope name x)
        ≡ tried (option_map
        (λ (p : Part). record {
          reduces = w.reduces;
          target = w.target;
          indices = w.indices;
          part = p;
        }) found) (bound_store scope name x)
    asked =
        ap (λ o. tried o (bound_store scope name x))
        (storing_is f k b ∙ ap (option_and_then (with_part f k)) (sym there))

    pub refused_parts : (why : Option Cause) → RefusedBy (tried found (parted_by x)) why
        → RefusedBy (tried (storing f k b) (bound_store scope name x)) why
    refused_parts None h = tt
    refused_parts (Some cause) h = asked ∙ by found h
      where
        by : (q : Option Part) → tried q (parted_by x) ≡ Not cause
            → tried (option_map
            (λ (p : Part). record {
              reduces = w.reduces;
              target = w.target;
              indices = w.indices;
              part = p;
            }) q) (bound_store scope name x)
            ≡ Not cause
        by None h = let same : WrongShape ≡ cause = cc in ap Not same
        by (Some p) h = cc

    pub bound_parts : (p : Parted) (cell : Cell) (head made : Block)
        → tried found (parted_by x) ≡ Got p
        → cell ≡ bound_cell (cells_in scope) p.part
        → head ≡ only_buffer (one_cell cell name x)
        → made ≡ joined head (next (Assign x [] p.part)
        (alone (stores w.reduces w.target w.indices p.whole)))
        → tried (storing f k b) (bound_store scope name x) ≡ Got made
    bound_parts p cell head made h c d m = asked ∙ by found h
      where
        by : (q : Option Part) → tried q (parted_by x) ≡ Got p
            → tried (option_map
            (λ (p : Part). record {
              reduces = w.reduces;
              target = w.target;
              indices = w.indices;
              part = p;
            }) q) (bound_store scope name x)
            ≡ Got made
        by None h = cc
        by (Some part) h =
            let same : parted_by x part ≡ p = cc in
            let type : cell ≡ bound_cell (cells_in scope) part.datum =
            c ∙ ap (λ (r : Parted). bound_cell (cells_in scope) r.part) (sym same) in
            let front : head ≡ only_buffer
            (one_cell (bound_cell (cells_in scope) part.datum) name x) =
            d ∙ ap (λ (t : Cell). only_buffer (one_cell t name x)) type in
            ap Got (sym (m
            ∙ (λ i. joined (front i) (next (Assign x [] (sym same i).part)
            (alone (stores w.reduces w.target w.indices (sym same i).whole))))))

-- ---- the piece

module _ {T U : Type 0} (read : Block → Option T) (none : read end ≡ None) (t : Target) (at : Path)
    (make : T → U) where
  abbrev one : Piece
  one = record { path = at; count = 1 }

  there : (x : Option Opened)
      → option_and_then (λ (o : Opened). read o.piece) x ≡ read (or_nothing x).piece
  there None = sym none
  there (Some o) = refl

  asked_first : one_statement read t at ≡ tried (read (spot_at t one).opened.piece) (λ x. one)
  asked_first = ap (λ x. tried x (λ y. one)) (there (opened 1 at t.proc.body))

  pub piece_found : (y : U) → tried (read (spot_at t one).opened.piece) make ≡ Got y
      → one_statement read t at ≡ Got one
  piece_found y h = asked_first ∙ by (read (spot_at t one).opened.piece) h
    where
      by : (x : Option T) → tried x make ≡ Got y → tried x (λ z. one) ≡ Got one
      by None h = cc
      by (Some z) h = refl

  pub piece_refused : (why : Option Cause)
      → RefusedBy (tried (read (spot_at t one).opened.piece) make) why
      → RefusedBy (one_statement read t at) why
  piece_refused None h = tt
  piece_refused (Some cause) h = asked_first ∙ by (read (spot_at t one).opened.piece) h
    where
      by : (x : Option T) → tried x make ≡ Not cause → tried x (λ z. one) ≡ Not cause
      by None h = let same : WrongShape ≡ cause = cc in ap Not same
      by (Some z) h = cc
