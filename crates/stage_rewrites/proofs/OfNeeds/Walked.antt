-- What is asked of a block, one statement after the other.
use Rattle.std.proofs.Common.{◌≡◌, ◌≢◌, ℕ, suc, ◌+◌, List, [], ◌∷◌, ◌++◌, map, length}
use Rattle.std.proofs.Common.{refl, ap, sym, ◌∙◌, append_assoc, arith}
use Rattle.std.proofs.lemmas.List.{append-nil, map-append}
use Rattle.exo_tree.specs.Tree.{Control, Condition, Coord, Statement, Assign, Reduce, Config, Pass}
use Rattle.exo_tree.specs.Tree.{If, For, Alloc, View, Call, Block, block}
use Rattle.exo_tree.specs.Places.{Branch, Step, Path, path_below}
use Rattle.buffer_laws.specs.StageMem.{Asked, all_at, asked_in, asked_at, asked_of_statement}
use Rattle.alloc_laws.specs.Goes.Asked.{asked_from}
use Rattle.step_rules.specs.Rule.{Need}
use Rattle.stage_rewrites.specs.Needs.Placed.{need_of, needs_of, needs_at, asked_inside}

module _ (x : ℕ) (dims : List Control) (coords : List Coord) where
  -- ---- of a statement itself, and of those inside it

  placed : (path : Path) (cs : List Condition)
      → needs_of (all_at x dims coords path cs) ≡ needs_at path cs
  placed path [] = refl
  placed path (c ∷ cs) = ap (λ l. need_of (record { path = path; condition = c }) ∷ l) (placed path cs)

  alone : (path : Path) (cs : List Condition)
      → needs_of (all_at x dims coords path cs) ≡ needs_at path cs ++ []
  alone path cs = placed path cs ∙ sym (append-nil (needs_at path cs))

  parts : (path : Path) (s : Statement) → needs_of (asked_at x dims coords path s)
      ≡ needs_at path (asked_of_statement x dims coords s) ++ needs_of (asked_inside x dims coords path s)
  parts path (Assign y is d) = alone path (asked_of_statement x dims coords (Assign y is d))
  parts path (Reduce y is d) = alone path (asked_of_statement x dims coords (Reduce y is d))
  parts path (Config f g) = refl
  parts path Pass = refl
  parts path (If c a b) = refl
  parts path (For i lo hi b) = refl
  parts path (Alloc y cell ds memory) = refl
  parts path (View v y ds) = alone path (asked_of_statement x dims coords (View v y ds))
  parts path (Call k gs) = alone path (asked_of_statement x dims coords (Call k gs))

  -- ---- one statement more

  module _ (outer : Path) (branch : Branch) where
    abbrev in_block : ℕ → List Statement → List Need
    in_block n ss = needs_of (asked_in x dims coords outer branch n (block ss))

    pub block_on : (n m : ℕ) (old mid new whole : List Need) (path : Path) (s : Statement)
        (ss rest : List Statement) → m ≡ suc n → ss ≡ s ∷ rest → path ≡ path_below outer branch n
        → mid ≡ old ++ needs_at path (asked_of_statement x dims coords s)
        → new ≡ mid ++ needs_of (asked_inside x dims coords path s)
        → old ++ in_block n ss ≡ whole → new ++ in_block m rest ≡ whole
    block_on n m old mid new whole path s ss rest l e p h j k =
        let here : List Asked = asked_at x dims coords (path_below outer branch n) s in
        let later : List Asked = asked_in x dims coords outer branch (suc n) (block rest) in
        let inside : List Need = needs_of (asked_inside x dims coords path s) in
        let itself : List Need = needs_at path (asked_of_statement x dims coords s) in
        let both : new ≡ old ++ needs_of here =
        j ∙ ap (λ ns. ns ++ inside) h ∙ append_assoc old itself inside
        ∙ ap (λ ns. old ++ ns) (sym (parts path s))
        ∙ ap (λ q. old ++ needs_of (asked_at x dims coords q s)) p in
        ap (λ i. new ++ in_block i rest) l
        ∙ ap (λ ns. ns ++ needs_of later) both
        ∙ append_assoc old (needs_of here) (needs_of later)
        ∙ ap (λ ns. old ++ ns) (sym (map-append need_of here later))
        ∙ ap (λ (l : List Statement). old ++ in_block n l) (sym e)
        ∙ k

  -- ---- down a path

  module _ {X : Type 0} (f : X → Step) (outer : Path) (b : Block) where
    abbrev from_here : List X → List Asked
    from_here steps = asked_from x dims coords outer (map f steps) b

    pub nowhere : (old : List Need) (xs : List X) → xs ≡ [] → old ≡ old ++ needs_of (from_here xs)
    nowhere old xs h =
        sym (append-nil old) ∙ ap (λ (ys : List X). old ++ needs_of (from_here ys)) (sym h)

    pub last_step : (xs rest : List X) (s : X) → xs ≡ s ∷ rest → length rest ≡ 0
        → from_here xs ≡ asked_in x dims coords outer (f s).branch (f s).index b
    last_step xs [] s h e = ap from_here h
    last_step xs (y ∷ ys) s h e = absurd (omega (arith, e))

    pub one_step : (xs rest : List X) (s : X) (inner : Path) → xs ≡ s ∷ rest → length rest ≢ 0
        → inner ≡ path_below outer (f s).branch ((f s).index + 0)
        → from_here xs ≡ asked_from x dims coords inner (map f rest) b
    one_step xs [] s inner h e p = absurd (e refl)
    one_step xs (y ∷ ys) s inner h e p =
        let same : inner ≡ path_below outer (f s).branch (f s).index =
        p ∙ ap (path_below outer (f s).branch) (omega arith) in
        ap from_here h ∙ ap (λ (q : Path). asked_from x dims coords q (map f (y ∷ ys)) b) (sym same)
