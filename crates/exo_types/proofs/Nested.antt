-- Statements that have blocks.
use Rattle.std.proofs.Common.{◌≡◌, ℕ, suc, ◌+◌, ◌≤◌, ◌==◌, true, false, List, [], ◌∷◌, ◌++◌, None, length, map, take, refl, ap, sym, ◌∙◌, append_assoc, subst, add-one, arith}
use Rattle.std.proofs.lemmas.List.{append-nil, map-append}
use Rattle.std.proofs.lemmas.Bool.Decides.{nat_tests}
use Rattle.std.proofs.Math.Seq.{take-length}
use Rattle.exo_tree.specs.Tree as tree
use Rattle.exo_tree.specs.Tree.{Index}
use Rattle.exo_meaning.specs.Units.{Scope, ControlName, with_name}
use Rattle.text_expressions.specs.Expression.{Tree}
use Rattle.exo_reader.specs.Source.{Statement, Block, end, next, branch, loop}
use Rattle.exo_reader.specs.Source as source
use Rattle.rules_names.specs.ExpressionRules.{width}
use Rattle.rules_names.specs.Resolved.{control_of, condition_of}
use Rattle.exo_modes.specs.Aliases.{roots_in}
use Rattle.exo_types.specs.declared.refusal.Refusal.{Refusal}
use Rattle.exo_types.specs.declared.context.Context.{Context}
use Rattle.exo_types.specs.declared.context.ScopeState.{ScopeState}
use Rattle.exo_types.specs.TypeRules.{binder}
use Rattle.exo_types.specs.Refusals.{Refuses}
use Rattle.exo_types.specs.StatementRules as rules
use Rattle.exo_types.specs.StatementRules.{statement_width, block_width, else_width, bound, bound_in}
use Rattle.exo_types.specs.UnitLines.{block_starts, line_at}
use Rattle.exo_types.specs.Walks.{signatures_in, Falls, HasRoom, IsStatement, IsBlock, own_fault, statement_fault, block_fault, block_of}
use Rattle.exo_types.proofs.Bounded.{few_bound_in}
use Rattle.exo_types.proofs.Falling.{falls_more}
use Rattle.exo_types.proofs.Broken.{refuses_same, refuses_first, refuses_second, none_of_both}

-- a block of no statements, and one of some
pub no_statements : {X : Type 0} (f : X → Statement) (xs : List X) → (length xs == 0) ≡ true → source.block_of (map f xs) ≡ end
no_statements f [] h = refl
no_statements f (x ∷ xs) h = grind (arith, nat_tests)

pub some_statements : {X : Type 0} (f : X → Statement) (xs : List X) → (length xs == 0) ≡ false → else_width (source.block_of (map f xs)) ≡ 4 + block_width (source.block_of (map f xs)) + 1
some_statements f [] h = cc
some_statements f (x ∷ xs) h = refl

pub else_wider : (b : Block) → block_width b ≤ else_width b
else_wider end = omega arith
else_wider (next s more) = omega arith

module _ (c : Context) where
  -- a block of no statements leaves the walk as it was
  pub no_block : (walk : ScopeState) (made : List tree.Statement) (n : ℕ) (b : Block) → made ≡ [] → b ≡ end → IsBlock c walk walk made n b
  no_block walk made n b h e = record {
    keeps = ap (block_fault c walk n) e;
    means = ap tree.block h ∙ ap (block_of c walk) (sym e);
    scope = refl;
    aliases = refl;
    ids = let none = ap bound_in e in omega (arith, none);
    lines = sym (append-nil walk.lines) ∙ ap (λ x. walk.lines ++ map (line_at c.places.now) (block_starts n x)) (sym e);
  }

  pub room_behind : (walk : ScopeState) (n : ℕ) (b : Block) → HasRoom c walk n (else_width b) → else_width b ≡ 4 + block_width b + 1 → HasRoom c walk (n + 4) (block_width b)
  room_behind walk n b r h = record {
    ids = omega (arith, r.ids);
    tokens = omega (arith, r.tokens, h);
    few = r.few;
    memories = r.memories;
    procedures = r.procedures;
    falls = r.falls;
  }

  -- what a block breaks and is in a walk that stands where another one stands
  same_fault : (walk one : ScopeState) (id n m : ℕ) (b : Block) → one.next_id ≡ id → one.scope ≡ walk.scope → one.aliases.items ≡ walk.aliases.items → m ≡ n → block_fault c one m b ≡ rules.block_fault c.fields.now c.memories.now c.procedures.now (signatures_in c) id walk.scope (roots_in walk.aliases.items) n b
  same_fault walk one id n m b i s a k = λ j. rules.block_fault c.fields.now c.memories.now c.procedures.now (signatures_in c) (i j) (s j) (roots_in (a j)) (k j) b

  same_block : (walk one : ScopeState) (id : ℕ) (b : Block) → one.next_id ≡ id → one.scope ≡ walk.scope → block_of c one b ≡ rules.block_of c.fields.now c.memories.now c.procedures.now (signatures_in c) id walk.scope b
  same_block walk one id b i s = λ j. rules.block_of c.fields.now c.memories.now c.procedures.now (signatures_in c) (i j) (s j) b

  -- ---- branches

  pub room_then : (walk : ScopeState) (n k : ℕ) (e : Tree) (a b : Block) → HasRoom c walk n (statement_width (branch e a b)) → k ≡ n + 1 + width e + 3 → HasRoom c walk k (block_width a)
  room_then walk n k e a b r h = record {
    ids = omega (arith, r.ids, h);
    tokens = omega (arith, r.tokens, h);
    few = r.few;
    memories = r.memories;
    procedures = r.procedures;
    falls = r.falls;
  }

  pub room_else : (walk one : ScopeState) (n k m : ℕ) (e : Tree) (a b : Block) (A : List tree.Statement) → HasRoom c walk n (statement_width (branch e a b)) → k ≡ n + 1 + width e + 3 → IsBlock c walk one A k a → m ≡ k + block_width a + 1 → HasRoom c one m (else_width b)
  room_else walk one n k m e a b A r h first l =
      let few = few_bound_in a in
      record {
        ids = omega (arith, r.ids, h, l, first.ids, few);
        tokens = omega (arith, r.tokens, h, l);
        few = r.few;
        memories = r.memories;
        procedures = r.procedures;
        falls = subst (λ s. Falls one.next_id s) (sym first.scope) (falls_more walk.next_id one.next_id walk.scope (omega (arith, first.ids)) r.falls);
      }

  pub branched : (walk one two : ScopeState) (n k m : ℕ) (e : Tree) (a b : Block) (A B : List tree.Statement) (cond : tree.Condition) → own_fault c walk n (branch e a b) ≡ None → cond ≡ condition_of c.fields.now walk.scope e → k ≡ n + 1 + width e + 3 → IsBlock c walk one A k a → m ≡ k + block_width a + 5 → IsBlock c one two B m b → IsStatement c walk two (tree.If cond (tree.block A) (tree.block B)) n (branch e a b)
  branched walk one two n k m e a b A B cond own made h first l second =
      let start : m ≡ n + 1 + width e + 3 + block_width a + 5 = omega (arith, h, l) in
      let aliases : two.aliases.items ≡ walk.aliases.items = second.aliases ∙ first.aliases in
      record {
        keeps =
            none_of_both _ _ own
            (none_of_both _ _ (sym (same_fault walk walk walk.next_id (n + 1 + width e + 3) k a refl refl refl h) ∙ first.keeps)
            (sym (same_fault walk one (walk.next_id + bound_in a) (n + 1 + width e + 3 + block_width a + 5) m b first.ids first.scope first.aliases start) ∙ second.keeps));
        means = λ i. tree.If (made i) (first.means i) ((second.means ∙ same_block walk one (walk.next_id + bound_in a) b first.ids first.scope) i);
        scope = second.scope ∙ first.scope;
        roots = ap roots_in aliases;
        kept = ap (take (length walk.aliases.items)) aliases ∙ take-length walk.aliases.items;
        ids = omega (arith, first.ids, second.ids);
        lines =
            second.lines
            ∙ (λ i. (first.lines ∙ ap (λ x. walk.lines ++ map (line_at c.places.now) (block_starts x a)) h) i ++ map (line_at c.places.now) (block_starts (start i) b))
            ∙ append_assoc walk.lines (map (line_at c.places.now) (block_starts (n + 1 + width e + 3) a)) (map (line_at c.places.now) (block_starts (n + 1 + width e + 3 + block_width a + 5) b))
            ∙ ap (λ l. walk.lines ++ l) (sym (map-append (line_at c.places.now) (block_starts (n + 1 + width e + 3) a) (block_starts (n + 1 + width e + 3 + block_width a + 5) b)));
      }

  pub then_refused : (walk : ScopeState) (n k : ℕ) (e : Tree) (a b : Block) (r : Refusal) → own_fault c walk n (branch e a b) ≡ None → k ≡ n + 1 + width e + 3 → Refuses r (block_fault c walk k a) → Refuses r (statement_fault c walk n (branch e a b))
  then_refused walk n k e a b r own h broken =
      refuses_second r _ _ own (refuses_first r _ _ (refuses_same r _ _ (same_fault walk walk walk.next_id (n + 1 + width e + 3) k a refl refl refl h) broken))

  pub else_refused : (walk one : ScopeState) (n k m : ℕ) (e : Tree) (a b : Block) (A : List tree.Statement) (r : Refusal) → own_fault c walk n (branch e a b) ≡ None → k ≡ n + 1 + width e + 3 → IsBlock c walk one A k a → m ≡ k + block_width a + 5 → Refuses r (block_fault c one m b) → Refuses r (statement_fault c walk n (branch e a b))
  else_refused walk one n k m e a b A r own h first l broken =
      let start : m ≡ n + 1 + width e + 3 + block_width a + 5 = omega (arith, h, l) in
      refuses_second r _ _ own
      (refuses_second r _ _ (sym (same_fault walk walk walk.next_id (n + 1 + width e + 3) k a refl refl refl h) ∙ first.keeps)
      (refuses_same r _ _ (same_fault walk one (walk.next_id + bound_in a) (n + 1 + width e + 3 + block_width a + 5) m b first.ids first.scope first.aliases start) broken))

  -- ---- loops

  -- what the loop's block sees
  abbrev pub inside : ScopeState → List ℕ → Scope
  inside walk x = with_name walk.scope (binder walk.next_id x) (ControlName Index)

  pub room_inside : (walk one : ScopeState) (n k : ℕ) (x : List ℕ) (low high : Tree) (a : Block) → HasRoom c walk n (statement_width (loop x low high a)) → one.scope ≡ inside walk x → one.next_id ≡ walk.next_id + 1 → k ≡ n + 5 + width low + 1 + width high + 4 → HasRoom c one k (block_width a)
  room_inside walk one n k x low high a r s i h = record {
    ids = omega (arith, r.ids, i, h);
    tokens = omega (arith, r.tokens, h);
    few = r.few;
    memories = r.memories;
    procedures = r.procedures;
    falls = subst {A = ℕ × Scope} (λ y. Falls y.0 y.1) (λ j. (sym i j, sym s j)) (omega arith, r.falls);
  }

  pub looped : (walk one two after : ScopeState) (n k : ℕ) (x : List ℕ) (low high : Tree) (a : Block) (A : List tree.Statement) (b : tree.Binder) (from to : tree.Control) → own_fault c walk n (loop x low high a) ≡ None → one.scope ≡ inside walk x → one.next_id ≡ walk.next_id + 1 → one.aliases.items ≡ walk.aliases.items → one.lines ≡ walk.lines → k ≡ n + 5 + width low + 1 + width high + 4 → IsBlock c one two A k a → b ≡ binder walk.next_id x → from ≡ control_of c.fields.now walk.scope low → to ≡ control_of c.fields.now walk.scope high → after.scope ≡ walk.scope → after.aliases.items ≡ two.aliases.items → after.next_id ≡ two.next_id → after.lines ≡ two.lines → IsStatement c walk after (tree.For b from to (tree.block A)) n (loop x low high a)
  looped walk one two after n k x low high a A b from to own s i aliased told h made is_b is_from is_to scope aliases ids lines =
      let id : one.next_id ≡ suc walk.next_id = i ∙ add-one walk.next_id in
      let kept : after.aliases.items ≡ walk.aliases.items = aliases ∙ made.aliases ∙ aliased in
      record {
        keeps = none_of_both _ _ own ((λ j. rules.block_fault c.fields.now c.memories.now c.procedures.now (signatures_in c) (sym id j) (sym s j) (roots_in (sym aliased j)) (sym h j) a) ∙ made.keeps);
        means = λ j. tree.For (is_b j) (is_from j) (is_to j) ((made.means ∙ (λ l. rules.block_of c.fields.now c.memories.now c.procedures.now (signatures_in c) (id l) (s l) a)) j);
        scope = scope;
        roots = ap roots_in kept;
        kept = ap (take (length walk.aliases.items)) kept ∙ take-length walk.aliases.items;
        ids = omega (arith, ids, made.ids, i);
        lines = lines ∙ made.lines ∙ (λ j. told j ++ map (line_at c.places.now) (block_starts (h j) a));
      }

  pub inside_refused : (walk one : ScopeState) (n k : ℕ) (x : List ℕ) (low high : Tree) (a : Block) (r : Refusal) → own_fault c walk n (loop x low high a) ≡ None → one.scope ≡ inside walk x → one.next_id ≡ walk.next_id + 1 → one.aliases.items ≡ walk.aliases.items → k ≡ n + 5 + width low + 1 + width high + 4 → Refuses r (block_fault c one k a) → Refuses r (statement_fault c walk n (loop x low high a))
  inside_refused walk one n k x low high a r own s i aliased h broken =
      refuses_second r _ _ own (refuses_same r _ _ (λ j. rules.block_fault c.fields.now c.memories.now c.procedures.now (signatures_in c) ((i ∙ add-one walk.next_id) j) (s j) (roots_in (aliased j)) (h j) a) broken)
