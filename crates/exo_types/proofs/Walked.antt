-- What a walk through a block has done, and what is left of it.
use Rattle.std.proofs.Common.{◌≡◌, ℕ, zero, suc, ◌+◌, ◌-◌, ◌≤◌, List, [], ◌∷◌, ◌++◌, Option, None, length, map, take, drop, refl, ap, sym, ◌∙◌, append_assoc, subst, arith}
use Rattle.std.proofs.lemmas.List.{append-nil, map-append, length-append}
use Rattle.std.proofs.Math.Seq.{drop-append_seam, take-length}
use Rattle.exo_tree.specs.Tree as tree
use Rattle.exo_tree.specs.Tree.{ConfigField, joined}
use Rattle.exo_meaning.specs.Run.{roots_after}
use Rattle.exo_meaning.specs.Units.{Scope, Named, scope_after}
use Rattle.exo_reader.specs.Source.{Statement, pass, branch, loop, allocate, call, configure, assign, reduce, view, Block, end, next}
use Rattle.rules_names.specs.declared.fault.Fault.{Fault}
use Rattle.rules_names.specs.Faults.{or_else}
use Rattle.exo_modes.specs.Aliases.{roots_in}
use Rattle.exo_types.specs.declared.context.Context.{Context}
use Rattle.exo_types.specs.declared.context.ScopeState.{ScopeState}
use Rattle.exo_types.specs.ArgumentRules.{Signature}
use Rattle.exo_types.specs.StatementRules as rules
use Rattle.exo_types.specs.StatementRules.{statement_width, block_width, bound, bound_in}
use Rattle.exo_types.specs.UnitLines.{inner_starts, block_starts, line_at}
use Rattle.exo_types.specs.Walks.{signatures_in, Falls, HasRoom, IsStatement, IsPut, IsBlock, statement_of, block_fault, block_of}
use Rattle.exo_types.proofs.Bounded.{few_bound}
use Rattle.exo_types.proofs.Falling.{falls_more}

-- a scope that was put over another
pub record IsOver (before after : Scope) : Type 0 where
  pub front : Scope
  pub over : after ≡ front ++ before

pub over_itself : (s : Scope) → IsOver s s
over_itself s = record { front = []; over = refl }

pub over_one : (before after : Scope) (n : Named) → after ≡ n ∷ before → IsOver before after
over_one before after n h = record { front = n ∷ []; over = h }

-- taking the newer names out gives the scope back
pub taken_out : (before after : Scope) → IsOver before after → drop (length after - length before) after ≡ before
taken_out before after o =
    let n : length after - length before ≡ length o.front = omega (arith, ap length o.over, length-append o.front before) in
    (λ i. drop (n i) (o.over i)) ∙ drop-append_seam o.front before

over_more : (before middle after : Scope) (front : Scope) → after ≡ front ++ middle → IsOver before middle → IsOver before after
over_more before middle after front h o = record { front = front ++ o.front; over = h ∙ ap (λ s. front ++ s) o.over ∙ sym (append_assoc front o.front before) }

-- a statement puts at most one name into scope
pub over_after : (t : tree.Statement) (before middle after : Scope) → after ≡ scope_after t middle → IsOver before middle → IsOver before after
over_after (tree.Assign x is e) before middle after h o = over_more before middle after [] h o
over_after (tree.Reduce x is e) before middle after h o = over_more before middle after [] h o
over_after (tree.Config f a) before middle after h o = over_more before middle after [] h o
over_after tree.Pass before middle after h o = over_more before middle after [] h o
over_after (tree.If c a b) before middle after h o = over_more before middle after [] h o
over_after (tree.For i lo hi b) before middle after h o = over_more before middle after [] h o
over_after (tree.Alloc x cell dims memory) before middle after h o = over_more before middle after (_ ∷ []) h o
over_after (tree.View w x coords) before middle after h o = over_more before middle after (_ ∷ []) h o
over_after (tree.Call k args) before middle after h o = over_more before middle after [] h o

take_shorter : {X : Type 0} (k n : ℕ) (ys : List X) → k ≤ n → take k (take n ys) ≡ take k ys
take_shorter zero n ys h = refl
take_shorter (suc k) zero ys h = absurd (omega (arith, h))
take_shorter (suc k) (suc n) [] h = refl
take_shorter (suc k) (suc n) (y ∷ ys) h = ap (λ zs. y ∷ zs) (take_shorter k n ys (omega (arith, h)))

length_taken : {X : Type 0} (n : ℕ) (ys : List X) → length (take n ys) ≤ length ys
length_taken zero ys = omega arith
length_taken (suc n) [] = omega arith
length_taken (suc n) (y ∷ ys) = omega (arith, length_taken n ys)

-- one block behind another, at whose end a statement is put
joined_last : (made : List tree.Statement) (t : tree.Statement) (rest : tree.Block) → joined (tree.block (made ++ t ∷ [])) rest ≡ joined (tree.block made) (tree.next t rest)
joined_last [] t rest = refl
joined_last (s ∷ made) t rest = ap (tree.next s) (joined_last made t rest)

joined_end : (made : List tree.Statement) → joined (tree.block made) tree.end ≡ tree.block made
joined_end [] = refl
joined_end (s ∷ made) = ap (tree.next s) (joined_end made)

-- what came first broke no rule
pub goes_on : (a b c whole : Option Fault) → or_else a b ≡ whole → a ≡ None → c ≡ b → c ≡ whole
goes_on a b c whole h e k = k ∙ ap (λ o. or_else o b) (sym e) ∙ h

-- lines that were told one after the other
told_on : {X : Type 0} (a b c : List X) (x : X) → ((a ++ x ∷ []) ++ b) ++ c ≡ a ++ (x ∷ (b ++ c))
told_on a b c x = append_assoc (a ++ x ∷ []) b c ∙ append_assoc a (x ∷ []) (b ++ c)

-- the ids of the names in scope fall after a statement too
falls_after : (fields : List ConfigField) (memories above : List (List ℕ)) (signatures : List Signature) (id : ℕ) (scope : Scope) (s : Statement) → Falls id scope → Falls (id + bound s) (scope_after (rules.statement_of fields memories above signatures id scope s) scope)
falls_after fields memories above signatures id scope pass f = falls_more id (id + 0) scope (omega arith) f
falls_after fields memories above signatures id scope (branch c a b) f = falls_more id (id + (bound_in a + bound_in b)) scope (omega arith) f
falls_after fields memories above signatures id scope (loop i low high a) f = falls_more id (id + suc (bound_in a)) scope (omega arith) f
falls_after fields memories above signatures id scope (allocate x type ds m) f = (omega arith, f)
falls_after fields memories above signatures id scope (call g args trailing) f = falls_more id (id + 0) scope (omega arith) f
falls_after fields memories above signatures id scope (configure c x e) f = falls_more id (id + 0) scope (omega arith) f
falls_after fields memories above signatures id scope (assign x ds e) f = falls_more id (id + 0) scope (omega arith) f
falls_after fields memories above signatures id scope (reduce x ds e) f = falls_more id (id + 0) scope (omega arith) f
falls_after fields memories above signatures id scope (view w x cs) f = (omega arith, f)

module _ (c : Context) where
  -- the walk has gone from token n, where the whole began, to token k, where the rest begins
  pub record SoFar (first walk : ScopeState) (made : List tree.Statement) (n k : ℕ) (whole rest : Block) : Type 0 where
    pub fault : block_fault c walk k rest ≡ block_fault c first n whole
    pub means : joined (tree.block made) (block_of c walk rest) ≡ block_of c first whole
    pub width : k + block_width rest ≡ n + block_width whole
    pub forward : n ≤ k
    pub count : walk.next_id + bound_in rest ≡ first.next_id + bound_in whole
    pub ids : walk.next_id ≤ k
    pub falls : Falls walk.next_id walk.scope
    pub lines : walk.lines ++ map (line_at c.places.now) (block_starts k rest) ≡ first.lines ++ map (line_at c.places.now) (block_starts n whole)
    pub over : IsOver first.scope walk.scope
    pub views : take (length first.aliases.items) walk.aliases.items ≡ first.aliases.items
    pub long : length first.aliases.items ≤ length walk.aliases.items

  -- a walk with these lines
  abbrev pub with_lines : ScopeState → List ℕ → ScopeState
  with_lines walk l = record walk { lines = l }

  pub so_first : (first : ScopeState) (made : List tree.Statement) (n : ℕ) (whole : Block) → made ≡ [] → HasRoom c first n (block_width whole) → SoFar first first made n n whole whole
  so_first first made n whole h room = record {
    fault = refl;
    means = ap (λ l. joined (tree.block l) (block_of c first whole)) h;
    width = refl;
    forward = omega arith;
    count = refl;
    ids = room.ids;
    falls = room.falls;
    lines = refl;
    over = over_itself first.scope;
    views = take-length first.aliases.items;
    long = omega arith;
  }

  -- there is room for the statement at hand
  pub room_for : (first walk : ScopeState) (l : List ℕ) (made : List tree.Statement) (n k : ℕ) (whole : Block) (s : Statement) (more : Block) → HasRoom c first n (block_width whole) → SoFar first walk made n k whole (next s more) → HasRoom c (with_lines walk l) k (statement_width s)
  room_for first walk l made n k whole s more room f = record {
    ids = f.ids;
    tokens = omega (arith, f.width, room.tokens);
    few = room.few;
    memories = room.memories;
    procedures = room.procedures;
    falls = f.falls;
  }

  -- one more statement
  pub so_on : (first walk after : ScopeState) (l : List ℕ) (made new : List tree.Statement) (n k m : ℕ) (whole : Block) (s : Statement) (more : Block) (t : tree.Statement) → SoFar first walk made n k whole (next s more) → l ≡ walk.lines ++ line_at c.places.now k ∷ [] → IsStatement c (with_lines walk l) after t k s → m ≡ k + statement_width s → new ≡ made ++ t ∷ [] → SoFar first after new n m whole more
  so_on first walk after l made new n k m whole s more t f told step end' pushed =
      let scope : after.scope ≡ scope_after (statement_of c walk s) walk.scope = step.scope ∙ ap (λ u. scope_after u walk.scope) step.means in
      let roots : roots_in after.aliases.items ≡ roots_after (statement_of c walk s) (roots_in walk.aliases.items) = step.roots ∙ ap (λ u. roots_after u (roots_in walk.aliases.items)) step.means in
      let few = few_bound s in
      record {
        fault = goes_on _ _ _ _ f.fault step.keeps (λ i. rules.block_fault c.fields.now c.memories.now c.procedures.now (signatures_in c) (step.ids i) (scope i) (roots i) (end' i) more);
        means =
            (λ i. joined (tree.block (pushed i)) (rules.block_of c.fields.now c.memories.now c.procedures.now (signatures_in c) (step.ids i) (scope i) more))
            ∙ joined_last made t (rules.block_of c.fields.now c.memories.now c.procedures.now (signatures_in c) (walk.next_id + bound s) (scope_after (statement_of c walk s) walk.scope) more)
            ∙ ap (λ u. joined (tree.block made) (tree.next u (rules.block_of c.fields.now c.memories.now c.procedures.now (signatures_in c) (walk.next_id + bound s) (scope_after (statement_of c walk s) walk.scope) more))) step.means
            ∙ f.means;
        width = omega (arith, f.width, end');
        forward = omega (arith, f.forward, end');
        count = omega (arith, f.count, step.ids);
        ids = omega (arith, f.ids, step.ids, few, end');
        falls = subst {A = ℕ × Scope} (λ x. Falls x.0 x.1) (λ i. (sym step.ids i, sym scope i)) (falls_after c.fields.now c.memories.now c.procedures.now (signatures_in c) walk.next_id walk.scope s f.falls);
        lines =
            (λ i. (step.lines ∙ ap (λ x. x ++ map (line_at c.places.now) (inner_starts k s)) told) i ++ map (line_at c.places.now) (block_starts (end' i) more))
            ∙ told_on walk.lines (map (line_at c.places.now) (inner_starts k s)) (map (line_at c.places.now) (block_starts (k + statement_width s) more)) (line_at c.places.now k)
            ∙ ap (λ l. walk.lines ++ (line_at c.places.now k ∷ l)) (sym (map-append (line_at c.places.now) (inner_starts k s) (block_starts (k + statement_width s) more)))
            ∙ f.lines;
        over = over_after t first.scope walk.scope after.scope step.scope f.over;
        views = sym (take_shorter (length first.aliases.items) (length walk.aliases.items) after.aliases.items f.long) ∙ ap (take (length first.aliases.items)) step.kept ∙ f.views;
        long = omega (arith, f.long, ap length step.kept, length_taken (length walk.aliases.items) after.aliases.items);
      }

  -- no statement is left
  pub ended : (first walk after : ScopeState) (made : List tree.Statement) (n k : ℕ) (whole : Block) → SoFar first walk made n k whole end → after.scope ≡ first.scope → after.aliases.items ≡ first.aliases.items → after.next_id ≡ walk.next_id → after.lines ≡ walk.lines → IsBlock c first after made n whole
  ended first walk after made n k whole f scope aliases ids lines = record {
    keeps = sym f.fault;
    means = sym (joined_end made) ∙ f.means;
    scope = scope;
    aliases = aliases;
    ids = ids ∙ omega (arith, f.count);
    lines = lines ∙ sym (append-nil walk.lines) ∙ f.lines;
  }

  -- a statement that was put last
  pub put : (before after : ScopeState) (old new : List tree.Statement) (made : tree.Statement) (n m : ℕ) (s : Statement) → IsStatement c before after made n s → new ≡ old ++ made ∷ [] → m ≡ n + statement_width s → IsPut c before after old new n m s
  put before after old new made n m s one last ends = record { made = made; one = one; last = last; ends = ends }
