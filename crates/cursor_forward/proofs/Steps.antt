-- Paths that the code goes down a step at a time.
use Rattle.std.proofs.Common.{◌≡◌, ◌<◌, ◌-◌, ◌==◌, ◌&&◌, ℕ, zero, suc, Bool, true, false, List, [], ◌∷◌}
use Rattle.std.proofs.Common.{length, map, Option, Some, None, refl, sym, ap, ap₂, ◌∙◌, true≢false, eqb-true}
use Rattle.std.proofs.Common.{arith}
use Rattle.std.specs.Prelude.{if◌then◌else◌, nat_le, option_map, option_and_then}
use Rattle.exo_tree.specs.Tree.{Statement, Block, block, statements}
use Rattle.exo_tree.specs.Places.{Main, Step, Path, same_branch, same_step, statement_at}
use Rattle.exo_tree.specs.Branches.{branch_of}
use Rattle.exo_tree.specs.declared.place.Step as declared
use Rattle.exo_tree.specs.PlainPlace.{step_taken}
use Rattle.cursor_forward.specs.Shifts.{Below, below}
use Rattle.cursor_forward.specs.Cursors.{Cursor, Node, body_of, inside, whole_of, span_of}
use Rattle.cursor_forward.proofs.Lasts.{statements_block}

below_step : (f s : Step) (more rest : Path) (b : Bool) → 0 < length more → same_step f s ≡ b → below (f ∷ more) (s ∷ rest) ≡ (if b then below more rest else None)
below_step f s [] rest b h e = absurd (omega (arith, h))
below_step f s (g ∷ more) rest b h e = ap (λ (x : Bool). if x then below (g ∷ more) rest else None) e

mapped_some_steps : (more : List declared.Step) → 0 < length more → 0 < length (map step_taken more)
mapped_some_steps [] h = absurd (omega (arith, h))
mapped_some_steps (g ∷ more) h = omega arith

pub below_deeper : (from more path rest : List declared.Step) (f s : declared.Step) (b : Bool) → from ≡ f ∷ more → path ≡ s ∷ rest → 0 < length more → same_step (step_taken f) (step_taken s) ≡ b → below (map step_taken from) (map step_taken path) ≡ (if b then below (map step_taken more) (map step_taken rest) else None)
below_deeper from more path rest f s b e d h g =
    (λ i. below (map step_taken (e i)) (map step_taken (d i)))
    ∙ below_step (step_taken f) (step_taken s) (map step_taken more) (map step_taken rest) b (mapped_some_steps more h) g

span_step : (f s : Step) (more rest : Path) (b : Bool) → 0 < length more → same_step f s ≡ b → span_of (f ∷ more) (s ∷ rest) ≡ (if b then span_of more rest else None)
span_step f s [] rest b h e = absurd (omega (arith, h))
span_step f s (g ∷ more) [] true h e = refl
span_step f s (g ∷ more) [] false h e = refl
span_step f s (g ∷ more) (r ∷ rest) b h e = ap (λ (x : Bool). if x then span_of (g ∷ more) (r ∷ rest) else None) e

pub span_deeper : (from more path rest : List declared.Step) (f s : declared.Step) (b : Bool) → from ≡ f ∷ more → path ≡ s ∷ rest → 0 < length more → same_step (step_taken f) (step_taken s) ≡ b → span_of (map step_taken from) (map step_taken path) ≡ (if b then span_of (map step_taken more) (map step_taken rest) else None)
span_deeper from more path rest f s b e d h g =
    (λ i. span_of (map step_taken (e i)) (map step_taken (d i)))
    ∙ span_step (step_taken f) (step_taken s) (map step_taken more) (map step_taken rest) b (mapped_some_steps more h) g

abbrev in_block : Path → Block → Option Cursor
in_block path b = option_and_then (λ first. whole_of first (length (statements b))) (inside path)

pub body_parts : (body : Block) (path first : Path) (a : Statement) (bs : List Statement) → statement_at path body ≡ Some a → branch_of Main a ≡ Some (block bs) → inside path ≡ Some first → body_of body (Node path) ≡ whole_of first (length bs)
body_parts body path first a bs e f g =
    ap (λ (o : Option Statement). option_and_then (in_block path) (option_and_then (branch_of Main) o)) e
    ∙ ap (option_and_then (in_block path)) f
    ∙ ap (λ (o : Option Path). option_and_then (λ r. whole_of r (length (statements (block bs)))) o) g
    ∙ ap (λ (ss : List Statement). whole_of first (length ss)) (statements_block bs)

-- ---- where one of two paths ends

-- what a test of a length says
pub none_more : (n : ℕ) → true ≡ (n == 0) → n ≡ 0
none_more n h = eqb-true n 0 (sym h)

pub some_more : (n : ℕ) → false ≡ (n == 0) → 0 < n
some_more zero h = absurd (true≢false (sym h))
some_more (suc n) h = omega arith

one_step : (xs more : List declared.Step) (x : declared.Step) → xs ≡ x ∷ more → length more ≡ 0
    → map step_taken xs ≡ step_taken x ∷ []
one_step xs [] x e h = ap (map step_taken) e
one_step xs (y ∷ more) x e h = absurd (omega (arith, h))

-- nothing is below no path, and no path is below one
pub below_none : (from path : List declared.Step) → length from ≡ 0
    → None ≡ below (map step_taken from) (map step_taken path)
below_none [] path h = refl
below_none (f ∷ from) path h = absurd (omega (arith, h))

pub none_below : (from path : List declared.Step) → length path ≡ 0
    → None ≡ below (map step_taken from) (map step_taken path)
none_below [] [] h = refl
none_below (f ∷ from) [] h = refl
none_below from (s ∷ path) h = absurd (omega (arith, h))

-- a path is below the last step of another one as far behind as its step is
abbrev behind_step : Step → Step → Option ℕ
behind_step f s = if same_branch f.branch s.branch && nat_le f.index s.index then Some (s.index - f.index) else None

abbrev behind_by : Path → ℕ → Below
behind_by rest k = record { offset = k; rest = rest }

behind_with : (rest : Path) (n : ℕ) (b : Bool)
    → option_map (behind_by rest) (if b then Some n else None)
    ≡ (if b then Some (behind_by rest n) else None)
behind_with rest n true = refl
behind_with rest n false = refl

pub below_last : (from more path rest : List declared.Step) (f s : declared.Step) (o : Option ℕ) (w : Option Below)
    → from ≡ f ∷ more → path ≡ s ∷ rest → length more ≡ 0 → o ≡ behind_step (step_taken f) (step_taken s)
    → w ≡ option_map (behind_by (map step_taken rest)) o
    → w ≡ below (map step_taken from) (map step_taken path)
below_last from more path rest f s o w e d h is same =
    let a = step_taken f in
    let b = step_taken s in
    let t : Bool = same_branch a.branch b.branch && nat_le a.index b.index in
    same
    ∙ ap (option_map (behind_by (map step_taken rest))) is
    ∙ behind_with (map step_taken rest) (b.index - a.index) t
    ∙ ap₂ (λ p q. below p q) (sym (one_step from more f e h)) (sym (ap (map step_taken) d))

-- there are no statements from no path, or to none
pub span_none : (first last : List declared.Step) → length first ≡ 0
    → None ≡ span_of (map step_taken first) (map step_taken last)
span_none [] last h = refl
span_none (f ∷ first) last h = absurd (omega (arith, h))

pub none_span : (first last : List declared.Step) → length last ≡ 0
    → None ≡ span_of (map step_taken first) (map step_taken last)
none_span [] [] h = refl
none_span (f ∷ first) [] h = refl
none_span first (l ∷ last) h = absurd (omega (arith, h))

pub span_last : (first more last rest : List declared.Step) (f l : declared.Step) (o : Option ℕ)
    → first ≡ f ∷ more → last ≡ l ∷ rest → length more ≡ 0 → length rest ≡ 0
    → o ≡ span_of (step_taken f ∷ []) (step_taken l ∷ []) → o ≡ span_of (map step_taken first) (map step_taken last)
span_last first more last rest f l o e d h k is =
    is ∙ ap₂ (λ p q. span_of p q) (sym (one_step first more f e h)) (sym (one_step last rest l d k))

-- nor from the end of a path to one that goes on
goes_on : (f l : Step) (rest : List declared.Step) → 0 < length rest → None ≡ span_of (f ∷ []) (l ∷ map step_taken rest)
goes_on f l [] h = absurd (omega (arith, h))
goes_on f l (r ∷ rest) h = refl

pub span_beyond : (first more last rest : List declared.Step) (f l : declared.Step)
    → first ≡ f ∷ more → last ≡ l ∷ rest → length more ≡ 0 → 0 < length rest
    → None ≡ span_of (map step_taken first) (map step_taken last)
span_beyond first more last rest f l e d h k =
    goes_on (step_taken f) (step_taken l) rest k
    ∙ ap₂ (λ p q. span_of p q) (sym (one_step first more f e h)) (sym (ap (map step_taken) d))
