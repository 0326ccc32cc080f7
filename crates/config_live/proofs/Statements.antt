-- Ways over single statements, and over those of a block one after the other.
use Rattle.std.proofs.Common.{◌≡◌, ◌==◌, ◌<◌, ◌≤◌, ℕ, zero, suc, Bool, false, ◌&&◌, ◌||◌, List, [], ◌∷◌, length}
use Rattle.std.proofs.Common.{refl, sym, ap, ap₂, ◌∙◌, subst, drop, Result, Ok, Err, OnOk, Option, Some, None, get_or, arith}
use Rattle.std.proofs.lemmas.List.{drop_all}
use Rattle.std.specs.Prelude.{not, slice_get}
use Rattle.exo_tree.specs.Tree.{Binder, Control, Condition, Argument, Statement}
use Rattle.exo_tree.specs.Tree.{Config, If, For, Call, Block, end, next, block}
use Rattle.meaning_laws.specs.Live.{live, live_step, read_by_argument, read_by_condition}
use Rattle.meaning_laws.specs.Live.{read_by_control, read_by_arguments}
use Rattle.config_state.specs.FieldSets.{contains}
use Rattle.config_laws.specs.FieldRule.{is_listed}
use Rattle.config_laws.specs.Surely.{surely_writes, step_surely_writes}
use Rattle.config_laws.specs.Exits.{by_exit, GoesByExit}
use Rattle.config_laws.proofs.Exits.{blocks_go_by_exit}
use Rattle.config_live.specs.declared.table.CallFields.{CallFields}
use Rattle.config_live.specs.declared.table.LiveTable.{LiveTable}
use Rattle.config_live.specs.declared.way.Way.{Way}
use Rattle.config_live.specs.Tables.{reads_first, writes_surely, calls_in}
use Rattle.config_live.specs.Ways.{named_in, nothing, IsField, Went, Goes}
use Rattle.config_live.specs.Walks.{GoesOver, GoesBy, Branches, Meets}
use Rattle.config_live.proofs.Truths.{or_none, one_of_none, meet}
use Rattle.config_live.proofs.Ways.{reads_then, goes_then, goes_as, goes_up, went_goes, goes_none}
use Rattle.config_live.proofs.Ways.{reads_goes, still_field}

pub callee_at : (cs : List CallFields) (k : ℕ) (c : CallFields) → k < length cs → c ≡ get_or cs k c
    → slice_get cs k ≡ Some c
callee_at [] k c l e = absurd (omega arith)
callee_at (d ∷ cs) zero c l e = ap Some (sym e)
callee_at (d ∷ cs) (suc k) c l e = callee_at cs k c (omega arith) e

abbrev first_of : ℕ → Option CallFields → Bool
first_of f x = elim x [ None ↦ false | Some c ↦ is_listed f c.read_first ]

abbrev sure_of : ℕ → Option CallFields → Bool
sure_of f x = elim x [ None ↦ false | Some c ↦ is_listed f c.surely_written ]

module _ (table : LiveTable) where
  abbrev reads_over : Block → ℕ → Bool
  reads_over b f = live (calls_in table) f b false

  abbrev writes_over : Block → ℕ → Bool
  writes_over b f = surely_writes (writes_surely table) f b

  pub goes_by_table : GoesByExit (calls_in table) (writes_surely table)
  goes_by_table k f out =
      ap (λ x. by_exit x (writes_surely table k f) out) (sym (or_none (reads_first table k f)))

  -- ---- single statements

  pub config_by : (g : ℕ) (a : Argument) (old mid new : Way) (had has : List ℕ)
      → Went (λ f. named_in f (Config g a)) nothing old mid
      → Goes nothing (λ f. f == g) mid new had has
      → GoesBy table (Config g a) old new had has
  config_by g a old mid new had has h k =
      goes_as (λ f. read_by_argument f a || false)
      (λ f. live_step (calls_in table) f (Config g a) false) (λ f. f == g) (λ f. f == g)
      old new had has
      (λ f. ap (λ x. read_by_argument f a || x) (sym (one_of_none (f == g)))) (λ f. refl)
      (reads_goes (λ f. read_by_argument f a) nothing (λ f. f == g) old mid new had has h k)

  both_write : (t : Condition) (a b : Block) (old one two three : Way) (first both : List ℕ)
      → Went (λ f. read_by_condition f t) nothing old one
      → Branches table a one two first
      → Meets table b first two three both
      → (f : ℕ) → IsField old f
      → (is_listed f both && not (contains old.written f))
      ≡ ((writes_over a f && writes_over b f) && not (contains old.written f))
  both_write t a b old one two three first both h k j f i =
      let at_one = still_field (λ f. read_by_condition f t) nothing old one f h i in
      let at_two = still_field (reads_over a) nothing one two f k.went at_one in
      let w1 : contains one.written f ≡ contains old.written f =
      h.written f i ∙ or_none (contains old.written f) in
      let w2 : contains two.written f ≡ contains old.written f =
      k.went.written f at_one ∙ or_none (contains one.written f) ∙ w1 in
      let newly : is_listed f first ≡ (writes_over a f && not (contains old.written f)) =
      k.newly f at_one ∙ ap (λ x. writes_over a f && not x) w1 in
      ap (λ x. x && not (contains old.written f))
      (j.both f at_two ∙ ap₂ (λ x y. x && (y || writes_over b f)) newly w2)
      ∙ meet (writes_over a f) (writes_over b f) (contains old.written f)

  pub if_by : (t : Condition) (a b : Block) (old one two three new : Way) (first both had has : List ℕ)
      → Went (λ f. named_in f (If t a b)) nothing old one
      → Branches table a one two first
      → Meets table b first two three both
      → Goes nothing (λ f. is_listed f both) three new had has
      → GoesBy table (If t a b) old new had has
  if_by t a b old one two three new first both had has h k j w =
      let read = λ (f : ℕ). read_by_condition f t in
      let write = λ (f : ℕ). is_listed f both in
      goes_up (λ f. live_step (calls_in table) f (If t a b) false) write
      (λ f. writes_over a f && writes_over b f) old new had has
      (both_write t a b old one two three first both h k j)
      (goes_as (λ f. read f || (reads_over a f || (reads_over b f || false)))
      (λ f. live_step (calls_in table) f (If t a b) false) write write old new had has
      (λ f. ap (λ x. read f || (reads_over a f || x)) (or_none (reads_over b f))) (λ f. refl)
      (reads_goes read (λ f. reads_over a f || (reads_over b f || false)) write old one new had has h
      (reads_goes (reads_over a) (λ f. reads_over b f || false) write one two new had has k.went
      (reads_goes (reads_over b) nothing write two three new had has j.went w))))

  pub for_by : (i : Binder) (lo hi : Control) (b : Block) (old mid new : Way) (had : List ℕ)
      → Went (λ f. named_in f (For i lo hi b)) nothing old mid
      → Went (reads_over b) nothing mid new
      → GoesBy table (For i lo hi b) old new had had
  for_by i lo hi b old mid new had h k =
      went_goes (λ f. (read_by_control f lo || read_by_control f hi) || reads_over b f) old new had
      (reads_then (λ f. read_by_control f lo || read_by_control f hi) (reads_over b) nothing
      old mid new h k)

  pub call_by : (p : ℕ) (args : List Argument) (old mid new : Way) (had has : List ℕ)
      → Went (λ f. named_in f (Call p args)) nothing old mid
      → Goes (reads_first table p) (writes_surely table p) mid new had has
      → GoesBy table (Call p args) old new had has
  call_by p args old mid new had has h k =
      goes_as (λ f. read_by_arguments f args || reads_first table p f)
      (λ f. live_step (calls_in table) f (Call p args) false)
      (writes_surely table p) (writes_surely table p) old new had has
      (λ f. ap (λ x. read_by_arguments f args || x) (sym (or_none (reads_first table p f)))) (λ f. refl)
      (reads_goes (λ f. read_by_arguments f args) (reads_first table p) (writes_surely table p)
      old mid new had has h k)

  -- ---- blocks

  step_before : (a : Statement) (f : ℕ) (out : Bool)
      → (live_step (calls_in table) f a false || (out && not (step_surely_writes (writes_surely table) f a)))
      ≡ live_step (calls_in table) f a out
  step_before a f out =
      ap (λ x. live_step (calls_in table) f a false || (out && not x))
      (sym (or_none (step_surely_writes (writes_surely table) f a)))
      ∙ sym (blocks_go_by_exit (calls_in table) (writes_surely table) goes_by_table f (next a end) out)

  pub step_over : (a : Statement) (rest : Block) (old mid new : Way) (had more has : List ℕ)
      → GoesBy table a old mid had more
      → GoesOver table rest mid new more has
      → GoesOver table (next a rest) old new had has
  step_over a rest old mid new had more has h k =
      let sure = λ (f : ℕ). step_surely_writes (writes_surely table) f a in
      let one = λ (f : ℕ). live_step (calls_in table) f a false in
      goes_as (λ f. one f || (reads_over rest f && not (sure f))) (reads_over (next a rest))
      (λ f. sure f || writes_over rest f) (writes_over (next a rest)) old new had has
      (λ f. step_before a f (reads_over rest f)) (λ f. refl)
      (goes_then one sure (reads_over rest) (writes_over rest) old mid new had more has h k)

  pub statement_over : (ss rest : List Statement) (k : ℕ) (a : Statement) (old mid new : Way)
      (had more has : List ℕ)
      → drop k ss ≡ a ∷ rest
      → GoesBy table a old mid had more
      → GoesOver table (block rest) mid new more has
      → GoesOver table (block (drop k ss)) old new had has
  statement_over ss rest k a old mid new had more has e h j =
      subst (λ z. GoesOver table (block z) old new had has) (sym e)
      (step_over a (block rest) old mid new had more has h j)

  pub over_end : (ss : List Statement) (k : ℕ) (way : Way) (had : List ℕ) → length ss ≤ k
      → GoesOver table (block (drop k ss)) way way had had
  over_end ss k way had l =
      subst (λ z. GoesOver table (block z) way way had had) (sym (drop_all k ss l)) (goes_none way had)

  -- ---- statements by what they are

  pub config_at : (s : Statement) (g : ℕ) (a : Argument) (old mid new : Way) (had has : List ℕ)
      → s ≡ Config g a
      → Went (λ f. named_in f s) nothing old mid
      → Goes nothing (λ f. f == g) mid new had has
      → GoesBy table s old new had has
  config_at s g a old mid new had has e h k =
      subst (λ z. GoesBy table z old new had has) (sym e)
      (config_by g a old mid new had has
      (subst (λ z. Went (λ f. named_in f z) nothing old mid) e h) k)

  pub if_at : (s : Statement) (t : Condition) (a b : Block) (old one two three new : Way)
      (first both had has : List ℕ)
      → s ≡ If t a b
      → Went (λ f. named_in f s) nothing old one
      → Branches table a one two first
      → Meets table b first two three both
      → Goes nothing (λ f. is_listed f both) three new had has
      → GoesBy table s old new had has
  if_at s t a b old one two three new first both had has e h k j w =
      subst (λ z. GoesBy table z old new had has) (sym e)
      (if_by t a b old one two three new first both had has
      (subst (λ z. Went (λ f. named_in f z) nothing old one) e h) k j w)

  pub for_at : (s : Statement) (i : Binder) (lo hi : Control) (b : Block) (old mid new : Way)
      (had : List ℕ)
      → s ≡ For i lo hi b
      → Went (λ f. named_in f s) nothing old mid
      → Went (reads_over b) nothing mid new
      → GoesBy table s old new had had
  for_at s i lo hi b old mid new had e h k =
      subst (λ z. GoesBy table z old new had had) (sym e)
      (for_by i lo hi b old mid new had
      (subst (λ z. Went (λ f. named_in f z) nothing old mid) e h) k)

  pub call_at : (s : Statement) (p : ℕ) (args : List Argument) (old mid new : Way)
      (had has : List ℕ)
      → s ≡ Call p args
      → Went (λ f. named_in f s) nothing old mid
      → Goes (reads_first table p) (writes_surely table p) mid new had has
      → GoesBy table s old new had has
  call_at s p args old mid new had has e h k =
      subst (λ z. GoesBy table z old new had has) (sym e)
      (call_by p args old mid new had has
      (subst (λ z. Went (λ f. named_in f z) nothing old mid) e h) k)

  -- ---- a callee that is there

  pub callee_on : (k : ℕ) (c : CallFields) (old mid new : Way) (had has : List ℕ)
      → slice_get table.calls.items k ≡ Some c
      → Went (λ f. is_listed f c.read_first) nothing old mid
      → Goes nothing (λ f. is_listed f c.surely_written) mid new had has
      → Goes (reads_first table k) (writes_surely table k) old new had has
  callee_on k c old mid new had has e h j =
      goes_as (λ f. is_listed f c.read_first || false) (reads_first table k)
      (λ f. is_listed f c.surely_written) (writes_surely table k) old new had has
      (λ f. or_none (is_listed f c.read_first) ∙ sym (ap (first_of f) e))
      (λ f. sym (ap (sure_of f) e))
      (reads_goes (λ f. is_listed f c.read_first) nothing (λ f. is_listed f c.surely_written)
      old mid new had has h j)

pub on_ok : {X E : Type 0} (r : Result X E) (P Q : Type 0) → (P → Q) → OnOk r P → OnOk r Q
on_ok (Ok x) P Q k h = k h
on_ok (Err e) P Q k h = tt
