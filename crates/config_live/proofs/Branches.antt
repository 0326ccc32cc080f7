-- From the end of a branch on to the end of the block in which its statement stands.
use Rattle.std.proofs.Common.{◌≡◌, ◌+◌, ℕ, Bool, true, false, ◌&&◌, ◌||◌, List, ◌∷◌}
use Rattle.std.proofs.Common.{drop, Option, Some, None, option_map, refl, sym, ap, ◌∙◌, subst}
use Rattle.std.specs.Prelude.{not}
use Rattle.exo_tree.specs.Tree.{Statement, If, For, Block, next, block}
use Rattle.exo_tree.specs.Context.{InLoop, InThen, InElse, fill}
use Rattle.exo_tree.specs.Places.{Branch, Main, Else, Opened, into}
use Rattle.exo_tree.specs.Branches.{branch_of}
use Rattle.meaning_laws.specs.Live.{live, live_behind}
use Rattle.meaning_laws.proofs.Parts.{none_some}
use Rattle.config_laws.specs.Surely.{surely_writes, surely_behind}
use Rattle.config_laws.proofs.Exits.{holes_go_by_exit}
use Rattle.config_live.specs.declared.table.LiveTable.{LiveTable}
use Rattle.config_live.specs.declared.way.Way.{Way}
use Rattle.config_live.specs.Tables.{writes_surely, calls_in}
use Rattle.config_live.specs.Ways.{nothing, Went, Goes}
use Rattle.config_live.specs.Walks.{GoesOver}
use Rattle.config_live.specs.Places.{live_in_next_turn, left_by, Leaves, Reaches}
use Rattle.config_live.proofs.Truths.{or_none, or_swap}
use Rattle.config_live.proofs.Ways.{goes_then, goes_as, reads_goes}
use Rattle.config_live.proofs.Statements.{goes_by_table}

-- ---- out of a branch

module _ (table : LiveTable) (old mid new : Way) (had more has : List ℕ) where
  abbrev Inner : Option Opened → Type 0
  Inner x = Reaches table x true old mid had more

  abbrev Left : Statement → Block → Type 0
  Left a rest = Goes (λ f. left_by (calls_in table) f a rest) (λ f. surely_writes (writes_surely table) f rest) mid new more has

  -- what is read behind the hole, and then behind the branch
  onward_live : (o : Opened) (behind : ℕ → Bool) (f : ℕ)
      → (live_behind (calls_in table) f o.piece o.around false || (behind f && not (surely_behind (writes_surely table) f o.around)))
      ≡ live_behind (calls_in table) f o.piece o.around (behind f)
  onward_live o behind f =
      sym (holes_go_by_exit (calls_in table) (writes_surely table) (goes_by_table table) f o.piece o.around (behind f))

  out_of : (a : Statement) (rest : Block) (o : Opened)
      → Goes (λ f. live_behind (calls_in table) f o.piece o.around false) (λ f. surely_behind (writes_surely table) f o.around) old mid had more
      → Left a rest
      → Goes (λ f. live_behind (calls_in table) f o.piece o.around (left_by (calls_in table) f a rest))
      (λ f. surely_behind (writes_surely table) f o.around || surely_writes (writes_surely table) f rest) old new had has
  out_of a rest o h k =
      let sure = λ (f : ℕ). surely_behind (writes_surely table) f o.around in
      let more_sure = λ (f : ℕ). surely_writes (writes_surely table) f rest in
      let there = λ (f : ℕ). live_behind (calls_in table) f o.piece o.around false in
      let left = λ (f : ℕ). left_by (calls_in table) f a rest in
      goes_as (λ f. there f || (left f && not (sure f)))
      (λ f. live_behind (calls_in table) f o.piece o.around (left f))
      (λ f. sure f || more_sure f) (λ f. sure f || more_sure f) old new had has
      (onward_live o left) (λ f. refl)
      (goes_then there sure left more_sure old mid new had more has h k)

  into_loop : (i : _) (lo hi : _) (b rest : Block) (x : Option Opened)
      → ((o : Opened) → x ≡ Some o → fill o.around o.piece ≡ b)
      → Inner x → Left (For i lo hi b) rest
      → Reaches table (option_map (λ (o : Opened). record { around = InLoop i lo hi o.around rest; piece = o.piece }) x) true old new had has
  into_loop i lo hi b rest None opens h k = absurd (cc h)
  into_loop i lo hi b rest (Some o) opens h k = (
    refl,
    subst (λ z. Goes (λ f. live_behind (calls_in table) f o.piece o.around (live (calls_in table) f rest false || live (calls_in table) f z false)) (λ f. surely_behind (writes_surely table) f o.around || surely_writes (writes_surely table) f rest) old new had has)
        (sym (opens o refl)) (out_of (For i lo hi b) rest o h.1 k),
  )

  no_turn : (a : Statement) (rest : Block) (o : Opened)
      → ((f : ℕ) → live_in_next_turn (calls_in table) f a ≡ false)
      → Goes (λ f. live_behind (calls_in table) f o.piece o.around false) (λ f. surely_behind (writes_surely table) f o.around) old mid had more
      → Left a rest
      → Goes (λ f. live_behind (calls_in table) f o.piece o.around (live (calls_in table) f rest false))
      (λ f. surely_behind (writes_surely table) f o.around || surely_writes (writes_surely table) f rest) old new had has
  no_turn a rest o none h k =
      let sure = λ (f : ℕ). surely_behind (writes_surely table) f o.around || surely_writes (writes_surely table) f rest in
      goes_as (λ f. live_behind (calls_in table) f o.piece o.around (left_by (calls_in table) f a rest))
      (λ f. live_behind (calls_in table) f o.piece o.around (live (calls_in table) f rest false)) sure sure old new had has
      (λ f. ap (live_behind (calls_in table) f o.piece o.around)
      (ap (λ z. live (calls_in table) f rest false || z) (none f) ∙ or_none (live (calls_in table) f rest false)))
      (λ f. refl) (out_of a rest o h k)

  into_then : (t : _) (a b rest : Block) (x : Option Opened) → Inner x → Left (If t a b) rest
      → Reaches table (option_map (λ (o : Opened). record { around = InThen t o.around b rest; piece = o.piece }) x) true old new had has
  into_then t a b rest None h k = absurd (cc h)
  into_then t a b rest (Some o) h k = (refl, no_turn (If t a b) rest o (λ f. refl) h.1 k)

  into_else : (t : _) (a b rest : Block) (x : Option Opened) → Inner x → Left (If t a b) rest
      → Reaches table (option_map (λ (o : Opened). record { around = InElse t a o.around rest; piece = o.piece }) x) true old new had has
  into_else t a b rest None h k = absurd (cc h)
  into_else t a b rest (Some o) h k = (refl, no_turn (If t a b) rest o (λ f. refl) h.1 k)

  one_some : {A : Type 0} (a b : A) → Some a ≡ Some b → a ≡ b
  one_some a b e = cc

  pub into_reaches : (find : Block → Option Opened)
      → ((b : Block) (o : Opened) → find b ≡ Some o → fill o.around o.piece ≡ b)
      → (which : Branch) (a : Statement) (rest inner : Block)
      → branch_of which a ≡ Some inner
      → Inner (find inner) → Left a rest
      → Reaches table (into which find (next a rest)) true old new had has
  into_reaches find opens Main (For i lo hi b) rest inner e h k =
      into_loop i lo hi b rest (find b) (opens b)
      (subst (λ z. Inner (find z)) (sym (one_some b inner e)) h) k
  into_reaches find opens Main (If t a b) rest inner e h k =
      into_then t a b rest (find a) (subst (λ z. Inner (find z)) (sym (one_some a inner e)) h) k
  into_reaches find opens Else (If t a b) rest inner e h k =
      into_else t a b rest (find b) (subst (λ z. Inner (find z)) (sym (one_some b inner e)) h) k
  into_reaches find opens which a rest inner e h k = absurd (none_some e)

-- ---- out of a statement that is there

pub leaves_from : (table : LiveTable) (ss : List Statement) (index : ℕ) (s : Statement)
    (old mid new : Way) (had has : List ℕ)
    → drop index ss ≡ s ∷ drop (index + 1) ss
    → Went (λ f. live_in_next_turn (calls_in table) f s) nothing old mid
    → GoesOver table (block (drop (index + 1) ss)) mid new had has
    → Leaves table ss index old new had has
leaves_from table ss index s old mid new had has e h k a d =
    let rest = block (drop (index + 1) ss) in
    let same : s ≡ a = first_same s a (drop (index + 1) ss) (sym e ∙ d) in
    let sure = λ (f : ℕ). surely_writes (writes_surely table) f rest in
    subst (λ z. Goes (λ f. left_by (calls_in table) f z rest) sure old new had has) same
    (goes_as (λ f. live_in_next_turn (calls_in table) f s || live (calls_in table) f rest false)
    (λ f. left_by (calls_in table) f s rest) sure sure old new had has
    (λ f. or_swap (live_in_next_turn (calls_in table) f s) (live (calls_in table) f rest false)) (λ f. refl)
    (reads_goes (λ f. live_in_next_turn (calls_in table) f s) (λ f. live (calls_in table) f rest false)
    sure old mid new had has h k))
  where
    first_same : (s a : Statement) (rest : List Statement) → s ∷ rest ≡ a ∷ rest → s ≡ a
    first_same s a rest e = cc
