-- From a way to the end of a body to what is live at its beginning.
use Rattle.std.proofs.Common.{◌≡◌, ◌<◌, ℕ, zero, suc, Bool, true, false, ◌&&◌, ◌||◌, nat_lt, List, [], ◌∷◌, length}
use Rattle.std.proofs.Common.{Option, Some, None, refl, sym, ap, ap₂, ◌∙◌, subst, arith}
use Rattle.std.specs.Prelude.{not, replicate}
use Rattle.exo_tree.specs.Tree.{Block, Procedure}
use Rattle.exo_tree.specs.Places.{Branch, Main, Else, Step, Path, Opened, opened_in, opened}
use Rattle.meaning_laws.specs.Live.{live_behind}
use Rattle.meaning_laws.specs.UnitFields.{unit_live}
use Rattle.config_state.specs.FieldSets.{contains}
use Rattle.config_laws.specs.FieldRule.{Side, Before, Behind, gap, is_live, surely_from}
use Rattle.exo_tree.specs.Context.{Context, Here, After, InLoop, InThen, InElse}
use Rattle.config_laws.specs.Surely.{surely_behind, unit_surely}
use Rattle.config_live.specs.declared.table.LiveTable.{LiveTable}
use Rattle.config_live.specs.declared.way.Way.{Way}
use Rattle.config_live.specs.Tables.{reads_first, writes_surely, calls_in}
use Rattle.config_live.specs.Ways.{IsStart}
use Rattle.config_live.specs.Places.{place_in, live_from, Reaches, Arrives}
use Rattle.config_live.proofs.Truths.{and_all}
use Rattle.config_live.proofs.Ways.{none_in}
use Rattle.config_live.proofs.Units.{behind_same, surely_same, by_table}

beyond : (s : List Bool) (f : ℕ) → nat_lt f (length s) ≡ false → contains s f ≡ false
beyond [] zero e = refl
beyond [] (suc f) e = refl
beyond (b ∷ s) zero e = absurd (grind arith)
beyond (b ∷ s) (suc f) e = beyond s f (grind arith)

gap_main : (s : Step) (path : Path) (side : Side) (b : Block) → s.branch ≡ Main
    → opened 0 (gap (s ∷ path) side) b ≡ opened_in 0 (gap (s ∷ path) side) b
gap_main s path Before b e =
    ap (λ (w : Branch). elim w as (λ w. Option Opened) [ Main ↦ opened_in 0 (s ∷ path) b | Else ↦ None ]) e
gap_main s [] Behind b e =
    ap (λ (w : Branch). elim w as (λ w. Option Opened) [ Main ↦ opened_in 0 (gap (s ∷ []) Behind) b | Else ↦ None ]) e
gap_main s (t ∷ path) Behind b e =
    ap (λ (w : Branch). elim w as (λ w. Option Opened) [ Main ↦ opened_in 0 (gap (s ∷ t ∷ path) Behind) b | Else ↦ None ]) e

gap_else : (s : Step) (path : Path) (side : Side) (b : Block) → s.branch ≡ Else
    → opened 0 (gap (s ∷ path) side) b ≡ None
gap_else s path Before b e =
    ap (λ (w : Branch). elim w as (λ w. Option Opened) [ Main ↦ opened_in 0 (s ∷ path) b | Else ↦ None ]) e
gap_else s [] Behind b e =
    ap (λ (w : Branch). elim w as (λ w. Option Opened) [ Main ↦ opened_in 0 (gap (s ∷ []) Behind) b | Else ↦ None ]) e
gap_else s (t ∷ path) Behind b e =
    ap (λ (w : Branch). elim w as (λ w. Option Opened) [ Main ↦ opened_in 0 (gap (s ∷ t ∷ path) Behind) b | Else ↦ None ]) e

not_both : (t : Bool) → false ≡ (t && false)
not_both true = refl
not_both false = refl

abbrev live_there : List Procedure → ℕ → Option Opened → Bool
live_there ps f x = elim x [ None ↦ false | Some o ↦ is_live ps f o ]

module _ (ps : List Procedure) (n : ℕ) (table : LiveTable)
    (r : (k f : ℕ) → f < n → reads_first table k f ≡ unit_live ps k f false)
    (w : (k f : ℕ) → f < n → writes_surely table k f ≡ unit_surely ps k f) where
  found_or_not : (x : Option Opened) (found : Bool) (old new : Way) (has : List ℕ) (f : ℕ)
      → IsStart n old
      → Reaches table x found old new [] has
      → (found && contains new.read f) ≡ (nat_lt f n && live_there ps f x)
  found_or_not None found old new has f s h =
      ap (λ z. z && contains new.read f) h ∙ not_both (nat_lt f n)
  found_or_not (Some o) found old new has f s h =
      ap (λ z. z && contains new.read f) h.0 ∙ go (nat_lt f n) refl
    where
      same_length : length new.read ≡ n
      same_length = h.1.went.same_read ∙ s.all_read

      go : (t : Bool) → nat_lt f n ≡ t → contains new.read f ≡ (t && is_live ps f o)
      go false e = beyond new.read f (ap (nat_lt f) same_length ∙ e)
      go true e =
          let l : f < n = grind arith in
          let there = live_behind (calls_in table) f o.piece o.around false in
          h.1.went.read f (record {
            of_read = let q = s.all_read in omega arith;
            of_written = let q = s.all_written in omega arith;
          })
          ∙ ap₂ (λ x y. x || (there && not y)) (s.none_read f l) (s.none_written f l)
          ∙ and_all there
          ∙ behind_same (calls_in table) (unit_live ps) f
          (λ k out. by_table ps n (reads_first table) (writes_surely table) r w k f out l)
          o.piece o.around false

  pub live_is : (b : Block) (path : Path) (side : Side) (found : Bool) (old new : Way) (f : ℕ)
      → IsStart n old
      → Arrives table (place_in b path side) found old new
      → (found && contains new.read f) ≡ (nat_lt f n && live_from ps b path side f)
  live_is b path side found old new f start h =
      found_or_not (place_in b path side) found old new h.0 f start h.1

-- ---- the first step of a path

pub arrive_main : (table : LiveTable) (s : Step) (path : Path) (side : Side) (b : Block)
    (found : Bool) (old new : Way) (has : List ℕ)
    → s.branch ≡ Main
    → Reaches table (opened_in 0 (gap (s ∷ path) side) b) found old new [] has
    → Arrives table (place_in b (s ∷ path) side) found old new
arrive_main table s path side b found old new has e h =
    (has, subst (λ x. Reaches table x found old new [] has) (sym (gap_main s path side b e)) h)

pub arrive_else : (table : LiveTable) (s : Step) (path : Path) (side : Side) (b : Block) (way : Way)
    → s.branch ≡ Else
    → Arrives table (place_in b (s ∷ path) side) false way way
arrive_else table s path side b way e =
    ([], subst (λ x. Reaches table x false way way [] []) (sym (gap_else s path side b e)) refl)

pub arrive_none : (table : LiveTable) (path : Path) (side : Side) (b : Block) (way : Way)
    → path ≡ []
    → Arrives table (place_in b path side) false way way
arrive_none table path side b way e =
    ([], subst (λ p. Reaches table (place_in b p side) false way way [] []) (sym e) (nowhere side))
  where
    nowhere : (side : Side) → Reaches table (place_in b [] side) false way way [] []
    nowhere Before = refl
    nowhere Behind = refl

-- ---- what is surely written from a place on

module _ (ps : List Procedure) (n : ℕ) (table : LiveTable) (f : ℕ)
    (w : (k : ℕ) → writes_surely table k f ≡ unit_surely ps k f) where
  behind_surely : (c : Context)
      → surely_behind (writes_surely table) f c ≡ surely_behind (unit_surely ps) f c
  behind_surely (Here rest) = surely_same (writes_surely table) (unit_surely ps) f w rest
  behind_surely (After a c) = behind_surely c
  behind_surely (InLoop i lo hi c rest) =
      ap₂ ◌||◌ (behind_surely c) (surely_same (writes_surely table) (unit_surely ps) f w rest)
  behind_surely (InThen t c other rest) =
      ap₂ ◌||◌ (behind_surely c) (surely_same (writes_surely table) (unit_surely ps) f w rest)
  behind_surely (InElse t other c rest) =
      ap₂ ◌||◌ (behind_surely c) (surely_same (writes_surely table) (unit_surely ps) f w rest)

  written_there : (x : Option Opened) (old new : Way) (has : List ℕ)
      → IsStart n old → f < n
      → Reaches table x true old new [] has
      → contains new.written f
      ≡ elim x as (λ x. Bool) [ None ↦ false | Some o ↦ surely_behind (unit_surely ps) f o.around ]
  written_there None old new has s l h = absurd (cc h)
  written_there (Some o) old new has s l h =
      h.1.went.written f (record {
        of_read = let q = s.all_read in omega arith;
        of_written = let q = s.all_written in omega arith;
      })
      ∙ ap (λ x. x || surely_behind (writes_surely table) f o.around) (s.none_written f l)
      ∙ behind_surely o.around

  pub written_is : (b : Block) (path : Path) (side : Side) (found : Bool) (old new : Way)
      → IsStart n old → f < n → found ≡ true
      → Arrives table (place_in b path side) found old new
      → contains new.written f ≡ surely_from ps b path side f
  written_is b path side found old new s l e h =
      written_there (place_in b path side) old new h.0 s l
      (subst (λ z. Reaches table (place_in b path side) z old new [] h.0) e h.1)

  unwritten_there : (x : Option Opened) (old new : Way) (has : List ℕ)
      → Reaches table x false old new [] has
      → false
      ≡ elim x as (λ x. Bool) [ None ↦ false | Some o ↦ surely_behind (unit_surely ps) f o.around ]
  unwritten_there None old new has h = refl
  unwritten_there (Some o) old new has h = absurd (cc (h.0))

  -- nothing is, where the place is not there
  pub unwritten_is : (b : Block) (path : Path) (side : Side) (found : Bool) (old new : Way)
      (set : List Bool) → set ≡ replicate n false → found ≡ false
      → Arrives table (place_in b path side) found old new
      → contains set f ≡ surely_from ps b path side f
  unwritten_is b path side found old new set none e h =
      ap (λ s. contains s f) none
      ∙ none_in n f
      ∙ unwritten_there (place_in b path side) old new h.0
      (subst (λ z. Reaches table (place_in b path side) z old new [] h.0) e h.1)
