-- The table of a unit, procedure by procedure.
use Rattle.std.proofs.Common.{◌≡◌, ◌<◌, ℕ, zero, suc, Bool, false, ◌&&◌, ◌||◌, List, [], ◌∷◌, ◌++◌}
use Rattle.std.proofs.Common.{refl, sym, ap, ap₂, ◌∙◌, subst}
use Rattle.std.specs.Prelude.{Some, None, slice_get}
use Rattle.exo_tree.specs.Tree.{Statement, Assign, Reduce, Config, Pass, If, For, Alloc, View, Call}
use Rattle.exo_tree.specs.Tree.{Block, end, next, Procedure}
use Rattle.exo_tree.specs.Context.{Context, Here, After, InLoop, InThen, InElse, fill}
use Rattle.meaning_laws.specs.Live.{live, live_step, live_behind, read_by_control, read_by_condition}
use Rattle.meaning_laws.specs.Live.{read_by_arguments}
use Rattle.meaning_laws.specs.UnitFields.{live_at, live_before, all_live, unit_live, written_at}
use Rattle.meaning_laws.specs.UnitFields.{read_by_params, read_by_conditions}
use Rattle.config_laws.specs.FieldRule.{is_listed}
use Rattle.config_laws.specs.Surely.{surely_writes, step_surely_writes, surely_by, all_surely, unit_surely}
use Rattle.config_laws.specs.Exits.{by_exit}
use Rattle.config_laws.proofs.Exits.{units_go_by_exit}
use Rattle.config_live.specs.declared.table.CallFields.{CallFields}

-- ---- where the callees say the same of the field

module _ (calls other : ℕ → ℕ → Bool → Bool) (f : ℕ)
    (same : (k : ℕ) (out : Bool) → calls k f out ≡ other k f out) where
  mutual
    pub live_same : (b : Block) (out : Bool) → live calls f b out ≡ live other f b out
    live_same end out = refl
    live_same (next a b) out =
        ap (live_step calls f a) (live_same b out) ∙ step_same a (live other f b out)

    step_same : (a : Statement) (out : Bool) → live_step calls f a out ≡ live_step other f a out
    step_same (Assign x is e) out = refl
    step_same (Reduce x is e) out = refl
    step_same (Config g a) out = refl
    step_same Pass out = refl
    step_same (If c a b) out =
        ap₂ (λ x y. read_by_condition f c || (x || y)) (live_same a out) (live_same b out)
    step_same (For i lo hi b) out =
        ap (λ z. (read_by_control f lo || read_by_control f hi) || (out || z)) (live_same b false)
    step_same (Alloc x cell dims memory) out = refl
    step_same (View w x coords) out = refl
    step_same (Call k args) out = ap (λ z. read_by_arguments f args || z) (same k out)

  pub behind_same : (old : Block) (c : Context) (out : Bool)
      → live_behind calls f old c out ≡ live_behind other f old c out
  behind_same old (Here rest) out = live_same rest out
  behind_same old (After a c) out = behind_same old c out
  behind_same old (InLoop i lo hi c rest) out =
      ap (live_behind calls f old c) (ap₂ ◌||◌ (live_same rest out) (live_same (fill c old) false))
      ∙ behind_same old c (live other f rest out || live other f (fill c old) false)
  behind_same old (InThen t c o rest) out =
      ap (live_behind calls f old c) (live_same rest out) ∙ behind_same old c (live other f rest out)
  behind_same old (InElse t o c rest) out =
      ap (live_behind calls f old c) (live_same rest out) ∙ behind_same old c (live other f rest out)

  pub before_same : (p : Procedure) (out : Bool) → live_before calls p f out ≡ live_before other p f out
  before_same p out =
      ap (λ z. read_by_params f p.params || (read_by_conditions f p.asserts || z))
      (live_same p.body out)

-- the same of what is surely written
module _ (calls other : ℕ → ℕ → Bool) (f : ℕ) (same : (k : ℕ) → calls k f ≡ other k f) where
  mutual
    pub surely_same : (b : Block) → surely_writes calls f b ≡ surely_writes other f b
    surely_same end = refl
    surely_same (next a b) = ap₂ ◌||◌ (surely_step_same a) (surely_same b)

    surely_step_same : (a : Statement) → step_surely_writes calls f a ≡ step_surely_writes other f a
    surely_step_same (Assign x is e) = refl
    surely_step_same (Reduce x is e) = refl
    surely_step_same (Config g a) = refl
    surely_step_same Pass = refl
    surely_step_same (If c a b) = ap₂ ◌&&◌ (surely_same a) (surely_same b)
    surely_step_same (For i lo hi b) = refl
    surely_step_same (Alloc x cell dims memory) = refl
    surely_step_same (View w x coords) = refl
    surely_step_same (Call k args) = same k

-- ---- units that grow by a procedure

live_one_more : (ls : List (ℕ → Bool → Bool)) (ps : List Procedure) (p : Procedure)
    → all_live ls (ps ++ p ∷ []) ≡ all_live ls ps ++ live_before (live_at (all_live ls ps)) p ∷ []
live_one_more ls [] p = refl
live_one_more ls (q ∷ ps) p = live_one_more (ls ++ live_before (live_at ls) q ∷ []) ps p

surely_one_more : (ws : List (ℕ → Bool)) (ps : List Procedure) (p : Procedure)
    → all_surely ws (ps ++ p ∷ []) ≡ all_surely ws ps ++ surely_by (written_at (all_surely ws ps)) p ∷ []
surely_one_more ws [] p = refl
surely_one_more ws (q ∷ ps) p = surely_one_more (ws ++ surely_by (written_at ws) q ∷ []) ps p

-- ---- entries beside lists of tests

abbrev first_in : List CallFields → ℕ → ℕ → Bool
first_in cs k f = elim (slice_get cs k) [ None ↦ false | Some c ↦ is_listed f c.read_first ]

abbrev sure_in : List CallFields → ℕ → ℕ → Bool
sure_in cs k f = elim (slice_get cs k) [ None ↦ false | Some c ↦ is_listed f c.surely_written ]

-- an entry has of so many fields those that pass its tests
abbrev One : ℕ → CallFields → (ℕ → Bool → Bool) → (ℕ → Bool) → Type 0
One n c l w =
    ((f : ℕ) → f < n → is_listed f c.read_first ≡ l f false)
    × ((f : ℕ) → f < n → is_listed f c.surely_written ≡ w f)

abbrev Fits : ℕ → List CallFields → List (ℕ → Bool → Bool) → List (ℕ → Bool) → Type 0
Fits n [] [] [] = Unit {0}
Fits n (c ∷ cs) (l ∷ ls) (w ∷ ws) = One n c l w × Fits n cs ls ws
Fits n cs ls ws = ⊥

fits_more : (n : ℕ) (cs : List CallFields) (ls : List (ℕ → Bool → Bool)) (ws : List (ℕ → Bool))
    (c : CallFields) (l : ℕ → Bool → Bool) (w : ℕ → Bool)
    → Fits n cs ls ws → One n c l w → Fits n (cs ++ c ∷ []) (ls ++ l ∷ []) (ws ++ w ∷ [])
fits_more n [] [] [] c l w h o = (o, tt)
fits_more n (d ∷ cs) (m ∷ ls) (v ∷ ws) c l w h o = (h.0, fits_more n cs ls ws c l w h.1 o)
fits_more n [] [] (v ∷ ws) c l w h o = absurd h
fits_more n [] (m ∷ ls) ws c l w h o = absurd h
fits_more n (d ∷ cs) [] ws c l w h o = absurd h
fits_more n (d ∷ cs) (m ∷ ls) [] c l w h o = absurd h

reads_fit : (n : ℕ) (cs : List CallFields) (ls : List (ℕ → Bool → Bool)) (ws : List (ℕ → Bool))
    → Fits n cs ls ws → (k f : ℕ) → f < n → first_in cs k f ≡ live_at ls k f false
reads_fit n [] [] [] h zero f l = refl
reads_fit n [] [] [] h (suc k) f l = refl
reads_fit n (c ∷ cs) (m ∷ ls) (w ∷ ws) h zero f l = h.0.0 f l
reads_fit n (c ∷ cs) (m ∷ ls) (w ∷ ws) h (suc k) f l = reads_fit n cs ls ws h.1 k f l
reads_fit n [] [] (w ∷ ws) h k f l = absurd h
reads_fit n [] (m ∷ ls) ws h k f l = absurd h
reads_fit n (c ∷ cs) [] ws h k f l = absurd h
reads_fit n (c ∷ cs) (m ∷ ls) [] h k f l = absurd h

writes_fit : (n : ℕ) (cs : List CallFields) (ls : List (ℕ → Bool → Bool)) (ws : List (ℕ → Bool))
    → Fits n cs ls ws → (k f : ℕ) → f < n → sure_in cs k f ≡ written_at ws k f
writes_fit n [] [] [] h zero f l = refl
writes_fit n [] [] [] h (suc k) f l = refl
writes_fit n (c ∷ cs) (m ∷ ls) (w ∷ ws) h zero f l = h.0.1 f l
writes_fit n (c ∷ cs) (m ∷ ls) (w ∷ ws) h (suc k) f l = writes_fit n cs ls ws h.1 k f l
writes_fit n [] [] (w ∷ ws) h k f l = absurd h
writes_fit n [] (m ∷ ls) ws h k f l = absurd h
writes_fit n (c ∷ cs) [] ws h k f l = absurd h
writes_fit n (c ∷ cs) (m ∷ ls) [] h k f l = absurd h

-- ---- the table so far

pub record SoFar (n : ℕ) (calls : List CallFields) (rest all : List Procedure) : Type 0 where
  pub done : List Procedure
  pub whole : done ++ rest ≡ all
  pub fits : Fits n calls (all_live [] done) (all_surely [] done)

pub start : (n : ℕ) (all : List Procedure) → SoFar n [] all all
start n all = record { done = []; whole = refl; fits = tt }

-- calls go by what is live and surely written where no field is live at the end
pub by_table : (ps : List Procedure) (n : ℕ) (read sure : ℕ → ℕ → Bool)
    → ((k f : ℕ) → f < n → read k f ≡ unit_live ps k f false)
    → ((k f : ℕ) → f < n → sure k f ≡ unit_surely ps k f)
    → (k f : ℕ) (out : Bool) → f < n
    → by_exit (read k f) (sure k f) out ≡ unit_live ps k f out
by_table ps n read sure r w k f out l =
    ap₂ (λ x y. by_exit x y out) (r k f l) (w k f l) ∙ sym (units_go_by_exit ps k f out)

append_one : (done : List Procedure) (p : Procedure) (rest : List Procedure)
    → (done ++ p ∷ []) ++ rest ≡ done ++ p ∷ rest
append_one [] p rest = refl
append_one (d ∷ done) p rest = ap (λ z. d ∷ z) (append_one done p rest)

-- by what an entry is made from
pub step_on : (n : ℕ) (calls : List CallFields) (p : Procedure) (rest all : List Procedure) (c : CallFields)
    → ((f : ℕ) → f < n
    → is_listed f c.read_first
    ≡ live_before (λ k f out. by_exit (first_in calls k f) (sure_in calls k f) out) p f false)
    → ((f : ℕ) → f < n → is_listed f c.surely_written ≡ surely_by (sure_in calls) p f)
    → SoFar n calls (p ∷ rest) all
    → SoFar n (calls ++ c ∷ []) rest all
step_on n calls p rest all c hr hw so =
    let by_sets = λ (k f : ℕ) (out : Bool). by_exit (first_in calls k f) (sure_in calls k f) out in
    let known = reads_fit n calls (all_live [] so.done) (all_surely [] so.done) so.fits in
    let wrote = writes_fit n calls (all_live [] so.done) (all_surely [] so.done) so.fits in
    let reads : (f : ℕ) → f < n → is_listed f c.read_first ≡ live_before (unit_live so.done) p f false =
    λ f l. hr f l ∙ before_same by_sets (unit_live so.done) f
    (λ k out. by_table so.done n (first_in calls) (sure_in calls) known wrote k f out l) p false in
    let writes : (f : ℕ) → f < n → is_listed f c.surely_written ≡ surely_by (unit_surely so.done) p f =
    λ f l. hw f l ∙ surely_same (sure_in calls) (unit_surely so.done) f (λ k. wrote k f l) p.body in
    record {
      done = so.done ++ p ∷ [];
      whole = append_one so.done p rest ∙ so.whole;
      fits =
          subst (λ z. Fits n (calls ++ c ∷ []) z (all_surely [] (so.done ++ p ∷ [])))
          (sym (live_one_more [] so.done p))
          (subst (λ z. Fits n (calls ++ c ∷ []) (all_live [] so.done ++ live_before (unit_live so.done) p ∷ []) z)
          (sym (surely_one_more [] so.done p))
          (fits_more n calls (all_live [] so.done) (all_surely [] so.done) c
          (live_before (unit_live so.done) p) (surely_by (unit_surely so.done) p) so.fits (reads, writes)));
    }

append_none : (done : List Procedure) → done ++ [] ≡ done
append_none [] = refl
append_none (d ∷ done) = ap (λ z. d ∷ z) (append_none done)

pub all_read : (n : ℕ) (calls : List CallFields) (all : List Procedure)
    → SoFar n calls [] all
    → (k f : ℕ) → f < n → first_in calls k f ≡ unit_live all k f false
all_read n calls all so k f l =
    reads_fit n calls (all_live [] so.done) (all_surely [] so.done) so.fits k f l
    ∙ ap (λ ps. unit_live ps k f false) (sym (append_none so.done) ∙ so.whole)

pub all_written : (n : ℕ) (calls : List CallFields) (all : List Procedure)
    → SoFar n calls [] all
    → (k f : ℕ) → f < n → sure_in calls k f ≡ unit_surely all k f
all_written n calls all so k f l =
    writes_fit n calls (all_live [] so.done) (all_surely [] so.done) so.fits k f l
    ∙ ap (λ ps. unit_surely ps k f) (sym (append_none so.done) ∙ so.whole)
