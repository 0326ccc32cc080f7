-- The claims of a well-formed procedure are conditions over the names in scope at their places: along its body.
use Rattle.std.proofs.Common.{◌≡◌, ℕ, suc, ◌+◌, ◌==◌, true, false, cond, not, ◌&&◌, List, [], ◌∷◌, ◌++◌, length, map, Option, Some, None, option_map, refl, sym, ap, ◌∙◌, subst, eqb-true}
use Rattle.std.specs.Prelude.{nat_lt, slice_get}
use Rattle.std.specs.List.{list_all}
use Rattle.exo_tree.specs.Tree.{Binder, Kind, Index, Control, Condition, Argument, Statement, Assign, Reduce, Config, Pass, If, For, Alloc, View, Call, Block, end, next, Param, ParamKind, ControlParam, TensorParam, WindowParam, Procedure, Program}
use Rattle.exo_tree.specs.Context.{Here, After, InLoop, InThen, InElse}
use Rattle.exo_tree.specs.Places.{Branch, Main, Else, Path, Opened, opened_in, opened, path_below}
use Rattle.exo_meaning.specs.Calls.{Callee}
use Rattle.exo_meaning.specs.Run.{roots_after, kinds_of, callee_in, unit_world, program_world}
use Rattle.exo_meaning.specs.Orders.{Each}
use Rattle.exo_meaning.specs.Units.{Sort, ControlName, BufferName, Scope, sort_in, with_name, scope_of, scope_after, param_sort, view_sort, is_new, is_empty, is_short, has_rank, is_rank, plainly, with_fields, with_strides, with_both, is_control, are_controls, is_condition, is_coord, is_window, is_write, are_for, is_call, is_param_kind, are_params, spans, is_block, is_statement, field_kind}
use Rattle.meaning_laws.specs.Sorted.{scope_at, scope_there, MayRun}
use Rattle.affine_places.specs.Roots.{Roots, roots_of}
use Rattle.text_show.specs.Words.{Words, words_of}
use Rattle.check_claims.specs.Claim.{Claim, Is, Apart}
use Rattle.check_claims.specs.Extents.{Extents, span_extents, dims_of, extents_of}
use Rattle.check_claims.specs.Claims.{at_least_one, written_by, call_claims, write_claims, own_claims, placed_at, block_claims, inner_claims, param_claims}
use Rattle.check_laws.specs.Claims.Holding.{SaidIsFormed, ClaimIsFormed}
use Rattle.check_laws.specs.Claims.Laws.{ClaimsAreFormed}
use Rattle.check_laws.proofs.OfClaims.Basics.{and_parts, no_test, by_test, some_injective, append_assoc}
use Rattle.check_laws.proofs.OfClaims.Tables.{Agrees, StepAgrees, ParamsAgree, table_agrees}
use Rattle.check_laws.proofs.OfClaims.Kept.{fewer_spans}
use Rattle.check_laws.proofs.OfClaims.Ways.{at_step, same_zero, shifted, from_zero, opened_next}
use Rattle.check_laws.proofs.OfClaims.Shapes.{control_freer, controls_freer, spans_formed, controls_wider}
use Rattle.check_laws.proofs.OfClaims.Formed.{each_append, AreFormed, IsFormedHere, sizes_formed, given_formed, IsTabled, store_formed, seen_formed, calls_formed}
use Rattle.check_laws.proofs.OfClaims.Standing.{standing, entry, table_entry}

-- ---- the names at places

module _ (p : Procedure) where
  -- at each place in the block are the names that its way brings into scope
  abbrev Opens : Path → Branch → ℕ → Block → Scope → Type 0
  Opens outer branch n b scope = (k m : ℕ) → n + k ≡ m → (rest : Path) (o : Opened) → opened_in 1 (at_step branch k rest) b ≡ Some o → scope_there p (opened 1 (outer ++ at_step branch m rest) p.body) ≡ scope_at o.around scope

  opens_here : (outer : Path) (branch : Branch) (n : ℕ) (a : Statement) (b : Block) (scope : Scope) → Opens outer branch n (next a b) scope → scope_there p (opened 1 (path_below outer branch n) p.body) ≡ scope
  opens_here outer branch n a b scope o = o 0 n (same_zero n) [] (record { around = Here b; piece = next a end }) refl

  opens_next : (outer : Path) (branch : Branch) (n : ℕ) (a : Statement) (b : Block) (scope : Scope) → Opens outer branch n (next a b) scope → Opens outer branch (suc n) b (scope_after a scope)
  opens_next outer branch n a b scope f k m e rest o is = f (suc k) m (shifted n k m e) rest (record { around = After a o.around; piece = o.piece }) (opened_next branch k rest a b o is)

  inside : (outer : Path) (branch inner : Branch) (n k m : ℕ) (rest : Path) (scope : Scope) → 0 + k ≡ m → scope_there p (opened 1 (outer ++ at_step branch n (at_step inner k rest)) p.body) ≡ scope → scope_there p (opened 1 (path_below outer branch n ++ at_step inner m rest) p.body) ≡ scope
  inside outer branch inner n k m rest scope e r =
      subst (λ path. scope_there p (opened 1 path p.body) ≡ scope) (ap (λ i. outer ++ at_step branch n (at_step inner i rest)) (from_zero k m e) ∙ sym (append_assoc outer (at_step branch n []) (at_step inner m rest))) r

  module _ (outer : Path) (branch : Branch) (n : ℕ) (rest : Block) (scope : Scope) where
    opens_then : (c : Condition) (a b : Block) → Opens outer branch n (next (If c a b) rest) scope → Opens (path_below outer branch n) Main 0 a scope
    opens_then c a b f k m e path o is = inside outer branch Main n k m path (scope_at o.around scope) e (f 0 n (same_zero n) (at_step Main k path) (record { around = InThen c o.around b rest; piece = o.piece }) (ap (option_map (λ (o : Opened). record { around = InThen c o.around b rest; piece = o.piece })) is))

    opens_else : (c : Condition) (a b : Block) → Opens outer branch n (next (If c a b) rest) scope → Opens (path_below outer branch n) Else 0 b scope
    opens_else c a b f k m e path o is = inside outer branch Else n k m path (scope_at o.around scope) e (f 0 n (same_zero n) (at_step Else k path) (record { around = InElse c a o.around rest; piece = o.piece }) (ap (option_map (λ (o : Opened). record { around = InElse c a o.around rest; piece = o.piece })) is))

    opens_loop : (i : Binder) (lo hi : Control) (b : Block) → Opens outer branch n (next (For i lo hi b) rest) scope → Opens (path_below outer branch n) Main 0 b (with_name scope i (ControlName Index))
    opens_loop i lo hi b f k m e path o is = inside outer branch Main n k m path (scope_at o.around (with_name scope i (ControlName Index))) e (f 0 n (same_zero n) (at_step Main k path) (record { around = InLoop i lo hi o.around rest; piece = o.piece }) (ap (option_map (λ (o : Opened). record { around = InLoop i lo hi o.around rest; piece = o.piece })) is))

  opens_body : Opens [] Main 0 p.body (scope_of [] p.params)
  opens_body k m e rest o is = ap (scope_there p) (subst (λ i. opened 1 (at_step Main i rest) p.body ≡ Some o) (from_zero k m e) is)

-- ---- tables

module _ (w : Words) (fields : ℕ → Option Kind) (table : Extents) where
  more_tabled : (scope : Scope) (x : Binder) (sort : Sort) → is_new scope x ≡ true → IsTabled w fields table scope → ((n : ℕ) → has_rank n (Some sort) ≡ true → (are_controls fields with_both (with_name scope x sort) (table x.id) ≡ true) × (is_rank n ≡ true)) → IsTabled w fields table (with_name scope x sort)
  more_tabled scope x sort new t own y n h = by_test (y == x.id)
      (λ e. subst (λ z. (are_controls fields with_both (with_name scope x sort) (table z) ≡ true) × (is_rank n ≡ true)) (sym (eqb-true y x.id e)) (own n (subst (λ b. has_rank n (cond b (Some sort) (sort_in scope y)) ≡ true) e h)))
      (λ e. let old = t y n (subst (λ b. has_rank n (cond b (Some sort) (sort_in scope y)) ≡ true) e h) in (controls_wider fields scope x sort new (table y) old.0, old.1))

  -- of expressions that the scope has
  buffer_tabled : (scope : Scope) (x : Binder) (sort : Sort) (es : List Control) → is_new scope x ≡ true → IsTabled w fields table scope → are_controls fields with_both scope es ≡ true → table x.id ≡ es → ((n : ℕ) → has_rank n (Some sort) ≡ true → is_rank n ≡ true) → IsTabled w fields table (with_name scope x sort)
  buffer_tabled scope x sort es new t h agree small = more_tabled scope x sort new t (λ n k. (subst (λ l. are_controls fields with_both (with_name scope x sort) l ≡ true) (sym agree) (controls_wider fields scope x sort new es h), small n k))

  exact_rank : (m n : ℕ) → (n == m) ≡ true → is_rank m ≡ true → is_rank n ≡ true
  exact_rank m n e h = subst (λ r. is_rank r ≡ true) (sym (eqb-true n m e)) h

  view_small : (o : Option Sort) (m n : ℕ) → is_rank m ≡ true → has_rank n (Some (view_sort o m)) ≡ true → is_rank n ≡ true
  view_small None m n h e = exact_rank m n e h
  view_small (Some (ControlName kind)) m n h e = exact_rank m n e h
  view_small (Some (BufferName cell r dense)) m n h e = exact_rank m n e h

  module _ (memories : ℕ) (callees : ℕ → Option Callee) (scope : Scope) (root : ℕ → ℕ) (t : IsTabled w fields table scope) where
    tabled_after : (a : Statement) → is_statement fields memories callees scope root a ≡ true → StepAgrees table a → IsTabled w fields table (scope_after a scope)
    tabled_after (Assign x is e) h agree = t
    tabled_after (Reduce x is e) h agree = t
    tabled_after (Config f a) h agree = t
    tabled_after Pass h agree = t
    tabled_after (If c a b) h agree = t
    tabled_after (For i lo hi b) h agree = t
    tabled_after (Alloc x cell dims memory) h agree =
        let p = and_parts (is_new scope x) (are_controls fields plainly scope dims && (is_rank (length dims) && nat_lt memory memories)) h in
        let q = and_parts (are_controls fields plainly scope dims) (is_rank (length dims) && nat_lt memory memories) p.1 in
        buffer_tabled scope x (BufferName cell (length dims) true) dims p.0 t (controls_freer fields scope dims q.0) agree (λ n e. exact_rank (length dims) n e (and_parts (is_rank (length dims)) (nat_lt memory memories) q.1).0)
    tabled_after (View v x cs) h agree =
        let p = and_parts (is_new scope v) (is_window fields scope x cs && nat_lt 0 (spans cs)) h in
        let q = and_parts (is_window fields scope x cs) (nat_lt 0 (spans cs)) p.1 in
        let r = and_parts (has_rank (length cs) (sort_in scope x)) (list_all (is_coord fields scope) cs) q.0 in
        buffer_tabled scope v (view_sort (sort_in scope x) (spans cs)) (span_extents cs) p.0 t (spans_formed fields scope cs r.1) agree (λ n e. view_small (sort_in scope x) (spans cs) n (fewer_spans cs (t x (length cs) r.0).1) e)
    tabled_after (Call k args) h agree = t

  control_tabled : (scope : Scope) (x : Binder) (kind : Kind) → is_new scope x ≡ true → IsTabled w fields table scope → IsTabled w fields table (with_name scope x (ControlName kind))
  control_tabled scope x kind new t = more_tabled scope x (ControlName kind) new t (λ n h. no_test h)

  -- ---- parameters

  module _ (memories : ℕ) where
    param_tabled : (scope : Scope) (x : Binder) (kind : ParamKind) → is_new scope x ≡ true → is_param_kind fields memories scope kind ≡ true → table x.id ≡ dims_of kind → IsTabled w fields table scope → IsTabled w fields table (with_name scope x (param_sort kind))
    param_tabled scope x (ControlParam kind) new h agree t = control_tabled scope x kind new t
    param_tabled scope x (TensorParam cell dims memory) new h agree t =
        let q = and_parts (are_controls fields plainly scope dims) (is_rank (length dims) && nat_lt memory memories) h in
        buffer_tabled scope x (BufferName cell (length dims) true) dims new t (controls_freer fields scope dims q.0) agree (λ n e. exact_rank (length dims) n e (and_parts (is_rank (length dims)) (nat_lt memory memories) q.1).0)
    param_tabled scope x (WindowParam cell dims memory) new h agree t =
        let q = and_parts (are_controls fields plainly scope dims) ((is_rank (length dims) && nat_lt 0 (length dims)) && nat_lt memory memories) h in
        let r = and_parts (is_rank (length dims) && nat_lt 0 (length dims)) (nat_lt memory memories) q.1 in
        buffer_tabled scope x (BufferName cell (length dims) false) dims new t (controls_freer fields scope dims q.0) agree (λ n e. exact_rank (length dims) n e (and_parts (is_rank (length dims)) (nat_lt 0 (length dims)) r.0).0)

    params_tabled : (ps : List Param) (scope : Scope) → are_params fields memories scope ps ≡ true → ParamsAgree table ps → IsTabled w fields table scope → IsTabled w fields table (scope_of scope ps)
    params_tabled [] scope h agree t = t
    params_tabled (p ∷ ps) scope h agree t =
        let q = and_parts (is_new scope p.binder) (is_param_kind fields memories scope p.kind && are_params fields memories (with_name scope p.binder (param_sort p.kind)) ps) h in
        let r = and_parts (is_param_kind fields memories scope p.kind) (are_params fields memories (with_name scope p.binder (param_sort p.kind)) ps) q.1 in
        params_tabled ps (with_name scope p.binder (param_sort p.kind)) r.1 agree.1 (param_tabled scope p.binder p.kind q.0 r.0 agree.0 t)

    -- expressions of a scope stay so with the parameters that follow
    at_end : (ps : List Param) (scope : Scope) (es : List Control) → are_params fields memories scope ps ≡ true → are_controls fields with_both scope es ≡ true → are_controls fields with_both (scope_of scope ps) es ≡ true
    at_end [] scope es h k = k
    at_end (p ∷ ps) scope es h k =
        let q = and_parts (is_new scope p.binder) (is_param_kind fields memories scope p.kind && are_params fields memories (with_name scope p.binder (param_sort p.kind)) ps) h in
        let r = and_parts (is_param_kind fields memories scope p.kind) (are_params fields memories (with_name scope p.binder (param_sort p.kind)) ps) q.1 in
        at_end ps (with_name scope p.binder (param_sort p.kind)) es r.1 (controls_wider fields scope p.binder (param_sort p.kind) q.0 es k)

    dims_formed : (scope : Scope) (kind : ParamKind) → is_param_kind fields memories scope kind ≡ true → are_controls fields with_both scope (dims_of kind) ≡ true
    dims_formed scope (ControlParam kind) h = refl
    dims_formed scope (TensorParam cell dims memory) h = controls_freer fields scope dims (and_parts (are_controls fields plainly scope dims) _ h).0
    dims_formed scope (WindowParam cell dims memory) h = controls_freer fields scope dims (and_parts (are_controls fields plainly scope dims) _ h).0

    params_formed : (ps : List Param) (scope : Scope) → are_params fields memories scope ps ≡ true → AreFormed w fields table (scope_of scope ps) (param_claims w ps)
    params_formed [] scope h = tt
    params_formed (p ∷ ps) scope h =
        let q = and_parts (is_new scope p.binder) (is_param_kind fields memories scope p.kind && are_params fields memories (with_name scope p.binder (param_sort p.kind)) ps) h in
        let r = and_parts (is_param_kind fields memories scope p.kind) (are_params fields memories (with_name scope p.binder (param_sort p.kind)) ps) q.1 in
        let inner = with_name scope p.binder (param_sort p.kind) in
        each_append (IsFormedHere w fields table (scope_of inner ps)) (map (at_least_one w) (dims_of p.kind)) (param_claims w ps)
        (sizes_formed w fields table (scope_of inner ps) (dims_of p.kind) (at_end ps inner (dims_of p.kind) r.1 (controls_wider fields scope p.binder (param_sort p.kind) q.0 (dims_of p.kind) (dims_formed scope p.kind r.0))))
        (params_formed ps inner r.1)

-- ---- the procedure

module _ (u : Program) (p : Procedure) (may : MayRun u.fields (length u.memories) u.procedures p) where
  abbrev fields : ℕ → Option Kind
  fields = field_kind u.fields

  abbrev memories : ℕ
  memories = length u.memories

  abbrev callees : ℕ → Option Callee
  callees = (program_world u).callees

  abbrev table : Extents
  table = extents_of p

  abbrev roots : Roots
  roots = roots_of p

  abbrev w : Words
  w = words_of u p

  -- a callee is a procedure of the unit, and well formed
  callee_formed : (k : ℕ) (c : Callee) → callees k ≡ Some c → (slice_get u.procedures k ≡ Some c.procedure) × (are_params fields memories [] c.procedure.params ≡ true) × (list_all (is_condition fields with_both (scope_of [] c.procedure.params)) c.procedure.asserts ≡ true)
  callee_formed k c e =
      let t = table_entry u.fields memories u.procedures may.unit k c e in
      let s = standing u.fields memories u.procedures may.unit k t.0 t.1 in
      let made : callee_in (unit_world (kinds_of u.fields) s.before) t.0 ≡ c = some_injective (callee_in (unit_world (kinds_of u.fields) s.before) t.0) c (sym (entry u.fields memories u.procedures may.unit k t.0 s) ∙ e) in
      subst (λ (d : Callee). (slice_get u.procedures k ≡ Some d.procedure) × (are_params fields memories [] d.procedure.params ≡ true) × (list_all (is_condition fields with_both (scope_of [] d.procedure.params)) d.procedure.asserts ≡ true)) made (t.1, s.formed.params, s.formed.asserts)

  abbrev Fits : Scope → List Claim → Type 0
  Fits scope cs = AreFormed w fields table scope cs

  placed_formed : (path : Path) (scope : Scope) → scope_there p (opened 1 path p.body) ≡ scope → (cs : List Claim) → Fits scope cs → Each (ClaimIsFormed u p) (placed_at path cs)
  placed_formed path scope e [] h = tt
  placed_formed path scope e (c ∷ cs) h = (subst (λ z. SaidIsFormed u z c) (sym e) (said c h.0), placed_formed path scope e cs h.1)
    where
      said : (c : Claim) → IsFormedHere w fields table scope c → SaidIsFormed u scope c
      said (Is c text) h = h
      said (Apart j k) h = tt

  module _ (scope : Scope) (root : ℕ → ℕ) (t : IsTabled w fields table scope) where
    write_formed : (o : Option Kind) (a : Argument) → is_write fields scope o a ≡ true → Fits scope (write_claims w o a)
    write_formed None a h = tt
    write_formed (Some kind) a h = given_formed w fields table scope with_strides kind a h (control_freer fields with_strides scope)

    call_formed : (k : ℕ) (args : List Argument) (o : Option Callee) → callees k ≡ o → is_call fields scope root o args ≡ true → Fits scope (call_claims w u table roots (written_by u k) (slice_get u.procedures k) args)
    call_formed k args None e h = no_test h
    call_formed k args (Some c) e h =
        let f = callee_formed k c e in
        subst (λ o. Fits scope (call_claims w u table roots (written_by u k) o args)) (sym f.0) (calls_formed w fields table scope t memories c.procedure.params args u roots (written_by u k) c.procedure refl f.1 f.2 (and_parts (are_for fields scope c.procedure.params args) _ h).0)

    own_formed : (a : Statement) → is_statement fields memories callees scope root a ≡ true → Fits scope (own_claims w u table roots a)
    own_formed (Assign x is e) h = store_formed w fields table scope t x is e h
    own_formed (Reduce x is e) h = store_formed w fields table scope t x is e h
    own_formed (Config f a) h = write_formed (fields f) a h
    own_formed Pass h = tt
    own_formed (If c a b) h = tt
    own_formed (For i lo hi b) h = tt
    own_formed (Alloc x cell dims memory) h =
        let q = and_parts (is_new scope x) (are_controls fields plainly scope dims && (is_rank (length dims) && nat_lt memory memories)) h in
        sizes_formed w fields table scope dims (controls_freer fields scope dims (and_parts (are_controls fields plainly scope dims) _ q.1).0)
    own_formed (View v x cs) h =
        let q = and_parts (is_new scope v) (is_window fields scope x cs && nat_lt 0 (spans cs)) h in
        seen_formed w fields table scope t x cs (and_parts (is_window fields scope x cs) (nat_lt 0 (spans cs)) q.1).0
    own_formed (Call k args) h = call_formed k args (callees k) refl h

  mutual
    block_formed : (b : Block) (outer : Path) (branch : Branch) (n : ℕ) (scope : Scope) (root : ℕ → ℕ) → Opens p outer branch n b scope → is_block fields memories callees scope root b ≡ true → Agrees table b → IsTabled w fields table scope → Each (ClaimIsFormed u p) (block_claims w u table roots outer branch n b)
    block_formed end outer branch n scope root o h agree t = tt
    block_formed (next a b) outer branch n scope root o h agree t =
        let path = path_below outer branch n in
        let q = and_parts (is_statement fields memories callees scope root a) (is_block fields memories callees (scope_after a scope) (roots_after a root) b) h in
        each_append (ClaimIsFormed u p) (placed_at path (own_claims w u table roots a) ++ inner_claims w u table roots path a) (block_claims w u table roots outer branch (suc n) b)
        (each_append (ClaimIsFormed u p) (placed_at path (own_claims w u table roots a)) (inner_claims w u table roots path a)
        (placed_formed path scope (opens_here p outer branch n a b scope o) (own_claims w u table roots a) (own_formed scope root t a q.0))
        (inner_formed a b outer branch n scope root o q.0 agree.0 t))
        (block_formed b outer branch (suc n) (scope_after a scope) (roots_after a root) (opens_next p outer branch n a b scope o) q.1 agree.1 (tabled_after w fields table memories callees scope root t a q.0 agree.0))

    inner_formed : (a : Statement) (rest : Block) (outer : Path) (branch : Branch) (n : ℕ) (scope : Scope) (root : ℕ → ℕ) → Opens p outer branch n (next a rest) scope → is_statement fields memories callees scope root a ≡ true → StepAgrees table a → IsTabled w fields table scope → Each (ClaimIsFormed u p) (inner_claims w u table roots (path_below outer branch n) a)
    inner_formed (Assign x is e) rest outer branch n scope root o h agree t = tt
    inner_formed (Reduce x is e) rest outer branch n scope root o h agree t = tt
    inner_formed (Config f a) rest outer branch n scope root o h agree t = tt
    inner_formed Pass rest outer branch n scope root o h agree t = tt
    inner_formed (If c a b) rest outer branch n scope root o h agree t =
        let q = and_parts (is_condition fields with_fields scope c) ((not (is_empty a) && (is_short a && is_short b)) && (is_block fields memories callees scope root a && is_block fields memories callees scope root b)) h in
        let r = and_parts (not (is_empty a) && (is_short a && is_short b)) (is_block fields memories callees scope root a && is_block fields memories callees scope root b) q.1 in
        let k = and_parts (is_block fields memories callees scope root a) (is_block fields memories callees scope root b) r.1 in
        let path = path_below outer branch n in
        each_append (ClaimIsFormed u p) (block_claims w u table roots path Main 0 a) (block_claims w u table roots path Else 0 b)
        (block_formed a path Main 0 scope root (opens_then p outer branch n rest scope c a b o) k.0 agree.0 t)
        (block_formed b path Else 0 scope root (opens_else p outer branch n rest scope c a b o) k.1 agree.1 t)
    inner_formed (For i lo hi b) rest outer branch n scope root o h agree t =
        let inner = with_name scope i (ControlName Index) in
        let bounds = is_control fields plainly scope lo && is_control fields plainly scope hi in
        let shape = not (is_empty b) && is_short b in
        let q = and_parts (is_new scope i) (bounds && (shape && is_block fields memories callees inner root b)) h in
        let r = and_parts bounds (shape && is_block fields memories callees inner root b) q.1 in
        let k = and_parts shape (is_block fields memories callees inner root b) r.1 in
        block_formed b (path_below outer branch n) Main 0 inner root (opens_loop p outer branch n rest scope i lo hi b o) k.1 agree (control_tabled w fields table scope i Index q.0 t)
    inner_formed (Alloc x cell dims memory) rest outer branch n scope root o h agree t = tt
    inner_formed (View v x cs) rest outer branch n scope root o h agree t = tt
    inner_formed (Call k args) rest outer branch n scope root o h agree t = tt

pub claims_are_formed : ClaimsAreFormed
claims_are_formed u p may =
    let w = words_of u p in
    let table = extents_of p in
    let roots = roots_of p in
    let fields = field_kind u.fields in
    let agree = table_agrees p may.procedure.distinct in
    each_append (ClaimIsFormed u p) (placed_at [] (param_claims w p.params)) (block_claims w u table roots [] Main 0 p.body)
    (placed_formed u p may [] (scope_of [] p.params) refl (param_claims w p.params) (params_formed w fields table (length u.memories) p.params [] may.procedure.params))
    (block_formed u p may p.body [] Main 0 (scope_of [] p.params) (λ x. x) (opens_body p) may.procedure.body agree.1 (params_tabled w fields table (length u.memories) p.params [] may.procedure.params agree.0 (λ x n h. no_test h)))
