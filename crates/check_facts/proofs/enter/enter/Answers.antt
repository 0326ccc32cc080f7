use Rattle.std.proofs.Common.{◌≡◌, true, ◌&&◌, List, [], refl, sym, subst}
use Rattle.exo_tree.specs.Places.{Branch}
use Rattle.exo_tree.specs.PlainControl.{control, condition}
use Rattle.exo_tree.specs.PlainPlace.{branch_taken}
use Rattle.exo_tree.specs.PlainStatement.{statement}
use Rattle.exo_tree.specs.Tree.{block}
use Rattle.exo_tree.specs.declared.block.Stmt.{Stmt}
use Rattle.exo_tree.specs.declared.place.Branch as taken
use Rattle.exo_meaning.specs.Units.{is_short}
use Rattle.meaning_laws.specs.KnownFields.{KnownFields}
use Rattle.meaning_laws.specs.PlaceFacts.{PlaceFact}
use Rattle.affine_forms.specs.Forms.{keeps_rules}
use Rattle.affine_forms.specs.Formulas.{condition_keeps_rules}
use Rattle.affine_places.specs.Rules.{block_keeps_rules, statement_keeps_rules}
use Rattle.check_facts.specs.Walks.{Added, entered}
use Rattle.check_facts.proofs.Adding.{Came, none_added}
use Rattle.check_facts.proofs.Rooms.{parts}
use Rattle.check_facts.proofs.enter.enter.Goals as goal

-- the way goes into loops and branching statements alone
none_entered : (s : Stmt) (b : Branch) (first : KnownFields)
    → ((c : _) (x y : _) → s ≡ Stmt.If c x y → ⊥) → ((i : _) (lo hi : _) (x : _) → s ≡ Stmt.For i lo hi x → ⊥)
    → entered b (statement s) first ≡ []
none_entered (Stmt.Assign x at e) b first h k = refl
none_entered (Stmt.Reduce x at e) b first h k = refl
none_entered (Stmt.Config f a) b first h k = refl
none_entered Stmt.Pass b first h k = refl
none_entered (Stmt.If c x y) b first h k = absurd (h c x y refl)
none_entered (Stmt.For i lo hi x) b first h k = absurd (k i lo hi x refl)
none_entered (Stmt.Alloc x cell dims memory) b first h k = refl
none_entered (Stmt.View w x coords) b first h k = refl
none_entered (Stmt.Call f args) b first h k = refl

-- the facts of a statement are those of its node, in the branch that is taken
by_node : (P : List PlaceFact → Type 0) (first : KnownFields) (b t : taken.Branch) (s a : Stmt)
    → b ≡ t → s ≡ a → P (entered (branch_taken t) (statement a) first)
    → P (entered (branch_taken b) (statement s) first)
by_node P first b t s a is_branch is h =
    subst (λ b. P (entered (branch_taken b) (statement s) first)) (sym is_branch)
    (subst (λ s. P (entered (branch_taken t) (statement s) first)) (sym is) h)

pub returns-in-For : goal.returns-in-For
returns-in-For c = λ first h.
    let r = c.add_bounds in
    subst (λ s. Added r.result c.args.basis.now (entered (branch_taken c.args.branch) (statement s) first)
    c.args.context.now r.new.context) (sym c.in-For.is) (r.ensures first h)

pub returns-in-Main : goal.returns-in-Main
returns-in-Main c = λ first h.
    let r = c.add_holds in
    by_node (λ es. Added r.result c.args.basis.now es c.args.context.now r.new.context) first
    _ _ _ _ c.in-Main.is c.in-If.is (r.ensures first h)

pub returns-in-Else : goal.returns-in-Else
returns-in-Else c = λ first h.
    let r = c.add_fails in
    by_node (λ es. Added r.result c.args.basis.now es c.args.context.now r.new.context) first
    _ _ _ _ c.in-Else.is c.in-If.is (r.ensures first h)

pub returns-in_default : goal.returns-in_default
returns-in_default c = λ first h.
    let g = c.args.basis.now in
    let old = c.args.context.now in
    let none = none_entered c.args.s.now (branch_taken c.args.branch) first c.in_default.not-If c.in_default.not-For in
    subst (λ es. Came g es old old) (sym none) (none_added g old old refl)

pub add_bounds-requires : goal.add_bounds-requires
add_bounds-requires c =
    let f = c.in-For in
    let b = block f.field-3 in
    (parts (keeps_rules (control f.lo) && keeps_rules (control f.hi)) (is_short b && block_keeps_rules b)
    (subst (λ s. statement_keeps_rules (statement s) ≡ true) f.is c.requires)).0

-- a branching statement keeps the rules in its condition
condition_rules : (s : Stmt) (c : _) (x y : _) → s ≡ Stmt.If c x y
    → statement_keeps_rules (statement s) ≡ true → condition_keeps_rules (condition c) ≡ true
condition_rules s c x y is h =
    (parts (condition_keeps_rules (condition c))
    ((is_short (block x) && is_short (block y))
    && (block_keeps_rules (block x) && block_keeps_rules (block y)))
    (subst (λ s. statement_keeps_rules (statement s) ≡ true) is h)).0

pub add_holds-requires : goal.add_holds-requires
add_holds-requires c = condition_rules c.args.s.now _ _ _ c.in-If.is c.requires

pub add_fails-requires : goal.add_fails-requires
add_fails-requires c = condition_rules c.args.s.now _ _ _ c.in-If.is c.requires
