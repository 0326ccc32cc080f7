-- The plain form of each kind of statement.
use Rattle.std.proofs.Common.{◌≡◌, List, sym, ap, ◌∙◌, map}
use Rattle.text_expressions.specs.Views.{tree_of}
use Rattle.text_expressions.specs.declared.source.SourceExpr.{SourceExpr}
use Rattle.exo_reader.specs.Source.{Statement, block_of, pass, branch, loop, allocate, call, configure, assign, reduce, view}
use Rattle.exo_reader.specs.Views.{plain_coordinate, plain_argument, plain_kind, statement_step, plain_statement}
use Rattle.exo_reader.specs.declared.source.SourceCoord.{SourceCoord}
use Rattle.exo_reader.specs.declared.source.SourceStmt.{SourceStmt}
use Rattle.exo_reader.specs.declared.source.SourceStmt.TheVariants.{Pass, If, For, Alloc, Call, Config, Assign, Reduce, View, rolls-Pass, rolls-If, rolls-For, rolls-Alloc, rolls-Call, rolls-Config, rolls-Assign, rolls-Reduce, rolls-View}
use Rattle.exo_reader.specs.declared.source.SourceStmt.TheFolds.{fold-roll-SourceStmt}

pub is_pass : (s : SourceStmt) → s ≡ Pass → plain_statement s ≡ pass
is_pass s p = ap plain_statement p ∙ ap plain_statement (sym rolls-Pass) ∙ fold-roll-SourceStmt Statement statement_step _

pub is_branch : (s : SourceStmt) (c a b : _) (as' bs : List SourceStmt) → s ≡ If c a b → as' ≡ a.items → bs ≡ b.items → plain_statement s ≡ branch (tree_of c) (block_of (map plain_statement as')) (block_of (map plain_statement bs))
is_branch s c a b as' bs p q r =
    ap plain_statement p ∙ ap plain_statement (sym (rolls-If c a b)) ∙ fold-roll-SourceStmt Statement statement_step _
    ∙ (λ i. branch (tree_of c) (block_of (map plain_statement (sym q i))) (block_of (map plain_statement (sym r i))))

pub is_loop : (s : SourceStmt) (i low high a : _) (as' : List SourceStmt) → s ≡ For i low high a → as' ≡ a.items → plain_statement s ≡ loop i (tree_of low) (tree_of high) (block_of (map plain_statement as'))
is_loop s i low high a as' p q =
    ap plain_statement p ∙ ap plain_statement (sym (rolls-For i low high a)) ∙ fold-roll-SourceStmt Statement statement_step _
    ∙ (λ j. loop i (tree_of low) (tree_of high) (block_of (map plain_statement (sym q j))))

pub is_allocate : (s : SourceStmt) (x kind ds m : _) (es : List SourceExpr) → s ≡ Alloc x kind ds m → es ≡ ds.items → plain_statement s ≡ allocate x (plain_kind kind) (map tree_of es) m
is_allocate s x kind ds m es p q =
    ap plain_statement p ∙ ap plain_statement (sym (rolls-Alloc x kind ds m)) ∙ fold-roll-SourceStmt Statement statement_step _
    ∙ ap (λ l. allocate x (plain_kind kind) (map tree_of l) m) (sym q)

pub is_call : (s : SourceStmt) (f l : _) → s ≡ Call f l → plain_statement s ≡ call f (map plain_argument l.items.items) l.trailing
is_call s f l p = ap plain_statement p ∙ ap plain_statement (sym (rolls-Call f l)) ∙ fold-roll-SourceStmt Statement statement_step _

pub is_configure : (s : SourceStmt) (c f e : _) → s ≡ Config c f e → plain_statement s ≡ configure c f (tree_of e)
is_configure s c f e p = ap plain_statement p ∙ ap plain_statement (sym (rolls-Config c f e)) ∙ fold-roll-SourceStmt Statement statement_step _

pub is_assign : (s : SourceStmt) (x ds e : _) (es : List SourceExpr) → s ≡ Assign x ds e → es ≡ ds.items → plain_statement s ≡ assign x (map tree_of es) (tree_of e)
is_assign s x ds e es p q =
    ap plain_statement p ∙ ap plain_statement (sym (rolls-Assign x ds e)) ∙ fold-roll-SourceStmt Statement statement_step _
    ∙ ap (λ l. assign x (map tree_of l) (tree_of e)) (sym q)

pub is_reduce : (s : SourceStmt) (x ds e : _) (es : List SourceExpr) → s ≡ Reduce x ds e → es ≡ ds.items → plain_statement s ≡ reduce x (map tree_of es) (tree_of e)
is_reduce s x ds e es p q =
    ap plain_statement p ∙ ap plain_statement (sym (rolls-Reduce x ds e)) ∙ fold-roll-SourceStmt Statement statement_step _
    ∙ ap (λ l. reduce x (map tree_of l) (tree_of e)) (sym q)

pub is_view : (s : SourceStmt) (y x cs : _) (ds : List SourceCoord) → s ≡ View y x cs → ds ≡ cs.items → plain_statement s ≡ view y x (map plain_coordinate ds)
is_view s y x cs ds p q =
    ap plain_statement p ∙ ap plain_statement (sym (rolls-View y x cs)) ∙ fold-roll-SourceStmt Statement statement_step _
    ∙ ap (λ l. view y x (map plain_coordinate l)) (sym q)
