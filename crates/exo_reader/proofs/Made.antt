-- The plain form of each kind of statement.
use Rattle.std.proofs.Common.{◌≡◌, sym, ap, ◌∙◌, map}
use Rattle.text_expressions.specs.Views.{tree_of}
use Rattle.exo_reader.specs.Source.{Statement, block_of, pass, branch, loop, allocate, call, configure, assign, reduce, view}
use Rattle.exo_reader.specs.Views.{plain_coordinate, plain_arguments, plain_kind, statement_step, plain_statement}
use Rattle.exo_reader.specs.declared.source.SourceStmt.TheVariants.{Pass, If, For, Alloc, Call, Config, Assign, Reduce, View, rolls-Pass, rolls-If, rolls-For, rolls-Alloc, rolls-Call, rolls-Config, rolls-Assign, rolls-Reduce, rolls-View}
use Rattle.exo_reader.specs.declared.source.SourceStmt.TheFolds.{fold-roll-SourceStmt}

pub made_pass : plain_statement Pass ≡ pass
made_pass = ap plain_statement (sym rolls-Pass) ∙ fold-roll-SourceStmt Statement statement_step _

pub made_branch : (c : _) (a b : _) → plain_statement (If c a b) ≡ branch (tree_of c) (block_of (map plain_statement a.items)) (block_of (map plain_statement b.items))
made_branch c a b = ap plain_statement (sym (rolls-If c a b)) ∙ fold-roll-SourceStmt Statement statement_step _

pub made_loop : (i low high a : _) → plain_statement (For i low high a) ≡ loop i (tree_of low) (tree_of high) (block_of (map plain_statement a.items))
made_loop i low high a = ap plain_statement (sym (rolls-For i low high a)) ∙ fold-roll-SourceStmt Statement statement_step _

pub made_allocate : (x kind ds m : _) → plain_statement (Alloc x kind ds m) ≡ allocate x (plain_kind kind) (map tree_of ds.items) m
made_allocate x kind ds m = ap plain_statement (sym (rolls-Alloc x kind ds m)) ∙ fold-roll-SourceStmt Statement statement_step _

pub made_call : (f l : _) → plain_statement (Call f l) ≡ call f (plain_arguments l).0 (plain_arguments l).1
made_call f l = ap plain_statement (sym (rolls-Call f l)) ∙ fold-roll-SourceStmt Statement statement_step _

pub made_configure : (c f e : _) → plain_statement (Config c f e) ≡ configure c f (tree_of e)
made_configure c f e = ap plain_statement (sym (rolls-Config c f e)) ∙ fold-roll-SourceStmt Statement statement_step _

pub made_assign : (x ds e : _) → plain_statement (Assign x ds e) ≡ assign x (map tree_of ds.items) (tree_of e)
made_assign x ds e = ap plain_statement (sym (rolls-Assign x ds e)) ∙ fold-roll-SourceStmt Statement statement_step _

pub made_reduce : (x ds e : _) → plain_statement (Reduce x ds e) ≡ reduce x (map tree_of ds.items) (tree_of e)
made_reduce x ds e = ap plain_statement (sym (rolls-Reduce x ds e)) ∙ fold-roll-SourceStmt Statement statement_step _

pub made_view : (y x cs : _) → plain_statement (View y x cs) ≡ view y x (map plain_coordinate cs.items)
made_view y x cs = ap plain_statement (sym (rolls-View y x cs)) ∙ fold-roll-SourceStmt Statement statement_step _
