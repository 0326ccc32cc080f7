-- The productions of statements and blocks.
use Rattle.std.proofs.Common.{◌≡◌, ℕ, ◌+◌, ◌<◌, ◌≤◌, List, [], ◌∷◌, ◌++◌, Option, Some, None, Bool, true, false, length, refl, sym, ap, ◌∙◌, append_assoc, subst, arith, ◌⊎◌, inl, inr}
use Rattle.std.proofs.lemmas.List.{length-append}
use Rattle.text_phrases.specs.Limits.{Limits, unlimited, in_depth, in_length, syntax, too_deep, too_long}
use Rattle.text_phrases.specs.Phrase.{first, Phrase, Taken, Refused}
use Rattle.text_phrases.specs.Sequence.{exactly, then, AllFit, spell_all}
use Rattle.text_phrases.proofs.Phrases.{keeps_all}
use Rattle.text_phrases.proofs.Sequences.{Back, Step, Apart}
use Rattle.text_phrases.proofs.Joints.{Joint}
use Rattle.text_expressions.specs.Values.{name, IsShortName}
use Rattle.text_expressions.specs.Expression.{Tree, control, datum}
use Rattle.text_lexer.specs.declared.token.Token.{Token}
use Rattle.text_lexer.specs.declared.token.Token.TheVariants.{Name, Int, Sign, Word, NewLine, Indent, Dedent}
use Rattle.text_lexer.specs.declared.token.Literal.TheVariants.{Value}
use Rattle.text_lexer.specs.declared.token.Sign.TheVariants.{Open, Close, OpenBracket, Comma, Colon, Dot, Assign, Reduce}
use Rattle.text_lexer.specs.declared.token.Word.TheVariants as w
use Rattle.exo_reader.specs.Source.{Argument, value, window, TypeName, Statement, pass, branch, loop, allocate, call, configure, assign, reduce, view, Block, end, next, block_of, statements}
use Rattle.exo_reader.specs.Parts.{Is, some_of, dims, maybe_dims, type_name, maybe_memory}
use Rattle.exo_reader.specs.Statements.{arguments, right, spelling, spelling_all, Nests, StatementFits, BlockFits, statement, body, block, otherwise, sign_of, store, stored_by, equated, IsNoHead, BeginsStore}
use Rattle.exo_reader.proofs.Optional.{Alike, Optional}
use Rattle.exo_reader.proofs.Parts.{name_fits, no_name, zero, control_zero, datum_zero}

nests : (limits : Limits) (nesting : ℕ) → nesting < 24 → Nests limits nesting
nests limits nesting less = keeps_all limits less tt tt

-- the token behind the first one
abbrev behind_name : List Token → Option Token
behind_name (a ∷ b ∷ more) = Some b
behind_name other = None

-- `pass`

back_pass : (nesting : ℕ) (limits : Limits) (other : Statement) (x y : List Token) → Word w.Pass ∷ x ≡ spelling other ++ y → Back (exactly (NewLine ∷ [])) (λ _. pass) limits other x y
back_pass nesting limits pass x y equal = record { tree = tt; fits = tt; is = refl; equal = (let e : x ≡ NewLine ∷ y = cc in e); follows = tt }
back_pass nesting limits (branch c a b) x y equal = absurd (let e : Word w.Pass ≡ Word w.If = cc in cc)
back_pass nesting limits (loop i low high a) x y equal = absurd (let e : Word w.Pass ≡ Word w.For = cc in cc)
back_pass nesting limits (allocate m kind ds k) x y equal = absurd (let e : Word w.Pass ≡ Name m = cc in cc)
back_pass nesting limits (call m list b) x y equal = absurd (let e : Word w.Pass ≡ Name m = cc in cc)
back_pass nesting limits (configure m f e) x y equal = absurd (let e : Word w.Pass ≡ Name m = cc in cc)
back_pass nesting limits (assign m ds e) x y equal =
    absurd (let e : Some (Word w.Pass) ≡ Some (Name m) = ap first equal in cc (e))
back_pass nesting limits (reduce m ds e) x y equal =
    absurd (let e : Some (Word w.Pass) ≡ Some (Name m) = ap first equal in cc (e))
back_pass nesting limits (view m k cs) x y equal = absurd (let e : Word w.Pass ≡ Name m = cc in cc)

pub step_pass : (nesting : ℕ) (after : List Token) → Step (statement nesting) (exactly (NewLine ∷ [])) (λ _. pass) (Word w.Pass ∷ after) after
step_pass nesting after = record {
  front = Word w.Pass ∷ [];
  split = refl;
  fits = λ limits s fits. tt;
  spelled = λ s. refl;
  back = λ limits other x y same fits follows equal. back_pass nesting limits other x y equal;
}

-- a memory, or what stands behind one, begins with no bracket
memory_apart : (limits : Limits) (m : Option (List ℕ)) (y : List Token) → first ((maybe_memory.spell m ++ (NewLine ∷ [])) ++ y) ≡ Some (Sign OpenBracket) → ⊥
memory_apart limits None y opens = cc (opens)
memory_apart limits (Some x) y opens = cc (opens)

-- allocations

abbrev pub Alloc3T : Type 0
Alloc3T = (Option (List ℕ)) × (Unit {0})

abbrev pub Alloc3 : Phrase Token Alloc3T
Alloc3 = then maybe_memory (exactly (NewLine ∷ []))

abbrev pub Alloc2T : Type 0
Alloc2T = (List Tree) × Alloc3T

abbrev pub Alloc2 : Phrase Token Alloc2T
Alloc2 = then maybe_dims Alloc3

abbrev pub Alloc1T : Type 0
Alloc1T = TypeName × Alloc2T

abbrev pub Alloc1 : Phrase Token Alloc1T
Alloc1 = then type_name Alloc2

pub alloc1 : Joint type_name Alloc2
alloc1 = record { may = record { may = λ limits q y fits follows. tt }; some = ([], (None, tt)); fits = λ limits. (tt, (tt, tt)) }

pub alloc2 : Joint maybe_dims Alloc3
alloc2 = record { may = record { may = λ limits q y fits follows. memory_apart limits q.0 y }; some = (None, tt); fits = λ limits. (tt, tt) }

pub alloc3 : Joint maybe_memory (exactly (NewLine ∷ []))
alloc3 = record { may = record { may = λ limits q y fits follows. tt }; some = tt; fits = λ limits. tt }

abbrev pub allocation_of : List ℕ → Alloc1T → Statement
allocation_of n s = allocate n s.0 s.1.0 s.1.1.0

back_allocation : (nesting : ℕ) (limits : Limits) (n : List ℕ) (other : Statement) (x y : List Token) → StatementFits limits nesting other → Name n ∷ Sign Colon ∷ x ≡ spelling other ++ y → Back (Alloc1) (allocation_of n) limits other x y
back_allocation nesting limits n pass x y fits equal = absurd (let e : Name n ≡ Word w.Pass = cc in cc)
back_allocation nesting limits n (branch c a b) x y fits equal = absurd (let e : Name n ≡ Word w.If = cc in cc)
back_allocation nesting limits n (loop i low high a) x y fits equal = absurd (let e : Name n ≡ Word w.For = cc in cc)
back_allocation nesting limits n (allocate m kind ds k) x y fits equal =
    let same : m ≡ n = cc in
    record { tree = (kind, (ds, (k, tt))); fits = (fits.1, (fits.2, (fits.3, tt))); is = ap (λ q. allocate q kind ds k) same; equal = (let r : x ≡ (type_name.spell kind ++ (maybe_dims.spell ds ++ (maybe_memory.spell k ++ (NewLine ∷ [])))) ++ y = cc in r); follows = tt }
back_allocation nesting limits n (call m list b) x y fits equal = absurd (let e : Sign Colon ≡ Sign Open = cc in cc)
back_allocation nesting limits n (configure m f e) x y fits equal = absurd (let e : Sign Colon ≡ Sign Dot = cc in cc)
back_allocation nesting limits n (assign m [] e) x y fits equal = absurd (let e : Sign Colon ≡ Sign Assign = cc in cc)
back_allocation nesting limits n (assign m (d ∷ ds) e) x y fits equal =
    absurd (let e : Some (Sign Colon) ≡ Some (Sign OpenBracket) = ap behind_name equal in cc (e))
back_allocation nesting limits n (reduce m [] e) x y fits equal = absurd (let e : Sign Colon ≡ Sign Reduce = cc in cc)
back_allocation nesting limits n (reduce m (d ∷ ds) e) x y fits equal =
    absurd (let e : Some (Sign Colon) ≡ Some (Sign OpenBracket) = ap behind_name equal in cc (e))
back_allocation nesting limits n (view m k cs) x y fits equal = absurd (let e : Sign Colon ≡ Sign Assign = cc in cc)

pub step_allocation : (nesting : ℕ) (n : List ℕ) (after : List Token) → IsShortName n → Step (statement nesting) (Alloc1) (allocation_of n) (Name n ∷ Sign Colon ∷ after) after
step_allocation nesting n after short = record {
  front = Name n ∷ Sign Colon ∷ [];
  split = refl;
  fits = λ limits s fits. (name_fits limits n short, fits.0, fits.1.0, fits.1.1.0);
  spelled = λ s. refl;
  back = λ limits other x y same fits follows equal. back_allocation nesting limits n other x y fits equal;
}

-- calls

abbrev pub Call1T : Type 0
Call1T = (List Argument × Bool) × (Unit {0})

abbrev pub Call1 : Phrase Token Call1T
Call1 = then arguments (exactly (Sign Close ∷ NewLine ∷ []))

pub call1 : Joint arguments (exactly (Sign Close ∷ NewLine ∷ []))
call1 = record { may = record { may = λ limits q y fits follows. refl }; some = tt; fits = λ limits. tt }

abbrev pub calling_of : List ℕ → Call1T → Statement
calling_of n s = call n s.0.0 s.0.1

back_calling : (nesting : ℕ) (limits : Limits) (n : List ℕ) (other : Statement) (x y : List Token) → StatementFits limits nesting other → Name n ∷ Sign Open ∷ x ≡ spelling other ++ y → Back (Call1) (calling_of n) limits other x y
back_calling nesting limits n pass x y fits equal = absurd (let e : Name n ≡ Word w.Pass = cc in cc)
back_calling nesting limits n (branch c a b) x y fits equal = absurd (let e : Name n ≡ Word w.If = cc in cc)
back_calling nesting limits n (loop i low high a) x y fits equal = absurd (let e : Name n ≡ Word w.For = cc in cc)
back_calling nesting limits n (allocate m kind ds k) x y fits equal = absurd (let e : Sign Open ≡ Sign Colon = cc in cc)
back_calling nesting limits n (call m list b) x y fits equal =
    let same : m ≡ n = cc in
    record { tree = ((list, b), tt); fits = (fits.1, tt); is = ap (λ q. call q list b) same; equal = (let r : x ≡ (arguments.spell (list, b) ++ (Sign Close ∷ NewLine ∷ [])) ++ y = cc in r); follows = tt }
back_calling nesting limits n (configure m f e) x y fits equal = absurd (let e : Sign Open ≡ Sign Dot = cc in cc)
back_calling nesting limits n (assign m [] e) x y fits equal = absurd (let e : Sign Open ≡ Sign Assign = cc in cc)
back_calling nesting limits n (assign m (d ∷ ds) e) x y fits equal =
    absurd (let e : Some (Sign Open) ≡ Some (Sign OpenBracket) = ap behind_name equal in cc (e))
back_calling nesting limits n (reduce m [] e) x y fits equal = absurd (let e : Sign Open ≡ Sign Reduce = cc in cc)
back_calling nesting limits n (reduce m (d ∷ ds) e) x y fits equal =
    absurd (let e : Some (Sign Open) ≡ Some (Sign OpenBracket) = ap behind_name equal in cc (e))
back_calling nesting limits n (view m k cs) x y fits equal = absurd (let e : Sign Open ≡ Sign Assign = cc in cc)

pub step_calling : (nesting : ℕ) (n : List ℕ) (after : List Token) → IsShortName n → Step (statement nesting) (Call1) (calling_of n) (Name n ∷ Sign Open ∷ after) after
step_calling nesting n after short = record {
  front = Name n ∷ Sign Open ∷ [];
  split = refl;
  fits = λ limits s fits. (name_fits limits n short, fits.0);
  spelled = λ s. refl;
  back = λ limits other x y same fits follows equal. back_calling nesting limits n other x y fits equal;
}

-- writes of configuration fields

abbrev pub Config1T : Type 0
Config1T = (List ℕ × (Unit {0})) × (Tree × (Unit {0}))

abbrev pub Config1 : Phrase Token Config1T
Config1 = then (then name (exactly (Sign Assign ∷ []))) (then control (exactly (NewLine ∷ [])))

pub config1 : Joint (then name (exactly (Sign Assign ∷ []))) (then control (exactly (NewLine ∷ [])))
config1 = record { may = record { may = λ limits q y fits follows. tt }; some = (zero, tt); fits = λ limits. (control_zero limits, tt) }

abbrev pub configuring_of : List ℕ → Config1T → Statement
configuring_of n s = configure n s.0.0 s.1.0

back_configuring : (nesting : ℕ) (limits : Limits) (n : List ℕ) (other : Statement) (x y : List Token) → StatementFits limits nesting other → Name n ∷ Sign Dot ∷ x ≡ spelling other ++ y → Back (Config1) (configuring_of n) limits other x y
back_configuring nesting limits n pass x y fits equal = absurd (let e : Name n ≡ Word w.Pass = cc in cc)
back_configuring nesting limits n (branch c a b) x y fits equal = absurd (let e : Name n ≡ Word w.If = cc in cc)
back_configuring nesting limits n (loop i low high a) x y fits equal = absurd (let e : Name n ≡ Word w.For = cc in cc)
back_configuring nesting limits n (allocate m kind ds k) x y fits equal = absurd (let e : Sign Dot ≡ Sign Colon = cc in cc)
back_configuring nesting limits n (call m list b) x y fits equal = absurd (let e : Sign Dot ≡ Sign Open = cc in cc)
back_configuring nesting limits n (configure m f e) x y fits equal =
    let same : m ≡ n = cc in
    record { tree = ((f, tt), (e, tt)); fits = ((fits.1, tt), (fits.2, tt)); is = ap (λ q. configure q f e) same; equal = (let r : x ≡ (Name f ∷ Sign Assign ∷ (control.spell e ++ (NewLine ∷ []))) ++ y = cc in r); follows = tt }
back_configuring nesting limits n (assign m [] e) x y fits equal = absurd (let e : Sign Dot ≡ Sign Assign = cc in cc)
back_configuring nesting limits n (assign m (d ∷ ds) e) x y fits equal =
    absurd (let e : Some (Sign Dot) ≡ Some (Sign OpenBracket) = ap behind_name equal in cc (e))
back_configuring nesting limits n (reduce m [] e) x y fits equal = absurd (let e : Sign Dot ≡ Sign Reduce = cc in cc)
back_configuring nesting limits n (reduce m (d ∷ ds) e) x y fits equal =
    absurd (let e : Some (Sign Dot) ≡ Some (Sign OpenBracket) = ap behind_name equal in cc (e))
back_configuring nesting limits n (view m k cs) x y fits equal = absurd (let e : Sign Dot ≡ Sign Assign = cc in cc)

pub step_configuring : (nesting : ℕ) (n : List ℕ) (after : List Token) → IsShortName n → Step (statement nesting) (Config1) (configuring_of n) (Name n ∷ Sign Dot ∷ after) after
step_configuring nesting n after short = record {
  front = Name n ∷ Sign Dot ∷ [];
  split = refl;
  fits = λ limits s fits. (name_fits limits n short, fits.0.0, fits.1.0);
  spelled = λ s. refl;
  back = λ limits other x y same fits follows equal. back_configuring nesting limits n other x y fits equal;
}

-- assignments without an index, and views

abbrev pub Equation1T : Type 0
Equation1T = Argument × (Unit {0})

abbrev pub Equation1 : Phrase Token Equation1T
Equation1 = then right (exactly (NewLine ∷ []))

pub equation1 : Joint right (exactly (NewLine ∷ []))
equation1 = record { may = record { may = λ limits q y fits follows. tt }; some = tt; fits = λ limits. tt }

abbrev pub equation_of : List ℕ → Equation1T → Statement
equation_of n s = equated n s.0

equation_fits : (nesting : ℕ) (limits : Limits) (n : List ℕ) (a : Argument) → IsShortName n → right.Fits limits a → StatementFits limits nesting (equated n a)
equation_fits nesting limits n (value e) short fits = (name_fits limits n short, tt, fits)
equation_fits nesting limits n (window x cs) short fits = (name_fits limits n short, fits)

equation_spelled : (n : List ℕ) (a : Argument) → spelling (equated n a) ≡ Name n ∷ Sign Assign ∷ (right.spell a ++ (NewLine ∷ []))
equation_spelled n (value e) = refl
equation_spelled n (window x cs) = refl

back_equation : (nesting : ℕ) (limits : Limits) (n : List ℕ) (other : Statement) (x y : List Token) → StatementFits limits nesting other → Name n ∷ Sign Assign ∷ x ≡ spelling other ++ y → Back Equation1 (equation_of n) limits other x y
back_equation nesting limits n pass x y fits equal = absurd (let e : Name n ≡ Word w.Pass = cc in cc)
back_equation nesting limits n (branch c a b) x y fits equal = absurd (let e : Name n ≡ Word w.If = cc in cc)
back_equation nesting limits n (loop i low high a) x y fits equal = absurd (let e : Name n ≡ Word w.For = cc in cc)
back_equation nesting limits n (allocate m kind ds k) x y fits equal = absurd (let e : Sign Assign ≡ Sign Colon = cc in cc)
back_equation nesting limits n (call m list b) x y fits equal = absurd (let e : Sign Assign ≡ Sign Open = cc in cc)
back_equation nesting limits n (configure m f e) x y fits equal = absurd (let e : Sign Assign ≡ Sign Dot = cc in cc)
back_equation nesting limits n (assign m [] e) x y fits equal =
    let same : m ≡ n = cc in
    record { tree = (value e, tt); fits = (fits.2, tt); is = ap (λ k. assign k [] e) same; equal = (let q : x ≡ (datum.spell e ++ (NewLine ∷ [])) ++ y = cc in q); follows = tt }
back_equation nesting limits n (assign m (d ∷ ds) e) x y fits equal =
    absurd (let e : Some (Sign Assign) ≡ Some (Sign OpenBracket) = ap behind_name equal in cc (e))
back_equation nesting limits n (reduce m [] e) x y fits equal = absurd (let e : Sign Assign ≡ Sign Reduce = cc in cc)
back_equation nesting limits n (reduce m (d ∷ ds) e) x y fits equal =
    absurd (let e : Some (Sign Assign) ≡ Some (Sign OpenBracket) = ap behind_name equal in cc (e))
back_equation nesting limits n (view m k cs) x y fits equal =
    let same : m ≡ n = cc in
    record { tree = (window k cs, tt); fits = (fits.1, tt); is = ap (λ q. view q k cs) same; equal = (let q : x ≡ (right.spell (window k cs) ++ (NewLine ∷ [])) ++ y = cc in q); follows = tt }

pub step_equation : (nesting : ℕ) (n : List ℕ) (after : List Token) → IsShortName n → Step (statement nesting) Equation1 (equation_of n) (Name n ∷ Sign Assign ∷ after) after
step_equation nesting n after short = record {
  front = Name n ∷ Sign Assign ∷ [];
  split = refl;
  fits = λ limits s fits. equation_fits nesting limits n s.0 short fits.0;
  spelled = λ s. equation_spelled n s.0;
  back = λ limits other x y same fits follows equal. back_equation nesting limits n other x y fits equal;
}

-- `=` or `+=` and what is stored

sign_apart : (b : Bool) → Some (sign_of b) ≡ Some (Sign OpenBracket) → ⊥
sign_apart true opens = cc (opens)
sign_apart false opens = cc (opens)

back_reducing : (limits : Limits) (b : Bool) (e : Tree) (x y : List Token) → datum.Fits limits e → Sign Reduce ∷ x ≡ store.spell (b, e) ++ y → Back {T = Bool × Tree} (then datum (exactly (NewLine ∷ []))) (λ s. (true, s.0)) limits (b, e) x y
back_reducing limits true e x y fits equal = record { tree = (e, tt); fits = (fits, tt); is = refl; equal = (let q : x ≡ (datum.spell e ++ (NewLine ∷ [])) ++ y = cc in q); follows = tt }
back_reducing limits false e x y fits equal = absurd (let q : Sign Reduce ≡ Sign Assign = cc in cc)

pub step_reducing : (after : List Token) → Step store (then datum (exactly (NewLine ∷ []))) (λ s. (true, s.0)) (Sign Reduce ∷ after) after
step_reducing after = record {
  front = Sign Reduce ∷ [];
  split = refl;
  fits = λ limits s fits. fits.0;
  spelled = λ s. refl;
  back = λ limits other x y same fits follows equal. back_reducing limits other.0 other.1 x y fits equal;
}

abbrev pub Assigning : Phrase Token ((Unit {0}) × (Tree × (Unit {0})))
Assigning = then (exactly (Sign Assign ∷ [])) (then datum (exactly (NewLine ∷ [])))

pub assigning1 : Joint (exactly (Sign Assign ∷ [])) (then datum (exactly (NewLine ∷ [])))
assigning1 = record { may = record { may = λ limits q y fits follows. tt }; some = (zero, tt); fits = λ limits. (datum_zero limits, tt) }

back_assigning : (limits : Limits) (tokens : List Token) (b : Bool) (e : Tree) (x y : List Token) → (first tokens ≡ Some (Sign Reduce) → ⊥) → first tokens ≡ first x → datum.Fits limits e → x ≡ store.spell (b, e) ++ y → Back {T = Bool × Tree} Assigning (λ s. (false, s.1.0)) limits (b, e) x y
back_assigning limits tokens true e x y none same fits equal = absurd (none (same ∙ ap first equal))
back_assigning limits tokens false e x y none same fits equal = record { tree = (tt, (e, tt)); fits = (tt, (fits, tt)); is = refl; equal = equal; follows = tt }

pub step_assigning : (tokens : List Token) → (first tokens ≡ Some (Sign Reduce) → ⊥) → Step store Assigning (λ s. (false, s.1.0)) tokens tokens
step_assigning tokens none = record {
  front = [];
  split = refl;
  fits = λ limits s fits. fits.1.0;
  spelled = λ s. refl;
  back = λ limits other x y same fits follows equal. back_assigning limits tokens other.0 other.1 x y none same fits equal;
}

-- assignments to cells with an index, and reductions

abbrev pub Stored1 : Phrase Token (List Tree × (Bool × Tree))
Stored1 = then maybe_dims store

pub stored1 : Joint maybe_dims store
stored1 = record { may = record { may = λ limits q y fits follows. sign_apart q.0 }; some = (false, zero); fits = λ limits. datum_zero limits }

abbrev pub storing_of : List ℕ → List Tree × (Bool × Tree) → Statement
storing_of n s = stored_by n s.0 s.1.0 s.1.1

stored_fits : (nesting : ℕ) (limits : Limits) (n : List ℕ) (ds : List Tree) (b : Bool) (e : Tree) → IsShortName n → maybe_dims.Fits limits ds → datum.Fits limits e → StatementFits limits nesting (stored_by n ds b e)
stored_fits nesting limits n ds true e short dims fits = (name_fits limits n short, dims, fits)
stored_fits nesting limits n ds false e short dims fits = (name_fits limits n short, dims, fits)

stored_spelled : (n : List ℕ) (ds : List Tree) (b : Bool) (e : Tree) → spelling (stored_by n ds b e) ≡ Name n ∷ (maybe_dims.spell ds ++ store.spell (b, e))
stored_spelled n ds true e = refl
stored_spelled n ds false e = refl

-- the token behind the name begins a store, so it is not that of another statement
not_there : (tokens x more : List Token) (token : Token) → BeginsStore (first tokens) → first tokens ≡ first x → x ≡ token ∷ more → BeginsStore (Some token)
not_there tokens x more token begins same is = subst BeginsStore (same ∙ ap first is) begins

back_storing : (nesting : ℕ) (limits : Limits) (n : List ℕ) (tokens : List Token) (other : Statement) (x y : List Token) → BeginsStore (first tokens) → first tokens ≡ first x → StatementFits limits nesting other → Name n ∷ x ≡ spelling other ++ y → Back Stored1 (storing_of n) limits other x y
back_storing nesting limits n tokens pass x y begins same fits equal = absurd (let e : Name n ≡ Word w.Pass = cc in cc)
back_storing nesting limits n tokens (branch c a b) x y begins same fits equal = absurd (let e : Name n ≡ Word w.If = cc in cc)
back_storing nesting limits n tokens (loop i low high a) x y begins same fits equal = absurd (let e : Name n ≡ Word w.For = cc in cc)
back_storing nesting limits n tokens (allocate m kind ds k) x y begins same fits equal =
    let q : x ≡ Sign Colon ∷ ((type_name.spell kind ++ (maybe_dims.spell ds ++ (maybe_memory.spell k ++ (NewLine ∷ [])))) ++ y) = cc in
    absurd (not_there tokens x ((type_name.spell kind ++ (maybe_dims.spell ds ++ (maybe_memory.spell k ++ (NewLine ∷ [])))) ++ y) (Sign Colon) begins same q)
back_storing nesting limits n tokens (call m list b) x y begins same fits equal =
    let q : x ≡ Sign Open ∷ ((arguments.spell (list, b) ++ (Sign Close ∷ NewLine ∷ [])) ++ y) = cc in
    absurd (not_there tokens x ((arguments.spell (list, b) ++ (Sign Close ∷ NewLine ∷ [])) ++ y) (Sign Open) begins same q)
back_storing nesting limits n tokens (configure m f e) x y begins same fits equal =
    let q : x ≡ Sign Dot ∷ ((Name f ∷ Sign Assign ∷ (control.spell e ++ (NewLine ∷ []))) ++ y) = cc in
    absurd (not_there tokens x ((Name f ∷ Sign Assign ∷ (control.spell e ++ (NewLine ∷ []))) ++ y) (Sign Dot) begins same q)
back_storing nesting limits n tokens (assign m ds e) x y begins same fits equal =
    let alike : m ≡ n = cc in
    record { tree = (ds, (false, e)); fits = (fits.1, fits.2); is = ap (λ k. assign k ds e) alike; equal = (let q : x ≡ (maybe_dims.spell ds ++ (Sign Assign ∷ (datum.spell e ++ (NewLine ∷ [])))) ++ y = cc in q); follows = tt }
back_storing nesting limits n tokens (reduce m ds e) x y begins same fits equal =
    let alike : m ≡ n = cc in
    record { tree = (ds, (true, e)); fits = (fits.1, fits.2); is = ap (λ k. reduce k ds e) alike; equal = (let q : x ≡ (maybe_dims.spell ds ++ (Sign Reduce ∷ (datum.spell e ++ (NewLine ∷ [])))) ++ y = cc in q); follows = tt }
back_storing nesting limits n tokens (view m k cs) x y begins same fits equal =
    let q : x ≡ Sign Assign ∷ ((right.spell (window k cs) ++ (NewLine ∷ [])) ++ y) = cc in
    absurd (not_there tokens x ((right.spell (window k cs) ++ (NewLine ∷ [])) ++ y) (Sign Assign) begins same q)

pub step_storing : (nesting : ℕ) (n : List ℕ) (tokens : List Token) → IsShortName n → BeginsStore (first tokens) → Step (statement nesting) Stored1 (storing_of n) (Name n ∷ tokens) tokens
step_storing nesting n tokens short begins = record {
  front = Name n ∷ [];
  split = refl;
  fits = λ limits s fits. stored_fits nesting limits n s.0 s.1.0 s.1.1 short fits.0 fits.1;
  spelled = λ s. stored_spelled n s.0 s.1.0 s.1.1;
  back = λ limits other x y same fits follows equal. back_storing nesting limits n tokens other x y begins same fits equal;
}

-- blocks as lists and as they stand in statements

pub block_again : (b : Block) → b ≡ block_of (statements b)
block_again end = refl
block_again (next s more) = ap (next s) (block_again more)

spells : (nesting : ℕ) (list : List Statement) → spelling_all (block_of list) ≡ spell_all (statement nesting) list
spells nesting [] = refl
spells nesting (s ∷ more) = ap (λ t. spelling s ++ t) (spells nesting more)

all_of : (nesting : ℕ) (limits : Limits) (list : List Statement) → BlockFits limits nesting (block_of list) → AllFit (statement nesting) limits list
all_of nesting limits [] fits = tt
all_of nesting limits (s ∷ more) fits = (fits.0, all_of nesting limits more fits.1)

block_fits : (nesting : ℕ) (limits : Limits) (list : List Statement) → AllFit (statement nesting) limits list → BlockFits limits nesting (block_of list)
block_fits nesting limits [] fits = tt
block_fits nesting limits (s ∷ more) fits = (fits.0, block_fits nesting limits more fits.1)

lines_fit : (nesting : ℕ) (limits : Limits) (list : List Statement) → (some_of (statement nesting) (Is Dedent)).Fits limits list → (block nesting).Fits limits list
lines_fit nesting limits [] fits = absurd fits.1
lines_fit nesting limits (s ∷ more) fits = (tt, block_fits nesting limits (s ∷ more) fits.0)

fit_lines : (nesting : ℕ) (limits : Limits) (list : List Statement) → (block nesting).Fits limits list → (some_of (statement nesting) (Is Dedent)).Fits limits list
fit_lines nesting limits [] fits = absurd fits.0
fit_lines nesting limits (s ∷ more) fits = (all_of nesting limits (s ∷ more) fits.1, tt)

abbrev pub header : List Token
header = Sign Colon ∷ NewLine ∷ Indent ∷ []

abbrev pub Block1 : ℕ → Phrase Token ((Unit {0}) × (List Statement × (Unit {0})))
Block1 nesting = then (exactly header) (body nesting)

lines_spelled : (nesting : ℕ) (list : List Statement) → (block nesting).spell list ≡ header ++ (body nesting).spell (list, tt)
lines_spelled nesting list = ap (λ t. header ++ (t ++ (Dedent ∷ []))) (spells nesting list)

pub step_block : (nesting : ℕ) (tokens : List Token) → Step (block nesting) (Block1 nesting) (λ s. s.1.0) tokens tokens
step_block nesting tokens = record {
  front = [];
  split = refl;
  fits = λ limits s fits. lines_fit nesting limits s.1.0 fits.1.0;
  spelled = λ s. lines_spelled nesting s.1.0;
  back = λ limits other x y same fits follows equal.
      record { tree = (tt, (other, tt)); fits = (tt, (fit_lines nesting limits other fits, tt)); is = refl; equal = equal ∙ ap (λ t. t ++ y) (lines_spelled nesting other); follows = tt };
}

pub block1 : (nesting : ℕ) → Joint (exactly header) (body nesting)
block1 nesting = record { may = record { may = λ limits q y fits follows. tt }; some = (pass ∷ [], tt); fits = λ limits. (((tt, tt), tt), tt) }

-- `else` and its block

abbrev pub else_block : ℕ → Phrase Token (List Statement)
else_block nesting = record { Fits = (block nesting).Fits; spell = λ list. Word w.Else ∷ (block nesting).spell list; Follows = λ o. Unit {0} }

pub step_else : (nesting : ℕ) (after : List Token) → Step (else_block nesting) (block nesting) (λ s. s) (Word w.Else ∷ after) after
step_else nesting after = record {
  front = Word w.Else ∷ [];
  split = refl;
  fits = λ limits s fits. fits;
  spelled = λ s. refl;
  back = λ limits other x y same fits follows equal.
      record { tree = other; fits = fits; is = refl; equal = (let e : x ≡ (block nesting).spell other ++ y = cc in e); follows = tt };
}

some_else : (nesting : ℕ) (limits : Limits) (list : List Statement) → (else_block nesting).Fits limits list → Alike (else_block nesting) (otherwise nesting) limits list
some_else nesting limits [] fits = absurd fits.0
some_else nesting limits (s ∷ more) fits = record { part = fits; whole = fits.1; spelled = refl }

other_else : (nesting : ℕ) (limits : Limits) (list : List Statement) → (otherwise nesting).Fits limits list → (list ≡ []) ⊎ Alike (else_block nesting) (otherwise nesting) limits list
other_else nesting limits [] fits = inl refl
other_else nesting limits (s ∷ more) fits = inr (record { part = (tt, fits); whole = fits; spelled = refl })

pub optional_else : (nesting : ℕ) → Optional (Word w.Else) (else_block nesting) (otherwise nesting)
optional_else nesting = record {
  begins = λ limits list y fits. refl;
  some = some_else nesting;
  other = other_else nesting;
  none = λ limits. tt;
  nothing = refl;
  ends = λ o follows. follows;
  always = λ o. tt;
}

-- `if`

abbrev pub If2T : Type 0
If2T = List Statement × List Statement

abbrev pub If2 : ℕ → Phrase Token If2T
If2 inner = then (block inner) (otherwise inner)

abbrev pub If1 : ℕ → Phrase Token (Tree × If2T)
If1 inner = then control (If2 inner)

pub if1 : (inner : ℕ) → Joint control (If2 inner)
if1 inner = record { may = record { may = λ limits q y fits follows. tt }; some = (pass ∷ [], []); fits = λ limits. ((tt, (tt, tt)), tt) }

pub if2 : (inner : ℕ) → Joint (block inner) (otherwise inner)
if2 inner = record { may = record { may = λ limits q y fits follows. tt }; some = []; fits = λ limits. tt }

abbrev pub branch_of : Tree × If2T → Statement
branch_of s = branch s.0 (block_of s.1.0) (block_of s.1.1)

back_if : (nesting : ℕ) (limits : Limits) (other : Statement) (x y : List Token) → StatementFits limits nesting other → (Some (Word w.Else) ≡ first y → ⊥) → Word w.If ∷ x ≡ spelling other ++ y → Back (If1 (nesting + 1)) branch_of limits other x y
back_if nesting limits pass x y fits unelse equal = absurd (let e : Word w.If ≡ Word w.Pass = cc in cc)
back_if nesting limits (branch c a b) x y fits unelse equal =
    let is : branch c a b ≡ branch_of (c, (statements a, statements b)) = ap (λ k. branch c k b) (block_again a) ∙ ap (λ k. branch c (block_of (statements a)) k) (block_again b) in
    let again : StatementFits limits nesting (branch_of (c, (statements a, statements b))) = subst (λ (k : Statement). StatementFits limits nesting k) is fits in
    let same : Word w.If ∷ x ≡ spelling (branch_of (c, (statements a, statements b))) ++ y = equal ∙ ap (λ k. spelling k ++ y) is in
    record {
      tree = (c, (statements a, statements b));
      fits = (again.1, ((again.2, again.3), again.4));
      is = is;
      equal = (let e : x ≡ (If1 (nesting + 1)).spell (c, (statements a, statements b)) ++ y = cc in e);
      follows = λ e. unelse (sym e);
    }
back_if nesting limits (loop i low high a) x y fits unelse equal = absurd (let e : Word w.If ≡ Word w.For = cc in cc)
back_if nesting limits (allocate m kind ds k) x y fits unelse equal = absurd (let e : Word w.If ≡ Name m = cc in cc)
back_if nesting limits (call m list b) x y fits unelse equal = absurd (let e : Word w.If ≡ Name m = cc in cc)
back_if nesting limits (configure m f e) x y fits unelse equal = absurd (let e : Word w.If ≡ Name m = cc in cc)
back_if nesting limits (assign m ds e) x y fits unelse equal =
    absurd (let e : Some (Word w.If) ≡ Some (Name m) = ap first equal in cc (e))
back_if nesting limits (reduce m ds e) x y fits unelse equal =
    absurd (let e : Some (Word w.If) ≡ Some (Name m) = ap first equal in cc (e))
back_if nesting limits (view m k cs) x y fits unelse equal = absurd (let e : Word w.If ≡ Name m = cc in cc)

pub step_if : (nesting : ℕ) (tokens after : List Token) → nesting < 24 → tokens ≡ Word w.If ∷ after → Step (statement nesting) (If1 (nesting + 1)) branch_of tokens after
step_if nesting tokens after less whole = record {
  front = Word w.If ∷ [];
  split = whole;
  fits = λ limits s fits. (nests limits nesting less, fits.0, fits.1.0.0, fits.1.0.1, fits.1.1);
  spelled = λ s. refl;
  back = λ limits other x y same fits follows equal. back_if nesting limits other x y fits (λ e. follows (sym e)) equal;
}

-- `for`

abbrev pub in_seq : List Token
in_seq = Word w.In ∷ Word w.Seq ∷ Sign Open ∷ []

abbrev pub For3 : ℕ → Phrase Token ((Tree × (Unit {0})) × List Statement)
For3 inner = then (then control (exactly (Sign Close ∷ []))) (block inner)

abbrev pub For2 : ℕ → Phrase Token ((Tree × (Unit {0})) × ((Tree × (Unit {0})) × List Statement))
For2 inner = then (then control (exactly (Sign Comma ∷ []))) (For3 inner)

abbrev pub For1T : Type 0
For1T = (List ℕ × (Unit {0})) × ((Tree × (Unit {0})) × ((Tree × (Unit {0})) × List Statement))

abbrev pub For1 : ℕ → Phrase Token For1T
For1 inner = then (then name (exactly in_seq)) (For2 inner)

pub for1 : (inner : ℕ) → Joint (then name (exactly in_seq)) (For2 inner)
for1 inner = record { may = record { may = λ limits q y fits follows. tt }; some = ((zero, tt), ((zero, tt), pass ∷ [])); fits = λ limits. ((control_zero limits, tt), ((control_zero limits, tt), (tt, (tt, tt)))) }

pub for2 : (inner : ℕ) → Joint (then control (exactly (Sign Comma ∷ []))) (For3 inner)
for2 inner = record { may = record { may = λ limits q y fits follows. tt }; some = ((zero, tt), pass ∷ []); fits = λ limits. ((control_zero limits, tt), (tt, (tt, tt))) }

pub for3 : (inner : ℕ) → Joint (then control (exactly (Sign Close ∷ []))) (block inner)
for3 inner = record { may = record { may = λ limits q y fits follows. tt }; some = pass ∷ []; fits = λ limits. (tt, (tt, tt)) }

abbrev pub loop_of : For1T → Statement
loop_of s = loop s.0.0 s.1.0.0 s.1.1.0.0 (block_of s.1.1.1)

-- the spelling of the bounds, one by one
bounds_of : (low high : Tree) (more : List Token) → control.spell low ++ (Sign Comma ∷ (control.spell high ++ (Sign Close ∷ more))) ≡ (control.spell low ++ (Sign Comma ∷ [])) ++ ((control.spell high ++ (Sign Close ∷ [])) ++ more)
bounds_of low high more =
    sym (append_assoc (control.spell low) (Sign Comma ∷ []) (control.spell high ++ (Sign Close ∷ more)))
    ∙ ap (λ w. (control.spell low ++ (Sign Comma ∷ [])) ++ w) (sym (append_assoc (control.spell high) (Sign Close ∷ []) more))

back_for : (nesting : ℕ) (limits : Limits) (other : Statement) (x y : List Token) → StatementFits limits nesting other → Word w.For ∷ x ≡ spelling other ++ y → Back (For1 (nesting + 1)) loop_of limits other x y
back_for nesting limits pass x y fits equal = absurd (let e : Word w.For ≡ Word w.Pass = cc in cc)
back_for nesting limits (branch c a b) x y fits equal = absurd (let e : Word w.For ≡ Word w.If = cc in cc)
back_for nesting limits (loop i low high a) x y fits equal =
    let is : loop i low high a ≡ loop i low high (block_of (statements a)) = ap (λ k. loop i low high k) (block_again a) in
    let again : StatementFits limits nesting (loop i low high (block_of (statements a))) = subst (λ (k : Statement). StatementFits limits nesting k) is fits in
    let same : Word w.For ∷ x ≡ spelling (loop i low high (block_of (statements a))) ++ y = equal ∙ ap (λ k. spelling k ++ y) is in
    record {
      tree = ((i, tt), ((low, tt), ((high, tt), statements a)));
      fits = ((again.1, tt), ((again.2, tt), ((again.3, tt), (again.4, again.5))));
      is = is;
      equal = (let e : x ≡ (Name i ∷ Word w.In ∷ Word w.Seq ∷ Sign Open ∷ (control.spell low ++ (Sign Comma ∷ (control.spell high ++ (Sign Close ∷ (block (nesting + 1)).spell (statements a)))))) ++ y = cc in
          e ∙ ap (λ k. (Name i ∷ Word w.In ∷ Word w.Seq ∷ Sign Open ∷ k) ++ y) (bounds_of low high ((block (nesting + 1)).spell (statements a))));
      follows = tt;
    }
back_for nesting limits (allocate m kind ds k) x y fits equal = absurd (let e : Word w.For ≡ Name m = cc in cc)
back_for nesting limits (call m list b) x y fits equal = absurd (let e : Word w.For ≡ Name m = cc in cc)
back_for nesting limits (configure m f e) x y fits equal = absurd (let e : Word w.For ≡ Name m = cc in cc)
back_for nesting limits (assign m ds e) x y fits equal =
    absurd (let e : Some (Word w.For) ≡ Some (Name m) = ap first equal in cc (e))
back_for nesting limits (reduce m ds e) x y fits equal =
    absurd (let e : Some (Word w.For) ≡ Some (Name m) = ap first equal in cc (e))
back_for nesting limits (view m k cs) x y fits equal = absurd (let e : Word w.For ≡ Name m = cc in cc)

pub step_for : (nesting : ℕ) (tokens after : List Token) → nesting < 24 → tokens ≡ Word w.For ∷ after → Step (statement nesting) (For1 (nesting + 1)) loop_of tokens after
step_for nesting tokens after less whole = record {
  front = Word w.For ∷ [];
  split = whole;
  fits = λ limits s fits. (nests limits nesting less, fits.0.0, fits.1.0.0, fits.1.1.0.0, fits.1.1.1.0, fits.1.1.1.1);
  spelled = λ s. ap (λ k. Word w.For ∷ Name s.0.0 ∷ Word w.In ∷ Word w.Seq ∷ Sign Open ∷ k) (bounds_of s.1.0.0 s.1.1.0.0 ((block (nesting + 1)).spell s.1.1.1));
  back = λ limits other x y same fits follows equal. back_for nesting limits other x y fits equal;
}

-- what begins a statement

abbrev pub StartsStatement : Option Token → Type 0
StartsStatement (Some (Word w.Pass)) = Unit {0}
StartsStatement (Some (Word w.If)) = Unit {0}
StartsStatement (Some (Word w.For)) = Unit {0}
StartsStatement (Some (Name n)) = Unit {0}
StartsStatement other = ⊥

pub starts_statement : (s : Statement) (y : List Token) → StartsStatement (first (spelling s ++ y))
starts_statement pass y = tt
starts_statement (branch c a b) y = tt
starts_statement (loop i low high a) y = tt
starts_statement (allocate x kind ds m) y = tt
starts_statement (call f list b) y = tt
starts_statement (configure c f e) y = tt
starts_statement (assign x ds e) y = tt
starts_statement (reduce x ds e) y = tt
starts_statement (view m x cs) y = tt

refused_statement : (nesting : ℕ) (tokens : List Token) → (StartsStatement (first tokens) → ⊥) → Refused (statement nesting) syntax tokens (length tokens)
refused_statement nesting tokens missing = record {
  before = [];
  rest = tokens;
  whole = refl;
  count = refl;
  begins = record { tree = pass; more = Word w.Pass ∷ NewLine ∷ []; fits = λ limits. tt; spelled = refl };
  goes = tt;
  stuck = λ other x y same stands follows equal. missing (subst StartsStatement (sym (same ∙ ap first equal)) (starts_statement other y));
}

not_statement : (t : Token) → IsNoHead (Some t) → ((n : List ℕ) → t ≡ Name n → ⊥) → StartsStatement (Some t) → ⊥
not_statement (Word w.Pass) no_head no_name starts = no_head
not_statement (Word w.If) no_head no_name starts = no_head
not_statement (Word w.For) no_head no_name starts = no_head
not_statement (Name n) no_head no_name starts = no_name n refl
not_statement other no_head no_name starts = absurd starts

pub statement_start : (nesting : ℕ) (tokens rest : List Token) (t : Token) → tokens ≡ t ∷ rest → IsNoHead (first tokens) → ((n : List ℕ) → t ≡ Name n → ⊥) → Refused (statement nesting) syntax tokens (length tokens)
statement_start nesting tokens rest t front no_head no_name =
    refused_statement nesting tokens (λ starts. not_statement t (subst IsNoHead (ap first front) no_head) no_name (subst StartsStatement (ap first front) starts))

pub statement_end : (nesting : ℕ) (tokens : List Token) → tokens ≡ [] → Refused (statement nesting) syntax tokens 0
statement_end nesting tokens empty = subst (λ (ts : List Token). Refused (statement nesting) syntax ts 0) (sym empty) (refused_statement nesting [] (λ starts. starts))

-- the name with which a statement begins is too long

short_head : (nesting : ℕ) (n : List ℕ) (other : Statement) (y : List Token) → StatementFits in_length nesting other → Some (Name n) ≡ first (spelling other ++ y) → IsShortName n
short_head nesting n pass y fits same = absurd (let e : Name n ≡ Word w.Pass = cc (same) in cc (e))
short_head nesting n (branch c a b) y fits same = absurd (let e : Name n ≡ Word w.If = cc (same) in cc (e))
short_head nesting n (loop i low high a) y fits same = absurd (let e : Name n ≡ Word w.For = cc (same) in cc (e))
short_head nesting n (allocate m kind ds k) y fits same = let e : m ≡ n = cc (same) in subst IsShortName e fits.0.1
short_head nesting n (call m list b) y fits same = let e : m ≡ n = cc (same) in subst IsShortName e fits.0.1
short_head nesting n (configure m f v) y fits same = let e : m ≡ n = cc (same) in subst IsShortName e fits.0.1
short_head nesting n (assign m ds v) y fits same = let e : m ≡ n = cc (same) in subst IsShortName e fits.0.1
short_head nesting n (reduce m ds v) y fits same = let e : m ≡ n = cc (same) in subst IsShortName e fits.0.1
short_head nesting n (view m k cs) y fits same = let e : m ≡ n = cc (same) in subst IsShortName e fits.0.1

pub statement_long : (nesting : ℕ) (tokens rest : List Token) (n : List ℕ) → tokens ≡ Name n ∷ rest → (IsShortName n → ⊥) → Refused (statement nesting) too_long tokens (length tokens)
statement_long nesting tokens rest n front long = record {
  before = [];
  rest = tokens;
  whole = refl;
  count = refl;
  begins = record { tree = pass; more = Word w.Pass ∷ NewLine ∷ []; fits = λ limits. tt; spelled = refl };
  goes = record {
    tree = assign n [] zero;
    token = Name n;
    more = Sign Assign ∷ Int (Value 0) ∷ NewLine ∷ [];
    next = ap first front;
    fits = (tt, tt, datum_zero in_depth);
    spelled = refl;
  };
  stuck = λ other x y same fits follows equal. long (short_head nesting n other y fits (sym (ap first front) ∙ same ∙ ap first equal));
}

-- no block may stand in a block of this nesting

if_nests : (nesting : ℕ) (other : Statement) (y : List Token) → StatementFits in_depth nesting other → Some (Word w.If) ≡ first (spelling other ++ y) → nesting < 24
if_nests nesting pass y fits same = absurd (let e : Word w.If ≡ Word w.Pass = cc (same) in cc (e))
if_nests nesting (branch c a b) y fits same = fits.0
if_nests nesting (loop i low high a) y fits same = absurd (let e : Word w.If ≡ Word w.For = cc (same) in cc (e))
if_nests nesting (allocate m kind ds k) y fits same = absurd (let e : Word w.If ≡ Name m = cc (same) in cc (e))
if_nests nesting (call m list b) y fits same = absurd (let e : Word w.If ≡ Name m = cc (same) in cc (e))
if_nests nesting (configure m f v) y fits same = absurd (let e : Word w.If ≡ Name m = cc (same) in cc (e))
if_nests nesting (assign m ds v) y fits same = absurd (let e : Word w.If ≡ Name m = cc (same) in cc (e))
if_nests nesting (reduce m ds v) y fits same = absurd (let e : Word w.If ≡ Name m = cc (same) in cc (e))
if_nests nesting (view m k cs) y fits same = absurd (let e : Word w.If ≡ Name m = cc (same) in cc (e))

for_nests : (nesting : ℕ) (other : Statement) (y : List Token) → StatementFits in_depth nesting other → Some (Word w.For) ≡ first (spelling other ++ y) → nesting < 24
for_nests nesting pass y fits same = absurd (let e : Word w.For ≡ Word w.Pass = cc (same) in cc (e))
for_nests nesting (branch c a b) y fits same = absurd (let e : Word w.For ≡ Word w.If = cc (same) in cc (e))
for_nests nesting (loop i low high a) y fits same = fits.0
for_nests nesting (allocate m kind ds k) y fits same = absurd (let e : Word w.For ≡ Name m = cc (same) in cc (e))
for_nests nesting (call m list b) y fits same = absurd (let e : Word w.For ≡ Name m = cc (same) in cc (e))
for_nests nesting (configure m f v) y fits same = absurd (let e : Word w.For ≡ Name m = cc (same) in cc (e))
for_nests nesting (assign m ds v) y fits same = absurd (let e : Word w.For ≡ Name m = cc (same) in cc (e))
for_nests nesting (reduce m ds v) y fits same = absurd (let e : Word w.For ≡ Name m = cc (same) in cc (e))
for_nests nesting (view m k cs) y fits same = absurd (let e : Word w.For ≡ Name m = cc (same) in cc (e))

pub if_deep : (nesting : ℕ) (tokens after : List Token) → 24 ≤ nesting → tokens ≡ Word w.If ∷ after → Refused (statement nesting) too_deep tokens (length tokens)
if_deep nesting tokens after deep front = record {
  before = [];
  rest = tokens;
  whole = refl;
  count = refl;
  begins = record { tree = pass; more = Word w.Pass ∷ NewLine ∷ []; fits = λ limits. tt; spelled = refl };
  goes = record {
    tree = branch zero (next pass end) end;
    token = Word w.If;
    more = Int (Value 0) ∷ Sign Colon ∷ NewLine ∷ Indent ∷ Word w.Pass ∷ NewLine ∷ Dedent ∷ [];
    next = ap first front;
    fits = (tt, control_zero unlimited, tt, (tt, tt), tt);
    spelled = refl;
  };
  stuck = λ other x y same fits follows equal. let less : nesting < 24 = if_nests nesting other y fits (sym (ap first front) ∙ same ∙ ap first equal) in omega (arith, less, deep);
}

pub for_deep : (nesting : ℕ) (tokens after : List Token) → 24 ≤ nesting → tokens ≡ Word w.For ∷ after → Refused (statement nesting) too_deep tokens (length tokens)
for_deep nesting tokens after deep front = record {
  before = [];
  rest = tokens;
  whole = refl;
  count = refl;
  begins = record { tree = pass; more = Word w.Pass ∷ NewLine ∷ []; fits = λ limits. tt; spelled = refl };
  goes = record {
    tree = loop [] zero zero (next pass end);
    token = Word w.For;
    more = Name [] ∷ Word w.In ∷ Word w.Seq ∷ Sign Open ∷ Int (Value 0) ∷ Sign Comma ∷ Int (Value 0) ∷ Sign Close ∷ Sign Colon ∷ NewLine ∷ Indent ∷ Word w.Pass ∷ NewLine ∷ Dedent ∷ [];
    next = ap first front;
    fits = (tt, no_name unlimited, control_zero unlimited, control_zero unlimited, tt, (tt, tt));
    spelled = refl;
  };
  stuck = λ other x y same fits follows equal. let less : nesting < 24 = for_nests nesting other y fits (sym (ap first front) ∙ same ∙ ap first equal) in omega (arith, less, deep);
}

pub no_head : (o : Option Token) → (o ≡ Some (Word w.Pass) → ⊥) → (o ≡ Some (Word w.If) → ⊥) → (o ≡ Some (Word w.For) → ⊥) → IsNoHead o
no_head (Some (Word w.Pass)) no_pass no_if no_for = no_pass refl
no_head (Some (Word w.If)) no_pass no_if no_for = no_if refl
no_head (Some (Word w.For)) no_pass no_if no_for = no_for refl
no_head other no_pass no_if no_for = tt

pub begins_store : (o : Option Token) → (o ≡ Some (Sign Colon) → ⊥) → (o ≡ Some (Sign Open) → ⊥) → (o ≡ Some (Sign Dot) → ⊥) → (o ≡ Some (Sign Assign) → ⊥) → BeginsStore o
begins_store (Some (Sign Colon)) no_colon no_open no_dot no_equal = no_colon refl
begins_store (Some (Sign Open)) no_colon no_open no_dot no_equal = no_open refl
begins_store (Some (Sign Dot)) no_colon no_open no_dot no_equal = no_dot refl
begins_store (Some (Sign Assign)) no_colon no_open no_dot no_equal = no_equal refl
begins_store other no_colon no_open no_dot no_equal = tt

-- the lines of a block

no_else : (s : Statement) (y : List Token) → first (spelling s ++ y) ≡ Some (Word w.Else) → ⊥
no_else s y opens = subst StartsStatement opens (starts_statement s y)

dedent_no_else : (o : Option Token) → o ≡ Some Dedent → o ≡ Some (Word w.Else) → ⊥
dedent_no_else o ends opens = let e : Some Dedent ≡ Some (Word w.Else) = sym ends ∙ opens in let d : Dedent ≡ Word w.Else = cc (e) in cc (d)

pub apart : (nesting : ℕ) → Apart (statement nesting) (Is Dedent)
apart nesting = record {
  begins = λ limits s y fits ends. subst StartsStatement ends (starts_statement s y);
  next = λ limits s y fits. no_else s y;
  last = dedent_no_else;
}

some_tokens : (s : Statement) → 1 ≤ length (spelling s)
some_tokens pass = omega arith
some_tokens (branch c a b) = omega arith
some_tokens (loop i low high a) = omega arith
some_tokens (allocate x kind ds m) = omega arith
some_tokens (call f list b) = omega arith
some_tokens (configure c f e) = omega arith
some_tokens (assign x ds e) = omega arith
some_tokens (reduce x ds e) = omega arith
some_tokens (view m x cs) = omega arith

pub statement_shorter : (nesting : ℕ) (tokens rest : List Token) (s : Statement) → Taken (statement nesting) tokens s rest → length rest < length tokens
statement_shorter nesting tokens rest s taken = omega (arith, ap length taken.whole, length-append (spelling s) rest, some_tokens s)
