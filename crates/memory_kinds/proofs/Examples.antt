-- Procedures over a memory of vectors: copies by instructions, and what is refused.
use Rattle.std.proofs.Common.{◌≡◌, ℕ, pos, true, false, List, [], ◌∷◌, Some, None, refl}
use Rattle.exo_tree.specs.Tree.{I8, I32, Cell, Control, Lit, Const, Span, Argument, Window, Whole, Statement, Assign, Alloc, Call, block, Param, TensorParam, WindowParam, Procedure, MemoryKind, Program}
use Rattle.memory_kinds.specs.declared.error.KindError.TheVariants.{NotWritable, MemoryMismatch, PrecisionMismatch, LaneMismatch}
use Rattle.memory_kinds.specs.Faults.{fault_of}

abbrev plain : MemoryKind
plain = record { name = []; ctype = []; lanes = 0; cell = None; stack = false; read = true; write = true; reduce = true; header = [] }

abbrev vectors : MemoryKind
vectors = record { name = []; ctype = []; lanes = 8; cell = Some I32; stack = true; read = false; write = false; reduce = false; header = [] }

abbrev eight : List Control
eight = Lit (pos 8) ∷ []

abbrev window : ℕ → ℕ → Param
window x memory = record { binder = record { id = x; name = [] }; kind = WindowParam I32 eight memory }

abbrev load : Procedure
load = record { name = []; params = window 0 1 ∷ window 1 0 ∷ []; asserts = []; body = block []; template = Some [] }

abbrev store : Procedure
store = record { name = []; params = window 0 0 ∷ window 1 1 ∷ []; asserts = []; body = block []; template = Some [] }

abbrev tensor : ℕ → Param
tensor x = record { binder = record { id = x; name = [] }; kind = TensorParam I32 eight 0 }

-- a procedure of two tensors of eight cells, as the third of the unit
abbrev with_body : List Statement → Program
with_body ss = record { procedures = load ∷ store ∷ record { name = []; params = tensor 0 ∷ tensor 1 ∷ []; asserts = []; body = block ss; template = None } ∷ []; fields = []; memories = plain ∷ vectors ∷ [] }

abbrev made : Cell → List Control → Statement
made cell dims = Alloc (record { id = 2; name = [] }) cell dims 1

abbrev part : ℕ → Argument
part x = Window x (Span (Lit (pos 0)) (Lit (pos 8)) ∷ [])

copies : fault_of (with_body (made I32 eight ∷ Call 0 (part 2 ∷ part 0 ∷ []) ∷ Call 1 (Whole 1 ∷ Whole 2 ∷ []) ∷ [])) 2 ≡ None
copies = refl

written : fault_of (with_body (made I32 eight ∷ Assign 2 (Lit (pos 0) ∷ []) (Const (pos 1)) ∷ [])) 2 ≡ Some NotWritable
written = refl

of_bytes : fault_of (with_body (made I8 eight ∷ [])) 2 ≡ Some PrecisionMismatch
of_bytes = refl

of_sixteen : fault_of (with_body (made I32 (Lit (pos 16) ∷ []) ∷ [])) 2 ≡ Some LaneMismatch
of_sixteen = refl

in_another : fault_of (with_body (Call 0 (part 1 ∷ part 0 ∷ []) ∷ [])) 2 ≡ Some MemoryMismatch
in_another = refl
