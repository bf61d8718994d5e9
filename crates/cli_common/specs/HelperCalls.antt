-- Maps from lists of entries, of which the first with a key counts.
use Rattle.std.specs.Prelude.{List, fold, if◌then◌else◌, ℕ, Bool, false, ◌&&◌, ◌==◌, [], Option}
use Rattle.std.specs.Prelude.{Some, None}
use Rattle.std.specs.FinMap.{FinMap, insert, contains_key}
use Rattle.std.specs.declared.cmp.Ordering.{Ordering}
use Rattle.std.specs.BTreeSet.{BTreeSet, insert_key}
use Rattle.std.specs.Int.{w32, cast_unsigned}
use Rattle.std.specs.List.{filter_map, list_any}
use Rattle.std.specs.Ordering.{nat_cmp}
use Rattle.ebpf_model.specs.declared.function.Function.{Function}
use Rattle.ebpf_parts.specs.Slots.{call, src_of}
use Rattle.ebpf_parts.specs.declared.insn.bpf_insn.{bpf_insn}

-- one more entry, where its key is new
abbrev pub put_first : {K X : Type 0} {R : K → K → Ordering} → FinMap R X → K → X → FinMap R X
put_first m k v = if contains_key m k then m else insert m k v

-- the entries put into a map, one after the other
abbrev pub put_firsts : {K X : Type 0} {R : K → K → Ordering}
    → FinMap R X
    → List (K × X)
    → FinMap R X
put_firsts m entries = fold (λ so_far e. put_first so_far e.0 e.1) m entries

-- ---- the helper functions that functions call (RFC 9669, section 4.3.1)

-- the number of the helper function that a slot calls: the code of a call, with source register 0
unfoldable pub helper_called : bpf_insn → Option ℕ
helper_called slot =
    if slot.code == call && src_of slot == 0 then Some (cast_unsigned w32 slot.imm) else None

-- those that some slots call, one after the other
abbrev pub helpers_called : List bpf_insn → List ℕ
helpers_called slots = filter_map helper_called slots

-- the numbers of a list as a set: rising, each once
abbrev pub set_of : List ℕ → BTreeSet ℕ
set_of numbers = record { keys = fold (insert_key nat_cmp) [] numbers }

-- the helper functions that a function calls
unfoldable pub helper_set : Function → BTreeSet ℕ
helper_set f = set_of (helpers_called f.instructions)

-- whether a function calls the helper function of a number
abbrev pub calls_helper : Option Function → ℕ → Bool
calls_helper None helper = false
calls_helper (Some f) helper = list_any (λ n. n == helper) (helpers_called f.instructions)
