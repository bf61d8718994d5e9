-- What contracts of private functions name and no public one.
use Rattle.std.specs.Prelude.{ℕ, Option, Some, None, List, [], ◌∷◌, if◌then◌else◌, ◌==◌, ◌<◌}
use Rattle.std.specs.Prelude.{IfSome, ◌++◌, length}
use Rattle.ebpf_reachability.specs.declared.registers.Registers.{Registers}
use Rattle.std.specs.Option.{option_to_list}
use Rattle.ebpf_parts.specs.declared.insn.bpf_insn.{bpf_insn}
use Rattle.ebpf_reachability.specs.declared.steps.SlotState.{SlotState}

-- where two paths meet, equal numbers stay
abbrev pub common : Option ℕ → Option ℕ → Option ℕ
common None other = None
common (Some m) None = None
common (Some m) (Some n) = if m == n then Some m else None

abbrev pub commons : List (Option ℕ) → List (Option ℕ) → List (Option ℕ)
commons [] ys = []
commons (x ∷ xs) [] = []
commons (x ∷ xs) (y ∷ ys) = common x y ∷ commons xs ys

abbrev pub least_upper_bound : Registers → Registers → Registers
least_upper_bound a b = record { numbers = commons a.numbers b.numbers }

-- the steps that are given as two at most
abbrev pub pair_to_list : Option SlotState × Option SlotState → List SlotState
pair_to_list pair = option_to_list pair.0 ++ option_to_list pair.1

-- none of them leaves the program
pub record AreWithin (slots : List bpf_insn) (pair : Option SlotState × Option SlotState)
    : Type 0 where
  pub first : IfSome pair.0 (λ step. step.place < length slots)
  pub second : IfSome pair.1 (λ step. step.place < length slots)
