-- The outcomes of linking an object's programs: the link map of each, or why it can't be linked.
use Rattle.std.specs.Prelude.{List, Option, Some, None, Result, Ok, Err, MatchOption}
use Rattle.std.specs.List.{AllZip}
use Rattle.ebpf_base.specs.Faults.{fault_of, first_some}
use Rattle.ebpf_model.specs.declared.error.EbpfRelocationError.{EbpfRelocationError}
use Rattle.ebpf_outcomes.specs.declared.linking.CallOutcome.{CallOutcome}
use Rattle.ebpf_reloc.specs.Laws.{IsProgramLinkMapAnswer}
use Rattle.ebpf_reloc.specs.Linking.{IsFirstRefusal, ProgramValue}
use Rattle.ebpf_reloc.specs.SlotTargets.{LinkableValue}

-- of each program its link map, or its refusal; in the order of the programs
abbrev pub AreCallOutcomes : LinkableValue → List ProgramValue → List CallOutcome → Type 0
AreCallOutcomes parts programs outcomes =
    AllZip (λ program outcome. IsProgramLinkMapAnswer parts program outcome.link_map) programs
    outcomes

-- Linking refuses the programs exactly where an outcome is a refusal, and then with the first.
abbrev pub CallsRefuseByOutcomes : Type 0
CallsRefuseByOutcomes =
    (parts : LinkableValue) (programs : List ProgramValue) (outcomes : List CallOutcome)
    → AreCallOutcomes parts programs outcomes
    → MatchOption (first_some (λ outcome. fault_of outcome.link_map) outcomes)
    ((e : EbpfRelocationError) → IsFirstRefusal parts programs e → ⊥)
    (IsFirstRefusal parts programs)
