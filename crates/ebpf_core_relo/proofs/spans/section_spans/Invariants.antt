use Rattle.std.proofs.Common.{◌≡◌, ◌++◌, ℕ}
use Rattle.std.specs.FinMap.{get}
use Rattle.ebpf_core_relo.specs.Spans.{spans_among, spans_of}
use Rattle.ebpf_core_relo.specs.PrivateContracts.{spans_or_none}
use Rattle.ebpf_core_relo.proofs.spans.section_spans.Given as goal

-- the spans so far, and those of the functions that are left, are those of all
abbrev pub invariant-loop-key : goal.invariant-loop-key
invariant-loop-key l = (q : ℕ) → spans_or_none (get l.sections q) ++ spans_among q l.key-iterator ≡ spans_of l.functions q
