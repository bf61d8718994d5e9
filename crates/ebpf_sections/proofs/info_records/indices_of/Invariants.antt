use Rattle.std.proofs.Common.{◌≡◌, take, map}
use Rattle.ebpf_sections.proofs.info_records.indices_of.Given as goal

-- the numbers so far
abbrev pub invariant-loop-index : goal.invariant-loop-index
invariant-loop-index l = l.numbers.items ≡ map (λ p. p.index) (take l.index-index l.indices)
