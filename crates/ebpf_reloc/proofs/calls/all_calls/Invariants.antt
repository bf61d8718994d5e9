use Rattle.std.proofs.Common.{◌≡◌, ◌++◌, drop, map}
use Rattle.ebpf_model.specs.Walks.{IsWithinFunction}
use Rattle.ebpf_reloc.specs.PrivateContracts.{calls_from}
use Rattle.ebpf_reloc.specs.SlotTargets.{read}
use Rattle.ebpf_reloc.proofs.calls.all_calls.Given as goal

-- the calls so far, and those of the functions that are left; the walk is ready for the next function
abbrev pub invariant-loop-number : goal.invariant-loop-number
invariant-loop-number l = record {
  calls : map (λ v. v.items) l.calls.items ++ calls_from (read l.parts) l.keys l.number (map (λ f. f.now) (drop l.number l.functions)) ≡ calls_from (read l.parts) l.keys 0 (map (λ f. f.now) l.functions);
  ready : IsWithinFunction (read l.parts).relocations l.walk;
}
