use Rattle.std.proofs.Common.{◌≡◌, map, take}
use Rattle.ebpf_reloc.specs.PrivateContracts.{named_copy}
use Rattle.ebpf_reloc.proofs.link_map.named_copies.Given as goal

-- the copies so far, with their names
abbrev pub invariant-loop-copy : goal.invariant-loop-copy
invariant-loop-copy l = l.named.items ≡ map (named_copy l.keys (map (λ f. f.now) l.functions)) (take l.copy-index l.copies)
