use Rattle.std.proofs.Common.{◌≡◌, ◌++◌, drop, map}
use Rattle.ebpf_linker.specs.Numbered.{body_content}
use Rattle.ebpf_reloc.specs.References.{content_of}
use Rattle.ebpf_reloc.proofs.numbered.bodies_of.Given as goal

-- what is linked so far, and of the functions that are left
abbrev pub invariant-loop-number : goal.invariant-loop-number
invariant-loop-number l = map body_content l.bodies.items ++ map content_of (map (λ f. f.now) (drop l.number l.functions)) ≡ map content_of (map (λ f. f.now) l.functions)
