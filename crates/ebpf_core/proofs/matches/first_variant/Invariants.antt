use Rattle.std.proofs.Common.{◌≡◌, drop, []}
use Rattle.std.specs.Prelude.{unwrap_or}
use Rattle.ebpf_btf.specs.Variants.{variants_of}
use Rattle.ebpf_core.specs.Outcomes.{first_variant}
use Rattle.ebpf_core.proofs.matches.first_variant.Given as goal

abbrev pub invariant-loop-index : goal.invariant-loop-index
invariant-loop-index l =
    first_variant l.target l.name (drop l.index (unwrap_or (variants_of l.ty) [])) ≡ first_variant l.target l.name (unwrap_or (variants_of l.ty) [])
