use Rattle.std.proofs.Common.{◌≡◌, map}
use Rattle.std.specs.Cmp.Lexicographic.{pointwise}
use Rattle.std.specs.FinMap.{entries}
use Rattle.std.specs.Map.{keys_of}
use Rattle.std.specs.Slice.Iter.{iter_rest}
use Rattle.std.specs.Str.{bytes_eq}
use Rattle.ebpf_base.specs.Maps.{by_bytes}
use Rattle.ebpf_object.specs.Stages.{descriptor_of}
use Rattle.ebpf_object.proofs.missing.are_names_in_order.Given as goal

-- the names that are left decide
abbrev pub invariant-loop-name : goal.invariant-loop-name
invariant-loop-name l =
    pointwise bytes_eq (keys_of (by_bytes l.name-iterator)) (map (λ d. d.0) (map descriptor_of (iter_rest l.given)))
    ≡ pointwise bytes_eq (keys_of (entries l.maps)) (map (λ d. d.0) (map descriptor_of l.descriptors))
