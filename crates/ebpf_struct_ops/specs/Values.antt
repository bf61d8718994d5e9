-- The bytes of the value of a map of struct_ops, by offset (libbpf 1.7, libbpf.c:
-- bpf_map__init_kern_struct_ops). Each byte is that of the last member that is copied there, and
-- zero elsewhere. The eight bytes for the descriptor of a program are zero.
use Rattle.std.specs.Prelude.{ℕ, ◌+◌, ◌-◌, ◌&&◌, Bool, nat_le, nat_lt, List, map, fold, slice_get}
use Rattle.std.specs.Prelude.{unwrap_or, if◌then◌else◌}
use Rattle.std.specs.List.{range_with_len}
use Rattle.ebpf_struct_ops.specs.declared.placement.Placement.{Placement}
use Rattle.ebpf_struct_ops.specs.declared.placement.Placement.TheVariants.{Bytes}

-- the byte at an offset of the value after a placement, where it was another before
abbrev pub byte_after : List ℕ → ℕ → ℕ → Placement → ℕ
byte_after bytes offset before (Bytes from to size) =
    if nat_le to offset && nat_lt (offset - to) size
    then unwrap_or (slice_get bytes (from + (offset - to))) before
    else before
byte_after bytes offset before _ = before

-- the byte at an offset of the value
abbrev pub byte_at : List ℕ → List Placement → ℕ → ℕ
byte_at bytes placements offset = fold (byte_after bytes offset) 0 placements

abbrev pub value_bytes : List ℕ → List Placement → ℕ → List ℕ
value_bytes bytes placements size = map (byte_at bytes placements) (range_with_len 0 size)
