-- The one answer that no definition states: an allocation failure.
use Rattle.std.specs.Prelude.{Bool, true, false}
use Rattle.ebpf_btf_maps.specs.declared.error.BtfMapError.{BtfMapError}
use Rattle.ebpf_btf_maps.specs.declared.error.BtfMapError.TheVariants.{OutOfMemory}

abbrev pub is_btf_map_memory : BtfMapError → Bool
is_btf_map_memory OutOfMemory = true
is_btf_map_memory _ = false
