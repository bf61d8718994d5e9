-- Out of memory: the one error of this layer that no definition states.
use Rattle.std.specs.Prelude.{Bool, true, false}
use Rattle.ebpf_btf.specs.declared.error.BtfError.{BtfError}
use Rattle.ebpf_btf.specs.declared.error.BtfError.TheVariants.{OutOfMemory}

abbrev pub is_btf_memory : BtfError → Bool
is_btf_memory OutOfMemory = true
is_btf_memory _ = false
