-- The one error of parsing that no definition states: an allocation failure.
use Rattle.std.specs.Prelude.{Bool, true, false}
use Rattle.ebpf_parts.specs.declared.error.ParseError.{ParseError}
use Rattle.ebpf_parts.specs.declared.error.ParseError.TheVariants.{OutOfMemory}

abbrev pub is_parse_memory : ParseError → Bool
is_parse_memory OutOfMemory = true
is_parse_memory _ = false
