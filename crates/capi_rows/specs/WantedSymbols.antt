-- Whether the kernel's symbols are read for an object's externs.
use Rattle.std.specs.Prelude.{Bool, ◌&&◌, is_some}
use Rattle.ebpf_ksyms.specs.Externs.{is_typeless}
use Rattle.ebpf_object.specs.TypedExterns.{has_extern}
use Rattle.ebpf_object.specs.declared.object.Object.{Object}

-- it has types, and an extern without a type that is not found yet
abbrev pub wants_symbols : Object → Bool
wants_symbols o = is_some o.btf && has_extern is_typeless o.externs
