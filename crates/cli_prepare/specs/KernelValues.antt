-- The values that a kernel gives to kconfig externs: by its version, else by its configuration.
--
-- A worked example: the kernel has the version 6.12.3 and the configuration `CONFIG_HZ=250`. In
-- little-endian, an extern `LINUX_KERNEL_VERSION` of four bytes has the value 03 0c 06 00, and an
-- extern `CONFIG_HZ` of four bytes fa 00 00 00.
use Rattle.std.specs.FinMap.{empty}
use Rattle.std.specs.List.{flat_map}
use Rattle.std.specs.Option.{option_and_then}
use Rattle.std.specs.Prelude.{ℕ, List, [], ◌∷◌, Option, Some, None, Result, Ok, Err, codes, nat_le}
use Rattle.std.specs.Prelude.{if◌then◌else◌}
use Rattle.std.specs.Str.{bytes_eq}
use Rattle.ebpf_base.specs.Faults.{if_ok}
use Rattle.ebpf_base.specs.Maps.{put_all}
use Rattle.ebpf_base.specs.declared.endianness.Endianness.{Endianness}
use Rattle.ebpf_kconfig.specs.ConfiguredValues.{configured_value, loader_value, with_name}
use Rattle.ebpf_kconfig.specs.KconfigExterns.{kconfig_externs}
use Rattle.ebpf_kconfig.specs.KconfigMaps.{KconfigValues, symbols_defined, with_kconfig_map}
use Rattle.ebpf_kconfig.specs.declared.error.KconfigError.{KconfigError}
use Rattle.ebpf_kconfig.specs.declared.externs.KconfigExtern.{KconfigExtern}
use Rattle.ebpf_object.specs.declared.object.Object.{Object}
use Rattle.cli_prepare.specs.declared.kernel.Kernel.{Kernel}

-- 1 from a version on, 0 before it
abbrev pub since : ℕ → ℕ → ℕ
since first version = if nat_le first version then 1 else 0

-- The number that a name has in kernels of a version (libbpf 1.5, libbpf.c:
-- bpf_object__resolve_externs): attached programs have a cookie since 5.15 (0x50f00), and system
-- calls a wrapper since 4.17 (0x41100).
unfoldable pub number_by_version : ℕ → List ℕ → Option ℕ
number_by_version version name =
    if bytes_eq name (codes "LINUX_KERNEL_VERSION") then Some version
    else if bytes_eq name (codes "LINUX_HAS_BPF_COOKIE") then Some (since 331520 version)
    else if bytes_eq name (codes "LINUX_HAS_SYSCALL_WRAPPER") then Some (since 266496 version)
    else None

-- the same, where the kernel's version is known
abbrev pub number_of : Kernel → List ℕ → Option ℕ
number_of kernel name = option_and_then (λ version. number_by_version version name) kernel.version

abbrev pub number_value : Endianness → KconfigExtern → ℕ → Result (Option (List ℕ)) KconfigError
number_value order e number =
    if_ok (with_name e.name (loader_value order e.kind number)) (λ value. Ok (Some value))

abbrev pub value_by : Kernel → Endianness → KconfigExtern → Option ℕ
    → Result (Option (List ℕ)) KconfigError
value_by kernel order e None = configured_value order kernel.config.items e
value_by kernel order e (Some number) = number_value order e number

-- the value of an extern, or its fault
abbrev pub kernel_value : Kernel → Endianness → KconfigExtern
    → Result (Option (List ℕ)) KconfigError
kernel_value kernel order e = value_by kernel order e (number_of kernel e.name)

-- an extern without a value has no entry
abbrev pub value_entry : List ℕ → Result (Option (List ℕ)) KconfigError → List (List ℕ × List ℕ)
value_entry name (Ok (Some value)) = (name, value) ∷ []
value_entry name (Ok None) = []
value_entry name (Err _) = []

-- the values of externs by name
abbrev pub kernel_values : Kernel → Endianness → List KconfigExtern → KconfigValues
kernel_values kernel order externs =
    put_all empty (flat_map (λ e. value_entry e.name (kernel_value kernel order e)) externs)

-- an object with the map `.kconfig` of these externs and values, and with the symbols in it
abbrev pub defined_with : KconfigValues → List KconfigExtern → Object → Object
defined_with values externs o = record o {
  maps = with_kconfig_map values externs o.maps;
  symbol_table = symbols_defined externs o.symbol_table;
}

-- the kconfig externs of an object
abbrev pub externs_of : Object → List KconfigExtern
externs_of o = kconfig_externs o.btf o.symbol_table

-- an object with its kconfig externs defined by the values of a kernel
abbrev pub with_kconfig : Kernel → Object → Object
with_kconfig kernel o =
    defined_with (kernel_values kernel o.endianness (externs_of o)) (externs_of o) o
