-- An object as it is judged: externs that the kernel's types alone don't give count as found.
use Rattle.std.specs.Prelude.{ℕ, true, false, List, [], Option, Some, None, map, if◌then◌else◌}
use Rattle.std.specs.FinMap.{FinMap, empty, entries}
use Rattle.ebpf_base.specs.Maps.{mapped_entries, put_all, text_cmp}
use Rattle.ebpf_kconfig.specs.KconfigExterns.{kconfig_externs, kconfig_externs_fault}
use Rattle.ebpf_kconfig.specs.declared.error.KconfigError.{KconfigError}
use Rattle.ebpf_kconfig.specs.declared.externs.KconfigExtern.{KconfigExtern}
use Rattle.ebpf_model.specs.declared.symbol.ExternDesc.{ExternDesc}
use Rattle.ebpf_object.specs.declared.object.Object.{Object}

-- an extern that the kernel has, as an id that says nothing
abbrev pub found : ExternDesc → ExternDesc
found x = record x { kernel_btf_id = Some 1; is_resolved = true }

-- an extern with a type is looked up in the kernel's types, any other counts as found
abbrev pub found_without_type : ExternDesc → ExternDesc
found_without_type x = if x.is_typed then x else found x

-- a kconfig extern counts as found
abbrev pub found_setting : ExternDesc
found_setting = record {
  btf_id = 0;
  is_typed = false;
  is_weak = false;
  kernel_btf_id = Some 1;
  ksym_addr = None;
  is_resolved = true;
}

-- the kconfig externs of an object, none where they have a fault
abbrev pub without_fault : Option KconfigError → List KconfigExtern → List KconfigExtern
without_fault None externs = externs
without_fault (Some e) externs = []

abbrev pub settings : Object → List KconfigExtern
settings o =
    without_fault (kconfig_externs_fault o.btf o.symbol_table)
    (kconfig_externs o.btf o.symbol_table)

abbrev pub settings_found : List KconfigExtern → List (List ℕ × ExternDesc)
settings_found externs = map (λ x. (x.name, found_setting)) externs

-- the externs that are judged
abbrev pub assumed_externs : Object → FinMap text_cmp ExternDesc
assumed_externs o =
    put_all (put_all empty (mapped_entries found_without_type (entries o.externs)))
    (settings_found (settings o))

abbrev pub assumed : Object → Object
assumed o = record o { externs = assumed_externs o }
