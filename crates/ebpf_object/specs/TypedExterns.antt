-- Externs that need the kernel's types.
use Rattle.std.specs.Prelude.{Bool, not, ◌&&◌, Option, is_some}
use Rattle.std.specs.FinMap.{FinMap, entries}
use Rattle.std.specs.List.{list_any}
use Rattle.ebpf_base.specs.Maps.{text_cmp}
use Rattle.ebpf_btf.specs.TypeInfo.{TypeInfo}
use Rattle.ebpf_model.specs.declared.symbol.ExternDesc.{ExternDesc}

-- whether some extern passes a test
abbrev pub has_extern : (ExternDesc → Bool) → FinMap text_cmp ExternDesc → Bool
has_extern test externs = list_any (λ e. test e.1) (entries externs)

-- whether there is type information, and an extern whose type is compared
abbrev pub has_typed : Option TypeInfo → FinMap text_cmp ExternDesc → Bool
has_typed btf externs = is_some btf && has_extern (λ x. x.is_typed) externs

-- whether there is type information, and an extern whose type is compared and which may not stay
-- unresolved
abbrev pub has_strong_typed : Option TypeInfo → FinMap text_cmp ExternDesc → Bool
has_strong_typed btf externs = is_some btf && has_extern (λ x. x.is_typed && not x.is_weak) externs
