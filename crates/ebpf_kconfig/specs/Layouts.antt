-- The types for BPF_BTF_LOAD and the map `.kconfig` have one layout: each extern has the same
-- offset in the DATASEC `.kconfig` as in the map's value, and the DATASEC has the value's size.
--
-- Premises: no entry has a fault, no two externs have one name, and each name is UTF-8.
use Rattle.std.specs.FinMap.{FinMap}
use Rattle.std.specs.List.{AllByRecursion}
use Rattle.std.specs.Prelude.{◌≡◌, ⊤, ℕ, Bool, List, [], ◌∷◌, None, Ok, IfOk}
use Rattle.ebpf_base.specs.Maps.{text_cmp}
use Rattle.ebpf_btf.specs.Strings.{text_at}
use Rattle.ebpf_btf.specs.TypeInfo.{TypeInfo}
use Rattle.ebpf_btf.specs.declared.members.DataSecEntry.{DataSecEntry}
use Rattle.ebpf_btf_load.specs.SectionWords.{room_end, room_name, room_offset, rooms_end, rooms_in}
use Rattle.ebpf_btf_load.specs.SectionWords.{rooms_in_fault}
use Rattle.ebpf_btf_load.specs.declared.kconfig.ExternRoom.{ExternRoom}
use Rattle.ebpf_kconfig.specs.KconfigExterns.{externs_fault_in, externs_in, kconfig_variable}
use Rattle.ebpf_kconfig.specs.KconfigMaps.{extern_offsets, kconfig_value_size, laid_out}
use Rattle.ebpf_kconfig.specs.declared.externs.KconfigExtern.{KconfigExtern}

-- the offsets, by name, of externs in the DATASEC
abbrev pub room_offsets : List ℕ → ℕ → List ExternRoom → List (List ℕ × ℕ)
room_offsets strings end [] = []
room_offsets strings end (room ∷ rooms) =
    (room_name strings room.name_offset, room_offset end room)
    ∷ room_offsets strings (room_end end room) rooms

pub record LayoutsAgree (strings : List ℕ) (rooms : List ExternRoom) (externs : List KconfigExtern)
    : Type 0 where
  pub offsets : room_offsets strings 0 rooms ≡ extern_offsets 0 (laid_out externs)
  pub size : rooms_end 0 rooms ≡ kconfig_value_size externs

-- no two externs have the same name
abbrev pub HaveDistinctNames : List KconfigExtern → Type 0
HaveDistinctNames [] = ⊤
HaveDistinctNames (e ∷ es) = AllByRecursion (λ x. e.name ≡ x.name → ⊥) es × HaveDistinctNames es

-- the name of a variable is read as its bytes, which are UTF-8
abbrev pub HasPlainName : TypeInfo → ℕ → Type 0
HasPlainName types id =
    IfOk (kconfig_variable types id) (λ variable.
    text_at types.strings variable.0 ≡ Ok (room_name types.strings variable.0))

-- of the entries of a DATASEC
abbrev pub KconfigLayoutsAgree : Type 0
KconfigLayoutsAgree =
    (types : TypeInfo) (weak : FinMap text_cmp Bool) (rows : List DataSecEntry)
    → externs_fault_in types weak rows ≡ None
    → rooms_in_fault types rows ≡ None
    → AllByRecursion (λ row. HasPlainName types row.btf_type) rows
    → HaveDistinctNames (externs_in types weak rows)
    → LayoutsAgree types.strings (rooms_in types [] rows) (externs_in types weak rows)
