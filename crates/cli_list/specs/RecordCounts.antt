-- The number of CO-RE records of an object by what they ask, and of a type with which label.
--
-- A worked example: an object has three records. Two ask for the byte offset of a field of types
-- with the label `struct foo`, one for the size of that type. The group with the name `struct foo`
-- and the kind `ByteOffset` has the count 2, the one with the kind `TypeSize` 1, and no other group
-- is in the map.
use Rattle.std.specs.Prelude.{◌≡◌, ℕ, ◌-◌, ◌^◌, ◌==◌, min, count_by, Bool, ◌&&◌, List, []}
use Rattle.std.specs.Prelude.{Option, Some, None, if◌then◌else◌, string_bytes, length}
use Rattle.std.specs.BTreeMap.{BTreeMap, get}
use Rattle.std.specs.List.{flat_map}
use Rattle.std.specs.Ordering.{eq_by_cmp, ordering_then}
use Rattle.std.specs.declared.cmp.Ordering.{Ordering}
use Rattle.ebpf_base.specs.Maps.{text_cmp}
use Rattle.ebpf_btf.specs.TypeInfo.{TypeInfo}
use Rattle.ebpf_btf_ext.specs.ExtReading.{ExtInfo}
use Rattle.ebpf_btf_ext.specs.declared.relocation.Relocation.{Relocation}
use Rattle.ebpf_object.specs.declared.object.Object.{Object}
use Rattle.cli_common.specs.RecordKinds.{kind_of}
use Rattle.cli_common.specs.TypeLabels.{type_label}
use Rattle.cli_common.specs.contracts.kinds.KindOrd.TheImpl as kind_ord
use Rattle.cli_common.specs.declared.kinds.Kind.{Kind}
use Rattle.cli_list.specs.declared.records.RecordGroup.{RecordGroup}

-- the order of kinds, and of groups: by name, then by kind
abbrev pub kind_cmp : Kind → Kind → Ordering
kind_cmp = (kind_ord.ghosts).cmp

abbrev pub group_cmp : RecordGroup → RecordGroup → Ordering
group_cmp a b =
    ordering_then (text_cmp (string_bytes a.name) (string_bytes b.name)) (kind_cmp a.kind b.kind)

-- whether a record asks this: its kind is the group's, and the label of its type the group's name
unfoldable pub asks : TypeInfo → RecordGroup → Relocation → Bool
asks types group r =
    eq_by_cmp text_cmp (type_label types r.type_id) (string_bytes group.name)
    && eq_by_cmp kind_cmp (kind_of r.kind) group.kind

-- the records of sections, one after the other
abbrev pub section_records : List (ℕ × List Relocation) → List Relocation
section_records sections = flat_map (λ s. s.1) sections

abbrev pub records_of : Option ExtInfo → List Relocation
records_of None = []
records_of (Some ext) = section_records ext.relocations

-- those of an object
abbrev pub object_records : Object → List Relocation
object_records o = records_of o.btf_ext

-- the number of records in a group; without types no record has a label
abbrev pub group_count : Option TypeInfo → List Relocation → RecordGroup → ℕ
group_count None records group = 0
group_count (Some types) records group = count_by (asks types group) records

-- a number as it is counted: nothing for 0, and as far as 64 bits hold it
abbrev pub counted : ℕ → Option ℕ
counted n = if n == 0 then None else Some (min n (2 ^ 64 - 1))

-- each group has the number of its records, and a group without records is not in the map
abbrev pub AreCounts : Object → BTreeMap RecordGroup ℕ → Type 0
AreCounts o counts =
    (group : RecordGroup)
    → get group_cmp counts group ≡ counted (group_count o.btf (object_records o) group)

-- the number of all records; without types none counts
abbrev pub total_of : Option TypeInfo → List Relocation → ℕ
total_of None records = 0
total_of (Some _) records = min (length records) (2 ^ 64 - 1)

abbrev pub record_total : Object → ℕ
record_total o = total_of o.btf (object_records o)
