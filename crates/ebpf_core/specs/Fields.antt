-- What a relocation asks of a field: its byte offset, size, existence, sign or shifts, and the
-- bytes that an instruction loads of it (the kernel's tools/lib/bpf/relo_core.c,
-- bpf_core_calc_field_relo).
--
-- An example: a bit field `int a : 3` at bit 33. Its type has 4 bytes, and the aligned 4 bytes from
-- byte 4 on (bits 32 to 63) have all its bits, so these are its container: the byte offset is 4,
-- the byte size 4. In 64 bits, where the first bit is the lowest, the loaded number is shifted to
-- the left by 60 (64 - (33 - 32 + 3)) and then to the right by 61 (64 - 3). A bit field of 5 bits
-- at bit
-- 30 isn't inside the first 4 bytes: its container has 8. `proofs/Examples.antt` computes both.
use Rattle.std.specs.Prelude.{ℕ, ◌+◌, ◌*◌, ◌/◌, ◌==◌, ◌&&◌, ◌||◌, nat_le, nat_lt, Bool, List, []}
use Rattle.std.specs.Prelude.{◌∷◌, find, Option, None, option_and_then, Result, Ok, Err}
use Rattle.std.specs.Prelude.{if◌then◌else◌, ◌-◌, Some, slice_get}
use Rattle.ebpf_btf.specs.declared.error.BtfError.{BtfError}
use Rattle.ebpf_btf.specs.declared.error.BtfError.TheVariants.{InvalidTypeInfo}
use Rattle.ebpf_base.specs.Faults.{if_ok}
use Rattle.ebpf_btf.specs.Next.{if_some}
use Rattle.ebpf_btf.specs.declared.members.BtfMember.{BtfMember}
use Rattle.ebpf_btf_ext.specs.declared.relocation.RelocationKind.{RelocationKind}
use Rattle.ebpf_btf_ext.specs.declared.relocation.RelocationKind.TheVariants.{FieldByteOffset}
use Rattle.ebpf_btf_ext.specs.declared.relocation.RelocationKind.TheVariants.{FieldByteSize}
use Rattle.ebpf_btf_ext.specs.declared.relocation.RelocationKind.TheVariants.{FieldExists}
use Rattle.ebpf_btf_ext.specs.declared.relocation.RelocationKind.TheVariants.{FieldSigned}
use Rattle.ebpf_btf_ext.specs.declared.relocation.RelocationKind.TheVariants.{FieldLShift64}
use Rattle.ebpf_btf_ext.specs.declared.relocation.RelocationKind.TheVariants.{FieldRShift64}
use Rattle.ebpf_btf.specs.declared.types.BtfType.{BtfType}
use Rattle.ebpf_btf.specs.declared.types.BtfType.TheVariants.{Ptr, Int}
use Rattle.ebpf_btf.specs.Steps.{resolved, resolved_type, size_of, type_at}
use Rattle.ebpf_btf.specs.TypeInfo.{TypeInfo}
use Rattle.ebpf_btf.specs.Types.{bit_field_size, is_signed, members_of, size_word}
use Rattle.ebpf_core.specs.declared.places.FieldPlace.{FieldPlace}
use Rattle.ebpf_core.specs.declared.places.PlaceEnd.{PlaceEnd}
use Rattle.ebpf_core.specs.declared.places.PlaceEnd.TheVariants.{Element, Member}
use Rattle.ebpf_core.specs.declared.field.Extent.{Extent}
use Rattle.ebpf_core.specs.declared.field.FieldClass.{FieldClass}
use Rattle.ebpf_core.specs.declared.field.FieldClass.TheVariants.{Pointer, UnsignedInt, Other}
use Rattle.ebpf_core.specs.declared.field.FieldFault.{FieldFault}
use Rattle.ebpf_core.specs.declared.field.FieldFault.TheVariants.{OfElement, Types}
use Rattle.ebpf_core.specs.declared.field.FieldValue.{FieldValue}
use Rattle.ebpf_core.specs.declared.field.LoadedField.{LoadedField}

-- ---- the container of a bit field

-- the first byte of the aligned container of so many bytes that has the bit
abbrev pub container_start : ℕ → ℕ → ℕ
container_start bit size = bit / 8 / size * size

-- whether that container has all bits of a field, which are `width` from the bit on
abbrev pub container_holds : ℕ → ℕ → ℕ → Bool
container_holds bit width size = nat_le (bit + width) ((container_start bit size + size) * 8)

-- the size of a field's type, and that size doubled
abbrev pub doubled_sizes : ℕ → List ℕ
doubled_sizes size = size ∷ size * 2 ∷ size * 4 ∷ size * 8 ∷ []

-- whether one of these sizes is that of a container: a size is doubled while it is below 8
abbrev pub is_container : ℕ → ℕ → ℕ → ℕ → Bool
is_container bit width size doubled =
    (doubled == size || nat_lt doubled 16) && container_holds bit width doubled

-- the size of the smallest container that holds a field whose type has a size; none holds one of a
-- type of no bytes
unfoldable pub container : ℕ → ℕ → ℕ → Option ℕ
container bit width size =
    if size == 0 then None else find (is_container bit width size) (doubled_sizes size)

-- ---- extents: the first byte and the number of bytes that are loaded, and the number of the
-- field's bits

-- of a field that is no bit field
abbrev pub plain_extent : ℕ → ℕ → Extent
plain_extent bit size = record { start = bit / 8; size = size; width = size * 8 }

abbrev pub container_extent : ℕ → ℕ → ℕ → Extent
container_extent bit width size =
    record { start = container_start bit size; size = size; width = width }

-- of a bit field, where its type states a size
abbrev pub bit_field_extent : ℕ → ℕ → Option ℕ → Result Extent BtfError
bit_field_extent bit width stated =
    if_some (option_and_then (container bit width) stated)
    (λ size. Ok (container_extent bit width size)) (Err InvalidTypeInfo)

-- ---- what a record learns of a field (the kernel's tools/lib/bpf/relo_core.c,
-- bpf_core_calc_field_relo, and include/uapi/linux/bpf.h, enum bpf_core_relo_kind)

-- what a load goes by: whether the field's type is a pointer, or an integer without a sign
unfoldable pub class_of : BtfType → FieldClass
class_of (Ptr name id) = Pointer
class_of (Int name size bits) = if is_signed (Int name size bits) then Other else UnsignedInt
class_of _ = Other

abbrev pub loaded_field : BtfType → ℕ → LoadedField
loaded_field t size = record { size = size; class = class_of t }

-- by how much a number of so many bits is shifted, so that 64 remain
abbrev pub shift : ℕ → Result ℕ BtfError
shift bits = if nat_le bits 64 then Ok (64 - bits) else Err InvalidTypeInfo

-- an answer about types as one about a field
abbrev pub by_types : {X : Type 0} → Result X BtfError → Result X FieldFault
by_types (Ok x) = Ok x
by_types (Err e) = Err (Types e)

-- ---- a member

-- the extent of a member, and what is loaded where it is no bit field
abbrev pub member_extent : BtfType
    → BtfMember
    → ℕ
    → BtfType
    → Result ℕ BtfError
    → Result (Extent × Option LoadedField) BtfError
member_extent parent member bits t size =
    if bit_field_size parent member == 0
    then if_ok size (λ bytes. Ok (plain_extent bits bytes, Some (loaded_field t bytes)))
    else if_ok (bit_field_extent bits (bit_field_size parent member) (size_word t)) (λ extent.
    Ok (extent, None))

-- what a kind asks of a member: of the first byte, the loaded bytes, the sign, or by how much the
-- loaded bytes are shifted left and then right in 64 bits
abbrev pub member_number : RelocationKind → Bool → ℕ → Extent → Result ℕ BtfError
member_number FieldByteOffset signed bits extent = Ok extent.start
member_number FieldByteSize signed bits extent = Ok extent.size
member_number FieldSigned signed bits extent = Ok (if signed then 1 else 0)
member_number FieldLShift64 signed bits extent = shift (bits - extent.start * 8 + extent.width)
member_number FieldRShift64 signed bits extent = shift extent.width
member_number _ signed bits extent = Ok 1

-- what is loaded matters where the offset is asked
abbrev pub value_with : RelocationKind → ℕ → Option LoadedField → FieldValue
value_with FieldByteOffset number loaded = record { number = number; loaded = loaded }
value_with _ number loaded = record { number = number; loaded = None }

-- of a member of a type at a bit
unfoldable pub member_field_value : TypeInfo → RelocationKind → ℕ → BtfType → BtfMember
    → Result FieldValue BtfError
member_field_value info kind bits parent member =
    if_ok (resolved info.types member.btf_type) (λ id.
    if_ok (type_at info.types id) (λ t.
    if_ok (member_extent parent member bits t (size_of info.types id)) (λ place.
    if_ok (member_number kind (is_signed t) bits place.0) (λ number. Ok (value_with kind number
    place.1)))))

-- ---- an element

-- of an element only the first byte and the size are asked
abbrev pub element_value : TypeInfo → RelocationKind → ℕ → ℕ → Result FieldValue FieldFault
element_value info FieldByteOffset bits id =
    by_types
    (if_ok (size_of info.types id) (λ size.
    if_ok (resolved_type info.types id) (λ t.
    Ok (value_with FieldByteOffset (bits / 8) (Some (loaded_field t size))))))
element_value info FieldByteSize bits id =
    by_types (if_ok (size_of info.types id) (λ size. Ok (value_with FieldByteSize size None)))
element_value info _ bits id = Err OfElement

-- ---- a place

abbrev pub member_with_index : BtfType → ℕ → Option BtfMember
member_with_index t index = option_and_then (λ members. slice_get members index) (members_of t)

abbrev pub value_of_member : TypeInfo → RelocationKind → ℕ → ℕ → ℕ → Result FieldValue BtfError
value_of_member info kind bits parent index =
    if_ok (type_at info.types parent) (λ t.
    if_some (member_with_index t index) (member_field_value info kind bits t)
    (Err InvalidTypeInfo))

abbrev pub place_end_value : TypeInfo → RelocationKind → ℕ → PlaceEnd → Result FieldValue FieldFault
place_end_value info kind bits (Element id) = element_value info kind bits id
place_end_value info kind bits (Member parent index) =
    by_types (value_of_member info kind bits parent index)

-- what a kind asks of the field at a place; that it is there is a 1
unfoldable pub field_value : TypeInfo → RelocationKind → FieldPlace → Result FieldValue FieldFault
field_value info FieldExists place = Ok (value_with FieldExists 1 None)
field_value info kind place = place_end_value info kind place.bits place.end
