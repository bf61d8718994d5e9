-- Each number that a call answers, and each that a row has in place of none, is the number of the
-- header (include/ebpf.h, `enum ebpf_number`; `EBPF_NO_ATTACH_TYPE`).
use Rattle.std.specs.Prelude.{◌≡◌, refl}
use Rattle.capi_rows.specs.declared.codes.TheConstants as codes
use Rattle.capi_rows.specs.declared.loading.TheConstants as loading

pub done_number : codes.DONE ≡ 0
done_number = refl

pub room_number : codes.ROOM ≡ 1
room_number = refl

pub memory_number : codes.MEMORY ≡ 2
memory_number = refl

pub closed_number : codes.CLOSED ≡ 3
closed_number = refl

pub no_program_number : codes.NO_PROGRAM ≡ 4
no_program_number = refl

pub no_map_number : codes.NO_MAP ≡ 5
no_map_number = refl

pub bad_name_number : codes.BAD_NAME ≡ 6
bad_name_number = refl

pub bad_value_number : codes.BAD_VALUE ≡ 7
bad_value_number = refl

pub no_extern_number : codes.NO_EXTERN ≡ 8
no_extern_number = refl

pub wrong_length_number : codes.WRONG_LENGTH ≡ 9
wrong_length_number = refl

pub no_variable_number : codes.NO_VARIABLE ≡ 10
no_variable_number = refl

pub pass_made_number : codes.PASS_MADE ≡ 11
pass_made_number = refl

pub pass_order_number : codes.PASS_ORDER ≡ 12
pass_order_number = refl

-- 2^32 - 1
pub no_attach_type_number : loading.NO_ATTACH_TYPE ≡ 0xffffffff
no_attach_type_number = refl
