-- The names in string tables: the bytes from an offset up to the next zero byte (ELF-64 gABI,
-- 'String Table').
use Rattle.std.specs.Prelude.{ℕ, Bool, false, ◌&&◌, ◌||◌, List, [], take, drop, Option, Some, None}
use Rattle.std.specs.Prelude.{nat_lt, ◌==◌, if◌then◌else◌, option_map}
use Rattle.std.specs.List.{position}
use Rattle.std.specs.Str.{is_utf8, bytes_eq}
use Rattle.ebpf_elf.specs.declared.constants.TheConstants.{SHT_STRTAB}
use Rattle.ebpf_elf.specs.Headers.{section, section_count, e_shstrndx, is_inside, range_of}

-- the index of a section of kind STRTAB whose range is inside the file
unfoldable pub is_string_table : List ℕ → ℕ → Bool
is_string_table bytes i =
    nat_lt i (section_count bytes) && (section bytes i).sh_type == SHT_STRTAB
    && is_inside bytes (section bytes i).sh_offset (section bytes i).sh_size

-- the string table of the section names
unfoldable pub section_names : List ℕ → List ℕ
section_names bytes =
    if section_count bytes == 0 || e_shstrndx bytes == 0
    then []
    else range_of bytes (section bytes (e_shstrndx bytes))

-- the bytes up to the first zero byte
abbrev pub bytes_before_zero : List ℕ → Option (List ℕ)
bytes_before_zero bytes = option_map (λ n. take n bytes) (position (λ b. b == 0) bytes)

-- The bytes of a name, by its index: from that offset of the table up to the next zero byte.
-- Number 0 is the empty name, also where the table is empty.
unfoldable pub name_bytes : List ℕ → ℕ → Option (List ℕ)
name_bytes table index = if index == 0 then Some [] else bytes_before_zero (drop index table)

-- a text has to be UTF-8
abbrev pub utf8_text : Option (List ℕ) → Option (List ℕ)
utf8_text None = None
utf8_text (Some text) = if is_utf8 text then Some text else None

-- the name with an index; none where the name cannot be read
unfoldable pub string_table_name : List ℕ → ℕ → Option (List ℕ)
string_table_name table index = utf8_text (name_bytes table index)

-- whether the name can be read and is this text
abbrev pub is_name : List ℕ → Option (List ℕ) → Bool
is_name text None = false
is_name text (Some name) = bytes_eq name text
