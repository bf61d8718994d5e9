-- Each constant of the crate is the number of the standard: the ELF-64 gABI, for BPF the kernel's
-- include/uapi/linux/elf-em.h and LLVM's BPF relocations.
use Rattle.std.specs.Prelude.{◌≡◌, List, [], ◌∷◌, refl}
use Rattle.ebpf_elf.specs.declared.constants.TheConstants as constants

-- gABI, 'ELF Identification': EI_MAG0 to EI_MAG3, EI_CLASS and EI_DATA

-- 0x7f, 'E', 'L', 'F'
pub magic_number : constants.MAGIC ≡ 0x7f ∷ 0x45 ∷ 0x4c ∷ 0x46 ∷ []
magic_number = refl

pub class_64_number : constants.ELFCLASS64 ≡ 2
class_64_number = refl

pub little_endian_number : constants.ELFDATA2LSB ≡ 1
little_endian_number = refl

pub big_endian_number : constants.ELFDATA2MSB ≡ 2
big_endian_number = refl

-- e_machine of eBPF (include/uapi/linux/elf-em.h)
pub bpf_machine_number : constants.EM_BPF ≡ 247
bpf_machine_number = refl

-- e_machine of no machine (gABI, 'ELF Header': EM_NONE)
pub no_machine_number : constants.EM_NONE ≡ 0
no_machine_number = refl

-- gABI, 'Sections', 'Special Section Indexes'

pub first_reserved_index : constants.SHN_LORESERVE ≡ 0xff00
first_reserved_index = refl

pub extended_index : constants.SHN_XINDEX ≡ 0xffff
extended_index = refl

-- gABI, 'Section Types, sh_type'

pub progbits_number : constants.SHT_PROGBITS ≡ 1
progbits_number = refl

pub symbol_table_number : constants.SHT_SYMTAB ≡ 2
symbol_table_number = refl

pub string_table_number : constants.SHT_STRTAB ≡ 3
string_table_number = refl

pub rela_number : constants.SHT_RELA ≡ 4
rela_number = refl

pub nobits_number : constants.SHT_NOBITS ≡ 8
nobits_number = refl

pub rel_number : constants.SHT_REL ≡ 9
rel_number = refl

-- gABI, 'Section Attribute Flags'

pub alloc_flag : constants.SHF_ALLOC ≡ 2
alloc_flag = refl

pub instructions_flag : constants.SHF_EXECINSTR ≡ 4
instructions_flag = refl

-- gABI, 'Symbol Table', 'Symbol Types'; STT_GNU_IFUNC is of the GNU gABI

pub no_type_number : constants.STT_NOTYPE ≡ 0
no_type_number = refl

pub object_number : constants.STT_OBJECT ≡ 1
object_number = refl

pub function_number : constants.STT_FUNC ≡ 2
function_number = refl

pub section_number : constants.STT_SECTION ≡ 3
section_number = refl

pub file_number : constants.STT_FILE ≡ 4
file_number = refl

pub common_number : constants.STT_COMMON ≡ 5
common_number = refl

pub thread_local_number : constants.STT_TLS ≡ 6
thread_local_number = refl

pub indirect_function_number : constants.STT_GNU_IFUNC ≡ 10
indirect_function_number = refl

-- gABI, 'Symbol Table', 'Symbol Binding'
pub weak_number : constants.STB_WEAK ≡ 2
weak_number = refl

-- LLVM, include/llvm/BinaryFormat/ELFRelocs/BPF.def; the kernel's
-- Documentation/bpf/llvm_reloc.rst

pub immediate_64_number : constants.R_BPF_64_64 ≡ 1
immediate_64_number = refl

pub call_number : constants.R_BPF_64_32 ≡ 10
call_number = refl
