-- File descriptors of maps in slots, and the offsets in maps' data that slots in a row add up.
use Rattle.std.specs.Prelude.{ℕ, ℤ, pos, negsuc, ◌^◌, ◌+ℤ◌, Bool, true, false, ◌||◌, if◌then◌else◌}
use Rattle.std.specs.Prelude.{nat_lt, List, [], ◌∷◌, map, Option, Some, None, Result, Ok, Err, ◌≡◌}
use Rattle.std.specs.Prelude.{◌<◌, ◌+◌, ◌*◌, ◌==◌, length, sum, unwrap_or, suc, option_map}
use Rattle.std.specs.FinMap.{FinMap, get, empty, insert}
use Rattle.std.specs.List.{flat_map}
use Rattle.std.specs.Ordering.{nat_cmp}
use denote.Ref.{Bor}
use Rattle.ebpf_base.specs.Faults.{or_else}
use Rattle.ebpf_base.specs.Maps.{put_all}
use Rattle.ebpf_elf.specs.declared.relocation.ElfRelocation.{ElfRelocation}
use Rattle.ebpf_model.specs.Symbols.{TextSections}
use Rattle.ebpf_model.specs.declared.function.Function.{Function}
use Rattle.ebpf_model.specs.declared.symbol.Symbol.{Symbol}
use Rattle.ebpf_parts.specs.Maps.{bytes_of, map_type_of, section_index_of, symbol_index_of}
use Rattle.ebpf_parts.specs.Slots.{pseudo_map_fd, pseudo_map_value, is_pseudo_call, dst_of}
use Rattle.ebpf_parts.specs.Slots.{registers}
use Rattle.ebpf_parts.specs.declared.insn.bpf_insn.{bpf_insn}
use Rattle.ebpf_parts.specs.declared.maps.either.Map.{Map}
use Rattle.ebpf_reloc.specs.Relocated.{slot_or_zeros, found_slot, SectionRelocations, edit_at}
use Rattle.ebpf_reloc.specs.Relocated.{first_refusal}
use Rattle.ebpf_reloc.specs.declared.edit.Edit.{Edit}
use Rattle.ebpf_reloc.specs.declared.edit.Edit.TheVariants.{Stay, Slot, Pair}
use Rattle.ebpf_reloc.specs.declared.maps.MapTables.{MapTables}
use Rattle.ebpf_reloc.specs.declared.maps.MapTarget.{MapTarget}
use Rattle.ebpf_reloc.specs.declared.edit.SlotFault.{SlotFault}
use Rattle.ebpf_reloc.specs.declared.edit.SlotFault.TheVariants.{UnknownSymbol, InvalidOffset}
use Rattle.ebpf_reloc.specs.declared.edit.SlotFault.TheVariants.{SectionNotFound}
use Rattle.ebpf_reloc.specs.declared.edit.SlotFault.TheVariants.{MapAddressOverflow}

-- a map that is handed in: its descriptor, and the map
abbrev pub GivenMap : Type 0
GivenMap = ℤ × Map

-- a map that is handed in as it is lent, behind its name, on which nothing depends
abbrev pub LentMap : Type 0
LentMap = Bor (List ℕ) × ℤ × Bor Map

abbrev pub given_map : LentMap → GivenMap
given_map lent = (lent.1, lent.2.now)

abbrev pub has_data : List ℕ → Bool
has_data [] = false
has_data (byte ∷ bytes) = true

-- what a slot takes from it
abbrev pub map_target : GivenMap → MapTarget
map_target given = record { descriptor = given.0; has_data = has_data (bytes_of given.1) }

-- the number of the type of arenas (BPF_MAP_TYPE_ARENA)
abbrev pub arena_type : ℕ
arena_type = 33

-- What a slot takes from the map that its symbol names. The data of an arena are in a section of
-- their own, and the arena's own symbol names the map alone (libbpf 1.5, libbpf.c:
-- bpf_program__record_reloc).
abbrev pub symbol_target : GivenMap → MapTarget
symbol_target given = record {
  descriptor = given.0;
  has_data = if map_type_of given.1 == arena_type then false else has_data (bytes_of given.1);
}

abbrev pub at_symbol : Option ℕ → MapTarget → List (ℕ × MapTarget)
at_symbol None target = []
at_symbol (Some symbol) target = (symbol, target) ∷ []

-- the maps that are handed in, by symbol and by section, the later over the earlier
unfoldable pub tables_of : List GivenMap → MapTables
tables_of given = record {
  by_symbol =
      put_all empty (flat_map (λ m. at_symbol (symbol_index_of m.1) (symbol_target m)) given);
  by_section = put_all empty (map (λ m. (section_index_of m.1, map_target m)) given);
}

-- what is read to write descriptors
pub record MapInputs : Type 0 where
  pub symbols : FinMap nat_cmp Symbol
  pub tables : MapTables
  pub text_sections : TextSections

-- the slot with another source register and immediate
abbrev pub with_source : bpf_insn → ℕ → ℤ → bpf_insn
with_source slot source imm = record slot { regs = registers source (dst_of slot); imm = imm }

abbrev pub fits_imm : ℤ → Bool
fits_imm (pos n) = nat_lt n (2 ^ 31)
fits_imm (negsuc n) = nat_lt n (2 ^ 31)

-- the sum of a slot's immediate and a symbol's address, where 32 signed bits hold it
abbrev pub value_offset : ℤ → ℕ → Option ℤ
value_offset imm address = if fits_imm (imm +ℤ pos address) then Some (imm +ℤ pos address) else None

abbrev pub value_edit : Option ℤ → bpf_insn → ℤ → Result Edit SlotFault
value_edit None slot descriptor = Err MapAddressOverflow
value_edit (Some next) slot descriptor =
    Ok (Pair (with_source slot pseudo_map_value descriptor) next)

-- A map with data is named by source 2, with the offset in its data in the slot after it
-- (RFC 9669, section 5.4: the address of a map's value); a map by source 1.
abbrev pub target_edit : MapTarget → ℕ → bpf_insn → Bool → Result Edit SlotFault
target_edit target address slot has_next =
    if target.has_data
    then (if has_next
    then value_edit (value_offset slot.imm address) slot target.descriptor
    else Err InvalidOffset)
    else Ok (Slot (with_source slot pseudo_map_fd target.descriptor))

abbrev pub found_edit : Option MapTarget → ℕ → ℕ → bpf_insn → Bool → Result Edit SlotFault
found_edit None section address slot has_next = Err (SectionNotFound section)
found_edit (Some target) section address slot has_next = target_edit target address slot has_next

-- the last map of the symbol, else the last of its section
abbrev pub map_target_at : MapTables → ℕ → ℕ → Option MapTarget
map_target_at tables symbol section =
    or_else (get tables.by_symbol symbol) (get tables.by_section section)

-- a call of a function and a symbol among the functions are no matter of maps
abbrev pub section_edit : MapInputs → ℕ → ElfRelocation → Symbol → bpf_insn → Bool
    → Result Edit SlotFault
section_edit inputs section relocation symbol slot has_next =
    if is_pseudo_call slot || inputs.text_sections section
    then Ok Stay
    else found_edit (map_target_at inputs.tables relocation.symbol_index section) section
    symbol.address slot has_next

abbrev pub edit_in_section : MapInputs → Option ℕ → ElfRelocation → Symbol → bpf_insn → Bool
    → Result Edit SlotFault
edit_in_section inputs None relocation symbol slot has_next = Ok Stay
edit_in_section inputs (Some section) relocation symbol slot has_next =
    section_edit inputs section relocation symbol slot has_next

abbrev pub map_edit_of_symbol : MapInputs → Option Symbol → ElfRelocation → bpf_insn → Bool
    → Result Edit SlotFault
map_edit_of_symbol inputs None relocation slot has_next = Err UnknownSymbol
map_edit_of_symbol inputs (Some symbol) relocation slot has_next =
    edit_in_section inputs symbol.section_index relocation symbol slot has_next

-- what becomes of a slot with a relocation
abbrev pub map_edit : MapInputs → ElfRelocation → bpf_insn → Bool → Result Edit SlotFault
map_edit inputs relocation slot has_next =
    map_edit_of_symbol inputs (get inputs.symbols relocation.symbol_index) relocation slot has_next

-- ---- the offsets in maps' data, slot by slot

abbrev pub address_in : Option MapTarget → ℕ → Option ℕ
address_in None address = None
address_in (Some target) address = if target.has_data then Some address else None

abbrev pub data_address_in_section : MapInputs → Option ℕ → ElfRelocation → Symbol → bpf_insn
    → Option ℕ
data_address_in_section inputs None relocation symbol slot = None
data_address_in_section inputs (Some section) relocation symbol slot =
    if is_pseudo_call slot || inputs.text_sections section
    then None
    else address_in (map_target_at inputs.tables relocation.symbol_index section) symbol.address

abbrev pub data_address_of_symbol : MapInputs → Option Symbol → ElfRelocation → bpf_insn → Option ℕ
data_address_of_symbol inputs None relocation slot = None
data_address_of_symbol inputs (Some symbol) relocation slot =
    data_address_in_section inputs symbol.section_index relocation symbol slot

abbrev pub data_address_by : MapInputs → Option ElfRelocation → bpf_insn → Option ℕ
data_address_by inputs None slot = None
data_address_by inputs (Some relocation) slot =
    data_address_of_symbol inputs (get inputs.symbols relocation.symbol_index) relocation slot

-- the symbol's address at slot k, where its relocation is to a map with data
abbrev pub data_address : MapInputs → SectionRelocations → Function → ℕ → Option ℕ
data_address inputs section_relocations f k =
    data_address_by inputs (get section_relocations (f.section_offset + 8 * k))
    (slot_or_zeros f.instructions k)

-- Where no relocation is refused, the slot after one that is relocated to a map with data is found
-- with the immediate that this one is found with plus the symbol's address, and the slot after
-- another as it was.
abbrev pub OffsetsAddUp : Type 0
OffsetsAddUp =
    (inputs : MapInputs) (section_relocations : SectionRelocations) (f : Function) (k : ℕ)
    → first_refusal (map_edit inputs) section_relocations f ≡ None → suc k < length f.instructions
    → (found_slot
    (edit_at (map_edit inputs) section_relocations f.section_offset
    (length f.instructions)) f.instructions (suc k)).imm
    ≡ unwrap_or (option_map (λ address. (found_slot (edit_at (map_edit inputs) section_relocations
    f.section_offset (length f.instructions)) f.instructions k).imm +ℤ pos address)
    (data_address inputs section_relocations f k)) (slot_or_zeros f.instructions (suc k)).imm

-- ---- what contracts of private functions name and no public one

-- the tables with one map more
abbrev pub with_symbol : FinMap nat_cmp MapTarget → Option ℕ → MapTarget → FinMap nat_cmp MapTarget
with_symbol table None target = table
with_symbol table (Some symbol) target = insert table symbol target

abbrev pub with_map_target : MapTables → ℤ → Map → MapTables
with_map_target tables descriptor m = record {
  by_symbol = with_symbol tables.by_symbol (symbol_index_of m) (symbol_target (descriptor, m));
  by_section = insert tables.by_section (section_index_of m) (map_target (descriptor, m));
}
