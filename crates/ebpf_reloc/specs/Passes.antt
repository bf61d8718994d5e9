-- The kernel's ids and addresses in slots, and the passes over the functions of an object.
use Rattle.std.specs.FinMap.{FinMap, get}
use Rattle.std.specs.Int.{w32, cast_signed}
use Rattle.std.specs.Iterator.{Drains}
use Rattle.std.specs.Ordering.{nat_cmp}
use Rattle.std.specs.Prelude.{ℕ, pos, ◌+◌, ◌/◌, ◌%◌, ◌^◌, ◌==◌, Bool, if◌then◌else◌, [], Option}
use Rattle.std.specs.Prelude.{Some, None, unwrap_or, Result, Ok, Err, List, map}
use Rattle.ebpf_base.specs.Maps.{text_cmp, key_cmp}
use Rattle.ebpf_elf.specs.declared.relocation.ElfRelocation.{ElfRelocation}
use Rattle.ebpf_model.specs.Symbols.{is_extern, TextSections, text_sections_in}
use Rattle.ebpf_model.specs.declared.error.EbpfRelocationError.{EbpfRelocationError}
use Rattle.ebpf_model.specs.declared.symbol.ExternDesc.{ExternDesc}
use Rattle.ebpf_model.specs.declared.function.Function.{Function}
use Rattle.ebpf_model.specs.declared.symbol.Symbol.{Symbol}
use Rattle.ebpf_parts.specs.Slots.{absent_kfunc, call, ld_imm64, pseudo_btf_id, pseudo_kfunc_call}
use Rattle.ebpf_parts.specs.Slots.{dst_of, registers}
use Rattle.ebpf_parts.specs.declared.insn.bpf_insn.{bpf_insn}
use Rattle.ebpf_reloc.specs.Maps.{with_source, GivenMap, LentMap, given_map, MapInputs, tables_of}
use Rattle.ebpf_reloc.specs.Maps.{map_edit}
use Rattle.ebpf_reloc.specs.Relocated.{Relocations, relocated, first_fault, EditRule}
use Rattle.ebpf_reloc.specs.declared.edit.Edit.{Edit}
use Rattle.ebpf_reloc.specs.declared.edit.Edit.TheVariants.{Stay, Slot, Pair}
use Rattle.ebpf_reloc.specs.declared.edit.Rule.{Rule}
use Rattle.ebpf_reloc.specs.declared.edit.Rule.TheVariants.{Maps, Externs}
use Rattle.ebpf_reloc.specs.declared.edit.SlotFault.{SlotFault}
use Rattle.ebpf_reloc.specs.declared.edit.SlotFault.TheVariants.{UnknownSymbol, InvalidOffset}
use Rattle.ebpf_reloc.specs.declared.edit.SlotFault.TheVariants.{ExternNotFound, UnresolvableSymbol}
use Rattle.ebpf_reloc.specs.declared.externs.ExternRule.{ExternRule}
use Rattle.ebpf_reloc.specs.declared.externs.ExternLoad.{ExternLoad}
use Rattle.ebpf_reloc.specs.declared.externs.ExternLoad.TheVariants.{Id, Address}
use Rattle.ebpf_reloc.specs.declared.maps.MapRule.{MapRule}

-- ---- the kernel's ids and addresses in slots

-- what is read to write externs
pub record ExternInputs : Type 0 where
  pub symbols : FinMap nat_cmp Symbol
  pub externs : FinMap text_cmp ExternDesc

-- a call of a kernel function by its id: source 2 (the kernel's BPF_PSEUDO_KFUNC_CALL)
abbrev pub kernel_call : bpf_insn → ℕ → bpf_insn
kernel_call slot id =
    record slot
    { regs = registers pseudo_kfunc_call (dst_of slot); off = pos 0; imm = cast_signed w32 id }

-- a call that a verifier refuses where it is reached, by a number that tells the symbol
abbrev pub absent_call : bpf_insn → ℕ → bpf_insn
absent_call slot symbol =
    record slot { regs = 0; off = pos 0; imm = cast_signed w32 ((absent_kfunc + symbol) % 2 ^ 32) }

abbrev pub resolved_call : Option ℕ → bpf_insn → Result Edit SlotFault
resolved_call None slot = Err UnresolvableSymbol
resolved_call (Some id) slot = Ok (Slot (kernel_call slot id))

-- a call: of a function with its id where it is resolved, of nothing where it is weak
abbrev pub call_edit : ExternDesc → ℕ → bpf_insn → Result Edit SlotFault
call_edit desc symbol slot =
    if desc.is_resolved then resolved_call desc.kernel_btf_id slot
    else (if desc.is_weak then Ok (Slot (absent_call slot symbol)) else Err UnresolvableSymbol)

abbrev pub address_without_id : Option ℕ → Bool → Option ExternLoad
address_without_id (Some address) weak = Some (Address address)
address_without_id None weak = if weak then Some (Address 0) else None

abbrev pub load_by : Option ℕ → Option ℕ → Bool → Option ExternLoad
load_by (Some id) address weak = Some (Id id)
load_by None address weak = address_without_id address weak

-- what a load takes from an extern: its id, else its address, else 0 where it is weak
abbrev pub load_of : ExternDesc → Option ExternLoad
load_of desc = load_by desc.kernel_btf_id desc.ksym_addr desc.is_weak

-- An id has source 3 (the kernel's BPF_PSEUDO_BTF_ID) and 0 in the slot after it; an address has
-- source 0, its low half in the slot and its high half in the one after it.
abbrev pub edit_of_load : ExternLoad → bpf_insn → Edit
edit_of_load (Id id) slot = Pair (with_source slot pseudo_btf_id (cast_signed w32 id)) (pos 0)
edit_of_load (Address address) slot =
    Pair (with_source slot 0 (cast_signed w32 (address % 2 ^ 32)))
    (cast_signed w32 (address / 2 ^ 32))

abbrev pub load_edit : Option ExternLoad → bpf_insn → Bool → Result Edit SlotFault
load_edit None slot has_next = Err UnresolvableSymbol
load_edit (Some load) slot has_next =
    if has_next then Ok (edit_of_load load slot) else Err InvalidOffset

-- a call has code 0x85, a load of 64 bits 0x18 (RFC 9669, sections 4.3 and 5.4)
abbrev pub declared_extern_edit : Option ExternDesc → ℕ → bpf_insn → Bool → Result Edit SlotFault
declared_extern_edit None symbol slot has_next = Err ExternNotFound
declared_extern_edit (Some desc) symbol slot has_next =
    if slot.code == call then call_edit desc symbol slot
    else (if slot.code == ld_imm64
    then load_edit (load_of desc) slot has_next
    else Err InvalidOffset)

-- a symbol that is no extern is no matter of externs
abbrev pub extern_edit_of_symbol : ExternInputs → Option Symbol → ElfRelocation → bpf_insn → Bool
    → Result Edit SlotFault
extern_edit_of_symbol inputs None relocation slot has_next = Err UnknownSymbol
extern_edit_of_symbol inputs (Some symbol) relocation slot has_next =
    if is_extern symbol
    then declared_extern_edit (get inputs.externs (unwrap_or symbol.name []))
    relocation.symbol_index slot has_next
    else Ok Stay

-- what becomes of a slot with a relocation
abbrev pub extern_edit : ExternInputs → ElfRelocation → bpf_insn → Bool → Result Edit SlotFault
extern_edit inputs relocation slot has_next =
    extern_edit_of_symbol inputs (get inputs.symbols relocation.symbol_index) relocation slot
    has_next

-- ---- the passes over the functions of an object

-- what holds of the maps that an iterator gives until it ends
abbrev pub HoldsOfGivenMaps : {I : Type 0} → (I → Option LentMap → I → Type 0) → I
    → (List GivenMap → Type 0) → Type 0
HoldsOfGivenMaps next_gives maps P =
    (lent : List LentMap) × Drains next_gives maps lent × P (map given_map lent)

abbrev pub inputs_of : FinMap nat_cmp Symbol → TextSections → List GivenMap → MapInputs
inputs_of symbols text_sections given =
    record { symbols = symbols; tables = tables_of given; text_sections = text_sections }

-- a function with the descriptors of maps in its slots
abbrev pub with_map_fds : FinMap nat_cmp Symbol → TextSections → List GivenMap → Relocations
    → Function → Function
with_map_fds symbols text_sections given relocations f =
    relocated (map_edit (inputs_of symbols text_sections given)) relocations f

-- the first relocation whose descriptor can't be written
abbrev pub map_fault : FinMap nat_cmp Symbol → TextSections → List GivenMap → Relocations
    → FinMap key_cmp Function → Option EbpfRelocationError
map_fault symbols text_sections given relocations functions =
    first_fault (map_edit (inputs_of symbols text_sections given)) symbols relocations functions

-- a function with the ids and addresses of externs in its slots
abbrev pub externs_written : FinMap nat_cmp Symbol → FinMap text_cmp ExternDesc → Relocations
    → Function → Function
externs_written symbols externs relocations f =
    relocated (extern_edit (record { symbols = symbols; externs = externs })) relocations f

-- the first relocation whose extern can't be written
abbrev pub extern_fault : FinMap nat_cmp Symbol → FinMap text_cmp ExternDesc → Relocations
    → FinMap key_cmp Function → Option EbpfRelocationError
extern_fault symbols externs relocations functions =
    first_fault (extern_edit (record { symbols = symbols; externs = externs })) symbols relocations
    functions

-- ---- what the passes make of relocations

abbrev pub map_inputs : MapRule → MapInputs
map_inputs rule =
    record {
      symbols = rule.symbols.now;
      tables = rule.tables.now;
      text_sections = text_sections_in rule.text_sections.now;
    }

abbrev pub extern_inputs : ExternRule → ExternInputs
extern_inputs rule = record { symbols = rule.symbols.now; externs = rule.externs.now }

-- the edits of a rule
abbrev pub rule_edit_of : Rule → EditRule
rule_edit_of (Maps rule) = map_edit (map_inputs rule)
rule_edit_of (Externs rule) = extern_edit (extern_inputs rule)

-- the symbols that it reads
abbrev pub rule_symbols : Rule → FinMap nat_cmp Symbol
rule_symbols (Maps rule) = rule.symbols.now
rule_symbols (Externs rule) = rule.symbols.now
