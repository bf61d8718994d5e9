-- What the slots of functions refer to.
use Rattle.std.specs.Prelude.{ℕ, ◌+◌, ◌*◌, ◌^◌, ◌==◌, ℤ, pos, ◌+ℤ◌, ◌*ℤ◌, unsigned_abs, Bool, true}
use Rattle.std.specs.Prelude.{false, not, ◌&&◌, ◌||◌, if◌then◌else◌, Option, Some, None, unwrap_or}
use Rattle.std.specs.FinMap.{FinMap, get}
use Rattle.std.specs.Int.{int_rem_euclid}
use Rattle.std.specs.Ordering.{nat_cmp}
use Rattle.ebpf_base.specs.Maps.{key_cmp}
use Rattle.ebpf_elf.specs.declared.relocation.ElfRelocation.{ElfRelocation}
use Rattle.ebpf_elf.specs.declared.symbol.SymbolKind.{SymbolKind}
use Rattle.ebpf_elf.specs.declared.symbol.SymbolKind.TheVariants.{Text, Section}
use Rattle.ebpf_parts.specs.declared.insn.bpf_insn.{bpf_insn}
use Rattle.ebpf_parts.specs.Slots.{is_pseudo_call}
use Rattle.ebpf_model.specs.declared.function.Function.{Function}
use Rattle.ebpf_reloc.specs.declared.linkable.Linkable.{Linkable}
use Rattle.ebpf_reloc.specs.declared.slot_target.SlotTarget.{SlotTarget}
use Rattle.ebpf_reloc.specs.declared.slot_target.SlotTarget.TheVariants.{Absent, Unsupported, At}
use Rattle.ebpf_model.specs.declared.symbol.Symbol.{Symbol}
use Rattle.ebpf_model.specs.Symbols.{FunctionKey, is_extern, TextSections, text_sections_in}
use Rattle.ebpf_model.specs.Walks.{found_at}

-- what is read of an object to tell what its slots and its functions refer to; `callbacks` has the
-- key of a function's exception callback by the function's key
pub record LinkableValue : Type 0 where
  pub functions : FinMap key_cmp Function
  pub symbols : FinMap nat_cmp Symbol
  pub relocations : FinMap nat_cmp (FinMap nat_cmp ElfRelocation)
  pub text_sections : TextSections
  pub callbacks : FinMap key_cmp FunctionKey

abbrev pub read : Linkable → LinkableValue
read l = record {
  functions = l.functions.now;
  symbols = l.symbols.now;
  relocations = l.relocations.now;
  text_sections = text_sections_in l.text_sections.now;
  callbacks = l.callbacks.now;
}

-- a whole number modulo 2 ^ 64
unfoldable pub modulo : ℤ → ℕ
modulo z = unsigned_abs (int_rem_euclid z (pos (2 ^ 64)))

abbrev pub names_function : SymbolKind → Bool
names_function Text = true
names_function _ = false

abbrev pub is_text_section : TextSections → Option ℕ → Bool
is_text_section text_sections None = false
is_text_section text_sections (Some section) = text_sections section

-- a symbol that says what a slot refers to: a function's, or one in a section of functions, but no
-- extern
abbrev pub is_usable : TextSections → Symbol → Bool
is_usable text_sections symbol =
    not (is_extern symbol)
    && (names_function symbol.kind || is_text_section text_sections symbol.section_index)

-- The address that a relocation gives (LLVM's R_BPF_64_32 of 32 bits counts slots from the next one
-- on,
-- R_BPF_64_64 of 64 bits counts bytes); none but these two refers into a section.
abbrev pub section_symbol_address : ℕ → ℕ → ℤ → Option ℕ
section_symbol_address size address imm =
    if size == 32 then Some (modulo (pos address +ℤ (imm +ℤ pos 1) *ℤ pos 8))
    else (if size == 64 then Some (modulo (pos address +ℤ imm)) else None)

abbrev pub reference_address_by : SymbolKind → ℕ → ℕ → ℤ → Option ℕ
reference_address_by Text size address imm = Some address
reference_address_by Section size address imm = section_symbol_address size address imm
reference_address_by _ size address imm = None

abbrev pub reference_address : Symbol → ℕ → ℤ → Option ℕ
reference_address symbol size imm = reference_address_by symbol.kind size symbol.address imm

abbrev pub target_in_section : ℕ → Option ℕ → Option ℕ → SlotTarget
target_in_section index (Some section) (Some address) = At section address
target_in_section index (Some section) None = Unsupported index
target_in_section index None address = Unsupported index

-- what a relocation of this size to a symbol refers to, in a slot with this immediate
abbrev pub symbol_target : Symbol → ℕ → ℤ → SlotTarget
symbol_target symbol size imm =
    target_in_section symbol.index symbol.section_index (reference_address symbol size imm)

abbrev pub usable_target : Bool → SlotTarget → Option SlotTarget
usable_target true slot_target = Some slot_target
usable_target false slot_target = None

abbrev pub relocation_target : TextSections → ElfRelocation → ℤ → Option Symbol → Option SlotTarget
relocation_target text_sections relocation imm None = None
relocation_target text_sections relocation imm (Some symbol) =
    usable_target (is_usable text_sections symbol) (symbol_target symbol relocation.size imm)

-- what a relocation refers to, if it is usable: its symbol is there, and says what
abbrev pub relocated_target : LinkableValue → ℤ → Option ElfRelocation → Option SlotTarget
relocated_target parts imm None = None
relocated_target parts imm (Some relocation) =
    relocation_target parts.text_sections relocation imm (get parts.symbols relocation.symbol_index)

-- the relocation of slot i of a function
abbrev pub relocation_of : LinkableValue → Function → ℕ → Option ElfRelocation
relocation_of parts f i =
    found_at (get parts.relocations f.section_index.0) (f.section_offset + 8 * i)

-- what slot i of a function refers to by itself: a pseudo call counts slots from the next one on
abbrev pub own_target : Function → ℕ → bpf_insn → SlotTarget
own_target f i slot =
    if is_pseudo_call slot
    then At f.section_index.0
    (modulo (pos (f.section_offset + 8 * i) +ℤ (slot.imm +ℤ pos 1) *ℤ pos 8))
    else Absent

-- what slot i of a function refers to: by its relocation where that is usable, else by itself
abbrev pub slot_target_of : LinkableValue → Function → ℕ → bpf_insn → SlotTarget
slot_target_of parts f i slot =
    unwrap_or (relocated_target parts slot.imm (relocation_of parts f i)) (own_target f i slot)

abbrev pub target_at : Option FunctionKey → SlotTarget
target_at None = Absent
target_at (Some key) = At key.0 key.1

-- what a function refers to behind its last slot: its exception callback, if it has one
abbrev pub callback_target : LinkableValue → Function → SlotTarget
callback_target parts f = target_at (get parts.callbacks (f.section_index.0, f.address))
