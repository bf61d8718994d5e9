-- The keys of functions, the symbols of externs, and the sections that have functions.
use Rattle.std.specs.Prelude.{ℕ, Bool, true, false, not, ◌&&◌, is_none, nat_eq}
use Rattle.std.specs.HashSet.{HashSet, contains}
use Rattle.std.specs.declared.hash.FoldHasher.{FoldHasher}
use Rattle.std.specs.declared.hash.BuildHasherDefault.{BuildHasherDefault}
use Rattle.ebpf_elf.specs.declared.symbol.SymbolKind.{SymbolKind}
use Rattle.ebpf_elf.specs.declared.symbol.SymbolKind.TheVariants.{Unknown}
use Rattle.ebpf_model.specs.declared.symbol.Symbol.{Symbol}

-- the key of a function: the index of its section, and its address in it
abbrev pub FunctionKey : Type 0
FunctionKey = ℕ × ℕ

-- the index of its section
abbrev pub key_section : FunctionKey → ℕ
key_section key = key.0

-- its address there, in bytes
abbrev pub key_address : FunctionKey → ℕ
key_address key = key.1

-- ---- which symbols name something that the file does not have

-- a symbol without a type (ELF-64 gABI, 'Symbol Table': STT_NOTYPE)
abbrev pub is_unknown : SymbolKind → Bool
is_unknown Unknown = true
is_unknown _ = false

-- an extern: without a section, a definition and a type
abbrev pub is_extern : Symbol → Bool
is_extern symbol =
    is_none symbol.section_index && not symbol.is_definition && is_unknown symbol.kind

-- ---- the sections that hold functions

-- which sections hold functions, by their indexes
abbrev pub TextSections : Type 0
TextSections = ℕ → Bool

-- those that a set has
abbrev pub text_sections_in : HashSet ℕ (BuildHasherDefault FoldHasher) → TextSections
text_sections_in numbers section = contains nat_eq numbers section
