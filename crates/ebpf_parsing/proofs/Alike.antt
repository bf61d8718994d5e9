-- A little-endian file that strict parsing takes, the broad one reads alike.
use Rattle.std.proofs.Common.{◌≡◌, ◌≢◌, ℕ, suc, ◌+◌, ◌-◌, Bool, true, false, List, [], ◌∷◌, ◌++◌, length, map, filter, take, Option, Some, None, option_map, refl, sym, ap, ◌∙◌, arith}
use Rattle.std.proofs.lemmas.Bool.{or_parts, not-false}
use Rattle.std.specs.FinMap.{empty, get}
use Rattle.std.specs.List.{before_first, flat_map, list_any, position_or_len, AllByRecursion}
use Rattle.std.specs.Prelude.{◌==◌, ◌&&◌, ◌||◌, not, nat_lt, if◌then◌else◌}
use Rattle.ebpf_base.proofs.Faults.{both_None}
use Rattle.ebpf_base.proofs.Mapped.{later_text_stands}
use Rattle.ebpf_base.proofs.TextMaps.{text_exact}
use Rattle.ebpf_base.specs.Faults.{or_else, first_of, first_in, first_some}
use Rattle.ebpf_base.specs.Maps.{put_all, text_cmp}
use Rattle.ebpf_base.specs.declared.endianness.Endianness.TheVariants.{Little}
use Rattle.ebpf_btf.specs.TypeInfo.{TypeInfo}
use Rattle.ebpf_btf_decls.proofs.BothModes.{lenient_declares_as_strict}
use Rattle.ebpf_btf_decls.specs.Maps.{btf_maps_fault, types_in_mode}
use Rattle.ebpf_elf.specs.Faults.{faults}
use Rattle.ebpf_elf.specs.Headers.{e_machine, ei_data}
use Rattle.ebpf_elf.specs.Sections.{SectionOf, sections}
use Rattle.ebpf_model.specs.declared.function.Program.{Program}
use Rattle.ebpf_parts.proofs.NamesRead.{lenient_keeps_kinds, no_name_says_other}
use Rattle.ebpf_parts.specs.ProgramTypes.{no_section, section_as, section_fault_as}
use Rattle.ebpf_parts.specs.Sections.{SectionValue, section_of, section_with, section_fault}
use Rattle.ebpf_parts.specs.declared.error.ParseError.{ParseError}
use Rattle.ebpf_parts.specs.declared.error.ParseError.TheVariants.{BigEndianCode, ElfError, NoSymbolsForSection, OtherMachine}
use Rattle.ebpf_parts.specs.declared.program_section.ProgramSection.{ProgramSection}
use Rattle.ebpf_parts.specs.declared.program_section.ProgramSection.TheVariants.{Other}
use Rattle.ebpf_parts.specs.declared.parse_mode.ParseMode.TheVariants.{Strict, Lenient}
use Rattle.ebpf_parts.specs.declared.section.EbpfSectionKind.{EbpfSectionKind}
use Rattle.ebpf_parts.specs.declared.section.EbpfSectionKind.TheVariants.{Maps, BtfMaps, Data, Rodata, Bss, Text, Program as Programs}
use Rattle.ebpf_parsing.specs.FileContents.{map_entries, program_entries, maps_as, programs_as, read_fault, sections_fault, own_symbols}
use Rattle.ebpf_parsing.specs.FileTypes.{types_of_file, file_externs_fault, file_types_fault}
use Rattle.ebpf_parsing.proofs.KnownKinds.{types_alike}
use Rattle.ebpf_parsing.specs.Laws.{ModesAgree, StrictKindsAreNamed}
use Rattle.ebpf_parsing.specs.Maps.{btf_defined_maps, btf_defined_maps_fault}
use Rattle.ebpf_parsing.specs.OfSection.{maps_by, maps_in, programs_by, programs_in, fault_by, fault_in, program_section_faults}
use Rattle.ebpf_sections.specs.LicenseAndVersion.{has_zero, front_of, strict_text_fault, license_text, license_text_fault, license_in, license_fault_in, license_as, license_fault_as, kernel_version_of, version_fault}
use Rattle.ebpf_sections.specs.Programs.{program_of, programs_of, programs_fault, is_program_symbol}
use Rattle.ebpf_sections.specs.Sections.{is_big, is_for_ebpf, has_code, has_big_endian_code, machine_fault_as, order_fault_as, other_sections, object_sections}
use Rattle.ebpf_sections.specs.Symbols.{file_symbols, symbols_fault, symbol_indices_by_name, SymbolValue, section_symbols}
use Rattle.ebpf_sections.proofs.Entries.{stands, all_flat_map}

-- ---- the license

some_never : {X : Type 0} (b : Bool) (x : X) (o : Option X) → (if b then Some x else o) ≡ None → (b ≡ false) × (o ≡ None)
some_never true x o none = absurd (cc)
some_never false x o none = (refl, none)

only : (t : Bool) → (t || false) ≡ true → t ≡ true
only true some = refl
only false some = absurd (cc)

later_of : (t more : Bool) → t ≡ false → (t || more) ≡ true → more ≡ true
later_of true more no_first some = absurd (cc)
later_of false more no_first some = some

-- the front of two bytes and more
front_step : (b c : ℕ) (bytes : List ℕ) → front_of (b ∷ c ∷ bytes) ≡ b ∷ front_of (c ∷ bytes)
front_step b c bytes = let on : length (b ∷ c ∷ bytes) - 1 ≡ suc (length (c ∷ bytes) - 1) = omega arith in ap (λ n. take n (b ∷ c ∷ bytes)) on

-- what stands before the first zero, where that is the last byte
before_last : (bytes : List ℕ) → has_zero bytes ≡ true → has_zero (front_of bytes) ≡ false → before_first (λ b. b == 0) bytes ≡ front_of bytes
before_last [] some none = absurd (cc)
before_last (b ∷ []) some none = let here : (b == 0) ≡ true = only (b == 0) some in rw here refl
before_last (b ∷ c ∷ bytes) some none =
    let before : (b == 0 || has_zero (front_of (c ∷ bytes))) ≡ false = ap has_zero (sym (front_step b c bytes)) ∙ none in
    let parts = or_parts (b == 0) (has_zero (front_of (c ∷ bytes))) before in
    let later : has_zero (c ∷ bytes) ≡ true = later_of (b == 0) (has_zero (c ∷ bytes)) parts.0 some in
    let on : 1 + position_or_len (λ b. b == 0) (c ∷ bytes) ≡ suc (position_or_len (λ b. b == 0) (c ∷ bytes)) = omega arith in
    let step : before_first (λ b. b == 0) (b ∷ c ∷ bytes) ≡ b ∷ front_of (c ∷ bytes) = rw (parts.0, on) (ap (λ rest. b ∷ rest) (before_last (c ∷ bytes) later parts.1)) in
    step ∙ sym (front_step b c bytes)

passed_by : (b : Bool) (o : Option ParseError) → o ≡ None → (if b then None else o) ≡ None
passed_by true o none = refl
passed_by false o none = none

text_alike : (bytes : List ℕ) → license_text_fault Strict bytes ≡ None → (license_text Lenient bytes ≡ license_text Strict bytes) × (license_text_fault Lenient bytes ≡ None)
unfolding license_text_fault license_text strict_text_fault
text_alike bytes clear =
    let long = some_never (nat_lt (length bytes) 2) _ _ clear in
    let ended = some_never (not (has_zero bytes)) _ _ long.1 in
    let alone = some_never (has_zero (front_of bytes)) _ _ ended.1 in
    (before_last bytes (not-false (has_zero bytes) ended.0) alone.0, passed_by _ _ clear)

license_alike : (s : Option SectionOf) → license_fault_in Strict s ≡ None → (license_in Lenient s ≡ license_in Strict s) × (license_fault_in Lenient s ≡ None)
license_alike None clear = (refl, refl)
license_alike (Some s) clear =
    let parts = both_None (section_fault s) _ clear in
    let text = text_alike (section_of s).bytes parts.1 in
    (text.0, ap (λ o. or_else o (license_text_fault Lenient (section_of s).bytes)) parts.0 ∙ text.1)

-- ---- sections

kind_alike : (name : List ℕ) → section_fault_as Strict name ≡ None → (section_as Lenient name ≡ section_as Strict name) × (section_fault_as Lenient name ≡ None)
unfolding section_as
kind_alike name clear = (by_kind (section_as Strict name) refl clear, refl)
  where
    by_kind : (o : Option ProgramSection) → section_as Strict name ≡ o → no_section name o ≡ None → section_as Lenient name ≡ o
    by_kind None is clear = absurd (cc)
    by_kind (Some kind) is clear = lenient_keeps_kinds name kind is

module _ (s : SectionValue) (ys : List SymbolValue) where
  declared_alike : (types : Option TypeInfo) → btf_defined_maps_fault (types_in_mode Strict types) s ys ≡ None
      → (btf_defined_maps (types_in_mode Lenient types) s ys ≡ btf_defined_maps (types_in_mode Strict types) s ys) × (btf_defined_maps_fault (types_in_mode Lenient types) s ys ≡ None)
  unfolding btf_defined_maps btf_defined_maps_fault
  declared_alike None clear = absurd (cc)
  declared_alike (Some types) clear =
      let parts = both_None (first_of ((length ys == 0, NoSymbolsForSection s.name) ∷ [])) _ clear in
      let maps = lenient_declares_as_strict types (get (symbol_indices_by_name ys)) s.index.0 s.name parts.1 in
      (maps.0, ap (λ o. or_else o (btf_maps_fault Lenient types (get (symbol_indices_by_name ys)) s.index.0 s.name)) parts.0 ∙ maps.1)

  maps_alike : (types : Option TypeInfo) (kind : EbpfSectionKind) → fault_by kind Strict types s ys ≡ None → maps_by kind Lenient types s ys ≡ maps_by kind Strict types s ys
  maps_alike types BtfMaps clear = (declared_alike types clear).0
  maps_alike types _ clear = refl

  named_alike : program_section_faults Strict s ys ≡ None → (section_as Lenient s.name ≡ section_as Strict s.name) × (program_section_faults Lenient s ys ≡ None)
  unfolding program_section_faults
  named_alike clear =
      let parts = both_None (section_fault_as Strict s.name) _ clear in
      let kind = kind_alike s.name parts.0 in
      (kind.0, ap (λ o. or_else o (or_else (first_of ((length ys == 0, NoSymbolsForSection s.name) ∷ [])) (programs_fault s ys))) kind.1 ∙ parts.1)

  programs_alike : (license : List ℕ) (version : Option ℕ) (types : Option TypeInfo) (kind : EbpfSectionKind) → fault_by kind Strict types s ys ≡ None
      → programs_by kind Lenient license version s ys ≡ programs_by kind Strict license version s ys
  programs_alike license version types Programs clear = ap (programs_of license version s ys) (named_alike clear).0
  programs_alike license version types _ clear = refl

  fault_alike : (types : Option TypeInfo) (kind : EbpfSectionKind) → fault_by kind Strict types s ys ≡ None → fault_by kind Lenient types s ys ≡ None
  fault_alike types Programs clear = (named_alike clear).1
  fault_alike types BtfMaps clear = (declared_alike types clear).1
  fault_alike types Text clear = clear
  fault_alike types Data clear = clear
  fault_alike types Rodata clear = clear
  fault_alike types Bss clear = clear
  fault_alike types Maps clear = clear
  fault_alike types _ clear = refl

-- what the sections of a file give
all_alike : {X : Type 0} (f g : SectionValue → List X) (a b : SectionOf → Option ParseError) → ((x : SectionOf) → a x ≡ None → (g (section_of x) ≡ f (section_of x)) × (b x ≡ None))
    → (xs : List SectionOf) → first_some a xs ≡ None → (flat_map g (map section_of xs) ≡ flat_map f (map section_of xs)) × (first_some b xs ≡ None)
all_alike f g a b each [] clear = (refl, refl)
all_alike f g a b each (x ∷ xs) clear =
    let parts = both_None (a x) (first_some a xs) clear in
    let here = each x parts.0 in
    let later = all_alike f g a b each xs parts.1 in
    (ap (λ l. l ++ flat_map g (map section_of xs)) here.0 ∙ ap (λ l. f (section_of x) ++ l) later.0, ap (λ o. or_else o (first_some b xs)) here.1 ∙ later.1)

module _ (bytes : List ℕ) (types : Option TypeInfo) where
  read_alike : (x : SectionOf) → read_fault Strict types bytes x ≡ None
      → (fault_in Strict types (section_of x) (own_symbols bytes (section_of x)) ≡ None) × (read_fault Lenient types bytes x ≡ None)
  unfolding fault_in section_of section_with
  read_alike x clear =
      let parts = both_None (section_fault x) _ clear in
      (parts.1, ap (λ o. or_else o (fault_in Lenient types (section_of x) (section_symbols (file_symbols bytes) x.index))) parts.0 ∙ fault_alike (section_of x) (section_symbols (file_symbols bytes) x.index) types (section_of x).kind parts.1)

  section_maps : (x : SectionOf) → read_fault Strict types bytes x ≡ None
      → (maps_in Lenient types (section_of x) (own_symbols bytes (section_of x)) ≡ maps_in Strict types (section_of x) (own_symbols bytes (section_of x))) × (read_fault Lenient types bytes x ≡ None)
  unfolding maps_in fault_in
  section_maps x clear =
      let alike = read_alike x clear in
      (maps_alike (section_of x) (own_symbols bytes (section_of x)) types (section_of x).kind alike.0, alike.1)

  section_programs : (license : List ℕ) (version : Option ℕ) (x : SectionOf) → read_fault Strict types bytes x ≡ None
      → (programs_in Lenient license version (section_of x) (own_symbols bytes (section_of x)) ≡ programs_in Strict license version (section_of x) (own_symbols bytes (section_of x)))
      × (read_fault Lenient types bytes x ≡ None)
  unfolding programs_in fault_in
  section_programs license version x clear =
      let alike = read_alike x clear in
      (programs_alike (section_of x) (own_symbols bytes (section_of x)) license version types (section_of x).kind alike.0, alike.1)

  tables_alike : sections_fault Strict types bytes ≡ None → (map_entries Lenient types bytes ≡ map_entries Strict types bytes) × (sections_fault Lenient types bytes ≡ None)
  unfolding sections_fault map_entries
  tables_alike clear =
      all_alike (λ s. maps_in Strict types s (own_symbols bytes s)) (λ s. maps_in Lenient types s (own_symbols bytes s)) (read_fault Strict types bytes) (read_fault Lenient types bytes) section_maps (other_sections bytes) clear

  entries_alike : (license : List ℕ) (version : Option ℕ) → sections_fault Strict types bytes ≡ None → program_entries Lenient license version bytes ≡ program_entries Strict license version bytes
  unfolding sections_fault program_entries
  entries_alike license version clear =
      (all_alike (λ s. programs_in Strict license version s (own_symbols bytes s)) (λ s. programs_in Lenient license version s (own_symbols bytes s)) (read_fault Strict types bytes) (read_fault Lenient types bytes) (section_programs license version) (other_sections bytes) clear).0

-- ---- the file

little : (bytes : List ℕ) → ei_data bytes ≡ Little → order_fault_as Lenient bytes ≡ None
unfolding has_big_endian_code
little bytes is = ap (λ o. if is_big o && list_any has_code (sections bytes) then Some BigEndianCode else None) is

own_machine : (bytes : List ℕ) → is_for_ebpf bytes ≡ true → machine_fault_as Lenient bytes ≡ None
own_machine bytes is = ap (λ b. if b then None else Some (OtherMachine (e_machine bytes))) is

both_clear : {E : Type 0} {a b : Option E} → a ≡ None → b ≡ None → or_else a b ≡ None
both_clear {b = b} first later = ap (λ o. or_else o b) first ∙ later

pub modes_agree : ModesAgree
unfolding license_as license_fault_as maps_as programs_as
modes_agree bytes is own clear =
    let a = both_None (option_map ElfError (first_in (faults bytes))) _ clear in
    let b = both_None (license_fault_as Strict bytes) _ a.1 in
    let c = both_None (version_fault bytes) _ b.1 in
    let d = both_None (symbols_fault bytes) _ c.1 in
    let e = both_None (file_types_fault Strict bytes) _ d.1 in
    let f = both_None (file_externs_fault bytes) _ e.1 in
    let license = license_alike _ b.0 in
    let tables = tables_alike bytes (types_of_file bytes) f.1 in
    record {
      license = license.0;
      maps = ap (put_all empty) tables.0;
      programs = ap (put_all empty) (ap (λ l. program_entries Lenient l (kernel_version_of bytes) bytes) license.0 ∙ entries_alike bytes (types_of_file bytes) (license_as Strict bytes) (kernel_version_of bytes) f.1);
      sound = both_clear a.0 (both_clear (own_machine bytes own) (both_clear (little bytes is) (both_clear license.1 (both_clear c.0 (both_clear d.0 (both_clear (types_alike bytes e.0) (both_clear f.0 tables.1)))))));
    }

-- ---- kinds in strict parsing

abbrev IsNamed : Program → Type 0
IsNamed p = p.section ≢ Other

each_named : (license : List ℕ) (version : Option ℕ) (s : SectionValue) (kind : ProgramSection) → kind ≢ Other → (zs : List SymbolValue) → AllByRecursion (λ e. IsNamed e.1) (map (program_of license version s kind) zs)
each_named license version s kind named [] = tt
each_named license version s kind named (z ∷ zs) = (named, each_named license version s kind named zs)

module _ (license : List ℕ) (version : Option ℕ) (s : SectionValue) (ys : List SymbolValue) where
  of_name : (o : Option ProgramSection) → section_as Strict s.name ≡ o → AllByRecursion (λ e. IsNamed e.1) (programs_of license version s ys o)
  unfolding section_as
  of_name None is = tt
  of_name (Some kind) is = each_named license version s kind (λ other. no_name_says_other s.name (is ∙ ap Some other)) (filter is_program_symbol ys)

  of_kind : (kind : EbpfSectionKind) → AllByRecursion (λ e. IsNamed e.1) (programs_by kind Strict license version s ys)
  of_kind Programs = of_name (section_as Strict s.name) refl
  of_kind _ = tt

pub strict_kinds_are_named : StrictKindsAreNamed
unfolding programs_as program_entries programs_in
strict_kinds_are_named bytes name p e =
    stands text_cmp text_exact (λ n x. IsNamed x) name later_text_stands (program_entries Strict (license_as Strict bytes) (kernel_version_of bytes) bytes)
    (all_flat_map (λ x. IsNamed x.1) (λ s. programs_in Strict (license_as Strict bytes) (kernel_version_of bytes) s (own_symbols bytes s)) (object_sections bytes)
    (λ i s here. of_kind (license_as Strict bytes) (kernel_version_of bytes) s (own_symbols bytes s) s.kind)) p e
