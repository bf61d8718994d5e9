-- An object that is opened is the one that was parsed, with its kconfig externs defined.
use Rattle.std.proofs.Common.{◌≡◌, ℕ, List, [], ◌∷◌, Bool, true, false, Option, Some, None, refl, sym, ap, subst, ◌∙◌, ◌<◌, ◌+◌, drop, length}
use Rattle.std.specs.Prelude.{slice_get, slice_index_or, if◌then◌else◌}
use Rattle.std.specs.FinMap.{FinMap, empty, entries, get, get-empty}
use Rattle.std.specs.List.{flat_map}
use Rattle.std.specs.Option.{option_and_then, option_map_or}
use Rattle.std.specs.Ordering.{nat_cmp}
use Rattle.cli_common.specs.CompletedObjects.{IsCompleted, page_size, with_callbacks, with_maps_of}
use Rattle.ebpf_btf_maps.proofs.Completed.{maps_stay}
use Rattle.ebpf_base.proofs.Lists.{rest_more}
use Rattle.ebpf_base.proofs.Mapped.{map_values-identity, map_values-same_at, put_all-flat_map}
use Rattle.ebpf_base.proofs.Maps.{entries-empty}
use Rattle.ebpf_base.specs.Maps.{key_cmp, mapped_entries, map_values, put_all, text_cmp}
use Rattle.ebpf_base.specs.declared.endianness.Endianness.{Endianness}
use Rattle.ebpf_btf.specs.Strings.{id_of_name}
use Rattle.ebpf_btf.specs.TypeInfo.{TypeInfo}
use Rattle.ebpf_btf.specs.declared.kind.BtfKind.TheVariants as kinds
use Rattle.ebpf_kconfig.specs.KconfigExterns.{externs_in, kconfig_externs, kconfig_section, section_rows, weak_symbols}
use Rattle.ebpf_kconfig.specs.KconfigMaps.{ExternsByName, KconfigValues, defined_at, defined_symbol, extern_offsets, group_externs, kconfig_offsets, symbols_defined, with_kconfig_map}
use Rattle.ebpf_kconfig.specs.declared.externs.KconfigExtern.{KconfigExtern}
use Rattle.ebpf_model.specs.Symbols.{FunctionKey, is_extern}
use Rattle.ebpf_model.specs.declared.symbol.Symbol.{Symbol}
use Rattle.ebpf_object.specs.Objects.{object_as}
use Rattle.ebpf_object.specs.declared.object.Object.{Object}
use Rattle.ebpf_parts.specs.declared.maps.either.Map.{Map}
use Rattle.ebpf_parts.specs.declared.parse_mode.ParseMode.TheVariants.{Lenient}
use Rattle.cli_prepare.specs.KernelValues.{defined_with, externs_of, kernel_value, kernel_values, value_entry, with_kconfig}
use Rattle.cli_prepare.specs.Opened.{IsDefined, IsOpened}
use Rattle.cli_prepare.specs.declared.kernel.Kernel.{Kernel}
use Rattle.cli_prepare.specs.declared.opened.Opened.{Opened}

-- ---- without externs nothing is defined

-- no externs have no offsets
abbrev no_names : FinMap text_cmp ℕ
no_names = empty

no_offsets : kconfig_offsets [] ≡ no_names
no_offsets =
    ap (λ (groups : List ((ℕ × ℕ) × ExternsByName)). put_all no_names (extern_offsets 0 (flat_map (λ group. group_externs group.1) groups)))
    (entries-empty key_cmp ExternsByName)

-- no symbol is one of them
stays : (s : Symbol) → defined_symbol no_names s ≡ s
stays s = by_test (is_extern s) refl
  where
    no_offset : (name : Option (List ℕ)) → option_and_then (get no_names) name ≡ None
    no_offset None = refl
    no_offset (Some name) = get-empty text_cmp name

    by_test : (b : Bool) → is_extern s ≡ b → defined_symbol no_names s ≡ s
    by_test true e =
        ap (λ (b : Bool). if b then defined_at s (option_and_then (get no_names) s.name) else s) e
        ∙ ap (defined_at s) (no_offset s.name)
    by_test false e = ap (λ (b : Bool). if b then defined_at s (option_and_then (get no_names) s.name) else s) e

all_stay : (es : List (ℕ × Symbol)) → mapped_entries (defined_symbol no_names) es ≡ mapped_entries (λ s. s) es
all_stay [] = refl
all_stay (e ∷ es) = λ i. (e.0, stays e.1 i) ∷ all_stay es i

symbols_stay : (symbols : FinMap nat_cmp Symbol) → symbols_defined [] symbols ≡ symbols
unfolding symbols_defined
symbols_stay symbols =
    ap (λ (offsets : FinMap text_cmp ℕ). map_values (defined_symbol offsets) symbols) no_offsets
    ∙ map_values-same_at (defined_symbol no_names) (λ s. s) symbols (all_stay (entries symbols))
    ∙ map_values-identity symbols

none_defined : (values : KconfigValues) (externs : List KconfigExtern) (o : Object) → externs ≡ [] → defined_with values externs o ≡ o
none_defined values externs o none =
    ap (λ es. defined_with values es o) none
    ∙ ap (λ (symbols : FinMap nat_cmp Symbol). record o { symbol_table = symbols }) (symbols_stay o.symbol_table)

pub without_externs : (kernel : Kernel) (o : Object) → externs_of o ≡ [] → o ≡ with_kconfig kernel o
without_externs kernel o none = sym (none_defined (kernel_values kernel o.endianness (externs_of o)) (externs_of o) o none)

-- types without the DATASEC have no externs
pub without_section : (types : TypeInfo) (symbols : FinMap nat_cmp Symbol) → id_of_name types kconfig_section kinds.DataSec ≡ None → kconfig_externs (Some types) symbols ≡ []
unfolding kconfig_externs
without_section types symbols none =
    ap (λ (found : Option ℕ). externs_in types (weak_symbols symbols) (option_map_or section_rows (option_and_then (slice_get types.types) found) [])) none

-- ---- the values of one more extern

pub value_more : (kernel : Kernel) (order : Endianness) (externs : List KconfigExtern) (i : ℕ) (x : KconfigExtern) (values new all : KconfigValues) → i < length externs
    → x ≡ slice_index_or externs i x → new ≡ put_all values (value_entry x.name (kernel_value kernel order x))
    → put_all values (flat_map (λ e. value_entry e.name (kernel_value kernel order e)) (drop i externs)) ≡ all
    → put_all new (flat_map (λ e. value_entry e.name (kernel_value kernel order e)) (drop (i + 1) externs)) ≡ all
value_more kernel order externs i x values new all below here is before =
    let f : KconfigExtern → List (List ℕ × List ℕ) = λ e. value_entry e.name (kernel_value kernel order e) in
    ap (λ m. put_all m (flat_map f (drop (i + 1) externs))) is
    ∙ sym (put_all-flat_map f values x (drop (i + 1) externs))
    ∙ ap (λ es. put_all values (flat_map f es)) (sym (rest_more externs i x below here))
    ∙ before

-- ---- an object that is opened

-- the object with the map and the symbols of its externs
pub defined : (values : KconfigValues) (externs : List KconfigExtern) (o after : Object) → after ≡ record o { maps = after.maps; symbol_table = after.symbol_table }
    → after.maps ≡ with_kconfig_map values externs o.maps → after.symbol_table ≡ symbols_defined externs o.symbol_table → after ≡ defined_with values externs o
defined values externs o after others maps symbols =
    others
    ∙ ap (λ (m : FinMap text_cmp Map). record o { maps = m; symbol_table = after.symbol_table }) maps
    ∙ ap (λ (s : FinMap nat_cmp Symbol). record o { maps = with_kconfig_map values externs o.maps; symbol_table = s }) symbols

pub opened : (file : List ℕ) (kernel : Kernel) (o after : Object) → IsCompleted file o → after ≡ with_kconfig kernel o → IsDefined file kernel after
opened file kernel o after completed defined =
    let object : Object = object_as Lenient file in
    let complete : Object = with_callbacks file (with_maps_of file) in
    let is : after ≡ with_kconfig kernel complete = subst (λ (x : Object). after ≡ with_kconfig kernel x) completed.is defined in
    record {
      parsed = record { sound = completed.sound; is = refl };
      complete = completed.complete;
      callbacks = completed.callbacks;
      defined = is;
      same = λ none no_section no_callbacks. record {
        sound = completed.sound;
        is = is
            ∙ sym (without_externs kernel complete none)
            ∙ ap (λ (m : FinMap key_cmp FunctionKey). record (with_maps_of file) { exception_callbacks = m }) no_callbacks
            ∙ ap (λ (m : FinMap text_cmp Map). record object { maps = m }) (maps_stay file page_size object.maps no_section);
      };
    }

pub opened_as : (o : Opened) (file : List ℕ) (kernel : Kernel) (parsed after : Object) → o.file.items ≡ file → o.kernel ≡ kernel → o.parsed ≡ after
    → IsCompleted file parsed → after ≡ with_kconfig kernel parsed → IsOpened o
opened_as o file kernel parsed after file_is kernel_is parsed_is sound defined =
    subst (λ (bytes : List ℕ). IsDefined bytes o.kernel o.parsed) (sym file_is)
    (subst (λ (k : Kernel). IsDefined file k o.parsed) (sym kernel_is)
    (subst (λ (x : Object). IsDefined file kernel x) (sym parsed_is) (opened file kernel parsed after sound defined)))
