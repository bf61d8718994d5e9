-- Slots with names, and the names of maps, one after the other.
use Rattle.std.proofs.Common.{◌≡◌, ◌<◌, ◌+◌, ◌-◌, ◌*◌, ◌++◌, ℕ, List, [], ◌∷◌, length, map, Option, Some, None, refl, sym, ap, ◌∙◌}
use Rattle.std.proofs.lemmas.List.{append_assoc}
use Rattle.std.specs.FinMap.{FinMap}
use Rattle.std.specs.List.{cons_option, filter_map, flat_map, range_with_len}
use Rattle.std.specs.Ordering.{nat_cmp}
use Rattle.std.specs.Prelude.{option_map}
use Rattle.ebpf_base.proofs.Lists.{range_more}
use Rattle.ebpf_base.specs.Maps.{put_all}
use Rattle.ebpf_model.specs.Symbols.{FunctionKey}
use Rattle.ebpf_model.specs.declared.function.Function.{Function}
use Rattle.ebpf_parts.specs.Maps.{symbol_index_of}
use Rattle.ebpf_parts.specs.declared.maps.either.Map.{Map}
use Rattle.ebpf_reloc.specs.NamedSlots.{Naming, named_at, named_slot, slot_name, name_at_symbol, names_over, with_map_name, with_name_at}
use Rattle.ebpf_reloc.specs.Relocated.{SectionRelocations}
use Rattle.ebpf_reloc.specs.declared.map_names.MapNames.{MapNames}
use Rattle.ebpf_reloc.specs.declared.named_slots.NamedSlot.{NamedSlot}

module _ (naming : Naming) (section_relocations : Option SectionRelocations) (key : FunctionKey) (f : Function) where
  abbrev named_from : ℕ → List NamedSlot
  named_from i = filter_map (named_at naming section_relocations key f) (range_with_len i (length f.instructions - i))

  more : (i : ℕ) → i < length f.instructions → named_from i ≡ cons_option (named_at naming section_relocations key f i) (named_from (i + 1))
  more i below = ap (filter_map (named_at naming section_relocations key f)) (range_more i (length f.instructions) below)

  -- a slot with a name
  pub name_here : (i : ℕ) (name : List ℕ) → i < length f.instructions → Some name ≡ slot_name naming section_relocations f i
      → named_from i ≡ named_slot key i name ∷ named_from (i + 1)
  name_here i name below is = more i below ∙ ap (λ o. cons_option (option_map (named_slot key i) o) (named_from (i + 1))) (sym is)

  -- it is added to those before it
  pub name_added : (before after all : List NamedSlot) (i : ℕ) (name : List ℕ) → i < length f.instructions → Some name ≡ slot_name naming section_relocations f i
      → after ≡ before ++ named_slot key i name ∷ [] → before ++ named_from i ≡ all → after ++ named_from (i + 1) ≡ all
  name_added before after all i name below is added whole =
      ap (λ list. list ++ named_from (i + 1)) added
      ∙ append_assoc before (named_slot key i name ∷ []) (named_from (i + 1))
      ∙ ap (λ rest. before ++ rest) (sym (name_here i name below is))
      ∙ whole

  -- a slot without one
  pub no_name_here : (i : ℕ) → i < length f.instructions → None ≡ slot_name naming section_relocations f i
      → named_from i ≡ named_from (i + 1)
  no_name_here i below is = more i below ∙ ap (λ o. cons_option (option_map (named_slot key i) o) (named_from (i + 1))) (sym is)

-- ---- the names of maps

symbol_next : (table : FinMap nat_cmp (List ℕ)) (symbol : Option ℕ) (name : List ℕ) (rest : List (ℕ × List ℕ))
    → put_all table (name_at_symbol symbol name ++ rest) ≡ put_all (with_name_at table symbol name) rest
symbol_next table None name rest = refl
symbol_next table (Some symbol) name rest = refl

-- one map, and then those that are left
pub names_next : (names : MapNames) (name : List ℕ) (m : Map) (es : List (List ℕ × Map))
    → names_over names ((name, m) ∷ es) ≡ names_over (with_map_name names name m) es
names_next names name m es =
    ap (λ (table : FinMap nat_cmp (List ℕ)). record { by_symbol = table; by_section = (names_over (with_map_name names name m) es).by_section })
    (symbol_next names.by_symbol (symbol_index_of m) name (flat_map (λ e. name_at_symbol (symbol_index_of e.1) e.0) es))
