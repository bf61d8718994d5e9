-- What contracts of private functions name and no public one.
use Rattle.std.specs.Prelude.{◌≡◌, ◌==◌, ◌&&◌, ◌++◌, ◌∷◌, [], ℕ, Bool, true, false, List, Option, Some, None}
use Rattle.std.specs.Prelude.{find, is_some, slice_get}
use Rattle.std.specs.Option.{option_map_or}
use Rattle.ebpf_btf.specs.Strings.{id_of_name, is_named, is_text, text_at}
use Rattle.ebpf_btf.specs.TypeInfo.{TypeInfo}
use Rattle.ebpf_btf.specs.Types.{is_kind, kind_number}
use Rattle.ebpf_btf.specs.declared.kind.BtfKind.{BtfKind}
use Rattle.ebpf_btf.specs.declared.kind.BtfKind.TheVariants as kinds
use Rattle.ebpf_btf.specs.declared.view.TypeHead.{TypeHead}
use Rattle.ebpf_load_info.specs.AttachTargets.{found_as, kind_of_target, prefix_of, target_name}
use Rattle.ebpf_load_info.specs.AttachTargets.{wanted}
use Rattle.ebpf_load_info.specs.declared.attach.AttachTarget.{AttachTarget}
use Rattle.ebpf_load_info.specs.declared.attach.AttachTarget.TheVariants.{NotWanted, Unnamed}
use Rattle.ebpf_load_info.specs.declared.attach.TargetKind.{TargetKind}
use Rattle.ebpf_load_info.specs.declared.attach.WantedType.{WantedType}
use Rattle.ebpf_load_info.specs.declared.attach.WantedType.TheVariants.{Other, Nameless, Named}

-- whether a type with an id is there, and has a kind and a name
abbrev pub named_at : TypeInfo → List ℕ → BtfKind → ℕ → Bool
named_at types name kind id =
    option_map_or (is_named types name kind) (slice_get types.types id) false

-- the same by a type's head
abbrev pub named_by : TypeInfo → List ℕ → BtfKind → TypeHead → Bool
named_by types name kind head =
    kind_number head.kind == kind_number kind
    && is_text name (text_at types.strings head.name_offset)

-- whether a type with an id is there, and is an ENUM
abbrev pub is_enum_at : TypeInfo → ℕ → Bool
is_enum_at types id = option_map_or (is_kind kinds.Enum) (slice_get types.types id) false

-- ---- the type to which the programs of a section are attached, before it is looked up

abbrev pub wanted_in : TargetKind → List ℕ → WantedType
wanted_in target [] = Nameless
wanted_in target (b ∷ name) = Named (kind_of_target target) (prefix_of target ++ b ∷ name)

abbrev pub wanted_or_other : Option TargetKind → List ℕ → WantedType
wanted_or_other None name = Other
wanted_or_other (Some target) name = wanted_in target name

abbrev pub wanted_type : List ℕ → WantedType
wanted_type section = wanted_or_other (wanted section) (target_name section)

-- its id
abbrev pub id_wanted : TypeInfo → WantedType → Option ℕ
id_wanted types Other = None
id_wanted types Nameless = None
id_wanted types (Named kind name) = id_of_name types name kind

-- the target by that id
abbrev pub attached : WantedType → Option ℕ → AttachTarget
attached Other found = NotWanted
attached Nameless found = Unnamed
attached (Named kind name) found = found_as name found

-- ---- several of them

-- whether the type with an id is the one that is wanted, also by the type's head
abbrev pub is_wanted_at : TypeInfo → ℕ → WantedType → Bool
is_wanted_at types id Other = false
is_wanted_at types id Nameless = false
is_wanted_at types id (Named kind name) = named_at types name kind id

abbrev pub is_wanted_by : TypeInfo → TypeHead → WantedType → Bool
is_wanted_by types head Other = false
is_wanted_by types head Nameless = false
is_wanted_by types head (Named kind name) = named_by types name kind head

-- whether it is among those with some ids
abbrev pub is_found : TypeInfo → List ℕ → WantedType → Bool
is_found types ids Other = true
is_found types ids Nameless = true
is_found types ids (Named kind name) =
    is_some (find (λ id. is_wanted_at types id (Named kind name)) ids)

-- Among some ids the first of each type that is wanted is the lowest of all.
abbrev pub AreFound : TypeInfo → List WantedType → List ℕ → Type 0
AreFound types all ids =
    (k : ℕ) (one : WantedType) → slice_get all k ≡ Some one
    → find (λ id. is_wanted_at types id one) ids ≡ id_wanted types one
