-- Laws of the definitions that the members of a map's struct make.
use Rattle.std.specs.Prelude.{◌≡◌, ℕ, List, ◌∷◌, ◌++◌, Option, None}
use Rattle.ebpf_base.specs.Faults.{fault_of}
use Rattle.ebpf_btf.specs.Strings.{text_at}
use Rattle.ebpf_btf.specs.TypeInfo.{TypeInfo}
use Rattle.ebpf_btf.specs.declared.members.BtfMember.{BtfMember}
use Rattle.ebpf_btf_decls.specs.Maps.{member_value, definitions, inner_member_value}
use Rattle.ebpf_btf_decls.specs.Maps.{inner_definition, btf_maps, btf_maps_fault}
use Rattle.ebpf_parts.specs.declared.parse_mode.ParseMode.{ParseMode}
use Rattle.ebpf_parts.specs.declared.parse_mode.ParseMode.TheVariants.{Strict, Lenient}

-- Of two members of one name the later counts: with the earlier, where it has no fault, and without
-- it the definitions are the same.
abbrev pub LaterMembersStand : Type 0
LaterMembersStand =
    (mode : ParseMode) (info : TypeInfo) (name : List ℕ) (before between after : List BtfMember)
    (earlier later : BtfMember)
    → text_at info.strings earlier.name_offset ≡ text_at info.strings later.name_offset
    → fault_of (member_value mode info name earlier) ≡ None
    → definitions mode info name (before ++ (earlier ∷ (between ++ (later ∷ after))))
    ≡ definitions mode info name (before ++ (between ++ (later ∷ after)))

-- so it is of inner maps
abbrev pub LaterInnerMembersStand : Type 0
LaterInnerMembersStand =
    (mode : ParseMode) (info : TypeInfo) (name : List ℕ) (before between after : List BtfMember)
    (earlier later : BtfMember)
    → text_at info.strings earlier.name_offset ≡ text_at info.strings later.name_offset
    → fault_of (inner_member_value mode info name earlier) ≡ None
    → inner_definition mode info name (before ++ (earlier ∷ (between ++ (later ∷ after))))
    ≡ inner_definition mode info name (before ++ (between ++ (later ∷ after)))

-- The BTF-defined maps of a section without a fault in strict parsing are those of lenient parsing.
abbrev pub LenientDeclaresAsStrict : Type 0
LenientDeclaresAsStrict =
    (info : TypeInfo) (symbols : List ℕ → Option ℕ) (section : ℕ) (name : List ℕ)
    → btf_maps_fault Strict info symbols section name ≡ None
    → (btf_maps Lenient info symbols section name ≡ btf_maps Strict info symbols section name)
    × (btf_maps_fault Lenient info symbols section name ≡ None)
