-- The DATASECs of a name, and the results of their entries (the kernel's
-- Documentation/bpf/btf.rst, 2.2.15 "BTF_KIND_DATASEC").
use Rattle.std.specs.Prelude.{ℕ, Bool, true, false, List, [], Option, Some, None, Result, Ok, Err}
use Rattle.std.specs.Prelude.{◌∷◌}
use Rattle.ebpf_base.specs.Faults.{if_ok}
use Rattle.ebpf_btf.specs.Next.{if_some}
use Rattle.ebpf_btf.specs.Strings.{is_name_at}
use Rattle.ebpf_btf.specs.TypeInfo.{TypeInfo}
use Rattle.ebpf_btf.specs.Types.{name_off}
use Rattle.ebpf_btf.specs.declared.error.BtfError.{BtfError}
use Rattle.ebpf_btf.specs.declared.members.DataSecEntry.{DataSecEntry}
use Rattle.ebpf_btf.specs.declared.types.BtfType.{BtfType}
use Rattle.ebpf_btf.specs.declared.types.BtfType.TheVariants.{DataSec}

-- the entries of a DATASEC
unfoldable pub datasec_entries : BtfType → Option (List DataSecEntry)
datasec_entries (DataSec _ _ entries) = Some entries
datasec_entries _ = None

-- The DATASEC that a search by name meets: one of that name, with its entries, or one whose name
-- can't be read.
pub data DatasecMatch : Type 0 where
  Named : List DataSecEntry → DatasecMatch
  UnreadableName : BtfError → DatasecMatch

-- a DATASEC with these entries, by whether its name is the wanted one
abbrev pub datasec_match_if : List DataSecEntry → Result Bool BtfError → Option DatasecMatch
datasec_match_if entries (Ok true) = Some (Named entries)
datasec_match_if entries (Ok false) = None
datasec_match_if entries (Err e) = Some (UnreadableName e)

-- what the search meets at a type
unfoldable pub datasec_match : TypeInfo → List ℕ → BtfType → Option DatasecMatch
datasec_match info wanted t =
    if_some (datasec_entries t)
    (λ entries. datasec_match_if entries (is_name_at info.strings (name_off t) wanted)) None

-- the entries of the section that was found
abbrev pub matched_entries : Option DatasecMatch → List DataSecEntry
matched_entries (Some (Named entries)) = entries
matched_entries _ = []

abbrev pub datasec_match_fault : Option DatasecMatch → Option BtfError
datasec_match_fault (Some (UnreadableName e)) = Some e
datasec_match_fault _ = None

-- ---- answers one after the other, of which the first fault ends all

-- what an answer gives to a list
abbrev pub given : {X E : Type 0} → Result X E → List X
given (Ok x) = x ∷ []
given (Err e) = []

-- what the answers at the members of a list give, in order, or the first fault
abbrev pub all_given : {A X : Type 0} → (A → Result X BtfError) → List A → Result (List X) BtfError
all_given answer [] = Ok []
all_given answer (m ∷ members) =
    if_ok (answer m) (λ x. if_ok (all_given answer members) (λ xs. Ok (x ∷ xs)))
