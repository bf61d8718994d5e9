-- Parts of the worked examples of specs/RecordCounts.antt and specs/Listings.antt, computed.
use Rattle.std.proofs.Common.{◌≡◌, [], ◌∷◌, Some, None, Ok, refl}
use Rattle.ebpf_btf.specs.declared.types.BtfType.TheVariants.{Ptr, Unknown}
use Rattle.cli_list.specs.Listings.{read_type_count, slots_in}
use Rattle.cli_list.specs.RecordCounts.{counted}

-- a group without records has no row
no_row : counted 0 ≡ None
no_row = refl

two_records : counted 2 ≡ Some 2
two_records = refl

-- void is no type
two_types : read_type_count (Ok (record { types = Unknown ∷ Ptr 0 0 ∷ Ptr 0 1 ∷ []; strings = 0 ∷ [] })) ≡ Some 2
two_types = refl

no_function : slots_in None ≡ 0
no_function = refl
