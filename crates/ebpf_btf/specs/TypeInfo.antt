-- The model of a `Btf`: a list of types by id, and the bytes of the strings.
use Rattle.std.specs.Prelude.{ℕ, ◌∷◌, [], List}
use Rattle.ebpf_btf.specs.declared.types.BtfType.{BtfType}
use Rattle.ebpf_btf.specs.declared.types.BtfType.TheVariants.{Unknown}

-- the types by their ids, from 0 on, and the bytes of the strings
pub record TypeInfo : Type 0 where
  pub types : List BtfType
  pub strings : List ℕ

-- void alone, and the empty name
abbrev pub no_types : TypeInfo
no_types = record { types = Unknown ∷ []; strings = 0 ∷ [] }
