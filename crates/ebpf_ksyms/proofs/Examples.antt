-- The example of `line_fault`: lines after `12 T a`.
use Rattle.std.proofs.Common.{◌≡◌, ℕ, Bool, true, List, [], ◌∷◌, Some, None, Ok, refl}
use Rattle.ebpf_ksyms.specs.Addresses.{Line, address_of, addresses, line_fault, stated_address, words}
use Rattle.ebpf_ksyms.specs.declared.error.KsymsError.TheVariants.{AmbiguousResolution}

-- `12 T a`, `12 t a`, `13 t a` and `13 t b`
pub first : List ℕ
first = 49 ∷ 50 ∷ 32 ∷ 84 ∷ 32 ∷ 97 ∷ []

pub same : List ℕ
same = 49 ∷ 50 ∷ 32 ∷ 116 ∷ 32 ∷ 97 ∷ []

pub other : List ℕ
other = 49 ∷ 51 ∷ 32 ∷ 116 ∷ 32 ∷ 97 ∷ []

pub next : List ℕ
next = 49 ∷ 51 ∷ 32 ∷ 116 ∷ 32 ∷ 98 ∷ []

pub any_name : List ℕ → Bool
any_name name = true

pub same_address : line_fault any_name (Ok first ∷ []) (Ok same) ≡ None
unfolding first same any_name words stated_address addresses address_of line_fault
same_address = refl

pub other_address : line_fault any_name (Ok first ∷ []) (Ok other) ≡ Some (AmbiguousResolution (97 ∷ []) 18 19)
unfolding first other any_name words stated_address addresses address_of line_fault
other_address = refl

pub other_name : line_fault any_name (Ok first ∷ []) (Ok next) ≡ None
unfolding first next any_name words stated_address addresses address_of line_fault
other_name = refl
