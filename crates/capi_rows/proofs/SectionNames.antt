-- The names of records' sections, as they are read.
use Rattle.std.proofs.Common.{◌≡◌, ℕ, List, [], Some, ap, sym, ◌∙◌}
use Rattle.std.specs.Prelude.{Result, Ok, Err}
use Rattle.ebpf_base.specs.Faults.{fault_of}
use Rattle.ebpf_btf.specs.declared.error.BtfError.{BtfError}
use Rattle.capi_rows.specs.Records.{text_or_empty}

-- a text that was read, and its copy
pub read : (found : Result (List ℕ) BtfError) (text copy : List ℕ) → found ≡ Ok text → copy ≡ text → copy ≡ text_or_empty found
read found text copy here same = same ∙ sym (ap text_or_empty here)

-- none where there is a fault
pub unread : (found : Result (List ℕ) BtfError) (e : BtfError) (empty : List ℕ) → fault_of found ≡ Some e → empty ≡ [] → empty ≡ text_or_empty found
unread (Ok text) e empty fault same = let no : ⊥ = cc in absurd no
unread (Err fault) e empty here same = same
