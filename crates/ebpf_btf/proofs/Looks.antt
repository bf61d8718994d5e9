-- One look of a resolution or of a size, where k looks are over.
use Rattle.std.proofs.Common.{◌≡◌, ◌-◌, ◌+◌, ◌<◌, ◌≤◌, ℕ, zero, suc, List, Some, None, Ok, Err, refl, arith}
use Rattle.std.specs.Prelude.{slice_get}
use Rattle.ebpf_btf.specs.declared.error.BtfError.{BtfError}
use Rattle.ebpf_btf.specs.declared.error.BtfError.TheVariants.{UnexpectedBtfType, UnknownBtfType, MaximumTypeDepth}
use Rattle.ebpf_btf.specs.declared.types.BtfType.{BtfType}
use Rattle.ebpf_base.specs.Faults.{if_ok}
use Rattle.ebpf_btf.specs.Next.{if_some}
use Rattle.ebpf_btf.specs.Steps.{type_at, modifier_type_id, own_size, sized_by, repeats, times, resolved_from, size_from}

resolved_look : (k : ℕ) (types : List BtfType) (start id : ℕ) → k < 33
    → resolved_from (33 - k) types start id
    ≡ if_ok (type_at types id) (λ t. if_some (modifier_type_id t) (λ next. resolved_from (33 - (k + 1)) types start next) (Ok id))
unfolding resolved_from
resolved_look k types start id below =
    let more : 33 - k ≡ suc (33 - (k + 1)) = omega arith in
    rw more refl

pub resolved_unknown : (k : ℕ) (types : List BtfType) (start id : ℕ) → k < 33 → slice_get types id ≡ None
    → resolved_from (33 - k) types start id ≡ Err (UnknownBtfType id)
resolved_unknown k types start id below none = rw (resolved_look k types start id below, none) refl

pub resolved_here : (k : ℕ) (types : List BtfType) (start id : ℕ) (t : BtfType) → k < 33 → slice_get types id ≡ Some t
    → modifier_type_id t ≡ None → resolved_from (33 - k) types start id ≡ Ok id
resolved_here k types start id t below some last = rw (resolved_look k types start id below, some, last) refl

pub resolved_next : (k : ℕ) (types : List BtfType) (start id : ℕ) (t : BtfType) (next : ℕ) → k < 33 → slice_get types id ≡ Some t
    → modifier_type_id t ≡ Some next → resolved_from (33 - k) types start id ≡ resolved_from (33 - (k + 1)) types start next
resolved_next k types start id t next below some follows = rw (resolved_look k types start id below, some, follows) refl

pub resolved_over : (k : ℕ) (types : List BtfType) (start id : ℕ) → 33 ≤ k → resolved_from (33 - k) types start id ≡ Err (MaximumTypeDepth start)
unfolding resolved_from
resolved_over k types start id over =
    let none : 33 - k ≡ zero = omega arith in
    rw none refl

-- ---- sizes

size_look : (k : ℕ) (types : List BtfType) (start count id : ℕ) → k < 33
    → size_from (33 - k) types start count id
    ≡ if_ok (type_at types id) (λ t.
    if_some (own_size t) (λ size. times count size) (
    if_some (sized_by t)
    (λ next. if_ok (times count (repeats t)) (λ all. size_from (33 - (k + 1)) types start all next))
    (Err (UnexpectedBtfType id))))
unfolding size_from
size_look k types start count id below =
    let more : 33 - k ≡ suc (33 - (k + 1)) = omega arith in
    rw more refl

pub size_unknown : (k : ℕ) (types : List BtfType) (start count id : ℕ) → k < 33 → slice_get types id ≡ None
    → size_from (33 - k) types start count id ≡ Err (UnknownBtfType id)
size_unknown k types start count id below none = rw (size_look k types start count id below, none) refl

pub size_here : (k : ℕ) (types : List BtfType) (start count id : ℕ) (t : BtfType) (size : ℕ) → k < 33 → slice_get types id ≡ Some t
    → own_size t ≡ Some size → size_from (33 - k) types start count id ≡ times count size
size_here k types start count id t size below some own = rw (size_look k types start count id below, some, own) refl

pub size_missing : (k : ℕ) (types : List BtfType) (start count id : ℕ) (t : BtfType) → k < 33 → slice_get types id ≡ Some t
    → own_size t ≡ None → sized_by t ≡ None → size_from (33 - k) types start count id ≡ Err (UnexpectedBtfType id)
size_missing k types start count id t below some own by = rw (size_look k types start count id below, some, own, by) refl

pub size_too_large : (k : ℕ) (types : List BtfType) (start count id : ℕ) (t : BtfType) (next : ℕ) (e : BtfError) → k < 33 → slice_get types id ≡ Some t
    → own_size t ≡ None → sized_by t ≡ Some next → times count (repeats t) ≡ Err e
    → size_from (33 - k) types start count id ≡ Err e
size_too_large k types start count id t next e below some own by large = rw (size_look k types start count id below, some, own, by, large) refl

pub size_next : (k : ℕ) (types : List BtfType) (start count id : ℕ) (t : BtfType) (next all : ℕ) → k < 33 → slice_get types id ≡ Some t
    → own_size t ≡ None → sized_by t ≡ Some next → times count (repeats t) ≡ Ok all
    → size_from (33 - k) types start count id ≡ size_from (33 - (k + 1)) types start all next
size_next k types start count id t next all below some own by fits = rw (size_look k types start count id below, some, own, by, fits) refl

pub size_over : (k : ℕ) (types : List BtfType) (start count id : ℕ) → 33 ≤ k → size_from (33 - k) types start count id ≡ Err (MaximumTypeDepth start)
unfolding size_from
size_over k types start count id over =
    let none : 33 - k ≡ zero = omega arith in
    rw none refl
