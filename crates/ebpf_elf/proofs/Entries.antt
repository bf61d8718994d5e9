-- The sections with relocations of a file without faults, and their entries.
use Rattle.std.proofs.Common.{◌≡◌, ◌*◌, ◌==◌, ◌<◌, ◌≤◌, ◌+◌, ◌-◌, ◌&&◌, ℕ, List, Bool, true, false, Some, None, cond, refl, arith, length}
use Rattle.std.proofs.lemmas.Bool.Decides.{nat_tests}
use Rattle.std.proofs.lemmas.List.Folds.{list_any_at}
use Rattle.std.proofs.lemmas.List.FromFn.{length-range_with_len, get_or-range_with_len}
use Rattle.std.specs.List.{list_any, range_with_len}
use Rattle.ebpf_base.specs.Faults.{first_of}
use Rattle.ebpf_elf.specs.declared.constants.TheConstants.{SHT_REL}
use Rattle.ebpf_elf.specs.declared.error.ElfReadError.{ElfReadError}
use Rattle.ebpf_elf.specs.Faults.{relocation_faults}
use Rattle.ebpf_elf.specs.Headers.{section, section_count}
use Rattle.ebpf_elf.specs.Relocations.{relocation_size, holds_relocations, is_bad_relocation_table, entry_count}

-- where no number of a range passes, none does
none_passes : (p : ℕ → Bool) (a n j : ℕ) → list_any p (range_with_len a n) ≡ false → a ≤ j → j < a + n → p j ≡ false
none_passes p a n j none low high = by_case (p j) refl
  where
    by_case : (b : Bool) → p j ≡ b → p j ≡ false
    by_case false e = e
    by_case true e =
        let at = get_or-range_with_len a n (j - a) 0 (omega arith) in
        let len : length (range_with_len a n) ≡ n = length-range_with_len a n in
        let same : a + (j - a) ≡ j = omega arith in
        let any = list_any_at p (range_with_len a n) (j - a) 0 (omega arith) (rw (at, same) e) in
        cc

stands_not : (b : Bool) (e : ElfReadError) → cond b (Some e) None ≡ None → b ≡ false
stands_not true e none = cc
stands_not false e none = refl

-- a section with relocations is sound
pub not_bad : (bytes : List ℕ) (t j : ℕ) → first_of (relocation_faults bytes t) ≡ None → 1 ≤ j → j < section_count bytes
    → holds_relocations bytes t j ≡ true → is_bad_relocation_table bytes j ≡ false
unfolding relocation_faults
not_bad bytes t j sound low high holds =
    let none = stands_not _ _ sound in
    let here = none_passes (λ j. holds_relocations bytes t j && is_bad_relocation_table bytes j) 1 (section_count bytes - 1) j none low (omega arith) in
    rw holds at here

-- the entries of a sound section are inside the file
pub entries_inside : (bytes : List ℕ) (j : ℕ) → is_bad_relocation_table bytes j ≡ false → 0 < entry_count record { file = bytes; index = j }
    → (section bytes j).sh_offset + relocation_size (section bytes j).sh_type * entry_count record { file = bytes; index = j } ≤ length bytes
unfolding is_bad_relocation_table
entries_inside bytes j sound some = by_kind ((section bytes j).sh_type == SHT_REL) refl
  where
    by_kind : (b : Bool) → ((section bytes j).sh_type == SHT_REL) ≡ b → (section bytes j).sh_offset + relocation_size (section bytes j).sh_type * entry_count record { file = bytes; index = j } ≤ length bytes
    by_kind true e = rw e (grind (arith, nat_tests, rw e at sound, rw e at some))
    by_kind false e = rw e (grind (arith, nat_tests, rw e at sound, rw e at some))

-- an entry before the end has 16 bytes
pub entry_inside : (kind offset size entry_index count length : ℕ) → size ≡ relocation_size kind → entry_index < count → offset + size * count ≤ length
    → offset + size * entry_index + 16 ≤ length
entry_inside kind offset size entry_index count length sized before inside = by_kind (kind == SHT_REL) refl
  where
    by_kind : (b : Bool) → (kind == SHT_REL) ≡ b → offset + size * entry_index + 16 ≤ length
    by_kind true e = let s : size ≡ 16 = rw e at sized in rw s (omega (arith, rw s at inside))
    by_kind false e = let s : size ≡ 24 = rw e at sized in rw s (omega (arith, rw s at inside))
