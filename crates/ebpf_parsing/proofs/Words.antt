-- A number of four bytes, by its bytes.
use Rattle.std.proofs.Common.{◌≡◌, ℕ, List, ap, arith, ◌+◌, ◌*◌, drop, ◌∙◌}
use Rattle.std.proofs.lemmas.List.{get_or-drop}
use Rattle.std.specs.Prelude.{slice_index}
use Rattle.ebpf_base.specs.Numbers.{number_at}
use Rattle.ebpf_parsing.specs.Maps.{word_at}

byte_behind : (bytes : List ℕ) (offset i : ℕ) → slice_index (drop offset bytes) i ≡ slice_index bytes (offset + i)
byte_behind bytes offset i = get_or-drop offset bytes i 0

pub word_by_bytes : (bytes : List ℕ) (offset : ℕ) → word_at bytes offset ≡ slice_index bytes offset + 256 * slice_index bytes (offset + 1) + 65536 * (slice_index bytes (offset + 2) + 256 * slice_index bytes (offset + 3))
unfolding word_at number_at
word_by_bytes bytes offset =
    let first : offset + 0 ≡ offset = omega arith in
    let b0 : slice_index (drop offset bytes) 0 ≡ slice_index bytes offset = byte_behind bytes offset 0 ∙ ap (slice_index bytes) first in
    let b1 : slice_index (drop offset bytes) 1 ≡ slice_index bytes (offset + 1) = byte_behind bytes offset 1 in
    let b2 : slice_index (drop offset bytes) 2 ≡ slice_index bytes (offset + 2) = byte_behind bytes offset 2 in
    let b3 : slice_index (drop offset bytes) 3 ≡ slice_index bytes (offset + 3) = byte_behind bytes offset 3 in
    omega (arith, b0, b1, b2, b3)
