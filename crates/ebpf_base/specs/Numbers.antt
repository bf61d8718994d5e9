-- The number in the n bytes from an offset on, in either byte order.
use Rattle.std.specs.Prelude.{ℕ, List, drop}
use Rattle.byteorder.specs.Endian.{little_number, big_number}
use Rattle.ebpf_base.specs.declared.endianness.Endianness.{Endianness}
use Rattle.ebpf_base.specs.declared.endianness.Endianness.TheVariants.{Little, Big}

-- the number in the n bytes from an offset on
unfoldable pub number_at : Endianness → ℕ → List ℕ → ℕ → ℕ
number_at Little n bytes offset = little_number n (drop offset bytes)
number_at Big n bytes offset = big_number n (drop offset bytes)
