-- The header of `.BTF` (the kernel's Documentation/bpf/btf.rst, 2. "BTF Type and String Encoding";
-- struct btf_header).
use Rattle.std.specs.Prelude.{ℕ, List, [], ◌∷◌, slice_index, ◌==◌, if◌then◌else◌}
use Rattle.ebpf_base.specs.declared.endianness.Endianness.{Endianness}
use Rattle.ebpf_base.specs.declared.endianness.Endianness.TheVariants.{Little, Big}
use Rattle.ebpf_btf.specs.Words.{words_bytes}

-- the byte order of the magic: its low byte is the first byte in Little
unfoldable pub order_of : List ℕ → Endianness
order_of bytes = if slice_index bytes 0 == 0x9F then Little else Big

-- the magic, the version 1 and no flags
unfoldable pub first_word : Endianness → ℕ
first_word Little = 0x0001EB9F
first_word Big = 0xEB9F0100

-- the header before types of a length and strings of a length behind them
unfoldable pub header_bytes : Endianness → ℕ → ℕ → List ℕ
header_bytes o types strings = words_bytes o (first_word o ∷ 24 ∷ 0 ∷ types ∷ types ∷ strings ∷ [])
