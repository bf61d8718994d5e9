-- What the first sections of an object need.
use Rattle.std.specs.Prelude.{ℕ, ◌+◌, ◌*◌, ◌<◌, ◌≤◌, List, length}
use Rattle.ebpf_elf.specs.Headers.{e_shoff, e_shnum}
use Rattle.cli_common.specs.EmbeddedObjects.{section_data_end, within}

-- nothing ends behind this place: the header, the section headers, so many sections
pub record EnclosesFirst (bytes : List ℕ) (count : ℕ) (end : ℕ) : Type 0 where
  pub header : 64 ≤ end
  pub section_headers : within (e_shoff bytes + 64 * e_shnum bytes) (length bytes) ≤ end
  pub sections : (i : ℕ) → i < count → section_data_end bytes (e_shoff bytes + 64 * i) ≤ end
