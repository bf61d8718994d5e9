-- What is read of `.BTF.ext` without kind 12 is read with it.
use Rattle.std.proofs.Common.{◌≡◌, ◌+◌, ◌*◌, ℕ, true, false, List, [], ◌∷◌, map, Option, Some, None, Result, Ok, Err, refl}
use Rattle.std.specs.List.{range_with_len}
use Rattle.ebpf_base.specs.Faults.{if_ok}
use Rattle.ebpf_btf.specs.Next.{if_some}
use Rattle.ebpf_base.specs.declared.endianness.Endianness.{Endianness}
use Rattle.ebpf_base.specs.declared.endianness.Endianness.TheVariants.{Little}
use Rattle.ebpf_btf.specs.Format.{word}
use Rattle.ebpf_btf.specs.declared.error.BtfError.{BtfError}
use Rattle.ebpf_btf.specs.declared.error.BtfError.TheVariants.{InvalidRelocationKind}
use Rattle.ebpf_btf_ext.specs.ExtFormat.{all_ok, core_relo_at, core_relos_at, num_info_at, sec_name_off_at}
use Rattle.ebpf_btf_ext.specs.ExtReading.{AreSectionsAt, ExtInfo, KnownKindsAddNothing, SpellsExt, section_core_relos}
use Rattle.ebpf_btf_ext.specs.RelocationKinds.{known_kind}
use Rattle.ebpf_btf_ext.specs.declared.relocation.Relocation.{Relocation}
use Rattle.ebpf_btf_ext.specs.declared.relocation.RelocationKind.{RelocationKind}
use Rattle.ebpf_btf_ext.proofs.ExtSections.{again_from, found_from}
use Rattle.ebpf_btf_ext.proofs.Relocations.{known_with}

-- ---- one relocation

one_with : (bytes : List ℕ) (size offset number : ℕ) (r : Relocation) → core_relo_at false bytes size offset number ≡ Ok r → core_relo_at true bytes size offset number ≡ Ok r
unfolding core_relo_at
one_with bytes size offset number r is = by_kind (known_kind false (word Little bytes (offset + size * number + 12))) refl is
  where
    made : RelocationKind → Result Relocation BtfError
    made kind = Ok (record {
      insn_off = word Little bytes (offset + size * number);
      type_id = word Little bytes (offset + size * number + 4);
      access_str_off = word Little bytes (offset + size * number + 8);
      kind = kind;
      number = number;
    })

    by_kind : (k : Option RelocationKind) → known_kind false (word Little bytes (offset + size * number + 12)) ≡ k
        → if_some k made (Err (InvalidRelocationKind (word Little bytes (offset + size * number + 12)))) ≡ Ok r
        → if_some (known_kind true (word Little bytes (offset + size * number + 12))) made (Err (InvalidRelocationKind (word Little bytes (offset + size * number + 12)))) ≡ Ok r
    by_kind None known same = cc
    by_kind (Some kind) known same = rw (known_with _ kind known) same

-- ---- all relocations of a section

all_with : {X : Type 0} (f g : ℕ → Result X BtfError) → ((n : ℕ) (x : X) → f n ≡ Ok x → g n ≡ Ok x) → (ns : List ℕ) (xs : List X)
    → all_ok (map f ns) ≡ Ok xs → all_ok (map g ns) ≡ Ok xs
all_with f g more [] xs is = is
all_with {X} f g more (n ∷ ns) xs is = by_first (λ ys read. all_with f g more ns ys read) (f n) refl is
  where
    Again : Type 0
    Again = (ys : List X) → all_ok (map f ns) ≡ Ok ys → all_ok (map g ns) ≡ Ok ys

    by_rest : Again → (x : X) (r : Result (List X) BtfError) → all_ok (map f ns) ≡ r → if_ok r (λ ys. Ok (x ∷ ys)) ≡ Ok xs → if_ok (all_ok (map g ns)) (λ ys. Ok (x ∷ ys)) ≡ Ok xs
    by_rest again x (Err e) read same = cc
    by_rest again x (Ok ys) read same = rw (again ys read) same

    by_first : Again → (r : Result X BtfError) → f n ≡ r → if_ok r (λ x. if_ok (all_ok (map f ns)) (λ ys. Ok (x ∷ ys))) ≡ Ok xs
        → if_ok (g n) (λ x. if_ok (all_ok (map g ns)) (λ ys. Ok (x ∷ ys))) ≡ Ok xs
    by_first again (Err e) read same = cc
    by_first again (Ok x) read same = rw (more n x read) (by_rest again x (all_ok (map f ns)) refl same)

section_with_matches : (o : Endianness) (bytes : List ℕ) (size offset : ℕ) (s : ℕ × List Relocation) → section_core_relos false o bytes size offset ≡ Ok s → section_core_relos true o bytes size offset ≡ Ok s
unfolding section_core_relos core_relos_at
section_with_matches o bytes size offset s is = by_all (all_ok (map (core_relo_at false bytes size (offset + 8)) (range_with_len 0 (num_info_at o bytes offset)))) refl is
  where
    by_all : (r : Result (List Relocation) BtfError) → all_ok (map (core_relo_at false bytes size (offset + 8)) (range_with_len 0 (num_info_at o bytes offset))) ≡ r
        → if_ok {X = ℕ × List Relocation} r (λ all. Ok (sec_name_off_at o bytes offset, all)) ≡ Ok s
        → if_ok {X = ℕ × List Relocation} (all_ok (map (core_relo_at true bytes size (offset + 8)) (range_with_len 0 (num_info_at o bytes offset)))) (λ all. Ok (sec_name_off_at o bytes offset, all)) ≡ Ok s
    by_all (Err e) read same = cc
    by_all (Ok all) read same = rw (all_with _ (core_relo_at true bytes size (offset + 8)) (one_with bytes size (offset + 8)) _ all read) same

-- ---- all sections

sections_with : (o : Endianness) (bytes : List ℕ) (size end offset : ℕ) (all : List (ℕ × List Relocation))
    → AreSectionsAt o bytes 16 size end (section_core_relos false o bytes size) offset all → AreSectionsAt o bytes 16 size end (section_core_relos true o bytes size) offset all
sections_with o bytes size end offset [] are = are
sections_with o bytes size end offset (s ∷ all) are = (
  are.0,
  record {
    sound = are.1.sound;
    ends = are.1.ends;
    gives = section_with_matches o bytes size offset s are.1.gives;
  },
  sections_with o bytes size end are.0 all are.2,
)

spells_with : (o : Endianness) (bytes strings : List ℕ) (ext : ExtInfo) → SpellsExt false o bytes strings ext → SpellsExt true o bytes strings ext
spells_with o bytes strings ext is = record {
  header = is.header;
  funcs = is.funcs;
  lines = is.lines;
  relocations = record {
    sound = is.relocations.sound;
    sections_are = sections_with o bytes _ _ _ _ is.relocations.sections_are;
  };
  func_record_size = is.func_record_size;
  line_record_size = is.line_record_size;
}

pub known_kinds_add_nothing : KnownKindsAddNothing
known_kinds_add_nothing o bytes strings ext is =
    again_from true o bytes strings ext (spells_with o bytes strings ext (found_from false o bytes strings ext is))
