-- A header that is written is read back.
use Rattle.std.proofs.Common.{◌≡◌, ◌+◌, ◌*◌, ◌-◌, ◌^◌, ◌<◌, ◌==◌, ℕ, true, false, nat_lt, List, [], ◌∷◌, ◌++◌, length, take, drop, get_or, None, Ok, refl, sym, ap, ◌∙◌, arith, subst, append_assoc, take_all}
use Rattle.std.specs.Prelude.{slice_range}
use Rattle.std.proofs.lemmas.Bool.Decides.{nat_tests}
use Rattle.std.proofs.lemmas.List.{length-append}
use Rattle.std.proofs.Math.Seq.{drop-append_seam, take-append_seam}
use Rattle.ebpf_base.specs.declared.endianness.Endianness.{Endianness}
use Rattle.ebpf_base.specs.declared.endianness.Endianness.TheVariants.{Little, Big}
use Rattle.ebpf_btf.specs.declared.types.BtfType.{BtfType}
use Rattle.ebpf_btf.specs.declared.types.BtfType.TheVariants.{Unknown}
use Rattle.ebpf_btf.specs.Format.{AreTypesAt, word}
use Rattle.ebpf_btf.specs.Header.{first_word, header_bytes, order_of}
use Rattle.ebpf_base.specs.Numbers.{number_at}
use Rattle.ebpf_btf.specs.Reading.{header_fault, header_length, magic, strings_end, strings_in, strings_start, type_info_of, types_end, types_part, types_start}
use Rattle.ebpf_btf.specs.Words.{word_bytes, words_bytes}
use Rattle.ebpf_btf.proofs.ReadBack.{length_words, word_again}
use Rattle.ebpf_btf.proofs.Spelling.{again_from}
use Rattle.ebpf_btf.proofs.WordsBehind.{word_front}

abbrev pub words : Endianness → ℕ → ℕ → List ℕ
words o m n = first_word o ∷ 24 ∷ 0 ∷ m ∷ m ∷ n ∷ []

pub length_header : (o : Endianness) (m n : ℕ) → length (header_bytes o m n) ≡ 24
unfolding header_bytes
length_header o m n = length_words o (words o m n)

pub header_word : (o : Endianness) (m n : ℕ) (part strings : List ℕ) (i : ℕ) → i < 6 → get_or (words o m n) i 0 < 2 ^ 32
    → word o (header_bytes o m n ++ part ++ strings) (4 * i) ≡ get_or (words o m n) i 0
unfolding header_bytes
header_word o m n part strings i below fits =
    let h = words_bytes o (words o m n) in
    let long : length h ≡ 24 = length_words o (words o m n) in
    let longer = length-append h part in
    word_front o (h ++ part) strings (4 * i) (omega arith) ∙ word_front o h part (4 * i) (omega arith) ∙ word_again o (words o m n) i below fits

magic_is : (o : Endianness) (m n : ℕ) (part strings : List ℕ) → magic o (header_bytes o m n ++ part ++ strings) ≡ 0xEB9F
unfolding magic number_at header_bytes first_word words_bytes word_bytes
magic_is Little m n part strings = refl
magic_is Big m n part strings = refl

pub order_is : (o : Endianness) (m n : ℕ) (part strings : List ℕ) → order_of (header_bytes o m n ++ part ++ strings) ≡ o
unfolding order_of header_bytes first_word words_bytes word_bytes
order_is Little m n part strings = refl
order_is Big m n part strings = refl

pub middle : (h part strings : List ℕ) (a b : ℕ) → a ≡ length h → b ≡ a + length part → slice_range (h ++ part ++ strings) a b ≡ part
middle h part strings a b at to =
    let long : b - a ≡ length part = omega arith in
    let behind : drop a (h ++ part ++ strings) ≡ part ++ strings =
    ap (λ n. drop n (h ++ part ++ strings)) at ∙ ap (drop (length h)) (append_assoc h part strings) ∙ drop-append_seam h (part ++ strings) in
    (λ i. take (long i) (behind i)) ∙ take-append_seam part strings

last : (h part strings : List ℕ) (a b : ℕ) → a ≡ length h + length part → b ≡ a + length strings → slice_range (h ++ part ++ strings) a b ≡ strings
last h part strings a b at to =
    let long : b - a ≡ length strings = omega arith in
    let here : a ≡ length (h ++ part) = omega (arith, length-append h part) in
    let behind : drop a (h ++ part ++ strings) ≡ strings = ap (λ n. drop n (h ++ part ++ strings)) here ∙ drop-append_seam (h ++ part) strings in
    (λ i. take (long i) (behind i)) ∙ take_all (length strings) strings (omega arith)

-- the types and strings that are written are read
pub header_again : (o : Endianness) (part strings : List ℕ) (ts : List BtfType) → length part < 2 ^ 32 → length strings < 2 ^ 32 → AreTypesAt o part 0 ts
    → type_info_of o (header_bytes o (length part) (length strings) ++ part ++ strings) ≡ Ok (record { types = Unknown ∷ ts; strings = strings })
unfolding header_fault header_length types_start types_end types_part strings_start strings_end strings_in
header_again o part strings ts small short are =
    let m = length part in
    let n = length strings in
    let h = header_bytes o m n in
    let bytes = h ++ part ++ strings in
    let long : length h ≡ 24 = length_header o m n in
    let all : length bytes ≡ 24 + m + n = omega (arith, length-append h part, length-append (h ++ part) strings) in
    let head : word o bytes 4 ≡ 24 = header_word o m n part strings 1 (omega arith) (omega arith) in
    let from : word o bytes 8 ≡ 0 = header_word o m n part strings 2 (omega arith) (omega arith) in
    let size : word o bytes 12 ≡ m = header_word o m n part strings 3 (omega arith) small in
    let second : word o bytes 16 ≡ m = header_word o m n part strings 4 (omega arith) small in
    let rest : word o bytes 20 ≡ n = header_word o m n part strings 5 (omega arith) short in
    let a : nat_lt (length bytes) 24 ≡ false = grind (arith, nat_tests) in
    let b : (magic o bytes == 0xEB9F) ≡ true = grind (arith, nat_tests, magic_is o m n part strings) in
    let c : nat_lt (word o bytes 4) 24 ≡ false = grind (arith, nat_tests) in
    let d : nat_lt (length bytes) (word o bytes 4 + word o bytes 8 + word o bytes 12) ≡ false = grind (arith, nat_tests) in
    let e : nat_lt (length bytes) (word o bytes 4 + word o bytes 16 + word o bytes 20) ≡ false = grind (arith, nat_tests) in
    let sound : header_fault o bytes ≡ None = rw (a, b, c, d, e) refl in
    let types : types_part o bytes ≡ part = middle h part strings (word o bytes 4 + word o bytes 8) (word o bytes 4 + word o bytes 8 + word o bytes 12) (omega arith) (omega arith) in
    let texts : strings_in o bytes ≡ strings = last h part strings (word o bytes 4 + word o bytes 16) (word o bytes 4 + word o bytes 16 + word o bytes 20) (omega arith) (omega arith) in
    again_from o bytes (record { types = Unknown ∷ ts; strings = strings })
    (record {
      header = sound;
      types = (ts, refl, subst (λ (xs : List ℕ). AreTypesAt o xs 0 ts) (sym types) are);
      strings = sym texts;
    })
