-- What is written is read back.
use Rattle.std.proofs.Common.{◌≡◌, ◌+◌, ◌*◌, ◌/◌, ◌^◌, ◌<◌, ℕ, zero, suc, Bool, true, false, List, [], ◌∷◌, ◌++◌, length, get_or, Some, refl, sym, ap, ◌∙◌, arith, subst}
use Rattle.std.specs.Prelude.{flat_map}
use Rattle.std.proofs.lemmas.List.{length-append}
use Rattle.byteorder.specs.Numbers.{little_number-reads_back, big_number-reads_back, length-bytes_low_first, length-bytes_high_first}
use Rattle.ebpf_base.specs.declared.endianness.Endianness.{Endianness}
use Rattle.ebpf_base.specs.declared.endianness.Endianness.TheVariants.{Little, Big}
use Rattle.ebpf_btf.specs.declared.kind.BtfKind.{BtfKind}
use Rattle.ebpf_btf.specs.declared.kind.BtfKind.TheVariants as kinds
use Rattle.ebpf_btf.specs.declared.members.BtfMember.{BtfMember}
use Rattle.ebpf_btf.specs.declared.members.BtfEnum.{BtfEnum}
use Rattle.ebpf_btf.specs.declared.members.BtfEnum64.{BtfEnum64}
use Rattle.ebpf_btf.specs.declared.members.BtfParam.{BtfParam}
use Rattle.ebpf_btf.specs.declared.members.DataSecEntry.{DataSecEntry}
use Rattle.ebpf_btf.specs.declared.types.BtfType.{BtfType}
use Rattle.ebpf_btf.specs.declared.types.BtfType.TheVariants.{Unknown, Int, Enum, Array, Struct, Union, FuncProto, Var, DataSec, DeclTag, Enum64}
use Rattle.ebpf_base.specs.Numbers.{number_at}
use Rattle.ebpf_btf.specs.Items.{items_at}
use Rattle.ebpf_btf.specs.Offsets.{without_fallback}
use Rattle.ebpf_btf.specs.Format.{end_of, IsTypeAt, word, info_vlen, info_kind_flag, info_kind_number, vlen_at, further_words, spelled, member_at, enum_at, enum64_at, param_at, entry_at}
use Rattle.ebpf_btf.specs.Types.{kind_of, kind_number, name_off, size_word, type_word}
use Rattle.ebpf_btf.specs.Words.{word_bytes, words_bytes, member_words, third_of, words_of, further_of, flag_of, count_of, info_word, type_length}
use Rattle.ebpf_btf.proofs.InOrder.{items_more, items_none}
use Rattle.ebpf_btf.proofs.Beside.{kind_without}
use Rattle.ebpf_btf.proofs.KindRows.{numbers_of_kinds}
use Rattle.ebpf_btf.proofs.WordsBehind.{word_behind}

-- ---- words in bytes

pub length_word : (o : Endianness) (w : ℕ) → length (word_bytes o w) ≡ 4
unfolding word_bytes
length_word Little w = length-bytes_low_first 0 4 w
length_word Big w = length-bytes_high_first 4 w

pub first_word : (o : Endianness) (w : ℕ) (rest : List ℕ) → w < 2 ^ 32 → word o (word_bytes o w ++ rest) 0 ≡ w
unfolding word_bytes number_at
first_word Little w rest fits = little_number-reads_back 4 w rest fits
first_word Big w rest fits = big_number-reads_back 4 w rest fits

pub length_words : (o : Endianness) (ws : List ℕ) → length (words_bytes o ws) ≡ 4 * length ws
unfolding words_bytes
length_words o [] = refl
length_words o (w ∷ ws) =
    let rest = length_words o ws in
    let one = length_word o w in
    omega (arith, length-append (word_bytes o w) (words_bytes o ws))

pub word_again : (o : Endianness) (ws : List ℕ) (i : ℕ) → i < length ws → get_or ws i 0 < 2 ^ 32 → word o (words_bytes o ws) (4 * i) ≡ get_or ws i 0
unfolding words_bytes
word_again o [] i below fits = absurd (omega arith)
word_again o (w ∷ ws) zero below fits = first_word o w (words_bytes o ws) fits
word_again o (w ∷ ws) (suc i) below fits =
    let moved : 4 * suc i ≡ length (word_bytes o w) + 4 * i = omega (arith, length_word o w) in
    ap (word o (word_bytes o w ++ words_bytes o ws)) moved ∙ word_behind o (word_bytes o w) (words_bytes o ws) (4 * i) ∙ word_again o ws i (omega arith) fits

-- some bytes have these words
pub record HasWords (o : Endianness) (bytes ws : List ℕ) : Type 0 where
  pub word_is : (i : ℕ) → i < length ws → word o bytes (4 * i) ≡ get_or ws i 0

-- ---- rows

items_first : {X : Type 0} (f : ℕ → X) (size p n : ℕ) → items_at f size p (n + 1) ≡ f p ∷ items_at f size (p + size) n
items_first f size p zero =
    let here : p + size * 0 ≡ p = omega arith in
    items_more f size p 0 ∙ (λ i. items_none f size p i ++ f (here i) ∷ []) ∙ ap (λ xs. f p ∷ xs) (sym (items_none f size (p + size)))
items_first f size p (suc n) =
    let next : suc n ≡ n + 1 = omega arith in
    let before : items_at f size p (suc n) ≡ f p ∷ items_at f size (p + size) n = subst (λ (m : ℕ). items_at f size p m ≡ f p ∷ items_at f size (p + size) n) (sym next) (items_first f size p n) in
    let last : p + size * suc n ≡ p + size + size * n = omega arith in
    let after : items_at f size (p + size) (suc n) ≡ items_at f size (p + size) n ++ f (p + size + size * n) ∷ [] = subst (λ (m : ℕ). items_at f size (p + size) m ≡ items_at f size (p + size) n ++ f (p + size + size * n) ∷ []) (sym next) (items_more f size (p + size) n) in
    items_more f size p (suc n) ∙ (λ i. before i ++ f (last i) ∷ []) ∙ ap (λ xs. f p ∷ xs) (sym after)

-- rows of three words
three : {X : Type 0} (W : ℕ → ℕ) (make : ℕ → ℕ → ℕ → X) (a b c : X → ℕ) → ((x : X) → make (a x) (b x) (c x) ≡ x) → (xs : List X) (offset : ℕ)
    → ((i : ℕ) → i < 3 * length xs → W (offset + 4 * i) ≡ get_or (flat_map (λ x. a x ∷ b x ∷ c x ∷ []) xs) i 0)
    → items_at (λ p. make (W p) (W (p + 4)) (W (p + 8))) 12 offset (length xs) ≡ xs
three W make a b c same [] offset words = items_none (λ p. make (W p) (W (p + 4)) (W (p + 8))) 12 offset
three W make a b c same (x ∷ xs) offset words =
    let at0 : offset ≡ offset + 4 * 0 = omega arith in
    let u = ap W at0 ∙ words 0 (omega arith) in
    let v = words 1 (omega arith) in
    let w = words 2 (omega arith) in
    let first : make (W offset) (W (offset + 4)) (W (offset + 8)) ≡ x = (λ i. make (u i) (v i) (w i)) ∙ same x in
    let rest = three W make a b c same xs (offset + 12) (λ i below. ap W (later i) ∙ words (suc (suc (suc i))) (omega arith)) in
    let next : suc (length xs) ≡ length xs + 1 = omega arith in
    ap (items_at (λ p. make (W p) (W (p + 4)) (W (p + 8))) 12 offset) next ∙ items_first (λ p. make (W p) (W (p + 4)) (W (p + 8))) 12 offset (length xs) ∙ (λ i. first i ∷ rest i)
  where
    later : (i : ℕ) → offset + 12 + 4 * i ≡ offset + 4 * suc (suc (suc i))
    later i = omega arith

-- rows of two words
two : {X : Type 0} (W : ℕ → ℕ) (make : ℕ → ℕ → X) (a b : X → ℕ) → ((x : X) → make (a x) (b x) ≡ x) → (xs : List X) (offset : ℕ)
    → ((i : ℕ) → i < 2 * length xs → W (offset + 4 * i) ≡ get_or (flat_map (λ x. a x ∷ b x ∷ []) xs) i 0)
    → items_at (λ p. make (W p) (W (p + 4))) 8 offset (length xs) ≡ xs
two W make a b same [] offset words = items_none (λ p. make (W p) (W (p + 4))) 8 offset
two W make a b same (x ∷ xs) offset words =
    let at0 : offset ≡ offset + 4 * 0 = omega arith in
    let u = ap W at0 ∙ words 0 (omega arith) in
    let v = words 1 (omega arith) in
    let first : make (W offset) (W (offset + 4)) ≡ x = (λ i. make (u i) (v i)) ∙ same x in
    let rest = two W make a b same xs (offset + 8) (λ i below. ap W (later i) ∙ words (suc (suc i)) (omega arith)) in
    let next : suc (length xs) ≡ length xs + 1 = omega arith in
    ap (items_at (λ p. make (W p) (W (p + 4))) 8 offset) next ∙ items_first (λ p. make (W p) (W (p + 4))) 8 offset (length xs) ∙ (λ i. first i ∷ rest i)
  where
    later : (i : ℕ) → offset + 8 + 4 * i ≡ offset + 4 * suc (suc i)
    later i = omega arith

length_three : {X : Type 0} (a b c : X → ℕ) (xs : List X) → length (flat_map (λ x. a x ∷ b x ∷ c x ∷ []) xs) ≡ 3 * length xs
length_three a b c [] = refl
length_three a b c (x ∷ xs) = let rest = length_three a b c xs in omega arith

length_two : {X : Type 0} (a b : X → ℕ) (xs : List X) → length (flat_map (λ x. a x ∷ b x ∷ []) xs) ≡ 2 * length xs
length_two a b [] = refl
length_two a b (x ∷ xs) = let rest = length_two a b xs in omega arith

length_members : (ms : List BtfMember) → length (flat_map member_words ms) ≡ 3 * length ms
length_members ms = length_three (λ (r : BtfMember). r.name_offset) (λ (r : BtfMember). r.btf_type) (λ (r : BtfMember). r.offset) ms

-- ---- the info word

count_again : (kind count : ℕ) (flag : Bool) → count < 65536 → kind < 32 → info_vlen (info_word kind flag count) ≡ count
unfolding info_vlen
count_again kind count true few low = omega arith
count_again kind count false few low = omega arith

kind_again : (kind count : ℕ) (flag : Bool) → count < 65536 → kind < 32 → info_kind_number (info_word kind flag count) ≡ kind
kind_again kind count true few low = omega arith
kind_again kind count false few low = omega arith

flag_again : (kind count : ℕ) (flag : Bool) → count < 65536 → kind < 32 → info_kind_flag (info_word kind flag count) ≡ flag
unfolding info_kind_flag
flag_again kind count true few low =
    let e : (count + kind * 2 ^ 24 + 2 ^ 31) / 2 ^ 31 ≡ 1 = omega arith in
    rw e refl
flag_again kind count false few low =
    let e : (count + kind * 2 ^ 24 + 0) / 2 ^ 31 ≡ 0 = omega arith in
    rw e refl

low_kind : (kind : BtfKind) → kind_number kind < 32
unfolding kind_number
low_kind kinds.Unknown = omega arith
low_kind _ = omega arith

-- ---- a type

pub length_of_words : (t : BtfType) → 4 * length (words_of t) ≡ type_length t
unfolding words_of type_length kind_of count_of further_of further_words
length_of_words (Enum x0 x1 x2 x3) = omega (arith, length_two (λ (r : BtfEnum). r.name_offset) (λ (r : BtfEnum). r.value) x3)
length_of_words (Struct x0 x1 x2 x3) = omega (arith, length_members x3)
length_of_words (Union x0 x1 x2 x3 x4) = omega (arith, length_members x3)
length_of_words (FuncProto x0 x1 x2) = omega (arith, length_two (λ (r : BtfParam). r.name_offset) (λ (r : BtfParam). r.btf_type) x2)
length_of_words (DataSec x0 x1 x2) = omega (arith, length_three (λ (r : DataSecEntry). r.btf_type) (λ (r : DataSecEntry). r.offset) (λ (r : DataSecEntry). r.size) x2)
length_of_words (Enum64 x0 x1 x2 x3) = omega (arith, length_three (λ (r : BtfEnum64). r.name_offset) (λ (r : BtfEnum64). r.value_low) (λ (r : BtfEnum64). r.value_high) x3)
length_of_words _ = omega arith

behind : (o : Endianness) (bytes further : List ℕ) (a b c : ℕ) → HasWords o bytes (a ∷ b ∷ c ∷ further) → (i : ℕ) → i < length further → word o bytes (12 + 4 * i) ≡ get_or further i 0
behind o bytes further a b c has i below = ap (word o bytes) (three_before i) ∙ has.word_is (suc (suc (suc i))) (omega arith)
  where
    three_before : (i : ℕ) → 12 + 4 * i ≡ 4 * suc (suc (suc i))
    three_before i = omega arith

three_again : {X : Type 0} (o : Endianness) (bytes : List ℕ) (make : ℕ → ℕ → ℕ → X) (a b c : X → ℕ) → ((x : X) → make (a x) (b x) (c x) ≡ x) → (xs : List X) (u v w : ℕ)
    → HasWords o bytes (u ∷ v ∷ w ∷ flat_map (λ x. a x ∷ b x ∷ c x ∷ []) xs)
    → items_at (λ p. make (word o bytes p) (word o bytes (p + 4)) (word o bytes (p + 8))) 12 12 (length xs) ≡ xs
three_again o bytes make a b c same xs u v w has =
    let all = length_three a b c xs in
    three (word o bytes) make a b c same xs 12 (λ i below. behind o bytes _ u v w has i (omega arith))

two_again : {X : Type 0} (o : Endianness) (bytes : List ℕ) (make : ℕ → ℕ → X) (a b : X → ℕ) → ((x : X) → make (a x) (b x) ≡ x) → (xs : List X) (u v w : ℕ)
    → HasWords o bytes (u ∷ v ∷ w ∷ flat_map (λ x. a x ∷ b x ∷ []) xs)
    → items_at (λ p. make (word o bytes p) (word o bytes (p + 4))) 8 12 (length xs) ≡ xs
two_again o bytes make a b same xs u v w has =
    let all = length_two a b xs in
    two (word o bytes) make a b same xs 12 (λ i below. behind o bytes _ u v w has i (omega arith))

-- the rows of a STRUCT and of a UNION
members_again : (o : Endianness) (bytes : List ℕ) (ms : List BtfMember) (u v w : ℕ) → HasWords o bytes (u ∷ v ∷ w ∷ flat_map member_words ms)
    → items_at (member_at o bytes) 12 12 (length ms) ≡ ms
unfolding member_at
members_again o bytes ms u v w has =
    three_again o bytes (λ m0 m1 m2. record { name_offset = m0; btf_type = m1; offset = m2 }) (λ (r : BtfMember). r.name_offset) (λ (r : BtfMember). r.btf_type) (λ (r : BtfMember). r.offset) (λ x. refl) ms u v w has

type_again : (o : Endianness) (bytes : List ℕ) (t : BtfType) → vlen_at o bytes 0 ≡ count_of t → info_kind_flag (word o bytes 4) ≡ flag_of t
    → HasWords o bytes (words_of t) → word o bytes 0 ≡ name_off t → word o bytes 8 ≡ third_of t → spelled o bytes 0 (kind_of t) ≡ without_fallback t
unfolding words_of name_off kind_of kind_number flag_of count_of size_word type_word further_of without_fallback spelled enum_at enum64_at param_at entry_at
type_again o bytes (Int x0 x1 x2) counted flagged has name third = cc (has.word_is 3 (omega arith))
type_again o bytes (Enum x0 x1 x2 x3) counted flagged has name third =
    let rows : items_at (enum_at o bytes) 8 12 (length x3) ≡ x3 =
    two_again o bytes (λ m0 m1. record { name_offset = m0; value = m1 }) (λ (r : BtfEnum). r.name_offset) (λ (r : BtfEnum). r.value) (λ x. refl) x3 _ _ _ has in
    cc
type_again o bytes (Array x0 x1 x2 x3) counted flagged has name third = cc (has.word_is 3 (omega arith), has.word_is 4 (omega arith), has.word_is 5 (omega arith))
type_again o bytes (Struct x0 x1 x2 x3) counted flagged has name third = cc (members_again o bytes x3 _ _ _ has)
type_again o bytes (Union x0 x1 x2 x3 x4) counted flagged has name third = cc (members_again o bytes x3 _ _ _ has)
type_again o bytes (FuncProto x0 x1 x2) counted flagged has name third =
    let rows : items_at (param_at o bytes) 8 12 (length x2) ≡ x2 =
    two_again o bytes (λ m0 m1. record { name_offset = m0; btf_type = m1 }) (λ (r : BtfParam). r.name_offset) (λ (r : BtfParam). r.btf_type) (λ x. refl) x2 _ _ _ has in
    cc
type_again o bytes (Var x0 x1 x2) counted flagged has name third = cc (has.word_is 3 (omega arith))
type_again o bytes (DataSec x0 x1 x2) counted flagged has name third =
    let rows : items_at (entry_at o bytes) 12 12 (length x2) ≡ x2 =
    three_again o bytes (λ m0 m1 m2. record { btf_type = m0; offset = m1; size = m2 }) (λ (r : DataSecEntry). r.btf_type) (λ (r : DataSecEntry). r.offset) (λ (r : DataSecEntry). r.size) (λ x. refl) x2 _ _ _ has in
    cc
type_again o bytes (DeclTag x0 x1 x2) counted flagged has name third = cc (has.word_is 3 (omega arith))
type_again o bytes (Enum64 x0 x1 x2 x3) counted flagged has name third =
    let rows : items_at (enum64_at o bytes) 12 12 (length x3) ≡ x3 =
    three_again o bytes (λ m0 m1 m2. record { name_offset = m0; value_low = m1; value_high = m2 }) (λ (r : BtfEnum64). r.name_offset) (λ (r : BtfEnum64). r.value_low) (λ (r : BtfEnum64). r.value_high) (λ x. refl) x3 _ _ _ has in
    cc
type_again o bytes _ counted flagged has name third = cc

-- bytes with the words of a type are the type's
pub written : (o : Endianness) (bytes : List ℕ) (t : BtfType) → count_of t < 65536 → 0 < kind_number (kind_of t) → HasWords o bytes (words_of t)
    → IsTypeAt o bytes 0 (type_length t) (without_fallback t)
unfolding words_of type_length
written o bytes t few some has =
    let kind : kind_of (without_fallback t) ≡ kind_of t = kind_without t in
    let low = low_kind (kind_of t) in
    let info : word o bytes 4 ≡ info_word (kind_number (kind_of t)) (flag_of t) (count_of t) = has.word_is 1 (omega arith) in
    let counted : vlen_at o bytes 0 ≡ count_of t = ap info_vlen info ∙ count_again (kind_number (kind_of t)) (count_of t) (flag_of t) few low in
    let flagged : info_kind_flag (word o bytes 4) ≡ flag_of t = ap info_kind_flag info ∙ flag_again (kind_number (kind_of t)) (count_of t) (flag_of t) few low in
    let kinded : info_kind_number (word o bytes 4) ≡ kind_number (kind_of t) = ap info_kind_number info ∙ kind_again (kind_number (kind_of t)) (count_of t) (flag_of t) few low in
    let ends : type_length t ≡ end_of o bytes 0 (kind_of t) = ap (λ n. 12 + 4 * further_words (kind_of t) n) (sym counted) in
    record {
      kind = numbers_of_kinds (word o bytes 4) (kind_of t) some kinded ∙ ap Some (sym kind);
      words = sym (type_again o bytes t counted flagged has (has.word_is 0 (omega arith)) (has.word_is 2 (omega arith))) ∙ ap (spelled o bytes 0) (sym kind);
      ends = ends ∙ ap (end_of o bytes 0) (sym kind);
    }
