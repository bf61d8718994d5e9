-- Words and bytes, appended.
use Rattle.std.proofs.Common.{◌≡◌, ◌+◌, ◌*◌, ◌^◌, ◌<◌, subst, ℕ, List, [], ◌∷◌, ◌++◌, length, take, get_or, refl, sym, ap, ◌∙◌, append-nil}
use Rattle.std.specs.Prelude.{flat_map}
use Rattle.std.proofs.lemmas.Grind.{flat_map-append}
use Rattle.std.proofs.lemmas.List.{take_more}
use Rattle.ebpf_base.specs.declared.endianness.Endianness.{Endianness}
use Rattle.ebpf_btf.specs.Offsets.{without_fallback}
use Rattle.ebpf_btf.specs.declared.types.BtfType.{BtfType}
use Rattle.ebpf_btf.specs.Format.{IsTypeAt}
use Rattle.ebpf_btf.specs.Types.{kind_of, kind_number}
use Rattle.ebpf_btf.specs.Words.{count_of, type_length, word_bytes, words_bytes, words_of}
use Rattle.ebpf_btf.proofs.ReadBack.{HasWords, word_again, length_words, length_of_words, written}

pub bytes_none : (o : Endianness) → words_bytes o [] ≡ []
unfolding words_bytes
bytes_none o = refl

pub bytes_more : (o : Endianness) (ws : List ℕ) (w : ℕ) → words_bytes o (ws ++ w ∷ []) ≡ words_bytes o ws ++ word_bytes o w
unfolding words_bytes
bytes_more o ws w = flat_map-append (word_bytes o) ws (w ∷ []) ∙ ap (λ xs. flat_map (word_bytes o) ws ++ xs) (append-nil (word_bytes o w))

pub bytes_step : (o : Endianness) (ws : List ℕ) (i : ℕ) → i < length ws
    → words_bytes o (take (i + 1) ws) ≡ words_bytes o (take i ws) ++ word_bytes o (get_or ws i 0)
bytes_step o ws i below = ap (words_bytes o) (take_more ws i 0 below) ∙ bytes_more o (take i ws) (get_or ws i 0)

pub with_header : (a b c : ℕ) (xs : List ℕ) → (a ∷ b ∷ c ∷ []) ++ xs ≡ a ∷ b ∷ c ∷ xs
with_header a b c xs = refl

-- ---- the bytes of a type

pub written_type : (o : Endianness) (t : BtfType) (ws bytes : List ℕ) → count_of t < 65536 → 0 < kind_number (kind_of t)
    → ((i : ℕ) → i < length ws → get_or ws i 0 < 2 ^ 32) → ws ≡ words_of t → bytes ≡ words_bytes o ws
    → IsTypeAt o bytes 0 (length bytes) (without_fallback t)
written_type o t ws bytes few some fits are spelled =
    let all : HasWords o (words_bytes o ws) ws = record { word_is = λ i below. word_again o ws i below (fits i below) } in
    let has : HasWords o bytes (words_of t) = subst (λ (vs : List ℕ). HasWords o bytes vs) are (subst (λ (xs : List ℕ). HasWords o xs ws) (sym spelled) all) in
    let long : length bytes ≡ type_length t = ap length spelled ∙ length_words o ws ∙ ap (λ (vs : List ℕ). 4 * length vs) are ∙ length_of_words t in
    subst (λ (n : ℕ). IsTypeAt o bytes 0 n (without_fallback t)) (sym long) (written o bytes t few some has)
