-- Words that are written over others, one after the other: what stands where they are written, and apart from them.
use Rattle.std.proofs.Common.{◌≡◌, ◌+◌, ◌-◌, ◌^◌, ◌<◌, ◌≤◌, ◌⊎◌, inl, inr, ℕ, Bool, true, false, cond, List, [], ◌∷◌, ◌++◌, length, take, drop, refl, sym, ap, ◌∙◌, arith, nat_le, ◌*◌, zero, suc, ◌==◌, ◌&&◌, not}
use Rattle.std.proofs.lemmas.Bool.Decides.{nat_tests}
use Rattle.std.specs.List.{range_with_len}
use Rattle.std.proofs.lemmas.List.{length-append, length-drop, length-take-le, take-append-drop}
use Rattle.std.proofs.lemmas.List.Sums.{fold-append}
use Rattle.ebpf_base.specs.declared.endianness.Endianness.{Endianness}
use Rattle.ebpf_btf.proofs.InOrder.{items_none}
use Rattle.ebpf_btf.proofs.ReadBack.{length_word, first_word}
use Rattle.ebpf_btf.proofs.WordsBehind.{word_front, word_behind}
use Rattle.ebpf_btf.specs.Format.{word, entry_at, param_at}
use Rattle.ebpf_btf.specs.Words.{word_bytes}
use Rattle.ebpf_btf.specs.Items.{items_at}
use Rattle.ebpf_btf.specs.declared.members.DataSecEntry.{DataSecEntry}
use Rattle.ebpf_btf_load.specs.SectionWords.{rows_words}
use Rattle.ebpf_btf_load.specs.KernelTypes.{named_param, bytes_over, word_over, words_over}
use Rattle.ebpf_btf_load.specs.declared.words.WrittenWord.{WrittenWord}
use Rattle.std.specs.Prelude.{map}
use Rattle.ebpf_btf.specs.declared.members.BtfParam.{BtfParam}
use Rattle.ebpf_btf_load.proofs.Standing.{ParamsLike}
use Rattle.ebpf_btf_load.specs.KsymsSections.{param_word, params_words}

abbrev pub at_word : ℕ → ℕ → WrittenWord
at_word offset value = record { offset = offset; value = value }

-- ---- one word

length_over : (old : List ℕ) (offset : ℕ) (bytes : List ℕ) → length (bytes_over old offset bytes) ≡ length old
length_over old offset bytes = by_test (nat_le (offset + length bytes) (length old)) refl
  where
    by_test : (b : Bool) → nat_le (offset + length bytes) (length old) ≡ b
        → length (cond b (take offset old ++ (bytes ++ drop (offset + length bytes) old)) old) ≡ length old
    by_test true e =
        let within : offset + length bytes ≤ length old = grind (arith, nat_tests) in
        let front : length (take offset old) ≡ offset = length-take-le offset old (omega arith) in
        omega (arith, length-append (take offset old) (bytes ++ drop (offset + length bytes) old), length-append bytes (drop (offset + length bytes) old), length-drop (offset + length bytes) old)
    by_test false e = refl

-- bytes that fit stand where they are written
over_within : (old : List ℕ) (offset : ℕ) (bytes : List ℕ) → offset + length bytes ≤ length old
    → bytes_over old offset bytes ≡ take offset old ++ (bytes ++ drop (offset + length bytes) old)
over_within old offset bytes within =
    let test : nat_le (offset + length bytes) (length old) ≡ true = grind (arith, nat_tests) in
    rw test refl

over_past : (old : List ℕ) (offset : ℕ) (bytes : List ℕ) → length old < offset + length bytes → bytes_over old offset bytes ≡ old
over_past old offset bytes past =
    let test : nat_le (offset + length bytes) (length old) ≡ false = grind (arith, nat_tests) in
    rw test refl

pub word_here : (o : Endianness) (old : List ℕ) (w : WrittenWord) → w.offset + 4 ≤ length old → w.value < 2 ^ 32
    → word o (word_over o old w) w.offset ≡ w.value
word_here o old w within fits =
    let bytes = word_bytes o w.value in
    let four : length bytes ≡ 4 = length_word o w.value in
    let front : length (take w.offset old) ≡ w.offset = length-take-le w.offset old (omega arith) in
    let at : w.offset ≡ length (take w.offset old) + 0 = omega arith in
    let over = over_within old w.offset bytes (omega arith) in
    let rest = bytes ++ drop (w.offset + length bytes) old in
    ap (λ xs. word o xs w.offset) over
    ∙ ap (word o (take w.offset old ++ rest)) at
    ∙ word_behind o (take w.offset old) rest 0
    ∙ first_word o w.value (drop (w.offset + length bytes) old) fits

-- a word before others and one behind them are as they were
before_others : (o : Endianness) (old : List ℕ) (offset : ℕ) (bytes : List ℕ) (q : ℕ) → offset ≤ length old → q + 4 ≤ offset
    → word o (take offset old ++ bytes) q ≡ word o old q
before_others o old offset bytes q within before =
    let front : length (take offset old) ≡ offset = length-take-le offset old within in
    let whole = take-append-drop offset old in
    word_front o (take offset old) bytes q (omega arith)
    ∙ sym (word_front o (take offset old) (drop offset old) q (omega arith))
    ∙ ap (λ xs. word o xs q) whole

behind_others : (o : Endianness) (old : List ℕ) (offset : ℕ) (bytes : List ℕ) (q : ℕ) → offset + length bytes ≤ length old → offset + length bytes ≤ q
    → word o (take offset old ++ (bytes ++ drop (offset + length bytes) old)) q ≡ word o old q
behind_others o old offset bytes q within behind =
    let n = offset + length bytes in
    let front : length (take offset old) ≡ offset = length-take-le offset old (omega arith) in
    let longer : length (take n old) ≡ n = length-take-le n old within in
    let r = q - n in
    let first : q ≡ length (take offset old) + (length bytes + r) = omega arith in
    let second : length (take n old) + r ≡ q = omega arith in
    ap (word o (take offset old ++ (bytes ++ drop n old))) first
    ∙ word_behind o (take offset old) (bytes ++ drop n old) (length bytes + r)
    ∙ word_behind o bytes (drop n old) r
    ∙ sym (word_behind o (take n old) (drop n old) r)
    ∙ ap (word o (take n old ++ drop n old)) second
    ∙ ap (λ xs. word o xs q) (take-append-drop n old)

-- a word that stands apart from a written one is as it was
word_apart : (o : Endianness) (old : List ℕ) (w : WrittenWord) (q : ℕ) → (q + 4 ≤ w.offset) ⊎ (w.offset + 4 ≤ q)
    → word o (word_over o old w) q ≡ word o old q
word_apart o old w q apart = by_test (nat_le (w.offset + length (word_bytes o w.value)) (length old)) refl
  where
    by_place : w.offset + length (word_bytes o w.value) ≤ length old → (q + 4 ≤ w.offset) ⊎ (w.offset + 4 ≤ q)
        → word o (take w.offset old ++ (word_bytes o w.value ++ drop (w.offset + length (word_bytes o w.value)) old)) q ≡ word o old q
    by_place within (inl before) = before_others o old w.offset _ q (omega arith) before
    by_place within (inr behind) = behind_others o old w.offset (word_bytes o w.value) q within (omega (arith, length_word o w.value))

    by_test : (b : Bool) → nat_le (w.offset + length (word_bytes o w.value)) (length old) ≡ b → word o (word_over o old w) q ≡ word o old q
    by_test true e =
        let within : w.offset + length (word_bytes o w.value) ≤ length old = grind (arith, nat_tests) in
        ap (λ xs. word o xs q) (over_within old w.offset (word_bytes o w.value) within) ∙ by_place within apart
    by_test false e =
        let past : length old < w.offset + length (word_bytes o w.value) = grind (arith, nat_tests) in
        ap (λ xs. word o xs q) (over_past old w.offset (word_bytes o w.value) past)

-- ---- words, one after the other

pub length_words_over : (o : Endianness) (old : List ℕ) (ws : List WrittenWord) → length (words_over o old ws) ≡ length old
length_words_over o old [] = refl
length_words_over o old (w ∷ ws) =
    length_words_over o (word_over o old w) ws ∙ length_over old w.offset (word_bytes o w.value)

pub words_append : (o : Endianness) (old : List ℕ) (vs ws : List WrittenWord) → words_over o old (vs ++ ws) ≡ words_over o (words_over o old vs) ws
words_append o old vs ws = fold-append (word_over o) old vs ws

-- all of them stand between two offsets
abbrev pub AreBetween : ℕ → ℕ → List WrittenWord → Type 0
AreBetween from end [] = Unit {0}
AreBetween from end (w ∷ ws) = (from ≤ w.offset) × (w.offset + 4 ≤ end) × AreBetween from end ws

pub words_apart : (o : Endianness) (old : List ℕ) (from end : ℕ) (ws : List WrittenWord) (q : ℕ) → AreBetween from end ws
    → (q + 4 ≤ from) ⊎ (end ≤ q) → word o (words_over o old ws) q ≡ word o old q
words_apart o old from end [] q are apart = refl
words_apart o old from end (w ∷ ws) q are apart =
    words_apart o (word_over o old w) from end ws q are.2 apart ∙ word_apart o old w q (of apart)
  where
    of : (q + 4 ≤ from) ⊎ (end ≤ q) → (q + 4 ≤ w.offset) ⊎ (w.offset + 4 ≤ q)
    of (inl before) = inl (omega (arith, are.0))
    of (inr behind) = inr (omega (arith, are.1))

pub between_append : (from end : ℕ) (vs ws : List WrittenWord) → AreBetween from end vs → AreBetween from end ws → AreBetween from end (vs ++ ws)
between_append from end [] ws are others = others
between_append from end (v ∷ vs) ws are others = (are.0, are.1, between_append from end vs ws are.2 others)

pub between_wider : (from end before behind : ℕ) (ws : List WrittenWord) → before ≤ from → end ≤ behind → AreBetween from end ws → AreBetween before behind ws
between_wider from end before behind [] low high are = tt
between_wider from end before behind (w ∷ ws) low high are = (omega (arith, are.0), omega (arith, are.1), between_wider from end before behind ws low high are.2)

-- the first of some words stands, where the others are behind it
pub first_stands : (o : Endianness) (old : List ℕ) (w : WrittenWord) (ws : List WrittenWord) (from end : ℕ) → w.offset + 4 ≤ length old → w.value < 2 ^ 32
    → AreBetween from end ws → w.offset + 4 ≤ from → word o (words_over o old (w ∷ ws)) w.offset ≡ w.value
first_stands o old w ws from end within fits are before =
    words_apart o (word_over o old w) from end ws w.offset are (inl before) ∙ word_here o old w within fits

-- ---- items one after the other, and the entries of a DATASEC

moved_on : {X : Type 0} (f : ℕ → X) (size p a n : ℕ) → map (λ k. f (p + size * k)) (range_with_len (a + 1) n) ≡ map (λ k. f (p + size + size * k)) (range_with_len a n)
moved_on f size p a zero = refl
moved_on f size p a (suc n) = let here : p + size * (a + 1) ≡ p + size + size * a = omega arith in λ i. f (here i) ∷ moved_on f size p (a + 1) n i

pub items_first : {X : Type 0} (f : ℕ → X) (size p n : ℕ) → items_at f size p (suc n) ≡ f p ∷ items_at f size (p + size) n
unfolding items_at
items_first f size p n = let here : p + size * 0 ≡ p = omega arith in λ i. f (here i) ∷ moved_on f size p 0 n i

-- the fields of entries have 32 bits
abbrev pub AreSmall : List DataSecEntry → Type 0
AreSmall [] = Unit {0}
AreSmall (row ∷ rows) = (row.btf_type < 2 ^ 32) × (row.offset < 2 ^ 32) × (row.size < 2 ^ 32) × AreSmall rows

pub rows_between : (offset : ℕ) (rows : List DataSecEntry) → AreBetween offset (offset + 12 * length rows) (rows_words offset rows)
rows_between offset [] = tt
rows_between offset (row ∷ rows) =
    let end = offset + 12 * length (row ∷ rows) in
    let rest = between_wider (offset + 12) (offset + 12 + 12 * length rows) offset end (rows_words (offset + 12) rows) (omega arith) (omega arith) (rows_between (offset + 12) rows) in
    (omega arith, omega arith, (omega arith, omega arith, (omega arith, omega arith, rest)))

pub rows_stand : (o : Endianness) (part : List ℕ) (offset : ℕ) (rows : List DataSecEntry) → AreSmall rows → offset + 12 * length rows ≤ length part
    → items_at (entry_at o (words_over o part (rows_words offset rows))) 12 offset (length rows) ≡ rows
unfolding entry_at
rows_stand o part offset [] small within = items_none (entry_at o part) 12 offset
rows_stand o part offset (row ∷ rows) small within =
    let a = at_word offset row.btf_type in
    let b = at_word (offset + 4) row.offset in
    let c = at_word (offset + 8) row.size in
    let others = rows_words (offset + 12) rows in
    let end = offset + 12 + 12 * length rows in
    let behind : AreBetween (offset + 12) end others = rows_between (offset + 12) rows in
    let from_eight : AreBetween (offset + 8) end (c ∷ others) =
    (omega arith, omega arith, between_wider (offset + 12) end (offset + 8) end others (omega arith) (omega arith) behind) in
    let from_four : AreBetween (offset + 4) end (b ∷ c ∷ others) =
    (omega arith, omega arith, between_wider (offset + 8) end (offset + 4) end (c ∷ others) (omega arith) (omega arith) from_eight) in
    let once = word_over o part a in
    let twice = word_over o once b in
    let thrice = word_over o twice c in
    let one : length once ≡ length part = length_words_over o part (a ∷ []) in
    let two : length twice ≡ length part = length_words_over o part (a ∷ b ∷ []) in
    let three : length thrice ≡ length part = length_words_over o part (a ∷ b ∷ c ∷ []) in
    let final = words_over o part (rows_words offset (row ∷ rows)) in
    let x : word o final offset ≡ row.btf_type = first_stands o part a (b ∷ c ∷ others) (offset + 4) end (omega arith) small.0 from_four (omega arith) in
    let y : word o final (offset + 4) ≡ row.offset = first_stands o once b (c ∷ others) (offset + 8) end (omega arith) small.1 from_eight (omega arith) in
    let z : word o final (offset + 8) ≡ row.size = first_stands o twice c others (offset + 12) end (omega arith) small.2 behind (omega arith) in
    let rest : items_at (entry_at o final) 12 (offset + 12) (length rows) ≡ rows = rows_stand o thrice (offset + 12) rows small.3 (omega arith) in
    items_first (entry_at o final) 12 offset (length rows)
    ∙ (λ i. record { btf_type = x i; offset = y i; size = z i } ∷ rest i)

-- ---- parameters that get names, one of them

abbrev lacks : BtfParam → Bool
lacks p = not (p.btf_type == 0) && p.name_offset == 0

named : (name : ℕ) (p : BtfParam) → lacks p ≡ true → named_param name p ≡ record p { name_offset = name }
named name p e = rw e refl

has_name : (name : ℕ) (p : BtfParam) → lacks p ≡ false → named_param name p ≡ p
has_name name p e = rw e refl

-- once it has the name, it keeps it
named_twice : (name : ℕ) (p : BtfParam) → named_param name (named_param name p) ≡ named_param name p
named_twice name p = by_test (lacks p) refl
  where
    again : (b : Bool) → lacks (record p { name_offset = name }) ≡ b → named_param name (record p { name_offset = name }) ≡ record p { name_offset = name }
    again true e = named name (record p { name_offset = name }) e
    again false e = has_name name (record p { name_offset = name }) e

    by_test : (b : Bool) → lacks p ≡ b → named_param name (named_param name p) ≡ named_param name p
    by_test true e =
        let is = named name p e in
        ap (named_param name) is ∙ again (lacks (record p { name_offset = name })) refl ∙ sym is
    by_test false e = ap (named_param name) (has_name name p e)

named_alike : (name : ℕ) (p q : BtfParam) → (q ≡ p) ⊎ (q ≡ named_param name p) → named_param name q ≡ named_param name p
named_alike name p q (inl same) = ap (named_param name) same
named_alike name p q (inr same) = ap (named_param name) same ∙ named_twice name p

param_stands : (o : Endianness) (part : List ℕ) (name offset : ℕ) (p q : BtfParam) → param_at o part offset ≡ q → (q ≡ p) ⊎ (q ≡ named_param name p)
    → name < 2 ^ 32 → offset + 8 ≤ length part → param_at o (words_over o part (param_word name offset p)) offset ≡ named_param name q
unfolding param_at
param_stands o part name offset p q is like fits within = by_test (lacks p) refl
  where
    as_named : lacks p ≡ true → (q ≡ p) ⊎ (q ≡ named_param name p) → q.btf_type ≡ p.btf_type
    as_named e (inl same) = ap (λ r. r.btf_type) same
    as_named e (inr same) = ap (λ r. r.btf_type) (same ∙ named name p e)

    as_before : lacks p ≡ false → (q ≡ p) ⊎ (q ≡ named_param name p) → q ≡ p
    as_before e (inl same) = same
    as_before e (inr same) = same ∙ has_name name p e

    by_test : (b : Bool) → lacks p ≡ b → param_at o (words_over o part (cond b (at_word offset name ∷ []) [])) offset ≡ named_param name q
    by_test true e =
        let only = at_word offset name in
        let there : word o (words_over o part (only ∷ [])) offset ≡ name = word_here o part only (omega arith) fits in
        let between : AreBetween offset (offset + 4) (only ∷ []) = (omega arith, omega arith, tt) in
        let type : word o (words_over o part (only ∷ [])) (offset + 4) ≡ p.btf_type =
        words_apart o part offset (offset + 4) (only ∷ []) (offset + 4) between (inr (omega arith)) ∙ ap (λ r. r.btf_type) is ∙ as_named e like in
        let both : named_param name q ≡ record p { name_offset = name } = named_alike name p q like ∙ named name p e in
        (λ i. record { name_offset = there i; btf_type = type i }) ∙ sym both
    by_test false e =
        let same = as_before e like in
        is ∙ sym (named_alike name p q like ∙ has_name name p e ∙ sym same)

param_between : (name offset : ℕ) (p : BtfParam) → AreBetween offset (offset + 4) (param_word name offset p)
param_between name offset p = by_test (lacks p)
  where
    by_test : (b : Bool) → AreBetween offset (offset + 4) (cond b (at_word offset name ∷ []) [])
    by_test true = (omega arith, omega arith, tt)
    by_test false = tt

-- ---- all of them

pub params_between : (name offset : ℕ) (ps : List BtfParam) → AreBetween offset (offset + 8 * length ps) (params_words name offset ps)
params_between name offset [] = tt
params_between name offset (p ∷ ps) =
    between_append offset (offset + 8 * length (p ∷ ps)) (param_word name offset p) (params_words name (offset + 8) ps)
    (between_wider offset (offset + 4) offset (offset + 8 * length (p ∷ ps)) (param_word name offset p) (omega arith) (omega arith) (param_between name offset p))
    (between_wider (offset + 8) (offset + 8 + 8 * length ps) offset (offset + 8 * length (p ∷ ps)) (params_words name (offset + 8) ps) (omega arith) (omega arith)
    (params_between name (offset + 8) ps))

params_same : (o : Endianness) (part other : List ℕ) (q n : ℕ) → ((r : ℕ) → q ≤ r → word o other r ≡ word o part r)
    → items_at (param_at o other) 8 q n ≡ items_at (param_at o part) 8 q n
unfolding param_at
params_same o part other q zero same = items_none (param_at o other) 8 q ∙ sym (items_none (param_at o part) 8 q)
params_same o part other q (suc n) same =
    let a = same q (omega arith) in
    let b = same (q + 4) (omega arith) in
    let others = params_same o part other (q + 8) n (λ r from. same r (omega arith)) in
    items_first (param_at o other) 8 q n ∙ (λ i. record { name_offset = a i; btf_type = b i } ∷ others i) ∙ sym (items_first (param_at o part) 8 q n)

same_param : (o : Endianness) (part other : List ℕ) (offset : ℕ) → word o other offset ≡ word o part offset → word o other (offset + 4) ≡ word o part (offset + 4)
    → param_at o other offset ≡ param_at o part offset
unfolding param_at
same_param o part other offset a b = λ i. record { name_offset = a i; btf_type = b i }

pub params_stand : (o : Endianness) (part : List ℕ) (name offset : ℕ) (ps qs : List BtfParam) → items_at (param_at o part) 8 offset (length ps) ≡ qs
    → ParamsLike name ps qs → name < 2 ^ 32 → offset + 8 * length ps ≤ length part
    → items_at (param_at o (words_over o part (params_words name offset ps))) 8 offset (length ps) ≡ map (named_param name) qs
params_stand o part name offset [] [] is like fits within = items_none (param_at o part) 8 offset
params_stand o part name offset [] (q ∷ qs) is like fits within = absurd like
params_stand o part name offset (p ∷ ps) [] is like fits within = absurd like
params_stand o part name offset (p ∷ ps) (q ∷ qs) is like fits within =
    let first = param_word name offset p in
    let others = params_words name (offset + 8) ps in
    let once = words_over o part first in
    let final = words_over o once others in
    let n = length ps in
    let long : length once ≡ length part = length_words_over o part first in
    let parts : param_at o part offset ∷ items_at (param_at o part) 8 (offset + 8) n ≡ q ∷ qs = sym (items_first (param_at o part) 8 offset n) ∙ is in
    let head : param_at o part offset ≡ q = cc in
    let tail : items_at (param_at o part) 8 (offset + 8) n ≡ qs = cc in
    let kept : items_at (param_at o once) 8 (offset + 8) n ≡ qs =
    params_same o part once (offset + 8) n (λ r from. words_apart o part offset (offset + 4) first r (param_between name offset p) (inr (omega arith))) ∙ tail in
    let later : items_at (param_at o final) 8 (offset + 8) n ≡ map (named_param name) qs =
    params_stand o once name (offset + 8) ps qs kept like.1 fits (omega arith) in
    let behind = params_between name (offset + 8) ps in
    let a : word o final offset ≡ word o once offset = words_apart o once (offset + 8) (offset + 8 + 8 * n) others offset behind (inl (omega arith)) in
    let b : word o final (offset + 4) ≡ word o once (offset + 4) = words_apart o once (offset + 8) (offset + 8 + 8 * n) others (offset + 4) behind (inl (omega arith)) in
    let here : param_at o final offset ≡ named_param name q = same_param o once final offset a b ∙ param_stands o part name offset p q head like.0 fits (omega arith) in
    ap (λ bytes. items_at (param_at o bytes) 8 offset (suc n)) (words_append o part first others)
    ∙ items_first (param_at o final) 8 offset n ∙ (λ i. here i ∷ later i)

pub named_like : (name : ℕ) (ps qs : List BtfParam) → ParamsLike name ps qs → ParamsLike name ps (map (named_param name) qs)
named_like name [] [] like = tt
named_like name [] (q ∷ qs) like = absurd like
named_like name (p ∷ ps) [] like = absurd like
named_like name (p ∷ ps) (q ∷ qs) like = (inr (named_alike name p q like.0), named_like name ps qs like.1)
