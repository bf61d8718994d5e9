-- The names and the kinds of types.
use Rattle.std.proofs.Common.{◌≡◌, ◌+◌, ◌-◌, ◌<◌, ◌≤◌, ◌==◌, ℕ, zero, suc, Bool, true, false, not, cond, List, [], ◌∷◌, ◌++◌, length, get_or, take, drop, nat_lt, Option, Some, None, refl, sym, ap, ◌∙◌, arith, add-one, append-nil, append_assoc, ⊎_elim, subst, Result, Ok, Err, true≢false}
use Rattle.std.specs.Prelude.{option_map, nat_eq, replicate, slice_get, unwrap_or, All, IfOk, slice_index_or}
use Rattle.std.specs.List.{prefix_len, position}
use Rattle.std.proofs.lemmas.Bool.{cases_eq, cases_lt}
use Rattle.std.proofs.lemmas.Bool.Decides.{nat_tests}
use Rattle.std.proofs.lemmas.List.{drop_more, replicate_more, take_more}
use Rattle.std.proofs.lemmas.Option.{slice_get-get_or, slice_get_past}
use Rattle.std.specs.FinMap.{FinMap, get, insert, get-insert}
use Rattle.std.specs.Cmp.{nat_cmp_total, unsigned_ties}
use Rattle.std.specs.Ordering.{nat_cmp}
use Rattle.std.specs.Str.{IsUtf8, is_utf8}
use Rattle.std.specs.Str.Lossy.{utf8_lossy}
use Rattle.std.proofs.lemmas.Str.{IsUtf8-from_is_utf8, is_utf8-from_IsUtf8, utf8_lossy-IsUtf8, IsUtf8-from_ascii, IsAscii-take, IsAscii-drop}
use Rattle.std.proofs.lemmas.Str.Ascii.{IsAscii-from_all}
use Rattle.std.specs.Result.{result_ok}
use Rattle.ebpf_btf.specs.EssentialNames.{essential_name}
use Rattle.ebpf_btf.specs.Strings.{before_zero, text_at, text_or_fault, type_name}
use Rattle.ebpf_btf.proofs.Essentials.{essential_step}
use Rattle.ebpf_btf.specs.Next.{if_some}
use Rattle.ebpf_btf.specs.TypeInfo.{TypeInfo}
use Rattle.ebpf_btf.specs.Types.{kind_number, kind_of, name_off, is_kind}
use Rattle.ebpf_btf.specs.declared.kind.BtfKind.{BtfKind}
use Rattle.ebpf_btf.specs.declared.types.BtfType.{BtfType}
use Rattle.ebpf_btf.specs.declared.types.BtfType.TheVariants.{Unknown}
use Rattle.ebpf_btf.specs.declared.error.BtfError.{BtfError}
use Rattle.ebpf_btf.specs.declared.kind.BtfKind.TheVariants as kinds
use Rattle.ebpf_core_candidates.specs.TypeRows.{odd_at, odd_name, odd_text_at, readable_at, TypeKey, type_key_at, type_key_of, odd_text}
use Rattle.ebpf_core_candidates.proofs.Refusals.{by_test}
use Rattle.ebpf_core_candidates.specs.Candidates.{IndexedTypes, has_named, NamesAreMarked, is_name_marked, has_kind, is_among_kinds}

abbrev front : List ℕ → ℕ
front xs = prefix_len (λ b. not (b == 0)) xs

zero_first : (xs : List ℕ) → before_zero (0 ∷ xs) ≡ Some []
zero_first xs = let less : nat_lt 0 (suc (length xs)) ≡ true = grind (arith, nat_tests) in rw less refl

zero_later : (x : ℕ) (xs : List ℕ) → (x == 0) ≡ false → before_zero (x ∷ xs) ≡ option_map (λ t. x ∷ t) (before_zero xs)
zero_later x xs other = rw other (by_test (nat_lt (front xs) (length xs)) refl)
  where
    by_test : (b : Bool) → nat_lt (front xs) (length xs) ≡ b
        → option_map (λ n. take n (x ∷ xs)) (cond (nat_lt (1 + front xs) (suc (length xs))) (Some (1 + front xs)) None)
        ≡ option_map (λ t. x ∷ t) (option_map (λ n. take n xs) (cond b (Some (front xs)) None))
    by_test true e = let more : nat_lt (1 + front xs) (suc (length xs)) ≡ true = grind (arith, nat_tests) in
        let one : 1 + front xs ≡ suc (front xs) = omega arith in
        rw more (ap (λ n. Some (take n (x ∷ xs))) one)
    by_test false e = let more : nat_lt (1 + front xs) (suc (length xs)) ≡ false = grind (arith, nat_tests) in rw more refl

-- what is left of an essential name, where the bytes before an index have no zero byte and no three underscores, and end
-- in so many underscores
abbrev pub scanned_name : List ℕ → ℕ → ℕ → Option (List ℕ)
scanned_name bytes index marks = option_map (λ tail. take (index - marks) bytes ++ essential_name (replicate marks 95 ++ tail)) (before_zero (drop index bytes))

-- the bytes before an index end in so many underscores
abbrev pub EndsIn : List ℕ → ℕ → ℕ → Type 0
EndsIn bytes index marks = take (index - marks) bytes ++ replicate marks 95 ≡ take index bytes

same_map : (f g : List ℕ → List ℕ) (o : Option (List ℕ)) → ((t : List ℕ) → f t ≡ g t) → option_map f o ≡ option_map g o
same_map f g None same = refl
same_map f g (Some t) same = ap Some (same t)

map_twice : (f g : List ℕ → List ℕ) (o : Option (List ℕ)) → option_map f (option_map g o) ≡ option_map (λ t. f (g t)) o
map_twice f g None = refl
map_twice f g (Some t) = refl

-- what is left at a byte that is not zero
scanned_byte : (bytes : List ℕ) (index marks : ℕ) → index < length bytes → (get_or bytes index 0 == 0) ≡ false
    → scanned_name bytes index marks ≡ option_map (λ tail. take (index - marks) bytes ++ essential_name (replicate marks 95 ++ (get_or bytes index 0 ∷ tail))) (before_zero (drop (index + 1) bytes))
scanned_byte bytes index marks inside other =
    let F : List ℕ → List ℕ = λ tail. take (index - marks) bytes ++ essential_name (replicate marks 95 ++ tail) in
    let x = get_or bytes index 0 in
    ap (λ xs. option_map F (before_zero xs)) (drop_more bytes index 0 inside)
    ∙ ap (option_map F) (zero_later x (drop (index + 1) bytes) other)
    ∙ map_twice F (λ t. x ∷ t) (before_zero (drop (index + 1) bytes))

-- underscores before another byte are part of the name
essential_other : (marks x : ℕ) (tail : List ℕ) → marks ≤ 2 → nat_eq 95 x ≡ false → essential_name (replicate marks 95 ++ (x ∷ tail)) ≡ replicate marks 95 ++ (x ∷ essential_name tail)
essential_other zero x tail few other = essential_step x tail ∙ rw other refl
essential_other (suc zero) x tail few other =
    essential_step 95 (x ∷ tail) ∙ rw other (ap (λ name. 95 ∷ name) (essential_step x tail ∙ rw other refl))
essential_other (suc (suc zero)) x tail few other =
    essential_step 95 (95 ∷ x ∷ tail) ∙ rw other (ap (λ name. 95 ∷ name) (essential_step 95 (x ∷ tail) ∙ rw other (ap (λ name. 95 ∷ name) (essential_step x tail ∙ rw other refl))))
essential_other (suc (suc (suc marks))) x tail few other = absurd (omega arith)

essential_marks : (marks : ℕ) → marks ≤ 2 → essential_name (replicate marks 95) ≡ replicate marks 95
unfolding essential_name
essential_marks zero few = refl
essential_marks (suc zero) few = refl
essential_marks (suc (suc zero)) few = refl
essential_marks (suc (suc (suc marks))) few = absurd (omega arith)

-- ---- the steps

-- a byte that is neither zero nor an underscore
pub scanned_other : (bytes : List ℕ) (index marks : ℕ) → index < length bytes → marks ≤ 2 → EndsIn bytes index marks
    → (get_or bytes index 0 == 0) ≡ false → nat_eq 95 (get_or bytes index 0) ≡ false → scanned_name bytes (index + 1) 0 ≡ scanned_name bytes index marks
scanned_other bytes index marks inside few ends other byte = sym (scanned_byte bytes index marks inside other ∙ same_map _ _ (before_zero (drop (index + 1) bytes)) each)
  where
    each : (tail : List ℕ) → take (index - marks) bytes ++ essential_name (replicate marks 95 ++ (get_or bytes index 0 ∷ tail)) ≡ take (index + 1 - 0) bytes ++ essential_name tail
    each tail =
        let x = get_or bytes index 0 in
        let front_to : take (index + 1 - 0) bytes ≡ take index bytes ++ x ∷ [] = ap (λ n. take n bytes) (omega arith) ∙ take_more bytes index 0 inside in
        ap (λ name. take (index - marks) bytes ++ name) (essential_other marks x tail few byte)
        ∙ sym (append_assoc (take (index - marks) bytes) (replicate marks 95) (x ∷ essential_name tail))
        ∙ ap (λ f. f ++ (x ∷ essential_name tail)) ends
        ∙ sym (append_assoc (take index bytes) (x ∷ []) (essential_name tail))
        ∙ ap (λ f. f ++ essential_name tail) (sym front_to)

-- an underscore that is the first or the second in a row
pub scanned_mark : (bytes : List ℕ) (index marks : ℕ) → index < length bytes → marks ≤ index → marks ≤ 1 → get_or bytes index 0 ≡ 95 → scanned_name bytes (index + 1) (marks + 1) ≡ scanned_name bytes index marks
scanned_mark bytes index marks inside low few byte =
    let other : (get_or bytes index 0 == 0) ≡ false = grind (arith, nat_tests) in
    sym (scanned_byte bytes index marks inside other ∙ same_map _ _ (before_zero (drop (index + 1) bytes)) each)
  where
    more : (n : ℕ) (tail : List ℕ) → replicate n 95 ++ (95 ∷ tail) ≡ replicate (suc n) 95 ++ tail
    more zero tail = refl
    more (suc n) tail = ap (λ t. 95 ∷ t) (more n tail)

    each : (tail : List ℕ) → take (index - marks) bytes ++ essential_name (replicate marks 95 ++ (get_or bytes index 0 ∷ tail)) ≡ take (index + 1 - (marks + 1)) bytes ++ essential_name (replicate (marks + 1) 95 ++ tail)
    each tail =
        let same : index - marks ≡ index + 1 - (marks + 1) = omega arith in
        ap (λ x. take (index - marks) bytes ++ essential_name (replicate marks 95 ++ (x ∷ tail))) byte
        ∙ ap (λ t. take (index - marks) bytes ++ essential_name t) (more marks tail)
        ∙ ap (λ n. take (index - marks) bytes ++ essential_name (replicate n 95 ++ tail)) (sym (add-one marks))
        ∙ ap (λ n. take n bytes ++ essential_name (replicate (marks + 1) 95 ++ tail)) same

-- the third
pub scanned_third : (bytes : List ℕ) (index : ℕ) → index < length bytes → get_or bytes index 0 ≡ 95 → scanned_name bytes index 2 ≡ option_map (λ tail. take (index - 2) bytes) (before_zero (drop (index + 1) bytes))
scanned_third bytes index inside byte =
    let other : (get_or bytes index 0 == 0) ≡ false = grind (arith, nat_tests) in
    scanned_byte bytes index 2 inside other ∙ same_map _ _ (before_zero (drop (index + 1) bytes)) each
  where
    each : (tail : List ℕ) → take (index - 2) bytes ++ essential_name (95 ∷ 95 ∷ (get_or bytes index 0 ∷ tail)) ≡ take (index - 2) bytes
    each tail = ap (λ x. take (index - 2) bytes ++ essential_name (95 ∷ 95 ∷ (x ∷ tail))) byte ∙ ap (λ name. take (index - 2) bytes ++ name) (essential_step 95 (95 ∷ 95 ∷ tail)) ∙ append-nil (take (index - 2) bytes)

-- the zero byte
pub scanned_zero : (bytes : List ℕ) (index marks : ℕ) → index < length bytes → marks ≤ 2 → EndsIn bytes index marks → get_or bytes index 0 ≡ 0 → scanned_name bytes index marks ≡ Some (take index bytes)
scanned_zero bytes index marks inside few ends byte =
    let F : List ℕ → List ℕ = λ tail. take (index - marks) bytes ++ essential_name (replicate marks 95 ++ tail) in
    ap (λ xs. option_map F (before_zero xs)) (drop_more bytes index 0 inside ∙ ap (λ x. x ∷ drop (index + 1) bytes) byte)
    ∙ ap (option_map F) (zero_first (drop (index + 1) bytes))
    ∙ ap Some (ap (λ t. take (index - marks) bytes ++ essential_name t) (append-nil (replicate marks 95)) ∙ ap (λ name. take (index - marks) bytes ++ name) (essential_marks marks few) ∙ ends)

-- ---- all of it at one index

pub record IsScanned (bytes : List ℕ) (index marks : ℕ) (all : Option (List ℕ)) : Type 0 where
  pub few : marks ≤ 2
  pub low : marks ≤ index
  pub ends : EndsIn bytes index marks
  pub rest : scanned_name bytes index marks ≡ all

pub scanned_start : (bytes : List ℕ) → IsScanned bytes 0 0 (option_map essential_name (before_zero bytes))
scanned_start bytes = record { few = omega arith; low = omega arith; ends = refl; rest = refl }

pub scanned_step : (bytes : List ℕ) (index marks next : ℕ) (all : Option (List ℕ)) → index < length bytes → IsScanned bytes index marks all
    → ((get_or bytes index 0 ≡ 0) → ⊥) → ((marks ≡ 2) → (get_or bytes index 0 ≡ 95) → ⊥) → next ≡ cond (get_or bytes index 0 == 95) (marks + 1) 0
    → IsScanned bytes (index + 1) next all
scanned_step bytes index marks next all inside is other third after = by_byte (get_or bytes index 0 == 95) refl after
  where
    by_byte : (b : Bool) → (get_or bytes index 0 == 95) ≡ b → next ≡ cond b (marks + 1) 0 → IsScanned bytes (index + 1) next all
    by_byte true e same =
        let byte : get_or bytes index 0 ≡ 95 = grind (arith, nat_tests) in
        let few : marks ≤ 1 = ⊎_elim (λ (low : marks < 2). omega arith) (λ (high : 2 ≤ marks). let up = is.few in absurd (third (omega arith) byte)) (cases_lt marks 2) in
        let under = is.low in
        let front_to : take (index + 1) bytes ≡ take index bytes ++ 95 ∷ [] = take_more bytes index 0 inside ∙ ap (λ x. take index bytes ++ x ∷ []) byte in
        let back : index + 1 - (marks + 1) ≡ index - marks = omega arith in
        let ends : EndsIn bytes (index + 1) (marks + 1) =
        ap (λ n. take n bytes ++ replicate (marks + 1) 95) back
        ∙ ap (λ xs. take (index - marks) bytes ++ xs) (sym (replicate_more marks 95))
        ∙ sym (append_assoc (take (index - marks) bytes) (replicate marks 95) (95 ∷ []))
        ∙ ap (λ xs. xs ++ 95 ∷ []) is.ends ∙ sym front_to in
        subst (λ n. IsScanned bytes (index + 1) n all) (sym same)
        (record { few = omega arith; low = omega arith; ends = ends; rest = scanned_mark bytes index marks inside is.low few byte ∙ is.rest })
    by_byte false e same =
        let zero_test : (get_or bytes index 0 == 0) ≡ false = ⊎_elim (λ (none : get_or bytes index 0 ≡ 0). absurd (other none)) (λ (some : (get_or bytes index 0 ≡ 0) → ⊥). grind (arith, nat_tests)) (cases_eq (get_or bytes index 0) 0) in
        let mark_test : nat_eq 95 (get_or bytes index 0) ≡ false = grind (arith, nat_tests) in
        subst (λ n. IsScanned bytes (index + 1) n all) (sym same)
        (record { few = omega arith; low = omega arith; ends = append-nil (take (index + 1 - 0) bytes) ∙ ap (λ n. take n bytes) (omega arith); rest = scanned_other bytes index marks inside is.few is.ends zero_test mark_test ∙ is.rest })

-- ---- a type by its kind and the offset of its name alone

-- a type is there, of a kind and with its name at an offset
pub record IsHeaded (found : Option BtfType) (kind : BtfKind) (name : ℕ) : Type 0 where
  pub ty : BtfType
  pub is : found ≡ Some ty
  pub of_kind : kind_of ty ≡ kind
  pub named : name_off ty ≡ name

pub headed : (found : Option BtfType) (kind : BtfKind) (name : ℕ) → option_map kind_of found ≡ Some kind → option_map name_off found ≡ Some name → IsHeaded found kind name
headed None kind name k n = cc
headed (Some t) kind name k n = record { ty = t; is = refl; of_kind = cc; named = cc }

pub odd_headed : (info : TypeInfo) (id name : ℕ) → option_map name_off (slice_get info.types id) ≡ Some name → odd_at info id ≡ odd_text_at info.strings name
odd_headed info id name is = by_type (slice_get info.types id) is
  where
    by_type : (found : Option BtfType) → option_map name_off found ≡ Some name → if_some found (odd_name info) None ≡ odd_text_at info.strings name
    by_type None n = cc
    by_type (Some t) n = let same : name_off t ≡ name = cc in ap (odd_text_at info.strings) same

pub odd_headless : (info : TypeInfo) (id : ℕ) → option_map name_off (slice_get info.types id) ≡ None → odd_at info id ≡ None
odd_headless info id is = by_type (slice_get info.types id) is
  where
    by_type : (found : Option BtfType) → option_map name_off found ≡ None → if_some found (odd_name info) None ≡ None
    by_type None n = refl
    by_type (Some t) n = cc

-- the type key of a type of a kind with its name at an offset
abbrev pub type_key_with : TypeInfo → BtfKind → ℕ → TypeKey
type_key_with info kind name = record { kind = kind_number kind; name = unwrap_or (readable_at info.strings name) [] }

pub key_headed : (info : TypeInfo) (id : ℕ) (kind : BtfKind) (name : ℕ) → option_map kind_of (slice_get info.types id) ≡ Some kind → option_map name_off (slice_get info.types id) ≡ Some name
    → type_key_at info id ≡ type_key_with info kind name
key_headed info id kind name k n =
    let head = headed (slice_get info.types id) kind name k n in
    let key : Option BtfType → TypeKey = λ t. if_some t (type_key_of info) (record { kind = 0; name = [] }) in
    ap key head.is
    ∙ ap (type_key_with info (kind_of head.ty)) head.named
    ∙ ap (λ kind. type_key_with info kind name) head.of_kind

pub key_headless : (info : TypeInfo) (id : ℕ) → option_map kind_of (slice_get info.types id) ≡ None → type_key_at info id ≡ record { kind = 0; name = [] }
key_headless info id is = by_type (slice_get info.types id) is
  where
    by_type : (found : Option BtfType) → option_map kind_of found ≡ None → if_some found (type_key_of info) (record { kind = 0; name = [] }) ≡ record { kind = 0; name = [] }
    by_type None k = refl
    by_type (Some t) k = cc

-- types of one kind with their names at one offset have one type key
pub same_key : (info : TypeInfo) (i j : ℕ) (k l : BtfKind) (m n : ℕ) → option_map kind_of (slice_get info.types i) ≡ Some k → option_map name_off (slice_get info.types i) ≡ Some m
    → option_map kind_of (slice_get info.types j) ≡ Some l → option_map name_off (slice_get info.types j) ≡ Some n → m ≡ n → k ≡ l → type_key_at info i ≡ type_key_at info j
same_key info i j k l m n kind_i name_i kind_j name_j names kinds =
    key_headed info i k m kind_i name_i
    ∙ ap (type_key_with info k) names
    ∙ ap (λ kind. type_key_with info kind n) kinds
    ∙ sym (key_headed info j l n kind_j name_j)

-- below the number of types there is one
pub is_there : (types : List BtfType) (id : ℕ) → id < length types → option_map kind_of (slice_get types id) ≡ None → ⊥
is_there types id below none =
    let some = slice_get-get_or types id Unknown below in
    let missing = rw some at none in
    cc

-- ---- names that are not UTF-8, and texts of ASCII

pub odd_utf8 : (bytes : List ℕ) → IsUtf8 bytes → odd_text bytes ≡ None
odd_utf8 bytes utf8 = rw (is_utf8-from_IsUtf8 bytes utf8) refl

pub odd_other : (bytes : List ℕ) → ¬ IsUtf8 bytes → odd_text bytes ≡ Some (utf8_lossy bytes)
odd_other bytes other =
    by_test (λ (x : Option (List ℕ)). x ≡ Some (utf8_lossy bytes)) (is_utf8 bytes) None (Some (utf8_lossy bytes)) (λ utf8. absurd (other (IsUtf8-from_is_utf8 bytes utf8))) (λ odd. refl)

pub odd_some : (bytes text : List ℕ) → odd_text bytes ≡ Some text → text ≡ utf8_lossy bytes
odd_some bytes text is = by_test (λ (x : Option (List ℕ)). x ≡ Some text → text ≡ utf8_lossy bytes) (is_utf8 bytes) None (Some (utf8_lossy bytes)) (λ utf8 same. cc) (λ odd same. cc) is

pub odd_none : (bytes : List ℕ) → odd_text bytes ≡ None → utf8_lossy bytes ≡ bytes
odd_none bytes is =
    by_test (λ (x : Option (List ℕ)). x ≡ None → utf8_lossy bytes ≡ bytes) (is_utf8 bytes) None (Some (utf8_lossy bytes)) (λ utf8 same. utf8_lossy-IsUtf8 bytes (IsUtf8-from_is_utf8 bytes utf8)) (λ odd same. cc) is

-- a name that is not odd is read as it stands
pub readable_plain : (strings : List ℕ) (offset : ℕ) → odd_text_at strings offset ≡ None → option_map essential_name (before_zero (drop offset strings)) ≡ readable_at strings offset
unfolding text_at
readable_plain strings offset plain = by_bytes (before_zero (drop offset strings)) plain
  where
    by_bytes : (o : Option (List ℕ)) → if_some o odd_text None ≡ None → option_map essential_name o ≡ option_map essential_name (result_ok (text_or_fault offset o))
    by_bytes None same = refl
    by_bytes (Some bytes) same = ap (λ text. Some (essential_name text)) (sym (odd_none bytes same))

-- no name in strings of ASCII is odd
odd_between : (strings : List ℕ) (offset : ℕ) → All (λ b. b < 128) strings → if_some (before_zero (drop offset strings)) odd_text None ≡ None
odd_between strings offset ascii = by_index (position (λ b. b == 0) (drop offset strings))
  where
    by_index : (o : Option ℕ) → if_some (option_map (λ n. take n (drop offset strings)) o) odd_text None ≡ None
    by_index None = refl
    by_index (Some n) =
        odd_utf8 (take n (drop offset strings))
        (IsUtf8-from_ascii (take n (drop offset strings)) (IsAscii-take (drop offset strings) n (IsAscii-drop strings offset (IsAscii-from_all strings ascii))))

pub odd_ascii : (info : TypeInfo) (id : ℕ) → All (λ b. b < 128) info.strings → odd_at info id ≡ None
odd_ascii info id ascii = by_type (slice_get info.types id)
  where
    by_type : (o : Option _) → if_some o (odd_name info) None ≡ None
    by_type None = refl
    by_type (Some t) = odd_between info.strings (name_off t) ascii

-- ---- gathered one after the other

-- those of the types below an index
abbrev pub odd_below : TypeInfo → ℕ → ℕ → Option (List ℕ)
odd_below info k n = cond (nat_lt n k) (odd_at info n) None

pub odd_start : (info : TypeInfo) (n : ℕ) → None ≡ odd_below info 0 n
odd_start info n = let none : nat_lt n 0 ≡ false = grind (arith, nat_tests) in rw none refl

pub odd_skip : (info : TypeInfo) (i n : ℕ) (o : Option (List ℕ)) → odd_at info i ≡ None → o ≡ odd_below info i n → o ≡ odd_below info (i + 1) n
odd_skip info i n o none before = ⊎_elim
    (λ (less : n < i). let a : nat_lt n i ≡ true = grind (arith, nat_tests) in let b : nat_lt n (i + 1) ≡ true = grind (arith, nat_tests) in rw b (rw a at before))
    (λ (more : i ≤ n). ⊎_elim
    (λ (past : i < n). let a : nat_lt n i ≡ false = grind (arith, nat_tests) in let b : nat_lt n (i + 1) ≡ false = grind (arith, nat_tests) in rw b (rw a at before))
    (λ (upto : n ≤ i).
    let same : n ≡ i = omega arith in
    let a : nat_lt n i ≡ false = grind (arith, nat_tests) in let b : nat_lt n (i + 1) ≡ true = grind (arith, nat_tests) in
    rw b (rw a at before ∙ sym none ∙ ap (odd_at info) (sym same)))
    (cases_lt i n))
    (cases_lt n i)

pub odd_more : (info : TypeInfo) (i n : ℕ) (m : FinMap nat_cmp (List ℕ)) (text : List ℕ) → odd_at info i ≡ Some text → get m n ≡ odd_below info i n
    → get (insert m i text) n ≡ odd_below info (i + 1) n
odd_more info i n m text is before = get-insert nat_cmp_total m i text n ∙ rw (← unsigned_ties n i) (⊎_elim
    (λ (less : n < i).
    let c : (n == i) ≡ false = grind (arith, nat_tests) in
    let a : nat_lt n i ≡ true = grind (arith, nat_tests) in let b : nat_lt n (i + 1) ≡ true = grind (arith, nat_tests) in rw (c, b) (rw a at before))
    (λ (more : i ≤ n). ⊎_elim
    (λ (past : i < n).
    let c : (n == i) ≡ false = grind (arith, nat_tests) in
    let a : nat_lt n i ≡ false = grind (arith, nat_tests) in let b : nat_lt n (i + 1) ≡ false = grind (arith, nat_tests) in rw (c, b) (rw a at before))
    (λ (upto : n ≤ i).
    let same : n ≡ i = omega arith in
    let c : (n == i) ≡ true = grind (arith, nat_tests) in
    let b : nat_lt n (i + 1) ≡ true = grind (arith, nat_tests) in
    rw (c, b) (sym is ∙ ap (odd_at info) (sym same)))
    (cases_lt i n))
    (cases_lt n i))

pub odd_over : (info : TypeInfo) (i n : ℕ) (o : Option (List ℕ)) → length info.types ≤ i → o ≡ odd_below info i n → o ≡ odd_at info n
odd_over info i n o past before = ⊎_elim
    (λ (less : n < i). let a : nat_lt n i ≡ true = grind (arith, nat_tests) in rw a at before)
    (λ (more : i ≤ n).
    let a : nat_lt n i ≡ false = grind (arith, nat_tests) in
    let none : slice_get info.types n ≡ None = slice_get_past info.types n (omega arith) in
    rw none (rw a at before))
    (cases_lt n i)

-- ---- names and their marks

pub number_below : (kind : BtfKind) → kind_number kind < 20
unfolding kind_number
number_below kinds.Unknown = omega arith
number_below kinds.Int = omega arith
number_below kinds.Ptr = omega arith
number_below kinds.Array = omega arith
number_below kinds.Struct = omega arith
number_below kinds.Union = omega arith
number_below kinds.Enum = omega arith
number_below kinds.Fwd = omega arith
number_below kinds.Typedef = omega arith
number_below kinds.Volatile = omega arith
number_below kinds.Const = omega arith
number_below kinds.Restrict = omega arith
number_below kinds.Func = omega arith
number_below kinds.FuncProto = omega arith
number_below kinds.Var = omega arith
number_below kinds.DataSec = omega arith
number_below kinds.Float = omega arith
number_below kinds.DeclTag = omega arith
number_below kinds.TypeTag = omega arith
number_below kinds.Enum64 = omega arith

-- what is of none of some kinds isn't of one of them
pub other_kind : (kinds : List Bool) (t : BtfType) (kind : BtfKind) → has_kind kinds (kind_of t) ≡ false → has_kind kinds kind ≡ true → is_kind kind t ≡ false
other_kind kinds t kind out among = by_test (is_kind kind t) refl
  where
    by_test : (b : Bool) → is_kind kind t ≡ b → is_kind kind t ≡ false
    by_test true is =
        let number : kind_number (kind_of t) ≡ kind_number kind = grind (arith, nat_tests) in
        let same : has_kind kinds (kind_of t) ≡ has_kind kinds kind = ap (λ n. slice_index_or kinds n false) number in
        absurd (true≢false (sym among ∙ sym same ∙ out))
    by_test false is = is

-- an index over the marks of the names of some types has these names
pub has_names : (result : Result IndexedTypes BtfError) (local : TypeInfo) (listed : List BtfKind) (kinds : List Bool) (marks : List Bool)
    → IfOk result (λ index. index.kinds ≡ kinds) → IfOk result (λ index. index.marks ≡ marks) → ((kind : BtfKind) → has_kind kinds kind ≡ is_among_kinds listed kind) → NamesAreMarked marks kinds local
    → IfOk result (λ index. (kind : BtfKind) (id : ℕ) (t : BtfType) (name : List ℕ) → is_among_kinds listed kind ≡ true → slice_get local.types id ≡ Some t
    → is_among_kinds listed (kind_of t) ≡ true → type_name local t ≡ Ok name → has_named index kind name ≡ true)
has_names (Err e) local listed kinds marks same_kinds same_marks chosen names = tt
has_names (Ok index) local listed kinds marks same_kinds same_marks chosen names = λ kind id t name one there among named.
    let in_kinds : has_kind kinds kind ≡ true = chosen kind ∙ one in
    let marked : is_name_marked marks name ≡ true = names id t name there (chosen (kind_of t) ∙ among) named in
    rw (same_kinds, same_marks, in_kinds, marked) refl
