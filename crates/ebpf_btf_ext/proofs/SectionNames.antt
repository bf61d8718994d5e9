-- Sections by the names at their offsets: one more, and the last of a name.
use Rattle.std.proofs.Common.{◌≡◌, ℕ, ◌+◌, ◌<◌, ◌≤◌, List, [], ◌∷◌, ◌++◌, length, drop, append_assoc, Option, Some, None, Result, Ok, Err, refl, sym, ap, ◌∙◌, zero, suc, not, Bool, true, false, cond, length-append, take, nat_lt, set, get_or, subst, arith, ⊎_elim}
use Rattle.std.specs.Prelude.{if◌then◌else◌, slice_index_or, ◌==◌, option_map}
use Rattle.std.specs.FinMap.{empty, get, get-empty, insert}
use Rattle.std.specs.List.{position}
use Rattle.std.specs.Str.Lossy.{utf8_lossy}
use Rattle.std.proofs.Math.Seq.{drop-append_seam}
use Rattle.std.proofs.lemmas.Bool.{cases_lt}
use Rattle.std.proofs.lemmas.Bool.Decides.{nat_tests}
use Rattle.std.proofs.lemmas.Slice.Zip.{AllZip-long, all_zipped_more}
use Rattle.std.proofs.lemmas.List.{drop_all, drop-append-le, length-take, take-append-drop, take-append-le, take_more}
use Rattle.ebpf_base.proofs.Mapped.{later_text_stands, put_all-append}
use Rattle.ebpf_base.proofs.TextMaps.{same_tests}
use Rattle.ebpf_base.proofs.Lists.{rest_more, rest_none}
use Rattle.ebpf_base.proofs.ZeroBytes.{front, front_take}
use Rattle.ebpf_base.specs.Maps.{last_at, put_all, text_cmp}
use Rattle.ebpf_btf.specs.Strings.{is_text, text_at, before_zero, text_or_fault}
use Rattle.ebpf_btf.specs.declared.error.BtfError.{BtfError}
use Rattle.ebpf_btf_ext.specs.SectionNames.{by_offsets, section_with_name, sections_with_names, with_offsets, AreCopied, IsCopied}

-- ---- names

-- ---- what is left from an index on

module _ {S : Type 0} (strings : List ℕ) where
  -- ---- one more section

  sections_with_names-append : (xs ys : List (ℕ × S)) → sections_with_names strings (xs ++ ys) ≡ sections_with_names strings xs ++ sections_with_names strings ys
  sections_with_names-append [] ys = refl
  sections_with_names-append (x ∷ xs) ys =
      let one = section_with_name x.1 (text_at strings x.0) in
      ap (λ l. one ++ l) (sections_with_names-append xs ys) ∙ sym (append_assoc one (sections_with_names strings xs) (sections_with_names strings ys))

  pub no_sections : by_offsets {S = S} strings [] ≡ empty
  unfolding by_offsets
  no_sections = refl

  pub one_more : (sections : List (ℕ × S)) (s : ℕ × S) (name : List ℕ) → text_at strings s.0 ≡ Ok name
      → by_offsets strings (sections ++ s ∷ []) ≡ insert (by_offsets strings sections) name s.1
  unfolding by_offsets
  one_more sections s name is =
      ap (put_all empty) (sections_with_names-append sections (s ∷ []))
      ∙ put_all-append empty (sections_with_names strings sections) (sections_with_names strings (s ∷ []))
      ∙ ap (λ r. put_all (put_all empty (sections_with_names strings sections)) (section_with_name s.1 r ++ [])) is

  -- ---- the last section of a name

  module _ (q : List ℕ) where
    pub from_all : (sections : List (ℕ × S)) → last_at text_cmp q None (sections_with_names strings sections) ≡ get (by_offsets strings sections) q
    unfolding by_offsets
    from_all sections =
        ap (λ o. last_at text_cmp q o (sections_with_names strings sections)) (sym (get-empty text_cmp q))
        ∙ sym (later_text_stands empty (sections_with_names strings sections) q)

    pub one_last : (before : Option S) (s : S) (r : Result (List ℕ) BtfError) (rest : List (List ℕ × S))
        → last_at text_cmp q before (section_with_name s r ++ rest) ≡ last_at text_cmp q (if is_text q r then Some s else before) rest
    one_last before s (Ok name) rest = ap (λ b. last_at text_cmp q (if b then Some s else before) rest) (same_tests q name)
    one_last before s (Err e) rest = refl

    -- the next section, and then the others
    pub last_more : (before : Option S) (sections : List (ℕ × S)) (i : ℕ) (s : ℕ × S) → i < length sections → s ≡ slice_index_or sections i s
        → last_at text_cmp q before (sections_with_names strings (drop i sections))
        ≡ last_at text_cmp q (if is_text q (text_at strings s.0) then Some s.1 else before) (sections_with_names strings (drop (i + 1) sections))
    last_more before sections i s below here =
        ap (λ l. last_at text_cmp q before (sections_with_names strings l)) (rest_more sections i s below here)
        ∙ one_last before s.1 (text_at strings s.0) (sections_with_names strings (drop (i + 1) sections))

    -- none is left
    pub last_done : (before : Option S) (sections : List (ℕ × S)) (i : ℕ) → length sections ≤ i
        → last_at text_cmp q before (sections_with_names strings (drop i sections)) ≡ before
    last_done before sections i past = ap (λ l. last_at text_cmp q before (sections_with_names strings l)) (rest_none sections i past)

-- ---- names of sections that are copied: one more, and the sections with them

-- ---- the first zero byte

found_at : (xs : List ℕ) (n : ℕ) → position (λ b. b == 0) xs ≡ Some n → (front xs ≡ n) × (n < length xs)
found_at xs n found = by_test (nat_lt (front xs) (length xs)) refl found
  where
    by_test : (b : Bool) → nat_lt (front xs) (length xs) ≡ b → cond b (Some (front xs)) None ≡ Some n → (front xs ≡ n) × (n < length xs)
    by_test true inside same =
        let here : front xs ≡ n = cc in
        let less : front xs < length xs = grind (arith, nat_tests) in
        (here, omega (arith, here, less))
    by_test false outside same = absurd (cc)

at_front : (xs : List ℕ) (n : ℕ) → front xs ≡ n → n < length xs → position (λ b. b == 0) xs ≡ Some n
at_front xs n here inside =
    let test : nat_lt (front xs) (length xs) ≡ true = (let less : front xs < length xs = omega (arith, here, inside) in grind (arith, nat_tests)) in
    rw test (ap Some here)

front_more : (xs ys : List ℕ) → front xs < length xs → front (xs ++ ys) ≡ front xs
front_more [] ys inside = absurd (omega arith)
front_more (x ∷ xs) ys inside = by_first (front_more xs ys) (not (x == 0)) inside
  where
    by_first : (front xs < length xs → front (xs ++ ys) ≡ front xs) → (b : Bool) → cond b (1 + front xs) 0 < suc (length xs)
        → cond b (1 + front (xs ++ ys)) 0 ≡ cond b (1 + front xs) 0
    by_first rest true less = ap (λ n. 1 + n) (rest (omega arith))
    by_first rest false less = refl

-- ---- the bytes before it, and the text

zero_more : (xs ys : List ℕ) (n : ℕ) → position (λ b. b == 0) xs ≡ Some n → before_zero (xs ++ ys) ≡ Some (take n xs)
zero_more xs ys n found =
    let at = found_at xs n found in
    let inside : front xs < length xs = omega (arith, at.0, at.1) in
    let within : n < length (xs ++ ys) = omega (arith, at.1, length-append xs ys) in
    let there = at_front (xs ++ ys) n (front_more xs ys inside ∙ at.0) within in
    ap (option_map (λ m. take m (xs ++ ys))) there ∙ ap Some (take-append-le n xs ys (omega (arith, at.1)))

-- more bytes at the end change nothing
before_more : (xs ys bytes : List ℕ) → before_zero xs ≡ Some bytes → before_zero (xs ++ ys) ≡ Some bytes
before_more xs ys bytes is = by_index (position (λ b. b == 0) xs) refl is
  where
    by_index : (o : Option ℕ) → position (λ b. b == 0) xs ≡ o → option_map (λ n. take n xs) o ≡ Some bytes → before_zero (xs ++ ys) ≡ Some bytes
    by_index None found same = absurd (cc)
    by_index (Some n) found same = zero_more xs ys n found ∙ same

text_more : (xs ys : List ℕ) (o : ℕ) (text : List ℕ) → text_at xs o ≡ Ok text → text_at (xs ++ ys) o ≡ Ok text
unfolding text_at
text_more xs ys o text is = ⊎_elim
    (λ (past : length xs < o).
    let none : text_at xs o ≡ text_or_fault o None = ap (λ l. text_or_fault o (before_zero l)) (drop_all o xs (omega arith)) in
    absurd (cc))
    (λ (within : o ≤ length xs). by_bytes within (before_zero (drop o xs)) refl is)
    (cases_lt (length xs) o)
  where
    by_bytes : o ≤ length xs → (b : Option (List ℕ)) → before_zero (drop o xs) ≡ b → text_or_fault o b ≡ Ok text → text_or_fault o (before_zero (drop o (xs ++ ys))) ≡ Ok text
    by_bytes within None found same = absurd (cc)
    by_bytes within (Some bytes) found same =
        ap (λ l. text_or_fault o (before_zero l)) (drop-append-le o xs ys within)
        ∙ ap (text_or_fault o) (before_more (drop o xs) ys bytes found)
        ∙ same

-- ---- one name

-- a name with its zero byte, behind other names
pub one_copied : (strings names near name : List ℕ) (offset copied longest end : ℕ) → near ≡ take (longest + 1) (drop offset strings) → Some end ≡ position (λ b. b == 0) near
    → name ≡ take (end + 1) near → copied ≡ length names → IsCopied strings (names ++ name) offset copied
unfolding text_at
one_copied strings names near name offset copied longest end is found all here =
    let at = found_at near end (sym found) in
    let short : length (take (end + 1) near) ≡ end + 1 = omega (arith, at.1, length-take (end + 1) near) in
    let first : front (take (end + 1) near) ≡ end = omega (arith, at.0, front_take (end + 1) near) in
    let cut : position (λ b. b == 0) name ≡ Some end = ap (position (λ b. b == 0)) all ∙ at_front (take (end + 1) near) end first (omega (arith, short)) in
    let whole : near ++ drop (longest + 1) (drop offset strings) ≡ drop offset strings = ap (λ l. l ++ drop (longest + 1) (drop offset strings)) is ∙ take-append-drop (longest + 1) (drop offset strings) in
    let part : take end name ≡ take end near = ap (take end) all ∙ sym (take-append-le end (take (end + 1) near) (drop (end + 1) near) (omega (arith, short))) ∙ ap (take end) (take-append-drop (end + 1) near) in
    record {
      text = utf8_lossy (take end near);
      was = ap (λ l. text_or_fault offset (before_zero l)) (sym whole) ∙ ap (text_or_fault offset) (zero_more near (drop (longest + 1) (drop offset strings)) end (sym found));
      is =
          ap (λ n. text_or_fault copied (before_zero (drop n (names ++ name)))) here
          ∙ ap (λ l. text_or_fault copied (before_zero l)) (drop-append_seam names name)
          ∙ ap (λ o. text_or_fault copied (option_map (λ n. take n name) o)) cut
          ∙ ap (λ l. Ok (utf8_lossy l)) part;
    }

-- ---- the names of sections

module _ {S : Type 0} (strings : List ℕ) where
  -- more names at the end change nothing
  still_copied : (names more : List ℕ) (sections : List (ℕ × S)) (offsets : List ℕ) → AreCopied strings names sections offsets → AreCopied strings (names ++ more) sections offsets
  still_copied names more [] [] are = tt
  still_copied names more [] (o ∷ offsets) are = are
  still_copied names more (s ∷ sections) [] are = are
  still_copied names more (s ∷ sections) (o ∷ offsets) are =
      (record { text = are.0.text; was = are.0.was; is = text_more names more o are.0.text are.0.is }, still_copied names more sections offsets are.1)

  -- one more
  pub one_more_copied : (names more after : List ℕ) (sections : List (ℕ × S)) (i : ℕ) (s : ℕ × S) (offsets : List ℕ) (copied : ℕ)
      → AreCopied strings names (take i sections) offsets → i < length sections → s ≡ get_or sections i s → after ≡ names ++ more
      → IsCopied strings (names ++ more) s.0 copied → AreCopied strings after (take (i + 1) sections) (offsets ++ copied ∷ [])
  one_more_copied names more after sections i s offsets copied are inside here grown is =
      let next : take (i + 1) sections ≡ take i sections ++ s ∷ [] = take_more sections i s inside ∙ ap (λ x. take i sections ++ x ∷ []) (sym here) in
      subst (λ l. AreCopied strings l (take (i + 1) sections) (offsets ++ copied ∷ [])) (sym grown)
      (subst (λ l. AreCopied strings (names ++ more) l (offsets ++ copied ∷ [])) (sym next)
      (all_zipped_more (λ x o. IsCopied strings (names ++ more) x.0 o) (take i sections) offsets s copied (still_copied names more (take i sections) offsets are) is))

  -- each section has one
  pub as_many : (names : List ℕ) (sections : List (ℕ × S)) (offsets : List ℕ) → AreCopied strings names sections offsets → length offsets ≡ length sections
  as_many names sections offsets are = AllZip-long (λ s copied. IsCopied strings names s.0 copied) sections offsets are

  same_names : (names : List ℕ) (sections : List (ℕ × S)) (offsets : List ℕ) → AreCopied strings names sections offsets → sections_with_names names (with_offsets offsets sections) ≡ sections_with_names strings sections
  same_names names [] [] are = refl
  same_names names [] (o ∷ offsets) are = absurd are
  same_names names (s ∷ sections) [] are = absurd are
  same_names names (s ∷ sections) (o ∷ offsets) are = λ i. section_with_name s.1 ((are.0.is ∙ sym are.0.was) i) ++ same_names names sections offsets are.1 i

  -- the sections have the names that they had
  pub same_sections : (names : List ℕ) (sections : List (ℕ × S)) (offsets : List ℕ) → AreCopied strings names sections offsets → by_offsets names (with_offsets offsets sections) ≡ by_offsets strings sections
  unfolding by_offsets
  same_sections names sections offsets are = ap (put_all empty) (same_names names sections offsets are)

-- ---- new offsets

module _ {S : Type 0} where
  put_next : (offsets : List ℕ) (sections : List (ℕ × S)) (i o : ℕ) (s : ℕ × S) → i < length offsets → i < length sections → o ≡ get_or offsets i 0
      → s ≡ get_or (with_offsets (take i offsets) sections) i s → set (with_offsets (take i offsets) sections) i (o, s.1) ≡ with_offsets (take (suc i) offsets) sections
  put_next [] sections i o s inside within new here = absurd (omega arith)
  put_next (p ∷ offsets) [] i o s inside within new here = absurd (omega arith)
  put_next (p ∷ offsets) (x ∷ sections) zero o s inside within new here = λ i. (new i, (here i).1) ∷ sections
  put_next (p ∷ offsets) (x ∷ sections) (suc i) o s inside within new here =
      ap (λ l. (p, x.1) ∷ l) (put_next offsets sections i o s (omega arith) (omega arith) new here)

  -- one more is put
  pub one_put : (offsets : List ℕ) (sections : List (ℕ × S)) (i o : ℕ) (s : ℕ × S) → i < length offsets → i < length sections → o ≡ get_or offsets i 0
      → s ≡ get_or (with_offsets (take i offsets) sections) i s → set (with_offsets (take i offsets) sections) i (o, s.1) ≡ with_offsets (take (i + 1) offsets) sections
  one_put offsets sections i o s inside within new here =
      put_next offsets sections i o s inside within new here ∙ ap (λ n. with_offsets (take n offsets) sections) (let on : suc i ≡ i + 1 = omega arith in on)
