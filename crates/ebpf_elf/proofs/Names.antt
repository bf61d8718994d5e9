-- Names as texts. One is compared with a text over as many bytes as the text has, and one more.
use Rattle.std.proofs.Common.{◌≡◌, ◌+◌, ◌<◌, ◌≤◌, ℕ, Bool, true, false, cond, List, [], length, take, drop, nat_lt, Some, None, refl, sym, ap, ◌∙◌, arith, ⊎_elim}
use Rattle.std.specs.Prelude.{◌==◌, option_map, if◌then◌else◌}
use Rattle.std.specs.Str.{is_utf8, IsUtf8}
use Rattle.std.proofs.lemmas.Bool.{cases_lt}
use Rattle.std.proofs.lemmas.Bool.Decides.{nat_tests}
use Rattle.std.proofs.lemmas.List.{drop-take, length-take}
use Rattle.std.proofs.lemmas.Str.{is_utf8-from_IsUtf8, IsUtf8-from_is_utf8}
use Rattle.ebpf_base.proofs.ZeroBytes.{front, near, far, no_same}
use Rattle.ebpf_elf.specs.Names.{bytes_before_zero, is_name, name_bytes, string_table_name, utf8_text}

-- UTF-8 is readable
pub readable_text : (text : List ℕ) → IsUtf8 text → utf8_text (Some text) ≡ Some text
readable_text text utf8 = rw (is_utf8-from_IsUtf8 text utf8) refl

-- and nothing else is
pub unreadable : (text : List ℕ) → ¬ (IsUtf8 text) → utf8_text (Some text) ≡ None
unreadable text broken = by_test (is_utf8 text) refl
  where
    by_test : (b : Bool) → is_utf8 text ≡ b → utf8_text (Some text) ≡ None
    by_test true e = absurd (broken (IsUtf8-from_is_utf8 text e))
    by_test false e = rw e refl

-- a longer name is another one, readable or not
longer : (text bytes : List ℕ) → length text < length bytes → is_name text (utf8_text (Some bytes)) ≡ false
longer text bytes more = by_utf8 (is_utf8 bytes)
  where
    by_utf8 : (b : Bool) → is_name text (if b then Some bytes else None) ≡ false
    by_utf8 true = no_same bytes text (λ same. omega (arith, ap length same))
    by_utf8 false = refl

near_name : (text from : List ℕ) → is_name text (utf8_text (bytes_before_zero (take (length text + 1) from))) ≡ is_name text (utf8_text (bytes_before_zero from))
near_name text from = ⊎_elim
    (λ (less : front from < length text + 1). ap (λ b. is_name text (utf8_text b)) (near (length text + 1) from less))
    (λ (more : length text + 1 ≤ front from).
    ap (λ b. is_name text (utf8_text b)) (far (length text + 1) from more) ∙ sym (by_test (nat_lt (front from) (length from)) refl more))
    (cases_lt (front from) (length text + 1))
  where
    by_test : (b : Bool) → nat_lt (front from) (length from) ≡ b → length text + 1 ≤ front from
        → is_name text (utf8_text (option_map (λ n. take n from) (cond b (Some (front from)) None))) ≡ false
    by_test true inside more =
        let less : front from < length from = grind (arith, nat_tests) in
        longer text (take (front from) from) (omega (arith, length-take (front from) from))
    by_test false outside more = refl

-- a table that ends one byte behind where the text would end has the name just where the whole table has it
pub same_in_front : (names text : List ℕ) (index : ℕ)
    → is_name text (string_table_name (take (index + (length text + 1)) names) index) ≡ is_name text (string_table_name names index)
unfolding string_table_name name_bytes
same_in_front names text index = by_index (index == 0)
  where
    by_index : (b : Bool) → is_name text (utf8_text (if b then Some [] else bytes_before_zero (drop index (take (index + (length text + 1)) names))))
        ≡ is_name text (utf8_text (if b then Some [] else bytes_before_zero (drop index names)))
    by_index true = refl
    by_index false = ap (λ l. is_name text (utf8_text (bytes_before_zero l))) (drop-take index (length text + 1) names) ∙ near_name text (drop index names)
