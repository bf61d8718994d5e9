-- One step of a search that keeps what it found first.
use Rattle.std.proofs.Common.{◌≡◌, ℕ, ◌+◌, ◌<◌, Bool, true, false, ◌||◌, cond, List, [], ◌∷◌, length, drop, Option, Some, refl, sym, ap, ◌∙◌, subst}
use Rattle.std.specs.Prelude.{find, is_some, slice_index_or, None, MatchOption, if◌then◌else◌}
use Rattle.std.specs.List.{list_any}
use Rattle.std.specs.Option.{option_copied}
use Rattle.std.specs.Str.{IsCharBoundary, IsUtf8, is_utf8}
use Rattle.std.specs.Str.Pattern.{FindsTextPrefix, StripsPrefix}
use Rattle.std.proofs.lemmas.Str.{IsUtf8-from_is_utf8, is_utf8-from_IsUtf8}
use Rattle.std.proofs.lemmas.Str.Pattern.{starts_text}
use denote.Ref.{Bor}
use Rattle.ebpf_base.proofs.Faults.{or_else-assoc}
use Rattle.ebpf_base.proofs.Lists.{rest_more}
use Rattle.ebpf_base.specs.Faults.{first_some, or_else}
use Rattle.ebpf_load_info.specs.KernelNumbers.{as_text, without_prefix}

-- what was found or the item has, or else what is left behind it
pub found_more : {X Y : Type 0} (f : X → Option Y) (found next : Option Y) (xs : List X) (i : ℕ) (x : X) → i < length xs
    → x ≡ slice_index_or xs i x → next ≡ or_else found (f x)
    → or_else next (first_some f (drop (i + 1) xs)) ≡ or_else found (first_some f (drop i xs))
found_more f found next xs i x below here is =
    ap (λ o. or_else o (first_some f (drop (i + 1) xs))) is
    ∙ or_else-assoc found (f x) (first_some f (drop (i + 1) xs))
    ∙ ap (λ l. or_else found (first_some f l)) (sym (rest_more xs i x below here))

-- an item that has nothing
pub passed_over : {X Y : Type 0} (f : X → Option Y) (found : Option Y) (xs : List X) (i : ℕ) (x : X) → drop i xs ≡ x ∷ drop (i + 1) xs → f x ≡ None
    → or_else found (first_some f (drop (i + 1) xs)) ≡ or_else found (first_some f (drop i xs))
passed_over f found xs i x here none =
    ap (λ o. or_else found (or_else o (first_some f (drop (i + 1) xs)))) (sym none)
    ∙ ap (λ l. or_else found (first_some f l)) (sym here)

pub found_already : {Y : Type 0} (found rest : Option Y) → is_some found ≡ true → found ≡ or_else found rest
found_already (Some y) rest is = refl
found_already None rest is = cc

-- one passes a test where a first one does
pub any_found : {X : Type 0} (p : X → Bool) (xs : List X) → list_any p xs ≡ is_some (find p xs)
any_found p [] = refl
any_found p (x ∷ xs) = by_first (p x) (any_found p xs)
  where
    by_first : (b : Bool) → list_any p xs ≡ is_some (find p xs) → (b || list_any p xs) ≡ is_some (cond b (Some x) (find p xs))
    by_first true rest = refl
    by_first false rest = rest

-- ---- texts that begin with another, and bytes that are no text

-- what `strip_prefix` at a text gives
pub strips_text : (prefix text : List ℕ) (r : Option (Bor (List ℕ)))
    → MatchOption r (FindsTextPrefix prefix text None) (λ x. StripsPrefix (FindsTextPrefix prefix) text x.now)
    → option_copied r ≡ without_prefix prefix text
strips_text prefix text None lacks =
    ap (λ b. if b then Some (drop (length prefix) text) else None) (starts_text false prefix text lacks)
strips_text prefix text (Some x) (n, found, rest, size) =
    let boundary : IsCharBoundary text n = subst (λ k. IsCharBoundary text k) (sym found.0) found.2 in
    ap Some (rest ∙ ap (λ k. drop k text) found.0)
    ∙ ap (λ b. if b then Some (drop (length prefix) text) else None) (starts_text true prefix text (n, found, boundary))

pub is_text : (bytes : List ℕ) → IsUtf8 bytes → as_text bytes ≡ Some bytes
is_text bytes utf8 = rw (is_utf8-from_IsUtf8 bytes utf8) refl

pub is_no_text : (bytes : List ℕ) → ¬ IsUtf8 bytes → as_text bytes ≡ None
is_no_text bytes other = by_test (is_utf8 bytes) refl
  where
    by_test : (b : Bool) → is_utf8 bytes ≡ b → (if b then Some bytes else None) ≡ None
    by_test true e = absurd (other (IsUtf8-from_is_utf8 bytes e))
    by_test false e = refl
