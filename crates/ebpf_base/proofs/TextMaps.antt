-- The same for maps keyed by texts, which a finite map has by their bytes.
use Rattle.std.proofs.Common.{◌≡◌, ℕ, Bool, ◌&&◌, suc, cond, List, [], ◌∷◌, map, length, Option, Some, None, refl, sym, ap, ◌∙◌, ◌↔◌, true, false}
use Rattle.std.specs.declared.cmp.Ordering.TheVariants.{Less}
use Rattle.std.specs.Ordering.{eq_by_cmp}
use Rattle.std.specs.Cmp.Lexicographic.{pointwise}
use Rattle.std.specs.List.{AllByRecursion}
use Rattle.std.specs.List.Sorted.{IsStrictlySortedBy}
use Rattle.std.specs.Map.{lookup, keys_of, values_of, update}
use Rattle.std.specs.BTreeMap.{is_at}
use Rattle.std.specs.Str.{bytes_eq}
use Rattle.std.specs.String.{string_bytes, string_cmp, string_eq}
use Rattle.std.specs.declared.string.String.{String}
use Rattle.std.specs.FinMap.{IsAntisymmetric, from_entries, get, insert, remove, empty, len, entries, slice_cmp-IsAntisymmetric, nat_cmp-IsAntisymmetric}
use Rattle.std.specs.Cmp.{eq_by_cmp_equiv}
use Rattle.std.proofs.lemmas.Map.Text.{is_eq-slice_cmp}
use Rattle.std.proofs.lemmas.Slice.Eq.{bytes_eq-Decides}
use Rattle.ebpf_base.specs.Maps.{maps_eq, text_cmp, text_total, by_bytes}
use Rattle.ebpf_base.proofs.Maps.{get-view, one_set, one_removed, len-view, empty-view, entries-view, is_equal}
use Rattle.ebpf_base.proofs.SameMaps.{same_maps}

pub text_exact : IsAntisymmetric text_cmp
text_exact = slice_cmp-IsAntisymmetric nat_cmp-IsAntisymmetric

text_agrees : (x y : List ℕ) → bytes_eq x y ≡ eq_by_cmp text_cmp x y
text_agrees x y = sym (is_eq-slice_cmp x y)

-- two tests of one thing
pub same_tests : (q name : List ℕ) → eq_by_cmp text_cmp q name ≡ bytes_eq name q
same_tests q name = by_both (eq_by_cmp text_cmp q name) (bytes_eq name q) refl refl
  where
    by_both : (a b : Bool) → eq_by_cmp text_cmp q name ≡ a → bytes_eq name q ≡ b → a ≡ b
    by_both true true p r = refl
    by_both false false p r = refl
    by_both true false p r =
        let same : name ≡ q = sym (text_exact q name (is_equal _ p)) in
        let yes : bytes_eq name q ≡ true = (bytes_eq-Decides name q).1 same in
        cc
    by_both false true p r =
        let same : name ≡ q = (bytes_eq-Decides name q).0 r in
        let yes : eq_by_cmp text_cmp q name ≡ true = ap (λ n. eq_by_cmp text_cmp q n) same ∙ (eq_by_cmp_equiv text_total).refl q in
        cc

module _ {X Y : Type 0} where
  pub length-by_bytes : (es : List (String Y × X)) → length (by_bytes es) ≡ length es
  length-by_bytes [] = refl
  length-by_bytes (e ∷ es) = ap suc (length-by_bytes es)

  -- the values beside the names
  pub values-by_bytes : (es : List (String Y × X)) → values_of es ≡ values_of (by_bytes es)
  values-by_bytes [] = refl
  values-by_bytes (e ∷ es) = ap (λ vs. e.1 ∷ vs) (values-by_bytes es)

  -- the names, as their bytes
  pub keys-by_bytes : (es : List (String Y × X)) → map string_bytes (keys_of es) ≡ keys_of (by_bytes es)
  keys-by_bytes [] = refl
  keys-by_bytes (e ∷ es) = ap (λ ks. string_bytes e.0 ∷ ks) (keys-by_bytes es)

  -- names in order, as their bytes
  pub rising_bytes : (es : List (String Y × X)) → IsStrictlySortedBy string_cmp (keys_of es) → IsStrictlySortedBy text_cmp (keys_of (by_bytes es))
  unfolding IsStrictlySortedBy
  rising_bytes [] h = tt
  rising_bytes (e ∷ es) h = (above es h.0, rising_bytes es h.1)
    where
      above : (fs : List (String Y × X)) → AllByRecursion (λ y. string_cmp e.0 y ≡ Less) (keys_of fs) → AllByRecursion (λ y. text_cmp (string_bytes e.0) y ≡ Less) (keys_of (by_bytes fs))
      above [] g = tt
      above (f ∷ fs) g = (g.0, above fs g.1)

  lookup-by_bytes : (q : List ℕ) (es : List (String Y × X)) → lookup (is_at (text_cmp q)) (by_bytes es) ≡ lookup (is_at (λ k. text_cmp q (string_bytes k))) es
  lookup-by_bytes q [] = refl
  lookup-by_bytes q (e ∷ es) = ap (cond (is_at (text_cmp q) (string_bytes e.0)) (Some e.1)) (lookup-by_bytes q es)

  -- the finite map answers as the map does
  pub get-text : (es : List (String Y × X)) (q : List ℕ) → get (from_entries {R = text_cmp} (by_bytes es)) q ≡ lookup (is_at (λ k. text_cmp q (string_bytes k))) es
  get-text es q = get-view text_total (by_bytes es) q ∙ lookup-by_bytes q es

  changed-text : (es fs : List (String Y × X)) (k : List ℕ) (w : Option X) → ((q : List ℕ) → lookup (is_at (λ s. text_cmp q (string_bytes s))) fs ≡ update bytes_eq (λ r. lookup (is_at (λ s. text_cmp r (string_bytes s))) es) k w q) → (q : List ℕ) → lookup (is_at (text_cmp q)) (by_bytes fs) ≡ cond (is_at (text_cmp k) q) w (lookup (is_at (text_cmp q)) (by_bytes es))
  changed-text es fs k w h q =
      lookup-by_bytes q fs ∙ h q ∙ ap (λ b. cond b w (lookup (is_at (λ s. text_cmp q (string_bytes s))) es)) (text_agrees k q) ∙ ap (cond (is_at (text_cmp k) q) w) (sym (lookup-by_bytes q es))

  -- entries that differ at one text
  pub one_set_text : (es fs : List (String Y × X)) (k : List ℕ) (v : X) → ((q : List ℕ) → lookup (is_at (λ s. text_cmp q (string_bytes s))) fs ≡ update bytes_eq (λ r. lookup (is_at (λ s. text_cmp r (string_bytes s))) es) k (Some v) q) → from_entries {R = text_cmp} (by_bytes fs) ≡ insert (from_entries (by_bytes es)) k v
  one_set_text es fs k v h = one_set text_total text_exact (by_bytes es) (by_bytes fs) k v (changed-text es fs k (Some v) h)

  pub one_removed_text : (es fs : List (String Y × X)) (k : List ℕ) → ((q : List ℕ) → lookup (is_at (λ s. text_cmp q (string_bytes s))) fs ≡ update bytes_eq (λ r. lookup (is_at (λ s. text_cmp r (string_bytes s))) es) k None q) → from_entries {R = text_cmp} (by_bytes fs) ≡ remove (from_entries (by_bytes es)) k
  one_removed_text es fs k h = one_removed text_total text_exact (by_bytes es) (by_bytes fs) k (changed-text es fs k None h)

  -- the entries in order are those of the finite map
  pub entries-text : (es : List (String Y × X)) → IsStrictlySortedBy string_cmp (keys_of es) → entries (from_entries {R = text_cmp} (by_bytes es)) ≡ by_bytes es
  entries-text es h = entries-view text_total (by_bytes es) (rising_bytes es h)

  pub len-text : (es : List (String Y × X)) → IsStrictlySortedBy string_cmp (keys_of es) → len (from_entries {R = text_cmp} (by_bytes es)) ≡ length es
  len-text es h = len-view text_total _ (rising_bytes es h) ∙ length-by_bytes es

  pub empty-text : (es : List (String Y × X)) → (length es ≡ 0) ↔ (from_entries {R = text_cmp} (by_bytes es) ≡ empty)
  empty-text es =
      let both = empty-view text_total (by_bytes es) in
      (λ e. both.0 (length-by_bytes es ∙ e), λ e. sym (length-by_bytes es) ∙ both.1 e)

  pointwise-by_bytes : (eq : X → X → Bool) (es fs : List (String Y × X)) → pointwise (λ p q. string_eq p.0 q.0 && eq p.1 q.1) es fs ≡ pointwise (λ p q. bytes_eq p.0 q.0 && eq p.1 q.1) (by_bytes es) (by_bytes fs)
  pointwise-by_bytes eq [] [] = refl
  pointwise-by_bytes eq [] (f ∷ fs) = refl
  pointwise-by_bytes eq (e ∷ es) [] = refl
  pointwise-by_bytes eq (e ∷ es) (f ∷ fs) = ap (λ b. (string_eq e.0 f.0 && eq e.1 f.1) && b) (pointwise-by_bytes eq es fs)

  -- entries in order are equal as the maps are
  pub same_texts : (eq : X → X → Bool) (es fs : List (String Y × X)) → IsStrictlySortedBy string_cmp (keys_of es) → IsStrictlySortedBy string_cmp (keys_of fs) → pointwise (λ p q. string_eq p.0 q.0 && eq p.1 q.1) es fs ≡ maps_eq {R = text_cmp} eq (from_entries (by_bytes es)) (from_entries (by_bytes fs))
  same_texts eq es fs up vp = pointwise-by_bytes eq es fs ∙ same_maps text_total bytes_eq text_agrees eq (by_bytes es) (by_bytes fs) (rising_bytes es up) (rising_bytes fs vp)

-- the lemmas by which a map by names is a finite map
pub ruleset named = (get-text, entries-text, rising_bytes, len-text, empty-text)
