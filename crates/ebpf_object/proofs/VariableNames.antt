-- The name that a symbol's index is found by is the symbol's own.
use Rattle.std.proofs.Common.{◌≡◌, ℕ, true, false, List, [], ◌∷◌, ◌++◌, Option, Some, None, refl, sym, ap, subst, ◌∙◌, if◌then◌else◌, option_map, option_and_then, flat_map}
use Rattle.std.specs.FinMap.{FinMap, empty, entries, get, get-empty}
use Rattle.std.specs.List.{AllByRecursion, cons_option, filter_map}
use Rattle.std.specs.Map.{keys_of}
use Rattle.std.specs.Ordering.{nat_cmp, eq_by_cmp}
use Rattle.ebpf_base.proofs.Mapped.{later_text_stands}
use Rattle.ebpf_base.proofs.Maps.{is_equal}
use Rattle.ebpf_base.proofs.TextMaps.{text_exact}
use Rattle.ebpf_base.specs.Maps.{last_at, put_all, text_cmp}
use Rattle.ebpf_ksyms.proofs.Resolving.{all_found}
use Rattle.ebpf_model.specs.declared.symbol.Symbol.{Symbol}
use Rattle.ebpf_object.specs.Patches.{named_at, named_by, symbol_indices}
use Rattle.ebpf_object.specs.PrivateContracts.{variable_in}
use Rattle.ebpf_object.specs.Variables.{named_variable, variable_at, variable_map}
use Rattle.ebpf_parts.specs.declared.maps.either.Map.{Map}

-- ---- what holds of each entry holds of what stands at a text

module _ {X : Type 0} (P : List ℕ → X → Type 0) (q : List ℕ) where
  stands_from : (z : Option X) → ((x : X) → z ≡ Some x → P q x) → (es : List (List ℕ × X)) → AllByRecursion (λ e. P e.0 e.1) es → (x : X) → last_at text_cmp q z es ≡ Some x → P q x
  stands_from z before [] every x e = before x e
  stands_from z before (h ∷ es) every x e = stands_from (if eq_by_cmp text_cmp q h.0 then Some h.1 else z)
      (elim (eq_by_cmp text_cmp q h.0) as (λ b. eq_by_cmp text_cmp q h.0 ≡ b → (y : X) → (if b then Some h.1 else z) ≡ Some y → P q y) [
        | true ↦ λ t y f. let same : h.1 ≡ y = cc in subst (P q) same (subst (λ k. P k h.1) (sym (text_exact q h.0 (is_equal _ t))) every.0)
        | false ↦ λ t y f. before y f
      ] refl)
      es every.1 x e

  stands : (es : List (List ℕ × X)) → AllByRecursion (λ e. P e.0 e.1) es → (x : X) → get (put_all {R = text_cmp} empty es) q ≡ Some x → P q x
  stands es every x e =
      stands_from None (λ y f. absurd (let no : ⊥ = cc in no)) es every x
      (ap (λ z. last_at text_cmp q z es) (sym (get-empty text_cmp q)) ∙ (sym (later_text_stands empty es q) ∙ e))

-- ---- of the indices of symbols

module _ (symbols : FinMap nat_cmp Symbol) where
  abbrev own_name : Option Symbol → Option (List ℕ)
  own_name z = option_and_then (λ s. s.name) z

  abbrev Names : List ℕ → ℕ → Type 0
  Names name n = own_name (get symbols n) ≡ Some name

  abbrev AllName : List (List ℕ × ℕ) → Type 0
  AllName es = AllByRecursion (λ e. Names e.0 e.1) es

  name_by : (n : ℕ) (z : Option (List ℕ)) → own_name (get symbols n) ≡ z → AllName (named_by n z)
  name_by n None e = tt
  name_by n (Some name) e = (e, tt)

  name_at : (n : ℕ) (z : Option Symbol) → get symbols n ≡ z → AllName (named_at n z)
  name_at n None e = tt
  name_at n (Some s) e = name_by n s.name (ap own_name e)

  both_name : (xs ys : List (List ℕ × ℕ)) → AllName xs → AllName ys → AllName (xs ++ ys)
  both_name [] ys h k = k
  both_name (x ∷ xs) ys h k = (h.0, both_name xs ys h.1 k)

  all_name : (ns : List ℕ) → AllName (flat_map (λ n. named_at n (get symbols n)) ns)
  all_name [] = tt
  all_name (n ∷ ns) = both_name (named_at n (get symbols n)) (flat_map (λ n. named_at n (get symbols n)) ns) (name_at n (get symbols n) refl) (all_name ns)

  index_names : (name : List ℕ) (n : ℕ) → get (symbol_indices symbols) name ≡ Some n → Names name n
  index_names name n e = stands Names name (flat_map (λ n. named_at n (get symbols n)) (keys_of (entries symbols))) (all_name (keys_of (entries symbols))) n e

  -- ---- so a variable may be listed by its symbol's name

  module _ (maps : List (List ℕ × Map)) where
    same_in : (name : List ℕ) (s : Symbol) → s.name ≡ Some name → (z : Option (List ℕ))
        → option_and_then variable_in (option_map (λ map. (map, s)) z) ≡ option_map (named_variable name) (option_map (λ map. (map, s)) z)
    same_in name s is None = refl
    same_in name s is (Some map) = ap (option_map (λ own. named_variable own (map, s))) is

    same_of : (name : List ℕ) (z : Option Symbol) → own_name z ≡ Some name
        → option_and_then variable_in (option_and_then (λ s. option_map (λ map. (map, s)) (variable_map maps s)) z)
        ≡ option_map (named_variable name) (option_and_then (λ s. option_map (λ map. (map, s)) (variable_map maps s)) z)
    same_of name None is = refl
    same_of name (Some s) is = same_in name s is (variable_map maps s)

    same_all : (es : List (List ℕ × ℕ)) → AllByRecursion (λ e. get (symbol_indices symbols) e.0 ≡ Some e.1) es
        → filter_map (λ e. option_and_then variable_in (variable_at symbols maps e.1)) es ≡ filter_map (λ e. option_map (named_variable e.0) (variable_at symbols maps e.1)) es
    same_all [] h = refl
    same_all (e ∷ es) h =
        let here = same_of e.0 (get symbols e.1) (index_names e.0 e.1 h.0) in
        let rest = same_all es h.1 in
        λ i. cons_option (here i) (rest i)

    pub listed_by_names : filter_map (λ e. option_and_then variable_in (variable_at symbols maps e.1)) (entries (symbol_indices symbols)) ≡ filter_map (λ e. option_map (named_variable e.0) (variable_at symbols maps e.1)) (entries (symbol_indices symbols))
    listed_by_names = same_all (entries (symbol_indices symbols)) (all_found (symbol_indices symbols))
