-- The last entry with a key: one that is put again later need not be put before. So with programs.
use Rattle.std.proofs.Common.{◌≡◌, true, false, cond, List, [], ◌∷◌, ◌++◌, Option, Some, None, refl, ap, ◌∙◌, if◌then◌else◌, ℕ, Bool, ◌||◌, sym, arith, ◌<◌, ◌+◌, map, filter, length, drop, subst}
use Rattle.std.proofs.lemmas.Bool.Decides.{nat_tests}
use Rattle.std.proofs.lemmas.List.Folds.{list_any-append}
use Rattle.std.specs.Cmp.{IsTotalOrder, eq_by_cmp_equiv, nat_cmp_total}
use Rattle.std.specs.FinMap.{find, FinMap, IsAntisymmetric, get, insert, empty, get-insert, get-empty, same_map}
use Rattle.std.specs.List.{AllByRecursion, list_any, flat_map}
use Rattle.std.specs.Ordering.{is_eq, eq_by_cmp, nat_cmp, ordering_then}
use Rattle.std.specs.Prelude.{slice_index_or}
use Rattle.std.specs.declared.cmp.Ordering.{Ordering}
use Rattle.std.specs.declared.cmp.Ordering.TheVariants.{Equal}
use Rattle.ebpf_base.proofs.Mapped.{later_stands}
use Rattle.ebpf_base.proofs.Maps.{key_exact, is_equal}
use Rattle.ebpf_base.proofs.Lists.{rest_more, kept_more, passed_more, fault_here}
use Rattle.ebpf_base.specs.Faults.{or_else, first_some}
use Rattle.ebpf_base.specs.Maps.{last_at, put_all, key_cmp, key_total}
use Rattle.ebpf_model.specs.declared.function.Function.{Function}
use Rattle.ebpf_parts.specs.Sections.{SectionValue}
use Rattle.ebpf_sections.specs.Programs.{is_program_symbol, program_function, program_fault, program_functions, programs_fault, with_key, program_symbol_row}
use Rattle.ebpf_sections.specs.Records.{FuncAndLineInfo}
use Rattle.ebpf_sections.specs.Sections.{is_index}
use Rattle.ebpf_sections.specs.Symbols.{SymbolValue}

-- ---- the last entry with a key, and the one that is found

-- no two keys are equal
abbrev pub KeysDiffer : {K X : Type 0} → (K → K → Ordering) → List (K × X) → Type 0
KeysDiffer R [] = Unit {0}
KeysDiffer R (e ∷ es) = AllByRecursion (λ x. eq_by_cmp R e.0 x.0 ≡ false) es × KeysDiffer R es

module _ {K X : Type 0} (R : K → K → Ordering) (q : K) where
  pub last_at-append : (before : Option X) (es fs : List (K × X)) → last_at R q before (es ++ fs) ≡ last_at R q (last_at R q before es) fs
  last_at-append before [] fs = refl
  last_at-append before (e ∷ es) fs = last_at-append (if eq_by_cmp R q e.0 then Some e.1 else before) es fs

  -- among other keys there is none
  pub last_at-apart : (before : Option X) (es : List (K × X)) → AllByRecursion (λ e. eq_by_cmp R q e.0 ≡ false) es → last_at R q before es ≡ before
  last_at-apart before [] h = refl
  last_at-apart before (e ∷ es) h = ap (λ b. last_at R q (if b then Some e.1 else before) es) h.0 ∙ last_at-apart before es h.1

  module _ (o : IsTotalOrder R) where
    tied_apart : (k : K) (es : List (K × X)) → R q k ≡ Equal → AllByRecursion (λ e. eq_by_cmp R k e.0 ≡ false) es → AllByRecursion (λ e. eq_by_cmp R q e.0 ≡ false) es
    tied_apart k [] t h = tt
    tied_apart k (e ∷ es) t h = (ap is_eq (o.congr q k e.0 t) ∙ h.0, tied_apart k es t h.1)

    -- where the keys differ, the last with a key is the one that is found
    pub last_at-differ : (es : List (K × X)) → KeysDiffer R es → last_at R q None es ≡ find R q es
    last_at-differ [] h = refl
    last_at-differ (e ∷ es) h =
        elim (eq_by_cmp R q e.0) as (λ b. eq_by_cmp R q e.0 ≡ b → last_at R q (if b then Some e.1 else None) es ≡ cond b (Some e.1) (find R q es)) [
          | true ↦ λ t. last_at-apart (Some e.1) es (tied_apart e.0 es (is_equal _ t) h.0)
          | false ↦ λ t. last_at-differ es h.1
        ] refl

-- ---- an entry that is put again later need not be put before

-- whether a key is among entries
abbrev pub has : {K X : Type 0} → (K → K → Ordering) → K → List (K × X) → Bool
has R q es = list_any (λ e. eq_by_cmp R q e.0) es

pub false_is_not : {P : Type 0} → false ≡ true → P
false_is_not e = cc

module _ {K X : Type 0} (R : K → K → Ordering) (q : K) where
  -- where a key is among entries, the last of them does not rest on what was before
  pub whatever : (es : List (K × X)) → has R q es ≡ true → (a b : Option X) → last_at R q a es ≡ last_at R q b es
  whatever [] h a b = false_is_not h
  whatever (e ∷ es) h a b = step (λ g. whatever es g a b) (eq_by_cmp R q e.0) refl
    where
      step : (has R q es ≡ true → last_at R q a es ≡ last_at R q b es) → (t : Bool) → eq_by_cmp R q e.0 ≡ t → last_at R q (if eq_by_cmp R q e.0 then Some e.1 else a) es ≡ last_at R q (if eq_by_cmp R q e.0 then Some e.1 else b) es
      step more true at = rw at refl
      step more false at =
          let rest : has R q es ≡ true = sym (ap (λ t. t || has R q es) at) ∙ h in
          rw at (more rest)

  -- none is among them
  pub none_last : (es : List (K × X)) → has R q es ≡ false → (a : Option X) → last_at R q a es ≡ a
  none_last [] h a = refl
  none_last (e ∷ es) h a = step (λ g. none_last es g a) (eq_by_cmp R q e.0) refl
    where
      step : (has R q es ≡ false → last_at R q a es ≡ a) → (t : Bool) → eq_by_cmp R q e.0 ≡ t → last_at R q (if eq_by_cmp R q e.0 then Some e.1 else a) es ≡ a
      step more true at = let e : true ≡ false = sym (ap (λ t. t || has R q es) at) ∙ h in cc
      step more false at =
          let rest : has R q es ≡ false = sym (ap (λ t. t || has R q es) at) ∙ h in
          rw at (more rest)

-- an entry that is put again later
pub put_again : {K X : Type 0} {R : K → K → Ordering} → IsTotalOrder R → IsAntisymmetric R → (m : FinMap R X) (k : K) (v : X) (es : List (K × X)) → has R k es ≡ true → put_all (insert m k v) es ≡ put_all m es
put_again {K = K} {R = R} o exact m k v es h = same_map o exact _ _ (λ q.
    later_stands o (insert m k v) es q ∙ ap (λ x. last_at R q x es) (get-insert o m k v q) ∙ step q (eq_by_cmp R q k) refl ∙ sym (later_stands o m es q))
  where
    step : (q : K) (t : Bool) → eq_by_cmp R q k ≡ t → last_at R q (cond t (Some v) (get m q)) es ≡ last_at R q (get m q) es
    step q true at =
        let same : q ≡ k = exact q k (is_equal _ at) in
        whatever R q es (ap (λ x. has R x es) same ∙ h) _ _
    step q false at = refl

-- the rows of items, each a key and a number
module _ {K A : Type 0} {R : K → K → Ordering} (o : IsTotalOrder R) (row : A → List (K × ℕ)) where
  -- of the items that are left, the last of a key is the last of all
  pub record Lasts (last : FinMap R ℕ) (rest : List A) : Type 0 where
    pub is : (q : K) → has R q (flat_map row rest) ≡ true → get last q ≡ last_at R q None (flat_map row rest)

  pub all_lasts : (last : FinMap R ℕ) (rest : List A) → last ≡ put_all empty (flat_map row rest) → Lasts last rest
  all_lasts last rest e = record {
    is = λ q h. ap (λ m. get m q) e ∙ later_stands o empty (flat_map row rest) q ∙ ap (λ x. last_at R q x (flat_map row rest)) (get-empty R q);
  }

  module _ (last : FinMap R ℕ) (s : A) (rest : List A) (lasts : Lasts last (s ∷ rest)) where
    both : (q : K) → last_at R q None (flat_map row (s ∷ rest)) ≡ last_at R q (last_at R q None (row s)) (flat_map row rest)
    both q = last_at-append R q None (row s) (flat_map row rest)

    later : (q : K) → has R q (flat_map row rest) ≡ true → has R q (flat_map row (s ∷ rest)) ≡ true
    later q h = list_any-append (λ e. eq_by_cmp R q e.0) (row s) (flat_map row rest) ∙ second (has R q (row s)) (has R q (flat_map row rest)) h
      where
        second : (a b : Bool) → b ≡ true → (a || b) ≡ true
        second true b h = refl
        second false b h = h

    pub fewer_lasts : Lasts last rest
    fewer_lasts = record { is = λ q h. lasts.is q (later q h) ∙ both q ∙ whatever R q (flat_map row rest) h _ _ }

    -- an item that is not the last of its key has another behind it
    pub another : (k : K) (i : ℕ) → row s ≡ (k, i) ∷ [] → is_index i (get last k) ≡ false → has R k (flat_map row rest) ≡ true
    another k i is differs = step (has R k (flat_map row rest)) refl
      where
        itself : eq_by_cmp R k k ≡ true
        itself = (eq_by_cmp_equiv o).refl k

        here : has R k (flat_map row (s ∷ rest)) ≡ true
        here = list_any-append (λ e. eq_by_cmp R k e.0) (row s) (flat_map row rest) ∙ ap (λ r. has R k r || has R k (flat_map row rest)) is ∙ ap (λ b. (b || false) || has R k (flat_map row rest)) itself

        is_itself : is_index i (Some i) ≡ true
        is_itself = grind (arith, nat_tests)

        step : (b : Bool) → has R k (flat_map row rest) ≡ b → has R k (flat_map row rest) ≡ true
        step true at = at
        step false at =
            let stands : get last k ≡ Some i =
            lasts.is k here ∙ both k
            ∙ ap (λ r. last_at R k (last_at R k None r) (flat_map row rest)) is
            ∙ ap (λ b. last_at R k (if b then Some i else None) (flat_map row rest)) itself
            ∙ none_last R k (flat_map row rest) at (Some i) in
            let wrong : true ≡ false = sym is_itself ∙ ap (is_index i) (sym stands) ∙ differs in
            cc

-- ---- the functions of programs, of which only the last at an address is put

abbrev pub ProgramLasts : FinMap nat_cmp ℕ → List SymbolValue → Type 0
ProgramLasts last rest = Lasts nat_cmp_total program_symbol_row last rest

-- a symbol that names a program, and one that names none
pub row_more : (xs : List SymbolValue) (i : ℕ) (x : SymbolValue) → i < length xs → x ≡ slice_index_or xs i x → is_program_symbol x ≡ true
    → flat_map program_symbol_row (drop i xs) ≡ (x.address, x.index) ∷ flat_map program_symbol_row (drop (i + 1) xs)
row_more xs i x below here kept = ap (flat_map program_symbol_row) (rest_more xs i x below here) ∙ ap (λ (b : Bool). (if b then (x.address, x.index) ∷ [] else []) ++ flat_map program_symbol_row (drop (i + 1) xs)) kept

pub row_passed : (xs : List SymbolValue) (i : ℕ) (x : SymbolValue) → i < length xs → x ≡ slice_index_or xs i x → is_program_symbol x ≡ false
    → flat_map program_symbol_row (drop i xs) ≡ flat_map program_symbol_row (drop (i + 1) xs)
row_passed xs i x below here passed = ap (flat_map program_symbol_row) (rest_more xs i x below here) ∙ ap (λ (b : Bool). (if b then (x.address, x.index) ∷ [] else []) ++ flat_map program_symbol_row (drop (i + 1) xs)) passed

pub fewer : (last : FinMap nat_cmp ℕ) (xs : List SymbolValue) (i : ℕ) (x : SymbolValue) → i < length xs → x ≡ slice_index_or xs i x → ProgramLasts last (drop i xs) → ProgramLasts last (drop (i + 1) xs)
fewer last xs i x below here lasts = fewer_lasts nat_cmp_total program_symbol_row last x (drop (i + 1) xs) (subst (λ (l : List SymbolValue). ProgramLasts last l) (rest_more xs i x below here) lasts)

module _ (infos : FuncAndLineInfo) (s : SectionValue) where
  abbrev entries_of : List SymbolValue → List ((ℕ × ℕ) × Function)
  entries_of symbols = map with_key (program_functions infos s symbols)

  same_section : (q a : ℕ) → eq_by_cmp key_cmp (s.index.0, q) (s.index.0, a) ≡ eq_by_cmp nat_cmp q a
  same_section q a = ap (λ r. is_eq (ordering_then r (nat_cmp q a))) (is_equal (nat_cmp s.index.0 s.index.0) ((eq_by_cmp_equiv nat_cmp_total).refl s.index.0))

  either : (a b c d : Bool) → c ≡ a → (b ≡ true → d ≡ true) → (a || b) ≡ true → (c || d) ≡ true
  either true b c d e g h = ap (λ x. x || d) e
  either false b c d e g h = ap (λ x. x || d) e ∙ g h

  -- a program's symbol gives a function at its address
  rows_give : (q : ℕ) (rest : List SymbolValue) → has nat_cmp q (flat_map program_symbol_row rest) ≡ true → has key_cmp (s.index.0, q) (entries_of rest) ≡ true
  unfolding program_function
  rows_give q [] h = false_is_not h
  rows_give q (x ∷ rest) h = step (rows_give q rest) (is_program_symbol x) h
    where
      step : (has nat_cmp q (flat_map program_symbol_row rest) ≡ true → has key_cmp (s.index.0, q) (entries_of rest) ≡ true) → (b : Bool) → has nat_cmp q ((if b then (x.address, x.index) ∷ [] else []) ++ flat_map program_symbol_row rest) ≡ true
          → has key_cmp (s.index.0, q) (map with_key (map (program_function infos s) (if b then x ∷ filter is_program_symbol rest else filter is_program_symbol rest))) ≡ true
      step more true g = either (eq_by_cmp nat_cmp q x.address) (has nat_cmp q (flat_map program_symbol_row rest)) (eq_by_cmp key_cmp (s.index.0, q) (s.index.0, x.address)) (has key_cmp (s.index.0, q) (entries_of rest)) (same_section q x.address) more g
      step more false g = more g

  -- one that is not the last at its address need not be put
  pub program_passed : (m : FinMap key_cmp Function) (last : FinMap nat_cmp ℕ) (xs : List SymbolValue) (i : ℕ) (x : SymbolValue) → i < length xs → x ≡ slice_index_or xs i x → is_program_symbol x ≡ true
      → ProgramLasts last (drop i xs) → is_index x.index (get last x.address) ≡ false
      → put_all m (entries_of (drop (i + 1) xs)) ≡ put_all m (entries_of (drop i xs))
  unfolding program_function
  program_passed m last xs i x below here kept lasts differs =
      let more : drop i xs ≡ x ∷ drop (i + 1) xs = rest_more xs i x below here in
      let row : program_symbol_row x ≡ (x.address, x.index) ∷ [] = ap (λ (b : Bool). if b then (x.address, x.index) ∷ [] else []) kept in
      let behind = another nat_cmp_total program_symbol_row last x (drop (i + 1) xs) (subst (λ (l : List SymbolValue). ProgramLasts last l) more lasts) x.address x.index row differs in
      let f = program_function infos s x in
      sym (put_again key_total key_exact m (s.index.0, x.address) f (entries_of (drop (i + 1) xs)) (rows_give x.address (drop (i + 1) xs) behind))
      ∙ sym (ap (λ (b : Bool). put_all m (map with_key (map (program_function infos s) (if b then x ∷ filter is_program_symbol (drop (i + 1) xs) else filter is_program_symbol (drop (i + 1) xs))))) kept)
      ∙ sym (ap (λ l. put_all m (entries_of l)) more)

  -- the next symbol: it names no program, or one without a fault
  pub passed_fault : (xs : List SymbolValue) (i : ℕ) (x : SymbolValue) → i < length xs → x ≡ slice_index_or xs i x → is_program_symbol x ≡ false
      → programs_fault s (drop (i + 1) xs) ≡ programs_fault s (drop i xs)
  passed_fault xs i x below here passed = ap (first_some (program_fault s)) (sym (passed_more (program_function infos s) (program_fault s) is_program_symbol xs i x below here passed))

  pub passed_put : (m : FinMap key_cmp Function) (xs : List SymbolValue) (i : ℕ) (x : SymbolValue) → i < length xs → x ≡ slice_index_or xs i x → is_program_symbol x ≡ false
      → put_all m (entries_of (drop (i + 1) xs)) ≡ put_all m (entries_of (drop i xs))
  passed_put m xs i x below here passed = ap (λ l. put_all m (map with_key (map (program_function infos s) l))) (sym (passed_more (program_function infos s) (program_fault s) is_program_symbol xs i x below here passed))

  pub next_fault : (xs : List SymbolValue) (i : ℕ) (x : SymbolValue) → i < length xs → x ≡ slice_index_or xs i x → is_program_symbol x ≡ true → program_fault s x ≡ None
      → programs_fault s (drop (i + 1) xs) ≡ programs_fault s (drop i xs)
  next_fault xs i x below here kept clear =
      sym (fault_here (program_function infos s) (program_fault s) is_program_symbol xs i x below here kept ∙ ap (λ o. or_else o (programs_fault s (drop (i + 1) xs))) clear)

  pub next_put : (m n : FinMap key_cmp Function) (f : Function) (xs : List SymbolValue) (i : ℕ) (x : SymbolValue) → i < length xs → x ≡ slice_index_or xs i x → is_program_symbol x ≡ true
      → f ≡ program_function infos s x → n ≡ insert m (f.section_index.0, f.address) f
      → put_all n (entries_of (drop (i + 1) xs)) ≡ put_all m (entries_of (drop i xs))
  next_put m n f xs i x below here kept is put =
      ap (λ k. put_all k (entries_of (drop (i + 1) xs))) (put ∙ ap (λ (g : Function). insert m (g.section_index.0, g.address) g) is)
      ∙ sym (ap (λ l. put_all m (map with_key l)) (kept_more (program_function infos s) (program_fault s) is_program_symbol xs i x below here kept))
