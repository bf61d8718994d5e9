-- Symbols in their groups, and the first symbol of each name.
use Rattle.std.proofs.Common.{◌≡◌, ℕ, Bool, true, false, List, [], ◌∷◌, ◌++◌, filter, refl, sym, ap, ◌∙◌, append_assoc, append-nil, T, cond, Option, Some, None, subst}
use Rattle.std.proofs.lemmas.Map.Views.{tells_apart}
use Rattle.std.specs.BTreeMap.{BTreeMap}
use Rattle.std.specs.FinMap.{FinMap, get, insert, empty, contains_key, get-insert, get-empty}
use Rattle.std.specs.Global.{Vec}
use Rattle.std.specs.List.{find}
use Rattle.std.specs.Ordering.{eq_by_cmp}
use Rattle.std.specs.Prelude.{◌==◌, if◌then◌else◌, is_some, option_map}
use Rattle.ebpf_base.proofs.TextMaps.{text_exact}
use Rattle.ebpf_base.specs.Faults.{or_else}
use Rattle.ebpf_base.specs.Maps.{text_cmp, text_total}
use Rattle.ebpf_elf.specs.Relocations.{relocation_sections, relocated_section}
use Rattle.ebpf_elf.specs.Sections.{SectionOf}
use Rattle.ebpf_sections.specs.Sections.{group_at, AreTablesOf}
use Rattle.ebpf_sections.specs.Symbols.{names_of, SymbolValue, section_symbols, is_in_section, weak_named}

-- ---- one more symbol in its group

pub group_more : (group group' : List SymbolValue) (y : SymbolValue) (rest : List SymbolValue) (q : ℕ)
    → group' ≡ group ++ section_symbols (y ∷ []) q → group' ++ section_symbols rest q ≡ group ++ section_symbols (y ∷ rest) q
unfolding section_symbols
group_more group group' y rest q e =
    ap (λ g. g ++ filter (λ z. is_in_section q z.section_index) rest) e
    ∙ append_assoc group _ _
    ∙ ap (λ g. group ++ g) (split (is_in_section q y.section_index))
  where
    split : (b : Bool) → (if b then y ∷ [] else []) ++ filter (λ z. is_in_section q z.section_index) rest ≡ (if b then y ∷ filter (λ z. is_in_section q z.section_index) rest else filter (λ z. is_in_section q z.section_index) rest)
    split true = refl
    split false = refl

-- nothing is left
pub group_all : (group : List SymbolValue) (q : ℕ) → group ++ section_symbols [] q ≡ group
unfolding section_symbols
group_all group q = append-nil group

-- one more symbol's name behind those before it
pub names_more : (names names' : List (List ℕ)) (y : SymbolValue) (rest : List SymbolValue) → names' ≡ names ++ y.name ∷ [] → names' ++ names_of rest ≡ names ++ names_of (y ∷ rest)
names_more names names' y rest e = ap (λ n. n ++ names_of rest) e ∙ append_assoc names (y.name ∷ []) (names_of rest)

-- no symbol's name is left
pub names_all : (names : List (List ℕ)) → names ++ names_of [] ≡ names
names_all names = append-nil names

-- one more relocation section in the group of its target
pub target_more : (group group' : List SectionOf) (r : SectionOf) (rest : List SectionOf) (q : ℕ)
    → group' ≡ (if relocated_section r == q then group ++ r ∷ [] else group) → group' ++ filter (λ s. relocated_section s == q) rest ≡ group ++ filter (λ s. relocated_section s == q) (r ∷ rest)
target_more group group' r rest q e = ap (λ g. g ++ filter (λ s. relocated_section s == q) rest) e ∙ by_case (relocated_section r == q)
  where
    by_case : (b : Bool) → (if b then group ++ r ∷ [] else group) ++ filter (λ s. relocated_section s == q) rest ≡ group ++ (if b then r ∷ filter (λ s. relocated_section s == q) rest else filter (λ s. relocated_section s == q) rest)
    by_case true = append_assoc group (r ∷ []) (filter (λ s. relocated_section s == q) rest)
    by_case false = refl

-- those of a section of the file
pub tables_of_section : (file : List ℕ) (groups : BTreeMap ℕ (Vec SectionOf)) (s : SectionOf) (found : List SectionOf) → AreTablesOf file groups → s.file ≡ file → found ≡ group_at groups s.index
    → found ≡ filter (λ r. relocated_section r == s.index) (relocation_sections s.file)
tables_of_section file groups s found grouped own is = is ∙ grouped s.index ∙ sym (ap (λ f. filter (λ r. relocated_section r == s.index) (relocation_sections f)) own)

-- ---- the first symbol of each name

-- none is there before the first symbol
pub before_all : (symbols : List SymbolValue) (q : List ℕ) → or_else (get (empty {X = Bool} {R = text_cmp}) q) (weak_named symbols q) ≡ weak_named symbols q
before_all symbols q = ap (λ o. or_else o (weak_named symbols q)) (get-empty text_cmp q)

step : (o rest : Option Bool) (here same v : Bool) → (same ≡ true → here ≡ is_some o)
    → or_else (if here then o else cond same (Some v) o) rest ≡ or_else o (cond same (Some v) rest)
step (Some w) rest true same v h = refl
step (Some w) rest false true v h = absurd (subst T (sym (h refl)) tt)
step (Some w) rest false false v h = refl
step None rest true true v h = absurd (subst T (h refl) tt)
step None rest true false v h = refl
step None rest false true v h = refl
step None rest false false v h = refl

get_if : (m n : FinMap text_cmp Bool) (b : Bool) (q : List ℕ) → get (if b then m else n) q ≡ (if b then get m q else get n q)
get_if m n true q = refl
get_if m n false q = refl

named_cons : (y : SymbolValue) (rest : List SymbolValue) (q : List ℕ) → weak_named (y ∷ rest) q ≡ cond (eq_by_cmp text_cmp q y.name) (Some y.is_weak) (weak_named rest q)
named_cons y rest q = by_case (eq_by_cmp text_cmp q y.name)
  where
    by_case : (b : Bool) → option_map (λ (z : SymbolValue). z.is_weak) (if b then Some y else find (λ z. eq_by_cmp text_cmp q z.name) rest) ≡ cond b (Some y.is_weak) (weak_named rest q)
    by_case true = refl
    by_case false = refl

-- one more symbol
pub one_more : (m n : FinMap text_cmp Bool) (y : SymbolValue) (rest : List SymbolValue) (q : List ℕ)
    → n ≡ (if contains_key m y.name then m else insert m y.name y.is_weak)
    → or_else (get n q) (weak_named rest q) ≡ or_else (get m q) (weak_named (y ∷ rest) q)
one_more m n y rest q e =
    ap (λ t. or_else (get t q) (weak_named rest q)) e
    ∙ ap (λ o. or_else o (weak_named rest q)) (get_if m (insert m y.name y.is_weak) (contains_key m y.name) q ∙ ap (λ o. if contains_key m y.name then get m q else o) (get-insert text_total m y.name y.is_weak q))
    ∙ step (get m q) (weak_named rest q) (contains_key m y.name) (eq_by_cmp text_cmp q y.name) y.is_weak (λ same. ap (contains_key m) (sym (tells_apart text_exact q y.name same)))
    ∙ ap (or_else (get m q)) (sym (named_cons y rest q))

last : (o : Option Bool) → or_else o None ≡ o
last None = refl
last (Some b) = refl

-- the map names each symbol's name
pub all_named : (m : FinMap text_cmp Bool) (symbols : List SymbolValue) → ((q : List ℕ) → or_else (get m q) (weak_named [] q) ≡ weak_named symbols q) → get m ≡ weak_named symbols
all_named m symbols h = λ i q. (sym (last (get m q)) ∙ h q) i
