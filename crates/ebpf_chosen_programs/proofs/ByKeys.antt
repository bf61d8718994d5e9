-- The functions that are found by number are those that the programs reach, by key.
use Rattle.std.proofs.Common.{◌≡◌, ℕ, zero, suc, ◌+◌, ◌<◌, ◌≤◌, Bool, true, false, cond, List, [], ◌∷◌, map, length, Option, Some, None, refl, sym, ap, ◌∙◌, subst, inl, inr, arith, Vec}
use Rattle.std.specs.Prelude.{◌==◌, ◌||◌, if◌then◌else◌, is_some}
use Rattle.std.specs.declared.alloc.Global.{Global}
use Rattle.std.specs.declared.cmp.Ordering.{Ordering}
use Rattle.std.specs.Cmp.{IsTotalOrder, eq_by_cmp_equiv}
use Rattle.std.specs.FinMap.{FinMap, IsAntisymmetric, get, entries, find, get-entries, contains_key}
use Rattle.std.specs.List.{list_any, filter_map, cons_option, IsDistinct}
use Rattle.std.proofs.lemmas.Map.Keys.{IsDistinct-from_sorted}
use Rattle.ebpf_base.proofs.Mapped.{find-apart}
use Rattle.std.specs.Map.{keys_of, values_of}
use Rattle.std.specs.Ordering.{eq_by_cmp}
use Rattle.std.proofs.lemmas.Bool.Decides.{nat_tests}
use Rattle.std.proofs.lemmas.List.{length-map}
use Rattle.ebpf_base.proofs.Lists.{there_is}
use Rattle.ebpf_base.proofs.Maps.{entries_rise, key_exact, is_equal}
use Rattle.ebpf_base.proofs.TextMaps.{text_exact}
use Rattle.ebpf_base.specs.Maps.{key_cmp, key_total, text_cmp, text_total}
use Rattle.ebpf_linker.proofs.Renamed.{renamed, names_from, last_to, Numbers}
use Rattle.ebpf_linker.specs.Functions.{Among, Walk, last_key_or, SlotReference, Names}
use Rattle.ebpf_linker.specs.Numbered.{body_content, calls_at, functions_by_number, of_target, referred, Rises}
use Rattle.ebpf_linker.specs.declared.body.Body.{Body}
use Rattle.ebpf_linker.specs.declared.reference.Fault.{Fault}
use Rattle.ebpf_linker.specs.declared.reference.Reference.{Reference}
use Rattle.ebpf_linker.specs.declared.reference.Target.{Target}
use Rattle.ebpf_linker.specs.declared.reference.Target.TheVariants.{Function as ToFunction, Nowhere}
use Rattle.ebpf_model.specs.Symbols.{FunctionKey}
use Rattle.ebpf_model.specs.declared.error.RelocationError.{RelocationError}
use Rattle.ebpf_model.specs.declared.function.Function.{Function}
use Rattle.ebpf_model.specs.declared.function.Program.{Program}
use Rattle.ebpf_reloc.proofs.Keys.{calls_sound, count_bodies, count_calls, count_keys, function_at, has_number, number_names, numbered}
use Rattle.ebpf_reloc.specs.Numbers.{function_keys, function_list, key_in, with_function_names}
use Rattle.ebpf_reloc.specs.PrivateContracts.{calls_from, number_of_key}
use Rattle.ebpf_reloc.specs.References.{content_of, functions_of, reference_of}
use Rattle.ebpf_reloc.specs.SlotTargets.{LinkableValue}
use Rattle.ebpf_chosen_programs.proofs.Kept.{has_only_members}
use Rattle.ebpf_chosen_programs.specs.PrivateContracts.{AreFound, Chain, found_keys, is_found, key_set, program_numbers}
use Rattle.ebpf_chosen_programs.specs.Reached.{AreReached, IsReached, program_key}

-- ---- a reference to a function, by slot and among the targets

named_among : (cs : List Reference) (x n : ℕ) → referred cs x ≡ Names n → Among (map (λ c. c.target) cs) (ToFunction n)
named_among [] x n e = cc
named_among (c ∷ cs) x n e = step (c.slot == x) c.target (named_among cs x n) refl e
  where
    step : (b : Bool) (t : Target) → (referred cs x ≡ Names n → Among (map (λ c. c.target) cs) (ToFunction n)) → c.target ≡ t → (if b then of_target t else referred cs x) ≡ Names n → Among (c.target ∷ map (λ c. c.target) cs) (ToFunction n)
    step true (ToFunction m) rest at h = let same : m ≡ n = cc in inl (at ∙ ap ToFunction same)
    step true (Nowhere f) rest at h = cc
    step false t rest at h = inr (rest h)

among_named : (low : ℕ) (cs : List Reference) (n : ℕ) → Rises low cs → Among (map (λ c. c.target) cs) (ToFunction n) → (x : ℕ) × (low ≤ x) × (referred cs x ≡ Names n)
among_named low [] n up a = absurd a
among_named low (c ∷ cs) n up (inl e) =
    let same : (c.slot == c.slot) ≡ true = grind (arith, nat_tests) in
    (c.slot, up.0, rw same (ap of_target e))
among_named low (c ∷ cs) n up (inr a) =
    let (x, le, is) = among_named (c.slot + 1) cs n up.1 a in
    let other : (c.slot == x) ≡ false = grind (arith, nat_tests) in
    (x, omega (arith, le, up.0), rw other is)

-- ---- the keys that are found

module _ (q : FunctionKey) where
  key_found : (keys : List FunctionKey) (flags : List Bool) (m : ℕ) → m < length keys → is_found flags m ≡ true → key_in keys m ≡ q → list_any (eq_by_cmp key_cmp q) (found_keys keys flags) ≡ true
  key_found [] flags m lt f e = absurd (omega (arith, lt))
  key_found (k ∷ keys) [] m lt f e = cc
  key_found (k ∷ keys) (true ∷ flags) zero lt f e =
      let here : eq_by_cmp key_cmp q k ≡ true = subst (λ (z : FunctionKey). eq_by_cmp key_cmp q z ≡ true) (sym e) ((eq_by_cmp_equiv key_total).refl q) in
      rw here refl
  key_found (k ∷ keys) (false ∷ flags) zero lt f e = cc
  key_found (k ∷ keys) (true ∷ flags) (suc m) lt f e =
      rw (key_found keys flags m (omega (arith, lt)) f e) (always (eq_by_cmp key_cmp q k))
    where
      always : (b : Bool) → (b || true) ≡ true
      always true = refl
      always false = refl
  key_found (k ∷ keys) (false ∷ flags) (suc m) lt f e = key_found keys flags m (omega (arith, lt)) f e

  key_number : (keys : List FunctionKey) (flags : List Bool) → list_any (eq_by_cmp key_cmp q) (found_keys keys flags) ≡ true → (m : ℕ) × (m < length keys) × (is_found flags m ≡ true) × (key_in keys m ≡ q)
  key_number [] flags h = cc
  key_number (k ∷ keys) [] h = cc
  key_number (k ∷ keys) (true ∷ flags) h = step (eq_by_cmp key_cmp q k) refl (key_number keys flags) h
    where
      step : (b : Bool) → eq_by_cmp key_cmp q k ≡ b → (list_any (eq_by_cmp key_cmp q) (found_keys keys flags) ≡ true → (m : ℕ) × (m < length keys) × (is_found flags m ≡ true) × (key_in keys m ≡ q)) → (b || list_any (eq_by_cmp key_cmp q) (found_keys keys flags)) ≡ true → (m : ℕ) × (m < length (k ∷ keys)) × (is_found (true ∷ flags) m ≡ true) × (key_in (k ∷ keys) m ≡ q)
      step true at rest g = (0, omega arith, refl, sym (key_exact q k (is_equal _ at)))
      step false at rest g = let (m, lt, f, e) = rest g in (suc m, omega (arith, lt), f, e)
  key_number (k ∷ keys) (false ∷ flags) h = let (m, lt, f, e) = key_number keys flags h in (suc m, omega (arith, lt), f, e)

-- ---- the programs' numbers

module _ {K X : Type 0} {R : K → K → Ordering} (o : IsTotalOrder R) where
  -- a value that is found is among the values
  value_among : (q : K) (v : X) (es : List (K × X)) → find R q es ≡ Some v → Among (values_of es) v
  value_among q v [] h = cc
  value_among q v (e ∷ es) h = step (eq_by_cmp R q e.0) (value_among q v es) h
    where
      step : (b : Bool) → (find R q es ≡ Some v → Among (values_of es) v) → cond b (Some e.1) (find R q es) ≡ Some v → Among (e.1 ∷ values_of es) v
      step true rest g = let same : e.1 ≡ v = cc in inl same
      step false rest g = inr (rest g)

  -- a value that is among the values of distinct keys is found
  among_value : IsAntisymmetric R → (v : X) (es : List (K × X)) → IsDistinct (eq_by_cmp R) (keys_of es) → Among (values_of es) v → (q : K) × (find R q es ≡ Some v)
  unfolding IsDistinct
  among_value exact v [] apart a = absurd a
  among_value exact v (e ∷ es) apart (inl same) = (e.0, rw ((eq_by_cmp_equiv o).refl e.0) (ap Some same))
  among_value exact v (e ∷ es) apart (inr a) =
      let (q, f) = among_value exact v es apart.1 a in
      (q, step q f (eq_by_cmp R q e.0) refl)
    where
      step : (q : K) → find R q es ≡ Some v → (b : Bool) → eq_by_cmp R q e.0 ≡ b → cond (eq_by_cmp R q e.0) (Some e.1) (find R q es) ≡ Some v
      step q f true at = let none : find R q es ≡ None = find-apart o exact q e.0 at es apart.0 in cc
      step q f false at = rw at f

module _ {X Y : Type 0} (h : X → Option Y) where
  among_mapped : (xs : List X) (y : Y) → Among (filter_map h xs) y → (x : X) × Among xs x × (h x ≡ Some y)
  among_mapped [] y a = absurd a
  among_mapped (z ∷ xs) y a = step (h z) refl (among_mapped xs y) a
    where
      step : (o : Option Y) → h z ≡ o → (Among (filter_map h xs) y → (x : X) × Among xs x × (h x ≡ Some y)) → Among (cons_option o (filter_map h xs)) y → (x : X) × Among (z ∷ xs) x × (h x ≡ Some y)
      step None at rest b = let (x, c, e) = rest b in (x, inr c, e)
      step (Some w) at rest (inl same) = (z, inl refl, at ∙ ap Some same)
      step (Some w) at rest (inr b) = let (x, c, e) = rest b in (x, inr c, e)

  mapped_among : (xs : List X) (x : X) (y : Y) → Among xs x → h x ≡ Some y → Among (filter_map h xs) y
  mapped_among [] x y a e = absurd a
  mapped_among (z ∷ xs) x y (inl same) e =
      let here : h z ≡ Some y = ap h same ∙ e in
      rw here (inl refl)
  mapped_among (z ∷ xs) x y (inr a) e = step (h z) (mapped_among xs x y a e)
    where
      step : (o : Option Y) → Among (filter_map h xs) y → Among (cons_option o (filter_map h xs)) y
      step None b = b
      step (Some w) b = inr b

-- ---- what is found by number is reached by key

module _ (parts : LinkableValue) (programs : FinMap text_cmp Program) (B : List Body) (C : List (Vec Reference Global)) (flags : List Bool) where
  abbrev keys : List FunctionKey
  keys = function_keys parts.functions

  abbrev key : ℕ → FunctionKey
  key = key_in keys

  abbrev names : Fault → RelocationError
  names = with_function_names (function_list parts.functions)

  abbrev R : FunctionKey → ℕ → SlotReference FunctionKey RelocationError
  R = (functions_of parts).reference

  abbrev Renaming : Type 0
  Renaming = Numbers (functions_by_number B C) (functions_of parts) (λ m. m < length keys) key names

  -- a chain of references by number is a walk by key
  chain_walk : Renaming → ((m : ℕ) → Rises 0 (calls_at C m)) → (from : ℕ) (ns : List ℕ) → from < length keys → Chain C from ns
      → (path : List ℕ) × Walk R (key from) path (map key ns) × (last_key_or from ns < length keys)
  chain_walk N up from [] lt c = ([], tt, lt)
  chain_walk N up from (n ∷ ns) lt c =
      let (x, le, is) = among_named 0 (calls_at C from) n (up from) c.0 in
      let (path, walk, end) = chain_walk N up n ns (N.closed from n x lt is) c.1 in
      (x ∷ path, (N.reference from x lt ∙ ap (renamed key names) is, walk), end)

  -- a walk by key from a function that is found leads to one that is found
  walk_found : Renaming → length C ≡ length keys → AreFound C (program_numbers keys programs) flags → (m : ℕ) (path : List ℕ) (ks : List FunctionKey)
      → m < length keys → is_found flags m ≡ true → Walk R (key m) path ks
      → (l : ℕ) × (l < length keys) × (is_found flags l ≡ true) × (key l ≡ last_key_or (key m) ks)
  walk_found N same found m [] [] lt f w = (m, lt, f, refl)
  walk_found N same found m [] (k ∷ ks) lt f w = absurd w
  walk_found N same found m (x ∷ path) [] lt f w = absurd w
  walk_found N same found m (x ∷ path) (k ∷ ks) lt f w =
      let (q, is, e) = names_from key names (referred (calls_at C m) x) k (sym (N.reference m x lt) ∙ w.0) in
      let inside : q < length keys = N.closed m q x lt is in
      let here : is_found flags q ≡ true = found.closed m q f (named_among (calls_at C m) x q is) (omega (arith, inside, same)) in
      let (l, below, g, end) = walk_found N same found q path ks inside here (subst (λ (z : FunctionKey). Walk R z path ks) (sym e) w.1) in
      (l, below, g, end ∙ ap (λ (z : FunctionKey). last_key_or z ks) e)

  -- a function stands at the key of each number
  stands : (m : ℕ) → m < length keys → (f : Function) × (get parts.functions (key m) ≡ Some f)
  stands m lt =
      let (f, at) = there_is (function_list parts.functions) m (omega (arith, lt, count_keys parts.functions, length-map (entries parts.functions) (λ e. e.1))) in
      (f, function_at parts.functions m lt ∙ at)

  reached_set : FunctionKey → Bool
  reached_set q = contains_key (key_set (found_keys keys flags)) q

  in_set : (q : FunctionKey) → reached_set q ≡ list_any (eq_by_cmp key_cmp q) (found_keys keys flags)
  unfolding reached_set
  in_set q = has_only_members key_total (found_keys keys flags) q

  is_sound : Renaming → ((m : ℕ) → Rises 0 (calls_at C m)) → AreFound C (program_numbers keys programs) flags → (q : FunctionKey) → reached_set q ≡ true → IsReached parts programs q
  is_sound N up found q h =
      let (m, lt, f, e) = key_number q keys flags (sym (in_set q) ∙ h) in
      let (from, a, ns, c, last) = found.sound m f in
      let (p, b, number) = among_mapped (λ p. number_of_key keys (program_key p)) (values_of (entries programs)) from a in
      let (name, at) = among_value text_total text_exact p (entries programs) (IsDistinct-from_sorted text_cmp _ (entries_rise programs)) b in
      let (inside, start) = number_names keys (program_key p) from number in
      let (path, walk, end) = chain_walk N up from ns inside c in
      let (function, there) = stands m lt in
      let ends : last_key_or (key from) (map key ns) ≡ q = last_to (λ (k : ℕ). k < length keys) key from ns ∙ ap key last ∙ e in (
        function,
        ap (get parts.functions) (sym e) ∙ there,
        name,
        p,
        get-entries programs name ∙ at,
        (
          path,
          map key ns,
          subst (λ (z : FunctionKey). Walk R z path (map key ns)) start walk,
          ap (λ (z : FunctionKey). last_key_or z (map key ns)) (sym start) ∙ ends,
        ),
      )

  -- a program whose function is there has a number, and is found
  program_found : length C ≡ length keys → AreFound C (program_numbers keys programs) flags → (name : List ℕ) (p : Program) → get programs name ≡ Some p
      → contains_key parts.functions (program_key p) ≡ true → (m : ℕ) × (m < length keys) × (is_found flags m ≡ true) × (key m ≡ program_key p)
  program_found same found name p at there = step (number_of_key keys (program_key p)) refl
    where
      step : (n : Option ℕ) → number_of_key keys (program_key p) ≡ n → (m : ℕ) × (m < length keys) × (is_found flags m ≡ true) × (key m ≡ program_key p)
      step None is = let none : is_some (number_of_key keys (program_key p)) ≡ true = sym (has_number parts.functions (program_key p)) ∙ there in absurd (let e : false ≡ true = sym (ap is_some is) ∙ none in cc)
      step (Some m) is =
          let (inside, e) = number_names keys (program_key p) m is in
          let a = value_among text_total name p (entries programs) (sym (get-entries programs name) ∙ at) in
          let b = mapped_among (λ p. number_of_key keys (program_key p)) (values_of (entries programs)) p m a is in
          (m, inside, found.starts m b (omega (arith, inside, same)), e)

  -- a walk begins at a function that is there
  walk_begins : (from : FunctionKey) (path : List ℕ) (ks : List FunctionKey) (q : FunctionKey) (f : Function) → get parts.functions q ≡ Some f → Walk R from path ks → last_key_or from ks ≡ q → contains_key parts.functions from ≡ true
  walk_begins from [] [] q f there w e = ap (λ (z : FunctionKey). contains_key parts.functions z) e ∙ ap is_some there
  walk_begins from [] (k ∷ ks) q f there w e = absurd w
  walk_begins from (x ∷ path) [] q f there w e = absurd w
  walk_begins from (x ∷ path) (k ∷ ks) q f there w e = step (get parts.functions from) refl w.0
    where
      step : (o : Option Function) → get parts.functions from ≡ o → reference_of parts o x ≡ Names k → contains_key parts.functions from ≡ true
      step None at h = cc
      step (Some g) at h = ap is_some at

  is_complete : Renaming → length C ≡ length keys → AreFound C (program_numbers keys programs) flags → (q : FunctionKey) → IsReached parts programs q → reached_set q ≡ true
  is_complete N same found q (f, there, name, p, at, (path, ks, walk, last)) =
      let begins = walk_begins (program_key p) path ks q f there walk last in
      let (m, lt, g, start) = program_found same found name p at begins in
      let (l, inside, h, end) = walk_found N same found m path ks lt g (subst (λ (z : FunctionKey). Walk R z path ks) (sym start) walk) in
      in_set q ∙ key_found q keys flags l inside h (end ∙ ap (λ (z : FunctionKey). last_key_or z ks) start ∙ last)

  -- the functions that are found are those that the programs reach
  pub are_reached : map body_content B ≡ map content_of (function_list parts.functions) → map (λ v. v.items) C ≡ calls_from parts keys 0 (function_list parts.functions)
      → AreFound C (program_numbers keys programs) flags → AreReached parts programs (contains_key (key_set (found_keys keys flags)))
  unfolding reached_set
  are_reached bodies calls found =
      let N : Renaming = numbered parts B C bodies calls in
      let up : (m : ℕ) → Rises 0 (calls_at C m) = (calls_sound parts B C bodies calls).rises in
      let same : length C ≡ length keys = count_calls parts B C bodies calls ∙ count_bodies parts B C bodies calls in
      record {
        sound = λ q h. is_sound N up found q h;
        complete = λ q h. is_complete N same found q h;
      }

-- the same of lists that are equal to those
pub reached_by : (parts : LinkableValue) (programs : FinMap text_cmp Program) (B : List Body) (C D : List (Vec Reference Global)) (ks ls : List FunctionKey) (first second : List ℕ) (flags other : List Bool) (set : FinMap key_cmp (Unit {0}))
    → ks ≡ function_keys parts.functions → map body_content B ≡ map content_of (function_list parts.functions) → map (λ v. v.items) C ≡ calls_from parts (function_keys parts.functions) 0 (function_list parts.functions)
    → ls ≡ ks → D ≡ C → first ≡ program_numbers ls programs → second ≡ first → AreFound D second flags → other ≡ flags → set ≡ key_set (found_keys ls other) → AreReached parts programs (contains_key set)
reached_by parts programs B C D ks ls first second flags other set keyed bodies calls same_keys same_calls numbers same_numbers found same_flags is =
    let keys_are : ls ≡ function_keys parts.functions = same_keys ∙ keyed in
    let numbers_are : second ≡ program_numbers (function_keys parts.functions) programs = same_numbers ∙ numbers ∙ ap (λ (l : List FunctionKey). program_numbers l programs) keys_are in
    let found_here : AreFound C (program_numbers (function_keys parts.functions) programs) flags =
    subst (λ (n : List ℕ). AreFound C n flags) numbers_are (subst (λ (c : List (Vec Reference Global)). AreFound c second flags) same_calls found) in
    let set_is : set ≡ key_set (found_keys (function_keys parts.functions) flags) =
    is ∙ ap (λ (l : List FunctionKey). key_set (found_keys l other)) keys_are ∙ ap (λ (f : List Bool). key_set (found_keys (function_keys parts.functions) f)) same_flags in
    subst (λ (s : FinMap key_cmp (Unit {0})). AreReached parts programs (contains_key s)) (sym set_is)
    (are_reached parts programs B C flags bodies calls found_here)
