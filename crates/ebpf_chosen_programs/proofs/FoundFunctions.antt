-- The search for functions by number: it finds the first ones and those to which references lead.
use Rattle.std.proofs.Common.{◌≡◌, ℕ, zero, suc, ◌+◌, ◌*◌, ◌<◌, ◌≤◌, Bool, true, false, cond, List, [], ◌∷◌, ◌++◌, length, get_or, set, refl, sym, ap, ◌∙◌, subst, inl, inr, ◌⊎◌, arith, Vec}
use Rattle.std.specs.Prelude.{fold, replicate, slice_set}
use Rattle.std.specs.declared.alloc.Global.{Global}
use Rattle.std.proofs.lemmas.List.{get_or-set_same, length-set}
use Rattle.ebpf_linker.proofs.Paths.{among_left, among_right, among_cases}
use Rattle.ebpf_linker.specs.Functions.{Among, last_key_or}
use Rattle.ebpf_linker.specs.declared.reference.Reference.{Reference}
use Rattle.ebpf_linker.specs.declared.reference.Target.{Target}
use Rattle.ebpf_linker.specs.declared.reference.Target.TheVariants.{Function as ToFunction, Nowhere}
use Rattle.ebpf_chosen_programs.specs.PrivateContracts.{Found, is_found, with_found, with_target, targets_of, Refers, Chain, IsLedTo, AreFound}

-- how many flags are not set
pub unset : List Bool → ℕ
unset [] = 0
unset (true ∷ flags) = unset flags
unset (false ∷ flags) = 1 + unset flags

-- what is left to be done: each function that is not found, and each that is to be followed
pub work : Found → ℕ
unfolding unset
work s = 2 * unset s.flags + length s.pending

one_set_less : (flags : List Bool) (n : ℕ) → get_or flags n true ≡ false → unset (set flags n true) + 1 ≡ unset flags
unfolding unset
one_set_less [] n h = cc
one_set_less (true ∷ flags) zero h = cc
one_set_less (false ∷ flags) zero h = omega arith
one_set_less (true ∷ flags) (suc n) h = one_set_less flags n h
one_set_less (false ∷ flags) (suc n) h = let e = one_set_less flags n h in omega (arith, e)

within_unset : (flags : List Bool) (n : ℕ) → get_or flags n true ≡ false → n < length flags
within_unset [] n h = cc
within_unset (b ∷ flags) zero h = omega arith
within_unset (b ∷ flags) (suc n) h = let e = within_unset flags n h in omega (arith, e)

found_within : (flags : List Bool) (n : ℕ) → get_or flags n true ≡ true → n < length flags → get_or flags n false ≡ true
found_within [] n h lt = absurd (omega (arith, lt))
found_within (b ∷ flags) zero h lt = h
found_within (b ∷ flags) (suc n) h lt = found_within flags n h (omega (arith, lt))

-- a flag that is set stays set where another one is set
set_stays : (flags : List Bool) (n m : ℕ) → get_or flags m false ≡ true → get_or (set flags n true) m false ≡ true
set_stays [] n m h = cc
set_stays (b ∷ flags) zero zero h = refl
set_stays (b ∷ flags) zero (suc m) h = h
set_stays (b ∷ flags) (suc n) zero h = h
set_stays (b ∷ flags) (suc n) (suc m) h = set_stays flags n m h

-- a flag that is set was set, or is the one that was set now
set_before : (flags : List Bool) (n m : ℕ) → get_or (set flags n true) m false ≡ true → (get_or flags m false ≡ true) ⊎ (m ≡ n)
set_before [] n m h = cc
set_before (b ∷ flags) zero zero h = inr refl
set_before (b ∷ flags) zero (suc m) h = inl h
set_before (b ∷ flags) (suc n) zero h = inl h
set_before (b ∷ flags) (suc n) (suc m) h = elim (set_before flags n m h) [ inl g ↦ inl g | inr e ↦ inr (ap suc e) ]

-- ---- what finding functions changes

-- a search goes on: what is found stays found, and what is found now is to be followed
record GoesOn (s t : Found) : Type 0 where
  as_many : length t.flags ≡ length s.flags
  stays : (m : ℕ) → is_found s.flags m ≡ true → is_found t.flags m ≡ true
  pending : (m : ℕ) → Among s.pending m → Among t.pending m
  new : (m : ℕ) → is_found t.flags m ≡ true → (is_found s.flags m ≡ true) ⊎ Among t.pending m
  less : work t ≤ work s

-- each function that is found or is to be followed has a property
pub record Have (P : ℕ → Type 0) (s : Found) : Type 0 where
  pub found : (m : ℕ) → is_found s.flags m ≡ true → P m
  pub pending : (m : ℕ) → Among s.pending m → P m

same_search : (s : Found) → GoesOn s s
same_search s = record { as_many = refl; stays = λ m h. h; pending = λ m a. a; new = λ m h. inl h; less = omega arith }

goes_through : (s t u : Found) → GoesOn s t → GoesOn t u → GoesOn s u
goes_through s t u p q = record {
  as_many = q.as_many ∙ p.as_many;
  stays = λ m h. q.stays m (p.stays m h);
  pending = λ m a. q.pending m (p.pending m a);
  new = λ m h. elim (q.new m h) [ inl g ↦ elim (p.new m g) [ inl f ↦ inl f | inr a ↦ inr (q.pending m a) ] | inr a ↦ inr a ];
  less = omega (arith, p.less, q.less);
}

abbrev added : Found → ℕ → Found
added s n = record { flags = slice_set s.flags n true; pending = s.pending ++ n ∷ [] }

length_end : (xs : List ℕ) (n : ℕ) → length (xs ++ n ∷ []) ≡ length xs + 1
length_end [] n = refl
length_end (x ∷ xs) n = let h = length_end xs n in omega (arith, h)

adds : (s : Found) (n : ℕ) → get_or s.flags n true ≡ false → GoesOn s (added s n)
unfolding work
adds s n h = record {
  as_many = length-set s.flags n true;
  stays = λ m g. set_stays s.flags n m g;
  pending = λ m a. among_left s.pending (n ∷ []) m a;
  new = λ m g. elim (set_before s.flags n m g) [ inl f ↦ inl f | inr e ↦ inr (among_right s.pending (n ∷ []) m (inl (sym e))) ];
  less = omega (arith, one_set_less s.flags n h, length_end s.pending n);
}

finds : (s : Found) (n : ℕ) → GoesOn s (with_found s n)
finds s n = step (get_or s.flags n true) refl
  where
    step : (b : Bool) → get_or s.flags n true ≡ b → GoesOn s (cond b s (added s n))
    step true at = same_search s
    step false at = adds s n at

is_found_now : (s : Found) (n : ℕ) → n < length s.flags → is_found (with_found s n).flags n ≡ true
is_found_now s n lt = step (get_or s.flags n true) refl
  where
    step : (b : Bool) → get_or s.flags n true ≡ b → is_found (cond b s (added s n)).flags n ≡ true
    step true at = found_within s.flags n at lt
    step false at = get_or-set_same s.flags n true false lt

have_more : (P : ℕ → Type 0) (s : Found) (n : ℕ) → Have P s → P n → Have P (with_found s n)
have_more P s n h p = step (get_or s.flags n true)
  where
    step : (b : Bool) → Have P (cond b s (added s n))
    step true = h
    step false = record {
      found = λ m g. elim (set_before s.flags n m g) [ inl f ↦ h.found m f | inr e ↦ subst P (sym e) p ];
      pending = λ m a. elim (among_cases s.pending (n ∷ []) m a) [ inl b ↦ h.pending m b | inr b ↦ elim b [ inl e ↦ subst P e p | inr c ↦ absurd c ] ];
    }

-- ---- the numbers of a list are found

finds_all : (ns : List ℕ) (s : Found) → GoesOn s (fold with_found s ns)
finds_all [] s = same_search s
finds_all (n ∷ ns) s = goes_through s (with_found s n) _ (finds s n) (finds_all ns (with_found s n))

all_found : (ns : List ℕ) (s : Found) (n : ℕ) → Among ns n → n < length s.flags → is_found (fold with_found s ns).flags n ≡ true
all_found [] s n a lt = absurd a
all_found (k ∷ ns) s n (inl e) lt = (finds_all ns (with_found s k)).stays n (subst (λ (x : ℕ). is_found (with_found s k).flags x ≡ true) e (is_found_now s k (subst (λ (x : ℕ). x < length s.flags) (sym e) lt)))
all_found (k ∷ ns) s n (inr a) lt = all_found ns (with_found s k) n a (subst (λ (x : ℕ). n < x) (sym (finds s k).as_many) lt)

have_all : (P : ℕ → Type 0) (ns : List ℕ) (s : Found) → Have P s → ((n : ℕ) → Among ns n → P n) → Have P (fold with_found s ns)
have_all P [] s h p = h
have_all P (n ∷ ns) s h p = have_all P ns (with_found s n) (have_more P s n h (p n (inl refl))) (λ m a. p m (inr a))

-- ---- the targets of a function's references are found

takes : (s : Found) (t : Target) → GoesOn s (with_target s t)
takes s (ToFunction n) = finds s n
takes s (Nowhere e) = same_search s

takes_all : (ts : List Target) (s : Found) → GoesOn s (fold with_target s ts)
takes_all [] s = same_search s
takes_all (t ∷ ts) s = goes_through s (with_target s t) _ (takes s t) (takes_all ts (with_target s t))

all_taken : (ts : List Target) (s : Found) (n : ℕ) → Among ts (ToFunction n) → n < length s.flags → is_found (fold with_target s ts).flags n ≡ true
all_taken [] s n a lt = absurd a
all_taken (t ∷ ts) s n (inl e) lt = (takes_all ts (with_target s t)).stays n (subst (λ (x : Target). is_found (with_target s x).flags n ≡ true) (sym e) (is_found_now s n lt))
all_taken (t ∷ ts) s n (inr a) lt = all_taken ts (with_target s t) n a (subst (λ (x : ℕ). n < x) (sym (takes s t).as_many) lt)

have_taken : (P : ℕ → Type 0) (ts : List Target) (s : Found) → Have P s → ((n : ℕ) → Among ts (ToFunction n) → P n) → Have P (fold with_target s ts)
have_taken P [] s h p = h
have_taken P (ToFunction n ∷ ts) s h p = have_taken P ts (with_found s n) (have_more P s n h (p n (inl refl))) (λ m a. p m (inr a))
have_taken P (Nowhere e ∷ ts) s h p = have_taken P ts s h (λ m a. p m (inr a))

-- ---- the search

module _ (references : List (Vec Reference Global)) (first : List ℕ) where
  -- a search under way
  pub record IsSearch (s : Found) : Type 0 where
    pub as_many : length s.flags ≡ length references
    pub starts : (n : ℕ) → Among first n → n < length references → is_found s.flags n ≡ true
    pub closed : (m n : ℕ) → is_found s.flags m ≡ true → Refers references m n → n < length references → (is_found s.flags n ≡ true) ⊎ Among s.pending m
    pub led : Have (IsLedTo references first) s

  last_after : (from : ℕ) (ns : List ℕ) (n : ℕ) → last_key_or from (ns ++ n ∷ []) ≡ n
  last_after from [] n = refl
  last_after from (m ∷ ns) n = last_after m ns n

  chain_on : (from : ℕ) (ns : List ℕ) (m n : ℕ) → Chain references from ns → last_key_or from ns ≡ m → Refers references m n → Chain references from (ns ++ n ∷ [])
  chain_on from [] m n c e r = (subst (λ (x : ℕ). Refers references x n) (sym e) r, tt)
  chain_on from (k ∷ ns) m n c e r = (c.0, chain_on k ns m n c.1 e r)

  led_on : (m n : ℕ) → IsLedTo references first m → Refers references m n → IsLedTo references first n
  led_on m n (from, a, ns, c, e) r = (from, a, ns ++ n ∷ [], chain_on from ns m n c e r, last_after from ns n)

  first_led : (n : ℕ) → Among first n → IsLedTo references first n
  first_led n a = (n, a, [], tt, refl)

  no_flag : (count n : ℕ) → get_or (replicate count false) n false ≡ false
  no_flag zero n = refl
  no_flag (suc count) zero = refl
  no_flag (suc count) (suc n) = no_flag count n

  count_flags : (count : ℕ) → length (replicate count false) ≡ count
  count_flags zero = refl
  count_flags (suc count) = ap suc (count_flags count)

  abbrev start : Found
  start = record { flags = replicate (length references) false; pending = [] }

  -- the first functions are found
  pub begun : (s : Found) → s ≡ fold with_found start first → IsSearch s
  begun s e = subst IsSearch (sym e) (record {
    as_many = (finds_all first start).as_many ∙ count_flags (length references);
    starts = λ n a lt. all_found first start n a (subst (λ (x : ℕ). n < x) (sym (count_flags (length references))) lt);
    closed = λ m n h r lt. elim ((finds_all first start).new m h) [ inl g ↦ absurd (let none : false ≡ true = sym (no_flag (length references) m) ∙ g in cc) | inr a ↦ inr a ];
    led = have_all (IsLedTo references first) first start (record { found = λ m g. absurd (let none : false ≡ true = sym (no_flag (length references) m) ∙ g in cc); pending = λ m a. absurd a }) first_led;
  })

  -- one function is followed
  pub followed : (s t : Found) (rest : List ℕ) (k : ℕ) → IsSearch s → s.pending ≡ rest ++ k ∷ []
      → t ≡ fold with_target (record { flags = s.flags; pending = rest }) (targets_of references k) → IsSearch t
  followed s t rest k h e is = subst IsSearch (sym is) (record {
    as_many = on.as_many ∙ h.as_many;
    starts = λ n a lt. on.stays n (h.starts n a lt);
    closed = λ m n g r lt. elim (on.new m g) [
      | inl f ↦ elim (h.closed m n f r lt) [
        | inl found ↦ inl (on.stays n found)
        | inr a ↦ elim (among_cases rest (k ∷ []) m (subst (λ (x : List ℕ). Among x m) e a)) [
          | inl b ↦ inr (on.pending m b)
          | inr b ↦ elim b [ inl same ↦ inl (all_taken (targets_of references k) (record { flags = s.flags; pending = rest }) n (subst (λ (x : ℕ). Refers references x n) (sym same) r) (subst (λ (x : ℕ). n < x) (sym h.as_many) lt)) | inr c ↦ absurd c ]
        ]
      ]
      | inr a ↦ inr a
    ];
    led = have_taken (IsLedTo references first) (targets_of references k) (record { flags = s.flags; pending = rest })
        (record { found = h.led.found; pending = λ m a. h.led.pending m (subst (λ (x : List ℕ). Among x m) (sym e) (among_left rest (k ∷ []) m a)) })
        (λ n r. led_on k n (h.led.pending k (subst (λ (x : List ℕ). Among x k) (sym e) (among_right rest (k ∷ []) k (inl refl)))) r);
  })
    where
      on : GoesOn (record { flags = s.flags; pending = rest }) (fold with_target (record { flags = s.flags; pending = rest }) (targets_of references k))
      on = takes_all (targets_of references k) (record { flags = s.flags; pending = rest })

  -- with less left to be done
  pub less_work : (s t : Found) (rest : List ℕ) (k : ℕ) → s.pending ≡ rest ++ k ∷ []
      → t ≡ fold with_target (record { flags = s.flags; pending = rest }) (targets_of references k) → work t < work s
  unfolding work
  less_work s t rest k e is =
      let on : GoesOn (record { flags = s.flags; pending = rest }) (fold with_target (record { flags = s.flags; pending = rest }) (targets_of references k)) = takes_all (targets_of references k) (record { flags = s.flags; pending = rest }) in
      let count : length s.pending ≡ length rest + 1 = ap length e ∙ length_end rest k in
      let same : work t ≡ work (fold with_target (record { flags = s.flags; pending = rest }) (targets_of references k)) = ap work is in
      omega (arith, on.less, count, same)

  -- nothing is left to be followed
  pub ended : (s : Found) → IsSearch s → s.pending ≡ [] → AreFound references first s.flags
  ended s h e = record {
    as_many = h.as_many;
    starts = h.starts;
    closed = λ m n g r lt. elim (h.closed m n g r lt) [ inl f ↦ f | inr a ↦ absurd (subst (λ (x : List ℕ). Among x m) e a) ];
    sound = h.led.found;
  }
