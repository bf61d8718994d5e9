-- What linking gives, from functions by their numbers to functions by their keys.
use Rattle.std.proofs.Common.{◌≡◌, ◌≢◌, ℕ, ◌+◌, Bool, true, false, List, [], ◌∷◌, ◌++◌, map, length, Option, Some, None, refl, sym, ap, ◌∙◌, subst, inl, inr, arith}
use Rattle.std.specs.Prelude.{option_map, slice_get, pos, ◌-ℤ◌, if◌then◌else◌, ◌||◌}
use Rattle.ebpf_base.specs.Faults.{first_of}
use Rattle.ebpf_btf_ext.specs.declared.ext_infos.bpf_func_info.{bpf_func_info}
use Rattle.ebpf_btf_ext.specs.declared.ext_infos.bpf_line_info.{bpf_line_info}
use Rattle.ebpf_linker.proofs.Checked.{checked_names}
use Rattle.ebpf_linker.proofs.OneResult.{no_longer}
use Rattle.ebpf_linker.proofs.Renamed.{renamed, Numbers, SameReferences, AllNumbers, number_at, all_numbers, among_to, among_from, last_to, last_number, numbers_of, distinct_from, faulty_from, distinct_to, walk_numbers, reached_number, walk_to, walk_from, simple_to, simple_from, end_from, key_path_to, key_path_from, key_path_number, in_order_to, names_from}
use Rattle.ebpf_linker.proofs.Visits.{begins_among}
use Rattle.ebpf_linker.specs.Faults.{same, has_some, func_info_agrees, checked, checked_references, append_fault, Base, FaultStandsAt, Faultless, LeastFault, first_line, content_fault}
use Rattle.ebpf_linker.specs.Functions.{relinked, SlotReference, Nothing, Faulty, Names, References, Functions, FunctionContent, or_empty, content_at, body, Among, Distinct, last_key_or, total, BeginsAt, Becomes, Linked}
use Rattle.ebpf_linker.specs.LinkMap.{CopyOf, copies_from, IsReference, AreReferences, IsLinkMap}
use Rattle.ebpf_linker.specs.Order.{KeyPath}
use Rattle.ebpf_linker.specs.PrivateContracts.{key_copy}
use Rattle.ebpf_linker.specs.Result.{func_moved, line_moved, func_records, line_records, linked_func_info, linked_line_info, has_lines, count_if, IsOrder, IsLayout, IsProgram}
use Rattle.ebpf_linker.specs.declared.body.LinkedProgram.{LinkedProgram}
use Rattle.ebpf_linker.specs.declared.link_map.PlacedReference.{PlacedReference}
use Rattle.ebpf_parts.specs.declared.insn.bpf_insn.{bpf_insn}

-- ---- what linking gives, from functions by their numbers to functions by their keys

rows_named : {D E : Type 0} (name : D → E) (b c : Bool) (d f : D) → first_of ((b, name d) ∷ (c, name f) ∷ []) ≡ option_map name (first_of ((b, d) ∷ (c, f) ∷ []))
rows_named name true c d f = refl
rows_named name false true d f = refl
rows_named name false false d f = refl

some_from : {D E : Type 0} (name : D → E) (o : Option D) (e : E) → option_map name o ≡ Some e → (d : D) × (o ≡ Some d) × (name d ≡ e)
some_from name None e h = cc
some_from name (Some d) e h = (d, refl, cc)

module _ {M D K E : Type 0} (G : Functions M D) (F : Functions K E) (IsNumber : M → Type 0) (key : M → K) (name : D → E) (num : Numbers G F IsNumber key name) where
  -- references as they stand, and where a program is linked

  references_same : SameReferences G.reference F.reference IsNumber key name
  references_same = record { reference = num.reference; closed = num.closed; apart = num.apart }

  content_to : (m : M) → IsNumber m → content_at F (key m) ≡ content_at G m
  content_to m is = ap or_empty (num.content m is)

  agree_to : (p k : M) → IsNumber p → IsNumber k → func_info_agrees F (key p) (key k) ≡ func_info_agrees G p k
  agree_to p k is ik = ap (λ (c : FunctionContent). same (has_some c.func_info) (has_some (content_at F (key p)).func_info)) (content_to k ik) ∙ ap (λ (c : FunctionContent). same (has_some (content_at G k).func_info) (has_some c.func_info)) (content_to p is)

  renamed_if : (b : Bool) (k : M) (d : D) → ◌≡◌ {A = SlotReference K E} (if b then Names (key k) else Faulty (name d)) (renamed key name (if b then Names k else Faulty d))
  renamed_if true k d = refl
  renamed_if false k d = refl

  checked_to : (p : M) (r : SlotReference M D) → IsNumber p → ((k : M) → r ≡ Names k → IsNumber k) → checked F (key p) (renamed key name r) ≡ renamed key name (checked G p r)
  checked_to p Nothing is closed = refl
  checked_to p (Faulty d) is closed = refl
  checked_to p (Names k) is closed =
      let ik = closed k refl in
      ap (λ (b : Bool). if b then Names (key k) else Faulty (F.mismatch (key k))) (agree_to p k is ik)
      ∙ ap (λ (e : E). if func_info_agrees G p k then Names (key k) else Faulty e) (num.mismatch k ik)
      ∙ renamed_if (func_info_agrees G p k) k (G.mismatch k)

  linking_same : (p : M) → IsNumber p → SameReferences (checked_references G p) (checked_references F (key p)) IsNumber key name
  linking_same p is =
      record {
        reference = λ m i im. ap (checked F (key p)) (num.reference m i im) ∙ checked_to p (G.reference m i) is (λ k e. num.closed m k i im e);
        closed = λ m k i im e. num.closed m k i im (checked_names G p (G.reference m i) k e);
        apart = num.apart;
      }

  -- sizes and places

  pub body_to : (m : M) → IsNumber m → body F (key m) ≡ body G m
  body_to m is = ap (λ (c : FunctionContent). c.slots) (content_to m is)

  total_to : (ms : List M) → AllNumbers IsNumber ms → total F (map key ms) ≡ total G ms
  total_to [] all = refl
  total_to (m ∷ ms) all = let e = ap length (body_to m all.0) in omega (arith, e, total_to ms all.1)

  append_to : (m : M) (b : ℕ) → IsNumber m → append_fault F (key m) b ≡ option_map name (append_fault G m b)
  append_to m b is =
      ap (λ (c : FunctionContent). content_fault c b (F.too_long (key m)) (F.stray_line (key m))) (content_to m is)
      ∙ ap (λ (e : E). content_fault (content_at G m) b e (F.stray_line (key m))) (num.too_long m is)
      ∙ ap (λ (e : E). content_fault (content_at G m) b (name (G.too_long m)) e) (num.stray_line m is)
      ∙ rows_named name _ _ (G.too_long m) (G.stray_line m)

  -- faults

  module _ (R : References M D) (S : References K E) (refs : SameReferences R S IsNumber key name) (p : M) (is : IsNumber p) where
    base_to : (path : List ℕ) (b : ℕ) → Base G R p path b → Base F S (key p) path b
    base_to path b h =
        let all = all_numbers IsNumber key h.earlier (λ m a. let (x, q, bf) = h.before m a in key_path_number R S IsNumber key name refs p m x is q) in
        record {
          earlier = map key h.earlier;
          once = distinct_to R S IsNumber key name refs h.earlier all h.once;
          before = λ k a.
              let (m, at, e) = among_from IsNumber key h.earlier k a in
              let (x, q, bf) = h.before m at in
              (x, subst (λ (u : K). KeyPath S (key p) u x) e (key_path_to R S IsNumber key name refs p m x is (number_at IsNumber key h.earlier m all at) q), bf);
          all = λ k x q bf.
              let (m, im, e) = end_from R S IsNumber key name refs p x q.keys k is q.simple q.ends in
              let q' = key_path_from R S IsNumber key name refs p m x is im (subst (λ (u : K). KeyPath S (key p) u x) (sym e) q) in
              subst (Among (map key h.earlier)) e (among_to IsNumber key h.earlier m (h.all m x q' bf));
          size = h.size ∙ sym (total_to (p ∷ h.earlier) (is, all));
        }

    base_from : (path : List ℕ) (b : ℕ) → Base F S (key p) path b → Base G R p path b
    base_from path b h =
        let (ms, are, all) = numbers_of IsNumber key h.earlier (λ k a. let (x, q, bf) = h.before k a in end_from R S IsNumber key name refs p x q.keys k is q.simple q.ends) in
        record {
          earlier = ms;
          once = distinct_from IsNumber key ms (subst Distinct (sym are) h.once);
          before = λ m a.
              let (x, q, bf) = h.before (key m) (subst (λ (u : List K). Among u (key m)) are (among_to IsNumber key ms m a)) in
              (x, key_path_from R S IsNumber key name refs p m x is (number_at IsNumber key ms m all a) q, bf);
          all = λ m x q bf.
              let im = key_path_number R S IsNumber key name refs p m x is q in
              let a = h.all (key m) x (key_path_to R S IsNumber key name refs p m x is im q) bf in
              let (n, b', e) = among_from IsNumber key ms (key m) (subst (λ (u : List K). Among u (key m)) (sym are) a) in
              subst (Among ms) (refs.apart n m (number_at IsNumber key ms n all b') im e) b';
          size = h.size ∙ ap (λ (u : List K). total F (key p ∷ u)) (sym are) ∙ total_to (p ∷ ms) (is, all);
        }

    stands_to : (path : List ℕ) (x : ℕ) (d : D) → FaultStandsAt G R p path x d → FaultStandsAt F S (key p) path x (name d)
    stands_to path x d (inl h) =
        let il = last_number IsNumber key p h.keys is (walk_numbers R S IsNumber key name refs p path h.keys is h.simple.walk) in
        inl (record {
          keys = map key h.keys;
          simple = simple_to R S IsNumber key name refs p path h.keys is h.simple;
          fault = ap (λ (u : K). S u x) (last_to IsNumber key p h.keys) ∙ refs.reference (last_key_or p h.keys) x il ∙ ap (renamed key name) h.fault;
        })
    stands_to path x d (inr h) =
        let im = key_path_number R S IsNumber key name refs p h.key (path ++ x ∷ []) is h.path_is in
        inr (record {
          key = key h.key;
          base = h.base;
          path_is = key_path_to R S IsNumber key name refs p h.key (path ++ x ∷ []) is im h.path_is;
          base_is = base_to (path ++ x ∷ []) h.base h.base_is;
          fault = append_to h.key h.base im ∙ ap (option_map name) h.fault;
        })

    stands_from : (path : List ℕ) (x : ℕ) (e : E) → FaultStandsAt F S (key p) path x e → (d : D) × FaultStandsAt G R p path x d
    stands_from path x e (inl h) =
        let (ms, are, s) = simple_from R S IsNumber key name refs p path h.keys is h.simple in
        let il = last_number IsNumber key p ms is (walk_numbers R S IsNumber key name refs p path ms is s.walk) in
        let end : key (last_key_or p ms) ≡ last_key_or (key p) h.keys = sym (last_to IsNumber key p ms) ∙ ap (last_key_or (key p)) are in
        let (d, f, n) = faulty_from key name (R (last_key_or p ms) x) e (sym (refs.reference (last_key_or p ms) x il) ∙ ap (λ (u : K). S u x) end ∙ h.fault) in
        (d, inl (record { keys = ms; simple = s; fault = f }))
    stands_from path x e (inr h) =
        let (m, im, k) = end_from R S IsNumber key name refs p (path ++ x ∷ []) h.path_is.keys h.key is h.path_is.simple h.path_is.ends in
        let fault : append_fault F (key m) h.base ≡ Some e = ap (λ (u : K). append_fault F u h.base) k ∙ h.fault in
        let (d, f, n) = some_from name (append_fault G m h.base) e (sym (append_to m h.base im) ∙ fault) in (
          d,
          inr (record {
            key = m;
            base = h.base;
            path_is = key_path_from R S IsNumber key name refs p m (path ++ x ∷ []) is im (subst (λ (u : K). KeyPath S (key p) u (path ++ x ∷ [])) (sym k) h.path_is);
            base_is = base_from (path ++ x ∷ []) h.base h.base_is;
            fault = f;
          }),
        )

    faultless_to : Faultless G R p → Faultless F S (key p)
    faultless_to h path x e s = let (d, t) = stands_from path x e s in h path x d t

    least_fault_to : (d : D) → LeastFault G R p d → LeastFault F S (key p) (name d)
    least_fault_to d h = record {
      path = h.path;
      slot = h.slot;
      stands = stands_to h.path h.slot d h.stands;
      none_before = λ other y e t b. let (f, u) = stands_from other y e t in h.none_before other y f u b;
    }

  -- what is wrong with linking by numbers is wrong by keys
  pub least_to : (p : M) (d : D) → IsNumber p → LeastFault G (checked_references G p) p d → LeastFault F (checked_references F (key p)) (key p) (name d)
  least_to p d is h = least_fault_to (checked_references G p) (checked_references F (key p)) (linking_same p is) p is d h

  -- the functions that a program is linked with

  order_to : (p : M) (ms : List M) → IsNumber p → AllNumbers IsNumber ms → IsOrder G.reference p ms → IsOrder F.reference (key p) (map key ms)
  order_to p ms is all h =
      record {
        once = distinct_to G.reference F.reference IsNumber key name references_same ms all h.once;
        reached = λ k a.
            let (m, b, e) = among_from IsNumber key ms k a in
            let (x, q, ns, w, end) = h.reached m b in
            (x, q, map key ns, walk_to G.reference F.reference IsNumber key name references_same p (x ∷ q) ns is w, last_to IsNumber key p ns ∙ ap key end ∙ e);
        complete = λ k (x, q, ks, w, end).
            let (ns, are, v) = walk_from G.reference F.reference IsNumber key name references_same p (x ∷ q) ks is w in
            let e : key (last_key_or p ns) ≡ k = sym (last_to IsNumber key p ns) ∙ ap (last_key_or (key p)) are ∙ end in
            subst (Among (map key ms)) e (among_to IsNumber key ms (last_key_or p ns) (h.complete (last_key_or p ns) (x, q, ns, v, refl)));
        resolved = λ k i a ne.
            let (m, b, e) = among_from IsNumber key (p ∷ ms) k a in
            let im = number_at IsNumber key (p ∷ ms) m (is, all) b in
            let e' : F.reference k i ≡ renamed key name (G.reference m i) = ap (λ (u : K). F.reference u i) (sym e) ∙ num.reference m i im in
            let ne' : G.reference m i ≢ Nothing = λ (z : G.reference m i ≡ Nothing). ne (e' ∙ ap (renamed key name) z) in
            let (n, names, c) = h.resolved m i b ne' in
            (key n, e' ∙ ap (renamed key name) names, among_to IsNumber key ms n c);
        order = in_order_to G.reference F.reference IsNumber key name references_same p ms is all h.order;
      }

  pub layout_numbers : (p : M) (ms : List M) → IsNumber p → IsLayout G p ms → AllNumbers IsNumber ms
  layout_numbers p ms is h = all_numbers IsNumber key ms (λ m a. reached_number G.reference F.reference IsNumber key name references_same p m is (h.order.reached m a))

  pub layout_to : (p : M) (ms : List M) → IsNumber p → IsLayout G p ms → IsLayout F (key p) (map key ms)
  layout_to p ms is h =
      let all = layout_numbers p ms is h in
      record {
        order = order_to p ms is all h.order;
        functions = λ k a.
            let (m, b, e) = among_from IsNumber key ms k a in
            let (c, there) = h.functions m b in
            (c, ap F.content (sym e) ∙ num.content m (number_at IsNumber key ms m all b) ∙ there);
        faultless = faultless_to (checked_references G p) (checked_references F (key p)) (linking_same p is) p is h.faultless;
      }

  -- the linked program

  pub begins_to : (ms : List M) (m : M) (b : ℕ) → AllNumbers IsNumber ms → BeginsAt G ms m b → BeginsAt F (map key ms) (key m) b
  begins_to [] m b all h = absurd h
  begins_to (n ∷ ms) m b all (inl h) = inl (ap key h.0, h.1)
  begins_to (n ∷ ms) m b all (inr (c, e, h)) = inr (c, e ∙ ap (λ (s : List bpf_insn). length s + c) (sym (body_to n all.0)), begins_to ms m c all.1 h)

  pub begins_from : (ms : List M) (k : K) (b : ℕ) → AllNumbers IsNumber ms → BeginsAt F (map key ms) k b → (m : M) × IsNumber m × (key m ≡ k) × BeginsAt G ms m b
  begins_from [] k b all h = absurd h
  begins_from (n ∷ ms) k b all (inl h) = (n, all.0, h.0, inl (refl, h.1))
  begins_from (n ∷ ms) k b all (inr (c, e, h)) =
      let (m, im, is, g) = begins_from ms k c all.1 h in (m, im, is, inr (c, e ∙ ap (λ (s : List bpf_insn). length s + c) (body_to n all.0), g))

  becomes_to : (p : M) (ms : List M) (x : ℕ) (r : SlotReference M D) (s t : bpf_insn) → IsNumber p → AllNumbers IsNumber ms → Becomes G p ms x r s t → Becomes F (key p) (map key ms) x (renamed key name r) s t
  becomes_to p ms x Nothing s t is all h = h
  becomes_to p ms x (Faulty d) s t is all h = h
  becomes_to p ms x (Names m) s t is all (c, b, e) =
      (c, begins_to ms m c all b, e ∙ ap (λ (u : List bpf_insn). relinked s (pos (length u + c) -ℤ pos (x + 1))) (sym (body_to p is)))

  linked_to : (p : M) (ms : List M) (out : List bpf_insn) → IsNumber p → AllNumbers IsNumber ms → Linked G p ms out → Linked F (key p) (map key ms) out
  linked_to p ms out is all h =
      record {
        size = h.size ∙ sym (total_to (p ∷ ms) (is, all));
        slots = λ k b i s begins at.
            let (m, im, e, g) = begins_from (p ∷ ms) k b (is, all) begins in
            let at' : slice_get (body G m) i ≡ Some s = ap (λ (u : List bpf_insn). slice_get u i) (sym (body_to m im)) ∙ ap (λ (u : K). slice_get (body F u) i) e ∙ at in
            let (t, there, becomes) = h.slots m b i s g at' in
            let e' : renamed key name (G.reference m i) ≡ F.reference k i = sym (num.reference m i im) ∙ ap (λ (u : K). F.reference u i) e in
            (t, there, subst (λ (r : SlotReference K E). Becomes F (key p) (map key ms) (b + i) r s t) e' (becomes_to p ms (b + i) (G.reference m i) s t is all becomes));
      }

  -- its records

  funcs_to : (b : ℕ) (ms : List M) → AllNumbers IsNumber ms → func_records F b (map key ms) ≡ func_records G b ms
  funcs_to b [] all = refl
  funcs_to b (m ∷ ms) all =
      ap (λ (c : FunctionContent). map (func_moved b) c.func_info ++ func_records F (b + length c.slots) (map key ms)) (content_to m all.0)
      ∙ ap (λ (u : List bpf_func_info). map (func_moved b) (content_at G m).func_info ++ u) (funcs_to (b + length (body G m)) ms all.1)

  lines_to : (b : ℕ) (ms : List M) → AllNumbers IsNumber ms → line_records F b (map key ms) ≡ line_records G b ms
  lines_to b [] all = refl
  lines_to b (m ∷ ms) all =
      ap (λ (c : FunctionContent). map (line_moved (first_line c.line_info) b) c.line_info ++ line_records F (b + length c.slots) (map key ms)) (content_to m all.0)
      ∙ ap (λ (u : List bpf_line_info). map (line_moved (first_line (content_at G m).line_info) b) (content_at G m).line_info ++ u) (lines_to (b + length (body G m)) ms all.1)

  func_info_to : (p : M) (ms : List M) → IsNumber p → AllNumbers IsNumber ms → linked_func_info F (key p) (map key ms) ≡ linked_func_info G p ms
  func_info_to p ms is all =
      ap (λ (c : FunctionContent). c.func_info ++ func_records F (length c.slots) (map key ms)) (content_to p is)
      ∙ ap (λ (u : List bpf_func_info). (content_at G p).func_info ++ u) (funcs_to (length (body G p)) ms all)

  line_info_to : (p : M) (ms : List M) → IsNumber p → AllNumbers IsNumber ms → linked_line_info F (key p) (map key ms) ≡ linked_line_info G p ms
  line_info_to p ms is all =
      ap (λ (c : FunctionContent). c.line_info ++ line_records F (length c.slots) (map key ms)) (content_to p is)
      ∙ ap (λ (u : List bpf_line_info). (content_at G p).line_info ++ u) (lines_to (length (body G p)) ms all)

  has_some_to : (ms : List M) → has_some (map key ms) ≡ has_some ms
  has_some_to [] = refl
  has_some_to (m ∷ ms) = refl

  has_lines_to : (ms : List M) → AllNumbers IsNumber ms → has_lines F (map key ms) ≡ has_lines G ms
  has_lines_to [] all = refl
  has_lines_to (m ∷ ms) all =
      ap (λ (c : FunctionContent). has_some c.line_info || has_lines F (map key ms)) (content_to m all.0)
      ∙ ap (λ (b : Bool). has_some (content_at G m).line_info || b) (has_lines_to ms all.1)

  -- what holds of a program by numbers holds by keys
  pub program_to : (p : M) (ms : List M) (l : LinkedProgram) → IsNumber p → IsProgram G p ms l → IsProgram F (key p) (map key ms) l
  program_to p ms l is h =
      let all = layout_numbers p ms is h.layout in
      let layout = layout_to p ms is h.layout in
      let linked = linked_to p ms l.slots is all h.linked in
      record {
        layout = layout;
        linked = linked;
        func_info = h.func_info ∙ sym (func_info_to p ms is all);
        line_info = h.line_info ∙ sym (line_info_to p ms is all);
        func_count = h.func_count ∙ ap (λ (b : Bool). count_if b l.func_info) (sym (has_some_to ms));
        line_count = h.line_count ∙ ap (λ (b : Bool). count_if b l.line_info) (sym (has_lines_to ms all));
        bound = λ every covers. no_longer F (key p) (map key ms) every _ layout linked.size covers;
      }

-- ---- what a linked program is made of, from functions by their numbers to functions by their keys

module _ {M D K E : Type 0} (G : Functions M D) (F : Functions K E) (IsNumber : M → Type 0) (key : M → K) (name : D → E) (num : Numbers G F IsNumber key name) where
  copies_to : (base : ℕ) (ms : List M) → AllNumbers IsNumber ms → map (key_copy key) (copies_from G base ms) ≡ copies_from F base (map key ms)
  copies_to base [] all = refl
  copies_to base (m ∷ ms) all =
      ap (λ (u : List (CopyOf K)). record { key = key m; base = base; slots = length (body G m) } ∷ u) (copies_to (base + length (body G m)) ms all.1)
      ∙ ap (λ (s : List bpf_insn). record { key = key m; base = base; slots = length s } ∷ copies_from F (base + length s) (map key ms)) (sym (body_to G F IsNumber key name num m all.0))

  module _ (p : M) (ms : List M) (is : IsNumber p) (all : AllNumbers IsNumber ms) where
    reference_to : (r : PlacedReference) → IsReference G p ms r → IsReference F (key p) (map key ms) r
    reference_to r h =
        let ik : IsNumber h.k = number_at IsNumber key (p ∷ ms) h.k (is, all) (begins_among G (p ∷ ms) h.k h.b h.begins) in
        record {
          k = key h.k;
          b = h.b;
          begins = begins_to G F IsNumber key name num (p ∷ ms) h.k h.b (is, all) h.begins;
          i = h.i;
          s = h.s;
          slot = ap (λ (u : List bpf_insn). slice_get u h.i) (body_to G F IsNumber key name num h.k ik) ∙ h.slot;
          m = key h.m;
          names = num.reference h.k h.i ik ∙ ap (renamed key name) h.names;
          c = h.c;
          reaches = begins_to G F IsNumber key name num ms h.m h.c all h.reaches;
          place = h.place;
          base = h.base ∙ ap (λ (u : List bpf_insn). length u + h.c) (sym (body_to G F IsNumber key name num p is));
          is_call = h.is_call;
        }

    reference_from : (r : PlacedReference) → IsReference F (key p) (map key ms) r → IsReference G p ms r
    reference_from r h =
        let (k, ik, e, begins) = begins_from G F IsNumber key name num (p ∷ ms) h.k h.b (is, all) h.begins in
        let (n, in_n, f, reaches) = begins_from G F IsNumber key name num ms h.m h.c all h.reaches in
        let refers : renamed key name (G.reference k h.i) ≡ Names h.m = sym (num.reference k h.i ik) ∙ ap (λ (u : K). F.reference u h.i) e ∙ h.names in
        let (m, names, g) = names_from key name (G.reference k h.i) h.m refers in
        let same : m ≡ n = num.apart m n (num.closed k m h.i ik names) in_n (g ∙ sym f) in
        record {
          k = k;
          b = h.b;
          begins = begins;
          i = h.i;
          s = h.s;
          slot = ap (λ (u : List bpf_insn). slice_get u h.i) (sym (body_to G F IsNumber key name num k ik)) ∙ ap (λ (u : K). slice_get (body F u) h.i) e ∙ h.slot;
          m = n;
          names = names ∙ ap Names same;
          c = h.c;
          reaches = reaches;
          place = h.place;
          base = h.base ∙ ap (λ (u : List bpf_insn). length u + h.c) (body_to G F IsNumber key name num p is);
          is_call = h.is_call;
        }

    references_to : (rs : List PlacedReference) → AreReferences G p ms rs → AreReferences F (key p) (map key ms) rs
    references_to rs h = record {
      sound = λ r a. reference_to r (h.sound r a);
      complete = λ r f. h.complete r (reference_from r f);
      rises = h.rises;
    }

  -- what is said of a program by numbers holds by keys
  pub map_to : (p : M) (ms : List M) (cs : List (CopyOf M)) (rs : List PlacedReference) → IsNumber p → IsLinkMap G p ms cs rs → IsLinkMap F (key p) (map key ms) (map (key_copy key) cs) rs
  map_to p ms cs rs is h =
      let all = layout_numbers G F IsNumber key name num p ms is h.layout in
      record {
        layout = layout_to G F IsNumber key name num p ms is h.layout;
        copies = ap (map (key_copy key)) h.copies ∙ copies_to 0 (p ∷ ms) (is, all);
        references = references_to p ms is all rs h.references;
      }
