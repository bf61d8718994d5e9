-- Functions that take the places of others.
use Rattle.std.proofs.Common.{◌≡◌, Bool, true, false, cond, List, [], ◌∷◌, Option, Some, None, Result, Ok, Err, refl, sym, ap, ◌∙◌}
use Rattle.std.specs.Prelude.{MatchBool, MatchOption, if◌then◌else◌, is_some}
use Rattle.std.specs.FinMap.{FinMap, get, insert, find, get-insert, from_entries, get-from_entries}
use Rattle.std.specs.List.{AllByRecursion}
use Rattle.std.specs.List.Sorted.{IsStrictlySortedBy}
use Rattle.std.specs.Map.{keys_of}
use Rattle.std.specs.Ordering.{eq_by_cmp, is_eq}
use Rattle.std.specs.declared.cmp.Ordering.TheVariants.{Less}
use Rattle.ebpf_base.proofs.Maps.{key_exact, is_equal}
use Rattle.ebpf_base.specs.Maps.{key_cmp, key_total}
use Rattle.ebpf_object.specs.LinkedPrograms.{is_program_key, ProgramsAreLinked, replaced}
use Rattle.ebpf_reloc.specs.Linking.{ProgramValue, IsLinked, AreLinked}
use Rattle.ebpf_reloc.specs.SlotTargets.{LinkableValue}
use Rattle.ebpf_model.specs.Symbols.{FunctionKey}
use Rattle.ebpf_model.specs.declared.function.Function.{Function}

-- one function takes its place
pub at_key : (before after : FinMap key_cmp Function) (key : FunctionKey) (f : Function) (result : Result Function Function)
    → MatchOption (get before key) ((result ≡ Err f) × (after ≡ before)) (λ old. (result ≡ Ok old) × (after ≡ insert before key f))
    → (q : FunctionKey) → get after q ≡ (if eq_by_cmp key_cmp q key then replaced (get before q) (Some f) else get before q)
at_key before after key f result h q = by_place (get before key) refl h
  where
    stays : (b : Bool) → eq_by_cmp key_cmp q key ≡ b → get before key ≡ None → get before q ≡ (if b then replaced (get before q) (Some f) else get before q)
    stays true e none =
        let same : q ≡ key = key_exact q key (is_equal _ e) in
        let here : get before q ≡ None = ap (get before) same ∙ none in
        here ∙ ap (λ o. replaced o (Some f)) (sym here)
    stays false e none = refl

    moves : (old : Function) → get before key ≡ Some old → (b : Bool) → eq_by_cmp key_cmp q key ≡ b → cond b (Some f) (get before q) ≡ (if b then replaced (get before q) (Some f) else get before q)
    moves old some true e =
        let same : q ≡ key = key_exact q key (is_equal _ e) in
        sym (ap (λ o. replaced o (Some f)) (ap (get before) same ∙ some))
    moves old some false e = refl

    by_place : (o : Option Function) → get before key ≡ o → MatchOption o ((result ≡ Err f) × (after ≡ before)) (λ old. (result ≡ Ok old) × (after ≡ insert before key f))
        → get after q ≡ (if eq_by_cmp key_cmp q key then replaced (get before q) (Some f) else get before q)
    by_place None none g = ap (λ m. get m q) g.1 ∙ stays (eq_by_cmp key_cmp q key) refl none
    by_place (Some old) some g = ap (λ m. get m q) g.1 ∙ get-insert key_total before key f q ∙ moves old some (eq_by_cmp key_cmp q key) refl

-- a key below all keys of some entries has none of them
not_found : (k : FunctionKey) (es : List (FunctionKey × Function)) → AllByRecursion (λ y. key_cmp k y ≡ Less) (keys_of es) → find key_cmp k es ≡ None
not_found k [] h = refl
not_found k (e ∷ es) h = ap (λ o. cond (is_eq o) (Some e.1) (find key_cmp k es)) h.0 ∙ not_found k es h.1

-- the first of some entries takes its place, then the others
pub one_more : (before after : FinMap key_cmp Function) (key : FunctionKey) (f : Function) (rest : List (FunctionKey × Function)) → IsStrictlySortedBy key_cmp (keys_of ((key, f) ∷ rest))
    → ((q : FunctionKey) → get after q ≡ (if eq_by_cmp key_cmp q key then replaced (get before q) (Some f) else get before q))
    → (q : FunctionKey) → replaced (get after q) (find key_cmp q rest) ≡ replaced (get before q) (find key_cmp q ((key, f) ∷ rest))
unfolding IsStrictlySortedBy
one_more before after key f rest sorted h q = ap (λ o. replaced o (find key_cmp q rest)) (h q) ∙ by_key (eq_by_cmp key_cmp q key) refl
  where
    twice : (o : Option Function) → replaced (replaced o (Some f)) None ≡ replaced o (Some f)
    twice None = refl
    twice (Some x) = refl

    by_key : (b : Bool) → eq_by_cmp key_cmp q key ≡ b
        → replaced (if b then replaced (get before q) (Some f) else get before q) (find key_cmp q rest) ≡ replaced (get before q) (cond b (Some f) (find key_cmp q rest))
    by_key true e =
        let same : q ≡ key = key_exact q key (is_equal _ e) in
        let none : find key_cmp q rest ≡ None = ap (λ k. find key_cmp k rest) same ∙ not_found key rest sorted.0 in
        ap (replaced (replaced (get before q) (Some f))) none ∙ twice (get before q)
    by_key false e = refl

-- the functions of linked programs take their places
pub are_linked : (parts : LinkableValue) (programs : List ProgramValue) (linked after : FinMap key_cmp Function) → AreLinked parts programs linked
    → ((q : FunctionKey) → get after q ≡ replaced (get parts.functions q) (get linked q)) → ProgramsAreLinked parts programs after
are_linked parts programs linked after are h key = by_place (get linked key) refl
  where
    at_program : (b : Bool) (g : Function) → b ≡ true → get linked key ≡ Some g → MatchBool b ((x : Function) × (get after key ≡ Some x) × IsLinked parts key x) (get after key ≡ get parts.functions key)
    at_program true g e some =
        let is = are.each key g some in
        (g, h key ∙ ap (replaced (get parts.functions key)) some ∙ ap (λ o. replaced o (Some g)) is.stands, is)
    at_program false g e some = cc

    other : (b : Bool) → b ≡ false → get linked key ≡ None → MatchBool b ((x : Function) × (get after key ≡ Some x) × IsLinked parts key x) (get after key ≡ get parts.functions key)
    other true e none = cc
    other false e none = h key ∙ ap (replaced (get parts.functions key)) none ∙ stays (get parts.functions key)
      where
        stays : (o : Option Function) → replaced o None ≡ o
        stays None = refl
        stays (Some x) = refl

    by_place : (o : Option Function) → get linked key ≡ o → MatchBool (is_program_key programs key) ((x : Function) × (get after key ≡ Some x) × IsLinked parts key x) (get after key ≡ get parts.functions key)
    by_place None none = other (is_program_key programs key) (sym (are.keys key) ∙ ap is_some none) none
    by_place (Some g) some = at_program (is_program_key programs key) g (sym (are.keys key) ∙ ap is_some some) some

-- the entries of a map are what is there
pub all_found : (m : FinMap key_cmp Function) (es : List (FunctionKey × Function)) → from_entries {R = key_cmp} es ≡ m → (q : FunctionKey) → find key_cmp q es ≡ get m q
all_found m es is q = sym (get-from_entries key_total es q) ∙ ap (λ x. get x q) is
