-- Variables in a list, and the value of one put at its name.
use Rattle.std.proofs.Common.{◌≡◌, ℕ, List, [], ◌∷◌, ◌++◌, map, true, false, Some, Bor, sym, ap, ◌∙◌, Option, Bool, cond, refl}
use Rattle.std.proofs.lemmas.List.{append_assoc, map-append}
use Rattle.std.proofs.lemmas.Map.Text.{is_eq-slice_cmp}
use Rattle.std.specs.Prelude.{option_map}
use Rattle.std.specs.List.{cons_option}
use Rattle.std.specs.Str.{bytes_eq}
use Rattle.std.specs.FinMap.{insert}
use Rattle.std.specs.BTreeMap.{is_at}
use Rattle.std.specs.HashMap.{HashMap, Updates}
use Rattle.std.specs.Map.{lookup}
use Rattle.ebpf_base.proofs.Maps.{get-view, one_set}
use Rattle.ebpf_base.proofs.TextMaps.{text_exact}
use Rattle.ebpf_base.specs.Maps.{text_cmp, text_total}
use Rattle.ebpf_object.proofs.Values.{Given, get_given}
use Rattle.ebpf_object.specs.Patches.{global_of, globals_of, Global}
use Rattle.ebpf_object.specs.Variables.{VariableValue, variable_value}
use Rattle.ebpf_object.specs.declared.variables.Variable.{Variable}

-- a variable that is added, and those that are left
pub one_listed : (all : List Variable) (v : Variable) (found : Option VariableValue) (rest : List VariableValue) → Some (variable_value v) ≡ found
    → map variable_value (all ++ v ∷ []) ++ rest ≡ map variable_value all ++ cons_option found rest
one_listed all v found rest is =
    ap (λ front. front ++ rest) (map-append variable_value all (v ∷ []))
    ∙ append_assoc (map variable_value all) (variable_value v ∷ []) rest
    ∙ ap (λ f. map variable_value all ++ cons_option f rest) is

-- ---- values of variables, put at names

abbrev seen : Given → List (List ℕ × Global)
seen es = map (λ e. (e.0.now, global_of e.1)) es

looked_up : (es : Given) (q : List ℕ) → lookup (is_at (text_cmp q)) (seen es) ≡ option_map global_of (lookup (λ (k : Bor (List ℕ)). bytes_eq q k.now) es)
looked_up es q = sym (get-view text_total (seen es) q) ∙ get_given es q

chosen_global : (b : Bool) (v : Bor (List ℕ) × Bool) (before : Option (Bor (List ℕ) × Bool)) → option_map global_of (cond b (Some v) before) ≡ cond b (Some (global_of v)) (option_map global_of before)
chosen_global true v before = refl
chosen_global false v before = refl

-- a value that is put at a name stands there, and the others stay
pub put_over : {S : Type 0} (m n : HashMap (Bor (List ℕ)) (Bor (List ℕ) × Bool) S) (k : Bor (List ℕ)) (v : Bor (List ℕ) × Bool)
    → Updates (λ (a b : Bor (List ℕ)). bytes_eq a.now b.now) m n k (Some v) → globals_of n.entries ≡ insert (globals_of m.entries) k.now (global_of v)
put_over m n k v updates = one_set text_total text_exact (seen m.entries) (seen n.entries) k.now (global_of v) (λ q.
    let at : Bor (List ℕ) = record { ref_ptr = k.ref_ptr; now = q } in
    looked_up n.entries q ∙ ap (option_map global_of) (updates.0 at)
    ∙ chosen_global (bytes_eq k.now q) v (lookup (λ (b : Bor (List ℕ)). bytes_eq q b.now) m.entries)
    ∙ ap (λ b. cond b (Some (global_of v)) (option_map global_of (lookup (λ (b : Bor (List ℕ)). bytes_eq q b.now) m.entries))) (sym (is_eq-slice_cmp k.now q))
    ∙ ap (cond (is_at (text_cmp k.now) q) (Some (global_of v))) (sym (looked_up m.entries q)))
