-- The kernel's symbols are read exactly where an object wants them.
use Rattle.std.proofs.Common.{◌≡◌, ℕ, Bool, true, false, List, [], ◌∷◌, length, nat_lt, Option, Some, None, refl, ap, ◌∙◌, if◌then◌else◌}
use Rattle.std.proofs.Math.Nat.{zero-lt-suc}
use Rattle.std.proofs.lemmas.Bool.{lt-ltb}
use Rattle.std.specs.FinMap.{entries}
use Rattle.std.specs.Prelude.{suc}
use Rattle.std.specs.List.{list_any}
use Rattle.ebpf_btf.specs.TypeInfo.{TypeInfo}
use Rattle.ebpf_ksyms.specs.Externs.{Externs, NamedExtern, is_typeless, names_read, reads_lines, wanted_name, wanted_names}
use Rattle.ebpf_object.specs.TypedExterns.{has_extern}
use Rattle.ebpf_object.specs.declared.object.Object.{Object}
use Rattle.capi_rows.specs.WantedSymbols.{wants_symbols}
use Rattle.capi_exports.specs.WantedSymbols.{SymbolsAreReadWhereWanted}

-- a list of one and more is none of none
some : (n : ℕ) → nat_lt 0 (suc n) ≡ true
some n = lt-ltb 0 (suc n) (zero-lt-suc n)

some_wanted : (es : List NamedExtern) → nat_lt 0 (length (wanted_names es)) ≡ list_any (λ e. is_typeless e.1) es
some_wanted [] = refl
some_wanted (e ∷ es) =
    elim (is_typeless e.1) as (λ b. is_typeless e.1 ≡ b → nat_lt 0 (length (wanted_names (e ∷ es))) ≡ list_any (λ x. is_typeless x.1) (e ∷ es)) [
      | true ↦ λ is. rw is (some (length (wanted_names es)))
      | false ↦ λ is. rw is (some_wanted es)
    ] refl

wanted : (local : Option TypeInfo) (o : Object) → o.btf ≡ local → reads_lines local o.externs ≡ wants_symbols (record o { btf = local })
unfolding names_read
wanted None o is = refl
wanted (Some types) o is = some_wanted (entries o.externs)

pub symbols_are_read_where_wanted : SymbolsAreReadWhereWanted
symbols_are_read_where_wanted o = wanted o.btf o refl
