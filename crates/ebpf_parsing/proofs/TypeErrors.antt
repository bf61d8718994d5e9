-- Errors of the type information, as errors of parsing.
use Rattle.std.proofs.Common.{◌≡◌, Bool, true, false, Option, Some, Result, Err, sym, ap, ◌∙◌, subst}
use Rattle.std.specs.Prelude.{⊤, MatchBool, option_map}
use Rattle.ebpf_base.specs.Faults.{fault_of}
use Rattle.ebpf_btf.specs.Memory as types
use Rattle.ebpf_btf.specs.declared.error.BtfError.{BtfError as TypeError}
use Rattle.ebpf_parts.specs.Memory.{is_parse_memory}
use Rattle.ebpf_parts.specs.declared.error.ParseError.{ParseError}
use Rattle.ebpf_parts.specs.declared.error.ParseError.TheVariants.{BtfError}

-- lack of memory is one here too, and each other error is this one
module _ (e : TypeError) (p : ParseError) (same : is_parse_memory p ≡ types.is_btf_memory e) (other : MatchBool (types.is_btf_memory e) ⊤ (p ≡ BtfError e)) where
  pub infos : (fault : Option TypeError) → MatchBool (types.is_btf_memory e) ⊤ (fault ≡ Some e) → MatchBool (is_parse_memory p) ⊤ (option_map BtfError fault ≡ Some p)
  infos fault h = subst (λ b. MatchBool b ⊤ (option_map BtfError fault ≡ Some p)) (sym same) (by_case (types.is_btf_memory e) other h)
    where
      by_case : (b : Bool) → MatchBool b ⊤ (p ≡ BtfError e) → MatchBool b ⊤ (fault ≡ Some e) → MatchBool b ⊤ (option_map BtfError fault ≡ Some p)
      by_case true o h = tt
      by_case false o h = ap (option_map BtfError) h ∙ ap Some (sym o)

  pub refused : {X : Type 0} (stated : Result X TypeError) → MatchBool (types.is_btf_memory e) ⊤ (stated ≡ Err e) → MatchBool (is_parse_memory p) ⊤ (option_map BtfError (fault_of stated) ≡ Some p)
  refused stated h = infos (fault_of stated) (by_case (types.is_btf_memory e) h)
    where
      by_case : (b : Bool) → MatchBool b ⊤ (stated ≡ Err e) → MatchBool b ⊤ (fault_of stated ≡ Some e)
      by_case true h = tt
      by_case false h = ap fault_of h
