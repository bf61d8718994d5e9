use Rattle.std.proofs.Common.{◌≡◌, Some, None, inr, ap, ◌∙◌, sym, subst}
use Rattle.std.specs.Prelude.{⊤, MatchBool, MatchOption}
use Rattle.ebpf_object.specs.Patches.{globals_of, all_patched, patches_of, patches_fault}
use Rattle.ebpf_parts.specs.Memory.{is_parse_memory}
use Rattle.capi_rows.specs.Handles.{IsRefusal}
use Rattle.capi_rows.specs.FaultNumbers.{parse_refusal}
use Rattle.capi_rows.specs.Refusals.{plain}
use Rattle.capi_exports.specs.Settings.{one_value}
use Rattle.capi_rows.specs.declared.codes.TheConstants.{BAD_NAME}
use Rattle.capi_rows.proofs.Rows.{text_same}
use Rattle.capi_exports.proofs.variable_calls.set_value.Goals as goal

pub returns-in-Ok-patch_map_data-clause-ok : goal.returns-in-Ok-patch_map_data-clause-ok
returns-in-Ok-patch_map_data-clause-ok c =
    let o = c.args.object.now in
    let same = text_same c.args.name.now c.in-Some.name.now c.in-Some.ensures in
    let one : globals_of c.in-Ok.globals.entries ≡ one_value c.args.name.now c.args.value.now c.args.must_exist = c.in-Ok.ensures ∙ ap (λ n. one_value n c.args.value.now c.args.must_exist) same in
    record {
      text = sym c.in-Some.ensures ∙ ap Some same;
      sound = subst (λ g. patches_fault o.symbol_table o.maps g ≡ None) one c.in-Ok-patch_map_data.ensures.fault;
      maps = c.in-Ok-patch_map_data.ensures.maps ∙ ap (λ g. all_patched o.maps (patches_of o.symbol_table o.maps g)) one;
      others_stay = c.in-Ok-patch_map_data.ensures.others_stay;
    }

pub returns-in-Err-clause-why : goal.returns-in-Err-clause-why
returns-in-Err-clause-why c =
    let o = c.args.object.now in
    let same = text_same c.args.name.now c.in-Some.name.now c.in-Some.ensures in
    let one : globals_of c.in-Ok.globals.entries ≡ one_value c.args.name.now c.args.value.now c.args.must_exist = c.in-Ok.ensures ∙ ap (λ n. one_value n c.args.value.now c.args.must_exist) same in
    subst
    (λ text. MatchOption text (c.parse_refusal.result ≡ plain BAD_NAME) (λ _. IsRefusal (λ e. MatchBool (is_parse_memory e) ⊤ (patches_fault o.symbol_table o.maps (one_value c.args.name.now c.args.value.now c.args.must_exist) ≡ Some e)) parse_refusal c.parse_refusal.result))
    c.in-Some.ensures
    (inr (c.in-Err.error, subst (λ g. MatchBool (is_parse_memory c.in-Err.error) ⊤ (patches_fault o.symbol_table o.maps g ≡ Some c.in-Err.error)) one c.in-Err.ensures.fault, c.parse_refusal.ensures.refusal))
