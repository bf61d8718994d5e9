use Rattle.std.proofs.Common.{rules, ◌≡◌, ◌+◌, ◌∙◌, [], true, false, not, Ok, Some, drop, refl, sym, take, ap}
use Rattle.std.specs.Prelude.{◌==◌, is_some}
use Rattle.std.specs.Cow.{cow_str_bytes}
use Rattle.std.specs.List.{position}
use Rattle.std.specs.Result.{is_err}
use Rattle.ebpf_btf.specs.Strings.{is_name_at, text_at}
use Rattle.ebpf_btf.specs.Types.{name_off}
use Rattle.ebpf_btf_decls.specs.DataSections.{datasec_entries}
use Rattle.ebpf_btf_decls.proofs.SectionMaps.{not_section, unreadable, long_name, read_name}
use Rattle.ebpf_btf_decls.proofs.data_sections.scan_type.Goals as goal

pub returns-in_default-clause-looked : goal.returns-in_default-clause-looked
returns-in_default-clause-looked c = not_section c.args.btf.now c.args.ty.now c.args.by_name.now (search rules)

pub returns-then-is_err-clause-looked : goal.returns-then-is_err-clause-looked
returns-then-is_err-clause-looked c =
    let section : datasec_entries c.args.ty.now ≡ Some c.in-Some.entries = search rules in
    let wrong : is_err (is_name_at c.args.btf.now.strings (name_off c.args.ty.now) []) ≡ true =
    ap (λ n. is_err (is_name_at c.args.btf.now.strings n [])) (sym c.name_offset-name.ensures) ∙ ap is_err (sym c.is_name_at.ensures) ∙ sym c.is_err.ensures.value ∙ c.if-is_err.true in
    (refl, unreadable c.args.btf.now c.args.ty.now c.args.by_name.now c.in-Some.entries section wrong)

pub returns-then-is_none-clause-looked : goal.returns-then-is_none-clause-looked
returns-then-is_none-clause-looked c =
    let right : is_err (is_name_at c.args.btf.now.strings (name_off c.args.ty.now) []) ≡ false =
    ap (λ n. is_err (is_name_at c.args.btf.now.strings n [])) (sym c.name_offset-name.ensures) ∙ ap is_err (sym c.is_name_at.ensures) ∙ sym c.is_err.ensures.value ∙ c.if-is_err.false in
    let near : c.near_bytes.result.now ≡ take (c.args.longest + 1) (drop (name_off c.args.ty.now) c.args.btf.now.strings) =
    c.near_bytes.ensures ∙ ap (λ s. take (c.args.longest + 1) (drop c.name_offset-name.result s)) c.strings.ensures
    ∙ ap (λ n. take (c.args.longest + 1) (drop n c.args.btf.now.strings)) c.name_offset-name.ensures in
    let none : is_some (position (λ b. b == 0) c.near_bytes.result.now) ≡ false =
    ap is_some (sym c.first_zero.ensures) ∙ c.is_none.ensures ∙ ap not c.if-is_none.true in
    let section : datasec_entries c.args.ty.now ≡ Some c.in-Some.entries = search rules in
    long_name c.args.btf.now c.args.ty.now c.args.by_name.now c.in-Some.entries section c.args.longest c.near_bytes.result.now c.requires right near none

pub returns-clause-looked : goal.returns-clause-looked
returns-clause-looked c =
    let section : datasec_entries c.args.ty.now ≡ Some c.in-Some.entries = search rules in
    let right : is_err (is_name_at c.args.btf.now.strings (name_off c.args.ty.now) []) ≡ false =
    ap (λ n. is_err (is_name_at c.args.btf.now.strings n [])) (sym c.name_offset-name.ensures) ∙ ap is_err (sym c.is_name_at.ensures) ∙ sym c.is_err.ensures.value ∙ c.if-is_err.false in
    let read : text_at c.args.btf.now.strings (name_off c.args.ty.now) ≡ Ok (cow_str_bytes c.in_ok-text.text) =
    ap (text_at c.args.btf.now.strings) (sym c.name_offset-name.ensures) ∙ c.in_ok-text.ensures.text in
    read_name c.args.btf.now c.args.ty.now c.args.by_name.now c.in-Some.entries section (cow_str_bytes c.in_ok-text.text) c.add_entries.new.by_name right read (search rules)
