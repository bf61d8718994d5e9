use Rattle.std.proofs.Common.{◌≡◌, ◌∙◌, false, not, ap, sym}
use Rattle.std.specs.Prelude.{◌==◌, is_some}
use Rattle.std.specs.Cow.{cow_str_bytes}
use Rattle.std.specs.List.{position}
use Rattle.ebpf_btf_ext.specs.PrivateContracts.{with_index}
use Rattle.ebpf_btf_ext.proofs.LastIndices.{long_name, read_name, refused_name}
use Rattle.ebpf_btf_ext.proofs.found_sections.look_at.Goals as goal

pub returns-then-is_none : goal.returns-then-is_none
returns-then-is_none c =
    let none : is_some (position (λ b. b == 0) c.near_bytes.result.now) ≡ false =
    ap is_some (sym c.first_zero.ensures) ∙ c.is_none.ensures ∙ ap not c.if-is_none.true in
    long_name c.args.strings.now c.args.offset c.args.index c.args.indices.now c.args.longest c.near_bytes.result.now c.requires c.near_bytes.ensures none

pub returns-in-Err : goal.returns-in-Err
returns-in-Err c =
    refused_name c.args.strings.now c.args.offset c.args.index c.args.indices.now c.unless_memory.result c.in-Err.error c.unless_memory.ensures c.in-Err.ensures.fault

pub returns : goal.returns
returns c =
    let put : c.set_index.new.indices ≡ with_index c.args.indices.now (cow_str_bytes c.in-Ok.text) c.args.index =
    c.set_index.ensures ∙ ap (λ n. with_index c.args.indices.now n c.args.index) c.as_str.ensures.value in
    read_name c.args.strings.now c.args.offset c.args.index c.args.indices.now (cow_str_bytes c.in-Ok.text) c.set_index.new.indices c.in-Ok.ensures.text put
