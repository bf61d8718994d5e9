use Rattle.std.proofs.Common.{subst}
use Rattle.std.specs.Prelude.{IfErr, IfOk, MatchBool, ⊤}
use Rattle.std.specs.Option.{option_copied}
use Rattle.ebpf_ksyms.specs.Addresses.{is_ksyms_memory}
use Rattle.ebpf_ksyms.specs.Sources.{IsRefusedBy, IsResolvedBy}
use Rattle.ebpf_ksyms.proofs.FromText.{all_refused, all_resolved}
use Rattle.ebpf_ksyms.proofs.resolve.resolve_text.Goals as goal

pub returns-clause-ok : goal.returns-clause-ok
returns-clause-ok c =
    let local = option_copied c.args.btf in
    let kernel = option_copied c.args.kernel_btf in
    let externs = c.args.externs.now in
    subst (λ text. IfOk c.resolve_lines.result (λ after. IsResolvedBy text local kernel externs after)) c.new.ensures.text
    (all_resolved c.new.result local kernel externs c.resolve_lines.result c.resolve_lines.ensures.ok)

pub returns-clause-fault : goal.returns-clause-fault
returns-clause-fault c =
    let local = option_copied c.args.btf in
    let kernel = option_copied c.args.kernel_btf in
    let externs = c.args.externs.now in
    subst (λ text. IfErr c.resolve_lines.result (λ e. MatchBool (is_ksyms_memory e) ⊤ (IsRefusedBy text local kernel externs e))) c.new.ensures.text
    (all_refused c.new.result c.new.ensures.error local kernel externs c.resolve_lines.result c.resolve_lines.ensures.fault)
