use Rattle.std.proofs.Common.{◌≡◌, OnOk, subst}
use Rattle.ebpf_btf_decls.proofs.NumberedNames.{put_over, put_behind}
use Rattle.ebpf_btf_decls.proofs.numbered_names.put_at.Goals as goal

pub returns-in-Ok : goal.returns-in-Ok
returns-in-Ok g c = put_over c.args.values.now c.replace.new.self c.args.number c.args.value c.in-Ok._before c.replace.result c.in-Ok.is c.replace.ensures

pub returns-in-Err : goal.returns-in-Err
returns-in-Err g c =
    subst (λ l. OnOk c.push.result (c.push.new.self ≡ l)) (put_behind c.args.values.now c.replace.new.self c.args.number c.args.value c.in-Err.value c.replace.result c.in-Err.is c.replace.ensures) c.push.ensures.ok
