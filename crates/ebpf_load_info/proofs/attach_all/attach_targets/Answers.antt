use Rattle.std.proofs.Common.{ap, subst, map, ◌∙◌}
use Rattle.std.specs.Prelude.{find}
use Rattle.std.proofs.lemmas.Result.{IfOk-weaker}
use Rattle.ebpf_base.specs.Maps.{lent_bytes}
use Rattle.ebpf_load_info.specs.PrivateContracts.{AreFound, attached, is_wanted_at}
use Rattle.ebpf_load_info.proofs.Wanted.{all_attached}
use Rattle.ebpf_load_info.proofs.attach_all.attach_targets.Goals as goal

pub returns : goal.returns
returns c =
    let types = c.args.types.now in
    let wanted = c.in_ok-wanted.wanted in
    let ids = c.in_ok-ids.ids in
    IfOk-weaker c.attached_to.result _ _
    (λ targets is.
    is
    ∙ ap (λ some. map (λ one. attached one (find (λ id. is_wanted_at types id one) some)) wanted) c.as_slice-2.ensures
    ∙ all_attached types (lent_bytes c.args.section_names.now) wanted ids c.in_ok-wanted.ensures
    (subst (λ all. AreFound types all ids) c.as_slice.ensures c.in_ok-ids.ensures))
    c.attached_to.ensures
