use Rattle.std.proofs.Common.{◌<◌, ◌∙◌, length, sym, arith}
use Rattle.ebpf_btf_decls.specs.Maps.{member_value}
use Rattle.ebpf_btf_decls.proofs.MemberValues.{more_given}
use Rattle.ebpf_btf_decls.proofs.known_structs.definitions.Goals as goal

pub loop-index-preserved : goal.loop-index-preserved
loop-index-preserved c =
    let below : c.loop-index.index < length c.args.members.now = omega (arith, c.loop-index-test.true, c.len-index-end.ensures) in
    record {
      known = c.in_ok-member_value.ensures.known;
      says = sym (more_given (member_value c.args.mode c.args.btf.now c.args.name.now) c.loop-index.all c.with-all.result c.args.members.now c.loop-index.index c.at-member.result c.in_ok-member_value.field-0
          below c.at-member.ensures.item c.in_ok-member_value.ensures.says c.with-all.ensures)
          ∙ c.loop-index.invariant.says;
    }
