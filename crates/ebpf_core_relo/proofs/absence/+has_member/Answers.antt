use Rattle.std.proofs.Common.{true, false, sym, ◌∙◌, arith}
use Rattle.ebpf_core_relo.proofs.MisfitNames.{has_inside, has_name, has_none, none_left}
use Rattle.ebpf_core_relo.proofs.absence.+has_member.Goals as goal

pub returns-then-has_name : goal.returns-then-has_name
returns-then-has_name t c =
    sym (c.loop-k.invariant
    ∙ has_name c.args.target.now c.args.name.now c.args.levels c.members_of_id-members.result c.loop-k.k c.at-member.result (omega arith) c.at-member.ensures.item c.if-member-ne0.true true
    (sym c.if-has_name.true ∙ c.has_name.ensures))

pub loop-k-preserved-then-member-ne0 : goal.loop-k-preserved-then-member-ne0
loop-k-preserved-then-member-ne0 t c =
    c.loop-k.invariant
    ∙ has_name c.args.target.now c.args.name.now c.args.levels c.members_of_id-members.result c.loop-k.k c.at-member.result (omega arith) c.at-member.ensures.item c.if-member-ne0.true false
    (sym c.if-has_name.false ∙ c.has_name.ensures)

pub loop-k-preserved-then-levels-eq0 : goal.loop-k-preserved-then-levels-eq0
loop-k-preserved-then-levels-eq0 t c =
    c.loop-k.invariant
    ∙ has_none c.args.target.now c.args.name.now c.args.levels c.members_of_id-members.result c.loop-k.k c.at-member.result (omega arith) c.at-member.ensures.item c.if-member-ne0.false c.if-levels-eq0.true

pub returns-then-has_member : goal.returns-then-has_member
returns-then-has_member t c =
    sym (c.loop-k.invariant
    ∙ has_inside c.args.target.now c.args.name.now c.args.levels c.members_of_id-members.result c.loop-k.k c.at-member.result (omega arith) c.at-member.ensures.item c.if-member-ne0.false c.if-levels-eq0.false true
    (sym c.if-has_member.true ∙ c.has_member.ensures))

pub loop-k-preserved : goal.loop-k-preserved
loop-k-preserved t c =
    c.loop-k.invariant
    ∙ has_inside c.args.target.now c.args.name.now c.args.levels c.members_of_id-members.result c.loop-k.k c.at-member.result (omega arith) c.at-member.ensures.item c.if-member-ne0.false c.if-levels-eq0.false false
    (sym c.if-has_member.false ∙ c.has_member.ensures)

pub returns : goal.returns
returns t c =
    sym (c.loop-k.invariant ∙ none_left c.args.target.now c.args.name.now c.args.levels c.members_of_id-members.result c.loop-k.k (omega arith))
