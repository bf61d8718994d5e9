use Rattle.std.proofs.Common.{◌-◌, ◌+◌, Ok, Err, refl, sym, ap, ◌∙◌, arith}
use Rattle.ebpf_core.specs.declared.member_search.Role.TheVariants.{Other, Misfit, Fitting}
use Rattle.ebpf_core.specs.declared.member_search.Answer.TheVariants.{Absent, Found}
use Rattle.ebpf_core.specs.Members.{member_search}
use Rattle.ebpf_core.specs.Places.{is_place_memory}
use Rattle.ebpf_core_candidates.proofs.Refusals.{handed_on, refused}
use Rattle.ebpf_core.proofs.Members.{all_left, arm, entered, full, none_in, past, shallow, its_members, known_members, known_role, no_members, no_type}
use Rattle.ebpf_core.proofs.member_search.+search.Goals as goal

pub returns-in_default-clause-gives : goal.returns-in_default-clause-gives
returns-in_default-clause-gives t c = none_in _ _ _ _ _ _ (no_type _ _ (sym c.in_default.ensures))

pub returns-in_default-members-clause-gives : goal.returns-in_default-members-clause-gives
returns-in_default-members-clause-gives t c = none_in _ _ _ _ _ _ (no_members _ _ _ (sym c.in-Some.ensures) (sym c.in_default-members.ensures))

pub loop-index-init : goal.loop-index-init
loop-index-init t c = all_left _ _ _ _ _ _ _ _ _ (its_members _ _ _ _ (sym c.in-Some.ensures) (sym c.in-Some-members.ensures))

pub returns-then-left-eq0-clause-gives : goal.returns-then-left-eq0-clause-gives
returns-then-left-eq0-clause-gives t c =
    c.loop-index.invariant
    ∙ full (member_search c.args.wanted.local.now c.args.wanted.target.now c.args.wanted.name.now c.args.wanted.local_type) c.args.parent c.in-Some.ty c.in-Some-members.members (64 - c.args.inside) c.args.inside c.args.bits c.loop-index.index c.loop-index.left c.at-member.result c.at-member.ensures.found (omega arith)

pub returns-in_err-role-clause-gives : goal.returns-in_err-role-clause-gives
returns-in_err-role-clause-gives t c =
    refused is_place_memory is_place_memory c.in_err-role.field-0.0 c.in_err-role.field-0.0 _ c.from_residual.result _
    (handed_on c.from_residual.result c.in_err-role.field-0.0 c.from_residual.ensures.1) refl
    (λ is. c.loop-index.invariant
    ∙ arm (member_search c.args.wanted.local.now c.args.wanted.target.now c.args.wanted.name.now c.args.wanted.local_type) c.args.parent c.in-Some.ty c.in-Some-members.members (64 - c.args.inside) c.args.inside c.args.bits c.loop-index.index c.loop-index.left (c.loop-index.left - 1) c.at-member.result (Err c.in_err-role.field-0.0) c.at-member.ensures.found (omega arith) (known_role c.args.wanted.local.now c.args.wanted.target.now c.args.wanted.name.now c.args.wanted.local_type c.args.inside _ ∙ is))
    c.in_err-role.ensures

pub loop-index-preserved-in-Other : goal.loop-index-preserved-in-Other
loop-index-preserved-in-Other t c =
    c.loop-index.invariant
    ∙ arm (member_search c.args.wanted.local.now c.args.wanted.target.now c.args.wanted.name.now c.args.wanted.local_type) c.args.parent c.in-Some.ty c.in-Some-members.members (64 - c.args.inside) c.args.inside c.args.bits c.loop-index.index c.loop-index.left (c.loop-index.left - 1) c.at-member.result (Ok Other) c.at-member.ensures.found (omega arith) (known_role c.args.wanted.local.now c.args.wanted.target.now c.args.wanted.name.now c.args.wanted.local_type c.args.inside _ ∙ c.in_ok-role.ensures ∙ ap Ok c.in-Other.is)

pub returns-in-Misfit-clause-gives : goal.returns-in-Misfit-clause-gives
returns-in-Misfit-clause-gives t c =
    c.loop-index.invariant
    ∙ arm (member_search c.args.wanted.local.now c.args.wanted.target.now c.args.wanted.name.now c.args.wanted.local_type) c.args.parent c.in-Some.ty c.in-Some-members.members (64 - c.args.inside) c.args.inside c.args.bits c.loop-index.index c.loop-index.left (c.loop-index.left - 1) c.at-member.result (Ok Misfit) c.at-member.ensures.found (omega arith) (known_role c.args.wanted.local.now c.args.wanted.target.now c.args.wanted.name.now c.args.wanted.local_type c.args.inside _ ∙ c.in_ok-role.ensures ∙ ap Ok c.in-Misfit.is)

pub returns-in-Fitting-clause-gives : goal.returns-in-Fitting-clause-gives
returns-in-Fitting-clause-gives t c =
    rw (c.from.ensures, c.member_bit_offset.ensures) (c.loop-index.invariant
    ∙ arm (member_search c.args.wanted.local.now c.args.wanted.target.now c.args.wanted.name.now c.args.wanted.local_type) c.args.parent c.in-Some.ty c.in-Some-members.members (64 - c.args.inside) c.args.inside c.args.bits c.loop-index.index c.loop-index.left (c.loop-index.left - 1) c.at-member.result (Ok Fitting) c.at-member.ensures.found (omega arith) (known_role c.args.wanted.local.now c.args.wanted.target.now c.args.wanted.name.now c.args.wanted.local_type c.args.inside _ ∙ c.in_ok-role.ensures ∙ ap Ok c.in-Fitting.is))

pub returns-in_err-answer-in-Anonymous-clause-gives : goal.returns-in_err-answer-in-Anonymous-clause-gives
returns-in_err-answer-in-Anonymous-clause-gives t c =
    let role_is = known_role c.args.wanted.local.now c.args.wanted.target.now c.args.wanted.name.now c.args.wanted.local_type c.args.inside _ ∙ c.in_ok-role.ensures ∙ ap Ok c.in-Anonymous.is in
    refused is_place_memory is_place_memory c.in_err-answer-in-Anonymous.field-0.0 c.in_err-answer-in-Anonymous.field-0.0 _ c.from_residual-in_err-answer-in-Anonymous.result _
    (handed_on c.from_residual-in_err-answer-in-Anonymous.result c.in_err-answer-in-Anonymous.field-0.0 c.from_residual-in_err-answer-in-Anonymous.ensures.1) refl
    (λ is. c.loop-index.invariant
    ∙ entered (member_search c.args.wanted.local.now c.args.wanted.target.now c.args.wanted.name.now c.args.wanted.local_type) c.args.parent c.in-Some.ty c.in-Some-members.members c.args.inside c.args.bits c.loop-index.index c.loop-index.left (c.loop-index.left - 1) c.at-member.result c.in-Anonymous.type_id (c.args.bits + c.from.result) _ (Err c.in_err-answer-in-Anonymous.field-0.0) c.at-member.ensures.found (omega arith) (shallow c.args.wanted.local.now c.args.wanted.target.now c.args.wanted.name.now c.args.wanted.local_type c.args.inside _ c.in-Anonymous.type_id role_is) role_is (sym (known_members c.args.wanted.local.now c.args.wanted.target.now c.args.wanted.name.now c.args.wanted.local_type c.in-Anonymous.type_id)) (rw (c.from.ensures, c.member_bit_offset.ensures) refl) is)
    c.in_err-answer-in-Anonymous.ensures.gives

pub returns-in-Found-clause-gives : goal.returns-in-Found-clause-gives
returns-in-Found-clause-gives t c =
    let role_is = known_role c.args.wanted.local.now c.args.wanted.target.now c.args.wanted.name.now c.args.wanted.local_type c.args.inside _ ∙ c.in_ok-role.ensures ∙ ap Ok c.in-Anonymous.is in
    c.loop-index.invariant
    ∙ entered (member_search c.args.wanted.local.now c.args.wanted.target.now c.args.wanted.name.now c.args.wanted.local_type) c.args.parent c.in-Some.ty c.in-Some-members.members c.args.inside c.args.bits c.loop-index.index c.loop-index.left (c.loop-index.left - 1) c.at-member.result c.in-Anonymous.type_id (c.args.bits + c.from.result) _ (Ok (Found c.in-Found.field-0)) c.at-member.ensures.found (omega arith) (shallow c.args.wanted.local.now c.args.wanted.target.now c.args.wanted.name.now c.args.wanted.local_type c.args.inside _ c.in-Anonymous.type_id role_is) role_is (sym (known_members c.args.wanted.local.now c.args.wanted.target.now c.args.wanted.name.now c.args.wanted.local_type c.in-Anonymous.type_id)) (rw (c.from.ensures, c.member_bit_offset.ensures) refl) (c.in_ok-answer-in-Anonymous.ensures.gives ∙ ap Ok c.in-Found.is)
    ∙ ap Ok (sym c.in-Found.is)

pub loop-index-preserved : goal.loop-index-preserved
loop-index-preserved t c =
    let role_is = known_role c.args.wanted.local.now c.args.wanted.target.now c.args.wanted.name.now c.args.wanted.local_type c.args.inside _ ∙ c.in_ok-role.ensures ∙ ap Ok c.in-Anonymous.is in
    c.loop-index.invariant
    ∙ entered (member_search c.args.wanted.local.now c.args.wanted.target.now c.args.wanted.name.now c.args.wanted.local_type) c.args.parent c.in-Some.ty c.in-Some-members.members c.args.inside c.args.bits c.loop-index.index c.loop-index.left (c.loop-index.left - 1) c.at-member.result c.in-Anonymous.type_id (c.args.bits + c.from.result) _ (Ok (Absent c.in-Absent.rest)) c.at-member.ensures.found (omega arith) (shallow c.args.wanted.local.now c.args.wanted.target.now c.args.wanted.name.now c.args.wanted.local_type c.args.inside _ c.in-Anonymous.type_id role_is) role_is (sym (known_members c.args.wanted.local.now c.args.wanted.target.now c.args.wanted.name.now c.args.wanted.local_type c.in-Anonymous.type_id)) (rw (c.from.ensures, c.member_bit_offset.ensures) refl) (c.in_ok-answer-in-Anonymous.ensures.gives ∙ ap Ok c.in-Absent.is)

pub returns-clause-gives : goal.returns-clause-gives
returns-clause-gives t c =
    c.loop-index.invariant
    ∙ past (member_search c.args.wanted.local.now c.args.wanted.target.now c.args.wanted.name.now c.args.wanted.local_type) c.args.parent c.in-Some.ty c.in-Some-members.members (64 - c.args.inside) c.args.inside c.args.bits c.loop-index.index c.loop-index.left (omega arith)
