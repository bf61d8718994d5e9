use Rattle.std.proofs.Common.{ap, ◌∙◌, subst, sym}
use Rattle.std.specs.FinMap.{empty}
use Rattle.cli_list.proofs.Using.{helper_users_stand}
use Rattle.cli_list.specs.PrivateContracts.{helpers_of, users_from}
use Rattle.cli_list.specs.Listings.{AreUsers, calls}
use Rattle.ebpf_object.proofs.Staging.{of_prepared}
use Rattle.cli_list.proofs.users.helper_users.Goals as goal

pub returns : goal.returns
returns c =
    let o = c.args.object.now in
    let layouts = c.args.layouts.now in
    of_prepared c.callers.result
    (λ users is. subst (λ all. AreUsers (calls o) layouts all) (sym (is ∙ ap (λ helpers. users_from (helpers_of helpers) 0 empty layouts) c.in_ok-by_function.ensures)) (helper_users_stand o layouts))
    c.callers.ensures
