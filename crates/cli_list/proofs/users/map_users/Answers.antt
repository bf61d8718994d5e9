use Rattle.std.proofs.Common.{subst, sym}
use Rattle.cli_list.proofs.Using.{map_users_stand}
use Rattle.cli_list.specs.Listings.{AreUsers, uses_map}
use Rattle.ebpf_object.proofs.Staging.{of_prepared}
use Rattle.cli_list.proofs.users.map_users.Goals as goal

pub returns : goal.returns
returns c =
    let uses = c.args.uses.now in
    let layouts = c.args.layouts.now in
    of_prepared c.users_of_maps.result (λ users is. subst (λ all. AreUsers (uses_map uses) layouts all) (sym is) (map_users_stand uses layouts)) c.users_of_maps.ensures
