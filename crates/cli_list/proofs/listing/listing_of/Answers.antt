use Rattle.std.proofs.Common.{ap, refl, subst, ◌∙◌}
use Rattle.cli_list.proofs.Listed.{listed}
use Rattle.cli_list.specs.Listings.{IsListing, unreached_keys, AreUsers, calls, uses_map}
use Rattle.cli_list.proofs.listing.listing_of.Goals as goal

pub returns : goal.returns
returns c =
    let o = c.args.object.now in
    let w = c.args.wanted.now in
    let made = c.as_slice-made.ensures in
    let tables : IsListing o w c.args.layouts.now (record {
      object = c.args.object;
      wanted = c.args.wanted;
      layouts = c.args.layouts;
      map_users = c.in_ok-map_users.map_users;
      helper_users = c.in_ok-helper_users.helper_users;
      records = c.in_ok-records.records;
      unreached = c.in_ok-unreached.unreached;
      variables = c.in_ok-variables.variables;
    }) = record {
      object = refl;
      wanted = refl;
      layouts = refl;
      map_users = subst (λ layouts. AreUsers (uses_map w.map_uses) layouts c.in_ok-map_users.map_users) made c.in_ok-map_users.ensures;
      helper_users = subst (λ layouts. AreUsers (calls o) layouts c.in_ok-helper_users.helper_users) made c.in_ok-helper_users.ensures;
      records = c.in_ok-records.ensures;
      unreached = c.in_ok-unreached.ensures ∙ ap (unreached_keys o) made;
      variables = c.in_ok-variables.ensures;
    } in
    record { tables = tables; listed = λ file parsed wanted layouts. listed file parsed o w c.args.layouts.now _ wanted layouts tables }
