use Rattle.cli_list.proofs.listing.wanted_by.Goals as goal

pub returns : goal.returns
returns c = record {
  programs = c.in_ok-programs.ensures;
  externs = c.in_ok-externs.ensures;
  settings = c.in_ok-settings.ensures;
  map_uses = c.in_ok-map_uses.ensures;
  struct_ops = c.in_ok-struct_ops.ensures;
  types = c.in_ok-types.ensures;
}
