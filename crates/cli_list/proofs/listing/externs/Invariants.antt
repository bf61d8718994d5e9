use Rattle.std.proofs.Common.{◌≡◌, ◌++◌, map}
use Rattle.ebpf_base.specs.Maps.{by_bytes}
use Rattle.cli_list.specs.Listings.{extern_row, extern_rows}
use Rattle.cli_list.proofs.listing.externs.Given as goal

-- with the rows of the externs that are left, all are there
abbrev pub invariant-loop-name : goal.invariant-loop-name
invariant-loop-name l = l.all ++ map (λ e. extern_row l.object.btf e.0 e.1) (by_bytes l.name-iterator) ≡ extern_rows l.object
