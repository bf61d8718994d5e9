use Rattle.std.proofs.Common.{◌≡◌, ℕ, List, None, map}
use Rattle.ebpf_base.specs.Maps.{lent_bytes}
use Rattle.ebpf_ksyms.specs.Addresses.{address_of, line_of_item, lines_fault, is_one_of}
use Rattle.ebpf_ksyms.specs.PrivateContracts.{only_at, value_named}
use Rattle.ebpf_ksyms.proofs.lines.addresses_in.Given as goal

-- no line so far is refused, and each name has the address that they give it
abbrev pub invariant-loop-item : goal.invariant-loop-item
invariant-loop-item g l = record {
  read : lines_fault (is_one_of (lent_bytes l.names)) (map line_of_item l.yielded) ≡ None;
  known : (q : List ℕ) → value_named l.addresses q ≡ only_at (lent_bytes l.names) (λ name. address_of name (map line_of_item l.yielded)) q;
}
