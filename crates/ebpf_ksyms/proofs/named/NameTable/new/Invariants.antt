use Rattle.std.proofs.Common.{◌≡◌, ℕ, List, Some, drop}
use Rattle.std.specs.Prelude.{if◌then◌else◌}
use Rattle.std.specs.BTreeMap.{get_by}
use Rattle.ebpf_base.specs.Maps.{lent_bytes, text_cmp}
use Rattle.ebpf_ksyms.specs.Addresses.{is_one_of}
use Rattle.ebpf_ksyms.specs.PrivateContracts.{only_at}
use Rattle.ebpf_ksyms.proofs.named.NameTable.new.Given as goal

-- with the names that are left, each name has the value
abbrev pub invariant-loop-name : goal.invariant-loop-name
invariant-loop-name g l = (q : List ℕ) → (if is_one_of (lent_bytes (drop l.name-index l.names)) q then Some l.fn.value else get_by (λ k. text_cmp q k.now) l.values) ≡ only_at (lent_bytes l.names) (λ _. l.fn.value) q
