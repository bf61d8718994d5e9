use Rattle.std.proofs.Common.{◌∙◌, rules}
use Rattle.std.proofs.lemmas.Iterator.Adapters.{YieldsList-from_vec, fact_from_collect}
use Rattle.std.specs.BTreeMap.{IsFromIterResult}
use Rattle.std.specs.Cmp.{nat_cmp_total}
use Rattle.std.specs.FinMap.{nat_cmp-IsAntisymmetric}
use Rattle.std.specs.Ordering.{nat_cmp}
use Rattle.std.specs.Prelude.{IfOk}
use Rattle.ebpf_sections.proofs.Entries.{built}
use Rattle.ebpf_sections.proofs.relocations.table_of.Goals as goal

pub returns : goal.returns
returns c =
    let all : IfOk c.collect.result (IsFromIterResult nat_cmp c.args.entries.items) =
    fact_from_collect (IsFromIterResult nat_cmp) c.collect.result c.collect.ensures.ran (YieldsList-from_vec c.args.entries.items c.into_iter.ensures.rest (search rules)) in
    let made : IsFromIterResult nat_cmp c.args.entries.items c.in_ok-collect.field-0 = search rules in
    record { all = c.from_map.ensures ∙ built nat_cmp_total nat_cmp-IsAntisymmetric c.args.entries.items c.in_ok-collect.field-0 made }
