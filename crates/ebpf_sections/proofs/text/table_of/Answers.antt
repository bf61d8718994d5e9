use Rattle.std.proofs.Common.{◌∙◌, rules}
use Rattle.std.proofs.lemmas.Iterator.Adapters.{YieldsList-from_vec, fact_from_collect}
use Rattle.std.specs.BTreeMap.{IsFromIterResult}
use Rattle.std.specs.Prelude.{IfOk}
use Rattle.ebpf_base.proofs.Maps.{key_exact}
use Rattle.ebpf_base.specs.Maps.{key_cmp, key_total}
use Rattle.ebpf_sections.proofs.Entries.{built}
use Rattle.ebpf_sections.proofs.text.table_of.Goals as goal

pub returns : goal.returns
returns c =
    let all : IfOk c.collect.result (IsFromIterResult key_cmp c.args.entries.items) =
    fact_from_collect (IsFromIterResult key_cmp) c.collect.result c.collect.ensures.ran (YieldsList-from_vec c.args.entries.items c.into_iter.ensures.rest (search rules)) in
    let made : IsFromIterResult key_cmp c.args.entries.items c.in_ok-collect.field-0 = search rules in
    record { all = c.from_map.ensures ∙ built key_total key_exact c.args.entries.items c.in_ok-collect.field-0 made }
