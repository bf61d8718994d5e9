use Rattle.std.proofs.Common.{◌≡◌, ◌∙◌, false, ap, arith, rules, map}
use Rattle.std.specs.FinMap.{empty, get}
use Rattle.std.specs.List.{flat_map}
use Rattle.std.specs.Prelude.{slice_index_or}
use Rattle.ebpf_base.proofs.Mapped.{put_all-append}
use Rattle.ebpf_base.specs.Maps.{put_all}
use Rattle.ebpf_elf.specs.Relocations.{table_entries}
use Rattle.ebpf_sections.specs.Relocations.{file_of_tables, entry_range_of, entry_range_total, table_row, offset_of}
use Rattle.ebpf_sections.specs.Sections.{is_index}
use Rattle.ebpf_sections.proofs.Lasts.{all_lasts}
use Rattle.ebpf_sections.proofs.RelocationTables.{fewer, rest_of, put_more, put_passed}
use Rattle.ebpf_sections.proofs.relocations.put_last_tables.Goals as goal

pub loop-table-init : goal.loop-table-init
loop-table-init c = record {
  from = c.requires.file;
  lasts = all_lasts entry_range_total table_row c.args.last.now c.args.tables.now c.requires.last;
  put = ap (λ es. put_all (put_all empty es) (map offset_of (flat_map table_entries c.args.tables.now))) c.new-entries.ensures.items;
}

pub loop-table-preserved-then-not-is_index : goal.loop-table-preserved-then-not-is_index
loop-table-preserved-then-not-is_index c =
    let xs = c.args.tables.now in
    let i = c.loop-table.table-index in
    let x = c.table-item.result in
    let item : x ≡ slice_index_or xs i x = search rules in
    let differs : is_index x.index (get c.args.last.now (entry_range_of x)) ≡ false = search rules in
    record {
      from = (rest_of (file_of_tables xs) c.args.last.now xs i x (omega arith) item c.loop-table.invariant.from).1;
      lasts = fewer (file_of_tables xs) c.args.last.now xs i x (omega arith) item c.loop-table.invariant.lasts;
      put = put_passed (file_of_tables xs) c.args.last.now xs i x (omega arith) item (put_all empty c.loop-table.entries.items) c.loop-table.invariant.from c.loop-table.invariant.lasts differs ∙ c.loop-table.invariant.put;
    }

pub loop-table-preserved : goal.loop-table-preserved
loop-table-preserved c =
    let es = c.loop-table.entries.items in
    let xs = c.args.tables.now in
    let i = c.loop-table.table-index in
    let x = c.table-item.result in
    let item : x ≡ slice_index_or xs i x = search rules in
    let put = ap (put_all empty) c.in_ok-gather_entries.ensures.gathered ∙ put_all-append empty es (map offset_of (table_entries x)) in
    record {
      from = (rest_of (file_of_tables xs) c.args.last.now xs i x (omega arith) item c.loop-table.invariant.from).1;
      lasts = fewer (file_of_tables xs) c.args.last.now xs i x (omega arith) item c.loop-table.invariant.lasts;
      put = put_more (put_all empty es) (put_all empty c.gather_entries.new.entries.items) xs i x (omega arith) item put ∙ c.loop-table.invariant.put;
    }
