use Rattle.std.proofs.Common.{◌≡◌, ◌∷◌, ◌++◌, [], filter, rules, sym, ap, subst, ◌∙◌}
use Rattle.std.specs.Prelude.{◌==◌, if◌then◌else◌}
use Rattle.ebpf_elf.specs.Relocations.{relocation_sections, relocated_section}
use Rattle.ebpf_sections.specs.Relocations.{EntryRangesAreCached, AreOf}
use Rattle.ebpf_sections.specs.Sections.{group_at}
use Rattle.ebpf_sections.proofs.NamedSymbols.{target_more}
use Rattle.ebpf_sections.proofs.RelocationTables.{tables_from, none_cached}
use Rattle.ebpf_sections.proofs.relocations.read_relocation_sections.Goals as goal

pub loop-section-init : goal.loop-section-init
loop-section-init c =
    let file = c.args.file.now in
    let items : c.into_iter-section-iterator.result ≡ relocation_sections file = search rules in
    record {
      from = subst (AreOf file) (sym items) (tables_from file);
      cached = none_cached file c.new-cached.result c.new-cached.ensures;
      groups = λ q. ap (λ g. g ++ filter (λ r. relocated_section r == q) c.into_iter-section-iterator.result) (c.new-groups.ensures q) ∙ ap (filter (λ r. relocated_section r == q)) items;
    }

pub loop-section-preserved : goal.loop-section-preserved
loop-section-preserved c =
    let file = c.args.file.now in
    let s = c.in-Some.section in
    let front : c.loop-section.section-iterator ≡ s ∷ c.next.new.self = search rules in
    let before = c.loop-section.groups.groups in
    let of_file = subst (AreOf file) front c.loop-section.invariant.from in
    record {
      from = of_file.1;
      cached = subst (λ f. EntryRangesAreCached f c.read_table.new.cached) of_file.0 c.in_ok-table.ensures.cached;
      groups = λ q. target_more (group_at before q) (group_at c.add.new.self.groups q) s c.next.new.self q (
          c.in_ok-add.ensures.added q
          ∙ ap (λ t. if t == q then group_at before q ++ c.in_ok-table.table ∷ [] else group_at before q) c.target-target.ensures
          ∙ ap (λ r. if relocated_section s == q then group_at before q ++ r ∷ [] else group_at before q) c.in_ok-table.ensures.table
          ) ∙ sym (ap (λ l. group_at before q ++ filter (λ r. relocated_section r == q) l) front) ∙ c.loop-section.invariant.groups q;
    }
