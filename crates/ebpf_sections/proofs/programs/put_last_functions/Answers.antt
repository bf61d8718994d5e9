use Rattle.std.proofs.Common.{◌≡◌, ◌∙◌, true, false, None, refl, arith, rules}
use Rattle.std.specs.Cmp.{nat_cmp_total}
use Rattle.std.specs.FinMap.{get}
use Rattle.std.specs.Prelude.{slice_index_or}
use Rattle.ebpf_sections.specs.Programs.{is_program_symbol, program_fault, program_symbol_row}
use Rattle.ebpf_sections.specs.Sections.{is_index}
use Rattle.ebpf_sections.proofs.Lasts.{fewer, program_passed, passed_fault, passed_put, next_fault, next_put, all_lasts}
use Rattle.ebpf_sections.proofs.programs.put_last_functions.Goals as goal

pub loop-symbol-init : goal.loop-symbol-init
loop-symbol-init c = record {
  lasts = all_lasts nat_cmp_total program_symbol_row c.args.last.now c.args.symbols.now c.requires;
  put = refl;
  fault = refl;
}

pub loop-symbol-preserved-then-not-is_program : goal.loop-symbol-preserved-then-not-is_program
loop-symbol-preserved-then-not-is_program c =
    let x = c.symbol-item.result in
    let item : x ≡ slice_index_or c.args.symbols.now c.loop-symbol.symbol-index x = search rules in
    let passed : is_program_symbol x ≡ false = search rules in
    record {
      lasts = fewer c.args.last.now c.args.symbols.now c.loop-symbol.symbol-index x (omega arith) item c.loop-symbol.invariant.lasts;
      put = passed_put c.args.records.now c.args.section.now c.loop-symbol.functions c.args.symbols.now c.loop-symbol.symbol-index x (omega arith) item passed ∙ c.loop-symbol.invariant.put;
      fault = passed_fault c.args.records.now c.args.section.now c.args.symbols.now c.loop-symbol.symbol-index x (omega arith) item passed ∙ c.loop-symbol.invariant.fault;
    }

pub loop-symbol-preserved-then-not-is_index : goal.loop-symbol-preserved-then-not-is_index
loop-symbol-preserved-then-not-is_index c =
    let x = c.symbol-item.result in
    let item : x ≡ slice_index_or c.args.symbols.now c.loop-symbol.symbol-index x = search rules in
    let kept : is_program_symbol x ≡ true = search rules in
    let differs : is_index x.index (get c.args.last.now x.address) ≡ false = search rules in
    let clear : program_fault c.args.section.now x ≡ None = search rules in
    record {
      lasts = fewer c.args.last.now c.args.symbols.now c.loop-symbol.symbol-index x (omega arith) item c.loop-symbol.invariant.lasts;
      put = program_passed c.args.records.now c.args.section.now c.loop-symbol.functions c.args.last.now c.args.symbols.now c.loop-symbol.symbol-index x (omega arith) item kept c.loop-symbol.invariant.lasts differs ∙ c.loop-symbol.invariant.put;
      fault = next_fault c.args.records.now c.args.section.now c.args.symbols.now c.loop-symbol.symbol-index x (omega arith) item kept clear ∙ c.loop-symbol.invariant.fault;
    }

pub loop-symbol-preserved : goal.loop-symbol-preserved
loop-symbol-preserved c =
    let x = c.symbol-item.result in
    let item : x ≡ slice_index_or c.args.symbols.now c.loop-symbol.symbol-index x = search rules in
    let kept : is_program_symbol x ≡ true = search rules in
    let clear : program_fault c.args.section.now x ≡ None = search rules in
    record {
      lasts = fewer c.args.last.now c.args.symbols.now c.loop-symbol.symbol-index x (omega arith) item c.loop-symbol.invariant.lasts;
      put = next_put c.args.records.now c.args.section.now c.loop-symbol.functions c.insert.new.self c.in_ok-function.function c.args.symbols.now c.loop-symbol.symbol-index x (omega arith) item kept c.in_ok-function.ensures.function c.in_ok-insert.ensures.ok ∙ c.loop-symbol.invariant.put;
      fault = next_fault c.args.records.now c.args.section.now c.args.symbols.now c.loop-symbol.symbol-index x (omega arith) item kept clear ∙ c.loop-symbol.invariant.fault;
    }
