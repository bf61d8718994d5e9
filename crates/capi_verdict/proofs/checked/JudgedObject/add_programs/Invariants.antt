use Rattle.std.proofs.Common.{◌≡◌, ◌++◌, drop, map}
use Rattle.std.specs.List.{flat_map}
use Rattle.capi_verdict.specs.ProgramReasons.{program_reasons}
use Rattle.capi_verdict.specs.Summaries.{fate_of}
use Rattle.capi_verdict.proofs.checked.JudgedObject.add_programs.Given as goal

-- with those of the programs that are left, all are there
abbrev pub invariant-loop-program : goal.invariant-loop-program
invariant-loop-program l = record {
  reasons : l.so_far.reasons ++ flat_map (program_reasons l.self.object.now l.self.kernel.now l.self.records.now) (drop l.program-index l.programs)
      ≡ l.fn.so_far.reasons ++ flat_map (program_reasons l.self.object.now l.self.kernel.now l.self.records.now) l.programs;
  fates : l.so_far.fates ++ map (fate_of l.self.object.now l.self.kernel.now) (drop l.program-index l.programs)
      ≡ l.fn.so_far.fates ++ map (fate_of l.self.object.now l.self.kernel.now) l.programs;
}
