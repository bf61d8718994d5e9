use Rattle.std.proofs.Common.{◌≡◌, ℕ, List, Option, None, subst}
use Rattle.std.specs.Prelude.{IfOk, option_map}
use Rattle.ebpf_base.specs.Faults.{Refuses, first_in, or_else}
use Rattle.ebpf_elf.specs.Faults.{faults}
use Rattle.ebpf_elf.specs.declared.error.ElfReadError.{ElfReadError}
use Rattle.ebpf_exceptions.specs.Callbacks.{callbacks_by, found_fault, is_exception_memory}
use Rattle.ebpf_exceptions.specs.declared.error.ExceptionError.TheVariants.{ElfError}
use Rattle.ebpf_exceptions.proofs.complete.callbacks_in.Goals as goal

pub returns-in-Ok-clause-callbacks : goal.returns-in-Ok-clause-callbacks
returns-in-Ok-clause-callbacks c =
    subst (λ (bytes : List ℕ). IfOk c.callbacks_by.result (λ found. found ≡ callbacks_by bytes c.args.programs.now c.args.tags.now)) c.in-Ok.ensures.file c.callbacks_by.ensures.callbacks

pub returns-in-Ok-clause-fault : goal.returns-in-Ok-clause-fault
returns-in-Ok-clause-fault c =
    let bytes = c.args.file.now in
    let programs = c.args.programs.now in
    let tags = c.args.tags.now in
    let none : ◌≡◌ {A = Option ElfReadError} None (first_in (faults bytes)) = c.in-Ok.ensures.fault in
    subst (λ (file : List ℕ). Refuses is_exception_memory c.callbacks_by.result (or_else (option_map ElfError (first_in (faults bytes))) (found_fault file programs tags))) c.in-Ok.ensures.file
    (subst (λ (fault : Option ElfReadError). Refuses is_exception_memory c.callbacks_by.result (or_else (option_map ElfError fault) (found_fault c.in-Ok.file programs tags))) none c.callbacks_by.ensures.fault)
