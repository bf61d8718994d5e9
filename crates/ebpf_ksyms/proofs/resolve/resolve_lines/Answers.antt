use Rattle.std.proofs.Common.{◌≡◌, None, Some, ap, sym, subst, ◌∙◌}
use Rattle.std.specs.FinMap.{entries}
use Rattle.std.specs.Option.{option_copied}
use Rattle.std.proofs.lemmas.Result.{err_from_is_err_and}
use Rattle.ebpf_base.specs.Faults.{first_some}
use Rattle.ebpf_base.specs.Maps.{lent_bytes}
use Rattle.ebpf_ksyms.specs.PrivateContracts.{externs_from, value_named, AreRead, StopsAt, known_at, typeless_as, typeless_refused, typed_as, typed_refused}
use Rattle.ebpf_ksyms.specs.Externs.{IsResolutionFault, IsResolved, kernel_ids_of, renewed, wanted_names}
use Rattle.ebpf_ksyms.specs.Addresses.{is_ksyms_memory}
use Rattle.ebpf_ksyms.proofs.Reading.{match_then}
use Rattle.ebpf_ksyms.proofs.Resolving.{at_line, at_name, at_type, is_resolved, stays}
use Rattle.ebpf_ksyms.proofs.resolve.resolve_lines.Goals as goal

pub returns-in_default-clause-ok : goal.returns-in_default-clause-ok
returns-in_default-clause-ok g c =
    let all : c.deref.result.now ≡ entries c.args.externs.now = c.deref.ensures.value ∙ c.in_ok-all.ensures in
    subst (λ b. IsResolved g.I.Iterator.next_gives c.args.lines (option_copied b) (option_copied c.args.kernel_btf) c.args.externs.now c.in_ok-externs_from.field-0) (sym c.in_default.is)
    (subst (λ m. IsResolved g.I.Iterator.next_gives c.args.lines None (option_copied c.args.kernel_btf) c.args.externs.now m) (sym (c.in_ok-externs_from.ensures ∙ ap externs_from all))
    (stays g.I.Iterator.next_gives c.args.lines (option_copied c.args.kernel_btf) c.args.externs.now))

pub returns-in_err-typed-clause-fault : goal.returns-in_err-typed-clause-fault
returns-in_err-typed-clause-fault g c =
    let kernel = option_copied c.args.kernel_btf in
    let local = c.in-Some.local.now in
    let all : c.deref-2.result.now ≡ entries c.args.externs.now = c.deref-2.ensures.value ∙ c.in_ok-all.ensures in
    let p = err_from_is_err_and c.from_residual-in_err-typed.result c.from_residual-in_err-typed.ensures.1 in
    rw (p.1, p.2) (match_then (is_ksyms_memory c.in_err-typed.field-0.0)
    (λ h. subst (λ b. IsResolutionFault g.I.Iterator.next_gives c.args.lines (option_copied b) kernel c.args.externs.now c.in_err-typed.field-0.0) (sym c.in-Some.is)
    (at_type g.I.Iterator.next_gives c.args.lines kernel c.args.externs.now local c.in_err-typed.field-0.0 (sym (ap (first_some (typed_refused (kernel_ids_of kernel) local kernel)) all) ∙ h)))
    c.in_err-typed.ensures.fault)

pub returns-in_err-addresses-clause-fault : goal.returns-in_err-addresses-clause-fault
returns-in_err-addresses-clause-fault g c =
    let kernel = option_copied c.args.kernel_btf in
    let local = c.in-Some.local.now in
    let all : c.deref-2.result.now ≡ entries c.args.externs.now = c.deref-2.ensures.value ∙ c.in_ok-all.ensures in
    let types : first_some (typed_refused (kernel_ids_of kernel) local kernel) (entries c.args.externs.now) ≡ None = sym (ap (first_some (typed_refused (kernel_ids_of kernel) local kernel)) all) ∙ c.in_ok-typed.ensures.fault in
    let names : lent_bytes c.deref-4.result.now ≡ wanted_names (entries c.args.externs.now) = ap lent_bytes c.deref-4.ensures.value ∙ c.in_ok-wanted_names.ensures ∙ ap wanted_names (c.deref-3.ensures.value ∙ c.in_ok-all.ensures) in
    let p = err_from_is_err_and c.from_residual-in_err-addresses.result c.from_residual-in_err-addresses.ensures.1 in
    rw (p.1, p.2) (match_then (is_ksyms_memory c.in_err-addresses.field-0.0)
    (λ h. subst (λ b. IsResolutionFault g.I.Iterator.next_gives c.args.lines (option_copied b) kernel c.args.externs.now c.in_err-addresses.field-0.0) (sym c.in-Some.is)
    (at_line g.I.Iterator.next_gives c.args.lines kernel c.args.externs.now local c.in_err-addresses.field-0.0 types
    (subst (λ ns. StopsAt g.I.Iterator.next_gives c.args.lines ns c.in_err-addresses.field-0.0) names h)))
    c.in_err-addresses.ensures.fault)

pub returns-in_err-after-clause-fault : goal.returns-in_err-after-clause-fault
returns-in_err-after-clause-fault g c =
    let kernel = option_copied c.args.kernel_btf in
    let local = c.in-Some.local.now in
    let all : c.deref-2.result.now ≡ entries c.args.externs.now = c.deref-2.ensures.value ∙ c.in_ok-all.ensures in
    let types : first_some (typed_refused (kernel_ids_of kernel) local kernel) (entries c.args.externs.now) ≡ None = sym (ap (first_some (typed_refused (kernel_ids_of kernel) local kernel)) all) ∙ c.in_ok-typed.ensures.fault in
    let names : lent_bytes c.deref-4.result.now ≡ wanted_names (entries c.args.externs.now) = ap lent_bytes c.deref-4.ensures.value ∙ c.in_ok-wanted_names.ensures ∙ ap wanted_names (c.deref-3.ensures.value ∙ c.in_ok-all.ensures) in
    let typed : c.deref-5.result.now ≡ renewed (typed_as (kernel_ids_of kernel) local kernel) (entries c.args.externs.now) = c.deref-5.ensures.value ∙ c.in_ok-typed.ensures.stands ∙ ap (renewed (typed_as (kernel_ids_of kernel) local kernel)) all in
    let p = err_from_is_err_and c.from_residual-in_err-after.result c.from_residual-in_err-after.ensures.1 in
    rw (p.1, p.2) (match_then (is_ksyms_memory c.in_err-after.field-0.0)
    (λ h. subst (λ b. IsResolutionFault g.I.Iterator.next_gives c.args.lines (option_copied b) kernel c.args.externs.now c.in_err-after.field-0.0) (sym c.in-Some.is)
    (at_name g.I.Iterator.next_gives c.args.lines kernel c.args.externs.now local c.in_err-after.field-0.0 (value_named c.in_ok-addresses.addresses) types
    (subst (λ ns. AreRead g.I.Iterator.next_gives c.args.lines ns (value_named c.in_ok-addresses.addresses)) names c.in_ok-addresses.ensures.ok)
    (sym (ap (first_some (typeless_refused (known_at (value_named c.in_ok-addresses.addresses)))) typed) ∙ h)))
    c.in_err-after.ensures.fault)

pub returns-clause-ok : goal.returns-clause-ok
returns-clause-ok g c =
    let kernel = option_copied c.args.kernel_btf in
    let local = c.in-Some.local.now in
    let all : c.deref-2.result.now ≡ entries c.args.externs.now = c.deref-2.ensures.value ∙ c.in_ok-all.ensures in
    let types : first_some (typed_refused (kernel_ids_of kernel) local kernel) (entries c.args.externs.now) ≡ None = sym (ap (first_some (typed_refused (kernel_ids_of kernel) local kernel)) all) ∙ c.in_ok-typed.ensures.fault in
    let names : lent_bytes c.deref-4.result.now ≡ wanted_names (entries c.args.externs.now) = ap lent_bytes c.deref-4.ensures.value ∙ c.in_ok-wanted_names.ensures ∙ ap wanted_names (c.deref-3.ensures.value ∙ c.in_ok-all.ensures) in
    let typed : c.deref-5.result.now ≡ renewed (typed_as (kernel_ids_of kernel) local kernel) (entries c.args.externs.now) = c.deref-5.ensures.value ∙ c.in_ok-typed.ensures.stands ∙ ap (renewed (typed_as (kernel_ids_of kernel) local kernel)) all in
    subst (λ b. IsResolved g.I.Iterator.next_gives c.args.lines (option_copied b) kernel c.args.externs.now c.in_ok-externs_from-2.field-0) (sym c.in-Some.is)
    (subst (λ m. IsResolved g.I.Iterator.next_gives c.args.lines (Some local) kernel c.args.externs.now m) (sym c.in_ok-externs_from-2.ensures)
    (is_resolved g.I.Iterator.next_gives c.args.lines kernel c.args.externs.now local (value_named c.in_ok-addresses.addresses) c.deref-6.result.now types
    (subst (λ ns. AreRead g.I.Iterator.next_gives c.args.lines ns (value_named c.in_ok-addresses.addresses)) names c.in_ok-addresses.ensures.ok)
    (sym (ap (first_some (typeless_refused (known_at (value_named c.in_ok-addresses.addresses)))) typed) ∙ c.in_ok-after.ensures.fault)
    (c.deref-6.ensures.value ∙ c.in_ok-after.ensures.stands ∙ ap (renewed (typeless_as (known_at (value_named c.in_ok-addresses.addresses)))) typed)))
