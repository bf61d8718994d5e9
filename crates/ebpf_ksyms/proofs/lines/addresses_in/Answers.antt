use Rattle.std.proofs.Common.{sym, subst, ◌∙◌}
use Rattle.std.specs.Iterator.{Yields}
use Rattle.ebpf_base.specs.Maps.{lent_bytes}
use Rattle.ebpf_ksyms.specs.Addresses.{is_ksyms_memory}
use Rattle.ebpf_ksyms.specs.PrivateContracts.{value_named}
use Rattle.ebpf_ksyms.proofs.Reading.{first_known, lines_fault-none, match_then, no_lines, read-more, refused-here, some_names, tells-more, yields-push}
use Rattle.ebpf_ksyms.proofs.lines.addresses_in.Goals as goal

pub returns-then-is_empty-clause-ok : goal.returns-then-is_empty-clause-ok
returns-then-is_empty-clause-ok g c =
    no_lines g.I.Iterator.next_gives c.args.lines c.args.names.now (value_named c.in_ok-addresses.addresses) (sym c.is_empty.ensures ∙ c.if-is_empty.true) c.in_ok-addresses.ensures

pub loop-item-init : goal.loop-item-init
loop-item-init g c = record {
  read = lines_fault-none _;
  known = first_known (lent_bytes c.args.names.now) (value_named c.in_ok-addresses.addresses) c.in_ok-addresses.ensures;
}

pub loop-item-preserved : goal.loop-item-preserved
loop-item-preserved g c = record {
  read = read-more (lent_bytes c.args.names.now) c.loop-item.yielded c.in-Some.item (value_named c.loop-item.addresses) c.loop-item.invariant.read c.loop-item.invariant.known c.in-Ok.ensures.fault;
  known = tells-more (lent_bytes c.args.names.now) c.loop-item.yielded c.in-Some.item (value_named c.loop-item.addresses) c.loop-item.invariant.read c.loop-item.invariant.known (value_named c.add_item.new.addresses) c.in-Ok.ensures.ok;
}

pub returns-in-Err-clause-fault : goal.returns-in-Err-clause-fault
returns-in-Err-clause-fault g c =
    match_then (is_ksyms_memory c.in-Err.error)
    (λ h. record {
      items = c.loop-item.yielded;
      item = c.in-Some.item;
      rest = c.next.new.self;
      wanted = some_names c.args.names.now (sym c.is_empty.ensures ∙ c.if-is_empty.false);
      came = yields-push g.I.Iterator.next_gives c.args.lines c.loop-item.item-iterator c.next.new.self c.loop-item.yielded c.in-Some.item (subst (λ s. Yields g.I.Iterator.next_gives s c.loop-item.yielded c.loop-item.item-iterator) c.into_iter-item-iterator.ensures.into_iter_gives c.loop-item.yielded_by) c.in-Some.ensures.steps;
      before = c.loop-item.invariant.read;
      refused = refused-here (lent_bytes c.args.names.now) c.loop-item.yielded c.in-Some.item (value_named c.loop-item.addresses) c.loop-item.invariant.read c.loop-item.invariant.known c.in-Err.error h;
    })
    c.in-Err.ensures.fault
