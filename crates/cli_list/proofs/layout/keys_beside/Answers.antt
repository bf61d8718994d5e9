use Rattle.std.proofs.Common.{◌≡◌, ◌++◌, Bool, true, not, ap, sym, ◌∙◌}
use Rattle.std.specs.BTreeSet.{contains}
use Rattle.std.specs.List.{filter}
use Rattle.std.specs.Map.{keys_of}
use Rattle.ebpf_base.specs.Maps.{key_cmp}
use Rattle.cli_list.proofs.Using.{kept_more}
use Rattle.ebpf_model.specs.Symbols.{FunctionKey}
use Rattle.cli_list.proofs.layout.keys_beside.Goals as goal

pub loop-key-preserved : goal.loop-key-preserved
loop-key-preserved c =
    let p : FunctionKey → Bool = λ key. not (contains key_cmp c.args.reached.now key) in
    let kept : p c.in-Some.key.now ≡ true = ap not (sym c.contains.ensures ∙ c.if-contains.false) in
    kept_more p c.in-Some.key.now (keys_of c.next.new.self) c.loop-key.keys.items c.push.new.self.items _ kept c.in_ok-push.ensures.items
    (sym (ap (λ es. c.loop-key.keys.items ++ filter p (keys_of es)) c.in-Some.ensures.steps) ∙ c.loop-key.invariant)
