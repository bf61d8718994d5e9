use Rattle.std.proofs.Common.{◌≡◌, ℕ, sym, ap, ◌∙◌}
use Rattle.ebpf_reloc.proofs.Keys.{key_here}
use Rattle.ebpf_reloc.proofs.numbers.number_if.Goals as goal

pub returns-in-Some : goal.returns-in-Some
returns-in-Some c =
    let key : ℕ × ℕ = (c.args.section, c.args.address) in
    let is : c.in-Some.key.now ≡ key = ap (λ s. (s, c.in-Some.key.now.1)) c.if-key-section.true ∙ ap (λ a. (c.args.section, a)) c.if-key-address.true in
    let at = c.in-Some.ensures.lookup.3 in
    key_here c.args.keys.now key c.args.number c.requires at.0 (λ d. sym (at.1 d) ∙ is)
