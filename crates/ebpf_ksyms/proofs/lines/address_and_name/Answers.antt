use Rattle.std.proofs.Common.{◌≡◌, [], ◌∷◌, Some, None, ap, sym, ◌∙◌, refl}
use Rattle.std.specs.Str.Iter.{split_ascii_whitespace_text}
use Rattle.ebpf_ksyms.specs.Addresses.{words}
use Rattle.ebpf_ksyms.proofs.Reading.{words-step}
use Rattle.ebpf_ksyms.proofs.lines.address_and_name.Goals as goal

pub returns-in_err-address : goal.returns-in_err-address
returns-in_err-address c =
    let first : words c.args.line.now ≡ [] = ap words (sym c.split_ascii_whitespace-words.ensures.text) ∙ words-step (split_ascii_whitespace_text c.split_ascii_whitespace-words.result) (split_ascii_whitespace_text c.next.new.self) None c.in_err-address.ensures.steps in
    rw (c.from_residual.ensures, first) refl

pub returns-in_err-next : goal.returns-in_err-next
returns-in_err-next c =
    let first : words c.args.line.now ≡ c.in_ok-address.address.now ∷ words (split_ascii_whitespace_text c.next.new.self) = ap words (sym c.split_ascii_whitespace-words.ensures.text) ∙ words-step (split_ascii_whitespace_text c.split_ascii_whitespace-words.result) (split_ascii_whitespace_text c.next.new.self) (Some c.in_ok-address.address) c.in_ok-address.ensures.steps in
    let second : words (split_ascii_whitespace_text c.next.new.self) ≡ [] = words-step (split_ascii_whitespace_text c.next.new.self) (split_ascii_whitespace_text c.next-2.new.self) None c.in_err-next.ensures.steps in
    rw (c.from_residual-in_err-next.ensures, first, second) refl

pub returns-in_err-name : goal.returns-in_err-name
returns-in_err-name c =
    let first : words c.args.line.now ≡ c.in_ok-address.address.now ∷ words (split_ascii_whitespace_text c.next.new.self) = ap words (sym c.split_ascii_whitespace-words.ensures.text) ∙ words-step (split_ascii_whitespace_text c.split_ascii_whitespace-words.result) (split_ascii_whitespace_text c.next.new.self) (Some c.in_ok-address.address) c.in_ok-address.ensures.steps in
    let second : words (split_ascii_whitespace_text c.next.new.self) ≡ c.in_ok-next.field-0.now ∷ words (split_ascii_whitespace_text c.next-2.new.self) = words-step (split_ascii_whitespace_text c.next.new.self) (split_ascii_whitespace_text c.next-2.new.self) (Some c.in_ok-next.field-0) c.in_ok-next.ensures.steps in
    let third : words (split_ascii_whitespace_text c.next-2.new.self) ≡ [] = words-step (split_ascii_whitespace_text c.next-2.new.self) (split_ascii_whitespace_text c.next-3.new.self) None c.in_err-name.ensures.steps in
    rw (c.from_residual-in_err-name.ensures, first, second, third) refl

pub returns : goal.returns
returns c =
    let first : words c.args.line.now ≡ c.in_ok-address.address.now ∷ words (split_ascii_whitespace_text c.next.new.self) = ap words (sym c.split_ascii_whitespace-words.ensures.text) ∙ words-step (split_ascii_whitespace_text c.split_ascii_whitespace-words.result) (split_ascii_whitespace_text c.next.new.self) (Some c.in_ok-address.address) c.in_ok-address.ensures.steps in
    let second : words (split_ascii_whitespace_text c.next.new.self) ≡ c.in_ok-next.field-0.now ∷ words (split_ascii_whitespace_text c.next-2.new.self) = words-step (split_ascii_whitespace_text c.next.new.self) (split_ascii_whitespace_text c.next-2.new.self) (Some c.in_ok-next.field-0) c.in_ok-next.ensures.steps in
    let third : words (split_ascii_whitespace_text c.next-2.new.self) ≡ c.in_ok-name.name.now ∷ words (split_ascii_whitespace_text c.next-3.new.self) = words-step (split_ascii_whitespace_text c.next-2.new.self) (split_ascii_whitespace_text c.next-3.new.self) (Some c.in_ok-name.name) c.in_ok-name.ensures.steps in
    rw (first, second, third) refl
