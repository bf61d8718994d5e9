use Rattle.std.proofs.Common.{subst}
use Rattle.std.specs.Prelude.{MatchBool}
use Rattle.std.specs.List.{AllZip}
use Rattle.cli_list.specs.Listings.{AreLayouts, IsOfOne, WritesExterns}
use Rattle.ebpf_object.proofs.Staging.{of_prepared}
use Rattle.cli_list.proofs.listing.layouts_of.Goals as goal

pub returns : goal.returns
returns c =
    let before = c.args.object.now in
    let after = c.write_externs.new.object in
    let is_written = c.in_ok-is_written.is_written in
    of_prepared c.layouts_if.result
    (λ made each. record {
      is_written = is_written;
      written = subst (λ settings. WritesExterns before settings after is_written) c.as_slice.ensures c.in_ok-is_written.ensures;
      each = subst (λ programs. MatchBool is_written (AreLayouts after programs made) (AllZip IsOfOne programs made)) c.as_slice-2.ensures.value each;
    })
    c.layouts_if.ensures
