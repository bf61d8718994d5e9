use Rattle.std.proofs.Common.{◌≡◌, ℕ, ◌+◌, ◌<◌, List, [], ◌∷◌, ◌++◌, length, replicate, true, false, rules, sym, ap, ◌∙◌, subst, arith, Some, None}
use Rattle.std.specs.Prelude.{slice_index_or, All, Err, Ok, Vec}
use Rattle.std.specs.declared.alloc.Global.{Global}
use Rattle.ebpf_linker.specs.declared.search.Frame.{Frame}
use Rattle.ebpf_linker.specs.Functions.{FunctionContent, Among}
use Rattle.ebpf_linker.specs.Numbered.{functions_by_number}
use Rattle.ebpf_linker.specs.Search.{Advanced, Search, search_at, checked_calls}
use Rattle.ebpf_linker.proofs.Searched.{State, step_of, advanced, started, less_left, left_in, unfound}
use Rattle.ebpf_linker.proofs.Counted.{counted, refused, found_all, counted_first}
use Rattle.ebpf_linker.proofs.Checked.{are_sorted, finds, content_read}
use Rattle.ebpf_linker.proofs.Unmarked.{found_within, set_among, stands_still}
use Rattle.ebpf_linker.proofs.search.search.Goals as goal

pub loop-top-init : goal.loop-top-init
loop-top-init c =
    let B = c.args.functions.now.bodies.now in
    let C = c.args.functions.now.references.now in
    let first : Frame = record { copy = 0; function = c.args.start; next = 0 } in
    let o : c.push.new.self.items ≡ c.args.start ∷ [] = c.in_ok-push.ensures.items ∙ ap (λ (u : List ℕ). u ++ c.args.start ∷ []) c.new-order.ensures.items in
    let s : c.push-2.new.self.items ≡ first ∷ [] = c.in_ok-push-2.ensures.items ∙ ap (λ (u : List Frame). u ++ first ∷ []) c.new-work_list.ensures.items in
    let fs : c.in_ok-is_found.is_found.items ≡ replicate (length B) false = search rules in
    record {
      state = started (length B) (checked_calls B C c.args.start) c.args.start _ _ _ c.requires o fs s;
      counted = counted_first (functions_by_number B C) c.args.start _ c.push.new.self.items o (ap (λ (u : FunctionContent). length u.slots) (sym (content_read B c.args.start _ c.requires)));
    }

pub finish-order-requires : goal.finish-order-requires
finish-order-requires c =
    let B = c.args.functions.now.bodies.now in
    let C = c.args.functions.now.references.now in
    let p = c.args.start in
    let F = functions_by_number B C in
    let s = search_at c.loop-top.progress.order.items c.loop-top.progress.is_found.items c.pop.new.self.items c.loop-top.progress.used in
    let t = search_at c.advance.new.self.order.items c.advance.new.self.is_found.items c.advance.new.self.work_list.items c.advance.new.self.used in
    let top = c.in-Some.top in
    let a = step_of F (checked_calls B C p) top s t (Some c.in-Some-step.fault) (subst (Advanced F (checked_calls B C p) top s t) c.in-Some-step.is c.in_ok-step.ensures) in
    let same = stands_still F (checked_calls B C p) top s t c.in-Some-step.fault a in
    record {
      within = subst (λ (u : Search). All (λ k. k < length u.is_found) u.order) (sym same) (found_within c.loop-top.invariant.state);
      marked = subst (λ (u : Search). (k : ℕ) → slice_index_or u.is_found k false ≡ true → Among u.order k) (sym same) (set_among c.loop-top.invariant.state);
    }

pub finish-requires : goal.finish-requires
finish-requires c = record { within = found_within c.loop-top.invariant.state; marked = set_among c.loop-top.invariant.state }

pub returns-in-Some-step : goal.returns-in-Some-step
returns-in-Some-step c =
    let B = c.args.functions.now.bodies.now in
    let C = c.args.functions.now.references.now in
    let p = c.args.start in
    let F = functions_by_number B C in
    let s = search_at c.loop-top.progress.order.items c.loop-top.progress.is_found.items c.pop.new.self.items c.loop-top.progress.used in
    let t = search_at c.advance.new.self.order.items c.advance.new.self.is_found.items c.advance.new.self.work_list.items c.advance.new.self.used in
    let top = c.in-Some.top in
    let st = subst (State (length B) (checked_calls B C p) p c.loop-top.progress.order.items c.loop-top.progress.is_found.items) c.in-Some.ensures.items c.loop-top.invariant.state in
    let a = step_of F (checked_calls B C p) top s t (Some c.in-Some-step.fault) (subst (Advanced F (checked_calls B C p) top s t) c.in-Some-step.is c.in_ok-step.ensures) in
    finds B C p (Err c.in-Some-step.fault) (refused F (length B) (checked_calls B C p) p (are_sorted B p (length B) C c.args.functions.now.sound) s t top c.in-Some-step.fault st c.loop-top.invariant.counted a)

pub loop-top-smaller : goal.loop-top-smaller
loop-top-smaller c =
    let B = c.args.functions.now.bodies.now in
    let C = c.args.functions.now.references.now in
    let p = c.args.start in
    let F = functions_by_number B C in
    let s = search_at c.loop-top.progress.order.items c.loop-top.progress.is_found.items c.pop.new.self.items c.loop-top.progress.used in
    let t = search_at c.advance.new.self.order.items c.advance.new.self.is_found.items c.advance.new.self.work_list.items c.advance.new.self.used in
    let top = c.in-Some.top in
    let a = step_of F (checked_calls B C p) top s t None (subst (Advanced F (checked_calls B C p) top s t) c.in_default-step.is c.in_ok-step.ensures) in
    let less = less_left F (length B) (checked_calls B C p) top s t (are_sorted B p (length B) C c.args.functions.now.sound) c.loop-top.invariant.state.flags a in
    subst (λ (u : List Frame). unfound c.advance.new.self.is_found.items (checked_calls B C p) 0 + left_in (checked_calls B C p) c.advance.new.self.work_list.items < unfound c.loop-top.progress.is_found.items (checked_calls B C p) 0 + left_in (checked_calls B C p) u) (sym c.in-Some.ensures.items) less

pub loop-top-preserved : goal.loop-top-preserved
loop-top-preserved c =
    let B = c.args.functions.now.bodies.now in
    let C = c.args.functions.now.references.now in
    let p = c.args.start in
    let F = functions_by_number B C in
    let s = search_at c.loop-top.progress.order.items c.loop-top.progress.is_found.items c.pop.new.self.items c.loop-top.progress.used in
    let t = search_at c.advance.new.self.order.items c.advance.new.self.is_found.items c.advance.new.self.work_list.items c.advance.new.self.used in
    let top = c.in-Some.top in
    let st = subst (State (length B) (checked_calls B C p) p c.loop-top.progress.order.items c.loop-top.progress.is_found.items) c.in-Some.ensures.items c.loop-top.invariant.state in
    let a = step_of F (checked_calls B C p) top s t None (subst (Advanced F (checked_calls B C p) top s t) c.in_default-step.is c.in_ok-step.ensures) in
    record {
      state = advanced (length B) (checked_calls B C p) p F (are_sorted B p (length B) C c.args.functions.now.sound) s t top st a;
      counted = counted F (length B) (checked_calls B C p) p s t top c.loop-top.invariant.counted a;
    }

pub returns : goal.returns
returns c =
    let B = c.args.functions.now.bodies.now in
    let C = c.args.functions.now.references.now in
    let p = c.args.start in
    let empty : length c.loop-top.progress.work_list.items ≡ 0 = omega (arith, c.loop-top.progress.work_list.ok.0, c.in_default.ensures.cases.0) in
    let (ks, is, is_found) = found_all (functions_by_number B C) (length B) (checked_calls B C p) p c.loop-top.progress.order.items c.loop-top.progress.is_found.items c.loop-top.progress.work_list.items c.loop-top.progress.used empty c.loop-top.invariant.state c.loop-top.invariant.counted in
    finds B C p (Ok c.finish.result) (ks, ap (λ (v : Vec ℕ Global). v.items) c.finish.ensures ∙ is, is_found)
