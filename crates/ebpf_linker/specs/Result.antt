-- What linking gives: the functions in their order, the records, and the program.
use Rattle.std.specs.Prelude.{◌≡◌, ◌≢◌, ℕ, List, ◌∷◌, Some, ◌+◌, ◌-◌, ◌%◌, ◌^◌, Bool, false, ◌||◌}
use Rattle.std.specs.Prelude.{if◌then◌else◌, [], ◌++◌, map, length, Option, None, ◌≤◌}
use Rattle.ebpf_btf_ext.specs.declared.ext_infos.bpf_func_info.{bpf_func_info}
use Rattle.ebpf_btf_ext.specs.declared.ext_infos.bpf_line_info.{bpf_line_info}
use Rattle.ebpf_linker.specs.Faults.{checked_references, Faultless, has_some, first_line}
use Rattle.ebpf_linker.specs.Functions.{Nothing, Names, References, FunctionContent, Functions}
use Rattle.ebpf_linker.specs.Functions.{Among, Distinct, Reached, content_at, body, Linked, total}
use Rattle.ebpf_linker.specs.Order.{InKeyPathOrder}
use Rattle.ebpf_linker.specs.declared.body.LinkedProgram.{LinkedProgram}

-- ---- the functions that a program is linked with, in their order

-- each reached function once, in the order of their key paths
pub record IsOrder {K E : Type 0} (R : References K E) (p : K) (ks : List K) : Type 0 where
  pub once : Distinct ks
  pub reached : (k : K) → Among ks k → Reached R p k
  pub complete : (k : K) → Reached R p k → Among ks k
  pub resolved : (k : K) (x : ℕ) → Among (p ∷ ks) k → R k x ≢ Nothing
      → (m : K) × (R k x ≡ Names m) × Among ks m
  pub order : InKeyPathOrder R p ks

-- the program p is linked with the functions ks: those that its references reach, in their order;
-- there is no fault
pub record IsLayout {K E : Type 0} (F : Functions K E) (p : K) (ks : List K) : Type 0 where
  pub order : IsOrder F.reference p ks
  pub functions : (k : K) → Among ks k → (c : FunctionContent) × (F.content k ≡ Some c)
  pub faultless : Faultless F (checked_references F p) p

-- ---- the func info and line info of a linked program

-- the records of a function whose copy begins at a base
abbrev pub func_moved : ℕ → bpf_func_info → bpf_func_info
func_moved base record_ = record record_ { insn_off = base }

abbrev pub line_moved : ℕ → ℕ → bpf_line_info → bpf_line_info
line_moved first base line = record line { insn_off = line.insn_off - first + base }

module _ {K E : Type 0} where
  -- the records of copies, the first of which begins at a base
  abbrev pub func_records : Functions K E → ℕ → List K → List bpf_func_info
  func_records F base [] = []
  func_records F base (k ∷ ks) =
      map (func_moved base) (content_at F k).func_info
      ++ func_records F (base + length (body F k)) ks

  abbrev pub line_records : Functions K E → ℕ → List K → List bpf_line_info
  line_records F base [] = []
  line_records F base (k ∷ ks) =
      map (line_moved (first_line (content_at F k).line_info) base) (content_at F k).line_info
      ++ line_records F (base + length (body F k)) ks

  -- the program's own, then those of each copy
  abbrev pub linked_func_info : Functions K E → K → List K → List bpf_func_info
  linked_func_info F p ks = (content_at F p).func_info ++ func_records F (length (body F p)) ks

  abbrev pub linked_line_info : Functions K E → K → List K → List bpf_line_info
  linked_line_info F p ks = (content_at F p).line_info ++ line_records F (length (body F p)) ks

  -- one of the functions has line info records
  abbrev pub has_lines : Functions K E → List K → Bool
  has_lines F [] = false
  has_lines F (k ∷ ks) = has_some (content_at F k).line_info || has_lines F ks

-- how many records there are, the low 32 bits, where the count changes
abbrev pub count_if : {X : Type 0} → Bool → List X → Option ℕ
count_if changed records = if changed then Some (length records % 2 ^ 32) else None

-- ---- what linking gives

-- l is the program and each function that its references reach, in the order of their key paths; it
-- has their records, and is no longer than the program and all functions together
pub record IsProgram {K E : Type 0} (F : Functions K E) (p : K) (ks : List K) (l : LinkedProgram)
    : Type 0 where
  pub layout : IsLayout F p ks
  pub linked : Linked F p ks l.slots
  pub func_info : l.func_info ≡ linked_func_info F p ks
  pub line_info : l.line_info ≡ linked_line_info F p ks
  pub func_count : l.func_count ≡ count_if (has_some ks) l.func_info
  pub line_count : l.line_count ≡ count_if (has_lines F ks) l.line_info
  pub bound : (all : List K)
      → ((k : K) (c : FunctionContent) → F.content k ≡ Some c → Among all k)
      → length l.slots ≤ length (body F p) + total F all
